-- A record is emptied, whose file is no longer in the tree.
use Rattle.std.proofs.Common.{◌≡◌, ◌∙◌, ◌||◌, ◌<◌, ℕ, Bool, true, false, List, [], ◌∷◌, Option, Some}
use Rattle.std.proofs.Common.{None, ap, arith, drop, ext_get_or, get_or, length, map, refl, set, subst}
use Rattle.std.proofs.Common.{suc, sym, zero}
use Rattle.std.specs.Prelude.{is_some, nat_lt}
use Rattle.std.specs.List.{list_all, list_any}
use Rattle.std.proofs.Math.Logic.{∥∥₁_elim}
use Rattle.std.proofs.Props.{props}
use Rattle.std.proofs.lemmas.Bool.{and_parts, or_from, or_parts, true≢false}
use Rattle.cfs_block.specs.BlockImages.{BlockStep}
use Rattle.cfs_core.specs.declared.inode_core.Core.{Core}
use Rattle.cfs_core.specs.declared.state.State.TheVariants as states
use Rattle.cfs_core.specs.declared.track.Track.{Track}
use Rattle.cfs_core.specs.Words.{track}
use Rattle.cfs_file.specs.declared.sizes.TheConstants.{FILE_BLOCKS}
use Rattle.cfs_job.specs.Views.{JobView}
use Rattle.cfs_medium.specs.World.{World}
use Rattle.cfs_pmem.specs.declared.trace.Asked.{Asked}
use Rattle.cfs_pmem.specs.Images.{IsImage, Seen, WordStep, words_of}
use Rattle.cfs_pmem.proofs.ImageLemmas.{now_is_image}
use Rattle.cfs_tracker.specs.declared.cell.Cell.{Cell}
use Rattle.cfs_tracker.specs.declared.cell.Cell.TheVariants as kinds
use Rattle.cfs_tracker.specs.declared.in_doubt.InDoubt.{InDoubt}
use Rattle.cfs_tracker.specs.declared.pending.Pending.{Pending}
use Rattle.cfs_tracker.specs.declared.reading.Reading.{Reading}
use Rattle.cfs_tracker.specs.Cells.{cell_at}
use Rattle.cfs_tracker.specs.Follows.{StandsAt}
use Rattle.cfs_tracker.specs.Purge.{is_away, is_in_use}
use Rattle.cfs_tracker.specs.View.{entry_at, read_at, reading_place}
use Rattle.cfs_inode.specs.declared.size_answer.SizeAnswer.{SizeAnswer}
use Rattle.cfs_inode.specs.declared.size_answer.SizeAnswer.TheVariants as went
use Rattle.cfs_inode.specs.Finishing.{is_right}
use Rattle.cfs_inode.specs.Purges.{IsZero, PurgeFailing, PurgeFails, Purges, TellsZero, Untags}
use Rattle.cfs_inode.specs.Purges.{Zeroes, failed, freed, keeping, untagging, writing}
use Rattle.cfs_inode.specs.Stands.{AllStand, IsAtRest}
use Rattle.cfs_inode.specs.Trims.{with_block_cell}
use Rattle.cfs_inode.specs.View.{Held, StateView}
use Rattle.cfs_inode.proofs.Purges.{standing-tell}
use Rattle.cfs_active.specs.Known.{IsActive}
use Rattle.cfs_active.specs.View.{ActiveView}
use Rattle.cfs_granted.specs.declared.reader.Reader.{Reader}
use Rattle.cfs_granted.specs.Clean.{IsClean}
use Rattle.cfs_granted.specs.Ending.{IsEnding}
use Rattle.cfs_granted.specs.Granted.{IsGranted, does_doubt_pass}
use Rattle.cfs_granted.specs.Lending.{IsWithJobs, holds}
use Rattle.cfs_granted.specs.Readers.{reader_place}
use Rattle.cfs_granted.specs.Rows.{Rows, first_number, stands}
use Rattle.cfs_granted.proofs.Grantings.{sized-same}
use Rattle.cfs_granted.proofs.Readings.{some-none}

-- ---- the life is over

-- no grant stands
none-stands : (rows : Rows) → first_number rows ≡ None → (n : ℕ) → stands n rows ≡ false
none-stands [] none n = refl
none-stands (None ∷ rows) none n = none-stands rows none n
none-stands (Some grant ∷ rows) none n = absurd (some-none grant.number none)

-- so nothing is under one
none-pass : {X : Type 0} (test : X → Bool) (xs : List X) → ((x : X) → test x ≡ false) →
    list_all test xs ≡ true → xs ≡ []
none-pass test [] fails all = refl
none-pass test (x ∷ xs) fails all =
    absurd (true≢false (sym (and_parts (test x) (list_all test xs) all).0 ∙ fails x))

none-doubt : {D : Type 0} (test : ℕ → Bool) (doubt : Option (InDoubt D)) →
    ((n : ℕ) → test n ≡ false) → does_doubt_pass test doubt ≡ true → doubt ≡ None
none-doubt test None fails here = refl
none-doubt test (Some doubt) fails here = absurd (true≢false (sym here ∙ fails doubt.grant))

none-read : (readers : List Reader) (reads : List Reading) → readers ≡ [] →
    map reader_place readers ≡ map reading_place reads → reads ≡ []
none-read readers [] none same = refl
none-read readers (read ∷ reads) none same =
    let long : length (map reader_place readers) ≡ 0 = ap (λ rs. length (map reader_place rs)) none in
    absurd (omega (arith, long, ap (λ ns. length ns) same))

-- and no job is out
none-out : (ino : ℕ) (jobs : List JobView) (core : Core) (world : World) →
    AllStand ino jobs core world →
    ((place : ℕ) → (track core.tracks place).state ≡ states.Closed) → length jobs ≡ 0
none-out ino [] core world all closed = refl
none-out ino (job ∷ jobs) core world all closed =
    absurd (clash _ (sym (closed job.place) ∙ all.0.state))
  where
    clash : (job : _) → states.Closed ≡ states.Out job → ⊥
    clash job is = cc

empty-list : {X : Type 0} (xs : List X) → length xs ≡ 0 → xs ≡ []
empty-list [] none = refl
empty-list (x ∷ xs) none = absurd (omega (arith, none))

not-away : (ino block : ℕ) (cell : Cell (Seen BlockStep)) → IsAtRest ino block cell →
    ((place : ℕ) → cell ≡ kinds.Lent place → ⊥) → is_away cell ≡ false
not-away ino block kinds.Hole rest lent = refl
not-away ino block (kinds.Home seen) rest lent = refl
not-away ino block (kinds.Unsure seen) rest lent = refl
not-away ino block (kinds.Lent place) rest lent = absurd (lent place refl)
not-away ino block (kinds.Moving is_sure) rest lent = absurd rest

any-none : (cells : List (Cell (Seen BlockStep))) →
    ((block : ℕ) → block < length cells → is_away (cell_at cells block) ≡ false) →
    list_any (λ cell. is_away cell) cells ≡ false
any-none [] each = refl
any-none (cell ∷ cells) each =
    or_from (is_away cell) (list_any (λ c. is_away c) cells) (each 0 (omega arith))
    (any-none cells (λ block less. each (suc block) (omega (arith, less))))

-- where nothing is pending all is closed
closed-at : (place : ℕ) (entries : List (Pending Held)) (reads : List Reading) (t : Track) →
    entries ≡ [] → reads ≡ [] → StandsAt (entry_at entries place) (read_at reads place) t →
    t.state ≡ states.Closed
closed-at place [] [] t no_entry no_read stands = stands
closed-at place [] (read ∷ reads) t no_entry no_read stands =
    absurd (omega (arith, ap (λ rs. length rs) no_read))
closed-at place (entry ∷ entries) reads t no_entry no_read stands =
    absurd (omega (arith, ap (λ es. length es) no_entry))

-- a tracker of which this holds is not used
not-used : (state : StateView) → nat_lt 0 (length state.tracker.entries) ≡ false →
    nat_lt 0 (length state.tracker.reads) ≡ false → is_some state.tracker.doubt ≡ false →
    list_any (λ c. is_away c) state.tracker.cells ≡ false → is_in_use state.tracker ≡ false
not-used state one two three four =
    let away = list_any (λ c. is_away c) state.tracker.cells in
    or_from (nat_lt 0 (length state.tracker.entries))
    (nat_lt 0 (length state.tracker.reads) || (is_some state.tracker.doubt || away)) one
    (or_from (nat_lt 0 (length state.tracker.reads)) (is_some state.tracker.doubt || away) two
    (or_from (is_some state.tracker.doubt) away three four))

pub record IsOver (active : ActiveView) : Type 0 where
  pub ending : IsEnding active.state
  pub jobs : active.jobs ≡ []

pub life-ends : (rows : Rows) (readers : List Reader) (active : ActiveView) →
    first_number rows ≡ None → IsGranted rows readers active.state → IsWithJobs active →
    ∥ IsActive active.state active.jobs ∥₁ → IsOver active
life-ends rows readers active none granted lent known =
    let fails = none-stands rows none in
    let state = active.state in
    let entries = none-pass (λ e. stands e.grant rows) state.tracker.entries
    (λ e. fails e.grant) granted.entries in
    let readers_none = none-pass (λ (r : Reader). stands r.grant rows) readers
    (λ r. fails r.grant) granted.reads in
    let reads = none-read readers state.tracker.reads readers_none granted.places in
    let doubt = none-doubt (λ n. stands n rows) state.tracker.doubt fails granted.doubt in
    let out : length active.jobs ≡ 0 =
    ∥∥₁_elim known (hlevel props) (λ k.
    none-out state.ino active.jobs k.core k.world k.together.out
    (λ place. closed-at place state.tracker.entries state.tracker.reads
    (track k.core.tracks place) entries reads (k.together.stands.follows.entries place))) in
    let jobs = empty-list active.jobs out in
    let cells : list_any (λ cell. is_away cell) state.tracker.cells ≡ false =
    ∥∥₁_elim known (hlevel props) (λ k.
    any-none state.tracker.cells (λ block less.
    let within : block < FILE_BLOCKS = omega (arith, less, k.together.stands.follows.many) in
    not-away state.ino block (cell_at state.tracker.cells block)
    (k.together.stands.rest block within)
    (λ place is. true≢false (sym (lent.each block place is)
    ∙ ap (λ js. list_any (λ j. holds block j) js) jobs)))) in
    record {
      ending = record {
        unused = not-used state (ap (λ es. nat_lt 0 (length es)) entries)
            (ap (λ rs. nat_lt 0 (length rs)) reads) (ap (λ d. is_some d) doubt) cells;
        tells = ∥∥₁_elim known (hlevel props)
            (λ k. standing-tell state k.core k.world k.together.stands);
        word = granted.word;
      };
      jobs = jobs;
    }

-- ---- one step

any-set : (cells : List (Cell (Seen BlockStep))) (at : ℕ) (cell : Cell (Seen BlockStep)) →
    is_away cell ≡ false → list_any (λ c. is_away c) cells ≡ false →
    list_any (λ c. is_away c) (set cells at cell) ≡ false
any-set [] at cell not none = none
any-set (x ∷ xs) zero cell not none =
    or_from (is_away cell) (list_any (λ c. is_away c) xs) not
    (or_parts (is_away x) (list_any (λ c. is_away c) xs) none).1
any-set (x ∷ xs) (suc at) cell not none =
    let parts = or_parts (is_away x) (list_any (λ c. is_away c) xs) none in
    or_from (is_away x) (list_any (λ c. is_away c) (set xs at cell)) parts.0
    (any-set xs at cell not parts.1)

unused-with : (state : StateView) (at : ℕ) (cell : Cell (Seen BlockStep)) →
    is_away cell ≡ false → is_in_use state.tracker ≡ false →
    is_in_use (with_block_cell at cell state).tracker ≡ false
unused-with state at cell not unused =
    let away = list_any (λ c. is_away c) state.tracker.cells in
    let one = or_parts (nat_lt 0 (length state.tracker.entries))
    (nat_lt 0 (length state.tracker.reads) || (is_some state.tracker.doubt || away)) unused in
    let two = or_parts (nat_lt 0 (length state.tracker.reads))
    (is_some state.tracker.doubt || away) one.1 in
    let three = or_parts (is_some state.tracker.doubt) away two.1 in
    not-used (with_block_cell at cell state) one.0 two.0 three.0
    (any-set state.tracker.cells at cell not three.1)

ends-with : (state : StateView) (new : StateView) (at : ℕ) (cell : Cell (Seen BlockStep)) →
    is_away cell ≡ false → new ≡ with_block_cell at cell state → TellsZero new → IsEnding state →
    IsEnding new
ends-with state new at cell not is tells known = record {
  unused = ap (λ (s : StateView). is_in_use s.tracker) is
      ∙ unused-with state at cell not known.unused;
  tells = tells;
  word = ap (λ (s : StateView). length (words_of s.size)) is ∙ known.word;
}

-- a block is free, or its tag or the size word failed
pub freed-ends : (obeys words keeps : Bool) (block : Seen BlockStep) (asked_old : List Asked)
    (old : StateView) (asked_new : List Asked) (new : StateView) →
    Purges words obeys keeps (freed block) asked_old old asked_new new → TellsZero new →
    IsEnding old → IsEnding new
freed-ends obeys words keeps block asked_old old asked_new new did tells known =
    ends-with old new did.0 kinds.Hole refl did.2 tells known

fails-end : (words obeys keeps : Bool) (at : PurgeFailing) (asked_old : List Asked)
    (old : StateView) (asked_new : List Asked) (new : StateView) →
    PurgeFails words obeys keeps at asked_old old asked_new new → TellsZero new →
    IsEnding old → IsEnding new
fails-end words obeys keeps untagging asked_old old asked_new new did tells known =
    ends-with old new did.0 (kinds.Unsure did.1) refl did.3 tells known
fails-end words obeys keeps writing asked_old old asked_new new did tells known = record {
  unused = ap (λ (s : StateView). is_in_use s.tracker) did.2 ∙ known.unused;
  tells = tells;
  word = ap (λ (s : StateView). length (words_of s.size)) did.2
      ∙ sized-same words (is_right old.tracker.stored old.tracker.is_sure 0) 0 went.Unwritten
      asked_old old.size asked_new did.0 did.1.sets ∙ known.word;
}
fails-end words obeys keeps keeping asked_old old asked_new new did tells known = record {
  unused = ap (λ (s : StateView). is_in_use s.tracker) did.2 ∙ known.unused;
  tells = tells;
  word = ap (λ (s : StateView). length (words_of s.size)) did.2
      ∙ sized-same words (is_right old.tracker.stored old.tracker.is_sure 0) 0 went.Unkept
      asked_old old.size asked_new did.0 did.1.sets ∙ known.word;
}

pub failed-ends : (words obeys keeps : Bool) (asked_old : List Asked) (old : StateView)
    (asked_new : List Asked) (new : StateView) →
    Purges words obeys keeps failed asked_old old asked_new new → TellsZero new →
    IsEnding old → IsEnding new
failed-ends words obeys keeps asked_old old asked_new new did tells known =
    fails-end words obeys keeps did.0 asked_old old asked_new new did.1 tells known

-- a word that is 0 in every image has no other one
pub clean-of : (size : Seen WordStep) → length (words_of size) ≡ 1 → IsZero size → IsClean size
clean-of size one zeros = record {
  word = one;
  sure = λ image is. ext_get_or 0 image (words_of size) is.size
      (λ k less. first k image (omega (arith, less, is.size, one)) is);
  zero = zeros (words_of size) (now_is_image size.history);
}
  where
    first : (k : ℕ) (image : List ℕ) → k < 1 → IsImage size.history image →
        get_or image k 0 ≡ get_or (words_of size) k 0
    first zero image less is =
        zeros image is ∙ sym (zeros (words_of size) (now_is_image size.history))
    first (suc k) image less is = absurd (omega (arith, less))

-- the size word is 0, and all of its region
pub done-clean : (words : Bool) (asked_old : List Asked) (old : StateView) (asked_new : List Asked)
    (new : StateView) (size : Seen WordStep) →
    Zeroes words went.Set asked_old old asked_new size → IsZero size → IsEnding old →
    IsClean size
done-clean words asked_old old asked_new new size did zeros known =
    clean-of size
    (sized-same words (is_right old.tracker.stored old.tracker.is_sure 0) 0 went.Set asked_old
    old.size asked_new size did.sets ∙ known.word) zeros
