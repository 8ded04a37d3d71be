-- A change takes a place, or is in doubt.
use Rattle.std.proofs.Common.{◌≡◌, ◌∙◌, ap, arith, ◌+◌, ◌++◌, ◌<◌, ◌≤◌, ◌==◌, inl, inr, length, List, [], ◌∷◌, not, get_or, Option, None, Some, refl, sym, true, false, ℕ, Bool}
use Rattle.std.specs.Prelude.{is_none, nat_le}
use Rattle.std.specs.List.{find, list_all}
use Rattle.std.specs.Option.{option_or}
use Rattle.std.proofs.lemmas.Bool.{cases_Bool, cases_lt}
use Rattle.std.proofs.lemmas.Bool.Decides.{nat_tests}
use Rattle.std.proofs.lemmas.List.{get_or_past}
use Rattle.std.proofs.lemmas.List.Folds.{find-append}
use Rattle.cfs_file.specs.declared.entry.Entry.{Entry}
use Rattle.cfs_file.specs.declared.request.Request.{Request}
use Rattle.cfs_file.specs.declared.request.Request.TheVariants as requests
use Rattle.cfs_file.specs.declared.sizes.TheConstants.{LONGEST_FILE}
use Rattle.cfs_file.specs.declared.span.Span.{Span}
use Rattle.cfs_file.specs.File.{effect}
use Rattle.cfs_file.specs.Span.{span}
use Rattle.cfs_file.proofs.Positions.{length-resized}
use Rattle.cfs_core.specs.declared.doubt.Doubt.{Doubt}
use Rattle.cfs_core.specs.declared.event.Event.TheVariants as events
use Rattle.cfs_core.specs.declared.flag.Flag.{Flag}
use Rattle.cfs_core.specs.declared.flag.Flag.TheVariants as flags
use Rattle.cfs_core.specs.declared.inode_core.Core.{Core}
use Rattle.cfs_core.specs.declared.state.State.TheVariants as states
use Rattle.cfs_core.specs.Words.{blocks_needed, has_block, is_on}
use Rattle.cfs_core.specs.Medium.{file}
use Rattle.cfs_core.specs.May.{is_mapped as are_mapped, may, span_now}
use Rattle.cfs_core.specs.After.{after, change_track}
use Rattle.cfs_core.proofs.Sizes.{length-put}
use Rattle.cfs_core_laws.specs.Reached.IsReached.{comes}
use Rattle.cfs_tracker.specs.declared.cell.Cell.{Cell}
use Rattle.cfs_tracker.specs.declared.cell.Cell.TheVariants as kinds
use Rattle.cfs_tracker.specs.declared.in_doubt.InDoubt.{InDoubt}
use Rattle.cfs_tracker.specs.declared.pending.Pending.{Pending}
use Rattle.cfs_tracker.specs.View.{TrackerView, entry_at, entry_place, is_at}
use Rattle.cfs_tracker.specs.Admit.{MayAdmit, admitted, doubted, first_unmapped, is_mapped, long_after, pending}
use Rattle.cfs_tracker.specs.Cells.{cell_at}
use Rattle.cfs_tracker.specs.Follows.{CellStands, DoubtStands, Follows}
use Rattle.cfs_tracker.proofs.Entries.{rise-push}
use Rattle.cfs_tracker.proofs.Putting.{stands-by}
use Rattle.cfs_tracker.proofs.Pushing.{follows-push, none-past, within-count}

-- ---- lengths

pub long-is : (file : List ℕ) (request : Request) →
    length (effect file request) ≡ long_after (length file) request
long-is file (requests.Write offset bytes) = length-put file offset bytes
long-is file (requests.Append bytes) = length-put file (length file) bytes
long-is file (requests.Truncate n) = length-resized file n
long-is file (requests.Read offset count) = refl
long-is file requests.Sync = refl

-- ---- the blocks that it needs

mapped-on : {B : Type 0} (cell : Cell B) (flag : Flag) → is_mapped cell ≡ true →
    CellStands cell flag → is_on flag ≡ true
mapped-on kinds.Hole flag h is = cc
mapped-on (kinds.Home block) flag h is = rw is refl
mapped-on (kinds.Unsure block) flag h is = cc
mapped-on (kinds.Lent place) flag h is = rw is refl
mapped-on (kinds.Moving true) flag h is = rw is refl
mapped-on (kinds.Moving false) flag h is = cc

-- a block that is mapped is one of the file
pub mapped-less : {B : Type 0} (cells : List (Cell B)) (block : ℕ) →
    is_mapped (cell_at cells block) ≡ true → block < length cells
mapped-less cells block h = elim (cases_lt block (length cells)) [
  | inl less ↦ less
  | inr past ↦
      let hole : cell_at cells block ≡ kinds.Hole = get_or_past cells block kinds.Hole past in
      let none : is_mapped (cell_at cells block) ≡ false = rw hole refl in
      cc
]

pub mapped-tag : {S D B : Type 0} (view : TrackerView S D B) (core : Core) (block : ℕ) →
    Follows view core → is_mapped (cell_at view.cells block) ≡ true →
    is_on (get_or core.tags block flags.Off) ≡ true
mapped-tag view core block follows h =
    mapped-on (cell_at view.cells block) (get_or core.tags block flags.Off) h
    (follows.cells block (omega (arith, mapped-less view.cells block h, follows.many)))

none-all : {X : Type 0} (test other : X → Bool) →
    ((x : X) → test x ≡ true → other x ≡ true) → (xs : List X) →
    find (λ x. not (test x)) xs ≡ None → list_all other xs ≡ true
none-all test other goes [] none = refl
none-all test other goes (x ∷ xs) none = elim (cases_Bool (test x)) [
  | inl is ↦
      let it : find (λ y. not (test y)) (x ∷ xs) ≡ find (λ y. not (test y)) xs = rw is refl in
      rw (goes x is) (none-all test other goes xs (sym it ∙ none))
  | inr fails ↦
      let it : find (λ y. not (test y)) (x ∷ xs) ≡ Some x = rw fails refl in
      cc
]

pub all-mapped : {S D B : Type 0} (view : TrackerView S D B) (core : Core) (needs : Span) →
    Follows view core → first_unmapped view.cells needs ≡ None →
    are_mapped core.tags needs ≡ true
all-mapped view core needs follows none =
    none-all (λ k. is_mapped (cell_at view.cells k)) (λ k. is_on (get_or core.tags k flags.Off))
    (λ k. mapped-tag view core k follows) (blocks_needed needs) none

-- ---- it may come

no-doubt : {D : Type 0} (mine : Option (InDoubt D)) (doubt : Option Doubt) →
    DoubtStands mine doubt → mine ≡ None → is_none doubt ≡ true
no-doubt None None stands h = refl
no-doubt None (Some doubt) stands h = absurd stands
no-doubt (Some mine) doubt stands h = cc

may-admit : {S D B : Type 0} (view : TrackerView S D B) (core : Core) (request : Request)
    (entry : Entry) (grant : ℕ) (kept : Bool) → MayAdmit view request → Follows view core →
    entry.place ≡ view.count + 1 → entry.request ≡ request →
    may core (events.Admit entry grant kept) ≡ true
may-admit view core request entry grant kept admits follows next same =
    let settled = no-doubt view.doubt core.doubt follows.doubt admits.settled in
    let place_is : (entry.place == length core.log + 1) ≡ true =
    (let it : entry.place ≡ length core.log + 1 = omega (arith, follows.count) in
    grind (arith, nat_tests)) in
    let long : length (effect (file core) request) ≡ long_after view.long request =
    long-is (file core) request ∙ ap (λ (n : ℕ). long_after n request) follows.long in
    let short : nat_le (length (effect (file core) request)) LONGEST_FILE ≡ true =
    (let le : length (effect (file core) request) ≤ LONGEST_FILE = omega (arith, long, admits.fits)
    in grind (arith, nat_tests)) in
    let mapped : are_mapped core.tags (span request (length (file core))) ≡ true =
    rw follows.long (all-mapped view core (span request view.long) follows admits.mapped) in
    rw (follows.up, settled, place_is, same, admits.change, short) mapped

-- ---- it is in doubt

pub follows-doubted : {S D B : Type 0} (view : TrackerView S D B) (core : Core)
    (request : Request) (entry : Entry) (grant : ℕ) (slots : D) → MayAdmit view request →
    Follows view core → entry.place ≡ view.count + 1 → entry.request ≡ request →
    (may core (events.Admit entry grant false) ≡ true)
    × Follows (doubted request grant slots view) (after core (events.Admit entry grant false))
follows-doubted view core request entry grant slots admits follows next same =
    let may_be = may-admit view core request entry grant false admits follows next same in (
      may_be,
      record {
        reached = comes core (events.Admit entry grant false) follows.reached may_be;
        up = follows.up;
        count = follows.count;
        long = follows.long;
        size = follows.size;
        sure = follows.sure;
        entries = follows.entries;
        rise = follows.rise;
        reads_rise = follows.reads_rise;
        syncs = follows.syncs;
        many = follows.many;
        cells = follows.cells;
        lent = follows.lent;
        doubt = record { place = next; grant = refl; span = rw (same, follows.long) refl };
      },
    )

-- ---- it takes a place

last-entry : {S : Type 0} (entries : List (Pending S)) (e : Pending S) →
    entry_at entries e.place ≡ None → entry_at (entries ++ e ∷ []) e.place ≡ Some e
last-entry entries e none =
    let own : is_at e.place e ≡ true = grind (arith, nat_tests) in
    find-append (is_at e.place) entries (e ∷ []) ∙ rw (none, own) refl

beside-entry : {S : Type 0} (entries : List (Pending S)) (e : Pending S) (q : ℕ) →
    (q ≡ e.place → ⊥) → entry_at (entries ++ e ∷ []) q ≡ entry_at entries q
beside-entry {S} entries e q apart =
    let other : is_at q e ≡ false = grind (arith, nat_tests) in
    find-append (is_at q) entries (e ∷ []) ∙ rw other (or-nothing (entry_at entries q))
  where
    or-nothing : (o : Option (Pending S)) → option_or o None ≡ o
    or-nothing None = refl
    or-nothing (Some x) = refl

pub follows-admitted : {S D B : Type 0} (view : TrackerView S D B) (core : Core)
    (request : Request) (entry : Entry) (grant : ℕ) (slots : S) → MayAdmit view request →
    Follows view core → entry.place ≡ view.count + 1 → entry.request ≡ request →
    (may core (events.Admit entry grant true) ≡ true)
    × Follows (admitted request grant slots view) (after core (events.Admit entry grant true))
follows-admitted {S} view core request entry grant slots admits follows next same =
    let may_be = may-admit view core request entry grant true admits follows next same in
    let none = none-past view core (view.count + 1) follows (omega arith) in
    let own : Pending S = pending request grant slots view in (
      may_be,
      follows-push view core entry (change_track grant (span_now core entry.request))
          (view.entries ++ own ∷ []) view.reads (long_after view.long request) follows
          (comes core (events.Admit entry grant true) follows.reached may_be)
          (record {
            entries_beside = λ q apart. beside-entry view.entries own q apart;
            reads_beside = λ q apart. refl;
            here = stands-by (last-entry view.entries own none.0) none.1 refl (record {
              grant = refl;
              span = rw (same, follows.long) refl;
              applied = refl;
              done = refl;
              doing = refl;
              gate = refl;
              idle = λ applied block. refl;
            });
            rise = rise-push entry_place 0 view.entries own (omega arith)
                (λ x is. omega (arith, within-count view core x.place x follows is)) follows.rise;
            reads_rise = follows.reads_rise;
            sync = λ read is.
                (let clash : None ≡ Some read = sym none.1 ∙ is in cc);
            long_is = rw same (long-is (file core) request
                ∙ ap (λ (n : ℕ). long_after n request) follows.long);
            free = λ block has. (let none_of : has_block states.Waiting block ≡ false = refl in cc);
          }),
    )
