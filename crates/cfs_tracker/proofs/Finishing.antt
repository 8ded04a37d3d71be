-- A job ends.
use Rattle.std.proofs.Common.{◌≡◌, ◌∙◌, ap, arith, ◌<◌, ◌&&◌, ◌||◌, ◌++◌, ◌⊎◌, get_or, inl, inr, length, List, [], ◌∷◌, Option, None, Some, refl, set, sym, true, false, ℕ, Bool, subst, length-set}
use Rattle.std.specs.Prelude.{nat_lt, option_map}
use Rattle.std.proofs.lemmas.Bool.{cases_Bool}
use Rattle.std.proofs.lemmas.Bool.Decides.{nat_tests}
use Rattle.cfs_file.specs.declared.sizes.TheConstants.{FILE_BLOCKS}
use Rattle.cfs_file.specs.Span.{meets}
use Rattle.cfs_core.specs.declared.event.End.TheVariants as ends
use Rattle.cfs_core.specs.declared.event.Event.TheVariants as events
use Rattle.cfs_core.specs.declared.event.SizeEnd.{SizeEnd}
use Rattle.cfs_core.specs.declared.event.SizeEnd.TheVariants as sizes
use Rattle.cfs_core.specs.declared.flag.Flag.{Flag}
use Rattle.cfs_core.specs.declared.flag.Flag.TheVariants as flags
use Rattle.cfs_core.specs.declared.inode_core.Core.{Core}
use Rattle.cfs_core.specs.declared.state.Lease.{Lease}
use Rattle.cfs_core.specs.declared.state.State.{State}
use Rattle.cfs_core.specs.declared.state.State.TheVariants as states
use Rattle.cfs_core.specs.declared.track.Track.{Track}
use Rattle.cfs_core.specs.Words.{block_span, has_block, is_done, is_lease, is_on, is_out, is_through, sized, track}
use Rattle.cfs_core.specs.Jobs.{done_after, is_above, last_of, next_block}
use Rattle.cfs_core.specs.May.{ends_well, keeps_gate, may, stands_at}
use Rattle.cfs_core.specs.After.{after, more_to_come, put_back as back_track, retired as retired_track}
use Rattle.cfs_core.proofs.Legal.{both, or_right}
use Rattle.cfs_core.proofs.Order.{same_or_not}
use Rattle.cfs_core_laws.specs.Reached.{IsReached}
use Rattle.cfs_core_laws.specs.Reached.IsReached.{comes}
use Rattle.cfs_core_laws.proofs.Lent.{once-at}
use Rattle.cfs_core_laws.proofs.Through.{is_last as is_last_track, may-retire, through-stands}
use Rattle.cfs_core_laws.proofs.Untagged.{wanted-at}
use Rattle.cfs_core_laws.proofs.Whole.{whole}
use Rattle.cfs_tracker.specs.declared.cell.Cell.{Cell}
use Rattle.cfs_tracker.specs.declared.cell.Cell.TheVariants as kinds
use Rattle.cfs_tracker.specs.declared.doing.Doing.{Doing}
use Rattle.cfs_tracker.specs.declared.doing.Doing.TheVariants as doings
use Rattle.cfs_tracker.specs.declared.pending.Pending.{Pending}
use Rattle.cfs_tracker.specs.declared.tile.Tile.{Tile}
use Rattle.cfs_tracker.specs.View.{TrackerView, doing, entry_at, entry_place, with_entry, without}
use Rattle.cfs_tracker.specs.Cells.{cell_at}
use Rattle.cfs_tracker.specs.Dispatch.{next_cell}
use Rattle.cfs_tracker.specs.Finish.{IsOut, applied, applied_at, applied_entry, applied_in, as_far, blocks_in, blocks_out, done_with, home, is_last, is_last_entry, is_last_of, last_number, more, more_entry, number_of, put_back, retired, size_after, size_unsure, span_in}
use Rattle.cfs_tracker.specs.Follows.{CellStands, Follows, HasJob, IsDoing, IsTrack, Rise, StandsAt, block_of, gate_for, is_dead}
use Rattle.cfs_tracker.proofs.Celling.{cell-beside, cell-here}
use Rattle.cfs_tracker.proofs.Dispatching.{next-same}
use Rattle.cfs_tracker.proofs.Entries.{at-with, at-without, here-with, here-without, rise-with, rise-without}
use Rattle.cfs_tracker.proofs.Putting.{Puts, follows-put, read-of, stands-by, track-of}
use Rattle.cfs_tracker.proofs.Tracks.{in-log, no-block}

-- ---- the entry that is out

pub record IsEnding {S D B : Type 0} (view : TrackerView S D B) (place : ℕ)
    (first second : Option (Tile B)) : Type 0 where
  pub entry : Pending S
  pub there : entry_at view.entries place ≡ Some entry
  pub out : entry.doing ≡ doings.Out (number_of first) (number_of second)

abbrev out-of : {S : Type 0} → Option (Option ℕ × Option ℕ) → Doing S
out-of None = doings.Marking
out-of (Some blocks) = doings.Out blocks.0 blocks.1

out-in : {S : Type 0} (now : Doing S) (first second : Option ℕ) →
    blocks_in now ≡ Some (first, second) → now ≡ doings.Out first second
out-in (doings.Waiting slots) first second h = cc
out-in doings.Marking first second h = cc
out-in {S} (doings.Out one two) first second h =
    let is : out-of {S = S} (Some (one, two)) ≡ out-of (Some (first, second)) =
    ap (out-of {S = S}) h in
    is
out-in (doings.Covered slots) first second h = cc
out-in doings.Closing first second h = cc

out-there : {S : Type 0} (entry : Option (Pending S)) (first second : Option ℕ) →
    blocks_out entry ≡ Some (first, second) →
    (e : Pending S) × (entry ≡ Some e) × (e.doing ≡ doings.Out first second)
out-there None first second h = cc
out-there (Some e) first second h = (e, refl, out-in e.doing first second h)

pub ending : {S D B : Type 0} (view : TrackerView S D B) (place : ℕ)
    (first second : Option (Tile B)) → IsOut view place first second →
    IsEnding view place first second
ending view place first second h =
    let e = out-there (entry_at view.entries place) (number_of first) (number_of second) h in
    record { entry = e.0; there = e.1; out = e.2 }

job-in : {S : Type 0} (now : Doing S) (state : State) (first second : Option ℕ) →
    now ≡ doings.Out first second → IsDoing now state → HasJob state first second
job-in {S} now state first second out is =
    subst (λ (d : Doing S). IsDoing d state) out is

-- ---- what the core knows of it

lease-of : (lease : Option Lease) (block : ℕ) → block_of lease ≡ Some block →
    is_lease lease block ≡ true
lease-of None block h = cc
lease-of (Some lease) block h =
    (let same : lease.block ≡ block = cc in grind (arith, nat_tests))

or-left : (a b : Bool) → a ≡ true → (a || b) ≡ true
or-left a b h = rw h refl

pub job-has : (state : State) (first second : Option ℕ) (block : ℕ) →
    HasJob state first second → (first ≡ Some block) ⊎ (second ≡ Some block) →
    has_block state block ≡ true
job-has state first second block job (inl one) =
    rw job.out (or-left (is_lease job.job.first block) (is_lease job.job.second block)
    (lease-of job.job.first block (job.first_is ∙ one)))
job-has state first second block job (inr two) =
    rw job.out (or_right (is_lease job.job.first block) (is_lease job.job.second block)
    (lease-of job.job.second block (job.second_is ∙ two)))

-- a block that a job has is one of the file, and tagged
held-on : (core : Core) (place block : ℕ) → IsReached core →
    has_block (track core.tracks place).state block ≡ true →
    (block < FILE_BLOCKS) × (get_or core.tags block flags.Off ≡ flags.On)
held-on core place block reached has =
    let t = track core.tracks place in
    let wanted = wanted-at core (whole reached).work.blocks.0 place block has in
    let one = both (nat_lt block FILE_BLOCKS) (is_above t.done block
    && (is_on (get_or core.tags block flags.Off) && meets t.span (block_span block))) wanted in
    let two = both (is_above t.done block)
    (is_on (get_or core.tags block flags.Off) && meets t.span (block_span block)) one.1 in
    let three = both (is_on (get_or core.tags block flags.Off))
    (meets t.span (block_span block)) two.1 in
    let low : nat_lt block FILE_BLOCKS ≡ true = one.0 in
    (grind (arith, nat_tests), on-is (get_or core.tags block flags.Off) three.0)
  where
    on-is : (flag : Flag) → is_on flag ≡ true → flag ≡ flags.On
    on-is flags.Off h = cc
    on-is flags.On h = refl
    on-is flags.Unsure h = cc

-- ---- the blocks come home

home-length : {B : Type 0} (tile : Option (Tile B)) (cells : List (Cell B)) →
    length (home tile cells) ≡ length cells
home-length None cells = refl
home-length (Some tile) cells = length-set cells tile.block (kinds.Home tile.home)

home-beside : {B : Type 0} (tile : Option (Tile B)) (cells : List (Cell B)) (block : ℕ) →
    (number_of tile ≡ Some block → ⊥) → cell_at (home tile cells) block ≡ cell_at cells block
home-beside None cells block apart = refl
home-beside (Some tile) cells block apart =
    cell-beside cells tile.block block (kinds.Home tile.home) (λ same. apart (ap Some (sym same)))

home-stands : {B : Type 0} (tile : Option (Tile B)) (cells : List (Cell B)) (tags : List Flag) →
    length cells ≡ FILE_BLOCKS →
    ((block : ℕ) → block < FILE_BLOCKS → CellStands (cell_at cells block)
    (get_or tags block flags.Off)) →
    ((block : ℕ) → number_of tile ≡ Some block →
    (block < FILE_BLOCKS) × (get_or tags block flags.Off ≡ flags.On)) →
    (block : ℕ) → block < FILE_BLOCKS →
    CellStands (cell_at (home tile cells) block) (get_or tags block flags.Off)
home-stands None cells tags many stands on block less = stands block less
home-stands {B} (Some tile) cells tags many stands on block less =
    elim (same_or_not block tile.block) [
      | inl same ↦
          subst (λ (k : ℕ). CellStands (cell_at (set cells tile.block (kinds.Home tile.home)) k)
          (get_or tags k flags.Off)) (sym same)
          (subst (λ (c : Cell B). CellStands c (get_or tags tile.block flags.Off))
          (sym (cell-here cells tile.block (kinds.Home tile.home)
          (omega (arith, (on tile.block refl).0))))
          (on tile.block refl).1)
      | inr apart ↦
          subst (λ (c : Cell B). CellStands c (get_or tags block flags.Off))
          (sym (cell-beside cells tile.block block (kinds.Home tile.home) apart))
          (stands block less)
    ]

-- ---- any end

pub record Ends {S D B : Type 0} (view : TrackerView S D B) (place : ℕ) (t : Track)
    (entries : List (Pending S)) : Type 0 where
  pub beside : (q : ℕ) → (q ≡ place → ⊥) → entry_at entries q ≡ entry_at view.entries q
  pub here : StandsAt (entry_at entries place) None t
  pub rise : Rise entry_place 0 entries
  pub free : (block : ℕ) → has_block t.state block ≡ true → ⊥

ends-put : {S D B : Type 0} (view : TrackerView S D B) (core : Core) (place : ℕ)
    (first second : Option (Tile B)) (t : Track) (entries : List (Pending S)) →
    IsEnding view place first second → Follows view core → Ends view place t entries →
    Puts view core place t entries view.reads (home second (home first view.cells))
ends-put {S} {D} {B} view core place first second t entries is follows end =
    let own = track-of view core place is.entry follows is.there in
    let job = job-in is.entry.doing (track core.tracks place).state (number_of first)
    (number_of second) is.out own.doing in
    let unread = read-of view core place is.entry follows is.there in
    let inside = in-log is_out refl core.tracks place
    (let out : is_out (track core.tracks place).state ≡ true = rw job.out refl in out) in
    record {
      some = inside.0;
      within = inside.1;
      entries_beside = end.beside;
      reads_beside = λ q apart. refl;
      here = stands-by refl unread refl end.here;
      unread = unread;
      rise = end.rise;
      reads_rise = follows.reads_rise;
      many = home-length second (home first view.cells)
          ∙ (home-length first view.cells ∙ follows.many);
      cells_stand = home-stands second (home first view.cells) core.tags
          (home-length first view.cells ∙ follows.many)
          (home-stands first view.cells core.tags follows.many follows.cells
          (λ block one. held-on core place block follows.reached
          (job-has (track core.tracks place).state (number_of first) (number_of second) block job
          (inl one))))
          (λ block two. held-on core place block follows.reached
          (job-has (track core.tracks place).state (number_of first) (number_of second) block job
          (inr two)));
      lent = λ block has. absurd (end.free block has);
      lent_beside = λ q block apart has.
          home-beside second (home first view.cells) block
          (λ two. apart (once-at core (whole follows.reached).once q place block has
          (job-has (track core.tracks place).state (number_of first) (number_of second) block job
          (inr two))))
          ∙ (home-beside first view.cells block
          (λ one. apart (once-at core (whole follows.reached).once q place block has
          (job-has (track core.tracks place).state (number_of first) (number_of second) block job
          (inl one))))
          ∙ follows.lent q block has);
    }

is-out : {S D B : Type 0} (view : TrackerView S D B) (core : Core) (place : ℕ)
    (first second : Option (Tile B)) → IsEnding view place first second → Follows view core →
    is_out (track core.tracks place).state ≡ true
is-out view core place first second is follows =
    let own = track-of view core place is.entry follows is.there in
    let job = job-in is.entry.doing (track core.tracks place).state (number_of first)
    (number_of second) is.out own.doing in
    rw job.out refl

-- ---- the last job

last-same : (done : Option ℕ) (first second : Option Lease) →
    last_of done first second ≡ last_number done (block_of first) (block_of second)
last-same last None None = refl
last-same last (Some one) None = refl
last-same last None (Some two) = refl
last-same last (Some one) (Some two) = refl

done-same : (done : Option ℕ) (state : State) (first second : Option ℕ) →
    HasJob state first second → done_after done state ≡ last_number done first second
done-same done state first second job =
    ap (λ (s : State). done_after done s) job.out
    ∙ (last-same done job.job.first job.job.second
    ∙ (ap (λ (o : Option ℕ). last_number done o (block_of job.job.second)) job.first_is
    ∙ ap (λ (o : Option ℕ). last_number done first o) job.second_is))

last-track : {S D B : Type 0} (view : TrackerView S D B) (core : Core) (place : ℕ)
    (first second : Option (Tile B)) → IsEnding view place first second → Follows view core →
    is_last view place ≡ true → is_last_track core place ≡ true
last-track {S} view core place first second is follows last =
    let t = track core.tracks place in
    let own = track-of view core place is.entry follows is.there in
    let job = job-in is.entry.doing t.state (number_of first) (number_of second) is.out
    own.doing in
    let here : is_last_entry view.cells is.entry ≡ true =
    sym (ap (λ o. is_last_of view.cells o) is.there) ∙ last in
    let done : done_after t.done t.state ≡ done_with is.entry.done is.entry.doing =
    done-same t.done t.state (number_of first) (number_of second) job
    ∙ (ap (λ (d : Option ℕ). last_number d (number_of first) (number_of second)) own.done
    ∙ sym (ap (λ (d : Doing S). done_with is.entry.done d) is.out)) in
    let next : next_block core.tags t (done_after t.done t.state)
    ≡ next_cell view.cells is.entry.span (done_with is.entry.done is.entry.doing) =
    ap (λ (d : Option ℕ). next_block core.tags t d) done
    ∙ next-same view core t is.entry.span (done_with is.entry.done is.entry.doing) follows
    own.span in
    rw (own.applied, next) here

-- the bytes stand
stands : {S D B : Type 0} (view : TrackerView S D B) (core : Core) (place : ℕ)
    (first second : Option (Tile B)) → IsEnding view place first second → Follows view core →
    is_last view place ≡ true → is_through (track core.tracks place).state ≡ true →
    stands_at core place ≡ true
stands view core place first second is follows last through =
    through-stands core (whole follows.reached).kept (whole follows.reached).work follows.up place
    through (last-track view core place first second is follows last)

span-is : {S D B : Type 0} (view : TrackerView S D B) (core : Core) (place : ℕ)
    (first second : Option (Tile B)) → IsEnding view place first second → Follows view core →
    sized core.size (track core.tracks place).span ≡ size_after view place
span-is view core place first second is follows =
    let own = track-of view core place is.entry follows is.there in
    let there : span_in (entry_at view.entries place) ≡ is.entry.span = ap span_in is.there in
    rw (own.span, follows.size, there) refl

-- ---- retired

pub follows-retired : {S D B : Type 0} (view : TrackerView S D B) (core : Core) (place : ℕ)
    (first second : Option (Tile B)) → IsOut view place first second →
    is_last view place ≡ true → Follows view core →
    is_through (track core.tracks place).state ≡ true →
    (may core (events.Finish place ends.Retired) ≡ true)
    × Follows (retired place first second view) (after core (events.Finish place ends.Retired))
follows-retired view core place first second h last follows through =
    let is = ending view place first second h in
    let t = track core.tracks place in
    let may_be : may core (events.Finish place ends.Retired) ≡ true =
    may-retire core (whole follows.reached).kept (whole follows.reached).work follows.up place
    through (last-track view core place first second is follows last) in (
      may_be,
      follows-put view core place (retired_track t) (without place view.entries) view.reads
          (home second (home first view.cells)) (sized core.size t.span) [] (size_after view place)
          true
          follows (comes core (events.Finish place ends.Retired) follows.reached may_be)
          (span-is view core place first second is follows) (λ sure. refl)
          (ends-put view core place first second (retired_track t) (without place view.entries) is
          follows (record {
            beside = λ q apart. at-without view.entries place q apart;
            here = stands-by (here-without view.entries place) refl refl refl;
            rise = rise-without 0 view.entries place follows.rise;
            free = λ block has. no-block states.Closed block refl has;
          })),
    )

keeps-same : (gate : Flag) → keeps_gate gate gate ≡ true
keeps-same flags.Off = refl
keeps-same flags.On = refl
keeps-same flags.Unsure = refl

-- before its gate is closed: the size word is set
pub may-size : {S D B : Type 0} (view : TrackerView S D B) (core : Core) (place : ℕ)
    (first second : Option (Tile B)) → IsOut view place first second →
    is_last view place ≡ true → Follows view core →
    is_through (track core.tracks place).state ≡ true →
    may core (events.Finish place (ends.Back sizes.Set (track core.tracks place).gate true)) ≡ true
may-size view core place first second h last follows through =
    let is = ending view place first second h in
    let out = is-out view core place first second is follows in
    let bytes = stands view core place first second is follows last through in
    let keeps = keeps-same (track core.tracks place).gate in
    rw (follows.up, out, keeps, bytes) (or_right (track core.tracks place).applied true refl)

-- ---- it waits again

waits-free : (block : ℕ) → has_block states.Waiting block ≡ true → ⊥
waits-free block has = (let none : has_block states.Waiting block ≡ false = refl in cc)

-- the entry is changed so, and waits
again : {S D B : Type 0} (view : TrackerView S D B) (place : ℕ) (t : Track)
    (entry : Pending S) (change : Pending S → Pending S) →
    ((e : Pending S) → (change e).place ≡ e.place) →
    entry_at view.entries place ≡ Some entry → t.state ≡ states.Waiting →
    IsTrack (change entry) t → Rise entry_place 0 view.entries →
    Ends view place t (with_entry place change view.entries)
again view place t entry change keeps there waits is rise = record {
  beside = λ q apart. at-with view.entries place q change keeps apart;
  here = stands-by (here-with view.entries place change keeps
      ∙ ap (option_map change) there) refl refl is;
  rise = rise-with 0 view.entries place change keeps rise;
  free = λ block has.
      waits-free block (subst (λ (s : State). has_block s block ≡ true) waits has);
}

out-alive : {S : Type 0} (entry : Pending S) (t : Track) (first second : Option ℕ) →
    IsTrack entry t → entry.doing ≡ doings.Out first second →
    t.gate ≡ gate_for false entry.applied
out-alive entry t first second is out =
    is.gate ∙ ap (λ d. gate_for (is_dead d) entry.applied) out

pub follows-more : {S D B : Type 0} (view : TrackerView S D B) (core : Core) (place : ℕ)
    (slots : S) (first second : Option (Tile B)) → IsOut view place first second →
    Follows view core → is_through (track core.tracks place).state ≡ true →
    (may core (events.Finish place ends.More) ≡ true)
    × Follows (more place slots first second view) (after core (events.Finish place ends.More))
follows-more view core place slots first second h follows through =
    let is = ending view place first second h in
    let t = track core.tracks place in
    let own = track-of view core place is.entry follows is.there in
    let job = job-in is.entry.doing t.state (number_of first) (number_of second) is.out
    own.doing in
    let out = is-out view core place first second is follows in
    let may_be : may core (events.Finish place ends.More) ≡ true =
    rw (follows.up, out, through) refl in
    let change = more_entry slots (number_of first) (number_of second) in (
      may_be,
      follows-put view core place (more_to_come t)
          (with_entry place change view.entries) view.reads (home second (home first view.cells))
          core.size core.sizes view.stored view.is_sure follows
          (comes core (events.Finish place ends.More) follows.reached may_be) follows.size
          follows.sure
          (ends-put view core place first second (more_to_come t) (with_entry place change
          view.entries)
          is follows (again view place (more_to_come t) is.entry change (λ e. refl) is.there refl
          (record {
            grant = own.grant;
            span = own.span;
            applied = own.applied;
            done = done-same t.done t.state (number_of first) (number_of second) job
                ∙ ap (λ (d : Option ℕ). last_number d (number_of first) (number_of second))
                own.done;
            doing = refl;
            gate = out-alive is.entry t (number_of first) (number_of second) own is.out;
            idle = λ applied block. refl;
          }) follows.rise)),
    )

-- ---- it ends as far as it was

idle-through : {S : Type 0} (entry : Pending S) (t : Track) (first second : Option ℕ) →
    IsTrack entry t → HasJob t.state first second → entry.applied ≡ true →
    is_through t.state ≡ true
idle-through entry t first second is job applied =
    rw job.out (done-both job.job.first job.job.second
    (λ block. subst (λ (s : State). has_block s block ≡ false) job.out (is.idle applied block)))
  where
    no-lease : (lease : Option Lease) →
        ((block : ℕ) → is_lease lease block ≡ true → ⊥) → lease ≡ None
    no-lease None none = refl
    no-lease (Some lease) none = absurd (none lease.block (grind (arith, nat_tests)))

    done-both : (one two : Option Lease) →
        ((block : ℕ) → (is_lease one block || is_lease two block) ≡ false) →
        (is_done one && is_done two) ≡ true
    done-both one two none =
        let first_none : one ≡ None = no-lease one (λ block has.
        (let some : (is_lease one block || is_lease two block) ≡ true =
        or-left (is_lease one block) (is_lease two block) has in
        let clash : true ≡ false = sym some ∙ none block in cc)) in
        let second_none : two ≡ None = no-lease two (λ block has.
        (let some : (is_lease one block || is_lease two block) ≡ true =
        or_right (is_lease one block) (is_lease two block) has in
        let clash : true ≡ false = sym some ∙ none block in cc)) in
        rw (first_none, second_none) refl

back-well : {S D B : Type 0} (view : TrackerView S D B) (core : Core) (place : ℕ)
    (first second : Option (Tile B)) (size : SizeEnd) → IsEnding view place first second →
    Follows view core →
    ends_well core place (ends.Back size (gate_for false (applied_at view place))
    (applied_at view place)) ≡ true
back-well view core place first second size is follows = elim (cases_Bool is.entry.applied) [
  | inl applied_ ↦
      let own = track-of view core place is.entry follows is.there in
      let t = track core.tracks place in
      let job = job-in is.entry.doing t.state (number_of first) (number_of second) is.out
      own.doing in
      let at : applied_at view place ≡ true = ap applied_in is.there ∙ applied_ in
      let last : is_last view place ≡ true =
      ap (λ o. is_last_of view.cells o) is.there ∙ rw applied_ refl in
      let through = idle-through is.entry t (number_of first) (number_of second) own job applied_ in
      let bytes = stands view core place first second is follows last through in
      let was : t.applied ≡ true = own.applied ∙ applied_ in
      rw (at, bytes, was) refl
  | inr open_ ↦
      let own = track-of view core place is.entry follows is.there in
      let t = track core.tracks place in
      let at : applied_at view place ≡ false = ap applied_in is.there ∙ open_ in
      let gate : t.gate ≡ flags.On =
      out-alive is.entry t (number_of first) (number_of second) own is.out
      ∙ ap (gate_for false) open_ in
      let was : t.applied ≡ false = own.applied ∙ open_ in
      rw (at, gate, was) refl
]

back-track-is : {S D B : Type 0} (view : TrackerView S D B) (core : Core) (place : ℕ)
    (slots : S) (first second : Option (Tile B)) → (is : IsEnding view place first second) →
    Follows view core →
    IsTrack (doing (doings.Waiting slots) is.entry)
    (back_track (track core.tracks place) (gate_for false (applied_at view place))
    (applied_at view place))
back-track-is view core place slots first second is follows =
    let own = track-of view core place is.entry follows is.there in
    let at : applied_at view place ≡ is.entry.applied = ap applied_in is.there in
    record {
      grant = own.grant;
      span = own.span;
      applied = at;
      done = own.done;
      doing = refl;
      gate = ap (gate_for false) at;
      idle = λ applied_ block. refl;
    }

pub follows-back : {S D B : Type 0} (view : TrackerView S D B) (core : Core) (place : ℕ)
    (slots : S) (first second : Option (Tile B)) → IsOut view place first second →
    Follows view core →
    (may core (events.Finish place (as_far view place sizes.AsBefore)) ≡ true)
    × Follows (put_back place slots first second view)
    (after core (events.Finish place (as_far view place sizes.AsBefore)))
follows-back {S} view core place slots first second h follows =
    let is = ending view place first second h in
    let end = as_far view place sizes.AsBefore in
    let well = back-well view core place first second sizes.AsBefore is follows in
    let out = is-out view core place first second is follows in
    let may_be : may core (events.Finish place end) ≡ true = rw (follows.up, out) well in
    let t = back_track (track core.tracks place) (gate_for false (applied_at view place))
    (applied_at view place) in
    let now : Doing S = doings.Waiting slots in (
      may_be,
      follows-put view core place t (with_entry place (doing now) view.entries) view.reads
          (home second (home first view.cells)) core.size core.sizes view.stored view.is_sure
          follows
          (comes core (events.Finish place end) follows.reached may_be) follows.size follows.sure
          (ends-put view core place first second t (with_entry place (doing now) view.entries) is
          follows
          (again view place t is.entry (doing now) (λ e. refl) is.there refl
          (back-track-is view core place slots first second is follows) follows.rise)),
    )

pub follows-unsure : {S D B : Type 0} (view : TrackerView S D B) (core : Core) (place : ℕ)
    (slots : S) (first second : Option (Tile B)) → IsOut view place first second →
    Follows view core →
    (may core (events.Finish place (as_far view place sizes.Either)) ≡ true)
    × Follows (size_unsure place slots first second view)
    (after core (events.Finish place (as_far view place sizes.Either)))
follows-unsure {S} view core place slots first second h follows =
    let is = ending view place first second h in
    let end = as_far view place sizes.Either in
    let well = back-well view core place first second sizes.Either is follows in
    let out = is-out view core place first second is follows in
    let may_be : may core (events.Finish place end) ≡ true = rw (follows.up, out) well in
    let t = back_track (track core.tracks place) (gate_for false (applied_at view place))
    (applied_at view place) in
    let now : Doing S = doings.Waiting slots in (
      may_be,
      follows-put view core place t (with_entry place (doing now) view.entries) view.reads
          (home second (home first view.cells)) (sized core.size (track core.tracks place).span)
          (core.sizes ++ core.size ∷ []) (size_after view place) false follows
          (comes core (events.Finish place end) follows.reached may_be)
          (span-is view core place first second is follows) (λ sure. cc)
          (ends-put view core place first second t (with_entry place (doing now) view.entries) is
          follows
          (again view place t is.entry (doing now) (λ e. refl) is.there refl
          (back-track-is view core place slots first second is follows) follows.rise)),
    )

-- ---- it is applied

pub follows-applied : {S D B : Type 0} (view : TrackerView S D B) (core : Core) (place : ℕ)
    (slots : S) (first second : Option (Tile B)) → IsOut view place first second →
    is_last view place ≡ true → Follows view core →
    is_through (track core.tracks place).state ≡ true →
    (may core (events.Finish place (ends.Back sizes.Set flags.Unsure true)) ≡ true)
    × Follows (applied place slots first second view)
    (after core (events.Finish place (ends.Back sizes.Set flags.Unsure true)))
follows-applied view core place slots first second h last follows through =
    let is = ending view place first second h in
    let end = ends.Back sizes.Set flags.Unsure true in
    let out = is-out view core place first second is follows in
    let own = track-of view core place is.entry follows is.there in
    let bytes = stands view core place first second is follows last through in
    let may_be : may core (events.Finish place end) ≡ true =
    rw (follows.up, out, bytes) (or_right (track core.tracks place).applied true refl) in
    let t = back_track (track core.tracks place) flags.Unsure true in
    let change = applied_entry slots in (
      may_be,
      follows-put view core place t (with_entry place change view.entries) view.reads
          (home second (home first view.cells)) (sized core.size (track core.tracks place).span) []
          (size_after view place) true follows
          (comes core (events.Finish place end) follows.reached may_be)
          (span-is view core place first second is follows) (λ sure. refl)
          (ends-put view core place first second t (with_entry place change view.entries) is follows
          (again view place t is.entry change (λ e. refl) is.there refl
          (record {
            grant = own.grant;
            span = own.span;
            applied = refl;
            done = own.done;
            doing = refl;
            gate = refl;
            idle = λ applied_ block. refl;
          }) follows.rise)),
    )
