-- What stands before a place, and which blocks are out.
use Rattle.std.proofs.Common.{◌≡◌, ◌∙◌, ap, arith, ◌+◌, ◌-◌, ◌<◌, ◌≤◌, ◌||◌, get_or, inl, inr, length, List, [], ◌∷◌, Option, None, Some, refl, suc, sym, true, false, ◌==◌, ℕ, Bool, subst, take, drop, ◌⊎◌}
use Rattle.std.specs.List.{find, list_any}
use Rattle.std.proofs.lemmas.Bool.{cases_Bool}
use Rattle.std.proofs.lemmas.Bool.Decides.{nat_tests}
use Rattle.std.proofs.lemmas.List.{get_or-take, length-take, get_or-drop, length-drop}
use Rattle.std.proofs.lemmas.List.FromFn.{get_or-range_with_len, length-range_with_len}
use Rattle.cfs_file.specs.declared.span.Span.{Span}
use Rattle.cfs_core.specs.declared.inode_core.Core.{Core}
use Rattle.cfs_core.specs.declared.state.Lease.{Lease}
use Rattle.cfs_core.specs.declared.state.State.{State}
use Rattle.cfs_core.specs.declared.track.Track.{Track}
use Rattle.cfs_core.specs.Words.{blank, blocks_needed, end_needed, first_needed, has_block, is_lease, is_lent, is_live, is_unserved, track}
use Rattle.cfs_core.proofs.Order.{track_is}
use Rattle.cfs_tracker.specs.declared.doing.Doing.{Doing}
use Rattle.cfs_tracker.specs.declared.doing.Doing.TheVariants as doings
use Rattle.cfs_tracker.specs.declared.pending.Pending.{Pending}
use Rattle.cfs_tracker.specs.declared.reading.Reading.{Reading}
use Rattle.cfs_tracker.specs.View.{TrackerView, entry_at, read_at}
use Rattle.cfs_tracker.specs.Follows.{Follows, IsDoing, IsTrack, StandsAt, block_of}
use Rattle.cfs_tracker.specs.Reads.{has_needed, is_live_doing, is_needed}
use Rattle.cfs_tracker.proofs.Entries.{found-not}

pub any-false : {X : Type 0} (test : X → Bool) (d : X) (xs : List X) →
    ((i : ℕ) → i < length xs → test (get_or xs i d) ≡ false) → list_any test xs ≡ false
any-false test d [] none = refl
any-false test d (x ∷ xs) none =
    let first : test x ≡ false = none 0 (omega arith) in
    rw first (any-false test d xs (λ i less. none (suc i) (omega arith)))

-- a test of the tracks before a place
pub before-none : (test : Track → Bool) (tracks : List Track) (place : ℕ) →
    ((q : ℕ) → q < place → test (track tracks q) ≡ false) →
    list_any test (take (place - 1) tracks) ≡ false
before-none test tracks place none =
    any-false test blank (take (place - 1) tracks) (λ i less.
    let low : i < place - 1 = omega (arith, length-take (place - 1) tracks) in
    let is : track tracks (i + 1) ≡ get_or tracks i blank =
    track_is tracks (i + 1) i (λ e. omega arith) (omega arith) in
    let tested : test (track tracks (i + 1)) ≡ false = none (i + 1) (omega arith) in
    ap test (get_or-take (place - 1) tracks i blank low) ∙ (ap test (sym is) ∙ tested))

-- ---- what a track says of the entry there

live-not : {S : Type 0} (now : Doing S) (s : State) → IsDoing now s → is_live s ≡ true →
    is_live_doing now ≡ true
live-not (doings.Waiting slots) s is live = refl
live-not doings.Marking s is live = refl
live-not (doings.Out first second) s is live = refl
live-not (doings.Covered slots) s is live =
    (let none : is_live s ≡ false = rw is refl in cc)
live-not doings.Closing s is live = (let none : is_live s ≡ false = rw is refl in cc)

pub record IsLiveEntry {S : Type 0} (entry : Option (Pending S)) (t : Track) : Type 0 where
  pub own : Pending S
  pub there : entry ≡ Some own
  pub is : IsTrack own t
  pub live : is_live_doing own.doing ≡ true

pub live-entry : {S : Type 0} (entry : Option (Pending S)) (read : Option Reading) (t : Track) →
    StandsAt entry read t → is_live t.state ≡ true → IsLiveEntry entry t
live-entry None None t stands live = (let none : is_live t.state ≡ false = rw stands refl in cc)
live-entry None (Some read) t stands live =
    (let none : is_live t.state ≡ false = rw stands.state refl in cc)
live-entry (Some e) None t stands live = record {
  own = e;
  there = refl;
  is = stands;
  live = live-not e.doing t.state stands.doing live;
}
live-entry (Some e) (Some read) t stands live = absurd stands

lease-block : (lease : Option Lease) (block : ℕ) → is_lease lease block ≡ true →
    block_of lease ≡ Some block
lease-block None block h = cc
lease-block (Some lease) block h =
    (let same : lease.block ≡ block = grind (arith, nat_tests) in ap Some same)

pub or-cases : (a b : Bool) → (a || b) ≡ true → (a ≡ true) ⊎ (b ≡ true)
or-cases true b h = inl refl
or-cases false b h = inr h

-- the entry's job has the block
pub record HasBlock {S : Type 0} (now : Doing S) (block : ℕ) : Type 0 where
  pub first : Option ℕ
  pub second : Option ℕ
  pub out : now ≡ doings.Out first second
  pub has : (first ≡ Some block) ⊎ (second ≡ Some block)

out-block : {S : Type 0} (now : Doing S) (s : State) (block : ℕ) → IsDoing now s →
    has_block s block ≡ true → HasBlock now block
out-block (doings.Waiting slots) s block is has =
    (let none : has_block s block ≡ false = rw is refl in cc)
out-block doings.Marking s block is has =
    (let none : has_block s block ≡ false = rw is refl in cc)
out-block (doings.Covered slots) s block is has =
    (let none : has_block s block ≡ false = rw is refl in cc)
out-block doings.Closing s block is has =
    (let none : has_block s block ≡ false = rw is refl in cc)
out-block (doings.Out first second) s block is has =
    let test : (is_lease is.job.first block || is_lease is.job.second block) ≡ true =
    subst (λ (x : State). has_block x block ≡ true) is.out has in
    record {
      first = first;
      second = second;
      out = refl;
      has = elim (or-cases (is_lease is.job.first block) (is_lease is.job.second block) test) [
        | inl one ↦ inl (sym is.first_is ∙ lease-block is.job.first block one)
        | inr two ↦ inr (sym is.second_is ∙ lease-block is.job.second block two)
      ];
    }

pub record IsOutEntry {S : Type 0} (entry : Option (Pending S)) (block : ℕ) : Type 0 where
  pub own : Pending S
  pub there : entry ≡ Some own
  pub has : HasBlock own.doing block

pub out-entry : {S : Type 0} (entry : Option (Pending S)) (read : Option Reading) (t : Track)
    (block : ℕ) → StandsAt entry read t → has_block t.state block ≡ true → IsOutEntry entry block
out-entry None None t block stands has =
    (let none : has_block t.state block ≡ false = rw stands refl in cc)
out-entry None (Some read) t block stands has =
    (let none : has_block t.state block ≡ false = rw stands.state refl in cc)
out-entry (Some e) None t block stands has =
    record { own = e; there = refl; has = out-block e.doing t.state block stands.doing has }
out-entry (Some e) (Some read) t block stands has = absurd stands

-- ---- no block of a list is out

-- a test of all tracks
pub all-none : (test : Track → Bool) (tracks : List Track) →
    ((q : ℕ) → test (track tracks q) ≡ false) → list_any test tracks ≡ false
all-none test tracks none =
    any-false test blank tracks (λ i less.
    let is : track tracks (i + 1) ≡ get_or tracks i blank =
    track_is tracks (i + 1) i (λ e. omega arith) (omega arith) in
    ap test (sym is) ∙ none (i + 1))

pub not-lent : (tracks : List Track) (block : ℕ) →
    ((q : ℕ) → has_block (track tracks q).state block ≡ true → ⊥) →
    is_lent tracks block ≡ false
not-lent tracks block none =
    all-none (λ t. has_block t.state block) tracks (λ q.
    elim (cases_Bool (has_block (track tracks q).state block)) [
      | inl has ↦ absurd (none q has)
      | inr free ↦ free
    ])

needed-yes : (span : Span) (block : ℕ) (other : Option ℕ) → first_needed span ≤ block →
    block < end_needed span → other ≡ Some block → is_needed span other ≡ true
needed-yes span block other low high is = rw is (grind (arith, nat_tests))

has-needed : {S : Type 0} (span : Span) (now : Doing S) (block : ℕ) → first_needed span ≤ block →
    block < end_needed span → HasBlock now block → has_needed span now ≡ true
has-needed span now block low high has =
    rw has.out (elim has.has [
      | inl one ↦ or-left (is_needed span has.first) (is_needed span has.second)
          (needed-yes span block has.first low high one)
      | inr two ↦ or-right (is_needed span has.first) (is_needed span has.second)
          (needed-yes span block has.second low high two)
    ])
  where
    or-left : (a b : Bool) → a ≡ true → (a || b) ≡ true
    or-left a b h = rw h refl

    or-right : (a b : Bool) → b ≡ true → (a || b) ≡ true
    or-right true b h = refl
    or-right false b h = h

-- no needed block is out, where no entry's job has one
pub needed-free : {S D B : Type 0} (view : TrackerView S D B) (core : Core) (span : Span) →
    Follows view core → find (λ e. has_needed span e.doing) view.entries ≡ None →
    list_any (λ k. is_lent core.tracks k) (blocks_needed span) ≡ false
needed-free {S} view core span follows none =
    any-false (λ k. is_lent core.tracks k) 0 (blocks_needed span) (λ i less.
    let long = length-range_with_len (first_needed span) (end_needed span - first_needed span) in
    let within : i < end_needed span - first_needed span = omega arith in
    let is = get_or-range_with_len (first_needed span) (end_needed span - first_needed span) i 0
    within in
    ap (λ (k : ℕ). is_lent core.tracks k) is
    ∙ not-lent core.tracks (first_needed span + i) (λ q has.
    let out = out-entry (entry_at view.entries q) (read_at view.reads q) (track core.tracks q)
    (first_needed span + i) (follows.entries q) has in
    let free = found-not (λ (e : Pending S). has_needed span e.doing) (λ e. e.place == q)
    view.entries out.own none out.there in
    let yes_ = has-needed span out.own.doing (first_needed span + i) (omega arith) (omega arith)
    out.has in
    let clash : true ≡ false = sym yes_ ∙ free in
    cc))

-- ---- what a track says of the read there

pub record IsReadEntry (read : Option Reading) (t : Track) : Type 0 where
  pub own : Reading
  pub there : read ≡ Some own
  pub span : t.span ≡ own.span

entry-served : {S : Type 0} (now : Doing S) (s : State) → IsDoing now s →
    is_unserved s ≡ false
entry-served (doings.Waiting slots) s is = rw is refl
entry-served doings.Marking s is = rw is refl
entry-served (doings.Out first second) s is = rw is.out refl
entry-served (doings.Covered slots) s is = rw is refl
entry-served doings.Closing s is = rw is refl

pub read-entry : {S : Type 0} (entry : Option (Pending S)) (read : Option Reading) (t : Track) →
    StandsAt entry read t → is_unserved t.state ≡ true → IsReadEntry read t
read-entry None None t stands h = (let none : is_unserved t.state ≡ false = rw stands refl in cc)
read-entry None (Some read) t stands h = record { own = read; there = refl; span = stands.span }
read-entry (Some e) None t stands h =
    (let none = entry-served e.doing t.state stands.doing in cc)
read-entry (Some e) (Some read) t stands h = absurd stands

-- a test of the tracks between two places
pub between-none : (test : Track → Bool) (tracks : List Track) (place by : ℕ) →
    ((q : ℕ) → place < q → q < by → test (track tracks q) ≡ false) →
    list_any test (drop place (take (by - 1) tracks)) ≡ false
between-none test tracks place by none =
    any-false test blank (drop place (take (by - 1) tracks)) (λ i less.
    let low : place + i < by - 1 =
    omega (arith, length-drop place (take (by - 1) tracks), length-take (by - 1) tracks) in
    let is : track tracks (place + i + 1) ≡ get_or tracks (place + i) blank =
    track_is tracks (place + i + 1) (place + i) (λ e. omega arith) (omega arith) in
    let tested : test (track tracks (place + i + 1)) ≡ false =
    none (place + i + 1) (omega arith) (omega arith) in
    ap test (get_or-drop place (take (by - 1) tracks) i blank)
    ∙ (ap test (get_or-take (by - 1) tracks (place + i) blank low)
    ∙ (ap test (sym is) ∙ tested)))

pub live-yes : {S : Type 0} (now : Doing S) (s : State) → IsDoing now s →
    is_live_doing now ≡ true → is_live s ≡ true
live-yes (doings.Waiting slots) s is live = rw is refl
live-yes doings.Marking s is live = rw is refl
live-yes (doings.Out first second) s is live = rw is.out refl
live-yes (doings.Covered slots) s is live = cc
live-yes doings.Closing s is live = cc
