-- Reads and syncs are admitted, served and dropped.
use Rattle.std.proofs.Common.{◌≡◌, ◌∙◌, ap, arith, ◌+◌, ◌++◌, ◌<◌, ◌==◌, ◌&&◌, ◌||◌, inl, inr, length, List, [], ◌∷◌, not, Option, None, Some, refl, sym, true, false, ℕ, Bool}
use Rattle.std.specs.Prelude.{is_some, nat_lt}
use Rattle.std.specs.List.{find, list_any}
use Rattle.std.specs.Option.{option_or}
use Rattle.std.proofs.lemmas.Bool.{cases_Bool}
use Rattle.std.proofs.lemmas.Bool.Decides.{nat_tests}
use Rattle.std.proofs.lemmas.List.Folds.{find-append}
use Rattle.cfs_file.specs.declared.entry.Entry.{Entry}
use Rattle.cfs_file.specs.declared.request.Request.{Request}
use Rattle.cfs_file.specs.declared.request.Request.TheVariants as requests
use Rattle.cfs_file.specs.File.{effect}
use Rattle.cfs_file.specs.Span.{meets, span}
use Rattle.cfs_core.specs.declared.event.Event.TheVariants as events
use Rattle.cfs_core.specs.declared.inode_core.Core.{Core}
use Rattle.cfs_core.specs.declared.state.State.TheVariants as states
use Rattle.cfs_core.specs.declared.track.Track.{Track}
use Rattle.cfs_core.specs.Words.{blocks_needed, has_block, is_lent, is_live, is_unserved, track}
use Rattle.cfs_core.specs.Medium.{file}
use Rattle.cfs_core.specs.May.{are_stored, is_query, is_sync_at, may, must_wait, span_now}
use Rattle.cfs_core.specs.After.{after, query_track}
use Rattle.cfs_core.proofs.Legal.{neither}
use Rattle.cfs_core_laws.specs.Reached.IsReached.{comes}
use Rattle.cfs_tracker.specs.declared.pending.Pending.{Pending}
use Rattle.cfs_tracker.specs.declared.reading.Reading.{Reading}
use Rattle.cfs_tracker.specs.View.{TrackerView, entry_at, is_read_at, read_at, reading_place}
use Rattle.cfs_tracker.specs.Follows.{Follows, IsUnserved, StandsAt}
use Rattle.cfs_tracker.specs.Reads.{blocker_of, blocker_of_read, has_needed, is_before, is_live_doing, place_of, read_admitted, read_ended, reading, without_read}
use Rattle.cfs_tracker.proofs.Entries.{find-beside, find-gone, found-not, found-place, found-test, rise-filter, rise-push}
use Rattle.cfs_tracker.proofs.Earlier.{before-none, live-entry, needed-free}
use Rattle.cfs_tracker.proofs.Tracks.{in-log, no-block}
use Rattle.cfs_tracker.proofs.Putting.{follows-put, stands-by}
use Rattle.cfs_tracker.proofs.Pushing.{follows-push, none-past, read-within}

-- ---- the read of a place

pub record IsReadAt {S D B : Type 0} (view : TrackerView S D B) (core : Core) (place : ℕ)
    (read : Reading) : Type 0 where
  pub there : read_at view.reads place ≡ Some read
  pub unserved : IsUnserved read (track core.tracks place)
  pub alone : entry_at view.entries place ≡ None

read-stands : {S : Type 0} (entry : Option (Pending S)) (read : Reading) (t : Track) →
    StandsAt entry (Some read) t → IsUnserved read t × (entry ≡ None)
read-stands None read t stands = (stands, refl)
read-stands (Some entry) read t stands = absurd stands

pub read-is : {S D B : Type 0} (view : TrackerView S D B) (core : Core) (place : ℕ)
    (read : Reading) → Follows view core → read_at view.reads place ≡ Some read →
    IsReadAt view core place read
read-is view core place read follows is =
    let both = read-stands (entry_at view.entries place) read (track core.tracks place)
    (stands-by refl (sym is) refl (follows.entries place)) in
    record { there = is; unserved = both.0; alone = both.1 }

pub some-read : (read : Option Reading) → is_some read ≡ true → (r : Reading) × (read ≡ Some r)
some-read None h = cc
some-read (Some r) h = (r, refl)

pub read-place : (reads : List Reading) (place : ℕ) (read : Reading) →
    read_at reads place ≡ Some read → read.place ≡ place
read-place reads place read is =
    let test = found-test (is_read_at place) reads read is in
    grind (arith, nat_tests)

not-read-at : (place other : ℕ) (read : Reading) → (other ≡ place → ⊥) →
    is_read_at place read ≡ true → is_read_at other read ≡ false
not-read-at place other read apart own = grind (arith, nat_tests)

-- ---- it is over

ended : {S D B : Type 0} (view : TrackerView S D B) (core : Core) (place : ℕ) (read : Reading)
    (answer : Option (List ℕ)) → Follows view core → IsReadAt view core place read →
    may core (events.Serve place answer) ≡ true →
    Follows (read_ended place view) (after core (events.Serve place answer))
ended view core place read answer follows is may_be =
    let unserved : is_unserved (track core.tracks place).state ≡ true =
    rw is.unserved.state refl in
    let inside = in-log is_unserved refl core.tracks place unserved in
    follows-put view core place (record (track core.tracks place) { state = states.Closed })
    view.entries (without_read place view.reads) view.cells core.size core.sizes view.stored
    view.is_sure follows (comes core (events.Serve place answer) follows.reached may_be)
    follows.size follows.sure
    (record {
      some = inside.0;
      within = inside.1;
      entries_beside = λ q apart. refl;
      reads_beside = λ q apart.
          find-beside (is_read_at place) (is_read_at q) (λ x. not-read-at place q x apart)
          view.reads;
      here = stands-by is.alone (find-gone (is_read_at place) view.reads) refl refl;
      unread = find-gone (is_read_at place) view.reads;
      rise = follows.rise;
      reads_rise = rise-filter reading_place (λ r. not (is_read_at place r)) 0 view.reads
          follows.reads_rise;
      many = follows.many;
      cells_stand = follows.cells;
      lent = λ block has. absurd (no-block states.Closed block refl has);
      lent_beside = λ q block apart has. follows.lent q block has;
    })

pub follows-dropped : {S D B : Type 0} (view : TrackerView S D B) (core : Core) (place : ℕ) →
    is_some (read_at view.reads place) ≡ true → Follows view core →
    (may core (events.Serve place None) ≡ true)
    × Follows (read_ended place view) (after core (events.Serve place None))
follows-dropped view core place there follows =
    let read = some-read (read_at view.reads place) there in
    let is = read-is view core place read.0 follows read.1 in
    let may_be : may core (events.Serve place None) ≡ true =
    rw (follows.up, is.unserved.state) refl in
    (may_be, ended view core place read.0 None follows is may_be)

-- ---- it waits for nothing

or-none : {X : Type 0} (a b : Option X) → option_or a b ≡ None → (a ≡ None) × (b ≡ None)
or-none None b h = (refl, h)
or-none (Some x) b h = cc

pub place-none : {S : Type 0} (entry : Option (Pending S)) → place_of entry ≡ None → entry ≡ None
place-none None h = refl
place-none (Some e) h = cc

-- an earlier live entry is not one that it waits for
quiet : {S D B : Type 0} (view : TrackerView S D B) (core : Core) (place : ℕ) (read : Reading) →
    Follows view core → IsReadAt view core place read →
    find (is_before read) view.entries ≡ None → (q : ℕ) → q < place →
    is_live (track core.tracks q).state ≡ true →
    (read.is_sync || meets (track core.tracks q).span read.span) ≡ false
quiet {S} view core place read follows is none q less live =
    let entry = live-entry (entry_at view.entries q) (read_at view.reads q) (track core.tracks q)
    (follows.entries q) live in
    let passed = found-not (is_before read) (λ e. e.place == q) view.entries entry.own none
    entry.there in
    let low : entry.own.place ≡ q = found-place view.entries q entry.own entry.there in
    let high : read.place ≡ place = read-place view.reads place read is.there in
    let before : nat_lt entry.own.place read.place ≡ true = grind (arith, nat_tests) in
    let last : (read.is_sync || meets entry.own.span read.span) ≡ false =
    third (nat_lt entry.own.place read.place) (is_live_doing entry.own.doing)
    (read.is_sync || meets entry.own.span read.span) before entry.live passed in
    rw entry.is.span last
  where
    third : (a b c : Bool) → a ≡ true → b ≡ true → (a && (b && c)) ≡ false → c ≡ false
    third true true c one two h = h
    third true false c one two h = cc
    third false b c one two h = cc

is-quiet : {S D B : Type 0} (view : TrackerView S D B) (core : Core) (place : ℕ)
    (read : Reading) → Follows view core → IsReadAt view core place read →
    find (is_before read) view.entries ≡ None → must_wait core place ≡ false
is-quiet view core place read follows is none = elim (cases_Bool read.is_sync) [
  | inl sync ↦
      let at : is_sync_at core.log place ≡ true =
      sym (follows.syncs place read is.there) ∙ sync in
      rw at (before-none (λ t. is_live t.state) core.tracks place (λ q less.
      elim (cases_Bool (is_live (track core.tracks q).state)) [
        | inl live ↦
            let none_of = neither read.is_sync (meets (track core.tracks q).span read.span)
            (quiet view core place read follows is none q less live) in
            let clash : true ≡ false = sym sync ∙ none_of.0 in
            cc
        | inr dead ↦ dead
      ]))
  | inr plain ↦
      let at : is_sync_at core.log place ≡ false =
      sym (follows.syncs place read is.there) ∙ plain in
      rw (at, is.unserved.span)
      (before-none (λ t. is_live t.state && meets t.span read.span) core.tracks place (λ q less.
      elim (cases_Bool (is_live (track core.tracks q).state)) [
        | inl live ↦
            rw live (neither read.is_sync (meets (track core.tracks q).span read.span)
            (quiet view core place read follows is none q less live)).1
        | inr dead ↦ rw dead refl
      ]))
]

pub follows-served : {S D B : Type 0} (view : TrackerView S D B) (core : Core) (place : ℕ)
    (bytes : List ℕ) → is_some (read_at view.reads place) ≡ true →
    blocker_of view.entries (read_at view.reads place) ≡ None → Follows view core →
    are_stored core (track core.tracks place).span bytes ≡ true →
    (may core (events.Serve place (Some bytes)) ≡ true)
    × Follows (read_ended place view) (after core (events.Serve place (Some bytes)))
follows-served {S} view core place bytes there ready follows stored =
    let read = some-read (read_at view.reads place) there in
    let is = read-is view core place read.0 follows read.1 in
    let waits : blocker_of_read view.entries read.0 ≡ None = sym (ap (blocker_of view.entries)
    read.1) ∙ ready in
    let both = or-none (place_of (find (is_before read.0) view.entries))
    (place_of (find (λ e. has_needed read.0.span e.doing) view.entries)) waits in
    let quiet_ = is-quiet view core place read.0 follows is
    (place-none (find (is_before read.0) view.entries) both.0) in
    let free : list_any (λ k. is_lent core.tracks k) (blocks_needed (track core.tracks place).span)
    ≡ false =
    rw is.unserved.span (needed-free view core read.0.span follows
    (place-none (find (λ e. has_needed read.0.span e.doing) view.entries) both.1)) in
    let unserved : is_unserved (track core.tracks place).state ≡ true =
    rw is.unserved.state refl in
    let may_be : may core (events.Serve place (Some bytes)) ≡ true =
    rw (follows.up, unserved, quiet_, free) stored in
    (may_be, ended view core place read.0 (Some bytes) follows is may_be)

-- ---- one takes a place

query-keeps : (file : List ℕ) (request : Request) → is_query request ≡ true →
    effect file request ≡ file
query-keeps file (requests.Write offset bytes) h = cc
query-keeps file (requests.Append bytes) h = cc
query-keeps file (requests.Truncate n) h = cc
query-keeps file (requests.Read offset count) h = refl
query-keeps file requests.Sync h = refl

last-at : (reads : List Reading) (read : Reading) → read_at reads read.place ≡ None →
    read_at (reads ++ read ∷ []) read.place ≡ Some read
last-at reads read none =
    let own : is_read_at read.place read ≡ true = grind (arith, nat_tests) in
    find-append (is_read_at read.place) reads (read ∷ []) ∙ rw (none, own) refl

beside-last : (reads : List Reading) (read : Reading) (q : ℕ) → (q ≡ read.place → ⊥) →
    read_at (reads ++ read ∷ []) q ≡ read_at reads q
beside-last reads read q apart =
    let other : is_read_at q read ≡ false = grind (arith, nat_tests) in
    find-append (is_read_at q) reads (read ∷ []) ∙ rw other (or-nothing (read_at reads q))
  where
    or-nothing : (o : Option Reading) → option_or o None ≡ o
    or-nothing None = refl
    or-nothing (Some x) = refl

pub follows-read : {S D B : Type 0} (view : TrackerView S D B) (core : Core) (request : Request)
    (entry : Entry) → is_query request ≡ true → Follows view core →
    entry.place ≡ view.count + 1 → entry.request ≡ request →
    (may core (events.AdmitRead entry) ≡ true)
    × Follows (read_admitted request view) (after core (events.AdmitRead entry))
follows-read view core request entry query follows next same =
    let place_is : (entry.place == length core.log + 1) ≡ true =
    (let it : entry.place ≡ length core.log + 1 = omega (arith, follows.count) in
    grind (arith, nat_tests)) in
    let asks : is_query entry.request ≡ true = rw same query in
    let may_be : may core (events.AdmitRead entry) ≡ true = rw (follows.up, place_is) asks in
    let none = none-past view core (view.count + 1) follows (omega arith) in
    let span_is : span_now core entry.request ≡ span request view.long =
    rw (same, follows.long) refl in (
      may_be,
      follows-push view core entry (query_track (span_now core entry.request))
          view.entries (view.reads ++ reading request view ∷ []) view.long follows
          (comes core (events.AdmitRead entry) follows.reached may_be)
          (record {
            entries_beside = λ q apart. refl;
            reads_beside = λ q apart. beside-last view.reads (reading request view) q apart;
            here = stands-by none.0 (last-at view.reads (reading request view) none.1) refl
                (record { state = refl; span = span_is });
            rise = follows.rise;
            reads_rise = rise-push reading_place 0 view.reads (reading request view) (omega arith)
                (λ r there. omega (arith, read-within view core r.place r follows there))
                follows.reads_rise;
            sync = λ read is.
                let same_read : Some (reading request view) ≡ Some read =
                sym (last-at view.reads (reading request view) none.1) ∙ is in
                let it : reading request view ≡ read = cc in
                rw (sym it, same) refl;
            long_is = ap length (query-keeps (file core) entry.request asks) ∙ follows.long;
            free = λ block has. (let none_of : has_block states.Unserved block ≡ false = refl in
                cc);
          }),
    )
