-- A tracker goes on to follow its core where one request is logged.
use Rattle.std.proofs.Common.{◌≡◌, ◌∙◌, ap, arith, ◌+◌, ◌++◌, ◌-◌, ◌<◌, ◌≤◌, ◌==◌, get_or, inl, inr, length, List, [], ◌∷◌, Option, None, Some, refl, suc, sym, true, false, zero, ℕ, subst, length-append}
use Rattle.std.specs.List.{slice_get}
use Rattle.std.proofs.lemmas.Bool.{cases_lt}
use Rattle.std.proofs.lemmas.Bool.Decides.{nat_tests}
use Rattle.std.proofs.lemmas.List.{get_or_append_left, get_or-append_right, get_or_past}
use Rattle.cfs_file.specs.declared.entry.Entry.{Entry}
use Rattle.cfs_file.specs.File.{effect}
use Rattle.cfs_file.proofs.Logs.{file_of-append}
use Rattle.cfs_core.specs.declared.inode_core.Core.{Core}
use Rattle.cfs_core.specs.declared.state.State.{State}
use Rattle.cfs_core.specs.declared.state.State.TheVariants as states
use Rattle.cfs_core.specs.declared.track.Track.{Track}
use Rattle.cfs_core.specs.Words.{blank, has_block, track}
use Rattle.cfs_core.specs.Medium.{file}
use Rattle.cfs_core.specs.May.{is_sync, is_sync_at, is_sync_request}
use Rattle.cfs_core.specs.After.{logged}
use Rattle.cfs_core.proofs.Order.{same_or_not, track_is}
use Rattle.cfs_core_laws.specs.Reached.{IsReached}
use Rattle.cfs_core_laws.proofs.Doubts.{in-step}
use Rattle.cfs_core_laws.proofs.Whole.{whole}
use Rattle.cfs_tracker.specs.declared.doing.Doing.{Doing}
use Rattle.cfs_tracker.specs.declared.doing.Doing.TheVariants as doings
use Rattle.cfs_tracker.specs.declared.pending.Pending.{Pending}
use Rattle.cfs_tracker.specs.declared.reading.Reading.{Reading}
use Rattle.cfs_tracker.specs.View.{TrackerView, entry_at, entry_place, read_at, reading_place}
use Rattle.cfs_tracker.specs.Follows.{Follows, IsDoing, Rise, StandsAt}
use Rattle.cfs_tracker.proofs.Putting.{stands-by}

-- ---- tracks

pub tracks-count : {S D B : Type 0} (view : TrackerView S D B) (core : Core) → Follows view core →
    length core.tracks ≡ view.count
tracks-count view core follows =
    (in-step core (whole follows.reached).kept (whole follows.reached).doubted).tracks
    ∙ follows.count

track-old : (tracks : List Track) (t : Track) (q : ℕ) → q ≤ length tracks →
    track (tracks ++ t ∷ []) q ≡ track tracks q
track-old tracks t q le = elim (same_or_not q 0) [
  | inl none ↦ rw none refl
  | inr some ↦
      track_is (tracks ++ t ∷ []) q (q - 1) some refl
      ∙ (get_or_append_left tracks (t ∷ []) blank (q - 1) (omega arith)
      ∙ sym (track_is tracks q (q - 1) some refl))
]

track-last : (tracks : List Track) (t : Track) → track (tracks ++ t ∷ []) (length tracks + 1) ≡ t
track-last tracks t =
    track_is (tracks ++ t ∷ []) (length tracks + 1) (length tracks) (λ e. omega arith) (omega arith)
    ∙ (get_or-append_right tracks (t ∷ []) (length tracks) (length tracks) blank refl (omega arith)
    ∙ none-left)
  where
    none-left : get_or (t ∷ []) (length tracks - length tracks) blank ≡ t
    none-left = (let none : length tracks - length tracks ≡ 0 = omega arith in rw none refl)

track-past : (tracks : List Track) (q : ℕ) → length tracks < q → track tracks q ≡ blank
track-past tracks q less =
    track_is tracks q (q - 1) (λ e. omega arith) refl ∙ get_or_past tracks (q - 1) blank (omega
    arith)

track-far : (tracks : List Track) (t : Track) (q : ℕ) → length tracks + 1 < q →
    track (tracks ++ t ∷ []) q ≡ track tracks q
track-far tracks t q less =
    track_is (tracks ++ t ∷ []) q (q - 1) (λ e. omega arith) refl
    ∙ (get_or-append_right tracks (t ∷ []) (length tracks) (q - 1) blank refl (omega arith)
    ∙ (get_or_past (t ∷ []) (q - 1 - length tracks) blank (omega arith)
    ∙ sym (track-past tracks q (omega arith))))

-- the track of another place
pub track-beside : (tracks : List Track) (t : Track) (q : ℕ) → (q ≡ length tracks + 1 → ⊥) →
    track (tracks ++ t ∷ []) q ≡ track tracks q
track-beside tracks t q apart = elim (cases_lt q (length tracks + 1)) [
  | inl less ↦ track-old tracks t q (omega arith)
  | inr le ↦ track-far tracks t q (elim (cases_lt (length tracks + 1) q) [
    | inl more ↦ more
    | inr same ↦ absurd (apart (omega arith))
  ])
]

-- ---- syncs

get-old : (log : List Entry) (e : Entry) (k : ℕ) → (k ≡ length log → ⊥) →
    slice_get (log ++ e ∷ []) k ≡ slice_get log k
get-old [] e zero apart = absurd (apart refl)
get-old [] e (suc k) apart = refl
get-old (x ∷ xs) e zero apart = refl
get-old (x ∷ xs) e (suc k) apart = get-old xs e k (λ same. apart (omega arith))

get-last : (log : List Entry) (e : Entry) (k : ℕ) → k ≡ length log →
    slice_get (log ++ e ∷ []) k ≡ Some e
get-last [] e zero same = refl
get-last [] e (suc k) same = absurd (omega arith)
get-last (x ∷ xs) e zero same = absurd (omega arith)
get-last (x ∷ xs) e (suc k) same = get-last xs e k (omega arith)

sync-is : (log : List Entry) (q : ℕ) → (q ≡ 0 → ⊥) →
    is_sync_at log q ≡ is_sync (slice_get log (q - 1))
sync-is log q some =
    let test : (q == 0) ≡ false = grind (arith, nat_tests) in
    rw test refl

pub sync-old : (log : List Entry) (e : Entry) (q : ℕ) → (q ≡ length log + 1 → ⊥) →
    is_sync_at (log ++ e ∷ []) q ≡ is_sync_at log q
sync-old log e q apart = elim (same_or_not q 0) [
  | inl none ↦ rw none refl
  | inr some ↦
      sync-is (log ++ e ∷ []) q some
      ∙ (ap is_sync (get-old log e (q - 1) (λ same. apart (omega arith))) ∙ sym (sync-is log q
      some))
]

sync-last : (log : List Entry) (e : Entry) →
    is_sync_at (log ++ e ∷ []) (length log + 1) ≡ is_sync_request e.request
sync-last log e =
    sync-is (log ++ e ∷ []) (length log + 1) (λ none. omega arith)
    ∙ ap is_sync (get-last log e (length log + 1 - 1) (omega arith))

-- ---- nothing is pending past the log

not-closed : {S : Type 0} (now : Doing S) (s : State) → IsDoing now s → s ≡ states.Closed → ⊥
not-closed (doings.Waiting slots) s is closed = (let e = sym is ∙ closed in cc)
not-closed doings.Marking s is closed = (let e = sym is ∙ closed in cc)
not-closed (doings.Out first second) s is closed = (let e = sym is.out ∙ closed in cc)
not-closed (doings.Covered slots) s is closed = (let e = sym is ∙ closed in cc)
not-closed doings.Closing s is closed = (let e = sym is ∙ closed in cc)

closed-none : {S : Type 0} (entry : Option (Pending S)) (read : Option Reading) (t : Track) →
    StandsAt entry read t → t.state ≡ states.Closed → (entry ≡ None) × (read ≡ None)
closed-none None None t stands closed = (refl, refl)
closed-none None (Some read) t stands closed = (let e = sym stands.state ∙ closed in cc)
closed-none (Some entry) None t stands closed =
    absurd (not-closed entry.doing t.state stands.doing closed)
closed-none (Some entry) (Some read) t stands closed = absurd stands

pub none-past : {S D B : Type 0} (view : TrackerView S D B) (core : Core) (q : ℕ) →
    Follows view core → view.count < q →
    (entry_at view.entries q ≡ None) × (read_at view.reads q ≡ None)
none-past view core q follows less =
    closed-none (entry_at view.entries q) (read_at view.reads q) (track core.tracks q)
    (follows.entries q)
    (ap (λ (t : Track). t.state)
    (track-past core.tracks q (omega (arith, tracks-count view core follows))))

pub within-count : {S D B : Type 0} (view : TrackerView S D B) (core : Core) (q : ℕ)
    (e : Pending S) → Follows view core → entry_at view.entries q ≡ Some e → q ≤ view.count
within-count view core q e follows is = elim (cases_lt view.count q) [
  | inl past ↦ (let none = (none-past view core q follows past).0 in cc)
  | inr le ↦ le
]

pub read-within : {S D B : Type 0} (view : TrackerView S D B) (core : Core) (q : ℕ)
    (r : Reading) → Follows view core → read_at view.reads q ≡ Some r → q ≤ view.count
read-within view core q r follows is = elim (cases_lt view.count q) [
  | inl past ↦ (let none = (none-past view core q follows past).1 in cc)
  | inr le ↦ le
]

-- ---- one request is logged

pub record Pushes {S D B : Type 0} (view : TrackerView S D B) (core : Core) (entry : Entry)
    (t : Track) (entries : List (Pending S)) (reads : List Reading) (long : ℕ) : Type 0 where
  pub entries_beside : (q : ℕ) → (q ≡ view.count + 1 → ⊥) →
      entry_at entries q ≡ entry_at view.entries q
  pub reads_beside : (q : ℕ) → (q ≡ view.count + 1 → ⊥) → read_at reads q ≡ read_at view.reads q
  pub here : StandsAt (entry_at entries (view.count + 1)) (read_at reads (view.count + 1)) t
  pub rise : Rise entry_place 0 entries
  pub reads_rise : Rise reading_place 0 reads
  pub sync : (read : Reading) → read_at reads (view.count + 1) ≡ Some read →
      read.is_sync ≡ is_sync_request entry.request
  pub long_is : length (effect (file core) entry.request) ≡ long
  pub free : (block : ℕ) → has_block t.state block ≡ true → ⊥

pub follows-push : {S D B : Type 0} (view : TrackerView S D B) (core : Core) (entry : Entry)
    (t : Track) (entries : List (Pending S)) (reads : List Reading) (long : ℕ) →
    Follows view core → IsReached (logged core entry t) →
    Pushes view core entry t entries reads long →
    Follows (record view {
      count = view.count + 1;
      long = long;
      entries = entries;
      reads = reads;
    }) (logged core entry t)
follows-push {S} {D} {B} view core entry t entries reads long follows reached pushes = record {
  reached = reached;
  up = follows.up;
  count = omega (arith, length-append core.log (entry ∷ []), follows.count);
  long = ap length (file_of-append core.base core.log (entry ∷ [])) ∙ pushes.long_is;
  size = follows.size;
  sure = follows.sure;
  entries = λ q. elim (same_or_not q (view.count + 1)) [
    | inl same ↦
        subst (λ (n : ℕ). StandsAt (entry_at entries n) (read_at reads n)
        (track (core.tracks ++ t ∷ []) n)) (sym same)
        (stands-by refl refl
        (subst (λ (n : ℕ). track (core.tracks ++ t ∷ []) (n + 1) ≡ t) tracks
        (track-last core.tracks t)) pushes.here)
    | inr apart ↦
        stands-by (pushes.entries_beside q apart) (pushes.reads_beside q apart)
        (track-beside core.tracks t q (λ e. apart (omega (arith, tracks)))) (follows.entries q)
  ];
  rise = pushes.rise;
  reads_rise = pushes.reads_rise;
  syncs = λ q read is. elim (same_or_not q (view.count + 1)) [
    | inl same ↦
        pushes.sync read (subst (λ (n : ℕ). read_at reads n ≡ Some read) same is)
        ∙ sym (subst (λ (n : ℕ). is_sync_at (core.log ++ entry ∷ []) n
        ≡ is_sync_request entry.request)
        (ap (λ (n : ℕ). n + 1) follows.count ∙ sym same) (sync-last core.log entry))
    | inr apart ↦
        follows.syncs q read (sym (pushes.reads_beside q apart) ∙ is)
        ∙ sym (sync-old core.log entry q (λ e. apart (omega (arith, follows.count))))
  ];
  many = follows.many;
  cells = follows.cells;
  lent = λ q block has. elim (same_or_not q (view.count + 1)) [
    | inl same ↦
        absurd (pushes.free block
        (subst (λ (u : Track). has_block u.state block ≡ true)
        (ap (λ (n : ℕ). track (core.tracks ++ t ∷ []) n) same
        ∙ subst (λ (n : ℕ). track (core.tracks ++ t ∷ []) (n + 1) ≡ t) tracks
        (track-last core.tracks t)) has))
    | inr apart ↦
        follows.lent q block
        (subst (λ (u : Track). has_block u.state block ≡ true)
        (track-beside core.tracks t q (λ e. apart (omega (arith, tracks)))) has)
  ];
  doubt = follows.doubt;
}
  where
    tracks : length core.tracks ≡ view.count
    tracks = tracks-count view core follows
