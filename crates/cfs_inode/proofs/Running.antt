-- What a core and its devices know of a job that is out.
use Rattle.std.proofs.Common.{◌≡◌, ◌∙◌, ◌-◌, ◌<◌, ◌==◌, ap, arith, if◌then◌else◌, length, List, []}
use Rattle.std.proofs.Common.{◌∷◌, Option, None, Some, map, refl, subst, sym, true, false, ℕ, Bool}
use Rattle.std.specs.Prelude.{nat_lt, option_map, slice_get}
use Rattle.std.proofs.lemmas.Bool.Decides.{nat_tests}
use Rattle.cfs_file.specs.declared.entry.Entry.{Entry}
use Rattle.cfs_file.specs.declared.request.Request.{Request}
use Rattle.cfs_file.specs.declared.request.Request.TheVariants as requests
use Rattle.cfs_file.specs.declared.sizes.TheConstants.{FILE_BLOCKS}
use Rattle.cfs_file.specs.declared.span.Span.{Span}
use Rattle.cfs_file.specs.Span.{meets, span}
use Rattle.cfs_core.specs.declared.inode_core.Core.{Core}
use Rattle.cfs_core.specs.declared.state.State.TheVariants as states
use Rattle.cfs_core.specs.declared.track.Track.{Track}
use Rattle.cfs_core.specs.Medium.{placed}
use Rattle.cfs_core.specs.Words.{block_span, has_block, is_live, payload, payload_at, payload_of}
use Rattle.cfs_core.specs.Words.{piece_in, track}
use Rattle.cfs_core.proofs.Kept.{at, is_changing}
use Rattle.cfs_core.proofs.Legal.{and_all}
use Rattle.cfs_core.proofs.Order.{track_is}
use Rattle.cfs_core_laws.specs.Order.{ascends, is_out_sorted}
use Rattle.cfs_core_laws.proofs.Blanks.{part-at}
use Rattle.cfs_core_laws.proofs.Sorted.{sorted-place}
use Rattle.cfs_core_laws.proofs.Through.{payload-at}
use Rattle.cfs_core_laws.proofs.Whole.{whole}
use Rattle.cfs_pmem.specs.Images.{Seen, WordStep, IsImage, words_of}
use Rattle.cfs_pmem.specs.Objects.{IsEachImage}
use Rattle.cfs_slot.specs.Words.{kind_of, offset_of, payload_of as payload_in}
use Rattle.cfs_job.specs.Stands.{IsSpanOf, is_touched}
use Rattle.cfs_job.specs.Steps.{core_job, lease_in}
use Rattle.cfs_job.specs.Views.{JobView, payload_seen, request_seen}
use Rattle.cfs_medium.specs.Shows.{Holding, SlotFits, entry_of, logged_at}
use Rattle.cfs_medium.specs.World.{World}
use Rattle.cfs_medium.proofs.SlotEvents.{holding-logged}
use Rattle.cfs_tracker.specs.declared.doing.Doing.{Doing}
use Rattle.cfs_tracker.specs.Follows.{gate_for, is_dead}
use Rattle.cfs_inode.specs.Stands.{JobStands, Stands, Together}
use Rattle.cfs_inode.specs.View.{Held, StateView}
use Rattle.cfs_inode.proofs.Knows.{IsHeldOpen, is-request, jobs-out, logged-span}
use Rattle.cfs_inode.proofs.PutBacks.{IsComing, coming}

-- ---- its bytes

placed-bytes : (s : Span) (request : Request) (offset : ℕ) (bytes : List ℕ) →
    placed s request ≡ requests.Write offset bytes → payload_of request ≡ bytes
placed-bytes s (requests.Write from own) offset bytes is = cc
placed-bytes s (requests.Append own) offset bytes is = cc
placed-bytes s (requests.Truncate n) offset bytes is = cc
placed-bytes s (requests.Read from count) offset bytes is = cc
placed-bytes s requests.Sync offset bytes is = cc

-- a truncate has no bytes, and of it a block gets zeros
piece-by : (cuts : Bool) (offset : ℕ) (bytes : List ℕ) (entry : Option Entry) (s : Span) (k : ℕ) →
    s ≡ span (if cuts then requests.Truncate offset else requests.Write offset bytes) 0 →
    option_map (λ (e : Entry). placed s e.request) entry
    ≡ Some (if cuts then requests.Truncate offset else requests.Write offset bytes) →
    piece_in (payload entry) s k ≡ piece_in bytes s k
piece-by true offset bytes entry s k is there =
    subst (λ t. piece_in (payload entry) t k ≡ piece_in bytes t k) (sym is) refl
piece-by false offset bytes None s k is there = cc
piece-by false offset bytes (Some e) s k is there =
    let same : placed s e.request ≡ requests.Write offset bytes = cc in
    ap (λ own. piece_in own s k) (placed-bytes s e.request offset bytes same)

piece-same : (slots : List (Seen WordStep)) (entry : Option Entry) (s : Span) (k : ℕ) →
    IsSpanOf s slots →
    option_map (λ (e : Entry). placed s e.request) entry ≡ Some (request_seen slots) →
    piece_in (payload entry) s k ≡ piece_in (payload_seen slots) s k
piece-same [] entry s k is there =
    subst (λ t. piece_in (payload entry) t k ≡ piece_in [] t k) (sym is) refl
piece-same (head ∷ tails) entry s k is there =
    let words = words_of head in
    piece-by (kind_of words == 2) (offset_of words)
    (payload_in words (map words_of tails)) entry s k is there

-- ---- the change

-- it is not applied, since it has a block
not-applied : (applied has : Bool) → (applied ≡ true → has ≡ false) → has ≡ true → applied ≡ false
not-applied true has idle own = (let none = idle refl in cc)
not-applied false has idle own = refl

its-slots : (state : StateView) (job : JobView) (core : Core) (world : World) (k : ℕ) →
    Stands state core world → JobStands state.ino job core world → IsComing state job core →
    has_block (track core.tracks job.place).state k ≡ true →
    IsHeldOpen state.ino job.place (track core.tracks job.place) core job.slots
its-slots state job core world k stands stand comes has =
    let t = track core.tracks job.place in
    let entry = comes.is.entry in
    let open_ : entry.applied ≡ false =
    not-applied entry.applied (has_block t.state k) (λ applied. comes.own.idle applied k) has in
    record {
      held = logged_at core.log t job.place;
      gate = comes.own.gate
          ∙ ap (λ (now : Doing Held). gate_for (is_dead now) entry.applied) comes.is.out
          ∙ ap (λ (b : Bool). gate_for false b) open_;
      request = refl;
      fits = λ slots each.
          subst (λ (h : Holding). SlotFits state.ino job.place h slots)
          (holding-logged core core.doubt job.place comes.beside)
          (stands.shows.slots job.place slots
          (subst (λ (s : List (Seen WordStep)). IsEachImage IsImage s slots) (sym stand.slots)
          each));
    }

-- What is known of a job that is out, and of a block that it has.
pub record IsRunning (job : JobView) (k : ℕ) (core : Core) : Type 0 where
  pub some : job.place ≡ 0 → ⊥
  pub within_ : job.place - 1 < length core.tracks
  pub has : has_block (track core.tracks job.place).state k ≡ true
  pub touched : is_touched job.span k ≡ true
  pub spans : IsSpanOf job.span job.slots
  pub piece : piece_in (payload_at core.log job.place) job.span k
      ≡ piece_in (payload_seen job.slots) job.span k

pub ascending : (state : StateView) (job : JobView) (core : Core) (world : World) →
    Stands state core world → JobStands state.ino job core world →
    ascends (lease_in job.first) (lease_in job.second) ≡ true
ascending state job core world stands stand =
    ap (λ s. is_out_sorted s) (sym stand.state)
    ∙ sorted-place core (whole stands.follows.reached).sorted job.place

pub running : (state : StateView) (job : JobView) (jobs : List JobView) (k : ℕ) (core : Core)
    (world : World) → Together state (job ∷ jobs) core world →
    has_block (states.Out (core_job job)) k ≡ true → IsRunning job k core
running state job jobs k core world together own =
    let stands = together.stands in
    let stand = together.out.0 in
    let place = job.place in
    let t = track core.tracks place in
    let all = whole stands.follows.reached in
    let comes = coming state job core world (jobs-out state job jobs core world together) stands
    stand in
    let has : has_block t.state k ≡ true = ap (λ s. has_block s k) stand.state ∙ own in
    let wants = part-at core place k all.work.blocks.0 has in
    let held = its-slots state job core world k stands stand comes has in
    let here : t ≡ at core (place - 1) = track_is core.tracks place (place - 1) comes.some refl in
    let live : is_live (at core (place - 1)).state ≡ true =
    ap (λ (u : Track). is_live u.state) (sym here) ∙ ap (λ s. is_live s) stand.state in
    let change : is_changing (slice_get core.log (place - 1)) ≡ true =
    all.kept.logged.live_changes (place - 1) live in
    let some : place ≡ 0 → ⊥ = comes.some in
    let there : entry_of core.log place ≡ slice_get core.log (place - 1) =
    (let test : (place == 0) ≡ false = grind (arith, nat_tests) in rw test refl) in
    let request : option_map (λ (e : Entry). placed t.span e.request)
    (slice_get core.log (place - 1)) ≡ Some (request_seen job.slots) =
    ap (λ (o : Option Entry). option_map (λ (e : Entry). placed t.span e.request) o) (sym there)
    ∙ is-request state.ino place t core job.slots held in
    let spans : IsSpanOf t.span job.slots =
    logged-span core place (slice_get core.log (place - 1)) job.slots t all.kept.logged comes.some
    (sym here) refl (λ e is. ap is_changing (sym is) ∙ change) request in
    let piece : piece_in (payload (slice_get core.log (place - 1))) t.span k
    ≡ piece_in (payload_seen job.slots) t.span k =
    piece-same job.slots (slice_get core.log (place - 1)) t.span k spans request in
    record {
      some = comes.some;
      within_ = comes.within;
      has = has;
      touched = subst (λ s. is_touched s k ≡ true) stand.span
          (and_all (nat_lt k FILE_BLOCKS) (meets t.span (block_span k)) wants.file wants.meeting);
      spans = subst (λ s. IsSpanOf s job.slots) stand.span spans;
      piece = subst (λ s. piece_in (payload_at core.log place) s k
          ≡ piece_in (payload_seen job.slots) s k) stand.span
          (ap (λ bytes. piece_in bytes t.span k) (payload-at core place comes.some) ∙ piece);
    }
