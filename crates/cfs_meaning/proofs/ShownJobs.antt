-- The steps of a job keep a world shown by its devices.
use Rattle.std.proofs.Common.{◌≡◌, ℕ, ◌+◌, ◌-◌, ◌*◌, ◌<◌, ◌≤◌, Bool, true, false, not, Option, Some}
use Rattle.std.proofs.Common.{None, List, [], ◌∷◌, length, map, reverse, take, drop, get_or, refl}
use Rattle.std.proofs.Common.{sym, ap, ◌∙◌, subst, if◌then◌else◌, arith}
use Rattle.std.specs.Prelude.{Ok, Err, ◌==◌, find, unwrap_or, nat_lt, max, min, slice_get}
use Rattle.std.specs.Option.{option_map}
use Rattle.std.proofs.lemmas.Bool.{and_parts, ltb-true}
use Rattle.std.proofs.lemmas.List.{get_or-set_same, length-take, length-drop, length-replicate}
use Rattle.std.proofs.lemmas.List.{set-get_or}
use Rattle.cfs_file.specs.declared.span.Span.{Span}
use Rattle.cfs_file.specs.declared.span.Span.TheVariants.{From, Nothing, Range}
use Rattle.cfs_file.specs.declared.sizes.TheConstants.{BLOCK_LEN, FILE_BLOCKS}
use Rattle.cfs_core.specs.declared.event.Event.{Event}
use Rattle.cfs_core.specs.declared.event.Event.TheVariants as events
use Rattle.cfs_core.specs.declared.inode_core.Core.{Core}
use Rattle.cfs_core.specs.declared.state.Lease.{Lease}
use Rattle.cfs_core.specs.After.{after}
use Rattle.cfs_core.specs.May.{case, is_in_phase, may, may_flush}
use Rattle.cfs_core.specs.Words.{blank, end_in, has_block, is_live, payload, payload_at, piece_in}
use Rattle.cfs_core.specs.Words.{start_in, start_of, track}
use Rattle.cfs_core.proofs.Goods.{good-kept}
use Rattle.cfs_core.proofs.Alive.{block_lives}
use Rattle.cfs_core.proofs.Kept.{at}
use Rattle.cfs_core.proofs.Order.{some_place, track_is}
use Rattle.cfs_core.proofs.Registers.{IsShaped, change-shaped}
use Rattle.cfs_core.proofs.StoredWrites.{piece_fits}
use Rattle.cfs_core_laws.specs.Reached.{IsReached}
use Rattle.cfs_core_laws.specs.Reached as reaching
use Rattle.cfs_core_laws.proofs.Blanks.{IsPart, is-part}
use Rattle.cfs_core_laws.proofs.Finds.{wants}
use Rattle.cfs_core_laws.proofs.Through.{payload-at}
use Rattle.cfs_core_laws.proofs.Untagged.{wanted-at}
use Rattle.cfs_core_laws.proofs.Whole.{whole}
use Rattle.cfs_pmem.specs.declared.trace.Asked.{Asked}
use Rattle.cfs_pmem.specs.declared.trace.Asked.TheVariants.{Step}
use Rattle.cfs_pmem.specs.Images.{Seen, stepped}
use Rattle.cfs_pmem.specs.Moments.{Moments}
use Rattle.cfs_pmem.specs.WordOps.{get}
use Rattle.cfs_pmem.proofs.AskLemmas.{asks_one}
use Rattle.cfs_pmem.proofs.MomentLemmas.{begun}
use Rattle.cfs_pmem.proofs.Patches.{length-patched, patched_same}
use Rattle.cfs_block.specs.BlockImages.{BlockStep, Content, DiffersWithin, IsBlockImage}
use Rattle.cfs_block.specs.BlockImages.{IsRangedFrom, content_of, ranged, unwritten, with_bytes}
use Rattle.cfs_block.specs.BlockImages.{wrote}
use Rattle.cfs_block.specs.BlockOps.{BlockOp, block_done, flush, get_bytes, put_bytes}
use Rattle.cfs_block.proofs.BlockMoments.{on_flush, on_stall, on_torn, on_write}
use Rattle.cfs_medium.specs.Shows.{Shows}
use Rattle.cfs_medium.specs.WorldCalls.{with_block}
use Rattle.cfs_medium.proofs.FlushEvents.{flushes-show}
use Rattle.cfs_medium.proofs.WriteEvents.{writes-show}
use Rattle.cfs_slot.specs.Payload.{SlotRead, payload_reads}
use Rattle.cfs_meaning.specs.Drive.{Attempt, Block, Drive, Op, Word, attempt, block_at}
use Rattle.cfs_meaning.specs.Drive.{block_refused, content_at, is_allowed, made, noted, refused}
use Rattle.cfs_meaning.specs.World.{File, World, block_of, core_in, devices_of, file_in, find_file}
use Rattle.cfs_meaning.specs.World.{held_at, new_file, with_core}
use Rattle.cfs_meaning.specs.Devices.{IsEvenBlock, IsPlaced, IsShown, devices_of_file}
use Rattle.cfs_meaning.specs.Inode.{apply, flush_block, leases_at, next_step, part_read}
use Rattle.cfs_meaning.specs.Inode.{what_is_left, write_block}
use Rattle.cfs_meaning.specs.Laws.{AreReached}
use Rattle.cfs_meaning.specs.Ways.{steps}
use Rattle.cfs_meaning.proofs.Hoare.{Leaves, leave-event, leave-give, leave-look, leave-then}
use Rattle.cfs_meaning.proofs.Hoare.{leave-tries, leave-unless, leave-weaker}
use Rattle.cfs_meaning.proofs.Quiet.{file-has}
use Rattle.cfs_meaning.proofs.Reached.{empty-reached}
use Rattle.cfs_meaning.proofs.ShownBlocks.{block-shown, mapped-has, with_seen}
use Rattle.cfs_meaning.proofs.ShownFiles.{asked-shown, found-in}
use Rattle.cfs_meaning.proofs.ShownNeeds.{less-after}
use Rattle.cfs_meaning.proofs.Total.{with_attempt}

-- what is known of a world where a job makes a step
pub record AtWork (ino : ℕ) (world : World) : Type 0 where
  pub shown : IsShown world
  pub reached : AreReached world
  pub goes_on : (file_in world ino).ended ≡ false

-- ---- one operation on a block

-- the block behind it, done or refused
abbrev pub seen_after : Bool → BlockOp → Seen BlockStep → Seen BlockStep
seen_after true op seen = block_done op seen
seen_after false op seen = block_refused op seen

abbrev IsOneOp : ℕ → BlockOp → Drive → Attempt → Type 0
IsOneOp b op drive it =
    (asked : List Asked) × (it.drive ≡ with_seen b (seen_after it.whole op (block_at drive b)) asked
    drive)

one-op : (b : ℕ) (op : BlockOp) (drive : Drive) →
    IsOneOp b op drive (attempt (Block b op ∷ []) drive)
unfolding attempt
one-op b op drive = by-test (is_allowed (Block b op) drive)
  where
    by-test : (allowed : Bool) → IsOneOp b op drive
        (if allowed then record {
          whole = true;
          drive = made (Block b op) (noted (Block b op) true drive);
        }
        else record {
          whole = false;
          drive = refused (Block b op) (noted (Block b op) false drive);
        })
    by-test true = (_, refl)
    by-test false = (_, refl)

-- ---- operations that read

abbrev pub is_reading : Op → Bool
is_reading (Word r (get at)) = true
is_reading (Word r other) = false
is_reading (Block b get_bytes) = true
is_reading (Block b other) = false

abbrev pub AreReads : List Op → Type 0
AreReads [] = Unit {0}
AreReads (op ∷ ops) = (is_reading op ≡ true) × AreReads ops

-- the power notes them, and all else stays
abbrev pub IsAsked : Drive → Drive → Type 0
IsAsked drive new = (asked : List Asked) × (new ≡ record drive { asked = asked })

read-made : (op : Op) (drive : Drive) (asked : List Asked) → is_reading op ≡ true →
    made op (record drive { asked = asked }) ≡ record drive { asked = asked }
read-made (Word r (get at)) drive asked is =
    ap (λ list. record drive { asked = asked; regions = list }) (set-get_or drive.regions r _)
read-made (Word r other) drive asked is = absurd (cc)
read-made (Block b get_bytes) drive asked is =
    ap (λ list. record drive { asked = asked; blocks = list }) (set-get_or drive.blocks b _)
read-made (Block b other) drive asked is = absurd (cc)

read-refused : (op : Op) (drive : Drive) (asked : List Asked) → is_reading op ≡ true →
    refused op (record drive { asked = asked }) ≡ record drive { asked = asked }
read-refused (Word r (get at)) drive asked is =
    ap (λ list. record drive { asked = asked; regions = list }) (set-get_or drive.regions r _)
read-refused (Word r other) drive asked is = absurd (cc)
read-refused (Block b get_bytes) drive asked is =
    ap (λ list. record drive { asked = asked; blocks = list }) (set-get_or drive.blocks b _)
read-refused (Block b other) drive asked is = absurd (cc)

pub reads-only : (ops : List Op) → AreReads ops → (drive : Drive) →
    IsAsked drive (attempt ops drive).drive
unfolding attempt
reads-only [] all drive = (drive.asked, refl)
reads-only (op ∷ ops) all drive =
    by-test (is_allowed op drive) (λ d. reads-only ops all.1 d)
  where
    by-test : (allowed : Bool) → ((d : Drive) → IsAsked d (attempt ops d).drive) → IsAsked drive
        (if allowed then attempt ops (made op (noted op true drive))
        else record { whole = false; drive = refused op (noted op false drive) }).drive
    by-test true rest =
        let here = read-made op drive (noted op true drive).asked all.0 in
        let more = rest (record drive { asked = (noted op true drive).asked }) in
        (more.0, ap (λ d. (attempt ops d).drive) here ∙ more.1)
    by-test false rest =
        ((noted op false drive).asked, read-refused op drive (noted op false drive).asked all.0)

words-read : (reads : List SlotRead) →
    AreReads (map (λ (read : SlotRead). Word read.device (get read.at)) reads)
words-read [] = tt
words-read (read ∷ reads) = (refl, words-read reads)

part-reads : (devices payload_bytes : List ℕ) (s : Span) (k : ℕ) →
    AreReads (part_read devices payload_bytes s k)
part-reads devices [] s k = tt
part-reads devices (byte ∷ bytes) s k =
    words-read (reverse (payload_reads devices (start_in s k - start_of s)
    (end_in s k - start_in s k)))

-- ---- the file of a job

none-has : (place k : ℕ) → has_block (track [] place).state k ≡ true → ⊥
none-has place k is = by-test (place == 0) is
  where
    by-test : (b : Bool) → has_block (if b then blank
        else get_or [] (place - 1) blank).state k ≡ true → ⊥
    by-test true e = absurd (cc)
    by-test false e = absurd (cc)

job-found : (world : World) (ino place k : ℕ) →
    has_block (track (core_in world ino).tracks place).state k ≡ true →
    (f : File) × (find_file world ino ≡ Some f)
job-found world ino place k has_it = by-find (find_file world ino) refl
  where
    by-find : (o : Option File) → find_file world ino ≡ o →
        (f : File) × (find_file world ino ≡ Some f)
    by-find (Some f) is = (f, is)
    by-find None is =
        absurd (none-has place k
        (subst
        (λ o. has_block (track (unwrap_or o (new_file 0 0)).core.tracks place).state k ≡ true) is
        has_it))

-- what a job's block is
pub record IsJobs (world : World) (ino place k : ℕ) : Type 0 where
  pub file : File
  pub found : find_file world ino ≡ Some file
  pub core_reached : IsReached (core_in world ino)
  pub shows : Shows (file_in world ino).ino (core_in world ino)
      (devices_of_file world.drive (file_in world ino))
  pub low : k < FILE_BLOCKS
  pub part : IsPart (track (core_in world ino).tracks place).span k
  pub block : ℕ
  pub here : block_of (file_in world ino) k ≡ Some block
  pub within : block < length world.drive.blocks
  pub full : IsEvenBlock (block_at world.drive block)

pub job-block : (world : World) (ino place k : ℕ) → AtWork ino world →
    may_flush (core_in world ino) place k ≡ true → IsJobs world ino place k
job-block world ino place k work may_be =
    let tests = and_parts (nat_lt k FILE_BLOCKS)
    (has_block (track (core_in world ino).tracks place).state k) may_be in
    let found = job-found world ino place k tests.1 in
    let same : file_in world ino ≡ found.0 = ap (λ o. unwrap_or o (new_file 0 0)) found.1 in
    let known : IsReached (core_in world ino) =
    file-has (λ i core. IsReached core) world ino (λ i. empty-reached) work.reached work.goes_on in
    let shows = subst (λ (f : File). f.ended ≡ false →
    Shows f.ino f.core (devices_of_file world.drive f)) (sym same)
    (found-in _ world ino found.0 found.1 work.shown.files) work.goes_on in
    let low = ltb-true k FILE_BLOCKS tests.0 in
    let wanted = wants (core_in world ino).tags (track (core_in world ino).tracks place)
    (track (core_in world ino).tracks place).done k
    (wanted-at (core_in world ino) (whole known).work.blocks.0 place k tests.1) in
    let mapped = mapped-has world.drive (file_in world ino) k shows low wanted.mapped in
    let placed = subst (IsPlaced world.drive) (sym same)
    (found-in _ world ino found.0 found.1 work.shown.placed) in
    record {
      file = found.0;
      found = found.1;
      core_reached = known;
      shows = shows;
      low = low;
      part = is-part (track (core_in world ino).tracks place).span k wanted.meeting;
      block = mapped.0;
      here = mapped.1;
      within = placed.blocks k mapped.0 mapped.1;
      full = work.shown.even.blocks mapped.0 _ (placed.blocks k mapped.0 mapped.1);
    }

-- ---- a flush

may-case : (core : Core) (e : Event) → may core e ≡ true → case core e ≡ true
may-case core e is = (and_parts (is_in_phase core.crashed e) (case core e) is).1

flush-moments : (seen : Seen BlockStep) → IsEvenBlock seen → (ok : Bool) →
    Moments IsBlockImage (IsBlockImage seen.history) [] seen (Step seen.device true ok ∷ [])
    (seen_after ok flush seen)
flush-moments seen full true =
    on_flush full.1 (begun [] seen (λ image h. h)) refl (asks_one refl)
flush-moments seen full false =
    on_stall full.1 (begun [] seen (λ image h. h)) refl (asks_one refl)

flushed-core : (world : World) (ino place k : ℕ) (ok : Bool) → AtWork ino world →
    may (core_in world ino) (events.Flush place k ok) ≡ true → (job : IsJobs world ino place k) →
    Shows (file_in world ino).ino (after (core_in world ino) (events.Flush place k ok))
    (with_block k (Some (seen_after ok flush (block_at world.drive job.block)))
    (devices_of_file world.drive (file_in world ino)))
flushed-core world ino place k true work may_be job =
    (flushes-show (file_in world ino).ino (length (core_in world ino).log + 2) place k
    (core_in world ino) (devices_of_file world.drive (file_in world ino))
    (block_at world.drive job.block) _ (Ok tt) [] _
    (good-kept (core_in world ino) (whole job.core_reached).kept) job.shows
    (whole job.core_reached).kept.stored_.short may_be (omega arith)
    (ap (λ o. option_map (block_at world.drive) o) job.here)
    (record {
      full = (let is = job.full.1 in omega (arith, is));
      ok = refl;
      err = tt;
      moments = flush-moments (block_at world.drive job.block) job.full true;
    })).ok
flushed-core world ino place k false work may_be job =
    (flushes-show (file_in world ino).ino (length (core_in world ino).log + 2) place k
    (core_in world ino) (devices_of_file world.drive (file_in world ino))
    (block_at world.drive job.block) _ (Err tt) [] _
    (good-kept (core_in world ino) (whole job.core_reached).kept) job.shows
    (whole job.core_reached).kept.stored_.short may_be (omega arith)
    (ap (λ o. option_map (block_at world.drive) o) job.here)
    (record {
      full = (let is = job.full.1 in omega (arith, is));
      ok = tt;
      err = refl;
      moments = flush-moments (block_at world.drive job.block) job.full false;
    })).err

full-after : (ok : Bool) (seen : Seen BlockStep) → IsEvenBlock seen →
    IsEvenBlock (seen_after ok flush seen)
full-after true seen full = (full.1, full.1)
full-after false seen full = full

flushed-shown : (world : World) (ino place k : ℕ) (ok : Bool) (asked : List Asked) →
    AtWork ino world → may (core_in world ino) (events.Flush place k ok) ≡ true →
    IsShown (record (with_core ino (after (core_in world ino) (events.Flush place k ok)) world) {
      drive = with_seen (unwrap_or (block_of (file_in world ino) k) 0)
          (seen_after ok flush
          (block_at world.drive (unwrap_or (block_of (file_in world ino) k) 0))) asked world.drive;
    })
flushed-shown world ino place k ok asked work may_be =
    let job = job-block world ino place k work
    (may-case (core_in world ino) (events.Flush place k ok) may_be) in
    subst (λ b. IsShown (record
    (with_core ino (after (core_in world ino) (events.Flush place k ok)) world) {
      drive = with_seen b (seen_after ok flush (block_at world.drive b)) asked world.drive;
    })) (sym (ap (λ o. unwrap_or o 0) job.here))
    (block-shown world ino k job.block _ _ asked job.file job.found job.here
    (full-after ok (block_at world.drive job.block) job.full)
    (λ up. flushed-core world ino place k ok work may_be job)
    (less-after (core_in world ino) (events.Flush place k ok) refl may_be) work.shown)

-- a world whose drive alone is another, by one operation on a block
abbrev IsBehindOp : World → ℕ → BlockOp → Bool → World → Type 0
IsBehindOp x b op ok w =
    (asked : List Asked)
    × (w ≡ record x { drive = with_seen b (seen_after ok op (block_at x.drive b)) asked x.drive })

behind-op : (x : World) (b : ℕ) (op : BlockOp) →
    IsBehindOp x b op (attempt (Block b op ∷ []) x.drive).whole (with_attempt (Block b op ∷ []) x)
behind-op x b op =
    let one = one-op b op x.drive in (one.0, ap (λ d. record x { drive = d }) one.1)

pub flush-shown : (ino place k : ℕ) →
    Leaves (AtWork ino) (λ u. IsShown) IsShown (flush_block ino place k)
flush-shown ino place k =
    leave-look (λ x.
    leave-then {Q = λ ok w. AtWork ino x
    × IsBehindOp x (unwrap_or (block_of (file_in x ino) k) 0) flush ok w}
    (leave-tries (λ w holds.
    subst (λ v. AtWork ino x
    × IsBehindOp x (unwrap_or (block_of (file_in x ino) k) 0) flush
    (attempt (Block (unwrap_or (block_of (file_in x ino) k) 0) flush ∷ []) v.drive).whole
    (with_attempt (Block (unwrap_or (block_of (file_in x ino) k) 0) flush ∷ []) v)) (sym holds.0) (
      subst (AtWork ino) holds.0 holds.1,
      behind-op x (unwrap_or (block_of (file_in x ino) k) 0) flush,
    ))) (λ ok.
    leave-then {Q = λ u. IsShown}
    (leave-event (λ w holds may_be.
    flush-event x ok w holds.0 holds.1 may_be)) (λ u.
    leave-unless ok (λ w shown. shown) (λ w shown. shown))))
  where
    flush-event : (x : World) (ok : Bool) (w : World) → AtWork ino x →
        IsBehindOp x (unwrap_or (block_of (file_in x ino) k) 0) flush ok w →
        may (core_in w ino) (events.Flush place k ok) ≡ true →
        IsShown (with_core ino (after (core_in w ino) (events.Flush place k ok)) w)
    flush-event x ok w work behind may_be =
        subst (λ v. may (core_in v ino) (events.Flush place k ok) ≡ true →
        IsShown (with_core ino (after (core_in v ino) (events.Flush place k ok)) v)) (sym behind.1)
        (λ may_now. flushed-shown x ino place k ok behind.0 work may_now) may_be

-- ---- a write

-- a piece has a byte for each of its positions
piece-long : (bytes : List ℕ) (span : Span) (block : ℕ) → IsShaped bytes span → IsPart span block →
    end_in span block ≤ start_in span block + length (piece_in bytes span block)
piece-long bytes Nothing block shaped part = absurd shaped
piece-long bytes (Range from to) block shaped part =
    let start : ℕ = max from (BLOCK_LEN * block) in
    let end : ℕ = min to (BLOCK_LEN * block + BLOCK_LEN) in
    let taken : length (piece_in bytes (Range from to) block)
    ≡ min (end - start) (length (drop (start - from) bytes)) =
    length-take (end - start) (drop (start - from) bytes) in
    let dropped : length (drop (start - from) bytes) ≡ length bytes - (start - from) =
    length-drop (start - from) bytes in
    omega arith
piece-long bytes (From from) block shaped part =
    let start : ℕ = max from (BLOCK_LEN * block) in
    let lasts : length (piece_in bytes (From from) block) ≡ BLOCK_LEN * block + BLOCK_LEN - start =
    length-replicate {A = ℕ} (BLOCK_LEN * block + BLOCK_LEN - start) 0 in
    omega arith

job-piece : (core : Core) (place k : ℕ) → IsReached core →
    has_block (track core.tracks place).state k ≡ true → IsPart (track core.tracks place).span k →
    end_in (track core.tracks place).span k
    ≤ start_in (track core.tracks place).span k
    + length (piece_in (payload_at core.log place) (track core.tracks place).span k)
job-piece core place k reached has_it part =
    let known = whole reached in
    let some = some_place (λ s. has_block s k) refl core.tracks place has_it in
    let here : track core.tracks place ≡ at core (place - 1) =
    track_is core.tracks place (place - 1) some refl in
    let live : is_live (at core (place - 1)).state ≡ true =
    rw here at (block_lives (track core.tracks place).state k has_it) in
    let shaped : IsShaped (payload (slice_get core.log (place - 1)))
    (track core.tracks place).span =
    rw here (change-shaped core known.kept.logged (place - 1)
    (known.kept.logged.live_changes (place - 1) live)) in
    rw (payload-at core place some)
    (piece-long (payload (slice_get core.log (place - 1))) (track core.tracks place).span k shaped
    part)

-- where the piece begins in its block, and the piece
abbrev from_in : Core → ℕ → ℕ → ℕ
from_in core place k = start_in (track core.tracks place).span k - BLOCK_LEN * k

abbrev piece_of : Core → ℕ → ℕ → List ℕ
piece_of core place k =
    piece_in (payload_at core.log place) (track core.tracks place).span k

-- what stands where it was to go
abbrev left_of : Core → ℕ → ℕ → Seen BlockStep → List ℕ
left_of core place k seen =
    take (length (piece_of core place k)) (drop (from_in core place k) (content_of seen).bytes)

pub record IsSized (core : Core) (place k : ℕ) : Type 0 where
  pub starts : start_in (track core.tracks place).span k ≡ BLOCK_LEN * k + from_in core place k
  pub ends : end_in (track core.tracks place).span k
      ≡ BLOCK_LEN * k + from_in core place k + length (piece_of core place k)
  pub within : from_in core place k + length (piece_of core place k) ≤ BLOCK_LEN

job-sized : (core : Core) (place k : ℕ) → IsReached core →
    has_block (track core.tracks place).state k ≡ true → IsPart (track core.tracks place).span k →
    IsSized core place k
job-sized core place k reached has_it part =
    let long = job-piece core place k reached has_it part in
    let short = piece_fits (payload_at core.log place) (track core.tracks place).span k in
    let some = part.some in
    let low = part.low in
    let high = part.high in
    record {
      starts = omega (arith, low);
      ends = omega (arith, low, long, short, some);
      within = omega (arith, low, long, short, some, high);
    }

ranged-same : (seen : Seen BlockStep) (from len : ℕ) (image : Content) →
    IsBlockImage seen.history image → IsRangedFrom seen from len image
ranged-same seen from len image h = record {
  first = image;
  possible = h;
  within = record { tag = refl; size = refl; outside = λ k apart. refl };
}

ranged-more : (seen : Seen BlockStep) (from len : ℕ) (first image : Content) →
    IsRangedFrom seen from len first → DiffersWithin from len first image →
    IsRangedFrom seen from len image
ranged-more seen from len first image h more = record {
  first = h.first;
  possible = h.possible;
  within = record {
    tag = more.tag ∙ h.within.tag;
    size = more.size ∙ h.within.size;
    outside = λ k apart. more.outside k apart ∙ h.within.outside k apart;
  };
}

write-moments : (seen : Seen BlockStep) (from : ℕ) (bytes : List ℕ) → IsEvenBlock seen →
    from + length bytes ≤ BLOCK_LEN →
    Moments IsBlockImage (IsRangedFrom seen from (length bytes)) [] seen
    (Step seen.device true true ∷ []) (wrote from bytes seen)
write-moments seen from bytes full fits =
    on_write from bytes full.1 fits (begun [] seen (ranged-same seen from (length bytes))) refl
    (asks_one refl) (ranged-more seen from (length bytes))

torn-moments : (seen : Seen BlockStep) (from : ℕ) (left : List ℕ) → IsEvenBlock seen →
    from + length left ≤ BLOCK_LEN → content_of seen ≡ with_bytes from left (content_of seen) →
    Moments IsBlockImage (IsRangedFrom seen from (length left)) [] seen
    (Step seen.device true false ∷ []) (unwritten from (length left) seen)
torn-moments seen from left full fits same =
    on_torn from (length left) full.1 fits (begun [] seen (ranged-same seen from (length left)))
    (record {
      left = left;
      size = refl;
      is = ap (λ (c : Content).
          stepped (ranged from (length left) c) seen) same;
    })
    (asks_one refl) (ranged-more seen from (length left))

full-written : (seen : Seen BlockStep) (from : ℕ) (bytes : List ℕ) → IsEvenBlock seen →
    from + length bytes ≤ BLOCK_LEN → IsEvenBlock (wrote from bytes seen)
full-written seen from bytes full fits =
    let same = length-patched (content_of seen).bytes from bytes
    (let is = full.1 in omega (arith, is, fits)) in (full.0, same ∙ full.1)

-- the event of a write, and what the block is then
abbrev write_event : ℕ → ℕ → Bool → List ℕ → Event
write_event place k ok left = events.BlockWrite place k (what_is_left ok left)

left-length : (core : Core) (place k : ℕ) (seen : Seen BlockStep) → IsEvenBlock seen →
    IsSized core place k → length (left_of core place k seen) ≡ length (piece_of core place k)
left-length core place k seen full sized =
    let dropped = length-drop (from_in core place k) (content_of seen).bytes in
    let taken = length-take (length (piece_of core place k))
    (drop (from_in core place k) (content_of seen).bytes) in
    let within = sized.within in
    let is = full.1 in
    omega (arith, dropped, taken, within, is)

written-core : (world : World) (ino place k : ℕ) (ok : Bool) → AtWork ino world →
    (job : IsJobs world ino place k) →
    has_block (track (core_in world ino).tracks place).state k ≡ true →
    may (core_in world ino) (write_event place k ok
    (left_of (core_in world ino) place k (block_at world.drive job.block))) ≡ true →
    Shows (file_in world ino).ino (after (core_in world ino) (write_event place k ok
    (left_of (core_in world ino) place k (block_at world.drive job.block))))
    (with_block k (Some (seen_after ok
    (put_bytes (from_in (core_in world ino) place k) (piece_of (core_in world ino) place k))
    (block_at world.drive job.block))) (devices_of_file world.drive (file_in world ino)))
written-core world ino place k true work job has_it may_be =
    let core : Core = core_in world ino in
    let seen : Seen BlockStep = block_at world.drive job.block in
    let sized = job-sized core place k job.core_reached has_it job.part in
    (writes-show (file_in world ino).ino (length core.log + 2) place k (from_in core place k) None
    (piece_of core place k) core (devices_of_file world.drive (file_in world ino)) seen
    (wrote (from_in core place k) (piece_of core place k) seen) [] _
    (good-kept _ (whole (reaching.comes core (events.BlockWrite place k None) job.core_reached
    may_be)).kept)
    job.shows may_be (omega arith)
    (ap (λ o. option_map (block_at world.drive) o) job.here)
    (record { starts = sized.starts; ends = sized.ends; within = sized.within; is = refl })
    job.full.1 refl
    (write-moments seen (from_in core place k) (piece_of core place k) job.full sized.within)).1
written-core world ino place k false work job has_it may_be =
    let core : Core = core_in world ino in
    let seen : Seen BlockStep = block_at world.drive job.block in
    let left : List ℕ = left_of core place k seen in
    let sized = job-sized core place k job.core_reached has_it job.part in
    let same = left-length core place k seen job.full sized in
    let fits : from_in core place k + length left ≤ BLOCK_LEN =
    (let within = sized.within in omega (arith, within, same)) in
    let is : content_of seen ≡ with_bytes (from_in core place k) left (content_of seen) =
    ap (λ bytes. record { tag = (content_of seen).tag; bytes = bytes })
    (sym (patched_same (content_of seen).bytes (from_in core place k)
    (length (piece_of core place k))
    (let within = sized.within in let is = job.full.1 in omega (arith, within, is)))) in
    (writes-show (file_in world ino).ino (length core.log + 2) place k (from_in core place k)
    (Some left) left core (devices_of_file world.drive (file_in world ino)) seen
    (unwritten (from_in core place k) (length (piece_of core place k)) seen) [] _
    (good-kept _ (whole (reaching.comes core (events.BlockWrite place k (Some left))
    job.core_reached may_be)).kept)
    job.shows may_be (omega arith)
    (ap (λ o. option_map (block_at world.drive) o) job.here)
    (record {
      starts = sized.starts;
      ends = (let e = sized.ends in omega (arith, e, same));
      within = fits;
      is = refl;
    })
    job.full.1 is
    (subst (λ n. Moments IsBlockImage (IsRangedFrom seen (from_in core place k) (length left)) []
    seen (Step seen.device true false ∷ []) (unwritten (from_in core place k) n seen)) same
    (torn-moments seen (from_in core place k) left job.full fits is))).1

full-write : (ok : Bool) (seen : Seen BlockStep) (from : ℕ) (bytes : List ℕ) →
    IsEvenBlock seen → from + length bytes ≤ BLOCK_LEN →
    IsEvenBlock (seen_after ok (put_bytes from bytes) seen)
full-write true seen from bytes full fits = full-written seen from bytes full fits
full-write false seen from bytes full fits = full

-- a write that may come is one of a job's block
write-flushes : (core : Core) (place k : ℕ) (ok : Bool) (left : List ℕ) →
    may core (write_event place k ok left) ≡ true → may_flush core place k ≡ true
write-flushes core place k true left may_be = may-case core (events.BlockWrite place k None) may_be
write-flushes core place k false left may_be =
    (and_parts (may_flush core place k) _
    (may-case core (events.BlockWrite place k (Some left)) may_be)).0

-- the block's number
abbrev number_at : World → ℕ → ℕ → ℕ
number_at world ino k = unwrap_or (block_of (file_in world ino) k) 0

abbrev write_op : World → ℕ → ℕ → ℕ → BlockOp
write_op world ino place k =
    put_bytes (from_in (core_in world ino) place k) (piece_of (core_in world ino) place k)

-- what is read back behind a write that failed
read-back : (world : World) (ino place k : ℕ) (asked : List Asked) →
    number_at world ino k < length world.drive.blocks →
    take (length (piece_of (core_in world ino) place k)) (drop (from_in (core_in world ino) place k)
    (content_at (with_seen (number_at world ino k)
    (seen_after false (write_op world ino place k) (block_at world.drive (number_at world ino k)))
    asked world.drive) (number_at world ino k)).bytes)
    ≡ left_of (core_in world ino) place k (block_at world.drive (number_at world ino k))
read-back world ino place k asked low =
    ap (λ (s : Seen BlockStep). take (length (piece_of (core_in world ino) place k))
    (drop (from_in (core_in world ino) place k) (content_of s).bytes))
    (get_or-set_same world.drive.blocks (number_at world ino k) _ _ low)

same-left : (ok : Bool) (one other : List ℕ) → (ok ≡ false → one ≡ other) →
    what_is_left ok one ≡ what_is_left ok other
same-left true one other same = refl
same-left false one other same = ap (λ l. Some l) (same refl)

written-shown : (world : World) (ino place k : ℕ) (ok : Bool) (asked : List Asked)
    (left : List ℕ) → AtWork ino world →
    may (core_in world ino) (write_event place k ok left) ≡ true →
    left ≡ take (length (piece_of (core_in world ino) place k))
    (drop (from_in (core_in world ino) place k)
    (content_at (with_seen (number_at world ino k)
    (seen_after ok (write_op world ino place k) (block_at world.drive (number_at world ino k)))
    asked world.drive) (number_at world ino k)).bytes) →
    IsShown (record
    (with_core ino (after (core_in world ino) (write_event place k ok left)) world) {
      drive = with_seen (number_at world ino k)
          (seen_after ok (write_op world ino place k)
          (block_at world.drive (number_at world ino k))) asked world.drive;
    })
written-shown world ino place k ok asked left work may_be left_is =
    let core : Core = core_in world ino in
    let flushes = write-flushes core place k ok left may_be in
    let has_it = (and_parts (nat_lt k FILE_BLOCKS) _ flushes).1 in
    let job = job-block world ino place k work flushes in
    let number : number_at world ino k ≡ job.block = ap (λ o. unwrap_or o 0) job.here in
    let low : number_at world ino k < length world.drive.blocks =
    subst (λ b. b < length world.drive.blocks) (sym number) job.within in
    let stands : what_is_left ok left
    ≡ what_is_left ok (left_of core place k (block_at world.drive job.block)) =
    same-left ok left _ (λ failed.
    (left_is
    ∙ ap (λ b. take (length (piece_of core place k)) (drop (from_in core place k)
    (content_at (with_seen (number_at world ino k)
    (seen_after b (write_op world ino place k) (block_at world.drive (number_at world ino k)))
    asked world.drive) (number_at world ino k)).bytes)) failed
    ∙ read-back world ino place k asked low
    ∙ ap (λ b. left_of core place k (block_at world.drive b)) number)) in
    let sized = job-sized core place k job.core_reached has_it job.part in
    subst (λ b. IsShown (record
    (with_core ino (after core (write_event place k ok left)) world) {
      drive = with_seen b (seen_after ok (write_op world ino place k) (block_at world.drive b))
          asked world.drive;
    })) (sym number)
    (subst (λ l. IsShown (record
    (with_core ino (after core (events.BlockWrite place k l)) world) {
      drive = with_seen job.block
          (seen_after ok (write_op world ino place k) (block_at world.drive job.block))
          asked world.drive;
    })) (sym stands)
    (block-shown world ino k job.block _ _ asked job.file job.found job.here
    (full-write ok (block_at world.drive job.block) (from_in core place k) (piece_of core place k)
    job.full sized.within)
    (λ up. written-core world ino place k ok work job has_it
    (subst (λ l. may core (events.BlockWrite place k l) ≡ true) stands may_be))
    (less-after core (events.BlockWrite place k _) refl
    (subst (λ l. may core (events.BlockWrite place k l) ≡ true) stands may_be)) work.shown))

-- the world with all but what the power was asked
abbrev pub IsAskedOf : World → World → Type 0
IsAskedOf x w = (asked : List Asked) × (w ≡ record x { drive = record x.drive { asked = asked } })

write-tries : (x : World) (ino place k : ℕ) (w : World) → IsAskedOf x w →
    IsBehindOp x (number_at x ino k) (write_op x ino place k)
    (attempt (Block (number_at x ino k) (write_op x ino place k) ∷ []) w.drive).whole
    (with_attempt (Block (number_at x ino k) (write_op x ino place k) ∷ []) w)
write-tries x ino place k w of =
    subst (λ v. IsBehindOp x (number_at x ino k) (write_op x ino place k)
    (attempt (Block (number_at x ino k) (write_op x ino place k) ∷ []) v.drive).whole
    (with_attempt (Block (number_at x ino k) (write_op x ino place k) ∷ []) v)) (sym of.1)
    (behind-op (record x { drive = record x.drive { asked = of.0 } }) (number_at x ino k)
    (write_op x ino place k))

write-comes : (x : World) (ino place k : ℕ) (ok : Bool) (behind w : World) → AtWork ino x →
    IsBehindOp x (number_at x ino k) (write_op x ino place k) ok w → w ≡ behind →
    may (core_in w ino) (write_event place k ok (take (length (piece_of (core_in x ino) place k))
    (drop (from_in (core_in x ino) place k)
    (content_at behind.drive (number_at x ino k)).bytes))) ≡ true →
    IsShown (with_core ino (after (core_in w ino) (write_event place k ok
    (take (length (piece_of (core_in x ino) place k)) (drop (from_in (core_in x ino) place k)
    (content_at behind.drive (number_at x ino k)).bytes)))) w)
write-comes x ino place k ok behind w work op same may_be =
    subst (λ v. may (core_in v ino) (write_event place k ok (read behind)) ≡ true →
    IsShown (with_core ino (after (core_in v ino) (write_event place k ok (read behind))) v))
    (sym op.1)
    (λ may_now. written-shown x ino place k ok op.0 (read behind) work may_now
    (ap read (sym same ∙ op.1))) may_be
  where
    read : World → List ℕ
    read v = take (length (piece_of (core_in x ino) place k))
        (drop (from_in (core_in x ino) place k) (content_at v.drive (number_at x ino k)).bytes)

pub write-shown : (ino place k : ℕ) →
    Leaves (AtWork ino) (λ u. IsShown) IsShown (write_block ino place k)
write-shown ino place k =
    leave-look (λ x.
    leave-then {Q = λ u w. AtWork ino x × IsAskedOf x w} (reads x) (λ u.
    leave-then {Q = λ ok w. AtWork ino x
    × IsBehindOp x (number_at x ino k) (write_op x ino place k) ok w}
    (leave-tries (λ w holds. (holds.0, write-tries x ino place k w holds.1))) (λ ok.
    leave-look (λ behind.
    leave-then {Q = λ v. IsShown}
    (leave-event (λ w holds may_be.
    write-comes x ino place k ok behind w holds.1.0 holds.1.1 holds.0 may_be)) (λ v.
    leave-unless ok (λ w shown. shown) (λ w shown. shown))))))
  where
    asked-work : (x w : World) → AtWork ino x → IsAskedOf x w → IsShown w
    asked-work x w work of = subst IsShown (sym of.1) (asked-shown x of.0 work.shown)

    tried : (x w : World) (ops : List Op) → AreReads ops → (w ≡ x) →
        IsAskedOf x (with_attempt ops w)
    tried x w ops reading same =
        subst (λ v. IsAskedOf x (with_attempt ops v)) (sym same)
        (let only = reads-only ops reading x.drive in
        (only.0, ap (λ d. record x { drive = d }) only.1))

    reads : (x : World) → Leaves (λ w. (w ≡ x) × AtWork ino w)
        (λ u w. AtWork ino x × IsAskedOf x w) IsShown
        (steps
        (part_read (devices_of (held_at (file_in x ino) place))
        (payload_at (core_in x ino).log place) (track (core_in x ino).tracks place).span k))
    reads x =
        leave-then {Q = λ b w. AtWork ino x × IsAskedOf x w}
        (leave-tries (λ w holds. (
          subst (AtWork ino) holds.0 holds.1,
          tried x w
              (part_read (devices_of (held_at (file_in x ino) place))
              (payload_at (core_in x ino).log place) (track (core_in x ino).tracks place).span k)
              (part-reads (devices_of (held_at (file_in x ino) place))
              (payload_at (core_in x ino).log place) (track (core_in x ino).tracks place).span k)
              holds.0,
        ))) (λ b.
        leave-unless b (λ w holds. holds) (λ w holds. asked-work x w holds.0 holds.1))

-- ---- the next step of a job

next-shown : (ino place : ℕ) (one other : Option Lease) →
    Leaves (AtWork ino) (λ u. IsShown) IsShown (next_step ino place one other)
next-shown ino place (Some lease) other = write-shown ino place lease.block
next-shown ino place None (Some lease) = flush-shown ino place lease.block
next-shown ino place None None = leave-give (λ w work. work.shown)

pub apply-shown : (ino place : ℕ) → Leaves (AtWork ino) (λ u. IsShown) IsShown (apply ino place)
apply-shown ino place =
    leave-look (λ x.
    leave-weaker {P = AtWork ino} (λ w holds. holds.1) (λ u w q. q) (λ w e. e)
    (next-shown ino place (find (λ l. not l.written) (leases_at x ino place))
    (find (λ l. not l.flushed) (leases_at x ino place))))
