-- The part of a request in a block of its file.
use Rattle.std.proofs.Common.{ℕ, zero, suc, ◌+◌, ◌-◌, ◌*◌, ◌/◌, ◌%◌, ◌<◌, ◌≤◌, ◌≡◌, ◌∙◌, ◌==◌, Bool, true, false, cond, nat_lt, Result, Ok, Err, OnOk, List, [], ◌∷◌, ◌++◌, length, map, take, drop, min, max, get_or, if◌then◌else◌, refl, sym, ap, subst, arith, length-append}
use Rattle.std.proofs.Math.ListN.{replicate}
use Rattle.std.proofs.lemmas.Bool.{ltb-true}
use Rattle.std.proofs.lemmas.List.{take-replicate}
use Rattle.std.proofs.lemmas.Simd.{map-map}
use Rattle.std.proofs.Math.Seq.{take-append_seam}
use Rattle.cfs_file.specs.Span.{meets, span}
use Rattle.cfs_file.specs.declared.request.Request.TheVariants.{Write, Truncate}
use Rattle.cfs_file.specs.declared.sizes.TheConstants.{BLOCK_LEN, FILE_BLOCKS}
use Rattle.cfs_file.specs.declared.span.Span.{Span}
use Rattle.cfs_file.specs.declared.span.Span.TheVariants.{Nothing, Range, From}
use Rattle.cfs_core.specs.Words.{block_span, end_in, piece_in, start_in}
use Rattle.cfs_core.proofs.Legal.{both}
use Rattle.cfs_pmem.specs.Images.{Seen, WordStep, words_of}
use Rattle.cfs_block.specs.BlockImages.{zeros}
use Rattle.cfs_block.proofs.BlockLemmas.{zeros-are}
use Rattle.cfs_slot.specs.declared.live.Live.{Live}
use Rattle.cfs_slot.specs.Payload.{area_reads, payload_reads, reads_from}
use Rattle.cfs_slot.specs.Reads.{payload_in, regions_of}
use Rattle.cfs_slot.specs.Regions.{devices_in, of_live, tails_of_live}
use Rattle.cfs_slot.specs.Words.{kind_of, offset_of, payload_of}
use Rattle.cfs_job.specs.Ops.{count_in, devices_seen, piece_reads}
use Rattle.cfs_job.specs.Stands.{IsSpanOf, is_touched}
use Rattle.cfs_job.specs.Views.{payload_seen}

-- some positions of the span are in the block, and its part lies in it
pub record IsWithin (s : Span) (at : ℕ) : Type 0 where
  pub below : at < 256
  pub starts : 4096 * at ≤ start_in s at
  pub some : start_in s at < end_in s at
  pub ends : end_in s at ≤ 4096 * at + 4096

less : (a b : ℕ) → nat_lt a b ≡ true → a < b
less a b h = ltb-true a b h

pub within : (s : Span) (at : ℕ) → is_touched s at ≡ true → IsWithin s at
within Nothing at h = let p = both (nat_lt at FILE_BLOCKS) false h in cc
within (Range from to) at h =
    let p = both (nat_lt at FILE_BLOCKS) (meets (Range from to) (block_span at)) h in
    let below : at < 256 = less at FILE_BLOCKS p.0 in
    let some : max from (BLOCK_LEN * at) < min to (BLOCK_LEN * at + BLOCK_LEN) =
    less (max from (BLOCK_LEN * at)) (min to (BLOCK_LEN * at + BLOCK_LEN)) p.1 in
    record { below = below; starts = omega arith; some = some; ends = omega arith }
within (From from) at h =
    let p = both (nat_lt at FILE_BLOCKS) (meets (From from) (block_span at)) h in
    let below : at < 256 = less at FILE_BLOCKS p.0 in
    let some : max (BLOCK_LEN * at) from < BLOCK_LEN * at + BLOCK_LEN =
    less (max (BLOCK_LEN * at) from) (BLOCK_LEN * at + BLOCK_LEN) p.1 in
    record { below = below; starts = omega arith; some = omega arith; ends = omega arith }

-- the request of a range has as many bytes as the range has positions

between_is : (test : Bool) (from to a b : ℕ) → Range from to ≡ cond test (Range a b) Nothing → (from ≡ a) × (to ≡ b)
between_is true from to a b e = (cc, cc)
between_is false from to a b e = absurd (cc)

write_is : (cuts : Bool) (off : ℕ) (bytes : List ℕ) (from to : ℕ) → Range from to ≡ span (if cuts then Truncate off else Write off bytes) 0 → from + length bytes ≡ to
write_is true off bytes from to e = absurd (cc)
write_is false off bytes from to e =
    let is = between_is (nat_lt off (off + length bytes)) from to off (off + length bytes) e in
    omega (arith, is.0, is.1)

pub span_bytes : (slots : List (Seen WordStep)) (from to : ℕ) → IsSpanOf (Range from to) slots → from + length (payload_seen slots) ≡ to
span_bytes [] from to e = absurd (cc)
span_bytes (head ∷ tails) from to e =
    write_is (kind_of (words_of head) == 2) (offset_of (words_of head)) (payload_of (words_of head) (map words_of tails)) from to e

-- what the slots hold, told by the regions and by what is seen of them

pub payload_same : {R : Type 0} {g : _} (seen : R → Seen WordStep) (live : Live R g) → payload_in seen live ≡ payload_seen (map seen (regions_of live))
payload_same seen live =
    ap (λ ts. payload_of (words_of (seen (of_live live))) ts) (sym (map-map words_of seen (tails_of_live live)))

pub devices_same : {R : Type 0} (seen : R → Seen WordStep) (regions : List R) → devices_in seen regions ≡ devices_seen (map seen regions)
devices_same seen regions = sym (map-map (λ (s : Seen WordStep). s.device) seen regions)

-- there are reads where there are bytes

count_reads : (device at n : ℕ) → length (reads_from device at n) ≡ n
count_reads device at zero = refl
count_reads device at (suc n) = ap (λ k. suc k) (count_reads device at n)

pub some_reads : (devices : List ℕ) (from len : ℕ) → 0 < len → 0 < length (payload_reads devices from len)
some_reads devices from len some =
    let near : ℕ = min len (4096 - from % 4096) in
    let device : ℕ = get_or devices (from / 4096) 0 in
    let low : ℕ = from % 4096 in
    let room : low < 4096 = omega arith in
    let more : 0 < near = omega arith in
    let up : 0 < (low + near + 7) / 8 - low / 8 = omega arith in
    let here : 0 < length (area_reads device low (low + near)) =
    omega (arith, count_reads device (6 + low / 8) ((low + near + 7) / 8 - low / 8)) in
    omega (arith, length-append (area_reads (get_or devices (from / 4096 + 1) 0) 0 (len - near)) (area_reads device low (low + near)))

-- ---- the bytes of a write in a block, as they are read from the slots

-- a call that reads `len` bytes from `skip` on
pub record IsRoom (slots : List (Seen WordStep)) (s : Span) (at from len : ℕ) : Type 0 where
  pub below : at < 256
  pub skip : from ≤ start_in s at
  pub some : 0 < len
  pub few : len ≤ 4096
  pub room : (start_in s at - from) + len ≤ length (payload_seen slots)

range_room : (slots : List (Seen WordStep)) (at from to : ℕ) → IsSpanOf (Range from to) slots → is_touched (Range from to) at ≡ true
    → IsRoom slots (Range from to) at from (count_in (Range from to) at)
range_room slots at from to spans touched =
    let w : IsWithin (Range from to) at = within (Range from to) at touched in
    let all : from + length (payload_seen slots) ≡ to = span_bytes slots from to spans in
    let skip : from ≤ start_in (Range from to) at = omega arith in
    let last : end_in (Range from to) at ≤ to = omega arith in
    record {
      below = w.below;
      skip = skip;
      some = omega (arith, w.some);
      few = omega (arith, w.starts, w.some, w.ends);
      room = omega (arith, w.some, all, last, skip);
    }

pub read_room : (slots : List (Seen WordStep)) (s : Span) (at from to : ℕ) → s ≡ Range from to → IsSpanOf s slots → is_touched s at ≡ true
    → IsRoom slots s at from (count_in s at)
read_room slots s at from to is spans touched =
    subst (λ p. IsRoom slots p at from (count_in p at)) (sym is)
    (range_room slots at from to (subst (λ p. IsSpanOf p slots) is spans) (subst (λ p. is_touched p at ≡ true) is touched))

-- what is read is the request's piece, and so are the reads
pub piece_read : (payload : List ℕ) (s : Span) (at from to : ℕ) → s ≡ Range from to
    → take (count_in s at) (drop (start_in s at - from) payload) ≡ piece_in payload s at
piece_read payload s at from to is =
    subst (λ p. take (count_in p at) (drop (start_in p at - from) payload) ≡ piece_in payload p at) (sym is) refl

pub reads_are : (devices : List ℕ) (s : Span) (at from to : ℕ) → s ≡ Range from to
    → payload_reads devices (start_in s at - from) (count_in s at) ≡ piece_reads devices s at
reads_are devices s at from to is =
    subst (λ p. payload_reads devices (start_in p at - from) (count_in p at) ≡ piece_reads devices p at) (sym is) refl

pub reads_some : (devices : List ℕ) (s : Span) (at from to : ℕ) → s ≡ Range from to → 0 < count_in s at → 0 < length (piece_reads devices s at)
reads_some devices s at from to is some =
    subst (λ rs. 0 < length rs) (reads_are devices s at from to is) (some_reads devices (start_in s at - from) (count_in s at) some)

-- a block of `Nothing` is none that a job has
pub not_nothing : (s : Span) (at : ℕ) → s ≡ Nothing → is_touched s at ≡ true → ⊥
not_nothing s at is touched = omega (arith, (within Nothing at (subst (λ p. is_touched p at ≡ true) is touched)).some)

pub ok_also : {T E : Type 0} {P Q : Type 0} (result : Result T E) → (P → Q) → OnOk result P → OnOk result Q
ok_also (Ok t) f p = f p
ok_also (Err e) f p = tt

-- the piece of a truncate
pub zeros_are : (s : Span) (at from : ℕ) (payload : List ℕ) → s ≡ From from → replicate (count_in s at) 0 ≡ piece_in payload s at
zeros_are s at from payload is = subst (λ p. replicate (count_in p at) 0 ≡ piece_in payload p at) (sym is) refl

pub no_reads : (devices : List ℕ) (s : Span) (at from : ℕ) → s ≡ From from → piece_reads devices s at ≡ []
no_reads devices s at from is = subst (λ p. piece_reads devices p at ≡ []) (sym is) refl

-- ---- the buffer

pub blank_piece : (s : Span) (at count : ℕ) (area : List ℕ) → area ≡ zeros → count ≡ count_in s at → is_touched s at ≡ true
    → take count area ≡ replicate (count_in s at) 0
blank_piece s at count area blank size touched =
    let w : IsWithin s at = within s at touched in
    let few : count_in s at ≤ 4096 = omega (arith, w.starts, w.some, w.ends) in
    ap (λ n. take n area) size ∙ ap (λ xs. take (count_in s at) xs) (blank ∙ zeros-are) ∙ take-replicate (count_in s at) 4096 0 few

-- what was put over its front
pub front_is : (count n : ℕ) (out rest : List ℕ) → length out ≡ n → count ≡ n → take count (out ++ rest) ≡ out
front_is count n out rest size is = ap (λ k. take k (out ++ rest)) (is ∙ sym size) ∙ take-append_seam out rest
