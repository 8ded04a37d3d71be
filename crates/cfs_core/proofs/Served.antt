-- The bytes of a read that may be served are those that it asks for, of the file before it.
use Rattle.std.proofs.Common.{◌≡◌, inr, ℕ, ◌+◌, ◌-◌, ◌/◌, ◌<◌, ◌≤◌, ◌==◌, Bool, true, false, ◌&&◌, not, if◌then◌else◌, Some, List, length, take, drop, min, get_or, nat_lt, arith, refl, sym, ◌∙◌, length-take, length-drop, get_or-take, get_or-drop, ext_get_or}
use Rattle.std.specs.List.{list_any, slice_get}
use Rattle.std.proofs.lemmas.Bool.Decides.{nat_tests}
use Rattle.std.proofs.lemmas.List.{nil_from_length}
use Rattle.cfs_file.specs.declared.entry.Entry.{Entry}
use Rattle.cfs_file.specs.declared.request.Request.{Request}
use Rattle.cfs_file.specs.declared.request.Request.TheVariants as requests
use Rattle.cfs_file.specs.declared.span.Span.TheVariants.{Nothing, Range}
use Rattle.cfs_file.specs.File.{answer}
use Rattle.cfs_file.specs.Span.{Holds, between, meets, span}
use Rattle.cfs_file.proofs.Spans.{meets-overlap}
use Rattle.cfs_file.specs.declared.sizes.TheConstants.{BLOCK_LEN}
use Rattle.cfs_core.specs.declared.flag.Flag.{Flag}
use Rattle.cfs_core.specs.declared.flag.Flag.TheVariants.{Off, On, Unsure}
use Rattle.cfs_core.specs.declared.event.Event.TheVariants as events
use Rattle.cfs_core.specs.declared.inode_core.Core.{Core}
use Rattle.cfs_core.specs.Words.{blocks_needed, is_lent, is_live, is_on, is_unserved, track}
use Rattle.cfs_core.specs.Medium.{is_loose, is_size, reads, rests, rests_as}
use Rattle.cfs_core.specs.May.{are_stored, is_in_phase, is_query, is_sync, is_sync_at, is_sync_request, may, meets_live, may_serve, must_wait, read_alike}
use Rattle.cfs_core.specs.Good.{bytes_of, file_before}
use Rattle.cfs_core.proofs.Apart.{none_before, not_true}
use Rattle.cfs_core.proofs.Kept.{IsFree, IsKept, IsUnserved, IsView, at, file_at, is_asking}
use Rattle.cfs_core.proofs.Legal.{both, same_number}
use Rattle.cfs_core.proofs.Order.{in_range, some_place, track_is}

-- ---- what is read where a byte rests

reads_byte : (within : Bool) (flag : Flag) (loose : Bool) (stands byte : ℕ) →
    (within ≡ false → byte ≡ 0) → rests_as flag loose stands byte ≡ true →
    (if within && is_on flag then stands else 0) ≡ byte
reads_byte false flag loose stands byte none h = sym (none refl)
reads_byte true Off loose stands byte none h = sym (same_number byte 0 h)
reads_byte true On loose stands byte none h =
    same_number stands byte (both (not loose) (stands == byte) h).1
reads_byte true Unsure loose stands byte none h =
    sym (same_number byte 0 (both (stands == byte) (byte == 0)
    (both (not loose) ((stands == byte) && (byte == 0)) h).1).1)

pub reads-rests : (core : Core) (p byte : ℕ) → rests core p byte ≡ true →
    (core.size ≤ p → byte ≡ 0) → reads core p ≡ byte
reads-rests core p byte rest past =
    reads_byte (nat_lt p core.size) (get_or core.tags (p / BLOCK_LEN) Off) (is_loose core.loose p)
    (get_or core.bytes p 0) byte
    (λ no_more. past (up no_more)) rest
  where
    up : nat_lt p core.size ≡ false → core.size ≤ p
    up no_more = grind (arith, nat_tests)

-- ---- the bytes of a read

read-bytes : (core : Core) (f : List ℕ) (offset count : ℕ) (bytes : List ℕ) →
    are_stored core (between offset (offset + min (length f - offset) count)) bytes ≡ true →
    ((p : ℕ) → Holds (between offset (offset + min (length f - offset) count)) p →
    reads core p ≡ get_or f p 0) →
    bytes ≡ take count (drop offset f)
read-bytes core f offset count bytes stored same =
    by (nat_lt offset (offset + min (length f - offset) count)) refl
  where
    one : (k : ℕ) → k < min (length f - offset) count →
        between offset (offset + min (length f - offset) count)
        ≡ Range offset (offset + min (length f - offset) count) →
        read_alike core (Range offset (offset + min (length f - offset) count)) bytes ≡ true →
        get_or bytes k 0 ≡ get_or (take count (drop offset f)) k 0
    one k within some each =
        let tested =
        in_range (λ p. get_or bytes (p - offset) 0 == reads core p) offset
        ((offset + min (length f - offset) count) - offset) (offset + k) each (omega arith)
        (omega arith) in
        let back : (offset + k) - offset ≡ k = omega arith in
        let read : get_or bytes k 0 ≡ reads core (offset + k) =
        rw back at (same_number (get_or bytes ((offset + k) - offset) 0)
        (reads core (offset + k)) tested) in
        let holds : Holds (between offset (offset + min (length f - offset) count)) (offset + k) =
        rw some (omega arith, omega arith) in
        read ∙ (same (offset + k) holds
        ∙ (sym (get_or-drop offset f k 0)
        ∙ sym (get_or-take count (drop offset f) k 0 (omega arith))))

    by : (b : Bool) → nat_lt offset (offset + min (length f - offset) count) ≡ b →
        bytes ≡ take count (drop offset f)
    by false is =
        let none : between offset (offset + min (length f - offset) count) ≡ Nothing = rw is refl in
        let at_none : are_stored core Nothing bytes ≡ true = rw none at stored in
        let parts = both (length bytes == 0 - 0) (read_alike core Nothing bytes) at_none in
        let empty : length bytes ≡ 0 = same_number (length bytes) 0 parts.0 in
        let short : min (length f - offset) count ≡ 0 = grind (arith, nat_tests) in
        nil_from_length bytes empty
        ∙ sym (nil_from_length (take count (drop offset f))
        (omega (arith, length-take count (drop offset f), length-drop offset f)))
    by true is =
        let some : between offset (offset + min (length f - offset) count)
        ≡ Range offset (offset + min (length f - offset) count) = rw is refl in
        let at_some : are_stored core (Range offset (offset + min (length f - offset) count)) bytes
        ≡ true = rw some at stored in
        let parts =
        both (length bytes == (offset + min (length f - offset) count) - offset)
        (read_alike core (Range offset (offset + min (length f - offset) count)) bytes)
        at_some in
        let size : length bytes ≡ (offset + min (length f - offset) count) - offset =
        same_number (length bytes) _ parts.0 in
        ext_get_or 0 bytes (take count (drop offset f))
        (omega (arith, length-take count (drop offset f), length-drop offset f))
        (λ k within. one k (omega arith) some parts.1)

-- ---- a read or a sync that may be served

-- a position of an unserved read that no earlier live entry overlaps
view-reads : (core : Core) → IsKept core → (k p : ℕ) → IsUnserved core k →
    Holds (at core k).span p →
    ((i : ℕ) → i < k → is_live (at core i).state ≡ true →
    meets (at core i).span (at core k).span ≡ false) → reads core p ≡ get_or (file_at core k) p 0
view-reads core kept k p unserved holds clear =
    let view : IsView core k p = inr (unserved, holds) in
    let free : IsFree core k p = (λ i less live alters. overlap i (clear i less live) alters.1) in
    reads-rests core p (get_or (file_at core k) p 0) (kept.stored_.rests_free k p view free)
    (λ past. kept.stored_.zero_past k core.size p view its_size past free)
  where
    overlap : (i : ℕ) → meets (at core i).span (at core k).span ≡ false → Holds (at core i).span p →
        ⊥
    overlap i none first =
        let some : meets (at core i).span (at core k).span ≡ true =
        (meets-overlap (at core i).span (at core k).span).1 (p, (first, holds)) in
        cc

    its_size : is_size core core.size ≡ true
    its_size = let same : (core.size == core.size) ≡ true = grind (arith, nat_tests) in rw same refl

answer-served : (core : Core) → IsKept core → (k : ℕ) (request : Request) (bytes : List ℕ) →
    IsUnserved core k → is_query request ≡ true →
    (at core k).span ≡ span request (length (file_at core k)) →
    are_stored core (at core k).span bytes ≡ true →
    (((request ≡ requests.Sync) → ⊥) → (i : ℕ) → i < k → is_live (at core i).state ≡ true →
    meets (at core i).span (at core k).span ≡ false) →
    bytes ≡ bytes_of (answer (file_at core k) request)
answer-served core kept k (requests.Write offset given) bytes unserved query its stored clear = cc
answer-served core kept k (requests.Append given) bytes unserved query its stored clear = cc
answer-served core kept k (requests.Truncate n) bytes unserved query its stored clear = cc
answer-served core kept k (requests.Read offset count) bytes unserved query its stored clear =
    read-bytes core (file_at core k) offset count bytes (rw its at stored)
    (λ p holds. view-reads core kept k p unserved (rw its holds) (clear (λ is. cc)))
answer-served core kept k requests.Sync bytes unserved query its stored clear =
    let at_none : are_stored core Nothing bytes ≡ true = rw its at stored in
    nil_from_length bytes (same_number (length bytes) 0
    (both (length bytes == 0 - 0) (read_alike core Nothing bytes) at_none).0)

pub served : (core : Core) → IsKept core → (place : ℕ) (bytes : List ℕ) (entry : Entry) →
    may core (events.Serve place (Some bytes)) ≡ true →
    slice_get core.log (place - 1) ≡ Some entry →
    bytes ≡ bytes_of (answer (file_before core place) entry.request)
served core kept place bytes entry may_be is =
    let allowed =
    (both (is_in_phase core.crashed (events.Serve place (Some bytes)))
    (may_serve core place (Some bytes)) may_be).1 in
    let a = both (is_unserved (track core.tracks place).state)
    (not (must_wait core place)
    && (not (list_any (λ k. is_lent core.tracks k) (blocks_needed (track core.tracks place).span))
    && are_stored core (track core.tracks place).span bytes)) allowed in
    let b = both (not (must_wait core place))
    (not (list_any (λ k. is_lent core.tracks k) (blocks_needed (track core.tracks place).span))
    && are_stored core (track core.tracks place).span bytes) a.1 in
    let c = both (not (list_any (λ k. is_lent core.tracks k)
    (blocks_needed (track core.tracks place).span)))
    (are_stored core (track core.tracks place).span bytes) b.1 in
    let some = some_place is_unserved refl core.tracks place a.0 in
    let here : track core.tracks place ≡ at core (place - 1) =
    track_is core.tracks place (place - 1) some refl in
    let asking : is_asking (slice_get core.log (place - 1)) ≡ true =
    kept.logged.queries (place - 1) (rw here at a.0) in
    let query : is_query entry.request ≡ true = rw is at asking in
    let none = not_true (must_wait core place) b.0 in
    answer-served core kept (place - 1) entry.request bytes (rw here at a.0) query
    (kept.logged.spans (place - 1) entry is) (rw here at c.1)
    (λ no_sync i less live.
    rw here at (none_before is_live refl core.tracks place (track core.tracks place).span
    (no_sync_at some no_sync none) i less live))
  where
    plain : (request : Request) → (request ≡ requests.Sync → ⊥) → is_sync_request request ≡ false
    plain (requests.Write offset given) no_sync = refl
    plain (requests.Append given) no_sync = refl
    plain (requests.Truncate n) no_sync = refl
    plain (requests.Read offset count) no_sync = refl
    plain requests.Sync no_sync = absurd (no_sync refl)

    no_sync_at : (place ≡ 0 → ⊥) → (entry.request ≡ requests.Sync → ⊥) →
        must_wait core place ≡ false →
        meets_live core.tracks place (track core.tracks place).span ≡ false
    no_sync_at some no_sync none =
        let test : (place == 0) ≡ false = grind (arith, nat_tests) in
        let own : is_sync_at core.log place ≡ is_sync (Some entry) = rw (test, is) refl in
        let not_one : is_sync (Some entry) ≡ false = plain entry.request no_sync in
        let off : is_sync_at core.log place ≡ false = own ∙ not_one in
        rw off at none
