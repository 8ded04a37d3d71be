-- What a job's blocks keep at each step.
use Rattle.std.proofs.Common.{ℕ, zero, suc, ◌+◌, ◌-◌, ◌<◌, ◌≤◌, ◌≡◌, ◌∙◌, Bool, true, false, Result, Ok, Err, List, [], ◌∷◌, ◌++◌, length, take, drop, is_ok, refl, sym, ap, subst, arith}
use Rattle.std.proofs.lemmas.List.{length-drop, length-replicate, length-take-le}
use Rattle.std.proofs.Math.Seq.{drop-append-add, take-append_seam}
use Rattle.cfs_file.specs.declared.span.Span.{Span}
use Rattle.cfs_file.specs.declared.span.Span.TheVariants.{Nothing, Range, From}
use Rattle.cfs_core.specs.Words.{piece_in, start_in}
use Rattle.cfs_pmem.specs.declared.trace.Asked.{Asked}
use Rattle.cfs_pmem.specs.Images.{Seen, WordStep, patched}
use Rattle.cfs_pmem.specs.Operations.{LastFails}
use Rattle.cfs_pmem.proofs.MomentLemmas.{at_end}
use Rattle.cfs_block.specs.BlockImages.{BlockStep, Content, AllBlockImages, IsBlockImage, IsRangedFrom, content_of, with_bytes}
use Rattle.cfs_block.proofs.BlockLemmas.{all_kept}
use Rattle.cfs_job.specs.Ops.{JobFails, WorksOn, count_in, devices_seen, flush_ops, job_done, piece_reads, place_in, write_ops}
use Rattle.cfs_job.specs.Stands.{HasPiece, IsSpanOf, TileKeeps, is_touched}
use Rattle.cfs_job.specs.Steps.{Flushes, Writes}
use Rattle.cfs_job.specs.Views.{TileView, payload_seen}
use Rattle.cfs_job.proofs.OpLemmas.{reads_leave}
use Rattle.cfs_job.proofs.PieceLemmas.{IsRoom, IsWithin, read_room, within}

-- ---- the piece

pub piece_size : (slots : List (Seen WordStep)) (s : Span) (at : ℕ) → IsSpanOf s slots → is_touched s at ≡ true → length (piece_in (payload_seen slots) s at) ≡ count_in s at
piece_size slots Nothing at spans touched = absurd (omega (arith, (within Nothing at touched).some))
piece_size slots (Range from to) at spans touched =
    let r : IsRoom slots (Range from to) at from (count_in (Range from to) at) = read_room slots (Range from to) at from to refl spans touched in
    length-take-le (count_in (Range from to) at) (drop (start_in (Range from to) at - from) (payload_seen slots))
    (omega (arith, length-drop (start_in (Range from to) at - from) (payload_seen slots), r.room))
piece_size slots (From from) at spans touched = length-replicate {A = ℕ} (count_in (From from) at) 0

-- what was written over some bytes is read there
pub read_back : (words new : List ℕ) (from : ℕ) → from + length new ≤ length words
    → take (length new) (drop from (patched words from new)) ≡ new
read_back words new from fits =
    let front : length (take from words) ≡ from = length-take-le from words (omega arith) in
    let at : length (take from words) + 0 ≡ from = omega (arith, front) in
    let rest : List ℕ = new ++ drop (from + length new) words in
    let seam : drop from (take from words ++ rest) ≡ drop 0 rest = ap (λ n. drop n (take from words ++ rest)) (sym at) ∙ drop-append-add (take from words) rest 0 in
    ap (λ xs. take (length new) xs) seam ∙ ap (λ xs. take (length new) xs) (none_dropped rest) ∙ take-append_seam new (drop (from + length new) words)
  where
    none_dropped : (xs : List ℕ) → drop 0 xs ≡ xs
    none_dropped [] = refl
    none_dropped (x ∷ xs) = refl

pub has_piece : (slots : List (Seen WordStep)) (s : Span) (at : ℕ) (old : Seen BlockStep) → IsSpanOf s slots → is_touched s at ≡ true → length (content_of old).bytes ≡ 4096
    → HasPiece (payload_seen slots) s at (with_bytes (place_in s at) (piece_in (payload_seen slots) s at) (content_of old))
has_piece slots s at old spans touched full =
    let w : IsWithin s at = within s at touched in
    let piece : List ℕ = piece_in (payload_seen slots) s at in
    let size : length piece ≡ count_in s at = piece_size slots s at spans touched in
    let bytes : List ℕ = patched (content_of old).bytes (place_in s at) piece in
    ap (λ n. take n (drop (place_in s at) bytes)) (sym size)
    ∙ read_back (content_of old).bytes piece (place_in s at) (omega (arith, size, w.starts, w.some, w.ends, full))

-- ---- images of images

ranged_twice : (taken mid : Seen BlockStep) (from len : ℕ) → AllBlockImages mid (IsRangedFrom taken from len) → (image : Content) → IsRangedFrom mid from len image → IsRangedFrom taken from len image
ranged_twice taken mid from len all image h =
    let was = all h.first h.possible in
    record {
      first = was.first;
      possible = was.possible;
      within = record {
        tag = h.within.tag ∙ was.within.tag;
        size = h.within.size ∙ was.within.size;
        outside = λ k out. h.within.outside k out ∙ was.within.outside k out;
      };
    }

-- ---- a write

pub write_done : {T E : Type 0} {obeys_slots obeys_block keeps : Bool} {P : Content → Type 0} {devices : List ℕ} {asked_old asked_new : List Asked} {old new : Seen BlockStep}
    (slots : List (Seen WordStep)) (s : Span) (at : ℕ) (t : T) → WorksOn {T = T} {E = E} obeys_slots obeys_block keeps P devices (write_ops slots s at) (Ok t) asked_old old asked_new new
    → content_of new ≡ with_bytes (place_in s at) (piece_in (payload_seen slots) s at) (content_of old)
write_done {T} {E} {obeys_slots} {obeys_block} {keeps} {P} {devices} {asked_old} {asked_new} {old} {new} slots s at t works =
    ap (λ (b : Seen BlockStep). content_of b) works.ok
    ∙ ap (λ (b : Seen BlockStep). with_bytes (place_in s at) (piece_in (payload_seen slots) s at) (content_of b)) (reads_leave (piece_reads (devices_seen slots) s at) old)

written_keeps : {T E : Type 0} {obeys_slots obeys_block keeps : Bool} {devices : List ℕ} {s : Span} {asked_old asked_new : List Asked}
    (slots : List (Seen WordStep)) (was : TileView) (new : Seen BlockStep) (result : Result T E) → IsSpanOf s slots → is_touched s was.at ≡ true → length (content_of was.seen).bytes ≡ 4096
    → WorksOn obeys_slots obeys_block keeps (IsRangedFrom was.seen (place_in s was.at) (count_in s was.at)) devices (write_ops slots s was.at) result asked_old was.seen asked_new new
    → TileKeeps (payload_seen slots) s was
    → TileKeeps (payload_seen slots) s (record was { seen = new; written = is_ok result; flushed = false })
written_keeps {T} {E} {obeys_slots} {obeys_block} {keeps} {devices} {s} {asked_old} {asked_new} slots was new (Ok t) spans touched full works h = record {
  others = λ image i. ranged_twice was.taken was.seen (place_in s was.at) (count_in s was.at) h.others image (at_end works.moments image i);
  order = λ e. refl;
  written = λ e. subst (λ c. HasPiece (payload_seen slots) s was.at c) (sym (write_done slots s was.at t works)) (has_piece slots s was.at was.seen spans touched full);
  flushed = λ e. absurd (cc);
}
written_keeps {T} {E} {obeys_slots} {obeys_block} {keeps} {devices} {s} {asked_old} {asked_new} slots was new (Err e) spans touched full works h = record {
  others = λ image i. ranged_twice was.taken was.seen (place_in s was.at) (count_in s was.at) h.others image (at_end works.moments image i);
  order = λ e. absurd (cc);
  written = λ e. absurd (cc);
  flushed = λ e. absurd (cc);
}

pub write_keeps : {T E : Type 0} {obeys_slots obeys_block keeps : Bool} {slots : List (Seen WordStep)} {s : Span} {asked_old asked_new : List Asked}
    (was now : TileView) (result : Result T E) → IsSpanOf s slots → is_touched s was.at ≡ true → length (content_of was.seen).bytes ≡ 4096
    → Writes obeys_slots obeys_block keeps slots s result asked_old was asked_new now
    → TileKeeps (payload_seen slots) s was → TileKeeps (payload_seen slots) s now
write_keeps {T} {E} {obeys_slots} {obeys_block} {keeps} {slots} {s} {asked_old} {asked_new} was now result spans touched full w h =
    subst (λ t. TileKeeps (payload_seen slots) s t) (sym w.noted) (written_keeps slots was now.seen result spans touched full w.works h)

-- ---- a flush

pub flush_leaves : {T E : Type 0} {obeys_block keeps : Bool} {P : Content → Type 0} {devices : List ℕ} {asked_old asked_new : List Asked} {old new : Seen BlockStep}
    (result : Result T E) → WorksOn true obeys_block keeps P devices flush_ops result asked_old old asked_new new → content_of new ≡ content_of old
flush_leaves (Ok t) works = ap (λ (b : Seen BlockStep). content_of b) works.ok
flush_leaves {T} {E} {obeys_block} {keeps} {P} {devices} {asked_old} {asked_new} {old} {new} (Err e) works =
    stops works.stopped.left works.stopped.within works.stopped.state
  where
    stops : (left : ℕ) → left < 1 → LastFails job_done (JobFails keeps) (drop left flush_ops) old new → content_of new ≡ content_of old
    stops zero l h = ap (λ (b : Seen BlockStep). content_of b) h
    stops (suc left) l h = absurd (omega arith)

pub flush_keeps : {T E : Type 0} {obeys_block keeps : Bool} {payload : List ℕ} {s : Span} {asked_old asked_new : List Asked}
    (was now : TileView) (result : Result T E) → was.written ≡ true
    → Flushes obeys_block keeps result asked_old was asked_new now
    → TileKeeps payload s was → TileKeeps payload s now
flush_keeps {T} {E} {obeys_block} {keeps} {payload} {s} {asked_old} {asked_new} was now result written f h =
    subst (λ t. TileKeeps payload s t) (sym f.noted)
    record {
      others = λ image i. h.others image (at_end f.works.moments image i);
      order = λ e. written;
      written = λ e. subst (λ c. HasPiece payload s was.at c) (sym (flush_leaves result f.works)) (h.written written);
      flushed = flushed_all result f.works;
    }
  where
    flushed_all : (r : Result T E) → WorksOn true obeys_block keeps (IsBlockImage was.seen.history) [] flush_ops r asked_old was.seen asked_new now.seen → is_ok r ≡ true
        → AllBlockImages now.seen (HasPiece payload s was.at)
    flushed_all (Ok t) works e = all_kept (HasPiece payload s was.at) was.seen works.ok (h.written written)
    flushed_all (Err x) works e = absurd (cc)
