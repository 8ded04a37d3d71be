use Rattle.std.proofs.Common.{ℕ, ◌-◌, ◌*◌, ◌≡◌, ◌∙◌, List, [], ◌∷◌, ◌++◌, length, map, take, drop, sym, ap, arith, rules}
use Rattle.std.proofs.lemmas.List.{length-replicate}
use Rattle.std.proofs.lemmas.Result.{err_from_is_err_and}
use Rattle.cfs_core.specs.Words.{end_in, piece_in, start_in}
use Rattle.cfs_pmem.specs.Images.{Seen, WordStep}
use Rattle.cfs_block.specs.BlockImages.{BlockStep}
use Rattle.cfs_block.specs.BlockOps.{put_bytes}
use Rattle.cfs_slot.specs.Payload.{SlotRead}
use Rattle.cfs_slot.specs.Reads.{regions_of}
use Rattle.cfs_slot.proofs.SlotReads.{reads_retold}
use Rattle.cfs_job.specs.Ops.{count_in, devices_seen, piece_reads, place_in}
use Rattle.cfs_job.specs.Views.{payload_seen}
use Rattle.cfs_job.proofs.CauseLemmas.{block_called, slots_failed}
use Rattle.cfs_job.proofs.OpLemmas.{ranged_from_same, read_failed, write_made, write_told}
use Rattle.cfs_job.proofs.PieceLemmas.{IsWithin, blank_piece, front_is, within}
use Rattle.cfs_job.proofs.piece.put_piece.Goals as goal

pub start_in-start-requires : goal.start_in-start-requires
start_in-start-requires g c = (within c.args.span c.args.at c.requires.touched).below

pub end_in-requires : goal.end_in-requires
end_in-requires g c = (within c.args.span c.args.at c.requires.touched).below

pub overflow_sub-count : goal.overflow_sub-count
overflow_sub-count g c = let w : IsWithin c.args.span c.args.at = within c.args.span c.args.at c.requires.touched in omega (arith, w.some, c.start_in-start.ensures, c.end_in.ensures)

pub slice_bounds-area-end : goal.slice_bounds-area-end
slice_bounds-area-end g c =
    let w : IsWithin c.args.span c.args.at = within c.args.span c.args.at c.requires.touched in omega (arith, w.starts, w.some, w.ends, c.start_in-start.ensures, c.end_in.ensures)

pub overflow_mul-at : goal.overflow_mul-at
overflow_mul-at g c = let w : IsWithin c.args.span c.args.at = within c.args.span c.args.at c.requires.touched in omega (arith, w.below)

pub overflow_sub-start : goal.overflow_sub-start
overflow_sub-start g c = let w : IsWithin c.args.span c.args.at = within c.args.span c.args.at c.requires.touched in omega (arith, w.starts, c.start_in-start.ensures)

pub overflow_cast-start : goal.overflow_cast-start
overflow_cast-start g c = let w : IsWithin c.args.span c.args.at = within c.args.span c.args.at c.requires.touched in omega (arith, w.some, w.ends, w.starts, c.start_in-start.ensures)

size_is : (from to start end : ℕ) → from ≡ start → to ≡ end → to - from ≡ end - start
size_is from to start end f t = cc

pub slice_bounds-fetch-end : goal.slice_bounds-fetch-end
slice_bounds-fetch-end g c =
    let count : ℕ = c.end_in.result - c.start_in-start.result in
    let size : count ≡ count_in c.args.span c.args.at = size_is c.start_in-start.result c.end_in.result (start_in c.args.span c.args.at) (end_in c.args.span c.args.at) c.start_in-start.ensures c.end_in.ensures in
    size ∙ sym (ap (λ (xs : List ℕ). length xs) (blank_piece c.args.span c.args.at count c.blank-area.result c.blank-area.ensures size c.requires.touched)
    ∙ length-replicate {A = ℕ} (count_in c.args.span c.args.at) 0)

pub fetch-requires : goal.fetch-requires
fetch-requires g c =
    let count : ℕ = c.end_in.result - c.start_in-start.result in
    let size : count ≡ count_in c.args.span c.args.at = size_is c.start_in-start.result c.end_in.result (start_in c.args.span c.args.at) (end_in c.args.span c.args.at) c.start_in-start.ensures c.end_in.ensures in
    (search rules, (c.requires.spans, (c.requires.touched, blank_piece c.args.span c.args.at count c.blank-area.result c.blank-area.ensures size c.requires.touched)))

pub returns-in_err-fetch-clause-works : goal.returns-in_err-fetch-clause-works
returns-in_err-fetch-clause-works g c =
    let p = err_from_is_err_and c.from_residual.result c.from_residual.ensures.1 in
    let old : Seen BlockStep = g.B.Block.seen c.args.block.now in
    read_failed (piece_reads (devices_seen (map g.R.Region.seen (regions_of c.args.request.now))) c.args.span c.args.at)
    (put_bytes (place_in c.args.span c.args.at) (piece_in (payload_seen (map g.R.Region.seen (regions_of c.args.request.now))) c.args.span c.args.at))
    old p.0 p.1 c.in_err-fetch.ensures.some (ranged_from_same old (place_in c.args.span c.args.at) (count_in c.args.span c.args.at))
    c.in_err-fetch.ensures.asks
    (λ o. reads_retold {reads = piece_reads (devices_seen (map g.R.Region.seen (regions_of c.args.request.now))) c.args.span c.args.at} c.in_err-fetch.field-0.0 p.0 p.1 (c.in_err-fetch.ensures.does o))

pub returns-in_err-fetch-clause-cause : goal.returns-in_err-fetch-clause-cause
returns-in_err-fetch-clause-cause g c =
    let p = err_from_is_err_and c.from_residual.result c.from_residual.ensures.1 in
    slots_failed (g.B.Block.faults c.args.block.now ∷ []) p.0 p.1 c.in_err-fetch.ensures.cause.later c.in_err-fetch.ensures.cause.failed

pub write-requires : goal.write-requires
write-requires g c =
    let w : IsWithin c.args.span c.args.at = within c.args.span c.args.at c.requires.touched in
    let count : ℕ = c.end_in.result - c.start_in-start.result in
    let size : count ≡ count_in c.args.span c.args.at = size_is c.start_in-start.result c.end_in.result (start_in c.args.span c.args.at) (end_in c.args.span c.args.at) c.start_in-start.ensures c.end_in.ensures in
    let out : List ℕ = c.fetch.new.out in
    let front : take count (out ++ drop count c.blank-area.result) ≡ out = front_is count _ out (drop count c.blank-area.result) c.fetch.ensures.size size in
    omega (arith, w.starts, w.some, w.ends, c.start_in-start.ensures, ap (λ (xs : List ℕ). length xs) front, c.fetch.ensures.size)

pub returns-clause-works : goal.returns-clause-works
returns-clause-works g c =
    let slots : List (Seen WordStep) = map g.R.Region.seen (regions_of c.args.request.now) in
    let w : IsWithin c.args.span c.args.at = within c.args.span c.args.at c.requires.touched in
    let count : ℕ = c.end_in.result - c.start_in-start.result in
    let size : count ≡ count_in c.args.span c.args.at = size_is c.start_in-start.result c.end_in.result (start_in c.args.span c.args.at) (end_in c.args.span c.args.at) c.start_in-start.ensures c.end_in.ensures in
    let out : List ℕ = c.fetch.new.out in
    let bytes : List ℕ = take count (out ++ drop count c.blank-area.result) in
    let front : bytes ≡ out = front_is count _ out (drop count c.blank-area.result) c.fetch.ensures.size size in
    let sized : length bytes ≡ count_in c.args.span c.args.at = ap (λ (xs : List ℕ). length xs) front ∙ c.fetch.ensures.size in
    let from : ℕ = c.start_in-start.result - 4096 * c.args.at in
    let place : from ≡ place_in c.args.span c.args.at = ap (λ n. n - 4096 * c.args.at) c.start_in-start.ensures in
    let reads : List SlotRead = piece_reads (devices_seen slots) c.args.span c.args.at in
    write_told reads c.write.result from bytes (place_in c.args.span c.args.at) (count_in c.args.span c.args.at)
    (piece_in (payload_seen slots) c.args.span c.args.at) place (front ∙ c.in_ok-fetch.ensures.bytes) sized
    (write_made reads c.write.result from bytes (g.met.B.Block.full c.args.block.now)
    (omega (arith, w.starts, w.some, w.ends, c.start_in-start.ensures, sized))
    (λ o. (c.in_ok-fetch.ensures.does o).all) c.in_ok-fetch.ensures.asks c.write.ensures.ok c.write.ensures.err c.write.ensures.asks c.write.ensures.asked)

pub returns-clause-cause : goal.returns-clause-cause
returns-clause-cause g c = block_called c.write.result c.in_ok-fetch.ensures.cause.passed c.write.ensures.cause
