-- A step on a block, as it is noted.
use Rattle.std.proofs.Common.{ℕ, ◌≡◌, ◌∙◌, Bool, true, false, Result, List, [], is_ok, ap}
use Rattle.cfs_file.specs.declared.span.Span.{Span}
use Rattle.cfs_pmem.specs.declared.trace.Asked.{Asked}
use Rattle.cfs_pmem.specs.Images.{Seen, WordStep, devices_of}
use Rattle.std.specs.List.{flat_map}
use Rattle.cfs_block.specs.BlockImages.{BlockStep, IsBlockImage, IsRangedFrom}
use Rattle.cfs_job.specs.Ops.{WorksOn, count_in, flush_ops, place_in, write_ops}
use Rattle.cfs_job.specs.Steps.{Flushes, Writes}
use Rattle.cfs_job.specs.Views.{TileView}

pub tile_written : {T E : Type 0} {obeys_slots obeys_block keeps : Bool} {slots : List (Seen WordStep)} {span : Span} {asked_old asked_new : List Asked}
    (tile : TileView) (now : Seen BlockStep) (number : ℕ) (flag : Bool) (result : Result T E) → number ≡ tile.number → flag ≡ is_ok result
    → WorksOn obeys_slots obeys_block keeps (IsRangedFrom tile.seen (place_in span tile.at) (count_in span tile.at)) (flat_map devices_of slots) (write_ops slots span tile.at) result
    asked_old tile.seen asked_new now
    → Writes obeys_slots obeys_block keeps slots span result asked_old tile asked_new
    (record { at = tile.at; number = number; taken = tile.taken; seen = now; written = flag; flushed = false })
tile_written {T} {E} tile now number flag result same ok works = record {
  noted = ap (λ n. record { at = tile.at; number = n; taken = tile.taken; seen = now; written = flag; flushed = false }) same
      ∙ ap (λ f. record { at = tile.at; number = tile.number; taken = tile.taken; seen = now; written = f; flushed = false }) ok;
  works = works;
}

pub tile_flushed : {T E : Type 0} {obeys_block keeps : Bool} {asked_old asked_new : List Asked}
    (tile : TileView) (now : Seen BlockStep) (number : ℕ) (flag : Bool) (result : Result T E) → number ≡ tile.number → flag ≡ is_ok result
    → WorksOn true obeys_block keeps (IsBlockImage tile.seen.history) [] flush_ops result asked_old tile.seen asked_new now
    → Flushes obeys_block keeps result asked_old tile asked_new
    (record { at = tile.at; number = number; taken = tile.taken; seen = now; written = tile.written; flushed = flag })
tile_flushed {T} {E} tile now number flag result same ok works = record {
  noted = ap (λ n. record { at = tile.at; number = n; taken = tile.taken; seen = now; written = tile.written; flushed = flag }) same
      ∙ ap (λ f. record { at = tile.at; number = tile.number; taken = tile.taken; seen = now; written = tile.written; flushed = f }) ok;
  works = works;
}
