use Rattle.std.proofs.Common.{ℕ, ◌+◌, ◌-◌, ◌/◌, ◌≡◌, ◌≤◌, ◌++◌, length}
use Rattle.std.specs.List.{filter_map, range_with_len}
use Rattle.std.specs.Option.{option_map}
use Rattle.cfs_recover.specs.Cut.{zeros_in}
use Rattle.cfs_replay.specs.Pieces.{found_at, zero_pieces}
use Rattle.cfs_replay.proofs.pieces.zero_pieces.Given as goal

abbrev pub invariant-loop-block : goal.invariant-loop-block
invariant-loop-block l = record {
  parts : zero_pieces l.found l.ino l.len
      ≡ l.pieces.items ++ filter_map (λ (block : ℕ).
      option_map (λ at. zeros_in at block l.len) (found_at l.found l.ino block))
      (range_with_len l.block (256 - l.block));
  few : length l.pieces.items + l.len / 4096 ≤ l.block;
}
