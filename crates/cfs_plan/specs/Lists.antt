-- The slots, blocks and records that hold something of no file.
use Rattle.std.specs.Prelude.{ℕ, ◌/◌, ◌==◌, ◌&&◌, not, Bool, List, [], get_or, length, filter}
use Rattle.std.specs.List.{list_any, range_with_len}
use Rattle.cfs_home.specs.Disks.{File}
use Rattle.cfs_slot.specs.Words.{gate_of, is_live}

-- the gate is open, and the slot is no live entry of a file
abbrev pub is_dead : List File → List ℕ → Bool
is_dead files words =
    not (gate_of words == 0) && not (list_any (λ file. is_live file.ino words) files)

abbrev pub dead_slots : List File → List (List ℕ) → List ℕ
dead_slots files slots =
    filter (λ at. is_dead files (get_or slots at [])) (range_with_len 0 (length slots))

-- the tag is not 0, and of no file
abbrev pub is_stray : List File → ℕ → Bool
is_stray files tag =
    not (tag == 0) && not (list_any (λ file. file.ino == tag / 65536) files)

abbrev pub stray_blocks : List File → List ℕ → List ℕ
stray_blocks files tags =
    filter (λ at. is_stray files (get_or tags at 0)) (range_with_len 0 (length tags))

-- the record has a size and no file
abbrev pub is_leftover : List File → List ℕ → ℕ → Bool
is_leftover files sizes rec =
    not (get_or sizes rec 0 == 0) && not (list_any (λ file. file.node == rec) files)

abbrev pub leftover_records : List File → List ℕ → List ℕ
leftover_records files sizes =
    filter (λ rec. is_leftover files sizes rec) (range_with_len 0 (length sizes))
