-- What each record has before any block is handed out.
use Rattle.std.specs.Prelude.{ℕ, ◌+◌, Option, List, [], ◌∷◌}
use Rattle.std.specs.Option.{option_map}
use Rattle.cfs_pmem.specs.Images.{Seen, WordStep}
use Rattle.cfs_home.specs.Disks.{File}
use Rattle.cfs_states.specs.Shares.{ShareView}
use Rattle.cfs_states.specs.Stored.{file_at}

-- the inode number of its file
abbrev pub owner_at : List File → ℕ → Option ℕ
owner_at files node = option_map (λ file. file.ino) (file_at files node)

-- the size regions of the records from a number on
abbrev pub begun : List File → ℕ → List (Seen WordStep) → List ShareView
begun files node [] = []
begun files node (size ∷ sizes) =
    record { size = size; owner = owner_at files node; blocks = [] } ∷ begun files (node + 1) sizes
