-- The size of a file after a write.
use Rattle.std.proofs.Common.{◌≡◌, ℕ, ◌+◌, List, length, max}
use Rattle.cfs_file.specs.File.{put}
use Rattle.cfs_file.proofs.Positions.{put-writes}

pub length-put : (file : List ℕ) (offset : ℕ) (bytes : List ℕ) →
    length (put file offset bytes) ≡ max (length file) (offset + length bytes)
length-put file offset bytes = (put-writes file offset bytes).size
