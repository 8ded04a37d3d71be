-- Requests that write a block.
use Rattle.std.specs.Prelude.{◌≡◌, length}
use Rattle.cfs_file.specs.declared.request.Request.{Request}
use Rattle.cfs_file.specs.declared.request.Request.TheVariants as requests

-- a write of 4096 bytes
abbrev pub IsBlockWrite : Request → Type 0
IsBlockWrite (requests.Write offset bytes) = length bytes ≡ 4096
IsBlockWrite _ = ⊥
