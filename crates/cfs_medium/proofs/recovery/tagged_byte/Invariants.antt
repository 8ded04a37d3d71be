use Rattle.std.proofs.Common.{◌≡◌, ◌==◌, drop}
use Rattle.std.specs.List.{find}
use Rattle.cfs_medium.specs.Found.{contents_of}
use Rattle.cfs_medium.specs.Store.{tag_of}
use Rattle.cfs_medium.proofs.recovery.tagged_byte.Given as goal

abbrev pub invariant-loop-found : goal.invariant-loop-found
invariant-loop-found l =
    find (λ c. c.tag == tag_of l.ino l.block) (contents_of (drop l.found-index l.blocks)) ≡ find (λ c. c.tag == tag_of l.ino l.block) (contents_of l.blocks)
