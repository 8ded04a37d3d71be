-- The kernel's part of a store that was just mounted.
use Rattle.std.specs.Prelude.{ℕ, List, None, Some, map, replicate}
use Rattle.cfs_dir.specs.Namespace.{Namespace}
use Rattle.cfs_kernel.specs.States.{Kernel}
use Rattle.cfs_mount.specs.Queues.{free_queues}

-- Of a store with this tree and these slots, which make so many queues: no grant is given, no
-- file is removed, no request took a place, and each queue is home with all its slots free.
abbrev pub mounted_kernel : {X : Type 0} → Namespace → List X → ℕ → Kernel X
mounted_kernel tree slots count = record {
  names = record { tree = tree; grants = replicate count None; next_grant = 1 };
  requests = 0;
  removed = replicate 256 None;
  home = map (λ queue. Some queue) (free_queues slots count);
}
