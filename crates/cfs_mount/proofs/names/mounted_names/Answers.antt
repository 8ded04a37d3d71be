use Rattle.std.proofs.Common.{◌≡◌, ◌∙◌, List, Some, ap, arith, length, map}
use Rattle.std.proofs.Common.{rules, subst, sym, vec_len}
use Rattle.cfs_kernel.specs.Queues.{AreWhole}
use Rattle.cfs_kernel.specs.States.{Kernel, kernel_of}
use Rattle.cfs_names.specs.StoredTrees.{tree_of}
use Rattle.cfs_pmem.specs.Images.{MemoryRegion}
use Rattle.cfs_queue.specs.Queue.{Slots}
use Rattle.cfs_mount.proofs.Homes.{count_is, mounted_is, unused_without, whole_queues}
use Rattle.cfs_mount.proofs.names.mounted_names.Goals as goal

pub new-requires : goal.new-requires
new-requires c =
    let size : vec_len c.in_ok-home.home ≡ length c.in_ok-home.home.items = search rules in
    let count : length c.in_ok-home.home.items ≡ c.args.queues =
    count_is c.args.slots.items c.args.queues c.in_ok-home.home.items c.in_ok-home.ensures in (
      omega arith,
      (
        omega (arith, size, count, c.requires.most),
        subst (λ (queues : List (Slots MemoryRegion)). AreWhole (map (λ queue. Some queue) queues))
            (sym c.in_ok-home.ensures) (whole_queues c.args.slots.items c.args.queues),
      ),
    )

pub returns-clause-kernel : goal.returns-clause-kernel
returns-clause-kernel c =
    let queues : List (Slots MemoryRegion) = c.in_ok-home.home.items in
    let size : vec_len c.in_ok-home.home ≡ length queues = search rules in
    c.in_ok-new.ensures.kernel
    ∙ mounted_is (tree_of c.args.stored) c.args.slots.items c.args.queues
    (vec_len c.in_ok-home.home) queues size c.in_ok-home.ensures

pub returns-clause-free : goal.returns-clause-free
returns-clause-free c = λ rec low.
    unused_without (tree_of c.args.stored).nodes (kernel_of c.in_ok-new.field-0).removed 256 rec
    (ap (λ (kernel : Kernel MemoryRegion). kernel.removed) c.in_ok-new.ensures.kernel)
