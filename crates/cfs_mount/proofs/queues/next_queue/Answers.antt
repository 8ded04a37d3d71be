use Rattle.std.proofs.Common.{◌≡◌, ◌∙◌, ◌∷◌, ◌++◌, ◌+◌, ◌<◌, ℕ, [], List, ap, arith, drop, length}
use Rattle.std.proofs.Common.{map, sym, take}
use Rattle.std.proofs.lemmas.List.{length-map, length-take-le, map-append}
use Rattle.std.specs.Vec.Iter.{into_iter_items}
use Rattle.cfs_pmem.specs.Images.{MemoryRegion, Seen, WordStep}
use Rattle.cfs_queue.specs.Queue.{first_of}
use Rattle.cfs_slot.specs.Regions.{of_slots}
use Rattle.cfs_vec.specs.Items.{items_of}
use Rattle.cfs_mount.specs.Queues.{IsFreeSlot}
use Rattle.cfs_mount.proofs.Splits.{first_devices, next_free, next_left, next_made}
use Rattle.cfs_mount.proofs.queues.next_queue.Goals as goal

abbrev see : MemoryRegion → Seen WordStep
see region = region.seen

-- the next region is that of a free slot
next : (c : goal.After-next_region) →
    IsFreeSlot (first_of c.args.number + c.loop.counter) (see c.next_region.result)
next c =
    next_free see (first_of c.args.number) (into_iter_items c.args.slots.now)
    (into_iter_items c.next_region.new.slots) c.loop.counter c.next_region.result
    (omega (arith, c.loop-test.true, c.requires.enough))
    (sym c.loop.invariant.left ∙ c.next_region.ensures) c.requires.free

pub new-requires-clause-size : goal.new-requires-clause-size
new-requires-clause-size c = (next c).size

pub new-requires-clause-closed : goal.new-requires-clause-closed
new-requires-clause-closed c = (next c).closed

pub push-requires : goal.push-requires
push-requires c =
    let slots : List MemoryRegion = into_iter_items c.args.slots.now in (
      omega arith,
      omega (
        arith,
        c.loop-test.true,
        c.requires.enough,
        length-map (items_of c.loop.queue) (λ s. s.region),
        ap (λ made. length made) c.loop.invariant.made,
        length-take-le c.loop.counter slots (omega (arith, c.loop-test.true, c.requires.enough)),
      ),
    )

pub loop-preserved : goal.loop-preserved
loop-preserved c =
    let slots : List MemoryRegion = into_iter_items c.args.slots.now in
    let left : List MemoryRegion = into_iter_items c.next_region.new.slots in
    let region : MemoryRegion = c.next_region.result in
    let n : ℕ = c.loop.counter in
    let low : n < length slots = omega (arith, c.loop-test.true, c.requires.enough) in
    let next : drop n slots ≡ region ∷ left = sym c.loop.invariant.left ∙ c.next_region.ensures in
    let pushed : of_slots c.push.new.self ≡ of_slots c.loop.queue ++ c.new.result.region ∷ [] =
    ap (λ made. map (λ s. s.region) made) c.push.ensures
    ∙ map-append (λ s. s.region) (items_of c.loop.queue) (c.new.result ∷ []) in
    record {
      left = next_left slots left n region low next;
      made = pushed ∙ ap (λ made. made ++ c.new.result.region ∷ []) c.loop.invariant.made
          ∙ ap (λ r. take n slots ++ r ∷ []) c.new.ensures
          ∙ sym (next_made slots left n region low next);
    }

pub new-requires-2 : goal.new-requires-2
new-requires-2 c =
    let slots : List MemoryRegion = into_iter_items c.args.slots.now in
    let sixteen : c.loop.counter ≡ 16 =
    omega (arith, c.loop-test.false, c.loop.auto.counter-end) in
    let made : of_slots c.loop.queue ≡ take 16 slots =
    c.loop.invariant.made ∙ ap (λ n. take n slots) sixteen in (
      omega arith,
      (
        omega arith,
        ap (λ rs. map (λ (r : MemoryRegion). r.seen.device) rs) made
            ∙ first_devices see 16 (first_of c.args.number) slots c.requires.enough c.requires.free,
      ),
    )
