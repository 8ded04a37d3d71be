use Rattle.std.proofs.Common.{◌≡◌, ◌∙◌, ◌*◌, ◌+◌, ◌++◌, ◌∷◌, ℕ, [], List, ap, ap₂, arith}
use Rattle.std.proofs.Common.{drop, map, subst, sym, take}
use Rattle.std.proofs.lemmas.List.{drop-drop, drop-map}
use Rattle.std.proofs.lemmas.List.FromFn.{map-range_with_len_more}
use Rattle.cfs_pmem.specs.Images.{MemoryRegion, Seen, WordStep}
use Rattle.cfs_queue.specs.Queue.{free}
use Rattle.cfs_mount.specs.Queues.{AreFreeSlots, free_queue_at}
use Rattle.cfs_mount.proofs.Splits.{free_left}
use Rattle.cfs_mount.proofs.queues.queues_of.Goals as goal

abbrev see : MemoryRegion → Seen WordStep
see region = region.seen

pub next_queue-requires-clause-free : goal.next_queue-requires-clause-free
next_queue-requires-clause-free c =
    let slots : List MemoryRegion = c.args.slots.items in
    let at : ℕ = 16 * c.loop-number.number in
    subst (λ seens. AreFreeSlots (323 + at) seens)
    (drop-map see at slots ∙ ap (λ left. map see left) (sym c.loop-number.invariant.left))
    (free_left 323 at (map see slots) c.requires.free)

pub loop-number-preserved : goal.loop-number-preserved
loop-number-preserved c =
    let slots : List MemoryRegion = c.args.slots.items in
    let n : ℕ = c.loop-number.number in
    let next : 16 * n + 16 ≡ 16 * (n + 1) = omega arith in
    let queue : c.next_queue.result ≡ free_queue_at slots n =
    c.next_queue.ensures.queue
    ∙ ap (λ left. record { number = n; held = map (λ slot. free slot) (take 16 left) })
    c.loop-number.invariant.left in
    record {
      left = c.next_queue.ensures.left
          ∙ ap (λ left. drop 16 left) c.loop-number.invariant.left
          ∙ drop-drop 16 (16 * n) slots ∙ ap (λ at. drop at slots) next;
      made = c.in_ok-push.ensures.items
          ∙ ap₂ (λ queues queue. queues ++ queue ∷ []) c.loop-number.invariant.made queue
          ∙ sym (map-range_with_len_more (free_queue_at slots) 0 n n (omega arith));
    }
