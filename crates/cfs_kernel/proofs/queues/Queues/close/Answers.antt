use Rattle.std.proofs.Common.{rules, ◌≡◌, ◌∙◌, length, None, Some, refl, set, sym, ap, vec_len, arith}
use Rattle.cfs_queue.specs.Queue.{out_slots}
use Rattle.cfs_kernel.proofs.Rows.{at_within, others_length, others_set, whole_set}
use Rattle.cfs_kernel.proofs.queues.Queues.close.Goals as goal

pub index_mut-requires : goal.index_mut-requires
index_mut-requires g c =
    let self = c.args.self.now in
    let size : vec_len self.home ≡ length self.home.items = search rules in
    let same = others_length self.grants self.home.items self.out in
    let low = at_within self.grants c.args.queue.number c.requires.granted in
    let number = c.number-number.ensures.value in
    omega (arith, size, same, low, number)

pub invariant_of-self : goal.invariant_of-self
invariant_of-self g c =
    let self = c.args.self.now in
    let queue = c.args.queue in
    let number = c.number-number.ensures.value in
    let same = others_length self.grants self.home.items self.out in
    let low = at_within self.grants queue.number c.requires.granted in
    rw number (record {
      out = rw (c.close.ensures ∙ ap (λ n. set self.grants n None) number) (others_set self.grants self.home.items queue.number None (Some queue) self.out refl);
      whole = whole_set self.home.items queue.number (Some queue) self.whole (omega (arith, same, low))
          (λ other is. let one : queue ≡ other = cc in (ap (λ q. q.number) (sym one), ap (λ q. out_slots q) (sym one) ∙ c.requires.whole));
    })
