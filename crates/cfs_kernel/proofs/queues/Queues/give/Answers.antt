use Rattle.std.proofs.Common.{rules, ◌≡◌, ◌∙◌, length, None, Some, refl, sym, vec_len, arith}
use Rattle.cfs_kernel.proofs.Rows.{free_queue_is, not_neither, others_length, others_set, row_read, whole_set}
use Rattle.cfs_kernel.proofs.queues.Queues.give.Goals as goal

pub index_mut-requires : goal.index_mut-requires
index_mut-requires g c =
    let self = c.args.self.now in
    let size : vec_len self.home ≡ length self.home.items = search rules in
    let same = others_length self.grants self.home.items self.out in
    let low = (free_queue_is self.grants c.args.grant.queue c.requires).0 in
    omega (arith, size, same, low)

pub unreachable-requires : goal.unreachable-requires
unreachable-requires g c =
    let self = c.args.self.now in
    let queue = c.args.grant.queue in
    let free = free_queue_is self.grants queue c.requires in
    let same = others_length self.grants self.home.items self.out in
    let read = row_read self.home.items queue c.index_mut.result.now (let low = free.0 in omega (arith, same, low)) c.index_mut.ensures.value in
    not_neither self.grants self.home.items queue self.out free.0 free.1 (read ∙ sym c.take.ensures.value ∙ c.in_default.is)

pub give-requires : goal.give-requires
give-requires g c = (free_queue_is c.args.self.now.grants c.args.grant.queue c.requires).0

pub returns-clause-queue : goal.returns-clause-queue
returns-clause-queue g c =
    let self = c.args.self.now in
    let queue = c.args.grant.queue in
    let same = others_length self.grants self.home.items self.out in
    let low = (free_queue_is self.grants queue c.requires).0 in
    row_read self.home.items queue c.index_mut.result.now (omega (arith, same, low)) c.index_mut.ensures.value
    ∙ sym c.take.ensures.value ∙ c.in-Some.is

pub invariant_of-self : goal.invariant_of-self
invariant_of-self g c =
    let self = c.args.self.now in
    let queue = c.args.grant.queue in
    let same = others_length self.grants self.home.items self.out in
    let low = (free_queue_is self.grants queue c.requires).0 in
    record {
      out = rw c.give.ensures (rw c.take.ensures.after (others_set self.grants self.home.items queue (Some c.args.grant) None self.out refl));
      whole = rw c.take.ensures.after (whole_set self.home.items queue None self.whole (omega (arith, same, low)) (λ other is. absurd (cc)));
    }

pub returns-clause-number : goal.returns-clause-number
returns-clause-number g c = (c.args.self.now.whole c.args.grant.queue c.in-Some.queue (returns-clause-queue g c)).0

pub returns-clause-whole : goal.returns-clause-whole
returns-clause-whole g c = (c.args.self.now.whole c.args.grant.queue c.in-Some.queue (returns-clause-queue g c)).1
