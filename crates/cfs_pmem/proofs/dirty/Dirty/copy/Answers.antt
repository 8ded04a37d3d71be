use Rattle.std.proofs.Common.{◌≡◌, ◌++◌, ◌-◌, take, drop, sym, rules}
use Rattle.cfs_pmem.proofs.Ranges.{copied, same_copies, written_back}
use Rattle.cfs_pmem.proofs.dirty.Dirty.copy.Goals as goal

pub returns-then-from-to : goal.returns-then-from-to
returns-then-from-to g c =
    let from = c.args.self.from in
    let width = c.args.self.to - c.args.self.from in
    let durable = c.args.durable.now.items in
    let present = c.args.present.now.items in
    let whole : take from c.deref_mut.result.now ++ (c.copy_from_slice.new.self ++ drop width (drop from c.deref_mut.result.now)) ≡ present =
    rw (c.copy_from_slice.ensures.after, c.deref_mut.ensures.value, c.deref.ensures.value) (copied c.args.self durable present c.requires c.if-from-to.true) in
    rw whole (written_back c.args.durable.now.len durable present (sym c.requires.size) (search rules))

pub returns-else-from-to : goal.returns-else-from-to
returns-else-from-to g c = same_copies c.args.self c.args.durable.now.items c.args.present.now.items c.requires c.if-from-to.false
