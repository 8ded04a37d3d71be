use Rattle.std.proofs.Common.{◌∙◌, sym}
use Rattle.cfs_active.specs.View.{active_view}
use Rattle.cfs_granted.proofs.Knowing.{given-granted, none-is}
use Rattle.cfs_granted.proofs.life.Life.attach.Goals as goal

pub invariant_of-self : goal.invariant_of-self
invariant_of-self c = record {
  known = given-granted c.args.self.now.grants c.give.new.self c.args.self.now.readers.items
      (active_view c.args.self.now.active).state c.args.grant.queue c.args.grant
      (sym c.get.ensures ∙ none-is c.get.result (sym c.is_some.ensures ∙ c.if-is_some.false))
      c.give.ensures
      c.args.self.now.known;
  lent = c.args.self.now.lent;
}
