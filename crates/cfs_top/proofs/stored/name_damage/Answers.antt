use Rattle.std.proofs.Common.{◌∙◌, ℕ, List, inr, subst}
use Rattle.cfs_top.specs.declared.status.Status.TheVariants.{Image}
use Rattle.cfs_top.specs.Outside.{Says}
use Rattle.cfs_top.proofs.stored.name_damage.Goals as goal

pub returns-in-Ok-clause-said : goal.returns-in-Ok-clause-said
returns-in-Ok-clause-said g c =
    inr (subst (λ (text : List ℕ). Says c.say.result Image text (g.K.Sink.written c.args.output.now)
    (g.K.Sink.written c.say.new.output))
    (c.as_bytes.ensures.value ∙ c.in-Ok.ensures) c.say.ensures.said)
