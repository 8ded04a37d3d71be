use Rattle.std.proofs.Common.{◌∙◌, ap, refl, subst, sym, Bool}
use Rattle.cfs_pmem.specs.Images.{Seen, WordStep, failed}
use Rattle.cfs_pmem.proofs.WordLemmas.{set_at_persist, set_at_write, set_whole}
use Rattle.cfs_inode.specs.declared.size_answer.SizeAnswer.TheVariants as went
use Rattle.cfs_inode.specs.Finishing.{SetsSize}
use Rattle.cfs_inode.proofs.size.set_size.Goals as goal

pub returns-in-Ok-persist : goal.returns-in-Ok-persist
returns-in-Ok-persist g c =
    subst (λ (b : Bool). SetsSize g.R.Region.obeys_power b c.args.wanted went.Set
    (g.P.Power.asked c.args.power.now) (g.R.Region.seen c.args.region.now)
    (g.P.Power.asked c.persist.new.power) (g.R.Region.seen c.persist.new.self))
    (sym c.if-is_right.false)
    (set_whole tt c.requires c.in-Ok.ensures.ok c.write.ensures.asks c.in-Ok.ensures.asked
    c.in-Ok-persist.ensures.ok c.persist.ensures.asks c.in-Ok-persist.ensures.asked)

pub returns-in-Err-persist : goal.returns-in-Err-persist
returns-in-Err-persist g c = (
  set_at_persist tt refl c.requires c.in-Ok.ensures.ok c.write.ensures.asks
      c.in-Ok.ensures.asked c.in-Err-persist.ensures.err c.persist.ensures.asks
      c.in-Err-persist.ensures.asked,
  c.in-Err-persist.ensures.err ∙ ap (λ (s : Seen WordStep). failed s) c.in-Ok.ensures.ok,
)

pub returns-in-Err : goal.returns-in-Err
returns-in-Err g c = (
  set_at_write tt refl c.requires c.in-Err.ensures.err c.write.ensures.asks
      c.in-Err.ensures.asked,
  c.in-Err.ensures.err,
)
