use Rattle.std.proofs.Common.{◌∷◌, map, arith}
use Rattle.cfs_pmem.proofs.AllMomentLemmas.{all_weaker}
use Rattle.cfs_pmem.proofs.MomentLemmas.{begun, on_failure, on_persist}
use Rattle.cfs_pmem.proofs.ObjectLemmas.{one_of}
use Rattle.cfs_ckpt.proofs.LoadLemmas.{loads_settling}
use Rattle.cfs_ckpt.proofs.checkpoint.Checkpoint.settle.Goals as goal

pub returns-in_err-persist-clause-moments : goal.returns-in_err-persist-clause-moments
returns-in_err-persist-clause-moments g c =
    let olds = g.R.Region.seen c.args.self.now.selector ∷ map g.R.Region.seen c.args.self.now.tables.items in
    all_weaker (λ images h. loads_settling olds images h)
    (one_of olds 0 (omega arith) c.args.self.now.standing.distinct
    (on_failure (begun (g.P.Power.asked c.args.power.now) (g.R.Region.seen c.args.self.now.selector) (λ image h. h)) c.in_err-persist.ensures.err c.persist.ensures.asks))

pub returns-clause-moments : goal.returns-clause-moments
returns-clause-moments g c =
    let olds = g.R.Region.seen c.args.self.now.selector ∷ map g.R.Region.seen c.args.self.now.tables.items in
    all_weaker (λ images h. loads_settling olds images h)
    (one_of olds 0 (omega arith) c.args.self.now.standing.distinct
    (on_persist (begun (g.P.Power.asked c.args.power.now) (g.R.Region.seen c.args.self.now.selector) (λ image h. h)) c.in_ok-persist.ensures.ok c.persist.ensures.asks))
