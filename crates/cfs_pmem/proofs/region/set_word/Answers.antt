use Rattle.std.proofs.lemmas.Result.{err_from_is_err_and}
use Rattle.cfs_pmem.proofs.WordLemmas.{set_at_write, set_at_persist, set_whole}
use Rattle.cfs_pmem.proofs.region.set_word.Goals as goal

pub returns-in_err-write-clause-set : goal.returns-in_err-write-clause-set
returns-in_err-write-clause-set g c =
    let p = err_from_is_err_and c.from_residual.result c.from_residual.ensures.1 in
    set_at_write p.0 p.1 c.requires c.in_err-write.ensures.err c.write.ensures.asks c.in_err-write.ensures.asked

pub returns-in_err-persist-clause-set : goal.returns-in_err-persist-clause-set
returns-in_err-persist-clause-set g c =
    let p = err_from_is_err_and c.from_residual-in_err-persist.result c.from_residual-in_err-persist.ensures.1 in
    set_at_persist p.0 p.1 c.requires c.in_ok-write.ensures.ok c.write.ensures.asks c.in_ok-write.ensures.asked
    c.in_err-persist.ensures.err c.persist.ensures.asks c.in_err-persist.ensures.asked

pub returns-clause-set : goal.returns-clause-set
returns-clause-set g c =
    set_whole tt c.requires c.in_ok-write.ensures.ok c.write.ensures.asks c.in_ok-write.ensures.asked
    c.in_ok-persist.ensures.ok c.persist.ensures.asks c.in_ok-persist.ensures.asked
