use Rattle.std.proofs.lemmas.Result.{err_from_is_err_and}
use Rattle.cfs_block.proofs.CallsOnBlocks.{tag_fails, tag_unflushed, tag_stands}
use Rattle.cfs_block.proofs.block.retag.Goals as goal

pub returns-in_err-set_tag-clause-set : goal.returns-in_err-set_tag-clause-set
returns-in_err-set_tag-clause-set g c =
    let p = err_from_is_err_and c.from_residual.result c.from_residual.ensures.1 in
    tag_fails p.0 p.1 (g.met.B.Block.full c.args.block.now) c.in_err-set_tag.ensures.err c.set_tag.ensures.asks c.in_err-set_tag.ensures.asked

pub returns-in_err-flush-clause-set : goal.returns-in_err-flush-clause-set
returns-in_err-flush-clause-set g c =
    let p = err_from_is_err_and c.from_residual-in_err-flush.result c.from_residual-in_err-flush.ensures.1 in
    tag_unflushed p.0 p.1 (g.met.B.Block.full c.args.block.now) (g.met.B.Block.full c.set_tag.new.self)
    c.in_ok-set_tag.ensures.ok c.set_tag.ensures.asks c.in_ok-set_tag.ensures.asked
    c.in_err-flush.ensures.err c.flush.ensures.asks c.in_err-flush.ensures.asked

pub returns-clause-set : goal.returns-clause-set
returns-clause-set g c =
    tag_stands tt (g.met.B.Block.full c.args.block.now) (g.met.B.Block.full c.set_tag.new.self)
    c.in_ok-set_tag.ensures.ok c.set_tag.ensures.asks c.in_ok-set_tag.ensures.asked
    c.in_ok-flush.ensures.ok c.flush.ensures.asks c.in_ok-flush.ensures.asked
