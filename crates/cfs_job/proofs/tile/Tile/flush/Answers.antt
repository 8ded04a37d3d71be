use Rattle.std.proofs.Common.{true, Ok, [], refl, sym, ap, ◌∙◌, is_ok}
use Rattle.std.proofs.lemmas.Result.{err_from_is_err_and}
use Rattle.cfs_job.specs.Tiles.{tile_view}
use Rattle.cfs_job.proofs.OpLemmas.{flush_failed, flush_made}
use Rattle.cfs_job.proofs.TileLemmas.{tile_flushed}
use Rattle.cfs_job.proofs.tile.Tile.flush.Goals as goal

pub returns-in_err-flush-clause-flushes : goal.returns-in_err-flush-clause-flushes
returns-in_err-flush-clause-flushes g c =
    let p = err_from_is_err_and c.from_residual.result c.from_residual.ensures.1 in
    let tile = tile_view g.B.Block.seen g.B.Block.number c.args.self.now in
    let result = c.from_residual.result in
    tile_flushed tile (g.B.Block.seen c.flush.new.self) (g.B.Block.number c.flush.new.self) c.args.self.now.flushed result
    c.flush.ensures.number (c.requires.unflushed ∙ sym (ap (λ r. is_ok r) p.1))
    (flush_failed [] p.0 p.1 (g.met.B.Block.full c.args.self.now.block) c.in_err-flush.ensures.err c.flush.ensures.asks c.in_err-flush.ensures.asked)

pub returns-clause-flushes : goal.returns-clause-flushes
returns-clause-flushes g c =
    let tile = tile_view g.B.Block.seen g.B.Block.number c.args.self.now in
    tile_flushed tile (g.B.Block.seen c.flush.new.self) (g.B.Block.number c.flush.new.self) true (Ok tt)
    c.flush.ensures.number refl
    (flush_made [] (Ok tt) (g.met.B.Block.full c.args.self.now.block) c.in_ok-flush.ensures.ok tt c.flush.ensures.asks c.in_ok-flush.ensures.asked)
