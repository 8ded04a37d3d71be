use Rattle.std.proofs.Common.{◌∙◌}
use Rattle.std.proofs.lemmas.Result.{err_from_is_err_and}
use Rattle.cfs_io.proofs.Streams.{append_on, front_on, within_on}
use Rattle.cfs_io.proofs.sink.write_all.Goals as goal

pub returns-in_err-at-clause-front : goal.returns-in_err-at-clause-front
returns-in_err-at-clause-front g c =
    let failed = err_from_is_err_and c.from_residual.result c.from_residual.ensures.1 in
    rw failed.1 (front_on _ _ _ _ c.pieces.at c.pieces.invariant.within c.pieces.invariant.written c.in_err-at.ensures.bytes)

pub pieces-preserved : goal.pieces-preserved
pieces-preserved g c = record {
  within = within_on _ c.pieces.at _ c.pieces.invariant.within c.in_ok-at.ensures.bound;
  written = append_on _ _ _ _ c.pieces.at c.in_ok-at.field-0 c.pieces.invariant.written c.in_ok-at.ensures.bytes;
  faults = c.in_ok-at.ensures.cause.passed ∙ c.pieces.invariant.faults;
}
