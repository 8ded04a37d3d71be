use Rattle.std.proofs.lemmas.Result.{err_from_is_err_and}
use Rattle.cfs_io.proofs.Streams.{came_more}
use Rattle.cfs_io.proofs.script.read_script.Goals as goal

pub returns-in_err-extend_from_slice-clause-taken :
    goal.returns-in_err-extend_from_slice-clause-taken
returns-in_err-extend_from_slice-clause-taken g c =
    let failed = err_from_is_err_and c.from_residual-in_err-extend_from_slice.result c.from_residual-in_err-extend_from_slice.ensures.1 in
    rw failed.1 (came_more _ _ _ _ _ c.pieces.invariant.came c.in_ok-count.ensures.bytes.0)
