use Rattle.std.proofs.Common.{arith}
use Rattle.std.proofs.lemmas.Grind.{div_ceil_times}
use Rattle.cfs_file.specs.declared.sizes.TheConstants.{BLOCK_LEN}
use Rattle.cfs_tracker.proofs.trim.first_past.Goals as goal

pub returns-clause-before : goal.returns-clause-before
returns-clause-before c = λ block less.
    let most = div_ceil_times c.args.size BLOCK_LEN (omega arith) in
    omega (arith, most.1, c.div_ceil.ensures, c.min.ensures)
