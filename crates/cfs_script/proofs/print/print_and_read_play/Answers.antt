use Rattle.std.proofs.Common.{sym}
use Rattle.std.proofs.lemmas.Result.{err_from_is_err_and}
use Rattle.cfs_script.specs.declared.command.Command.TheVariants as commands
use Rattle.cfs_script.specs.Printing.{renumbered}
use Rattle.cfs_script.proofs.Rounds.{no_line}
use Rattle.cfs_script.proofs.print.print_and_read_play.Goals as goal

pub returns-clause-again : goal.returns-clause-again
returns-clause-again c =
    let again = c.in_ok-text.ensures.again commands.Play c.requires in
    sym ((rw c.as_slice.ensures at c.in_ok-read.ensures.only) (renumbered 1 c.args.script.now) again)

pub returns-in_err-read-clause-never : goal.returns-in_err-read-clause-never
returns-in_err-read-clause-never c =
    let p = err_from_is_err_and c.from_residual-in_err-read.result c.from_residual-in_err-read.ensures.1 in
    let again = c.in_ok-text.ensures.again commands.Play c.requires in
    rw (p.1, p.2) (no_line commands.Play _ _ c.in_err-read.field-0.0 again (rw c.as_slice.ensures at c.in_err-read.ensures.refused))
