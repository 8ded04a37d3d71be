use Rattle.std.proofs.Common.{List, sym, subst, ◌∙◌}
use Rattle.cfs_script.specs.declared.command.Command.TheVariants as commands
use Rattle.cfs_script.specs.declared.line.Line.{Line}
use Rattle.cfs_script.specs.Script.{IsLawful}
use Rattle.cfs_gen.proofs.Fitting.{workload_lawful}
use Rattle.cfs_gen.proofs.Rounds.{workload_lines}
use Rattle.cfs_gen.proofs.script.gen_script.Goals as goal

pub new-requires : goal.new-requires
new-requires c =
    let lines =
    workload_lines c.args.number c.args.count _ _ _ _ _ _ _ c.new-draft.ensures c.in_ok-introduce_callers.ensures
    c.in_ok-open_files.ensures c.in_ok-add_requests.ensures c.in_ok-push.ensures c.in_ok-close_files.ensures c.into_lines.ensures in
    subst (λ (ls : List Line). IsLawful commands.Play ls) (sym lines) (workload_lawful c.args.number c.args.count c.requires.few)

pub returns-clause-script : goal.returns-clause-script
returns-clause-script c =
    c.new.ensures
    ∙ workload_lines c.args.number c.args.count _ _ _ _ _ _ _ c.new-draft.ensures c.in_ok-introduce_callers.ensures
    c.in_ok-open_files.ensures c.in_ok-add_requests.ensures c.in_ok-push.ensures c.in_ok-close_files.ensures c.into_lines.ensures

pub returns-clause-lawful : goal.returns-clause-lawful
returns-clause-lawful c =
    let lines =
    c.new.ensures
    ∙ workload_lines c.args.number c.args.count _ _ _ _ _ _ _ c.new-draft.ensures c.in_ok-introduce_callers.ensures
    c.in_ok-open_files.ensures c.in_ok-add_requests.ensures c.in_ok-push.ensures c.in_ok-close_files.ensures c.into_lines.ensures in
    subst (λ (ls : List Line). IsLawful commands.Play ls) (sym lines) (workload_lawful c.args.number c.args.count c.requires.few)
