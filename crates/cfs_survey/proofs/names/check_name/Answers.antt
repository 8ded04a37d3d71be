use Rattle.std.proofs.Common.{◌≡◌, ◌∙◌, sym, true, take, ◌≤◌}
use Rattle.std.specs.Prelude.{not}
use Rattle.cfs_dir.specs.Name.{IsNodeName}
use Rattle.cfs_survey.proofs.NameLemmas.{IsName-from_checks, not_true, on_ok}
use Rattle.std.proofs.lemmas.Bool.{leb-true}
use Rattle.cfs_survey.proofs.names.check_name.Goals as goal

pub returns-clause-name : goal.returns-clause-name
returns-clause-name c =
    let low : 1 ≤ c.args.len = leb-true 1 c.args.len c.in_ok-ensure.ensures.passed in
    let high : c.args.len ≤ 40 = leb-true c.args.len 40 c.in_ok-ensure-2.ensures.passed in
    on_ok c.ensure-3.result (not c.is_dots.result ≡ true) (IsNodeName (take c.args.len c.args.room.now))
    (λ dots. (IsName-from_checks c.args.at c.args.len c.args.room.now low high (sym c.in_ok-check_bytes.ensures), sym c.is_dots.ensures ∙ not_true c.is_dots.result dots))
    c.ensure-3.ensures.passed
