use Rattle.std.proofs.Common.{◌∙◌, ap, rules, sym, tests}
use Rattle.std.specs.Option.{option_map}
use Rattle.std.proofs.lemmas.Iterator.{YieldsList-from_slice}
use Rattle.std.proofs.lemmas.Iterator.Search.{find_from_yields_List}
use Rattle.cfs_states.proofs.Owners.{is_wanted, owner-of}
use Rattle.cfs_states.proofs.files.owner_of.Goals as goal

pub returns : goal.returns
returns c =
    sym (ap (option_map (λ one. one.now.ino)) c.in_ok-found.was)
    ∙ owner-of (λ one. one.now) c.find.result c.args.node c.args.nodes.now
    (find_from_yields_List (is_wanted c.args.node) _ _ c.find.result c.find.ensures.ran
    (YieldsList-from_slice c.args.nodes.now cc) (λ x b q k. search (rules, tests)))

pub returns-in_err-found : goal.returns-in_err-found
returns-in_err-found c =
    let none = c.from_residual.ensures in
    none ∙ (sym (ap (option_map (λ one. one.now.ino)) c.in_err-found.was)
    ∙ owner-of (λ one. one.now) c.find.result c.args.node c.args.nodes.now
    (find_from_yields_List (is_wanted c.args.node) _ _ c.find.result c.find.ensures.ran
    (YieldsList-from_slice c.args.nodes.now cc) (λ x b q k. search (rules, tests))))
