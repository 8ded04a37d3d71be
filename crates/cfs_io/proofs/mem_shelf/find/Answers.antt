use Rattle.std.proofs.Common.{sym, ap, Some, ◌∙◌}
use Rattle.cfs_io.proofs.FilesByName.{get-found, get-missing}
use Rattle.cfs_io.proofs.mem_shelf.find.Goals as goal

pub returns-in_ok-from_slice-in-Some-clause-found : goal.returns-in_ok-from_slice-in-Some-clause-found
returns-in_ok-from_slice-in-Some-clause-found c =
    get-found c.args.name.now c.args.files.now c.in-Some.at c.index-files-at.result (sym c.index_of.ensures ∙ c.in-Some.is)
    ∙ ap Some (sym (c.in_ok-from_slice-in-Some.ensures ∙ c.as_slice.ensures))

pub returns-in-None-clause-absent : goal.returns-in-None-clause-absent
returns-in-None-clause-absent c = λ _. get-missing c.args.name.now c.args.files.now (sym c.index_of.ensures ∙ c.in-None.is)
