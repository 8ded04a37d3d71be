use Rattle.std.proofs.Common.{sym, ◌∙◌}
use Rattle.cfs_io.proofs.FilesByName.{get-found, get-missing}
use Rattle.cfs_io.proofs.mem_folder.find.Goals as goal

pub returns-in-Some : goal.returns-in-Some
returns-in-Some c = sym (get-found c.args.name.now c.args.files.now c.in-Some.at c.index-files-at.result (sym c.index_of.ensures ∙ c.in-Some.is))

pub returns-in-None : goal.returns-in-None
returns-in-None c = sym (get-missing c.args.name.now c.args.files.now (sym c.index_of.ensures ∙ c.in-None.is))
