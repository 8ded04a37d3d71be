use Rattle.std.proofs.Common.{sym, ◌∙◌}
use Rattle.cfs_io.proofs.FilesByName.{stored-set, stored-push}
use Rattle.cfs_io.proofs.mem_shelf.put.Goals as goal

pub returns-in-Some-clause-ok : goal.returns-in-Some-clause-ok
returns-in-Some-clause-ok c =
    stored-set _ _ _ _ c.args.files.now.items _ c.in-Some.at (c.in_ok-from_slice.ensures ∙ c.as_slice.ensures) c.in_ok-from_slice-2.ensures
    c.deref.ensures.value (sym c.index_of.ensures ∙ c.in-Some.is)

pub returns-in_ok-push-in-None-clause-ok : goal.returns-in_ok-push-in-None-clause-ok
returns-in_ok-push-in-None-clause-ok c =
    stored-push _ _ _ _ c.args.files.now.items _ _ (c.in_ok-from_slice.ensures ∙ c.as_slice.ensures) c.in_ok-from_slice-2.ensures
    c.deref.ensures.value (sym c.index_of.ensures ∙ c.in-None.is) c.in_ok-push-in-None.ensures.items
