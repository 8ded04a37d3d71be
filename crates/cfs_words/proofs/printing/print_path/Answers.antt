use Rattle.std.proofs.Common.{◌∷◌, [], ◌++◌, ap, ◌∙◌}
use Rattle.cfs_words.proofs.Prints.{names_more}
use Rattle.cfs_words.proofs.printing.print_path.Goals as goal

pub names-preserved : goal.names-preserved
names-preserved c =
    let added = rw (c.as_bytes.ensures.same, c.in_ok-push-2.ensures.items) at c.in_ok-extend_from_slice.ensures.items in
    names_more _ c.names.text.items _ c.names-names.result.now c.names.name-index c.name-item.result c.names-test.true c.name-item.is c.names.invariant added
