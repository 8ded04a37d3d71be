use Rattle.cfs_print.specs.declared.listed.Letter.TheVariants.{Waiting}
use Rattle.cfs_print.proofs.Parts.{entries_more}
use Rattle.cfs_print.proofs.print.print_entries.Goals as goal

pub entries-preserved : goal.entries-preserved
entries-preserved c =
    entries_more _ _ _ c.args.entries.now c.entries.entry-index (record { place = 0; letter = Waiting }) c.entries-test.true c.entries.invariant c.in_ok-print_entry.ensures
