use Rattle.std.proofs.Common.{◌∙◌, sym}
use Rattle.cfs_tracker.specs.Work.{passed_entry}
use Rattle.cfs_tracker.proofs.Entries.{missed, position-less, with-at, with-none}
use Rattle.cfs_tracker.proofs.note.pass_in.Goals as goal

pub returns-in_default : goal.returns-in_default
returns-in_default g c =
    sym (with-none c.args.entries.now c.args.place passed_entry
    (missed c.args.entries.now c.args.place (sym c.position_of.ensures ∙ c.in_default.is)))

pub returns : goal.returns
returns g c =
    let es = c.args.entries.now in
    let found = position-less es c.args.place c.in-Some.at
    (sym c.position_of.ensures ∙ c.in-Some.is) in
    rw c.pass_entry.ensures
    (sym (with-at es c.args.place passed_entry c.index-entries-at.result c.in-Some.at found.1
    found.0))
