use Rattle.std.proofs.Common.{◌∙◌, ap, sym, Some}
use Rattle.std.specs.Prelude.{option_map}
use Rattle.cfs_tracker.specs.Dispatch.{sent}
use Rattle.cfs_tracker.proofs.Entries.{hit, missed, position-less, with-at, with-none}
use Rattle.cfs_tracker.proofs.sending.send_in.Goals as goal

pub returns-in_default-clause-was : goal.returns-in_default-clause-was
returns-in_default-clause-was g c =
    sym (ap (option_map (λ e. e.doing)) (missed c.args.entries.now c.args.place
    (sym c.position_of.ensures ∙ c.in_default.is)))

pub returns-in_default-clause-new : goal.returns-in_default-clause-new
returns-in_default-clause-new g c =
    sym (with-none c.args.entries.now c.args.place (sent c.args.first c.args.second)
    (missed c.args.entries.now c.args.place (sym c.position_of.ensures ∙ c.in_default.is)))

pub returns-clause-was : goal.returns-clause-was
returns-clause-was g c =
    let es = c.args.entries.now in
    let found = position-less es c.args.place c.in-Some.at
    (sym c.position_of.ensures ∙ c.in-Some.is) in
    ap Some c.send_entry.ensures.was
    ∙ sym (ap (option_map (λ e. e.doing)) (hit es c.args.place c.index-entries-at.result
    c.in-Some.at found.1 found.0))

pub returns-clause-new : goal.returns-clause-new
returns-clause-new g c =
    let es = c.args.entries.now in
    let found = position-less es c.args.place c.in-Some.at
    (sym c.position_of.ensures ∙ c.in-Some.is) in
    rw c.send_entry.ensures.new
    (sym (with-at es c.args.place (sent c.args.first c.args.second) c.index-entries-at.result
    c.in-Some.at found.1 found.0))
