use Rattle.std.proofs.Common.{◌≡◌, rules, Some}
use Rattle.cfs_words.proofs.Payloads.{repeat_of-more}
use Rattle.cfs_words.proofs.payload.copies_in.Goals as goal

pub returns-in-Some : goal.returns-in-Some
returns-in-Some c =
    let some : c.cut.result.1 ≡ Some c.in_ok-rest.rest = search rules in
    let first = rw some at c.cut.ensures in
    let second = rw c.in-Some.is at c.cut-2.ensures in
    repeat_of-more c.args.bytes.now c.cut.result.0.now c.in_ok-rest.rest.now c.cut-2.result.0.now c.in-Some.field-0.now first second
