use Rattle.std.proofs.Common.{rules, ◌<◌, ◌/◌, ◌≡◌, length, arith}
use Rattle.cfs_grants.proofs.Bits.{given}
use Rattle.cfs_grants.proofs.free.FreeRecords.give.Goals as goal

pub returns : goal.returns
returns c other low =
    let size : length c.args.self.now.words ≡ 4 = search rules in
    let rec = c.requires in
    given c.args.self.now.words c.args.rec (omega (arith, size, rec)) other
