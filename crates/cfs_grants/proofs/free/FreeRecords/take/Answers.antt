use Rattle.std.proofs.Common.{rules, ◌<◌, ◌/◌, ◌≡◌, length, arith}
use Rattle.cfs_grants.proofs.Bits.{taken}
use Rattle.cfs_grants.proofs.free.FreeRecords.take.Goals as goal

pub returns : goal.returns
returns c other low =
    let size : length c.args.self.now.words ≡ 4 = search rules in
    let rec = c.requires in
    taken c.args.self.now.words c.args.rec (omega (arith, size, rec)) other
