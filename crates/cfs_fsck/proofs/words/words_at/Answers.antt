use Rattle.std.proofs.Common.{arith}
use Rattle.cfs_fsck.proofs.Reading.{words_read}
use Rattle.cfs_fsck.proofs.words.words_at.Goals as goal

pub returns : goal.returns
returns g c =
    words_read c.args.bytes.now c.read_u64_into.new.dst c.args.at g.row.N _ (omega arith)
    (omega arith) c.read_u64_into.ensures
