use Rattle.std.proofs.Common.{◌∙◌, length, arith}
use Rattle.cfs_slot.proofs.PayloadLemmas.{little_from_longer}
use Rattle.cfs_slot.proofs.staging.last_word.Goals as goal

pub returns : goal.returns
returns c =
    c.read_uint.ensures ∙ little_from_longer (length c.args.bytes.now) 8 0 c.args.bytes.now (omega arith) (omega arith)
