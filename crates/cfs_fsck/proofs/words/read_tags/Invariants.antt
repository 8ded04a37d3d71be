use Rattle.std.proofs.Common.{◌≡◌}
use Rattle.cfs_fsck.specs.Images.{tags_at}
use Rattle.cfs_fsck.proofs.words.read_tags.Given as goal

abbrev pub invariant-loop-block : goal.invariant-loop-block
invariant-loop-block l = l.tags.items ≡ tags_at l.bytes l.queues l.block
