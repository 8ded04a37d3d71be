use Rattle.std.proofs.Common.{length}
use Rattle.cfs_dir.proofs.Reading.{IsRead}
use Rattle.cfs_dir.proofs.path.Path.parse.Given as goal

abbrev pub invariant-loop-name : goal.invariant-loop-name
invariant-loop-name l = IsRead l.fn.text l.names.items l.rest

abbrev pub decreases-loop-name : goal.decreases-loop-name
decreases-loop-name l = length l.rest
