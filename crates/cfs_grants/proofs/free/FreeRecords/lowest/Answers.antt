use Rattle.std.proofs.Common.{rules, ◌≡◌, ◌<◌, ◌^◌, slice_index_or, arith}
use Rattle.cfs_grants.proofs.Bits.{lowest_is_set, none_below}
use Rattle.cfs_grants.proofs.free.FreeRecords.lowest.Goals as goal

pub returns-then-word-ne0-clause-free : goal.returns-then-word-ne0-clause-free
returns-then-word-ne0-clause-free c =
    let fits : slice_index_or c.args.self.now.words c.loop-place.place 0 < 2 ^ 64 = search rules in
    let some : 0 < slice_index_or c.args.self.now.words c.loop-place.place 0 = search rules in
    lowest_is_set c.args.self.now.words c.loop-place.place some fits

pub returns-then-word-ne0-clause-lowest : goal.returns-then-word-ne0-clause-lowest
returns-then-word-ne0-clause-lowest c =
    let fits : slice_index_or c.args.self.now.words c.loop-place.place 0 < 2 ^ 64 = search rules in
    let some : 0 < slice_index_or c.args.self.now.words c.loop-place.place 0 = search rules in
    none_below c.args.self.now.words c.loop-place.place some fits c.loop-place.invariant
