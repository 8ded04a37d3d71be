use Rattle.std.proofs.Common.{sym}
use Rattle.cfs_pmem.specs.Images.{words_of}
use Rattle.cfs_pmem.proofs.ImageLemmas.{now_is_image}
use Rattle.cfs_slot.proofs.live.Live.grant.Goals as goal

pub returns : goal.returns
returns g c =
    let seen = g.R.Region.seen c.args.self.now.region in
    sym (c.args.self.now.granted (words_of seen) (now_is_image seen.history))
