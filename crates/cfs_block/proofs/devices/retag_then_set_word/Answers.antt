use Rattle.std.proofs.Common.{ap}
use Rattle.std.proofs.lemmas.Result.{err_from_is_err_and}
use Rattle.cfs_pmem.specs.Images.{Seen, devices_of}
use Rattle.cfs_pmem.proofs.AllMomentLemmas.{all_after}
use Rattle.cfs_block.specs.BlockImages.{BlockStep, content_of}
use Rattle.cfs_block.proofs.DeviceLemmas.{tag_comes_first, word_comes_second, tag_failed, tag_stood}
use Rattle.cfs_block.proofs.devices.retag_then_set_word.Goals as goal

pub returns-in_err-retag-clause-moments : goal.returns-in_err-retag-clause-moments
returns-in_err-retag-clause-moments g c = tag_comes_first c.args.at c.args.word c.requires.distinct c.retag.ensures.set.moments

pub returns-clause-moments : goal.returns-clause-moments
returns-clause-moments g c =
    all_after (tag_comes_first c.args.at c.args.word c.requires.distinct c.retag.ensures.set.moments)
    (word_comes_second c.args.tag c.requires.distinct
    (ap (λ (s : Seen BlockStep). devices_of s) c.in_ok-retag.ensures.set.ok)
    c.in_ok-retag.ensures.set.sure
    (ap (λ (s : Seen BlockStep). content_of s) c.in_ok-retag.ensures.set.ok)
    c.set_word.ensures.set.moments)

pub returns-in_err-retag-clause-calls : goal.returns-in_err-retag-clause-calls
returns-in_err-retag-clause-calls g c =
    let p = err_from_is_err_and c.from_residual.result c.from_residual.ensures.1 in
    tag_failed (g.R.Region.seen c.args.region.now) c.in_err-retag.field-0.0 p.0 c.in_err-retag.was p.1 c.retag.ensures.set

pub returns-clause-calls : goal.returns-clause-calls
returns-clause-calls g c = tag_stood c.in_ok-retag.field-0 c.in_ok-retag.was c.retag.ensures.set c.set_word.ensures.set
