use Rattle.std.proofs.Common.{ℕ, ◌<◌, ◌++◌, ◌∙◌, [], List, length, map, get_or, sym, ap, subst}
use Rattle.std.proofs.lemmas.Result.{err_from_is_err_and}
use Rattle.cfs_pmem.specs.AllMoments.{AreDistinct}
use Rattle.cfs_pmem.specs.Images.{Seen, WordStep}
use Rattle.cfs_pmem.specs.Objects.{all_devices}
use Rattle.cfs_pmem.proofs.AllMomentLemmas.{all_after}
use Rattle.cfs_slot.specs.Payload.{HaveCause}
use Rattle.cfs_recover.specs.Swept.{all_shut}
use Rattle.cfs_recover.specs.Untagged.{all_untagged}
use Rattle.cfs_recover.proofs.BlockCalls.{on-ok}
use Rattle.cfs_recover.proofs.Lists.{cause-front, distinct-back, distinct-front, distinct-regions}
use Rattle.cfs_recover.proofs.Lists.{failed-back, full-all}
use Rattle.cfs_replay.specs.declared.pending.Pending.{Pending}
use Rattle.cfs_replay.specs.Entries.{CanReplay, HaveLeft}
use Rattle.cfs_replay.specs.Pieces.{tags_in}
use Rattle.cfs_replay.proofs.OneEntry.{failed-front}
use Rattle.cfs_replay.proofs.Plans.{are-dead, brought-home, can-shut, in-order}
use Rattle.cfs_replay.proofs.Plans.{no-nodes, no-tags}
use Rattle.cfs_replay.proofs.Replays.{slots-still, words-still}
use Rattle.cfs_replay.proofs.whole.replay.Goals as goal

pub close_dead-requires-clause-distinct : goal.close_dead-requires-clause-distinct
close_dead-requires-clause-distinct g c =
    distinct-front (all_devices (map g.R.Region.seen c.args.regions.now))
    (all_devices (map g.B.Block.seen c.args.blocks.now)) c.requires.distinct

pub returns-in_err-close_dead-clause-moments : goal.returns-in_err-close_dead-clause-moments
returns-in_err-close_dead-clause-moments g c = λ files start first stands plan.
    c.close_dead.ensures.moments files start first (map g.B.Block.seen c.args.blocks.now) stands
    (are-dead files start first c.args.plan.now plan c.deref.result.now c.deref.ensures.value)

pub returns-in_err-close_dead-clause-cause : goal.returns-in_err-close_dead-clause-cause
returns-in_err-close_dead-clause-cause g c =
    let failed = err_from_is_err_and c.from_residual.result c.from_residual.ensures.1 in
    failed-front (map g.R.Region.faults c.args.regions.now)
    (map g.R.Region.faults c.close_dead.new.regions)
    (map g.B.Block.faults c.args.blocks.now) failed.0 failed.1
    c.in_err-close_dead.ensures.cause.later c.in_err-close_dead.ensures.cause.failed

pub replay_entries-requires-clause-entries : goal.replay_entries-requires-clause-entries
replay_entries-requires-clause-entries g c k d less =
    subst (λ (entries : List Pending). CanReplay c.args.found.now
    (tags_in (map g.B.Block.seen c.args.blocks.now))
    (map g.R.Region.seen c.close_dead.new.regions) (get_or entries k d))
    (sym c.deref-2.ensures.value)
    (subst (λ (regions : List (Seen WordStep)). CanReplay c.args.found.now
    (tags_in (map g.B.Block.seen c.args.blocks.now)) regions
    (get_or c.args.plan.now.entries.items k d))
    (sym c.in_ok-close_dead.ensures.ok)
    (can-shut c.args.found.now (tags_in (map g.B.Block.seen c.args.blocks.now))
    c.deref.result.now (map g.R.Region.seen c.args.regions.now)
    (get_or c.args.plan.now.entries.items k d)
    (c.requires.entries k d (subst (λ (entries : List Pending). k < length entries)
    c.deref-2.ensures.value less))))

pub replay_entries-requires-clause-slots : goal.replay_entries-requires-clause-slots
replay_entries-requires-clause-slots g c =
    slots-still (map g.R.Region.seen c.args.regions.now)
    (map g.R.Region.seen c.close_dead.new.regions)
    c.close_dead.ensures.lengths c.requires.slots

pub replay_entries-requires-clause-words : goal.replay_entries-requires-clause-words
replay_entries-requires-clause-words g c =
    words-still (map g.R.Region.seen c.args.regions.now)
    (map g.R.Region.seen c.close_dead.new.regions)
    c.close_dead.ensures.lengths c.requires.words

pub returns-in_err-replay_entries-clause-moments :
    goal.returns-in_err-replay_entries-clause-moments
returns-in_err-replay_entries-clause-moments g c = λ files start first stands plan.
    let old_blocks = map g.B.Block.seen c.args.blocks.now in
    let dead = c.deref.result.now in
    let are = are-dead files start first c.args.plan.now plan dead c.deref.ensures.value in
    all_after (c.close_dead.ensures.moments files start first old_blocks stands are)
    (c.replay_entries.ensures.moments files start (all_shut dead first)
    (c.in_ok-close_dead.ensures.stands files start first old_blocks stands are)
    (in-order files start first c.args.plan.now plan dead c.deref.ensures.value
    c.deref-2.result.now c.deref-2.ensures.value))

pub untag-requires-clause-distinct : goal.untag-requires-clause-distinct
untag-requires-clause-distinct g c =
    distinct-back (all_devices (map g.R.Region.seen c.replay_entries.new.regions))
    (all_devices (map g.B.Block.seen c.replay_entries.new.blocks))
    (subst AreDistinct (sym c.replay_entries.ensures.devices)
    (distinct-regions (map g.R.Region.seen c.args.regions.now)
    (map g.R.Region.seen c.close_dead.new.regions) (map g.B.Block.seen c.args.blocks.now)
    c.close_dead.ensures.devices c.requires.distinct))

pub returns-in_err-untag-clause-moments : goal.returns-in_err-untag-clause-moments
returns-in_err-untag-clause-moments g c = λ files start first stands plan.
    let old_blocks = map g.B.Block.seen c.args.blocks.now in
    let regions = map g.R.Region.seen c.replay_entries.new.regions in
    let blocks = map g.B.Block.seen c.replay_entries.new.blocks in
    let dead = c.deref.result.now in
    let are = are-dead files start first c.args.plan.now plan dead c.deref.ensures.value in
    let closed = c.in_ok-close_dead.ensures.stands files start first old_blocks stands are in
    let order = in-order files start first c.args.plan.now plan dead c.deref.ensures.value
    c.deref-2.result.now c.deref-2.ensures.value in
    let left : HaveLeft files start (all_shut dead first) [] regions blocks =
    c.in_ok-replay_entries.ensures.replayed files start (all_shut dead first) closed order in
    all_after
    (all_after (c.close_dead.ensures.moments files start first old_blocks stands are)
    (c.replay_entries.ensures.moments files start (all_shut dead first) closed order))
    (c.untag.ensures.moments files start left.now regions left.stands
    (no-tags files start first c.args.plan.now plan dead c.deref.ensures.value regions blocks left
    c.deref-3.result.now c.deref-3.ensures.value))

pub returns-in_err-untag-clause-cause : goal.returns-in_err-untag-clause-cause
returns-in_err-untag-clause-cause g c =
    let failed = err_from_is_err_and c.from_residual-in_err-untag.result
    c.from_residual-in_err-untag.ensures.1 in
    subst (λ (ns : List ℕ). HaveCause ns
    (map g.R.Region.faults c.replay_entries.new.regions
    ++ map g.B.Block.faults c.untag.new.blocks) c.from_residual-in_err-untag.result)
    (c.in_ok-replay_entries.ensures.cause.passed
    ∙ ap (λ (ns : List ℕ). ns ++ map g.B.Block.faults c.args.blocks.now)
    c.in_ok-close_dead.ensures.cause.passed)
    (failed-back (map g.R.Region.faults c.replay_entries.new.regions)
    (map g.B.Block.faults c.replay_entries.new.blocks)
    (map g.B.Block.faults c.untag.new.blocks) failed.0 failed.1
    c.in_err-untag.ensures.cause.later c.in_err-untag.ensures.cause.failed)

pub clear_sizes-requires-clause-words : goal.clear_sizes-requires-clause-words
clear_sizes-requires-clause-words g c =
    words-still (map g.R.Region.seen c.args.regions.now)
    (map g.R.Region.seen c.replay_entries.new.regions)
    (c.replay_entries.ensures.lengths ∙ c.close_dead.ensures.lengths) c.requires.words

pub clear_sizes-requires-clause-distinct : goal.clear_sizes-requires-clause-distinct
clear_sizes-requires-clause-distinct g c =
    distinct-front (all_devices (map g.R.Region.seen c.replay_entries.new.regions))
    (all_devices (map g.B.Block.seen c.replay_entries.new.blocks))
    (subst AreDistinct (sym c.replay_entries.ensures.devices)
    (distinct-regions (map g.R.Region.seen c.args.regions.now)
    (map g.R.Region.seen c.close_dead.new.regions) (map g.B.Block.seen c.args.blocks.now)
    c.close_dead.ensures.devices c.requires.distinct))

pub returns-clause-moments : goal.returns-clause-moments
returns-clause-moments g c = λ files start first stands plan.
    let old_blocks = map g.B.Block.seen c.args.blocks.now in
    let regions = map g.R.Region.seen c.replay_entries.new.regions in
    let blocks = map g.B.Block.seen c.replay_entries.new.blocks in
    let dead = c.deref.result.now in
    let are = are-dead files start first c.args.plan.now plan dead c.deref.ensures.value in
    let closed = c.in_ok-close_dead.ensures.stands files start first old_blocks stands are in
    let order = in-order files start first c.args.plan.now plan dead c.deref.ensures.value
    c.deref-2.result.now c.deref-2.ensures.value in
    let left : HaveLeft files start (all_shut dead first) [] regions blocks =
    c.in_ok-replay_entries.ensures.replayed files start (all_shut dead first) closed order in
    let none = no-tags files start first c.args.plan.now plan dead c.deref.ensures.value regions
    blocks left c.deref-3.result.now c.deref-3.ensures.value in
    all_after
    (all_after
    (all_after (c.close_dead.ensures.moments files start first old_blocks stands are)
    (c.replay_entries.ensures.moments files start (all_shut dead first) closed order))
    (c.untag.ensures.moments files start left.now regions left.stands none))
    (c.clear_sizes.ensures.moments files start (all_untagged c.deref-3.result.now left.now)
    (map g.B.Block.seen c.untag.new.blocks)
    (c.in_ok-untag.ensures.stands files start left.now regions left.stands none)
    (no-nodes files start first c.args.plan.now plan dead c.deref.ensures.value
    c.deref-4.result.now c.deref-4.ensures.value))

pub returns-clause-home : goal.returns-clause-home
returns-clause-home g c = on-ok c.clear_sizes.result
    (λ give. λ files start first stands plan.
    let old_blocks = map g.B.Block.seen c.args.blocks.now in
    let regions = map g.R.Region.seen c.replay_entries.new.regions in
    let blocks = map g.B.Block.seen c.replay_entries.new.blocks in
    let dead = c.deref.result.now in
    let are = are-dead files start first c.args.plan.now plan dead c.deref.ensures.value in
    let closed = c.in_ok-close_dead.ensures.stands files start first old_blocks stands are in
    let order = in-order files start first c.args.plan.now plan dead c.deref.ensures.value
    c.deref-2.result.now c.deref-2.ensures.value in
    let left : HaveLeft files start (all_shut dead first) [] regions blocks =
    c.in_ok-replay_entries.ensures.replayed files start (all_shut dead first) closed order in
    let none = no-tags files start first c.args.plan.now plan dead c.deref.ensures.value regions
    blocks left c.deref-3.result.now c.deref-3.ensures.value in
    brought-home files start first c.args.plan.now plan dead c.deref.ensures.value regions blocks
    left c.deref-3.result.now c.deref-4.result.now c.deref-3.ensures.value c.deref-4.ensures.value
    (map g.R.Region.seen c.clear_sizes.new.regions) (map g.B.Block.seen c.untag.new.blocks)
    (full-all g.B.Block.seen c.untag.new.blocks g.met.B.Block.full)
    (give files start (all_untagged c.deref-3.result.now left.now)
    (map g.B.Block.seen c.untag.new.blocks)
    (c.in_ok-untag.ensures.stands files start left.now regions left.stands none)
    (no-nodes files start first c.args.plan.now plan dead c.deref.ensures.value
    c.deref-4.result.now c.deref-4.ensures.value)))
    c.clear_sizes.ensures.stands

pub returns-clause-lengths : goal.returns-clause-lengths
returns-clause-lengths g c =
    c.clear_sizes.ensures.lengths
    ∙ (c.replay_entries.ensures.lengths ∙ c.close_dead.ensures.lengths)

pub returns-clause-cause : goal.returns-clause-cause
returns-clause-cause g c =
    subst (λ (ns : List ℕ). HaveCause ns
    (map g.R.Region.faults c.clear_sizes.new.regions
    ++ map g.B.Block.faults c.untag.new.blocks) c.clear_sizes.result)
    (ap (λ (ns : List ℕ). map g.R.Region.faults c.replay_entries.new.regions ++ ns)
    c.in_ok-untag.ensures.cause.passed
    ∙ (c.in_ok-replay_entries.ensures.cause.passed
    ∙ ap (λ (ns : List ℕ). ns ++ map g.B.Block.faults c.args.blocks.now)
    c.in_ok-close_dead.ensures.cause.passed))
    (cause-front (map g.R.Region.faults c.replay_entries.new.regions)
    (map g.R.Region.faults c.clear_sizes.new.regions)
    (map g.B.Block.faults c.untag.new.blocks) c.clear_sizes.result c.clear_sizes.ensures.cause)
