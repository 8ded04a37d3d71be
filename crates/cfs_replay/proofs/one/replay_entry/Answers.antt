use Rattle.std.proofs.Common.{ℕ, ◌+◌, ◌++◌, ◌∙◌, List, length, map, get_or, ap, sym, subst, arith}
use Rattle.std.proofs.lemmas.List.{length-map}
use Rattle.std.proofs.lemmas.Result.{err_from_is_err_and}
use Rattle.cfs_pmem.specs.AllMoments.{AreDistinct}
use Rattle.cfs_pmem.specs.Images.{Seen, WordStep}
use Rattle.cfs_pmem.specs.Objects.{all_devices}
use Rattle.cfs_block.specs.Devices.{numbers_of}
use Rattle.cfs_slot.specs.Payload.{HaveCause}
use Rattle.cfs_recover.specs.Begins.{both}
use Rattle.cfs_recover.specs.Words.{HaveFirstWords}
use Rattle.cfs_recover.proofs.Lists.{distinct-front}
use Rattle.cfs_replay.specs.Entries.{HoldsWhole, IsTakenUp}
use Rattle.cfs_replay.specs.Reading.{AreSlots, words_at}
use Rattle.cfs_replay.proofs.OneEntry.{failed-front, reads-fail, reads-then}
use Rattle.cfs_replay.proofs.ReadCalls.{leaves-after}
use Rattle.cfs_replay.proofs.one.replay_entry.Goals as goal

pub read_found-requires-clause-size : goal.read_found-requires-clause-size
read_found-requires-clause-size g c =
    c.requires.slots c.args.pending.slot
    (omega (arith, c.requires.queue, length-map c.args.regions.now g.R.Region.seen))

pub read_found-requires-clause-distinct : goal.read_found-requires-clause-distinct
read_found-requires-clause-distinct g c =
    distinct-front (all_devices (map g.R.Region.seen c.args.regions.now))
    (all_devices (map g.B.Block.seen c.args.blocks.now)) c.requires.distinct

pub returns-in_err-head-clause-home : goal.returns-in_err-head-clause-home
returns-in_err-head-clause-home g c =
    let failed = err_from_is_err_and c.from_residual.result c.from_residual.ensures.1 in
    reads-fail c.args.pending failed.0 failed.1 (map g.R.Region.seen c.args.regions.now)
    (map g.R.Region.seen c.read_found.new.regions) (map g.B.Block.seen c.args.blocks.now)
    c.read_found.ensures.leaves

pub returns-in_err-head-clause-cause : goal.returns-in_err-head-clause-cause
returns-in_err-head-clause-cause g c =
    let failed = err_from_is_err_and c.from_residual.result c.from_residual.ensures.1 in
    failed-front (map g.R.Region.faults c.args.regions.now)
    (map g.R.Region.faults c.read_found.new.regions)
    (map g.B.Block.faults c.args.blocks.now) failed.0 failed.1
    c.in_err-head.ensures.cause.later c.in_err-head.ensures.cause.failed

pub read_word-requires-clause-within : goal.read_word-requires-clause-within
read_word-requires-clause-within g c =
    subst HaveFirstWords (sym c.read_found.ensures.leaves.same) c.requires.words
    (67 + c.args.pending.node)
    (omega (
      arith,
      c.requires.node,
      c.requires.queue,
      length-map c.args.regions.now g.R.Region.seen,
      ap (λ (ss : List (Seen WordStep)). length ss) c.read_found.ensures.leaves.same,
    ))

pub read_word-requires-clause-distinct : goal.read_word-requires-clause-distinct
read_word-requires-clause-distinct g c =
    subst (λ (ss : List (Seen WordStep)). AreDistinct (all_devices ss))
    (sym c.read_found.ensures.leaves.same)
    (distinct-front (all_devices (map g.R.Region.seen c.args.regions.now))
    (all_devices (map g.B.Block.seen c.args.blocks.now)) c.requires.distinct)

pub returns-in_err-size-clause-home : goal.returns-in_err-size-clause-home
returns-in_err-size-clause-home g c =
    let failed = err_from_is_err_and c.from_residual-in_err-size.result
    c.from_residual-in_err-size.ensures.1 in
    reads-fail c.args.pending failed.0 failed.1 (map g.R.Region.seen c.args.regions.now)
    (map g.R.Region.seen c.read_word.new.regions) (map g.B.Block.seen c.args.blocks.now)
    (leaves-after c.read_found.ensures.leaves c.read_word.ensures.leaves)

pub returns-in_err-size-clause-cause : goal.returns-in_err-size-clause-cause
returns-in_err-size-clause-cause g c =
    let failed = err_from_is_err_and c.from_residual-in_err-size.result
    c.from_residual-in_err-size.ensures.1 in
    let others = map g.B.Block.faults c.args.blocks.now in
    subst (λ (ns : List ℕ). HaveCause (ns ++ others)
    (map g.R.Region.faults c.read_word.new.regions ++ others)
    c.from_residual-in_err-size.result)
    c.in_ok-head.ensures.cause.passed
    (failed-front (map g.R.Region.faults c.read_found.new.regions)
    (map g.R.Region.faults c.read_word.new.regions) others failed.0 failed.1
    c.in_err-size.ensures.cause.later c.in_err-size.ensures.cause.failed)

pub bring_truncate-requires-clause-taken : goal.bring_truncate-requires-clause-taken
bring_truncate-requires-clause-taken g c =
    let olds : List (Seen WordStep) = map g.R.Region.seen c.args.regions.now in
    let taken : IsTakenUp c.args.pending c.in_ok-head.head c.in_ok-size.size olds = record {
      node = c.requires.node;
      ino = c.requires.ino;
      slot = c.requires.slot;
      place = omega (arith, c.requires.queue, length-map c.args.regions.now g.R.Region.seen);
      reads = c.in_ok-head.ensures.fields;
      stored = c.in_ok-size.ensures.word
          ∙ ap (λ (ss : List (Seen WordStep)).
          get_or (words_at ss (67 + c.args.pending.node)) 0 0) c.read_found.ensures.leaves.same;
    } in
    subst (IsTakenUp c.args.pending c.in_ok-head.head c.in_ok-size.size)
    (sym (c.read_word.ensures.leaves.same ∙ c.read_found.ensures.leaves.same)) taken

pub bring_truncate-requires-clause-words : goal.bring_truncate-requires-clause-words
bring_truncate-requires-clause-words g c =
    subst HaveFirstWords (sym (c.read_word.ensures.leaves.same ∙ c.read_found.ensures.leaves.same))
    c.requires.words

pub bring_truncate-requires-clause-finds : goal.bring_truncate-requires-clause-finds
bring_truncate-requires-clause-finds g c = c.requires.finds

pub bring_truncate-requires-clause-distinct : goal.bring_truncate-requires-clause-distinct
bring_truncate-requires-clause-distinct g c =
    subst (λ (ss : List (Seen WordStep)).
    AreDistinct (numbers_of (both ss (map g.B.Block.seen c.args.blocks.now))))
    (sym (c.read_word.ensures.leaves.same ∙ c.read_found.ensures.leaves.same))
    c.requires.distinct

pub returns-then-head-eq-TRUNCATE-clause-home : goal.returns-then-head-eq-TRUNCATE-clause-home
returns-then-head-eq-TRUNCATE-clause-home g c =
    reads-then c.args.pending c.bring_truncate.result (map g.R.Region.seen c.args.regions.now)
    (map g.R.Region.seen c.read_word.new.regions) (map g.R.Region.seen c.bring_truncate.new.regions)
    (map g.B.Block.seen c.args.blocks.now) (map g.B.Block.seen c.bring_truncate.new.blocks)
    (leaves-after c.read_found.ensures.leaves c.read_word.ensures.leaves)
    c.bring_truncate.ensures.home

pub returns-then-head-eq-TRUNCATE-clause-cause : goal.returns-then-head-eq-TRUNCATE-clause-cause
returns-then-head-eq-TRUNCATE-clause-cause g c =
    subst (λ (ns : List ℕ). HaveCause (ns ++ map g.B.Block.faults c.args.blocks.now)
    (map g.R.Region.faults c.bring_truncate.new.regions ++ map g.B.Block.faults
    c.bring_truncate.new.blocks)
    c.bring_truncate.result)
    (c.in_ok-size.ensures.cause.passed ∙ c.in_ok-head.ensures.cause.passed)
    c.bring_truncate.ensures.cause

pub bring_write-requires-clause-taken : goal.bring_write-requires-clause-taken
bring_write-requires-clause-taken g c =
    let olds : List (Seen WordStep) = map g.R.Region.seen c.args.regions.now in
    let taken : IsTakenUp c.args.pending c.in_ok-head.head c.in_ok-size.size olds = record {
      node = c.requires.node;
      ino = c.requires.ino;
      slot = c.requires.slot;
      place = omega (arith, c.requires.queue, length-map c.args.regions.now g.R.Region.seen);
      reads = c.in_ok-head.ensures.fields;
      stored = c.in_ok-size.ensures.word
          ∙ ap (λ (ss : List (Seen WordStep)).
          get_or (words_at ss (67 + c.args.pending.node)) 0 0) c.read_found.ensures.leaves.same;
    } in
    subst (IsTakenUp c.args.pending c.in_ok-head.head c.in_ok-size.size)
    (sym (c.read_word.ensures.leaves.same ∙ c.read_found.ensures.leaves.same)) taken

pub bring_write-requires-clause-words : goal.bring_write-requires-clause-words
bring_write-requires-clause-words g c =
    subst HaveFirstWords (sym (c.read_word.ensures.leaves.same ∙ c.read_found.ensures.leaves.same))
    c.requires.words

pub bring_write-requires-clause-finds : goal.bring_write-requires-clause-finds
bring_write-requires-clause-finds g c = c.requires.finds

pub bring_write-requires-clause-distinct : goal.bring_write-requires-clause-distinct
bring_write-requires-clause-distinct g c =
    subst (λ (ss : List (Seen WordStep)).
    AreDistinct (numbers_of (both ss (map g.B.Block.seen c.args.blocks.now))))
    (sym (c.read_word.ensures.leaves.same ∙ c.read_found.ensures.leaves.same))
    c.requires.distinct

pub bring_write-requires-clause-whole : goal.bring_write-requires-clause-whole
bring_write-requires-clause-whole g c =
    subst (λ (ss : List (Seen WordStep)). HoldsWhole (words_at ss (323 + c.args.pending.slot)))
    (sym (c.read_word.ensures.leaves.same ∙ c.read_found.ensures.leaves.same))
    c.requires.whole

pub bring_write-requires-clause-slots : goal.bring_write-requires-clause-slots
bring_write-requires-clause-slots g c =
    subst AreSlots (sym (c.read_word.ensures.leaves.same ∙ c.read_found.ensures.leaves.same))
    c.requires.slots

pub returns-clause-home : goal.returns-clause-home
returns-clause-home g c =
    reads-then c.args.pending c.bring_write.result (map g.R.Region.seen c.args.regions.now)
    (map g.R.Region.seen c.read_word.new.regions) (map g.R.Region.seen c.bring_write.new.regions)
    (map g.B.Block.seen c.args.blocks.now) (map g.B.Block.seen c.bring_write.new.blocks)
    (leaves-after c.read_found.ensures.leaves c.read_word.ensures.leaves) c.bring_write.ensures.home

pub returns-clause-cause : goal.returns-clause-cause
returns-clause-cause g c =
    subst (λ (ns : List ℕ). HaveCause (ns ++ map g.B.Block.faults c.args.blocks.now)
    (map g.R.Region.faults c.bring_write.new.regions ++ map g.B.Block.faults
    c.bring_write.new.blocks)
    c.bring_write.result)
    (c.in_ok-size.ensures.cause.passed ∙ c.in_ok-head.ensures.cause.passed)
    c.bring_write.ensures.cause
