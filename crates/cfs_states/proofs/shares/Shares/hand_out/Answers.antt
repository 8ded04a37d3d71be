use Rattle.std.proofs.Common.{◌/◌, arith, sym}
use Rattle.cfs_block.specs.MemoryBlocks.{seen_of}
use Rattle.cfs_states.specs.Shares.{views_of}
use Rattle.cfs_states.proofs.Handed.{free-none, handed-none, handed-set, known-some, tagged-some}
use Rattle.cfs_states.proofs.shares.Shares.hand_out.Goals as goal

pub returns-then-tag-eq0-clause-shares : goal.returns-then-tag-eq0-clause-shares
returns-then-tag-eq0-clause-shares c =
    handed-none c.args.records.now (seen_of c.args.block) (views_of c.args.self.now)
    (free-none c.args.records.now (seen_of c.args.block) c.tag_word-tag.result
    c.tag_word-tag.ensures c.if-tag-eq0.true)

pub unreachable-requires : goal.unreachable-requires
unreachable-requires c =
    let known = known-some c.args.records.now (seen_of c.args.block) c.tag_word-tag.result
    c.tag_word-tag.ensures c.if-tag-eq0.false c.requires.known in
    let found = c.in_default.ensures.value in absurd (cc)

pub index_mut-requires : goal.index_mut-requires
index_mut-requires c =
    let less = c.requires.records (c.tag_word-tag.result / 65536) c.in-Some.node.now
    (sym c.in-Some.ensures.value) in
    omega (arith, less, c.args.self.now.of_records.ok.0)

pub returns-clause-shares : goal.returns-clause-shares
returns-clause-shares c =
    handed-set c.args.records.now (seen_of c.args.block) c.tag_word-tag.result c.in-Some.node.now
    c.args.self.now.of_records.items c.index_mut.result.now c.add.new.self c.tag_word-tag.ensures
    (tagged-some c.args.records.now (seen_of c.args.block) c.tag_word-tag.result
    c.in-Some.node.now c.tag_word-tag.ensures c.if-tag-eq0.false c.in-Some.ensures.value)
    (c.requires.records (c.tag_word-tag.result / 65536) c.in-Some.node.now
    (sym c.in-Some.ensures.value))
    c.index_mut.ensures.value c.in_ok-add.ensures
