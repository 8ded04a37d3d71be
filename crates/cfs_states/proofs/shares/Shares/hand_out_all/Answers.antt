use Rattle.std.proofs.Common.{◌∙◌, sym, subst, refl, length, ℕ}
use Rattle.std.proofs.lemmas.List.{append-nil}
use Rattle.std.proofs.lemmas.Iterator.Adapters.{YieldsList-from_vec}
use Rattle.std.proofs.lemmas.Iterator.Consumers.{YieldsList-turn}
use Rattle.cfs_block.specs.declared.mem_block.MemBlock.{MemBlock}
use Rattle.cfs_block.specs.MemoryBlocks.{seen_of}
use Rattle.cfs_states.specs.Shares.{AreBelow, IsKnown, views_of}
use Rattle.cfs_states.specs.Stored.{is_free_block}
use Rattle.cfs_states.proofs.Handed.{free-more, handed-nothing, handed-push}
use Rattle.cfs_states.proofs.shares.Shares.hand_out_all.Goals as goal

pub loop-block-init : goal.loop-block-init
loop-block-init c = record {
  shares = sym (handed-nothing c.args.records.now 0 (views_of c.args.self.now));
  free = sym (append-nil _);
  count = refl;
}

pub hand_out-requires-clause-known : goal.hand_out-requires-clause-known
hand_out-requires-clause-known c =
    let gives = c.into_iter-block-iterator.ensures.into_iter_gives in
    let turn = YieldsList-turn (YieldsList-from_vec {s = c.into_iter-block-iterator.result}
    c.args.blocks.items gives.0 (gives.1 ∙ c.args.blocks.ok.0)) c.loop-block.yielded
    c.loop-block.block-iterator c.loop-block.yielded_by c.next.result c.next.new.self
    c.in-Some.block c.in-Some.is c.next.ensures.steps in
    subst (λ (b : MemBlock). IsKnown c.args.records.now (seen_of b)) (sym turn.1)
    (c.requires.known (length c.loop-block.yielded) c.in-Some.block turn.0)

pub hand_out-requires-clause-records : goal.hand_out-requires-clause-records
hand_out-requires-clause-records c =
    subst (λ (n : ℕ). AreBelow n c.args.records.now) (sym c.loop-block.invariant.count)
    c.requires.records

pub loop-block-preserved : goal.loop-block-preserved
loop-block-preserved c = record {
  shares = handed-push seen_of c.args.records.now c.loop-block.yielded c.in-Some.block _ _ _
      c.loop-block.invariant.shares c.in_ok-hand_out.ensures.shares;
  free = free-more is_free_block c.loop-block.yielded c.in-Some.block _ _ _
      c.loop-block.invariant.free c.in_ok-hand_out.ensures.free;
  count = c.hand_out.ensures.count ∙ c.loop-block.invariant.count;
}
