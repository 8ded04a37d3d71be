use Rattle.std.proofs.Common.{◌≡◌, ◌∙◌, ◌+◌, ◌-◌, ◌∷◌, ap, arith, None, Option, Some, sym, ℕ}
use Rattle.std.specs.List.{range_with_len}
use Rattle.std.specs.Option.{option_or}
use Rattle.cfs_tracker.specs.Dispatch.{holder}
use Rattle.cfs_tracker.specs.View.{view_of}
use Rattle.cfs_inode.specs.Serves.{end_block, first_lender}
use Rattle.cfs_inode.specs.View.{state_view}
use Rattle.cfs_inode.proofs.ReadSteps.{range-one}
use Rattle.cfs_inode.proofs.JobTells.{holder-told}
use Rattle.cfs_inode.proofs.serve.InodeState+R+B.lender.Goals as goal

pub returns-in-Some : goal.returns-in-Some
returns-in-Some g c =
    let cells = (state_view g.R.Region.seen g.B.Block.seen c.args.self.now).tracker.cells in
    let block = c.loop-block.block in
    let end = end_block c.args.from c.args.to in
    let rest = first_lender cells (range_with_len (block + 1) (end - (block + 1))) in
    let next : range_with_len block (end - block) ≡
    block ∷ range_with_len (block + 1) (end - (block + 1)) =
    range-one block (end - (block + 1)) (end - block)
    (omega (arith, c.loop-block-test.true, c.end_block-block-end.ensures)) in
    let lent : holder cells (Some block) ≡ Some c.in-Some.place =
    holder-told g.B.Block.seen (view_of c.args.self.now.tracker).cells (Some block)
    ∙ sym c.lender.ensures ∙ c.in-Some.is in
    sym (c.loop-block.invariant ∙ ap (first_lender cells) next
    ∙ ap (λ (o : Option ℕ). option_or o rest) lent)

pub loop-block-preserved : goal.loop-block-preserved
loop-block-preserved g c =
    let cells = (state_view g.R.Region.seen g.B.Block.seen c.args.self.now).tracker.cells in
    let block = c.loop-block.block in
    let end = end_block c.args.from c.args.to in
    let rest = first_lender cells (range_with_len (block + 1) (end - (block + 1))) in
    let next : range_with_len block (end - block) ≡
    block ∷ range_with_len (block + 1) (end - (block + 1)) =
    range-one block (end - (block + 1)) (end - block)
    (omega (arith, c.loop-block-test.true, c.end_block-block-end.ensures)) in
    let free : holder cells (Some block) ≡ None =
    holder-told g.B.Block.seen (view_of c.args.self.now.tracker).cells (Some block)
    ∙ sym c.lender.ensures ∙ c.in_default.is in
    c.loop-block.invariant ∙ ap (first_lender cells) next
    ∙ ap (λ (o : Option ℕ). option_or o rest) free
