use Rattle.std.proofs.Common.{◌≡◌, ◌∙◌, ◌+◌, ◌-◌, ◌*◌, ◌/◌, ◌<◌, ◌≤◌, [], ap, arith, drop, length}
use Rattle.std.proofs.Common.{min, refl, subst, sym, take}
use Rattle.std.proofs.lemmas.Result.{err_from_is_err_and}
use Rattle.cfs_file.specs.declared.sizes.TheConstants.{BLOCK_LEN}
use Rattle.cfs_tracker.specs.Cells.{cell_at}
use Rattle.cfs_inode.specs.Makes.{CallMakes}
use Rattle.cfs_inode.specs.Serves.{Reads, blocks_between, end_block, home_byte, home_devices}
use Rattle.cfs_inode.specs.View.{StateView, state_view}
use Rattle.cfs_inode.proofs.Copies.{copied-more, end-above, is-between, is-piece, part-long}
use Rattle.cfs_inode.proofs.Copies.{past-end, put-long}
use Rattle.cfs_inode.proofs.ReadSteps.{AreRead, none-read, read-ends, read-next}
use Rattle.cfs_inode.proofs.Resting.{rests}
use Rattle.cfs_inode.proofs.Serving.{still-makes}
use Rattle.cfs_inode.proofs.serve.InodeState+R+B.copy_blocks.Goals as goal

pub loop-block-init : goal.loop-block-init
loop-block-init g c =
    let state = state_view g.R.Region.seen g.B.Block.seen c.args.self.now in
    let asked = g.P.Power.asked c.args.power.now in
    let first = c.args.from / BLOCK_LEN in
    record {
      size = refl;
      view = refl;
      bytes = λ i less low. absurd (omega (arith, low));
      makes = rests state asked;
      reads = λ obeys. none-read state.tracker.cells first (first - first) asked (omega arith);
    }

pub overflow_mul-base : goal.overflow_mul-base
overflow_mul-base g c =
    let here = is-between c.args.from c.args.to c.loop-block.block c.loop-block.auto.block
    (subst (λ n. c.loop-block.block < n) c.end_block-block-end.ensures c.loop-block-test.true) in
    omega (arith, here.low, c.ranges.to)

pub slice_bounds-piece-end : goal.slice_bounds-piece-end
slice_bounds-piece-end g c =
    let here = is-between c.args.from c.args.to c.loop-block.block c.loop-block.auto.block
    (subst (λ n. c.loop-block.block < n) c.end_block-block-end.ensures c.loop-block-test.true) in
    omega (
      arith,
      here.some,
      here.low,
      here.high,
      c.requires,
      c.loop-block.invariant.size,
      c.max-start.ensures,
      c.min.ensures,
    )

pub loop-block-preserved : goal.loop-block-preserved
loop-block-preserved g c =
    let state = state_view g.R.Region.seen g.B.Block.seen c.args.self.now in
    let now = state_view g.R.Region.seen g.B.Block.seen c.loop-block.self in
    let cells = state.tracker.cells in
    let block = c.loop-block.block in
    let from = c.args.from in
    let asked = g.P.Power.asked c.args.power.now in
    let asked_mid = g.P.Power.asked c.loop-block.power in
    let asked_new = g.P.Power.asked c.copy_block.new.power in
    let xs = c.loop-block.out in
    let ys = c.copy_block.new.out in
    let start = c.max-start.result in
    let end = BLOCK_LEN * block + c.min.result in
    let inv = c.loop-block.invariant in
    let here = is-between from c.args.to block c.loop-block.auto.block
    (subst (λ n. block < n) c.end_block-block-end.ensures c.loop-block-test.true) in
    let ends : end ≡ BLOCK_LEN * block + min BLOCK_LEN (c.args.to - BLOCK_LEN * block) =
    ap (λ n. BLOCK_LEN * block + n) c.min.ensures in
    let piece = is-piece from c.args.to block start end here c.max-start.ensures ends in
    let all : length xs ≡ c.args.to - from = inv.size ∙ c.requires in
    let room : start - from + (end - from - (start - from)) ≤ length xs =
    subst (λ n. start - from + (end - from - (start - from)) ≤ n) (sym all) piece.room in
    let part : length (take (end - from - (start - from)) (drop (start - from) xs))
    ≡ end - from - (start - from) =
    part-long (start - from) (end - from - (start - from)) xs room in
    let long : length ys ≡ end - from - (start - from) = c.copy_block.ensures.size ∙ part in
    let whole = put-long (start - from) (end - from - (start - from)) xs ys room long in
    let same = ap (λ (s : StateView). s.tracker.cells) inv.view in
    record {
      size = whole ∙ inv.size;
      view = c.copy_block.ensures.view ∙ inv.view;
      bytes = λ i less low.
          copied-more cells xs ys from c.args.to block start end all here c.max-start.ensures ends
          piece.some (long ∙ piece.long) inv.bytes
          (λ j within.
          c.in_ok-copy_block.ensures.bytes j
          (subst (λ n. j < n) (sym (part ∙ piece.long)) within)
          ∙ ap (λ cs. home_byte (cell_at cs block) (start - BLOCK_LEN * block + j)) same)
          i (subst (λ n. i < n) whole less) low;
      makes = still-makes state asked asked_mid asked_new inv.makes
          (subst (λ (s : StateView). CallMakes [] asked_mid s asked_new s) inv.view
          c.copy_block.ensures.makes);
      reads = λ obeys.
          read-next cells now.tracker.cells (from / BLOCK_LEN) block asked asked_mid asked_new same
          c.loop-block.auto.block (inv.reads obeys) (c.in_ok-copy_block.ensures.reads obeys);
    }

pub returns-in_err-copy_block-clause-makes : goal.returns-in_err-copy_block-clause-makes
returns-in_err-copy_block-clause-makes g c =
    let state = state_view g.R.Region.seen g.B.Block.seen c.args.self.now in
    let asked_mid = g.P.Power.asked c.loop-block.power in
    let asked_new = g.P.Power.asked c.copy_block.new.power in
    still-makes state (g.P.Power.asked c.args.power.now) asked_mid asked_new
    c.loop-block.invariant.makes
    (subst (λ (s : StateView). CallMakes [] asked_mid s asked_new s) c.loop-block.invariant.view
    c.copy_block.ensures.makes)

pub returns-in_err-copy_block-clause-reads : goal.returns-in_err-copy_block-clause-reads
returns-in_err-copy_block-clause-reads g c = λ obeys.
    let state = state_view g.R.Region.seen g.B.Block.seen c.args.self.now in
    let now = state_view g.R.Region.seen g.B.Block.seen c.loop-block.self in
    let cells = state.tracker.cells in
    let from = c.args.from in
    let asked = g.P.Power.asked c.args.power.now in
    let asked_mid = g.P.Power.asked c.loop-block.power in
    let asked_new = g.P.Power.asked c.copy_block.new.power in
    let p = err_from_is_err_and c.from_residual.result c.from_residual.ensures.1 in
    subst (λ r. Reads (home_devices cells (blocks_between from c.args.to)) r asked asked_new)
    (sym p.1)
    (read-ends cells now.tracker.cells (from / BLOCK_LEN) c.loop-block.block
    (end_block from c.args.to) asked asked_mid asked_new
    (ap (λ (s : StateView). s.tracker.cells) c.loop-block.invariant.view)
    c.loop-block.auto.block
    (subst (λ n. c.loop-block.block < n) c.end_block-block-end.ensures c.loop-block-test.true)
    (c.loop-block.invariant.reads obeys) (c.in_err-copy_block.ensures.reads obeys))

pub returns-clause-bytes : goal.returns-clause-bytes
returns-clause-bytes g c = λ i less.
    c.loop-block.invariant.bytes i (subst (λ n. i < n) (sym c.loop-block.invariant.size) less)
    (omega (
      arith,
      c.loop-block-test.false,
      c.end_block-block-end.ensures,
      past-end c.args.from c.args.to i (subst (λ n. i < n) c.requires less),
    ))

pub returns-clause-reads : goal.returns-clause-reads
returns-clause-reads g c = λ obeys.
    let state = state_view g.R.Region.seen g.B.Block.seen c.args.self.now in
    let from = c.args.from in
    let over : c.loop-block.block ≤ c.end_block-block-end.result =
    c.loop-block.auto.block-end
    (subst (λ n. from / BLOCK_LEN ≤ n) (sym c.end_block-block-end.ensures)
    (end-above from c.args.to)) in
    let done : c.loop-block.block ≡ end_block from c.args.to =
    omega (arith, over, c.loop-block-test.false, c.end_block-block-end.ensures) in
    subst (λ n. AreRead state.tracker.cells (from / BLOCK_LEN) (n - from / BLOCK_LEN)
    (g.P.Power.asked c.args.power.now) (g.P.Power.asked c.loop-block.power)) done
    (c.loop-block.invariant.reads obeys)
