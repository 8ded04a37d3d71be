use Rattle.std.proofs.Common.{◌≡◌, ◌∙◌, None, Some, subst, sym, true, false}
use Rattle.cfs_block.specs.BlockOps.{SetsTag}
use Rattle.cfs_tracker.specs.Cells.{cell_at, moving}
use Rattle.cfs_tracker.specs.View.{view_of}
use Rattle.cfs_tracker.specs.declared.cell.Cell.TheVariants as kinds
use Rattle.cfs_inode.specs.Marking.{answer_for}
use Rattle.cfs_inode.specs.Purges.{untagging}
use Rattle.cfs_inode.proofs.Purges.{kept-held, state-in-use, state-kept}
use Rattle.cfs_inode.proofs.TrimTells.{state-block, state-cell}
use Rattle.cfs_inode.proofs.Trimmings.{tags-err, tags-ok, untagged-sure}
use Rattle.cfs_inode.proofs.purge.InodeState+R+B.purge_block.Goals as goal

pub unreachable-requires : goal.unreachable-requires
unreachable-requires g c =
    let held = kept-held (view_of c.args.self.now.tracker) c.args.block c.requires.lowest in
    let none : Some held.0 ≡ None = sym held.1 ∙ sym c.in_default.ensures.block in
    cc

pub new-requires : goal.new-requires
new-requires g c =
    untagged-sure (g.B.Block.seen c.in-Some.home) (g.B.Block.seen c.retag.new.block)
    c.in-Ok.ensures.set.ok c.in-Ok.ensures.set.sure

pub returns-in-Ok : goal.returns-in-Ok
returns-in-Ok g c =
    let words = g.R.Region.seen in
    let seen = g.B.Block.seen in
    let state = c.args.self.now in (
      c.args.block,
      record {
        unused = state-in-use words seen state false c.requires.unused;
        lowest = state-kept words seen state (Some c.args.block) c.requires.lowest;
        was = seen c.in-Some.home;
        here = state-block words seen state c.args.block (Some c.in-Some.home)
            c.in-Some.ensures.block;
        sets = subst (λ b. SetsTag g.B.Block.obeys_power g.B.Block.keeps_refused 0
            (answer_for true) (g.P.Power.asked c.args.power.now) (seen c.in-Some.home)
            (g.P.Power.asked c.retag.new.power) (seen b)) (sym c.new.ensures)
            (tags-ok tt c.in-Ok.ensures.set);
      },
      state-cell words seen state c.untagged.new.self (view_of c.take_block.new.self) c.args.block
          (moving (cell_at (view_of state.tracker).cells c.args.block)) kinds.Hole
          c.untagged.ensures.view c.in-Some.ensures.view,
    )

pub returns-in-Err : goal.returns-in-Err
returns-in-Err g c =
    let words = g.R.Region.seen in
    let seen = g.B.Block.seen in
    let state = c.args.self.now in (
      untagging,
      (
        c.args.block,
        seen c.retag.new.block,
        record {
          unused = state-in-use words seen state false c.requires.unused;
          lowest = state-kept words seen state (Some c.args.block) c.requires.lowest;
          was = seen c.in-Some.home;
          here = state-block words seen state c.args.block (Some c.in-Some.home)
              c.in-Some.ensures.block;
          sets = tags-err c.in-Err.field-0 c.in-Err.ensures.set;
        },
        state-cell words seen state c.untagged-in-Err.new.self (view_of c.take_block.new.self)
            c.args.block (moving (cell_at (view_of state.tracker).cells c.args.block))
            (kinds.Unsure c.retag.new.block) c.untagged-in-Err.ensures.view c.in-Some.ensures.view,
      ),
    )
