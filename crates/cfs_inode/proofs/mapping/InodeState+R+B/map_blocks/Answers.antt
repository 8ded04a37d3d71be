use Rattle.std.proofs.Common.{rules, ◌≡◌, ◌∙◌, ◌≤◌, ◌<◌, ap, arith, length, None, Some, not, refl}
use Rattle.std.proofs.Common.{subst, sym, ℕ}
use Rattle.std.proofs.lemmas.List.{length-map}
use Rattle.cfs_file.specs.declared.sizes.TheConstants.{FILE_BLOCKS}
use Rattle.cfs_file.specs.Span.{EndFits, span}
use Rattle.cfs_tracker.specs.Admit.{bare_needed, first_unmapped, is_mapped}
use Rattle.cfs_tracker.specs.Cells.{cell_at}
use Rattle.cfs_tracker.specs.View.{view_of}
use Rattle.cfs_vec.specs.Items.{items_of}
use Rattle.cfs_inode.specs.Tagging.{stock_of}
use Rattle.cfs_inode.specs.View.{StateView, state_view, told_cell}
use Rattle.cfs_inode.proofs.Mappings.{end-fits, first-is, mapped-all, mapped-failed, mapping-fewer}
use Rattle.cfs_inode.proofs.Mappings.{mapping-next, mapping-none, needed-within, stock-some}
use Rattle.cfs_inode.proofs.MapTells.{state-first, stocked-back, stocked-told}
use Rattle.cfs_inode.proofs.mapping.InodeState+R+B.map_blocks.Goals as goal

pub loop-block-init : goal.loop-block-init
loop-block-init g c =
    let seen = g.B.Block.seen in
    let own = span c.args.request.now (view_of c.args.self.now.tracker).long in (
      mapping-none g.B.Block.obeys_power g.B.Block.keeps_refused own
          (g.P.Power.asked c.args.power.now) (stock_of seen c.args.stock.now)
          (state_view g.R.Region.seen seen c.args.self.now)
          (length-map (view_of c.args.self.now.tracker).cells (told_cell seen)
          ∙ c.args.self.now.tracker.covers_file)
          (stocked-told g.R.Region.seen seen c.args.self.now c.args.stock.now own
          c.requires.stocked),
      refl,
      record { entries = omega arith; reads = omega arith },
    )

pub first_unmapped-requires : goal.first_unmapped-requires
first_unmapped-requires g c =
    subst (λ (n : ℕ). EndFits c.args.request.now n) (sym c.loop-block.invariant.0.long)
    (end-fits c.args.request.now c.args.self.now.tracker.long c.requires.fits)

pub tag-requires : goal.tag-requires
tag-requires g c =
    let seen = g.B.Block.seen in
    let long = (view_of c.args.self.now.tracker).long in
    let own = span c.args.request.now long in
    let view = view_of c.loop-block.self.tracker in
    let block : ℕ = c.in-Some.block in
    let first : first_unmapped view.cells own ≡ Some block =
    subst (λ (n : ℕ). first_unmapped view.cells (span c.args.request.now n) ≡ Some block)
    c.loop-block.invariant.0.long (sym c.in-Some.ensures) in
    let less : block < FILE_BLOCKS =
    needed-within (λ k. not (is_mapped (cell_at view.cells k))) c.args.request.now long block
    c.requires.fits c.requires.change first in
    let ino : c.loop-block.self.ino < 4294967296 =
    omega (arith, c.loop-block.invariant.1, c.requires.ino) in
    let stocked : bare_needed view.cells own ≤ length (items_of c.loop-block.stock) =
    stocked-back g.R.Region.seen seen c.loop-block.self c.loop-block.stock own
    c.loop-block.invariant.0.stocked in (
      search rules,
      (
        search rules,
        (
          search rules,
          (
            ino,
            (
              less,
              (
                first-is view.cells own block first,
                stock-some view.cells own block (length (items_of c.loop-block.stock)) first
                    stocked,
              ),
            ),
          ),
        ),
      ),
    )

pub returns-then-not-tag-clause-maps : goal.returns-then-not-tag-clause-maps
returns-then-not-tag-clause-maps g c =
    let seen = g.B.Block.seen in
    let words = g.R.Region.seen in
    let own = span c.args.request.now (view_of c.args.self.now.tracker).long in
    let now = state_view words seen c.loop-block.self in
    let first : first_unmapped now.tracker.cells own ≡ Some c.in-Some.block =
    subst (λ (n : ℕ). first_unmapped now.tracker.cells (span c.args.request.now n)
    ≡ Some c.in-Some.block) c.loop-block.invariant.0.long
    (state-first words seen c.loop-block.self
    (span c.args.request.now c.loop-block.self.tracker.long) (Some c.in-Some.block)
    c.in-Some.ensures) in
    mapped-failed g.B.Block.obeys_power g.B.Block.keeps_refused own c.in-Some.block
    (g.P.Power.asked c.args.power.now) (stock_of seen c.args.stock.now)
    (state_view words seen c.args.self.now) (g.P.Power.asked c.loop-block.power)
    (stock_of seen c.loop-block.stock) now (g.P.Power.asked c.tag.new.power)
    (stock_of seen c.tag.new.stock) (state_view words seen c.tag.new.self)
    c.loop-block.invariant.0.has first c.if-not-tag.ensures.tags c.if-not-tag.ensures.makes

pub loop-block-smaller : goal.loop-block-smaller
loop-block-smaller g c =
    let seen = g.B.Block.seen in
    let words = g.R.Region.seen in
    let long = (view_of c.args.self.now.tracker).long in
    let own = span c.args.request.now long in
    let now = state_view words seen c.loop-block.self in
    let first : first_unmapped now.tracker.cells own ≡ Some c.in-Some.block =
    subst (λ (n : ℕ). first_unmapped now.tracker.cells (span c.args.request.now n)
    ≡ Some c.in-Some.block) c.loop-block.invariant.0.long
    (state-first words seen c.loop-block.self
    (span c.args.request.now c.loop-block.self.tracker.long) (Some c.in-Some.block)
    c.in-Some.ensures) in
    let less : c.in-Some.block < FILE_BLOCKS =
    needed-within (λ k. not (is_mapped (cell_at now.tracker.cells k))) c.args.request.now long
    c.in-Some.block c.requires.fits c.requires.change first in
    mapping-fewer g.B.Block.obeys_power g.B.Block.keeps_refused own c.in-Some.block
    (g.P.Power.asked c.loop-block.power) (stock_of seen c.loop-block.stock) now
    (g.P.Power.asked c.tag.new.power) (stock_of seen c.tag.new.stock)
    (state_view words seen c.tag.new.self) c.loop-block.invariant.0.many first less
    c.if-not-tag.ensures.tags

pub loop-block-preserved : goal.loop-block-preserved
loop-block-preserved g c =
    let seen = g.B.Block.seen in
    let words = g.R.Region.seen in
    let long = (view_of c.args.self.now.tracker).long in
    let own = span c.args.request.now long in
    let now = state_view words seen c.loop-block.self in
    let first : first_unmapped now.tracker.cells own ≡ Some c.in-Some.block =
    subst (λ (n : ℕ). first_unmapped now.tracker.cells (span c.args.request.now n)
    ≡ Some c.in-Some.block) c.loop-block.invariant.0.long
    (state-first words seen c.loop-block.self
    (span c.args.request.now c.loop-block.self.tracker.long) (Some c.in-Some.block)
    c.in-Some.ensures) in
    let less : c.in-Some.block < FILE_BLOCKS =
    needed-within (λ k. not (is_mapped (cell_at now.tracker.cells k))) c.args.request.now long
    c.in-Some.block c.requires.fits c.requires.change first in (
      mapping-next g.B.Block.obeys_power g.B.Block.keeps_refused own c.in-Some.block
          (g.P.Power.asked c.args.power.now) (stock_of seen c.args.stock.now)
          (state_view words seen c.args.self.now) (g.P.Power.asked c.loop-block.power)
          (stock_of seen c.loop-block.stock) now (g.P.Power.asked c.tag.new.power)
          (stock_of seen c.tag.new.stock) (state_view words seen c.tag.new.self)
          c.loop-block.invariant.0 first less c.if-not-tag.ensures.tags
          c.if-not-tag.ensures.makes,
      ap (λ (s : StateView). s.ino) c.if-not-tag.ensures.tags.new_is
          ∙ c.loop-block.invariant.1,
      record {
        entries = omega (arith, c.loop-block.invariant.2.entries, c.tag.ensures.room.entries);
        reads = omega (arith, c.loop-block.invariant.2.reads, c.tag.ensures.room.reads);
      },
    )

pub returns-clause-maps : goal.returns-clause-maps
returns-clause-maps g c =
    let seen = g.B.Block.seen in
    let words = g.R.Region.seen in
    let own = span c.args.request.now (view_of c.args.self.now.tracker).long in
    let now = state_view words seen c.loop-block.self in
    let none : first_unmapped now.tracker.cells own ≡ None =
    subst (λ (n : ℕ). first_unmapped now.tracker.cells (span c.args.request.now n) ≡ None)
    c.loop-block.invariant.0.long
    (state-first words seen c.loop-block.self
    (span c.args.request.now c.loop-block.self.tracker.long) None c.in_default.ensures) in
    mapped-all g.B.Block.obeys_power g.B.Block.keeps_refused own
    (g.P.Power.asked c.args.power.now) (stock_of seen c.args.stock.now)
    (state_view words seen c.args.self.now) (g.P.Power.asked c.loop-block.power)
    (stock_of seen c.loop-block.stock) now c.loop-block.invariant.0.has none
