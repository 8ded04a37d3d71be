use Rattle.std.proofs.Common.{◌≡◌, ◌∙◌, ◌+◌, ◌++◌, ap, get_or, length, subst, sym}
use Rattle.std.proofs.lemmas.Result.{on_ok_weaker}
use Rattle.cfs_pmem.specs.Operations.{all_allowed}
use Rattle.cfs_block.specs.BlockImages.{content_of}
use Rattle.cfs_tracker.specs.declared.cell.Cell.TheVariants as kinds
use Rattle.cfs_tracker.specs.Cells.{cell_at, moving}
use Rattle.cfs_tracker.specs.View.{view_of}
use Rattle.cfs_inode.specs.Serves.{Reads, home_byte, home_device, read_ask}
use Rattle.cfs_inode.specs.View.{state_view, told_cell}
use Rattle.cfs_inode.proofs.Copies.{away-byte, away-device, bytes-read, cell-seen, home-is}
use Rattle.cfs_inode.proofs.Copies.{none-under, some-home, state-read-back}
use Rattle.cfs_inode.proofs.ReadSteps.{read-once}
use Rattle.cfs_inode.proofs.Resting.{rests}
use Rattle.cfs_inode.proofs.Serving.{read-makes}
use Rattle.cfs_inode.proofs.serve.InodeState+R+B.copy_block.Goals as goal

pub returns-then-not-is_home-clause-bytes : goal.returns-then-not-is_home-clause-bytes
returns-then-not-is_home-clause-bytes g c = λ i less.
    let old = c.args.self.now in
    let cell = cell_at (view_of old.tracker).cells c.args.block in
    let away = sym c.is_home.ensures.home ∙ c.if-not-is_home.true in
    c.clear_from.ensures.bytes i less ∙ none-under i (get_or c.args.out.now i 0)
    ∙ sym (ap (λ x. home_byte x (c.args.from + i))
    (cell-seen g.R.Region.seen g.B.Block.seen old c.args.block)
    ∙ away-byte g.B.Block.seen cell (c.args.from + i) away)

pub returns-then-not-is_home-clause-makes : goal.returns-then-not-is_home-clause-makes
returns-then-not-is_home-clause-makes g c =
    rests (state_view g.R.Region.seen g.B.Block.seen c.args.self.now)
    (g.P.Power.asked c.args.power.now)

pub returns-then-not-is_home-clause-reads : goal.returns-then-not-is_home-clause-reads
returns-then-not-is_home-clause-reads g c = λ obeys.
    let old = c.args.self.now in
    let cell = cell_at (view_of old.tracker).cells c.args.block in
    let away = sym c.is_home.ensures.home ∙ c.if-not-is_home.true in
    sym (ap (λ ds. all_allowed read_ask ds ++ g.P.Power.asked c.args.power.now)
    (ap home_device (cell-seen g.R.Region.seen g.B.Block.seen old c.args.block)
    ∙ away-device g.B.Block.seen cell away))

pub unreachable-requires : goal.unreachable-requires
unreachable-requires g c =
    some-home (cell_at (view_of c.args.self.now.tracker).cells c.args.block)
    (sym c.is_home.ensures.home ∙ c.if-not-is_home.false)
    (sym c.take_block.ensures.block ∙ c.in_default.is)

pub returns-clause-view : goal.returns-clause-view
returns-clause-view g c =
    let old = c.args.self.now in
    let cell = cell_at (view_of old.tracker).cells c.args.block in
    state-read-back g.R.Region.seen g.B.Block.seen old c.bring.new.self
    (view_of c.take_block.new.self) c.args.block (moving cell) c.in-Some.home
    c.read-done.new.self c.bring.ensures.view c.take_block.ensures.view
    (home-is cell c.in-Some.home (sym c.is_home.ensures.home ∙ c.if-not-is_home.false)
    (sym c.in-Some.is ∙ c.take_block.ensures.block))
    c.read-done.ensures.seen

pub returns-clause-bytes : goal.returns-clause-bytes
returns-clause-bytes g c =
    let old = c.args.self.now in
    let cell = cell_at (view_of old.tracker).cells c.args.block in
    let seen = g.B.Block.seen c.in-Some.home in
    let is : cell_at (state_view g.R.Region.seen g.B.Block.seen old).tracker.cells c.args.block
    ≡ kinds.Home seen =
    cell-seen g.R.Region.seen g.B.Block.seen old c.args.block
    ∙ ap (told_cell g.B.Block.seen)
    (home-is cell c.in-Some.home (sym c.is_home.ensures.home ∙ c.if-not-is_home.false)
    (sym c.in-Some.is ∙ c.take_block.ensures.block)) in
    on_ok_weaker c.read-done.result
    (λ read i less.
    bytes-read (content_of seen).bytes c.read-done.new.out c.args.from (length c.args.out.now) i
    read less
    ∙ sym (ap (λ x. home_byte x (c.args.from + i)) is))
    c.read-done.ensures.ok

pub returns-clause-makes : goal.returns-clause-makes
returns-clause-makes g c =
    let old = c.args.self.now in
    let cell = cell_at (view_of old.tracker).cells c.args.block in
    let seen = g.B.Block.seen c.in-Some.home in
    read-makes (state_view g.R.Region.seen g.B.Block.seen old) c.args.block seen
    (g.P.Power.asked c.args.power.now) (g.P.Power.asked c.read-done.new.power)
    (c.is_home.ensures.within c.if-not-is_home.false)
    (cell-seen g.R.Region.seen g.B.Block.seen old c.args.block
    ∙ ap (told_cell g.B.Block.seen)
    (home-is cell c.in-Some.home (sym c.is_home.ensures.home ∙ c.if-not-is_home.false)
    (sym c.in-Some.is ∙ c.take_block.ensures.block)))
    c.read-done.ensures.asks

pub returns-clause-reads : goal.returns-clause-reads
returns-clause-reads g c = λ obeys.
    let old = c.args.self.now in
    let cell = cell_at (view_of old.tracker).cells c.args.block in
    let seen = g.B.Block.seen c.in-Some.home in
    let asked_old = g.P.Power.asked c.args.power.now in
    let asked_new = g.P.Power.asked c.read-done.new.power in
    let is : cell_at (state_view g.R.Region.seen g.B.Block.seen old).tracker.cells c.args.block
    ≡ kinds.Home seen =
    cell-seen g.R.Region.seen g.B.Block.seen old c.args.block
    ∙ ap (told_cell g.B.Block.seen)
    (home-is cell c.in-Some.home (sym c.is_home.ensures.home ∙ c.if-not-is_home.false)
    (sym c.in-Some.is ∙ c.take_block.ensures.block)) in
    subst (λ x. Reads (home_device x) c.read-done.result asked_old asked_new) (sym is)
    (read-once seen.device c.read-done.result asked_old asked_new
    (c.read-done.ensures.asked obeys))
