use Rattle.std.proofs.Common.{rules, ◌≡◌, ◌<◌, ap, arith, [], ◌∷◌, length, None, Some, true, false}
use Rattle.std.proofs.Common.{refl, subst, sym}
use Rattle.cfs_core.specs.declared.event.Event.TheVariants as events
use Rattle.cfs_tracker.specs.Cells.{cell_at, is_bare, moving}
use Rattle.cfs_tracker.specs.View.{TrackerView, view_of}
use Rattle.cfs_vec.specs.Items.{items_of}
use Rattle.cfs_inode.specs.Makes.{CallMakes}
use Rattle.cfs_inode.specs.Tagging.{IsTaken, stock_of}
use Rattle.cfs_inode.specs.View.{StateView, state_view}
use Rattle.cfs_inode.proofs.Taggings.{tag-again, tag-fresh}
use Rattle.cfs_inode.proofs.TagTells.{again-bare, fresh-bare, none-bare, state-mapped, state-tagged}
use Rattle.cfs_inode.proofs.TagTells.{stock-popped}
use Rattle.cfs_inode.proofs.TrimTells.{state-block}
use Rattle.cfs_inode.proofs.tagging.InodeState+R+B.tag.Goals as goal

pub tag_home-requires : goal.tag_home-requires
tag_home-requires g c =
    let view = view_of c.args.self.now.tracker in
    let bare : is_bare (cell_at (view_of c.take_block.new.self).cells c.args.block) ≡ true =
    subst (λ (v : TrackerView _ _ _). is_bare (cell_at v.cells c.args.block) ≡ true)
    (sym c.take_block.ensures.view)
    (again-bare view.cells c.args.block c.in-Some.home
    (omega (arith, c.requires.file, c.args.self.now.tracker.covers_file)) c.requires.unmapped
    (sym c.in-Some.ensures.block)) in
    (search rules, (search rules, (c.requires.ino, (c.requires.file, bare))))

pub tag_home-requires-in-Some-pop : goal.tag_home-requires-in-Some-pop
tag_home-requires-in-Some-pop g c =
    let view = view_of c.args.self.now.tracker in
    let bare : is_bare (cell_at (view_of c.take_block.new.self).cells c.args.block) ≡ true =
    subst (λ (v : TrackerView _ _ _). is_bare (cell_at v.cells c.args.block) ≡ true)
    (sym c.take_block.ensures.view)
    (fresh-bare view.cells c.args.block
    (omega (arith, c.requires.file, c.args.self.now.tracker.covers_file)) c.requires.unmapped
    (sym c.in-None.ensures.block)) in
    (search rules, (search rules, (c.requires.ino, (c.requires.file, bare))))

pub unreachable-requires : goal.unreachable-requires
unreachable-requires g c =
    let bare = none-bare (cell_at (view_of c.args.self.now.tracker).cells c.args.block)
    c.requires.unmapped (sym c.in-None.ensures.block) in
    let some : 0 < length (items_of c.args.stock.now) = c.requires.stocked bare in
    let none : length (items_of c.args.stock.now) ≡ 0 = ap length c.in-None-pop.ensures.none in
    omega (arith, some, none)

pub returns-in-Some-clause-tags : goal.returns-in-Some-clause-tags
returns-in-Some-clause-tags g c =
    let seen = g.B.Block.seen in
    let stock = stock_of seen c.args.stock.now in
    record {
      home = seen c.in-Some.home;
      now = seen c.tag_home.ensures.tags.now;
      taken = subst (λ o. IsTaken o (seen c.in-Some.home) stock stock)
          (sym (state-block g.R.Region.seen seen c.args.self.now c.args.block (Some c.in-Some.home)
          c.in-Some.ensures.block)) (refl, refl);
      sets = c.tag_home.ensures.tags.sets;
      new_is = state-tagged g.R.Region.seen seen c.args.self.now c.tag_home.new.self
          (view_of c.take_block.new.self) c.args.block
          (moving (cell_at (view_of c.args.self.now.tracker).cells c.args.block))
          c.tag_home.ensures.tags.now c.tag_home.result c.tag_home.ensures.tags.ino
          c.tag_home.ensures.tags.size
          c.tag_home.ensures.tags.tracker c.take_block.ensures.view;
    }

pub returns-in-Some-clause-makes : goal.returns-in-Some-clause-makes
unfolding returns-in-Some-clause-tags
returns-in-Some-clause-makes g c =
    let seen = g.B.Block.seen in
    let did = returns-in-Some-clause-tags g c in
    let old = state_view g.R.Region.seen seen c.args.self.now in
    let asked_old = g.P.Power.asked c.args.power.now in
    let asked_new = g.P.Power.asked c.tag_home.new.power in
    subst (λ (s : StateView). CallMakes (events.Tag c.args.block c.tag_home.result ∷ []) asked_old
    old asked_new s) (sym did.new_is)
    (tag-again old c.args.block did.home did.now c.tag_home.result g.B.Block.obeys_power
    g.B.Block.keeps_refused asked_old asked_new c.requires.file
    (state-mapped g.R.Region.seen seen c.args.self.now c.args.block false c.requires.unmapped)
    (state-block g.R.Region.seen seen c.args.self.now c.args.block (Some c.in-Some.home)
    c.in-Some.ensures.block) (omega (arith, g.met.B.Block.full c.in-Some.home)) did.sets)

pub returns-in-Some-pop-clause-tags : goal.returns-in-Some-pop-clause-tags
returns-in-Some-pop-clause-tags g c =
    let seen = g.B.Block.seen in
    let home = c.into_block.result in
    record {
      home = seen home;
      now = seen c.tag_home-in-Some-pop.ensures.tags.now;
      taken = subst (λ o. IsTaken o (seen home) (stock_of seen c.args.stock.now)
          (stock_of seen c.pop.new.self))
          (sym (state-block g.R.Region.seen seen c.args.self.now c.args.block None
          c.in-None.ensures.block))
          (stock-popped seen (items_of c.args.stock.now) (items_of c.pop.new.self)
          c.in-Some-pop.zero home c.in-Some-pop.ensures.items c.into_block.ensures.block);
      sets = c.tag_home-in-Some-pop.ensures.tags.sets;
      new_is = state-tagged g.R.Region.seen seen c.args.self.now c.tag_home-in-Some-pop.new.self
          (view_of c.take_block.new.self) c.args.block
          (moving (cell_at (view_of c.args.self.now.tracker).cells c.args.block))
          c.tag_home-in-Some-pop.ensures.tags.now c.tag_home-in-Some-pop.result
          c.tag_home-in-Some-pop.ensures.tags.ino c.tag_home-in-Some-pop.ensures.tags.size
          c.tag_home-in-Some-pop.ensures.tags.tracker c.take_block.ensures.view;
    }

pub returns-in-Some-pop-clause-makes : goal.returns-in-Some-pop-clause-makes
unfolding returns-in-Some-pop-clause-tags
returns-in-Some-pop-clause-makes g c =
    let seen = g.B.Block.seen in
    let did = returns-in-Some-pop-clause-tags g c in
    let old = state_view g.R.Region.seen seen c.args.self.now in
    let asked_old = g.P.Power.asked c.args.power.now in
    let asked_new = g.P.Power.asked c.tag_home-in-Some-pop.new.power in
    subst (λ (s : StateView). CallMakes (events.Tag c.args.block c.tag_home-in-Some-pop.result ∷ [])
    asked_old old asked_new s) (sym did.new_is)
    (tag-fresh old c.args.block did.home did.now c.tag_home-in-Some-pop.result
    g.B.Block.obeys_power g.B.Block.keeps_refused asked_old asked_new c.requires.file
    (state-mapped g.R.Region.seen seen c.args.self.now c.args.block false c.requires.unmapped)
    (state-block g.R.Region.seen seen c.args.self.now c.args.block None c.in-None.ensures.block)
    c.into_block.ensures.zero (omega (arith, g.met.B.Block.full c.into_block.result)) did.sets)
