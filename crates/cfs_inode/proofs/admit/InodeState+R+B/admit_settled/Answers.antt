use Rattle.std.proofs.Common.{rules, ◌≡◌, ◌∙◌, ◌<◌, ◌+◌, arith, refl, subst, sym, ℕ}
use Rattle.std.specs.Prelude.{vec_capacity, vec_len}
use Rattle.cfs_file.specs.Span.{span}
use Rattle.cfs_core.specs.Medium.{placed}
use Rattle.cfs_pmem.specs.Images.{words_of}
use Rattle.cfs_slot.specs.Regions.{of_staged, tails_of_staged, words_in}
use Rattle.cfs_slot.specs.Words.{grant_of, request_of}
use Rattle.cfs_tracker.specs.View.{view_of}
use Rattle.cfs_inode.specs.Admitting.{ReadyMakes, admit_end}
use Rattle.cfs_inode.specs.Placing.{staged_seens}
use Rattle.cfs_inode.specs.Tagging.{stock_of}
use Rattle.cfs_inode.specs.View.{state_view}
use Rattle.cfs_inode.proofs.Admittings.{mapped-may, settled-mapped, settled-unmapped}
use Rattle.cfs_inode.proofs.Admittings.{settled-unplaced}
use Rattle.cfs_inode.proofs.admit.InodeState+R+B.admit_settled.Goals as goal

pub admit_ready-requires : goal.admit_ready-requires
admit_ready-requires g c =
    let words = g.R.Region.seen in
    let bytes = g.B.Block.seen in
    let new = c.map_blocks.new.self in
    let request = c.args.request.now in
    let staged = c.place.new.staged in
    let may = mapped-may words bytes c.args.self.now new request g.B.Block.obeys_power
    g.B.Block.keeps_refused (g.P.Power.asked c.place.new.power) (stock_of bytes c.args.stock.now)
    (g.P.Power.asked c.map_blocks.new.power) (stock_of bytes c.map_blocks.new.stock)
    c.requires.settled c.requires.change c.requires.fits c.if-not-map_blocks.ensures.maps in
    let is = c.if-not-place.ensures.placed refl in
    let same = c.if-not-place.ensures.same refl in
    let places : (view_of new.tracker).count + 1 < 18446744073709551616 =
    omega (arith, may.count, c.requires.places) in
    let room : vec_len new.tracker.entries < vec_capacity new.tracker.entries =
    omega (arith, c.map_blocks.ensures.room.entries, c.requires.room) in
    let holds : request_of (words_of (words (of_staged staged)))
    (words_in words (tails_of_staged staged))
    ≡ placed (span request (view_of new.tracker).long) request =
    subst (λ (n : ℕ). request_of (words_of (words (of_staged staged)))
    (words_in words (tails_of_staged staged)) ≡ placed (span request n) request) (sym may.long)
    is.holds in
    let admits = may.admits in
    let file = same.ino ∙ (c.requires.file ∙ sym may.ino) in
    let sure = is.sure in (
      search rules,
      (
        search rules,
        (search rules, (admits, (places, (room, (file, (holds, sure)))))),
      ),
    )

pub returns-then-not-place : goal.returns-then-not-place
returns-then-not-place g c =
    let words = g.R.Region.seen in
    let bytes = g.B.Block.seen in
    settled-unplaced g.R.Region.obeys_power g.B.Block.obeys_power g.B.Block.keeps_refused
    c.args.request.now (grant_of (words_of (words (of_staged c.args.staged))))
    (staged_seens words c.args.staged) (staged_seens words c.place.new.staged)
    (g.P.Power.asked c.args.power.now) (stock_of bytes c.args.stock.now)
    (state_view words bytes c.args.self.now) (g.P.Power.asked c.place.new.power)
    c.if-not-place.ensures.places c.if-not-place.ensures.makes

pub returns-then-not-map_blocks : goal.returns-then-not-map_blocks
returns-then-not-map_blocks g c =
    let words = g.R.Region.seen in
    let bytes = g.B.Block.seen in
    settled-unmapped g.R.Region.obeys_power g.B.Block.obeys_power g.B.Block.keeps_refused
    c.args.request.now (grant_of (words_of (words (of_staged c.args.staged))))
    (staged_seens words c.args.staged) (staged_seens words c.place.new.staged)
    (g.P.Power.asked c.args.power.now) (stock_of bytes c.args.stock.now)
    (state_view words bytes c.args.self.now) (g.P.Power.asked c.place.new.power)
    (g.P.Power.asked c.map_blocks.new.power) (stock_of bytes c.map_blocks.new.stock)
    (state_view words bytes c.map_blocks.new.self) c.if-not-place.ensures.places
    c.if-not-place.ensures.makes c.if-not-map_blocks.ensures.maps

pub returns : goal.returns
returns g c =
    let words = g.R.Region.seen in
    let bytes = g.B.Block.seen in
    let old_grant = grant_of (words_of (words (of_staged c.args.staged))) in
    let now = staged_seens words c.place.new.staged in
    let end = admit_end words c.admit_ready.result in
    let behind = g.P.Power.asked c.map_blocks.new.power in
    let mid = state_view words bytes c.map_blocks.new.self in
    let asked_new = g.P.Power.asked c.admit_ready.new.power in
    let new = state_view words bytes c.admit_ready.new.self in
    settled-mapped g.R.Region.obeys_power g.B.Block.obeys_power g.B.Block.keeps_refused
    c.args.request.now old_grant (staged_seens words c.args.staged) now
    (g.P.Power.asked c.args.power.now) (stock_of bytes c.args.stock.now)
    (state_view words bytes c.args.self.now) (g.P.Power.asked c.place.new.power) behind mid
    asked_new (stock_of bytes c.map_blocks.new.stock) new end c.if-not-place.ensures.places
    c.if-not-place.ensures.makes c.if-not-map_blocks.ensures.maps
    (subst (λ (n : ℕ). ReadyMakes g.R.Region.obeys_power c.args.request.now n now end behind mid
    asked_new new) (c.if-not-place.ensures.same refl).grant c.admit_ready.ensures)
