use Rattle.std.proofs.Common.{rules, ◌≡◌, ◌∙◌, ◌≤◌, ◌<◌, ◌+◌, ap, arith, length, subst}
use Rattle.std.proofs.Common.{sym, ℕ}
use Rattle.std.specs.Prelude.{vec_capacity, vec_len}
use Rattle.std.proofs.lemmas.List.{length-map}
use Rattle.std.specs.Option.{option_map}
use Rattle.cfs_file.specs.declared.sizes.TheConstants.{LONGEST_FILE}
use Rattle.cfs_file.specs.Span.{span}
use Rattle.cfs_pmem.specs.Images.{words_of}
use Rattle.cfs_slot.specs.Regions.{of_staged}
use Rattle.cfs_slot.specs.Words.{grant_of, ino_of}
use Rattle.cfs_tracker.specs.Admit.{bare_needed, long_after}
use Rattle.cfs_tracker.specs.View.{view_of}
use Rattle.cfs_vec.specs.Items.{items_of}
use Rattle.cfs_inode.specs.Admitting.{AdmissionMakes, HasEnough, admit_end, need_blocks, refused}
use Rattle.cfs_inode.specs.Admitting.{too_big}
use Rattle.cfs_inode.specs.Ends.{CloseEnd, Settles, end_of, nothing, settle_events}
use Rattle.cfs_inode.specs.Makes.{CallMakes}
use Rattle.cfs_inode.specs.Placing.{staged_seens}
use Rattle.cfs_inode.specs.Tagging.{stock_of}
use Rattle.cfs_inode.specs.View.{seens_of, state_view, told_doubt}
use Rattle.cfs_inode.proofs.Admittings.{admission-few, admission-long, admission-settles}
use Rattle.cfs_inode.proofs.Admittings.{admission-unsettled, ill-settled, long-enough}
use Rattle.cfs_inode.proofs.Admittings.{settle-keeps, too-long, well-settled}
use Rattle.cfs_inode.proofs.Mappings.{end-fits}
use Rattle.cfs_inode.proofs.MapTells.{state-bare, stocked-told}
use Rattle.cfs_inode.proofs.admit.InodeState+R+B.admit.Goals as goal

pub returns-then-not-fits : goal.returns-then-not-fits
returns-then-not-fits g c =
    let words = g.R.Region.seen in
    let bytes = g.B.Block.seen in
    let request = c.args.request.now in
    let asked = g.P.Power.asked c.args.power.now in
    let stock = stock_of bytes c.args.stock.now in
    let old = state_view words bytes c.args.self.now in
    let staged = staged_seens words c.args.staged in
    let grant = grant_of (words_of (words (of_staged c.args.staged))) in
    subst (λ (n : ℕ). AdmissionMakes g.R.Region.obeys_power g.B.Block.obeys_power
    g.B.Block.keeps_refused request grant staged nothing (too_big n staged) asked stock old asked
    stock
    old) (sym c.length-length.ensures)
    (admission-long g.R.Region.obeys_power g.B.Block.obeys_power g.B.Block.keeps_refused request
    grant staged asked stock old
    (too-long (long_after (view_of c.args.self.now.tracker).long request) LONGEST_FILE
    c.if-not-fits.ensures))

pub bare_needed-need-requires : goal.bare_needed-need-requires
bare_needed-need-requires g c =
    end-fits c.args.request.now (view_of c.args.self.now.tracker).long
    (long-enough (long_after (view_of c.args.self.now.tracker).long c.args.request.now) LONGEST_FILE
    c.if-not-fits.ensures)

pub returns-then-len-need : goal.returns-then-len-need
returns-then-len-need g c =
    let words = g.R.Region.seen in
    let bytes = g.B.Block.seen in
    let request = c.args.request.now in
    let asked = g.P.Power.asked c.args.power.now in
    let stock = stock_of bytes c.args.stock.now in
    let old = state_view words bytes c.args.self.now in
    let staged = staged_seens words c.args.staged in
    let grant = grant_of (words_of (words (of_staged c.args.staged))) in
    let own = span request (view_of c.args.self.now.tracker).long in
    let same : bare_needed old.tracker.cells own ≡ c.bare_needed-need.result =
    state-bare words bytes c.args.self.now own ∙ sym c.bare_needed-need.ensures in
    let few : length stock < bare_needed old.tracker.cells own =
    omega (
      arith,
      c.if-len-need.true,
      c.len.ensures.value,
      same,
      length-map (items_of c.args.stock.now) (λ z. bytes z.block),
    ) in
    subst (λ (n : ℕ). AdmissionMakes g.R.Region.obeys_power g.B.Block.obeys_power
    g.B.Block.keeps_refused request grant staged nothing (need_blocks n staged) asked stock old
    asked
    stock old) same
    (admission-few g.R.Region.obeys_power g.B.Block.obeys_power g.B.Block.keeps_refused request
    grant staged asked stock old
    (long-enough (long_after (view_of c.args.self.now.tracker).long request) LONGEST_FILE
    c.if-not-fits.ensures) few)

pub settle-settled-requires : goal.settle-settled-requires
settle-settled-requires g c = (search rules, (search rules, search rules))

pub admit_settled-answer-requires : goal.admit_settled-answer-requires
admit_settled-answer-requires g c =
    let words = g.R.Region.seen in
    let bytes = g.B.Block.seen in
    let request = c.args.request.now in
    let new = c.settle-settled.new.self in
    let did = c.settle-settled.ensures.settles in
    let is = well-settled words bytes c.args.self.now new c.settle-settled.result
    g.R.Region.obeys_power
    (g.P.Power.asked c.args.power.now) (g.P.Power.asked c.settle-settled.new.power)
    (sym c.is_failed.ensures ∙ c.if-is_failed.false) c.requires.here did in
    let same : new.ino ≡ c.args.self.now.ino =
    (settle-keeps g.R.Region.obeys_power (end_of words c.settle-settled.result)
    (g.P.Power.asked c.args.power.now) (state_view words bytes c.args.self.now)
    (g.P.Power.asked c.settle-settled.new.power) (state_view words bytes new) did).ino in
    let ino : new.ino < 4294967296 = omega (arith, same, c.requires.ino) in
    let settled = is.doubt in
    let change = c.requires.change in
    let fits : long_after (view_of new.tracker).long request ≤ LONGEST_FILE =
    subst (λ (n : ℕ). long_after n request ≤ LONGEST_FILE) (sym is.long)
    (long-enough (long_after (view_of c.args.self.now.tracker).long request) LONGEST_FILE
    c.if-not-fits.ensures) in
    let stocked : bare_needed (view_of new.tracker).cells
    (span request (view_of new.tracker).long) ≤ length (items_of c.args.stock.now) =
    subst (λ (n : ℕ). bare_needed (view_of new.tracker).cells (span request n)
    ≤ length (items_of c.args.stock.now)) (sym is.long)
    (omega (
      arith,
      is.bare (span request (view_of c.args.self.now.tracker).long),
      c.if-len-need.false,
      c.len.ensures.value,
      c.bare_needed-need.ensures,
    )) in
    let places : (view_of new.tracker).count + 1 < 18446744073709551616 =
    omega (arith, is.count, c.requires.places) in
    let room : vec_len new.tracker.entries < vec_capacity new.tracker.entries =
    omega (arith, c.settle-settled.ensures.room.entries, c.requires.room) in
    let file : ino_of (words_of (words (of_staged c.args.staged))) ≡ new.ino =
    c.requires.file ∙ sym same in (
      search rules,
      (
        search rules,
        (
          search rules,
          (
            search rules,
            (
              ino,
              (
                settled,
                (
                  change,
                  (
                    fits,
                    (
                      stocked,
                      (
                        places,
                        (
                          room,
                          (
                            file,
                            (c.requires.staged, c.requires.sure),
                          ),
                        ),
                      ),
                    ),
                  ),
                ),
              ),
            ),
          ),
        ),
      ),
    )

pub returns : goal.returns
returns g c =
    let words = g.R.Region.seen in
    let bytes = g.B.Block.seen in
    let request = c.args.request.now in
    let old = state_view words bytes c.args.self.now in
    let mid = state_view words bytes c.settle-settled.new.self in
    let did = c.settle-settled.ensures.settles in
    let own = span request (view_of c.args.self.now.tracker).long in
    let is = well-settled words bytes c.args.self.now c.settle-settled.new.self
    c.settle-settled.result
    g.R.Region.obeys_power (g.P.Power.asked c.args.power.now)
    (g.P.Power.asked c.settle-settled.new.power)
    (sym c.is_failed.ensures ∙ c.if-is_failed.false) c.requires.here did in
    let less : bare_needed (view_of c.args.self.now.tracker).cells own
    ≤ length (items_of c.args.stock.now) =
    omega (arith, c.if-len-need.false, c.len.ensures.value, c.bare_needed-need.ensures) in
    let enough : HasEnough old request (stock_of bytes c.args.stock.now) = record {
      fits = long-enough (long_after (view_of c.args.self.now.tracker).long request) LONGEST_FILE
          c.if-not-fits.ensures;
      stocked = stocked-told words bytes c.args.self.now c.args.stock.now own less;
    } in
    admission-settles g.R.Region.obeys_power g.B.Block.obeys_power g.B.Block.keeps_refused request
    (grant_of (words_of (words (of_staged c.args.staged)))) (staged_seens words c.args.staged)
    (end_of words c.settle-settled.result) (g.P.Power.asked c.args.power.now)
    (stock_of bytes c.args.stock.now) old (g.P.Power.asked c.settle-settled.new.power) mid
    (g.P.Power.asked c.admit_settled-answer.new.power)
    (stock_of bytes c.admit_settled-answer.new.stock)
    (state_view words bytes c.admit_settled-answer.new.self)
    (admit_end words c.admit_settled-answer.result)
    enough did c.settle-settled.ensures.makes
    (ap (λ d. option_map (told_doubt (seens_of words)) d) is.doubt) c.admit_settled-answer.ensures

pub returns-then-is_failed : goal.returns-then-is_failed
returns-then-is_failed g c =
    let words = g.R.Region.seen in
    let bytes = g.B.Block.seen in
    let request = c.args.request.now in
    let old = state_view words bytes c.args.self.now in
    let own = span request (view_of c.args.self.now.tracker).long in
    let less : bare_needed (view_of c.args.self.now.tracker).cells own
    ≤ length (items_of c.args.stock.now) =
    omega (arith, c.if-len-need.false, c.len.ensures.value, c.bare_needed-need.ensures) in
    let enough : HasEnough old request (stock_of bytes c.args.stock.now) = record {
      fits = long-enough (long_after (view_of c.args.self.now.tracker).long request) LONGEST_FILE
          c.if-not-fits.ensures;
      stocked = stocked-told words bytes c.args.self.now c.args.stock.now own less;
    } in
    let asked = g.P.Power.asked c.args.power.now in
    let asked_new = g.P.Power.asked c.settle-settled.new.power in
    let new = state_view words bytes c.settle-settled.new.self in
    let stock = stock_of bytes c.args.stock.now in
    let staged = staged_seens words c.args.staged in
    let grant = grant_of (words_of (words (of_staged c.args.staged))) in
    let is = ill-settled words c.settle-settled.result
    (sym c.is_failed.ensures ∙ c.if-is_failed.true) in
    subst (λ (e : CloseEnd). AdmissionMakes g.R.Region.obeys_power g.B.Block.obeys_power
    g.B.Block.keeps_refused request grant staged e (refused staged) asked stock old asked_new stock
    new) (sym is)
    (admission-unsettled g.R.Region.obeys_power g.B.Block.obeys_power g.B.Block.keeps_refused
    request grant staged asked stock old asked_new new enough
    (subst (λ (e : CloseEnd). Settles g.R.Region.obeys_power e asked old asked_new new) is
    c.settle-settled.ensures.settles)
    (subst (λ (e : CloseEnd). CallMakes (settle_events e) asked old asked_new new) is
    c.settle-settled.ensures.makes))
