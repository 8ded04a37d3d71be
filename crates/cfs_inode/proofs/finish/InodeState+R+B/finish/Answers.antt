use Rattle.std.proofs.Common.{◌≡◌, ◌∙◌, ap, ℕ, Bool, ◌∷◌, map, Ok, Err, refl, subst, sym, arith}
use Rattle.std.proofs.Common.{rules}
use Rattle.cfs_job.specs.Jobs.{job_view}
use Rattle.cfs_job.specs.Steps.{steps_left}
use Rattle.cfs_slot.specs.Reads.{regions_of}
use Rattle.cfs_slot.specs.Regions.{head_of, of_live, of_slots, tails_of_live}
use Rattle.cfs_core.specs.declared.event.End.TheVariants as ends
use Rattle.cfs_tracker.specs.Finish.{is_last, size_after}
use Rattle.cfs_tracker.specs.View.{view_of}
use Rattle.cfs_inode.specs.Heads.{Closes}
use Rattle.cfs_inode.specs.declared.size_answer.SizeAnswer.TheVariants as went
use Rattle.cfs_inode.specs.Backs.{CameBack, EndMakes, held_back, tile_back}
use Rattle.cfs_inode.specs.Finishing.{IsAllDone, closing, is_right, keeping, writing}
use Rattle.cfs_inode.specs.View.{Held, Seens, StateView, held_of, seens_of, state_view}
use Rattle.cfs_inode.proofs.Heads.{slots-err, slots-ok}
use Rattle.cfs_inode.proofs.EndTells.{applied-is, has-out, last-told, more-is}
use Rattle.cfs_inode.proofs.EndTells.{put-back-is, retired-is, size-told, unsure-is}
use Rattle.cfs_inode.proofs.Finishings.{fails-made, more-made, retired-made}
use Rattle.cfs_inode.proofs.Resting.{rests}
use Rattle.cfs_inode.proofs.Sizings.{none-left, sizes-are}
use Rattle.cfs_inode.proofs.finish.InodeState+R+B.finish.Goals as goal

pub returns-then-left-gt0-clause-makes : goal.returns-then-left-gt0-clause-makes
returns-then-left-gt0-clause-makes g c =
    let job = job_view g.R.Region.seen g.B.Block.seen g.B.Block.number c.args.job in
    let old = state_view g.R.Region.seen g.B.Block.seen c.args.self.now in
    λ jobs. rests old (g.P.Power.asked c.args.power.now) (job ∷ jobs)

pub more-requires : goal.more-requires
more-requires g c =
    let job = job_view g.R.Region.seen g.B.Block.seen g.B.Block.number c.args.job in
    let came = c.take_apart-place.ensures in
    has-out (held_of g.R.Region.seen) (seens_of g.R.Region.seen) g.B.Block.seen
    (view_of c.args.self.now.tracker) c.take_apart-place.result.0 job.place
    c.take_apart-place.result.1
    (held_back job) c.take_apart-place.result.2 c.take_apart-place.result.3 (tile_back job.first)
    (tile_back job.second) came c.requires.out.out

pub returns-then-not-is_last-clause-finishes : goal.returns-then-not-is_last-clause-finishes
returns-then-not-is_last-clause-finishes g c =
    let job = job_view g.R.Region.seen g.B.Block.seen g.B.Block.number c.args.job in
    let old = state_view g.R.Region.seen g.B.Block.seen c.args.self.now in
    let came = c.take_apart-place.ensures in
    let none : steps_left job ≡ 0 =
    sym c.left.ensures ∙ none-left c.left.result c.if-left-gt0.false in
    let last = last-told (held_of g.R.Region.seen) (seens_of g.R.Region.seen) g.B.Block.seen
    (view_of c.args.self.now.tracker) job.place
    ∙ (ap (λ (p : ℕ). is_last (view_of c.args.self.now.tracker) p) (sym came.place_is)
    ∙ (sym c.is_last.ensures ∙ c.if-not-is_last.true)) in (
      none,
      last,
      refl,
      ap (λ t. record old { tracker = t }) (more-is (held_of g.R.Region.seen)
          (seens_of g.R.Region.seen) g.B.Block.seen (view_of c.args.self.now.tracker)
          (view_of c.more.new.self) c.take_apart-place.result.0 job.place
          c.take_apart-place.result.1
          (held_back job)
          c.take_apart-place.result.2 c.take_apart-place.result.3 (tile_back job.first)
          (tile_back job.second) came c.more.ensures.view),
    )

pub returns-then-not-is_last-clause-makes : goal.returns-then-not-is_last-clause-makes
returns-then-not-is_last-clause-makes g c =
    let job = job_view g.R.Region.seen g.B.Block.seen g.B.Block.number c.args.job in
    let old = state_view g.R.Region.seen g.B.Block.seen c.args.self.now in
    let did = returns-then-not-is_last-clause-finishes g c in
    let asked = g.P.Power.asked c.args.power.now in
    subst (λ (s : StateView). EndMakes ends.More asked old job asked s) (sym did.3)
    (more-made old job asked c.requires.out did.0)

pub close_gate-requires : goal.close_gate-requires
close_gate-requires g c = (search rules, omega arith)

pub retired-requires-clause-out : goal.retired-requires-clause-out
retired-requires-clause-out g c =
    let job = job_view g.R.Region.seen g.B.Block.seen g.B.Block.number c.args.job in
    let came = c.take_apart-place.ensures in
    has-out (held_of g.R.Region.seen) (seens_of g.R.Region.seen) g.B.Block.seen
    (view_of c.args.self.now.tracker) c.take_apart-place.result.0 job.place
    c.take_apart-place.result.1
    (held_back job) c.take_apart-place.result.2 c.take_apart-place.result.3 (tile_back job.first)
    (tile_back job.second) came c.requires.out.out

pub applied-requires-clause-out : goal.applied-requires-clause-out
applied-requires-clause-out g c =
    let job = job_view g.R.Region.seen g.B.Block.seen g.B.Block.number c.args.job in
    let came = c.take_apart-place.ensures in
    has-out (held_of g.R.Region.seen) (seens_of g.R.Region.seen) g.B.Block.seen
    (view_of c.args.self.now.tracker) c.take_apart-place.result.0 job.place
    c.take_apart-place.result.1
    (held_back job) c.take_apart-place.result.2 c.take_apart-place.result.3 (tile_back job.first)
    (tile_back job.second) came c.requires.out.out

pub put_back-requires : goal.put_back-requires
put_back-requires g c =
    let job = job_view g.R.Region.seen g.B.Block.seen g.B.Block.number c.args.job in
    let came = c.take_apart-place.ensures in
    has-out (held_of g.R.Region.seen) (seens_of g.R.Region.seen) g.B.Block.seen
    (view_of c.args.self.now.tracker) c.take_apart-place.result.0 job.place
    c.take_apart-place.result.1
    (held_back job) c.take_apart-place.result.2 c.take_apart-place.result.3 (tile_back job.first)
    (tile_back job.second) came c.requires.out.out

pub size_unsure-requires : goal.size_unsure-requires
size_unsure-requires g c =
    let job = job_view g.R.Region.seen g.B.Block.seen g.B.Block.number c.args.job in
    let came = c.take_apart-place.ensures in
    has-out (held_of g.R.Region.seen) (seens_of g.R.Region.seen) g.B.Block.seen
    (view_of c.args.self.now.tracker) c.take_apart-place.result.0 job.place
    c.take_apart-place.result.1
    (held_back job) c.take_apart-place.result.2 c.take_apart-place.result.3 (tile_back job.first)
    (tile_back job.second) came c.requires.out.out

pub returns-in-Ok-clause-finishes : goal.returns-in-Ok-clause-finishes
returns-in-Ok-clause-finishes g c =
    let job = job_view g.R.Region.seen g.B.Block.seen g.B.Block.number c.args.job in
    let old = state_view g.R.Region.seen g.B.Block.seen c.args.self.now in
    let came = c.take_apart-place.ensures in
    let none : steps_left job ≡ 0 =
    sym c.left.ensures ∙ none-left c.left.result c.if-left-gt0.false in
    let all : IsAllDone old job = record {
      none_left = none;
      last = last-told (held_of g.R.Region.seen) (seens_of g.R.Region.seen) g.B.Block.seen
          (view_of c.args.self.now.tracker) job.place
          ∙ (ap (λ (p : ℕ). is_last (view_of c.args.self.now.tracker) p)
          (sym came.place_is)
          ∙ (sym c.is_last.ensures ∙ c.if-not-is_last.false));
    } in
    let sized = sizes-are g.R.Region.obeys_power c.is_right-right.result
    c.args.self.now.tracker.is_sure c.args.self.now.tracker.stored c.size_after-wanted.result
    (size_after old.tracker job.place) went.Set (g.P.Power.asked c.args.power.now)
    (g.P.Power.asked c.set_size.new.power) (g.R.Region.seen c.args.self.now.size)
    (g.R.Region.seen c.set_size.new.region)
    (c.is_right-right.ensures
    ∙ ap (λ (p : ℕ × Bool). is_right p.0 p.1 c.size_after-wanted.result) c.size.ensures)
    (c.size_after-wanted.ensures
    ∙ (ap (λ (p : ℕ). size_after (view_of c.args.self.now.tracker) p) came.place_is
    ∙ sym (size-told (held_of g.R.Region.seen) (seens_of g.R.Region.seen) g.B.Block.seen
    (view_of c.args.self.now.tracker) job.place)))
    c.in-Set.ensures in
    let live = c.take_apart-place.result.1 in
    let slots = map g.R.Region.seen (of_slots c.in-Ok.slots) in
    let closes = subst (λ (s : Seens). Closes g.R.Region.obeys_power (Ok tt)
    (g.P.Power.asked c.set_size.new.power) s
    (g.P.Power.asked c.close_gate.new.power) slots) (ap (λ (h : Held). h.slots) came.slots_are)
    (slots-ok g.R.Region.seen (of_live live) (head_of (of_live live) (of_slots c.in-Ok.slots))
    (tails_of_live live) (of_slots c.in-Ok.slots) c.in-Ok.slots c.in-Ok.ensures.set
    c.in-Ok.ensures.slots) in
    let size = g.R.Region.seen c.set_size.new.region in (
      size,
      all,
      record {
        asked = g.P.Power.asked c.set_size.new.power;
        sized = sized;
        closes = closes;
      },
      ap (λ t. record old { size = size; tracker = t }) (retired-is (held_of g.R.Region.seen)
          (seens_of g.R.Region.seen) g.B.Block.seen (view_of c.args.self.now.tracker)
          (view_of c.retired.new.self) c.take_apart-place.result.0 job.place
          c.take_apart-place.result.1
          (held_back job)
          c.take_apart-place.result.2 c.take_apart-place.result.3 (tile_back job.first)
          (tile_back job.second) came c.retired.ensures.view),
    )

pub returns-in-Ok-clause-makes : goal.returns-in-Ok-clause-makes
returns-in-Ok-clause-makes g c =
    let job = job_view g.R.Region.seen g.B.Block.seen g.B.Block.number c.args.job in
    let old = state_view g.R.Region.seen g.B.Block.seen c.args.self.now in
    let did = returns-in-Ok-clause-finishes g c in
    let asked_old = g.P.Power.asked c.args.power.now in
    let asked_new = g.P.Power.asked c.close_gate.new.power in
    subst (λ (s : StateView). EndMakes ends.Retired asked_old old job asked_new s) (sym did.3)
    (retired-made old job g.R.Region.obeys_power asked_old asked_new did.0
    (map g.R.Region.seen (of_slots c.in-Ok.slots)) c.requires.out c.requires.sized did.1 did.2)

pub returns-in-Err-clause-finishes : goal.returns-in-Err-clause-finishes
returns-in-Err-clause-finishes g c =
    let job = job_view g.R.Region.seen g.B.Block.seen g.B.Block.number c.args.job in
    let old = state_view g.R.Region.seen g.B.Block.seen c.args.self.now in
    let came = c.take_apart-place.ensures in
    let none : steps_left job ≡ 0 =
    sym c.left.ensures ∙ none-left c.left.result c.if-left-gt0.false in
    let all : IsAllDone old job = record {
      none_left = none;
      last = last-told (held_of g.R.Region.seen) (seens_of g.R.Region.seen) g.B.Block.seen
          (view_of c.args.self.now.tracker) job.place
          ∙ (ap (λ (p : ℕ). is_last (view_of c.args.self.now.tracker) p)
          (sym came.place_is)
          ∙ (sym c.is_last.ensures ∙ c.if-not-is_last.false));
    } in
    let sized = sizes-are g.R.Region.obeys_power c.is_right-right.result
    c.args.self.now.tracker.is_sure c.args.self.now.tracker.stored c.size_after-wanted.result
    (size_after old.tracker job.place) went.Set (g.P.Power.asked c.args.power.now)
    (g.P.Power.asked c.set_size.new.power) (g.R.Region.seen c.args.self.now.size)
    (g.R.Region.seen c.set_size.new.region)
    (c.is_right-right.ensures
    ∙ ap (λ (p : ℕ × Bool). is_right p.0 p.1 c.size_after-wanted.result) c.size.ensures)
    (c.size_after-wanted.ensures
    ∙ (ap (λ (p : ℕ). size_after (view_of c.args.self.now.tracker) p) came.place_is
    ∙ sym (size-told (held_of g.R.Region.seen) (seens_of g.R.Region.seen) g.B.Block.seen
    (view_of c.args.self.now.tracker) job.place)))
    c.in-Set.ensures in
    let live = c.take_apart-place.result.1 in
    let slots = map g.R.Region.seen (regions_of c.in-Err.live) in
    let closes = subst (λ (s : Seens). Closes g.R.Region.obeys_power (Err tt)
    (g.P.Power.asked c.set_size.new.power) s
    (g.P.Power.asked c.close_gate.new.power) slots) (ap (λ (h : Held). h.slots) came.slots_are)
    (slots-err g.R.Region.seen (of_live live) (of_live c.in-Err.live) (tails_of_live live)
    (regions_of c.in-Err.live) c.in-Err.live c.in-Err.ensures.set c.in-Err.ensures.slots) in
    let size = g.R.Region.seen c.set_size.new.region in
    let held : Held = record { place = job.place; slots = slots } in
    let back : CameBack (held_of g.R.Region.seen) g.B.Block.seen c.take_apart-place.result.0
    c.in-Err.live
    c.take_apart-place.result.2 c.take_apart-place.result.3 job.place held (tile_back job.first)
    (tile_back job.second) = record {
      place_is = came.place_is;
      slots_are = ap (λ (p : ℕ). let h : Held = record { place = p; slots = slots } in h)
          (c.in-Err.ensures.place ∙ ap (λ (h : Held). h.place) came.slots_are);
      first_is = came.first_is;
      second_is = came.second_is;
    } in (
      closing,
      all,
      (
        size,
        slots,
        record {
          asked = g.P.Power.asked c.set_size.new.power;
          sized = sized;
          closes = closes;
        },
        ap (λ t. record old { size = size; tracker = t }) (applied-is (held_of g.R.Region.seen)
            (seens_of g.R.Region.seen) g.B.Block.seen (view_of c.args.self.now.tracker)
            (view_of c.applied.new.self) c.take_apart-place.result.0 job.place c.in-Err.live held
            c.take_apart-place.result.2 c.take_apart-place.result.3 (tile_back job.first)
            (tile_back job.second) back c.applied.ensures.view),
      ),
    )

pub returns-in-Err-clause-makes : goal.returns-in-Err-clause-makes
returns-in-Err-clause-makes g c =
    fails-made (state_view g.R.Region.seen g.B.Block.seen c.args.self.now)
    (state_view g.R.Region.seen g.B.Block.seen (record c.args.self.now {
      size = c.set_size.new.region;
      tracker = c.applied.new.self;
    }))
    (job_view g.R.Region.seen g.B.Block.seen g.B.Block.number c.args.job)
    g.R.Region.obeys_power (g.P.Power.asked c.args.power.now)
    (g.P.Power.asked c.close_gate.new.power) c.requires.out c.requires.sized

pub returns-in-Unwritten-clause-finishes : goal.returns-in-Unwritten-clause-finishes
returns-in-Unwritten-clause-finishes g c =
    let job = job_view g.R.Region.seen g.B.Block.seen g.B.Block.number c.args.job in
    let old = state_view g.R.Region.seen g.B.Block.seen c.args.self.now in
    let came = c.take_apart-place.ensures in
    let none : steps_left job ≡ 0 =
    sym c.left.ensures ∙ none-left c.left.result c.if-left-gt0.false in
    let all : IsAllDone old job = record {
      none_left = none;
      last = last-told (held_of g.R.Region.seen) (seens_of g.R.Region.seen) g.B.Block.seen
          (view_of c.args.self.now.tracker) job.place
          ∙ (ap (λ (p : ℕ). is_last (view_of c.args.self.now.tracker) p)
          (sym came.place_is)
          ∙ (sym c.is_last.ensures ∙ c.if-not-is_last.false));
    } in
    let sized = sizes-are g.R.Region.obeys_power c.is_right-right.result
    c.args.self.now.tracker.is_sure c.args.self.now.tracker.stored c.size_after-wanted.result
    (size_after old.tracker job.place) went.Unwritten (g.P.Power.asked c.args.power.now)
    (g.P.Power.asked c.set_size.new.power) (g.R.Region.seen c.args.self.now.size)
    (g.R.Region.seen c.set_size.new.region)
    (c.is_right-right.ensures
    ∙ ap (λ (p : ℕ × Bool). is_right p.0 p.1 c.size_after-wanted.result) c.size.ensures)
    (c.size_after-wanted.ensures
    ∙ (ap (λ (p : ℕ). size_after (view_of c.args.self.now.tracker) p) came.place_is
    ∙ sym (size-told (held_of g.R.Region.seen) (seens_of g.R.Region.seen) g.B.Block.seen
    (view_of c.args.self.now.tracker) job.place)))
    c.in-Unwritten.ensures in
    let size = g.R.Region.seen c.set_size.new.region in (
      writing,
      all,
      (
        size,
        sized,
        ap (λ t. record old { size = size; tracker = t }) (put-back-is (held_of g.R.Region.seen)
            (seens_of g.R.Region.seen) g.B.Block.seen (view_of c.args.self.now.tracker)
            (view_of c.put_back.new.self) c.take_apart-place.result.0 job.place
            c.take_apart-place.result.1
            (held_back job)
            c.take_apart-place.result.2 c.take_apart-place.result.3 (tile_back job.first)
            (tile_back job.second) came c.put_back.ensures.view),
      ),
    )

pub returns-in-Unwritten-clause-makes : goal.returns-in-Unwritten-clause-makes
returns-in-Unwritten-clause-makes g c =
    fails-made (state_view g.R.Region.seen g.B.Block.seen c.args.self.now)
    (state_view g.R.Region.seen g.B.Block.seen (record c.args.self.now {
      size = c.set_size.new.region;
      tracker = c.put_back.new.self;
    }))
    (job_view g.R.Region.seen g.B.Block.seen g.B.Block.number c.args.job)
    g.R.Region.obeys_power (g.P.Power.asked c.args.power.now)
    (g.P.Power.asked c.set_size.new.power) c.requires.out c.requires.sized

pub returns-in-Unkept-clause-finishes : goal.returns-in-Unkept-clause-finishes
returns-in-Unkept-clause-finishes g c =
    let job = job_view g.R.Region.seen g.B.Block.seen g.B.Block.number c.args.job in
    let old = state_view g.R.Region.seen g.B.Block.seen c.args.self.now in
    let came = c.take_apart-place.ensures in
    let none : steps_left job ≡ 0 =
    sym c.left.ensures ∙ none-left c.left.result c.if-left-gt0.false in
    let all : IsAllDone old job = record {
      none_left = none;
      last = last-told (held_of g.R.Region.seen) (seens_of g.R.Region.seen) g.B.Block.seen
          (view_of c.args.self.now.tracker) job.place
          ∙ (ap (λ (p : ℕ). is_last (view_of c.args.self.now.tracker) p)
          (sym came.place_is)
          ∙ (sym c.is_last.ensures ∙ c.if-not-is_last.false));
    } in
    let sized = sizes-are g.R.Region.obeys_power c.is_right-right.result
    c.args.self.now.tracker.is_sure c.args.self.now.tracker.stored c.size_after-wanted.result
    (size_after old.tracker job.place) went.Unkept (g.P.Power.asked c.args.power.now)
    (g.P.Power.asked c.set_size.new.power) (g.R.Region.seen c.args.self.now.size)
    (g.R.Region.seen c.set_size.new.region)
    (c.is_right-right.ensures
    ∙ ap (λ (p : ℕ × Bool). is_right p.0 p.1 c.size_after-wanted.result) c.size.ensures)
    (c.size_after-wanted.ensures
    ∙ (ap (λ (p : ℕ). size_after (view_of c.args.self.now.tracker) p) came.place_is
    ∙ sym (size-told (held_of g.R.Region.seen) (seens_of g.R.Region.seen) g.B.Block.seen
    (view_of c.args.self.now.tracker) job.place)))
    c.in-Unkept.ensures in
    let size = g.R.Region.seen c.set_size.new.region in (
      keeping,
      all,
      (
        size,
        sized,
        ap (λ t. record old { size = size; tracker = t }) (unsure-is (held_of g.R.Region.seen)
            (seens_of g.R.Region.seen) g.B.Block.seen (view_of c.args.self.now.tracker)
            (view_of c.size_unsure.new.self) c.take_apart-place.result.0 job.place
            c.take_apart-place.result.1 (held_back job)
            c.take_apart-place.result.2 c.take_apart-place.result.3 (tile_back job.first)
            (tile_back job.second) came c.size_unsure.ensures.view),
      ),
    )

pub returns-in-Unkept-clause-makes : goal.returns-in-Unkept-clause-makes
returns-in-Unkept-clause-makes g c =
    fails-made (state_view g.R.Region.seen g.B.Block.seen c.args.self.now)
    (state_view g.R.Region.seen g.B.Block.seen (record c.args.self.now {
      size = c.set_size.new.region;
      tracker = c.size_unsure.new.self;
    }))
    (job_view g.R.Region.seen g.B.Block.seen g.B.Block.number c.args.job)
    g.R.Region.obeys_power (g.P.Power.asked c.args.power.now)
    (g.P.Power.asked c.set_size.new.power) c.requires.out c.requires.sized
