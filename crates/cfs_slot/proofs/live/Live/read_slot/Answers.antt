use Rattle.std.proofs.Common.{ℕ, suc, inl, inr, ◌≤◌, ◌≡◌, ◌≢◌, ◌∙◌, ◌∷◌, length, sym, ap, subst, arith}
use Rattle.std.proofs.lemmas.Bool.{cases_lt}
use Rattle.cfs_pmem.specs.Images.{Seen, WordStep, words_of, AllImages}
use Rattle.cfs_slot.specs.Reads.{ReadsSlot}
use Rattle.cfs_slot.specs.Regions.{of_parts, tails_of_live}
use Rattle.cfs_slot.specs.Words.{gate_of, mark_of, grant_of, IsWhole}
use Rattle.cfs_slot.proofs.SlotReads.{AreaRead, slot_behind, slot_head}
use Rattle.cfs_slot.proofs.live.Live.read_slot.Goals as goal

pub invariant_of-self-in-None : goal.invariant_of-self-in-None
invariant_of-self-in-None g c =
    let e : g.R.Region.seen c.read_area.new.region ≡ g.R.Region.seen c.args.self.now.region = c.read_area.ensures.seen in
    let live = c.args.self.now in
    record {
      size = ap (λ (s : Seen WordStep). length (words_of s)) e ∙ live.size;
      placed = live.placed;
      gated = subst (λ s. AllImages s (λ image. gate_of image ≢ 0 → gate_of image ≡ live.place)) (sym e) live.gated;
      marked = subst (λ s. AllImages s (λ image. mark_of image ≤ 1)) (sym e) live.marked;
      granted = subst (λ s. AllImages s (λ image. grant_of image ≡ live.grant)) (sym e) live.granted;
      whole = subst (λ s. IsWhole s) (sym e) live.whole;
    }

pub returns-in-Some-clause-reads : goal.returns-in-Some-clause-reads
returns-in-Some-clause-reads g c =
    let live = c.args.self.now in
    let next : suc c.in-Some.tail ≡ c.args.slot = omega (arith, c.in-Some.ensures.0, c.in-Some.ensures.1) in
    subst (λ n. ReadsSlot g.R.Region.seen g.R.Region.faults g.R.Region.obeys_power n c.args.from c.read_tail.result (g.P.Power.asked c.args.power.now)
    (live.region ∷ of_parts live.tails) c.args.out.now (g.P.Power.asked c.read_tail.new.power) (live.region ∷ of_parts c.read_tail.new.tails) c.read_tail.new.out)
    next (slot_behind live.region c.read_tail.ensures)

pub returns-in-None-clause-reads : goal.returns-in-None-clause-reads
returns-in-None-clause-reads g c =
    let live = c.args.self.now in
    let first : 0 ≡ c.args.slot = elim (cases_lt 0 c.args.slot) [ inl some ↦ absurd (c.in-None.ensures some) | inr none ↦ omega arith ] in
    let read : AreaRead g.R.Region.seen g.R.Region.faults g.R.Region.obeys_power c.args.from c.read_area.result (g.P.Power.asked c.args.power.now) live.region c.args.out.now
    (g.P.Power.asked c.read_area.new.power) c.read_area.new.region c.read_area.new.out =
    record { bytes = c.read_area.ensures.bytes; same = c.read_area.ensures.seen; does = c.read_area.ensures.does; asks = c.read_area.ensures.asks; cause = c.read_area.ensures.cause } in
    subst (λ n. ReadsSlot g.R.Region.seen g.R.Region.faults g.R.Region.obeys_power n c.args.from c.read_area.result (g.P.Power.asked c.args.power.now)
    (live.region ∷ of_parts live.tails) c.args.out.now (g.P.Power.asked c.read_area.new.power) (c.read_area.new.region ∷ of_parts live.tails) c.read_area.new.out)
    first (slot_head (of_parts live.tails) read)
