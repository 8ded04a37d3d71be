use Rattle.std.proofs.Common.{ℕ, ◌<◌, ◌≡◌, ◌∙◌, Option, Some, List, length, get_or, map, refl, sym, ap, subst, arith}
use Rattle.std.proofs.Math.ListN.{set}
use Rattle.std.proofs.lemmas.List.{length-map, map-set, get_or-map}
use Rattle.cfs_vec.specs.Cells.{somes}
use Rattle.cfs_vec.proofs.CellLemmas.{full_at, none_not_at}
use Rattle.cfs_slot.specs.declared.part.Part.{Part}
use Rattle.cfs_slot.specs.Reads.{ReadsSlot}
use Rattle.cfs_slot.specs.Regions.{of_parts}
use Rattle.cfs_slot.proofs.SlotReads.{AreaRead, full_set, somes_now, slot_at}
use Rattle.cfs_slot.proofs.reading.read_tail.Goals as goal

pub invariant_of-tails : goal.invariant_of-tails
invariant_of-tails g c =
    let cells : List (Option (Part g.row.R.Denot g.R.Region)) = c.args.tails.now.cells.items in
    let parts : length (of_parts c.args.tails.now) ≡ length (somes cells) = length-map (somes cells) (λ (p : Part g.row.R.Denot g.R.Region). p.region) in
    record { full = full_set cells c.as_mut_slice.result.now c.args.tail _ c.as_mut_slice.ensures.value c.args.tails.now.full (omega (arith, c.args.tails.now.full, c.requires.tail)) }

pub unreachable-requires : goal.unreachable-requires
unreachable-requires g c =
    let cells : List (Option (Part g.row.R.Denot g.R.Region)) = c.args.tails.now.cells.items in
    let parts : length (of_parts c.args.tails.now) ≡ length (somes cells) = length-map (somes cells) (λ (p : Part g.row.R.Denot g.R.Region). p.region) in
    none_not_at cells c.args.tail c.index-as_mut_slice-tail.result c.args.tails.now.full (omega (arith, c.args.tails.now.full, c.requires.tail))
    (c.index-as_mut_slice-tail.is ∙ ap (λ cs. get_or cs c.args.tail c.index-as_mut_slice-tail.result) c.as_mut_slice.ensures.value) (c.index-as_mut_slice-tail.is ∙ c.in-None.is)

pub returns : goal.returns
returns g c =
    let region = λ (p : Part g.row.R.Denot g.R.Region). p.region in
    let cells : List (Option (Part g.row.R.Denot g.R.Region)) = c.args.tails.now.cells.items in
    let tail : ℕ = c.args.tail in
    let parts : length (of_parts c.args.tails.now) ≡ length (somes cells) = length-map (somes cells) region in
    let within : tail < length cells = omega (arith, c.args.tails.now.full, c.requires.tail) in
    let part : Part g.row.R.Denot g.R.Region = c.in-Some.part in
    let there : part ≡ get_or (somes cells) tail part =
    full_at cells tail c.index-as_mut_slice-tail.result part c.args.tails.now.full within
    (c.index-as_mut_slice-tail.is ∙ ap (λ cs. get_or cs tail c.index-as_mut_slice-tail.result) c.as_mut_slice.ensures.value) (c.index-as_mut_slice-tail.is ∙ c.in-Some.is) in
    let old : part.region ≡ get_or (of_parts c.args.tails.now) tail part.region =
    ap region there ∙ sym (get_or-map region (somes cells) tail part part.region (omega (arith, c.args.tails.now.full))) in
    let read : AreaRead g.R.Region.seen g.R.Region.faults g.R.Region.obeys_power c.args.from c.read_area.result (g.P.Power.asked c.args.power.now) part.region c.args.out.now
    (g.P.Power.asked c.read_area.new.power) c.read_area.new.region c.read_area.new.out =
    record { bytes = c.read_area.ensures.bytes; same = c.read_area.ensures.seen; does = c.read_area.ensures.does; asks = c.read_area.ensures.asks; cause = c.read_area.ensures.cause } in
    subst (λ news. ReadsSlot g.R.Region.seen g.R.Region.faults g.R.Region.obeys_power tail c.args.from c.read_area.result (g.P.Power.asked c.args.power.now)
    (of_parts c.args.tails.now) c.args.out.now (g.P.Power.asked c.read_area.new.power) news c.read_area.new.out)
    (sym (ap (λ ps. map region ps) (somes_now cells c.as_mut_slice.result.now tail _ c.as_mut_slice.ensures.value c.args.tails.now.full within) ∙ map-set region (somes cells) tail _))
    (slot_at tail (of_parts c.args.tails.now) c.requires.tail old read)
