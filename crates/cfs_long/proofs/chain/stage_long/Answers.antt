use Rattle.std.proofs.Common.{ℕ, ◌+◌, ◌-◌, ◌<◌, ◌≤◌, ◌≡◌, ◌∙◌, List, ◌∷◌, ◌++◌, length, take, drop, refl, ap, subst, arith, rules, length-drop}
use Rattle.std.proofs.lemmas.List.{take_rest}
use Rattle.cfs_vec.specs.Items.{items_of}
use Rattle.cfs_slot.specs.declared.slot.Slot.{Slot}
use Rattle.cfs_slot.specs.Staging.{AreParts, IsLong, slots_for, staged_payload}
use Rattle.cfs_slot.specs.Regions.{devices_in, of_parts, of_slots, words_in}
use Rattle.cfs_slot.specs.Tails.{AreAbove}
use Rattle.cfs_slot.proofs.StagedLemmas.{long_bounds}
use Rattle.cfs_long.specs.After.{from_last}
use Rattle.cfs_long.proofs.ChainLemmas.{parts_are, slot_err, slot_ok}
use Rattle.cfs_long.proofs.ListLemmas.{turned_length}
use Rattle.cfs_long.proofs.ResultLemmas.{count_left, few_left, head_err, head_ok, tail_err, tails_above, tails_length}
use Rattle.cfs_long.proofs.chain.stage_long.Goals as goal

pub slice_bounds-behind-start : goal.slice_bounds-behind-start
slice_bounds-behind-start g c =
    omega (arith, (long_bounds c.args.request.now c.requires.long).0, ap (λ (bs : List ℕ). length bs) c.staged_payload-payload.ensures)

pub slice_bounds-behind-count : goal.slice_bounds-behind-count
slice_bounds-behind-count g c =
    omega (arith, (long_bounds c.args.request.now c.requires.long).0, ap (λ (bs : List ℕ). length bs) c.staged_payload-payload.ensures)

pub stage_tails-requires : goal.stage_tails-requires
stage_tails-requires g c =
    let payload : List ℕ = c.staged_payload-payload.result.now in
    let bounds = long_bounds c.args.request.now c.requires.long in
    let all : ℕ = length (staged_payload c.args.request.now) in
    let others : ℕ = length (of_slots c.args.others) in
    let left : ℕ = length (take (length payload - 4096) (drop 4096 payload)) in
    let long : 4096 < all = bounds.0 in
    let most : all ≤ 65536 = bounds.1 in
    let size : left + 4096 ≡ all = omega (arith, long, ap (λ (bs : List ℕ). length bs) c.staged_payload-payload.ensures, ap (λ (bs : List ℕ). length bs) (take_rest payload 4096), length-drop 4096 payload) in
    let few : others ≤ 15 = few_left (others + 1) others all refl c.requires.count most in
    let some : 0 < left = omega (arith, size, long) in
    let count : others ≡ slots_for left = count_left (others + 1) others all left refl c.requires.count long size in
    first_of (omega (arith, few, some, count), search (rules, few, some, count))

pub behind_head-requires : goal.behind_head-requires
behind_head-requires g c =
    omega (
      arith,
      few_left (length (of_slots c.args.others) + 1) (length (of_slots c.args.others)) (length (staged_payload c.args.request.now)) refl c.requires.count (long_bounds c.args.request.now c.requires.long).1,
      tails_length c.in-Err.ensures.stages,
      turned_length (λ (s : Slot g.row.R.Denot g.R.Region). s.region) (items_of c.args.others),
    )

pub stage_head-requires : goal.stage_head-requires
stage_head-requires g c =
    let payload : List ℕ = c.staged_payload-payload.result.now in
    let bytes : take (length payload - 4096) (drop 4096 payload) ≡ drop 4096 (staged_payload c.args.request.now) =
    take_rest payload 4096 ∙ ap (λ (bs : List ℕ). drop 4096 bs) c.staged_payload-payload.ensures in
    let long : IsLong c.args.request.now = c.requires.long in
    let parts : AreParts c.args.ino c.args.grant (drop 4096 (staged_payload c.args.request.now)) (words_in g.R.Region.seen (of_parts c.in-Ok.tails)) =
    subst (λ (bs : List ℕ). AreParts c.args.ino c.args.grant bs (words_in g.R.Region.seen (of_parts c.in-Ok.tails))) bytes (parts_are c.in-Ok.ensures.stages) in
    let above : AreAbove (g.R.Region.seen c.args.head.region).device (devices_in g.R.Region.seen (of_parts c.in-Ok.tails)) =
    tails_above (c.args.head.region ∷ from_last c.args.others) refl c.requires.above c.in-Ok.ensures.stages in
    search (rules, long, parts, above)

pub with_parts-requires : goal.with_parts-requires
with_parts-requires g c =
    omega (
      arith,
      few_left (length (of_slots c.args.others) + 1) (length (of_slots c.args.others)) (length (staged_payload c.args.request.now)) refl c.requires.count (long_bounds c.args.request.now c.requires.long).1,
      tails_length c.in-Ok.ensures.stages,
      turned_length (λ (s : Slot g.row.R.Denot g.R.Region). s.region) (items_of c.args.others),
      ap (λ rs. length rs) c.one.ensures,
      ap (λ rs. length rs) c.in-Err-stage_head.ensures.tails,
    )

pub returns-in-Err-clause-stages : goal.returns-in-Err-clause-stages
returns-in-Err-clause-stages g c =
    tail_err _ _ refl c.behind_head.ensures (take_rest c.staged_payload-payload.result.now 4096 ∙ ap (λ (bs : List ℕ). drop 4096 bs) c.staged_payload-payload.ensures) c.requires.long c.in-Err.ensures.stages

pub returns-in-Ok-stage_head-clause-stages : goal.returns-in-Ok-stage_head-clause-stages
returns-in-Ok-stage_head-clause-stages g c =
    head_ok _ _ refl c.in-Ok-stage_head.ensures.tails (take_rest c.staged_payload-payload.result.now 4096 ∙ ap (λ (bs : List ℕ). drop 4096 bs) c.staged_payload-payload.ensures)
    c.requires.long c.in-Ok.ensures.stages (slot_ok refl c.in-Ok-stage_head.ensures.writes c.in-Ok-stage_head.ensures.cause)

pub returns-in-Err-stage_head-clause-stages : goal.returns-in-Err-stage_head-clause-stages
returns-in-Err-stage_head-clause-stages g c =
    head_err _ _ refl
    (c.with_parts.ensures ∙ ap (λ rs. rs ++ of_parts c.in-Err-stage_head.tails) c.one.ensures ∙ ap (λ ps. c.in-Err-stage_head.head.region ∷ ps) c.in-Err-stage_head.ensures.tails)
    (take_rest c.staged_payload-payload.result.now 4096 ∙ ap (λ (bs : List ℕ). drop 4096 bs) c.staged_payload-payload.ensures)
    c.requires.long c.in-Ok.ensures.stages (slot_err refl c.in-Err-stage_head.ensures.writes c.in-Err-stage_head.ensures.cause)
