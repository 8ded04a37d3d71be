use Rattle.std.proofs.Common.{◌≡◌, ◌∙◌, ◌+◌, ◌-◌, ◌++◌, ℕ, List, take, drop, ap, arith, sym}
use Rattle.cfs_image.specs.Layout.{slot_at}
use Rattle.cfs_dump.proofs.Areas.{area-in, region_at-slot}
use Rattle.cfs_dump.proofs.payload.push_area.Goals as goal

pub returns : goal.returns
returns c =
    let from : c.region_at-from.result + 48 ≡ slot_at c.args.slot + 48 =
    omega (arith, c.region_at-from.ensures, region_at-slot c.args.slot) in
    let room : c.region_at-from.result + 48 + 4096 - (c.region_at-from.result + 48) ≡ 4096 =
    omega arith in
    c.in_ok-extend_from_slice.ensures.items
    ∙ ap (λ (xs : List ℕ). c.args.payload.now.items ++ xs)
    (ap (λ (n : ℕ). take n (drop (c.region_at-from.result + 48) c.args.bytes.now)) room
    ∙ (ap (λ (at : ℕ). take 4096 (drop at c.args.bytes.now)) from
    ∙ sym (area-in c.args.bytes.now c.args.slot c.requires.image c.requires.slot
    (λ k. omega (arith, c.type_inv.bytes k)))))
