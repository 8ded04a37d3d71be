use Rattle.std.proofs.Common.{ℕ, ◌<◌, ◌≡◌, ◌∙◌, true, false, List, [], ◌∷◌, ◌++◌, length, take, drop, map, reverse, refl, sym, ap, subst, arith, length-append}
use Rattle.std.proofs.lemmas.List.{append-nil, drop_min, length-map, take_min}
use Rattle.std.specs.Option.{option_to_list}
use Rattle.cfs_vec.specs.Items.{items_of}
use Rattle.cfs_slot.specs.declared.slot.Slot.{Slot}
use Rattle.cfs_slot.specs.declared.part.Part.{Part}
use Rattle.cfs_slot.specs.Regions.{of_parts, of_slots}
use Rattle.cfs_long.specs.After.{from_last}
use Rattle.cfs_long.specs.Chain.{StagesTails, all_staged}
use Rattle.cfs_long.proofs.ChainLemmas.{next_refused, next_staged, slot_err, slot_ok}
use Rattle.cfs_long.proofs.ListLemmas.{bytes_left, last_first, one_behind, one_less, together, together_length}
use Rattle.cfs_long.proofs.chain.stage_tails.Goals as goal

pub loop-slot-init : goal.loop-slot-init
loop-slot-init g c = record {
  so_far = λ whole last news h.
      subst (λ (parts : List (Part g.row.R.Denot g.R.Region)). StagesTails g.R.Region.seen g.R.Region.faults g.R.Region.obeys_power c.args.ino c.args.grant c.args.bytes.now whole
      (g.P.Power.asked c.args.power.now) (from_last c.args.slots) last (map (λ (p : Part g.row.R.Denot g.R.Region). p.region) parts ++ news)) (sym c.new-parts.ensures) h;
  count = omega (arith, c.requires.count, c.requires.some, length-map (items_of c.args.slots) (λ (s : Slot g.row.R.Denot g.R.Region). s.region));
  room = omega (arith, c.requires.few, ap (λ xs. length xs) c.new-parts.ensures, length-map (items_of c.args.slots) (λ (s : Slot g.row.R.Denot g.R.Region). s.region));
}

pub stage_part-requires-clause-some : goal.stage_part-requires-clause-some
stage_part-requires-clause-some g c =
    let popped : items_of c.loop-slot.slots ≡ items_of c.pop.new.self ++ c.in-Some.slot ∷ [] = c.pop.ensures.items ∙ ap (λ o. items_of c.pop.new.self ++ option_to_list o) c.in-Some.is in
    let some : 0 < length c.loop-slot.left.now = bytes_left (length (items_of c.pop.new.self)) (length c.loop-slot.left.now)
    (sym (one_less (items_of c.loop-slot.slots) (items_of c.pop.new.self) c.in-Some.slot popped) ∙ c.loop-slot.invariant.count) in
    omega (arith, some, c.min.ensures, c.split_at.ensures.front_len)

pub push-requires : goal.push-requires
push-requires g c =
    let popped : items_of c.loop-slot.slots ≡ items_of c.pop.new.self ++ c.in-Some.slot ∷ [] = c.pop.ensures.items ∙ ap (λ o. items_of c.pop.new.self ++ option_to_list o) c.in-Some.is in
    omega (arith, c.loop-slot.invariant.room, one_less (items_of c.loop-slot.slots) (items_of c.pop.new.self) c.in-Some.slot popped)

pub loop-slot-preserved : goal.loop-slot-preserved
loop-slot-preserved g c =
    let inv = c.loop-slot.invariant in
    let slot : Slot g.row.R.Denot g.R.Region = c.in-Some.slot in
    let tail : Part g.row.R.Denot g.R.Region = c.in-Ok.tail in
    let left : List ℕ = c.loop-slot.left.now in
    let popped : items_of c.loop-slot.slots ≡ items_of c.pop.new.self ++ slot ∷ [] = c.pop.ensures.items ∙ ap (λ o. items_of c.pop.new.self ++ option_to_list o) c.in-Some.is in
    let size = one_less (items_of c.loop-slot.slots) (items_of c.pop.new.self) slot popped in
    let some : 0 < length left = bytes_left (length (items_of c.pop.new.self)) (length left) (sym size ∙ inv.count) in
    let front = c.split_at.ensures.front ∙ ap (λ n. take n left) c.min.ensures ∙ take_min 4096 left in
    let back = c.split_at.ensures.back ∙ ap (λ n. drop n left) c.min.ensures ∙ drop_min 4096 left in
    record {
      so_far = λ whole last news h.
          subst (λ regions. StagesTails g.R.Region.seen g.R.Region.faults g.R.Region.obeys_power c.args.ino c.args.grant c.args.bytes.now whole
          (g.P.Power.asked c.args.power.now) (from_last c.args.slots) last regions)
          (sym (one_behind (λ (p : Part g.row.R.Denot g.R.Region). p.region) (items_of c.push.new.self) (items_of c.loop-slot.parts) tail news c.push.ensures))
          (inv.so_far whole last (tail.region ∷ news)
          (subst (λ regions. StagesTails g.R.Region.seen g.R.Region.faults g.R.Region.obeys_power c.args.ino c.args.grant left whole
          (g.P.Power.asked c.loop-slot.power) regions last (tail.region ∷ news))
          (sym (last_first (λ (s : Slot g.row.R.Denot g.R.Region). s.region) (items_of c.loop-slot.slots) (items_of c.pop.new.self) slot popped))
          (next_staged some front back (slot_ok refl c.in-Ok.ensures.writes c.in-Ok.ensures.cause) c.in-Ok.ensures.staged h)));
      count = omega (arith, size, inv.count, c.min.ensures, c.split_at.ensures.back_len);
      room = omega (arith, size, inv.room, ap (λ xs. length xs) c.push.ensures, length-append (items_of c.loop-slot.parts) (tail ∷ []));
    }

pub with_parts-given-requires : goal.with_parts-given-requires
with_parts-given-requires g c =
    omega (
      arith,
      c.loop-slot.invariant.room,
      ap (λ xs. length xs) c.new.ensures,
      length-map (items_of c.new.result) (λ (s : Slot g.row.R.Denot g.R.Region). s.region),
      length-map (items_of c.loop-slot.parts) (λ (p : Part g.row.R.Denot g.R.Region). p.region),
    )

pub push-requires-in-Err : goal.push-requires-in-Err
push-requires-in-Err g c =
    let popped : items_of c.loop-slot.slots ≡ items_of c.pop.new.self ++ c.in-Some.slot ∷ [] = c.pop.ensures.items ∙ ap (λ o. items_of c.pop.new.self ++ option_to_list o) c.in-Some.is in
    let given : length (items_of c.with_parts-given.result) ≡ length (items_of c.loop-slot.parts) =
    together_length (λ (s : Slot g.row.R.Denot g.R.Region). s.region) (λ (p : Part g.row.R.Denot g.R.Region). p.region) (items_of c.with_parts-given.result) (items_of c.new.result) (items_of c.loop-slot.parts) c.new.ensures
    c.with_parts-given.ensures in
    omega (arith, given, c.loop-slot.invariant.room, one_less (items_of c.loop-slot.slots) (items_of c.pop.new.self) c.in-Some.slot popped)

pub with_slots-requires : goal.with_slots-requires
with_slots-requires g c =
    let popped : items_of c.loop-slot.slots ≡ items_of c.pop.new.self ++ c.in-Some.slot ∷ [] = c.pop.ensures.items ∙ ap (λ o. items_of c.pop.new.self ++ option_to_list o) c.in-Some.is in
    let given : length (items_of c.with_parts-given.result) ≡ length (items_of c.loop-slot.parts) =
    together_length (λ (s : Slot g.row.R.Denot g.R.Region). s.region) (λ (p : Part g.row.R.Denot g.R.Region). p.region) (items_of c.with_parts-given.result) (items_of c.new.result) (items_of c.loop-slot.parts) c.new.ensures
    c.with_parts-given.ensures in
    omega (
      arith,
      given,
      c.loop-slot.invariant.room,
      one_less (items_of c.loop-slot.slots) (items_of c.pop.new.self) c.in-Some.slot popped,
      one_less (items_of c.push-in-Err.new.self) (items_of c.with_parts-given.result) c.in-Err.slot c.push-in-Err.ensures,
      length-map (items_of c.push-in-Err.new.self) (λ (s : Slot g.row.R.Denot g.R.Region). s.region),
      length-map (items_of c.pop.new.self) (λ (s : Slot g.row.R.Denot g.R.Region). s.region),
    )

pub returns-in-Err : goal.returns-in-Err
returns-in-Err g c =
    let inv = c.loop-slot.invariant in
    let region = λ (s : Slot g.row.R.Denot g.R.Region). s.region in
    let slot : Slot g.row.R.Denot g.R.Region = c.in-Some.slot in
    let left : List ℕ = c.loop-slot.left.now in
    let popped : items_of c.loop-slot.slots ≡ items_of c.pop.new.self ++ slot ∷ [] = c.pop.ensures.items ∙ ap (λ o. items_of c.pop.new.self ++ option_to_list o) c.in-Some.is in
    let some : 0 < length left = bytes_left (length (items_of c.pop.new.self)) (length left) (sym (one_less (items_of c.loop-slot.slots) (items_of c.pop.new.self) slot popped) ∙ inv.count) in
    let front = c.split_at.ensures.front ∙ ap (λ n. take n left) c.min.ensures ∙ take_min 4096 left in
    let given : of_slots c.with_parts-given.result ≡ of_parts c.loop-slot.parts =
    together region (λ (p : Part g.row.R.Denot g.R.Region). p.region) (items_of c.with_parts-given.result) (items_of c.new.result) (items_of c.loop-slot.parts) c.new.ensures c.with_parts-given.ensures in
    let all : of_slots c.with_slots.result ≡ of_parts c.loop-slot.parts ++ (c.in-Err.slot.region ∷ from_last c.pop.new.self) =
    c.with_slots.ensures
    ∙ one_behind region (items_of c.push-in-Err.new.self) (items_of c.with_parts-given.result) c.in-Err.slot (from_last c.pop.new.self) c.push-in-Err.ensures
    ∙ ap (λ regions. regions ++ (c.in-Err.slot.region ∷ from_last c.pop.new.self)) given in
    record {
      stages = subst (λ regions. StagesTails g.R.Region.seen g.R.Region.faults g.R.Region.obeys_power c.args.ino c.args.grant c.args.bytes.now false
          (g.P.Power.asked c.args.power.now) (from_last c.args.slots) (g.P.Power.asked c.stage_part.new.power) regions)
          (sym all)
          (inv.so_far false (g.P.Power.asked c.stage_part.new.power) (c.in-Err.slot.region ∷ from_last c.pop.new.self)
          (subst (λ regions. StagesTails g.R.Region.seen g.R.Region.faults g.R.Region.obeys_power c.args.ino c.args.grant left false
          (g.P.Power.asked c.loop-slot.power) regions (g.P.Power.asked c.stage_part.new.power) (c.in-Err.slot.region ∷ from_last c.pop.new.self))
          (sym (last_first region (items_of c.loop-slot.slots) (items_of c.pop.new.self) slot popped))
          (next_refused some front (slot_err refl c.in-Err.ensures.writes c.in-Err.ensures.cause))));
    }

pub returns : goal.returns
returns g c =
    let inv = c.loop-slot.invariant in
    let none : items_of c.loop-slot.slots ≡ [] = c.in_default.ensures.none in
    let empty : c.loop-slot.left.now ≡ [] = nothing c.loop-slot.left.now (omega (arith, inv.count, ap (λ xs. length xs) none)) in
    record {
      stages = subst (λ regions. StagesTails g.R.Region.seen g.R.Region.faults g.R.Region.obeys_power c.args.ino c.args.grant c.args.bytes.now true
          (g.P.Power.asked c.args.power.now) (from_last c.args.slots) (g.P.Power.asked c.loop-slot.power) regions)
          (append-nil (of_parts c.loop-slot.parts))
          (inv.so_far true (g.P.Power.asked c.loop-slot.power) []
          (subst (λ (slots : List (Slot g.row.R.Denot g.R.Region)). StagesTails g.R.Region.seen g.R.Region.faults g.R.Region.obeys_power c.args.ino c.args.grant c.loop-slot.left.now true
          (g.P.Power.asked c.loop-slot.power) (map (λ (s : Slot g.row.R.Denot g.R.Region). s.region) (reverse slots)) (g.P.Power.asked c.loop-slot.power) [])
          (sym none)
          (subst (λ (bytes : List ℕ). StagesTails g.R.Region.seen g.R.Region.faults g.R.Region.obeys_power c.args.ino c.args.grant bytes true
          (g.P.Power.asked c.loop-slot.power) [] (g.P.Power.asked c.loop-slot.power) []) (sym empty) all_staged)));
    }
  where
    nothing : {A : Type 0} (xs : List A) → length xs ≡ 0 → xs ≡ []
    nothing [] e = refl
    nothing (x ∷ xs) e = absurd (omega (arith, e))
