use Rattle.std.proofs.Common.{ℕ, Result, Ok, Err, IfOk, ◌+◌, ◌≡◌, ◌∙◌, Bool, true, false, List, [], ◌∷◌, ◌++◌, length, drop, is_ok, map, reverse, refl, sym, ap, subst, arith, rules}
use Rattle.std.proofs.lemmas.List.{length-map, length-reverse}
use Rattle.std.specs.Option.{option_to_list}
use Rattle.cfs_vec.specs.Items.{items_of}
use Rattle.cfs_file.specs.declared.request.Request.{Request}
use Rattle.cfs_pmem.specs.Images.{words_of, IsSure}
use Rattle.cfs_vec.specs.declared.fixed_vec.FixedVec.{FixedVec}
use Rattle.cfs_slot.specs.declared.part.Part.{Part}
use Rattle.cfs_slot.specs.declared.slot.Slot.{Slot}
use Rattle.cfs_slot.specs.declared.staged.Staged.{Staged}
use Rattle.cfs_slot.specs.Regions.{devices_in, of_slots, of_staged, slot_numbers, tails_of_staged, words_in}
use Rattle.cfs_slot.specs.Staging.{IsLong, IsStageable, slots_for, staged_payload, staged_request}
use Rattle.cfs_slot.specs.Tails.{AreAbove}
use Rattle.cfs_slot.specs.Words.{request_of}
use Rattle.cfs_long.specs.Whole.{StandsWhole}
use Rattle.cfs_long.proofs.WholeLemmas.{AllSure, stands_whole}
use Rattle.cfs_slot.proofs.StagedLemmas.{payload_most}
use Rattle.cfs_long.specs.After.{after_chain, from_last}
use Rattle.cfs_long.specs.Chain.{AreChain, StagesChain}
use Rattle.cfs_long.proofs.ChainLemmas.{chain_same}
use Rattle.cfs_long.proofs.GateLemmas.{AllClosed, chain_moments}
use Rattle.cfs_long.proofs.ListLemmas.{one_less}
use Rattle.cfs_long.proofs.ResultLemmas.{cause_of, first_of_all, is_short, none_left, not_both, whole_long, whole_short}
use Rattle.cfs_long.proofs.chain.stage_chain.Given.{Over}
use Rattle.cfs_long.proofs.chain.stage_chain.Goals as goal

-- the gate of each slot is closed
slots_closed : (g : Over) (slots : List (Slot g.row.R.Denot g.R.Region)) → AllClosed g.R.Region.seen (map (λ (s : Slot g.row.R.Denot g.R.Region). s.region) slots)
slots_closed g [] = tt
slots_closed g (slot ∷ slots) = (slot.closed, slots_closed g slots)

-- the tails of a staged request are sure
parts_sure : (g : Over) (parts : List (Part g.row.R.Denot g.R.Region)) → AllSure g.R.Region.seen (map (λ (p : Part g.row.R.Denot g.R.Region). p.region) parts)
parts_sure g [] = tt
parts_sure g (part ∷ parts) = (part.sure, parts_sure g parts)

stands_of : (g : Over) {N : ℕ} (request : Request) (result : Result (Staged g.row.R.Denot g.R.Region) (FixedVec (Slot g.row.R.Denot g.R.Region) N))
    → IfOk result (λ staged. request_of (words_of (g.R.Region.seen (of_staged staged))) (words_in g.R.Region.seen (tails_of_staged staged)) ≡ staged_request request)
    → IfOk result (λ staged. IsSure (g.R.Region.seen (of_staged staged)))
    → IfOk result (λ staged. StandsWhole (staged_request request) (map (λ r. g.R.Region.seen r) (of_staged staged ∷ tails_of_staged staged)))
stands_of g request (Ok staged) whole sure =
    subst (λ request. StandsWhole request (map (λ r. g.R.Region.seen r) (of_staged staged ∷ tails_of_staged staged))) whole
    (stands_whole g.R.Region.seen (of_staged staged) (tails_of_staged staged) (sure, parts_sure g (items_of staged.tails)))
stands_of g request (Err slots) whole sure = tt

nothing : {A : Type 0} (xs : List A) → length xs ≡ 0 → xs ≡ []
nothing [] e = refl
nothing (x ∷ xs) e = absurd (omega (arith, e))

both : (b : Bool) → b ≡ true → b ≡ false → ⊥
both b t f = cc

pub unreachable-requires : goal.unreachable-requires
unreachable-requires g c = omega (
  arith,
  c.requires.count,
  ap (λ xs. length xs) c.in_default.ensures.none,
  ap (λ xs. length xs) c.reverse.ensures.items,
  length-reverse (items_of c.args.slots),
  length-map (items_of c.args.slots) (λ (s : Slot g.row.R.Denot g.R.Region). s.region),
)

pub stage_long-requires : goal.stage_long-requires
stage_long-requires g c =
    let region = λ (s : Slot g.row.R.Denot g.R.Region). s.region in
    let popped : items_of c.reverse.new.self ≡ items_of c.pop.new.self ++ c.in-Some.head ∷ [] = c.pop.ensures.items ∙ ap (λ o. items_of c.pop.new.self ++ option_to_list o) c.in-Some.is in
    let long : IsLong c.args.request.now = c.is_long.ensures.0 c.if-is_long.true in
    let count : length (of_slots c.pop.new.self) + 1 ≡ slots_for (length (staged_payload c.args.request.now)) = omega (
      arith,
      c.requires.count,
      one_less (items_of c.reverse.new.self) (items_of c.pop.new.self) c.in-Some.head popped,
      ap (λ xs. length xs) c.reverse.ensures.items,
      length-reverse (items_of c.args.slots),
      length-map (items_of c.args.slots) region,
      length-map (items_of c.pop.new.self) region,
    ) in
    let regions = first_of_all region (items_of c.args.slots) (items_of c.reverse.new.self) (items_of c.pop.new.self) c.in-Some.head c.reverse.ensures.items popped in
    let above : AreAbove (g.R.Region.seen c.in-Some.head.region).device (devices_in g.R.Region.seen (from_last c.pop.new.self)) =
    subst (λ rs. AreChain (devices_in g.R.Region.seen rs)) regions c.requires.chain in
    search (rules, long, count, above)

pub stage_short-requires : goal.stage_short-requires
stage_short-requires g c =
    let short : IsStageable c.args.request.now = is_short c.args.request.now c.requires.chained (λ long. both c.is_long.result (c.is_long.ensures.1 long) c.if-is_long.false) in
    search (rules, short)

pub returns-then-is_long : goal.returns-then-is_long
returns-then-is_long g c =
    let popped : items_of c.reverse.new.self ≡ items_of c.pop.new.self ++ c.in-Some.head ∷ [] = c.pop.ensures.items ∙ ap (λ o. items_of c.pop.new.self ++ option_to_list o) c.in-Some.is in
    let regions = first_of_all (λ (s : Slot g.row.R.Denot g.R.Region). s.region) (items_of c.args.slots) (items_of c.reverse.new.self) (items_of c.pop.new.self) c.in-Some.head c.reverse.ensures.items popped in
    let long : IsLong c.args.request.now = c.is_long.ensures.0 c.if-is_long.true in
    let chain = subst (λ olds. StagesChain g.R.Region.seen g.R.Region.faults g.R.Region.obeys_power c.args.ino c.args.grant c.args.request.now (slot_numbers g.R.Region.seen (drop 1 olds))
    (is_ok c.stage_long.result) (g.P.Power.asked c.args.power.now) olds (g.P.Power.asked c.stage_long.new.power) (after_chain c.stage_long.result)) (sym regions) c.stage_long.ensures.stages in
    record {
      stages = chain;
      short = λ short. absurd (not_both c.args.request.now short long);
      long = λ l. c.stage_long.ensures.staged;
      whole = whole_long g.R.Region.seen c.args.ino c.args.grant c.args.request.now c.stage_long.result c.stage_long.ensures.staged;
      sure = c.stage_long.ensures.sure;
      stands = stands_of g c.args.request.now c.stage_long.result
          (whole_long g.R.Region.seen c.args.ino c.args.grant c.args.request.now c.stage_long.result c.stage_long.ensures.staged) c.stage_long.ensures.sure;
      slots = chain_same chain;
      moments = λ distinct. chain_moments (slots_closed g (items_of c.args.slots)) distinct chain;
      cause = cause_of c.stage_long.result chain;
    }

pub returns-else-is_long : goal.returns-else-is_long
returns-else-is_long g c =
    let popped : items_of c.reverse.new.self ≡ items_of c.pop.new.self ++ c.in-Some.head ∷ [] = c.pop.ensures.items ∙ ap (λ o. items_of c.pop.new.self ++ option_to_list o) c.in-Some.is in
    let region = λ (s : Slot g.row.R.Denot g.R.Region). s.region in
    let not_long : IsLong c.args.request.now → ⊥ = λ long. both c.is_long.result (c.is_long.ensures.1 long) c.if-is_long.false in
    let most = payload_most c.args.request.now (is_short c.args.request.now c.requires.chained not_long) in
    let size : length (items_of c.args.slots) ≡ length (items_of c.pop.new.self) + 1 =
    sym (length-reverse (items_of c.args.slots)) ∙ sym (ap (λ xs. length xs) c.reverse.ensures.items) ∙ one_less (items_of c.reverse.new.self) (items_of c.pop.new.self) c.in-Some.head popped in
    let none : items_of c.pop.new.self ≡ [] = nothing (items_of c.pop.new.self)
    (none_left (length (items_of c.args.slots)) (length (items_of c.pop.new.self)) (length (staged_payload c.args.request.now)) size
    (sym (length-map (items_of c.args.slots) region) ∙ c.requires.count) most) in
    let regions : of_slots c.args.slots ≡ c.in-Some.head.region ∷ [] =
    first_of_all region (items_of c.args.slots) (items_of c.reverse.new.self) (items_of c.pop.new.self) c.in-Some.head c.reverse.ensures.items popped
    ∙ ap (λ xs. c.in-Some.head.region ∷ map region (reverse xs)) none in
    let chain = subst (λ olds. StagesChain g.R.Region.seen g.R.Region.faults g.R.Region.obeys_power c.args.ino c.args.grant c.args.request.now (slot_numbers g.R.Region.seen (drop 1 olds))
    (is_ok c.stage_short.result) (g.P.Power.asked c.args.power.now) olds (g.P.Power.asked c.stage_short.new.power) (after_chain c.stage_short.result)) (sym regions) c.stage_short.ensures.stages in
    record {
      stages = chain;
      short = λ short. c.stage_short.ensures.staged;
      long = λ long. absurd (not_long long);
      whole = whole_short g.R.Region.seen c.args.ino c.args.grant c.args.request.now c.stage_short.result c.stage_short.ensures.staged c.stage_short.ensures.tails;
      sure = c.stage_short.ensures.sure;
      stands = stands_of g c.args.request.now c.stage_short.result
          (whole_short g.R.Region.seen c.args.ino c.args.grant c.args.request.now c.stage_short.result c.stage_short.ensures.staged c.stage_short.ensures.tails) c.stage_short.ensures.sure;
      slots = chain_same chain;
      moments = λ distinct. chain_moments (slots_closed g (items_of c.args.slots)) distinct chain;
      cause = cause_of c.stage_short.result chain;
    }
