use Rattle.std.proofs.Common.{ℕ, false, ◌-◌, ◌*◌, ◌/◌, ◌+◌, ◌<◌, ◌≤◌, ◌≡◌, ◌∙◌, suc, ◌∷◌, List, length, get_or, take, drop, refl, sym, ap, arith, rules, ext_get_or}
use Rattle.std.specs.Int.{w64, to_le_bytes}
use Rattle.std.proofs.lemmas.Result.{err_from_is_err_and}
use Rattle.cfs_pmem.specs.declared.trace.Asked.TheVariants.{Step}
use Rattle.cfs_pmem.specs.Images.{Seen, WordStep, words_of}
use Rattle.cfs_pmem.proofs.Patches.{length-patched}
use Rattle.cfs_slot.specs.Words.{area_of}
use Rattle.cfs_slot.proofs.AreaLemmas.{area_more, read_next, read_stops, asks_more_of, length-area, part_is}
use Rattle.cfs_slot.proofs.reading.read_area.Goals as goal

pub returns-in_err-word-clause-does : goal.returns-in_err-word-clause-does
returns-in_err-word-clause-does g c =
    let p = err_from_is_err_and c.from_residual.result c.from_residual.ensures.1 in
    let first : ℕ = c.args.from / 8 in
    let to : ℕ = c.args.from + length c.args.out.now in
    let more : c.loop-k.k - first < (to + 7) / 8 - first = search rules in
    read_stops (6 + first) (c.loop-k.k - first) ((to + 7) / 8 - first) p.0 p.1 more c.loop-k.invariant.read
    (λ o. c.in_err-word.ensures.asked o ∙ ap (λ (s : Seen WordStep). Step s.device false false ∷ g.P.Power.asked c.loop-k.power) c.loop-k.invariant.seen)

pub returns-in_err-word-clause-asks : goal.returns-in_err-word-clause-asks
returns-in_err-word-clause-asks g c = asks_more_of c.loop-k.invariant.read.asks c.loop-k.invariant.seen c.read.ensures.asks

pub loop-k-preserved : goal.loop-k-preserved
loop-k-preserved g c =
    let inv = c.loop-k.invariant in
    let first : ℕ = c.args.from / 8 in
    let k : ℕ = c.loop-k.k in
    let old = g.R.Region.seen c.args.region.now in
    let next : k + 1 - first ≡ suc (k - first) = search rules in
    let here : 6 + first + (k - first) ≡ 6 + k = search rules in
    let below : k < 512 = search rules in
    let word : c.in_ok-word.word ≡ get_or (words_of old) (6 + k) 0 =
    c.in_ok-word.ensures.word ∙ ap (λ (s : Seen WordStep). get_or (words_of s) (6 + k) 0) inv.seen in
    record {
      read = read_next (6 + first) next refl inv.seen inv.read c.read.ensures.asks c.in_ok-word.ensures.asked;
      seen = c.read.ensures.seen ∙ inv.seen;
      faults = c.in_ok-word.ensures.cause.passed ∙ inv.faults;
      size = ap (λ (xs : List ℕ). length xs) c.put_word.ensures ∙ length-patched c.loop-k.area (8 * k) (to_le_bytes w64 c.in_ok-word.word) (omega (arith, below, inv.size)) ∙ inv.size;
      bytes = λ i from to. ap (λ xs. get_or xs i 0) c.put_word.ensures
          ∙ area_more (words_of old) c.loop-k.area first k c.in_ok-word.word c.requires.size inv.size below word inv.bytes i from to;
    }

pub returns-clause-bytes : goal.returns-clause-bytes
returns-clause-bytes g c =
    let from : ℕ = c.args.from in
    let n : ℕ = length c.args.out.now in
    let all : List ℕ = area_of (words_of (g.R.Region.seen c.args.region.now)) in
    let end : (from + n + 7) / 8 ≤ c.loop-k.k = search rules in
    let count : from + n - from ≡ n = omega arith in
    c.copy_from_slice.ensures.after ∙ ap (λ m. take m (drop from c.loop-k.area)) count
    ∙ part_is c.loop-k.area all c.args.out.now from (omega (arith, length-area (words_of (g.R.Region.seen c.args.region.now)) c.requires.size, c.requires.within))
    (omega (arith, c.loop-k.invariant.size, c.requires.within))
    (λ i l. c.loop-k.invariant.bytes (from + i) (omega arith) (omega (arith, end)))
