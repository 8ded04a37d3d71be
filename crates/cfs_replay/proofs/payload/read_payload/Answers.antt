use Rattle.std.proofs.Common.{ℕ, ◌+◌, ◌*◌, ◌/◌, ◌%◌, ◌<◌, ◌≤◌, ◌≡◌, ◌∙◌, List, [], length, map}
use Rattle.std.proofs.Common.{get_or, sym, ap, arith}
use Rattle.std.specs.Int.{w64, to_le_bytes}
use Rattle.std.proofs.lemmas.List.{get_or-map, length-map}
use Rattle.cfs_pmem.specs.Images.{Seen, WordStep}
use Rattle.cfs_pmem.proofs.Patches.{length-patched}
use Rattle.cfs_recover.proofs.BlockCalls.{same-cause}
use Rattle.cfs_replay.specs.Reading.{words_at}
use Rattle.cfs_replay.proofs.Payloads.{AreAreas, areas-of, length-areas, payload-more, take-same}
use Rattle.cfs_replay.proofs.ReadCalls.{leaves-after}
use Rattle.cfs_replay.proofs.payload.read_payload.Goals as goal

pub returns-in_err-word-clause-leaves : goal.returns-in_err-word-clause-leaves
returns-in_err-word-clause-leaves g c =
    leaves-after c.loop-k.invariant.leaves c.read_word.ensures.leaves

pub loop-k-preserved : goal.loop-k-preserved
loop-k-preserved g c =
    let inv = c.loop-k.invariant in
    let k : ℕ = c.loop-k.k in
    let places : List ℕ = c.args.places.now in
    let olds : List (Seen WordStep) = map g.R.Region.seen c.args.regions.now in
    let long : length (map (words_at olds) places) ≡ length places =
    length-map places (words_at olds) in
    let below : 8 * k < c.args.len = omega (arith, c.loop-k-test.true, c.div_ceil-k-end.ensures) in
    let slot : k / 512 < length places = omega (arith, below, c.requires.whole) in
    let room : 8 * k + 8 ≤ length c.loop-k.buffer = omega (arith, below, c.requires.few, inv.size)
    in
    record {
      leaves = leaves-after inv.leaves c.read_word.ensures.leaves;
      counts = c.in_ok-word.ensures.cause.passed ∙ inv.counts;
      size = ap (λ (xs : List ℕ). length xs) c.put_word.ensures
          ∙ (length-patched c.loop-k.buffer (8 * k) (to_le_bytes w64 c.in_ok-word.word) room
          ∙ inv.size);
      bytes = λ i inside. ap (λ (xs : List ℕ). get_or xs i 0) c.put_word.ensures
          ∙ payload-more (map (words_at olds) places) c.loop-k.buffer k c.in_ok-word.word
          (areas-of (words_at olds) places c.requires.size)
          (omega (arith, below, c.requires.whole, long)) room
          (c.in_ok-word.ensures.word
          ∙ (ap (λ (seens : List (Seen WordStep)).
          get_or (words_at seens (get_or places (k / 512) 0)) (6 + k % 512) 0) inv.leaves.same
          ∙ ap (λ (words : List ℕ). get_or words (6 + k % 512) 0)
          (sym (get_or-map (words_at olds) places (k / 512) 0 [] slot))))
          inv.bytes i inside;
    }

pub returns-clause-bytes : goal.returns-clause-bytes
returns-clause-bytes g c =
    let places : List ℕ = c.args.places.now in
    let olds : List (Seen WordStep) = map g.R.Region.seen c.args.regions.now in
    let full : AreAreas (map (words_at olds) places) =
    areas-of (words_at olds) places c.requires.size in
    take-same c.args.len c.loop-k.buffer _
    (omega (arith, c.requires.few, c.loop-k.invariant.size))
    (omega (
      arith,
      length-areas (map (words_at olds) places) full,
      length-map places (words_at olds),
      c.requires.whole,
    ))
    (λ i less. c.loop-k.invariant.bytes i
    (omega (arith, less, c.loop-k-test.false, c.div_ceil-k-end.ensures)))

pub returns-clause-cause : goal.returns-clause-cause
returns-clause-cause g c = same-cause _ _ c.loop-k.invariant.counts
