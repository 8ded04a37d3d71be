use Rattle.std.proofs.Common.{ℕ, ◌∙◌, ◌≡◌, ◌+◌, ◌*◌, ◌/◌, ◌<◌, ◌≤◌, List, length, drop, get_or, refl, sym, ap, arith, rules}
use Rattle.std.proofs.lemmas.List.{take_rest}
use Rattle.std.proofs.lemmas.Result.{err_from_is_err_and}
use Rattle.byteorder.specs.Endian.{little_number}
use Rattle.cfs_pmem.specs.Images.{wrote}
use Rattle.cfs_pmem.proofs.WordLemmas.{written_none, written_more, written-size, writes_all, writes_front}
use Rattle.cfs_slot.specs.Operations.{payload_words}
use Rattle.cfs_slot.specs.Staging.{words_for}
use Rattle.cfs_slot.proofs.PayloadLemmas.{length-payload_words, payload_words_at}
use Rattle.cfs_slot.proofs.staging.write_payload.Goals as goal

-- the words of a payload fit in a slot
fits : (payload : List ℕ) (room : ℕ) → length payload ≤ 4096 → room ≡ 518 → 6 + length (payload_words (words_for (length payload)) payload) ≤ room
fits payload room few size = omega (arith, length-payload_words (words_for (length payload)) payload)

pub loop-k-init : goal.loop-k-init
loop-k-init g c = record {
  written = written_none g.R.Region.obeys_power 6 (payload_words (words_for (length c.args.payload.now)) c.args.payload.now) _ _;
  faults = refl;
}

pub write-requires : goal.write-requires
write-requires g c =
    omega (arith, written-size (fits c.args.payload.now _ c.requires.few c.requires.size) c.loop-k.invariant.written, c.requires.size, c.requires.few)

pub loop-k-preserved : goal.loop-k-preserved
loop-k-preserved g c =
    let payload : List ℕ = c.args.payload.now in
    let n : ℕ = words_for (length payload) in
    let more : c.loop-k.k < n = search rules in
    let within : c.loop-k.k < length (payload_words n payload) = omega (arith, length-payload_words n payload, more) in
    let word : c.read_u64-word.result ≡ get_or (payload_words n payload) c.loop-k.k 0 =
    c.read_u64-word.ensures ∙ ap (λ bytes. little_number 8 bytes) (take_rest payload (8 * c.loop-k.k)) ∙ sym (payload_words_at n c.loop-k.k payload more) in
    record {
      written = written_more c.read_u64-word.result word within (fits payload _ c.requires.few c.requires.size) c.loop-k.invariant.written
          c.in_ok-write.ensures.ok c.write.ensures.asks c.in_ok-write.ensures.asked;
      faults = c.in_ok-write.ensures.cause.passed ∙ c.loop-k.invariant.faults;
    }

pub returns-in_err-write-clause-written : goal.returns-in_err-write-clause-written
returns-in_err-write-clause-written g c =
    let payload : List ℕ = c.args.payload.now in
    let n : ℕ = words_for (length payload) in
    let more : c.loop-k.k < n = search rules in
    let within : c.loop-k.k < length (payload_words n payload) = omega (arith, length-payload_words n payload, more) in
    let p = err_from_is_err_and c.from_residual.result c.from_residual.ensures.1 in
    writes_front p.0 p.1 within (fits payload _ c.requires.few c.requires.size) c.loop-k.invariant.written
    c.in_err-write.ensures.err c.write.ensures.asks c.in_err-write.ensures.asked

pub returns-then-whole-payload-clause-written : goal.returns-then-whole-payload-clause-written
returns-then-whole-payload-clause-written g c =
    let payload : List ℕ = c.args.payload.now in
    let n : ℕ = words_for (length payload) in
    let past : length (payload_words n payload) ≤ c.loop-k.k = omega (arith, length-payload_words n payload, c.if-whole-payload.true, c.loop-k-test.false) in
    writes_all tt past (fits payload _ c.requires.few c.requires.size) c.loop-k.invariant.written

-- the last word
last_is : (payload : List ℕ) (k word : ℕ) → k ≡ length payload / 8 → k < words_for (length payload) → word ≡ little_number 8 (drop (8 * (length payload / 8)) payload)
    → word ≡ get_or (payload_words (words_for (length payload)) payload) k 0
last_is payload k word at more is =
    is ∙ ap (λ (j : ℕ). little_number 8 (drop (8 * j) payload)) (sym at) ∙ sym (payload_words_at (words_for (length payload)) k payload more)

pub returns-in_err-write-2-clause-written : goal.returns-in_err-write-2-clause-written
returns-in_err-write-2-clause-written g c =
    let payload : List ℕ = c.args.payload.now in
    let n : ℕ = words_for (length payload) in
    let at : c.loop-k.k ≡ length payload / 8 = omega (arith, c.loop-k-test.false, c.loop-k.auto.k-end) in
    let more : c.loop-k.k < n = omega (arith, at, c.if-whole-payload.false) in
    let within : c.loop-k.k < length (payload_words n payload) = omega (arith, length-payload_words n payload, more) in
    let p = err_from_is_err_and c.from_residual-in_err-write-2.result c.from_residual-in_err-write-2.ensures.1 in
    writes_front p.0 p.1 within (fits payload _ c.requires.few c.requires.size) c.loop-k.invariant.written
    c.in_err-write-2.ensures.err c.write-2.ensures.asks c.in_err-write-2.ensures.asked

pub returns-clause-written : goal.returns-clause-written
returns-clause-written g c =
    let payload : List ℕ = c.args.payload.now in
    let n : ℕ = words_for (length payload) in
    let at : c.loop-k.k ≡ length payload / 8 = omega (arith, c.loop-k-test.false, c.loop-k.auto.k-end) in
    let more : c.loop-k.k < n = omega (arith, at, c.if-whole-payload.false) in
    let within : c.loop-k.k < length (payload_words n payload) = omega (arith, length-payload_words n payload, more) in
    let word : c.last_word-word.result ≡ get_or (payload_words n payload) c.loop-k.k 0 =
    last_is payload c.loop-k.k c.last_word-word.result at more (c.last_word-word.ensures ∙ ap (λ bytes. little_number 8 bytes) (take_rest payload (8 * (length payload / 8)))) in
    let place : 6 + c.loop-k.k ≡ 6 + length payload / 8 = omega (arith, at) in
    let past : length (payload_words n payload) ≤ c.loop-k.k + 1 = omega (arith, length-payload_words n payload, at) in
    writes_all tt past (fits payload _ c.requires.few c.requires.size)
    (written_more c.last_word-word.result word within (fits payload _ c.requires.few c.requires.size) c.loop-k.invariant.written
    (c.in_ok-write-2.ensures.ok ∙ ap (λ (j : ℕ). wrote j c.last_word-word.result (g.R.Region.seen c.loop-k.region)) (sym place)) c.write-2.ensures.asks c.in_ok-write-2.ensures.asked)
