use Rattle.std.proofs.Common.{ℕ, ◌∙◌, ◌≡◌, ◌∷◌, [], List, length, ap, arith, rules}
use Rattle.std.proofs.lemmas.Result.{err_from_is_err_and}
use Rattle.cfs_pmem.specs.Images.{Seen, WordStep, words_of, patched}
use Rattle.cfs_pmem.specs.WordOps.{persist}
use Rattle.cfs_pmem.proofs.ImageLemmas.{now_is_image}
use Rattle.cfs_slot.specs.Operations.{payload_words, puts_all}
use Rattle.cfs_slot.specs.Staging.{words_for}
use Rattle.cfs_slot.proofs.WritingLemmas.{none_done, words_done, words_stopped, persist_stopped, slot_written, fields_held}
use Rattle.cfs_slot.proofs.staging.write_slot.Goals as goal

pub returns-in_err-write_words-clause-writes : goal.returns-in_err-write_words-clause-writes
returns-in_err-write_words-clause-writes g c =
    let p = err_from_is_err_and c.from_residual.result c.from_residual.ensures.1 in
    let payload : List ℕ = c.args.payload.now in
    words_stopped (persist ∷ puts_all 6 (payload_words (words_for (length payload)) payload)) p.0 p.1 (omega arith)
    (none_done g.R.Region.obeys_power _ _ c.requires.closed) c.in_err-write_words.ensures.written

pub returns-in_err-write_payload-clause-writes : goal.returns-in_err-write_payload-clause-writes
returns-in_err-write_payload-clause-writes g c =
    let p = err_from_is_err_and c.from_residual-in_err-write_payload.result c.from_residual-in_err-write_payload.ensures.1 in
    let header = words_done (omega arith) (none_done g.R.Region.obeys_power _ _ c.requires.closed) c.in_ok-write_words.ensures.written in
    words_stopped (persist ∷ []) p.0 p.1 (omega arith) header c.in_err-write_payload.ensures.written

pub returns-in_err-persist-clause-writes : goal.returns-in_err-persist-clause-writes
returns-in_err-persist-clause-writes g c =
    let p = err_from_is_err_and c.from_residual-in_err-persist.result c.from_residual-in_err-persist.ensures.1 in
    let header = words_done (omega arith) (none_done g.R.Region.obeys_power _ _ c.requires.closed) c.in_ok-write_words.ensures.written in
    let both = words_done (omega arith) header c.in_ok-write_payload.ensures.written in
    persist_stopped p.0 p.1 both c.in_err-persist.ensures.err c.persist.ensures.asks c.in_err-persist.ensures.asked

pub returns-clause-holds : goal.returns-clause-holds
returns-clause-holds g c =
    let payload : List ℕ = c.args.payload.now in
    let fields = c.args.fields in
    let first : List ℕ = words_of (g.R.Region.seen c.args.region.now) in
    let now : words_of (g.R.Region.seen c.persist.new.self) ≡ words_of (g.R.Region.seen c.write_payload.new.region) =
    ap (λ (s : Seen WordStep). words_of s) c.in_ok-persist.ensures.ok in
    let is = now ∙ c.in_ok-write_payload.ensures.written.words_are
    ∙ ap (λ ws. patched ws 6 (payload_words (words_for (length payload)) payload)) c.in_ok-write_words.ensures.written.words_are in
    fields_held fields.ino fields.offset fields.kind fields.grant payload first (words_of (g.R.Region.seen c.persist.new.self)) c.requires.size c.requires.few
    (λ k. let fits = c.type_inv.payload k in search rules)
    (c.requires.closed first (now_is_image (g.R.Region.seen c.args.region.now).history)) is

pub returns-clause-writes : goal.returns-clause-writes
returns-clause-writes g c =
    let header = words_done (omega arith) (none_done g.R.Region.obeys_power _ _ c.requires.closed) c.in_ok-write_words.ensures.written in
    let both = words_done (omega arith) header c.in_ok-write_payload.ensures.written in
    slot_written tt both c.in_ok-persist.ensures.ok c.persist.ensures.asks c.in_ok-persist.ensures.asked
