use Rattle.std.proofs.Common.{◌≡◌, ◌∙◌, ◌+◌, ◌*◌, ℕ, ap, arith, subst, sym}
use Rattle.cfs_image.specs.Image.{word_at}
use Rattle.cfs_image.specs.Layout.{slot_at}
use Rattle.cfs_image.proofs.Headers.{IsHeaded, headed}
use Rattle.cfs_survey.specs.Surveys.{AreWhole, selected_at}
use Rattle.cfs_fsck.specs.Images.{image_words, rows_at, tags_at, words_at}
use Rattle.cfs_fsck.proofs.Reading.{put_together, whole_of}
use Rattle.cfs_fsck.proofs.words.read_words.Goals as goal

pub read_rows-requires : goal.read_rows-requires
read_rows-requires c =
    let head : IsHeaded c.args.bytes.now = headed c.args.bytes.now c.requires.sound in
    (omega arith, (omega arith, omega arith))

pub read_column-requires : goal.read_column-requires
read_column-requires c =
    let head : IsHeaded c.args.bytes.now = headed c.args.bytes.now c.requires.sound in
    omega arith

pub read_rows-requires-2 : goal.read_rows-requires-2
read_rows-requires-2 c =
    let head : IsHeaded c.args.bytes.now = headed c.args.bytes.now c.requires.sound in
    let size : 8 * c.region_words-2.result * (16 * c.args.size.queues)
    ≡ 4144 * (16 * c.args.size.queues) =
    ap (λ (words : ℕ). 8 * words * (16 * c.args.size.queues)) c.region_words-2.ensures in
    (omega arith, (omega arith, omega arith))

pub read_tags-requires-clause-within : goal.read_tags-requires-clause-within
read_tags-requires-clause-within c =
    let head : IsHeaded c.args.bytes.now = headed c.args.bytes.now c.requires.sound in
    omega arith

pub returns-clause-words : goal.returns-clause-words
unfolding image_words
returns-clause-words c =
    let bytes = c.args.bytes.now in
    let selector : c.word_at-selector.result ≡ word_at bytes 32 =
    c.word_at-selector.ensures ∙ ap (λ (at : ℕ). word_at bytes at) c.region_at.ensures in
    put_together _ _ _ _ _ _ _ _ _ _ _ _ selector
    (c.in_ok-read_table.ensures ∙ ap (λ (word : ℕ). words_at bytes (selected_at word) 3073) selector)
    (c.in_ok-read_rows.ensures
    ∙ ap (λ (first : ℕ). rows_at bytes (λ k. first + 8 * c.region_words.result * k) 16 64)
    c.region_at-2.ensures
    ∙ ap (λ (size : ℕ). rows_at bytes (λ k. 49208 + 8 * size * k) 16 64) c.region_words.ensures)
    (c.in_ok-read_column.ensures ∙ ap (λ (at : ℕ). words_at bytes at 256) c.region_at-3.ensures)
    (c.in_ok-read_rows-2.ensures
    ∙ ap (λ (first : ℕ). rows_at bytes (λ k. first + 8 * c.region_words-2.result * k) 6
    (16 * c.args.size.queues)) c.region_at-4.ensures
    ∙ ap (λ (size : ℕ). rows_at bytes (λ k. 59448 + 8 * size * k) 6 (16 * c.args.size.queues))
    c.region_words-2.ensures
    ∙ ap (λ (queues : ℕ). rows_at bytes slot_at 6 (16 * queues)) c.requires.queues)
    (c.in_ok-read_tags.ensures
    ∙ ap (λ (queues : ℕ). tags_at bytes queues c.args.size.blocks) c.requires.queues
    ∙ ap (λ (blocks : ℕ). tags_at bytes (word_at bytes 24) blocks) c.requires.blocks)

pub returns-clause-whole : goal.returns-clause-whole
returns-clause-whole c =
    subst AreWhole (sym (returns-clause-words c))
    (whole_of c.args.bytes.now (headed c.args.bytes.now c.requires.sound))
