-- What the words of a sound image tell of its slots, its sizes and its blocks.
use Rattle.std.proofs.Common.{◌≡◌, ◌∙◌, ℕ, ◌+◌, ◌*◌, ◌<◌, List, length, get_or, ap, arith}
use Rattle.cfs_fsck.specs.Images.{image_words, tags_at, words_at}
use Rattle.cfs_image.specs.Checks.{IsSound}
use Rattle.cfs_image.specs.Image.{word_at}
use Rattle.cfs_image.specs.Layout.{size_at}
use Rattle.cfs_image.proofs.Headers.{IsHeaded, headed}
use Rattle.cfs_survey.specs.Surveys.{Words}
use Rattle.cfs_dump.specs.Reads.{HasSlots, heads_in}
use Rattle.cfs_dump.proofs.Areas.{get_or-words_at, length-heads, length-words_at}

pub has_slots : (bytes : List ℕ) → IsSound bytes → HasSlots bytes
has_slots bytes sound =
    let head : IsHeaded bytes = headed bytes sound in
    record { few = head.most_queues; within = omega (arith, head.size) }

pub slots-told : (bytes : List ℕ) (words : Words) → words ≡ image_words bytes →
    words.slots ≡ heads_in bytes
unfolding image_words heads_in
slots-told bytes words are = ap (λ (ws : Words). ws.slots) are

pub sizes-told : (bytes : List ℕ) (words : Words) → words ≡ image_words bytes →
    words.sizes ≡ words_at bytes (size_at 0) 256
unfolding image_words
sizes-told bytes words are = ap (λ (ws : Words). ws.sizes) are

pub tags-told : (bytes : List ℕ) (words : Words) → words ≡ image_words bytes →
    words.tags ≡ tags_at bytes (word_at bytes 24) (word_at bytes 16)
unfolding image_words
tags-told bytes words are = ap (λ (ws : Words). ws.tags) are

pub queues-told : (bytes : List ℕ) (words : Words) → words ≡ image_words bytes →
    length words.slots ≡ 16 * word_at bytes 24
queues-told bytes words are =
    ap (λ (slots : List (List ℕ)). length slots) (slots-told bytes words are)
    ∙ length-heads bytes

pub many-sizes : (bytes : List ℕ) (words : Words) → words ≡ image_words bytes →
    length words.sizes ≡ 256
many-sizes bytes words are =
    ap (λ (sizes : List ℕ). length sizes) (sizes-told bytes words are)
    ∙ length-words_at bytes (size_at 0) 256

pub size-told : (bytes : List ℕ) (words : Words) (number : ℕ) → words ≡ image_words bytes →
    number < 256 → get_or words.sizes number 0 ≡ word_at bytes (size_at number)
size-told bytes words number are less =
    ap (λ (sizes : List ℕ). get_or sizes number 0) (sizes-told bytes words are)
    ∙ (get_or-words_at bytes (size_at 0) 256 number less
    ∙ (let same : size_at 0 + 8 * number ≡ size_at number = omega arith in
    ap (λ (at : ℕ). word_at bytes at) same))
