-- Slots and tags of devices, by the words that a survey saw of them.
use Rattle.std.proofs.Common.{◌≡◌, ◌∙◌, ℕ, ◌+◌, ◌-◌, ◌<◌, List, [], get_or, length}
use Rattle.std.proofs.Common.{map, take, arith, sym, ap, ap₂, if◌then◌else◌}
use Rattle.std.specs.Prelude.{◌==◌, ◌&&◌, ◌%◌, ◌/◌, ◌^◌, not, Bool}
use Rattle.std.proofs.Math.ListN.{get_or-map}
use Rattle.std.proofs.lemmas.List.{get_or-drop, get_or-take, length-drop, length-map}
use Rattle.cfs_block.specs.BlockImages.{BlockStep, Content, content_of}
use Rattle.cfs_pmem.specs.Images.{Seen, WordStep, words_of}
use Rattle.cfs_slot.specs.Words.{count_of, gate_of, ino_of, is_live, kind_of, mark_of, offset_of}
use Rattle.cfs_slot.specs.Words.{tails_of}
use Rattle.cfs_medium.specs.Depicts.{content_at}
use Rattle.cfs_replay.specs.Pieces.{tags_in}
use Rattle.cfs_replay.specs.Reading.{slots_in, words_at}
use Rattle.cfs_survey.specs.Surveys.{Words}
use Rattle.cfs_plan.specs.Readings.{AreReadOf}

-- The first six words of two slots are the same.
pub record AreHeadOf (head words : List ℕ) : Type 0 where
  pub word : (k : ℕ) → k < 6 → get_or head k 0 ≡ get_or words k 0

-- what is told by these six words is the same
pub gate-same : (head words : List ℕ) → AreHeadOf head words → gate_of head ≡ gate_of words
gate-same head words same = same.word 0 (omega arith)

pub mark-same : (head words : List ℕ) → AreHeadOf head words → mark_of head ≡ mark_of words
mark-same head words same = same.word 1 (omega arith)

pub ino-same : (head words : List ℕ) → AreHeadOf head words → ino_of head ≡ ino_of words
ino-same head words same = same.word 2 (omega arith)

pub offset-same : (head words : List ℕ) → AreHeadOf head words → offset_of head ≡ offset_of words
offset-same head words same = same.word 3 (omega arith)

pub kind-same : (head words : List ℕ) → AreHeadOf head words → kind_of head ≡ kind_of words
kind-same head words same = ap (λ (n : ℕ). n % 2 ^ 32 / 65536) (same.word 4 (omega arith))

pub count-same : (head words : List ℕ) → AreHeadOf head words → count_of head ≡ count_of words
count-same head words same =
    ap (λ (n : ℕ). if n % 2 ^ 32 / 65536 == 3 then n % 65536 + 1 else n % 65536)
    (same.word 4 (omega arith))

pub tails-same : (head words : List ℕ) → AreHeadOf head words → tails_of head ≡ tails_of words
tails-same head words same = ap (λ (n : ℕ). n / 2 ^ 32) (same.word 4 (omega arith))

pub live-same : (ino : ℕ) (head words : List ℕ) → AreHeadOf head words →
    is_live ino head ≡ is_live ino words
live-same ino head words same =
    ap₂ (λ (a b : Bool). a && b)
    (ap₂ (λ (g m : ℕ). not (g == 0) && not (m == 1)) (gate-same head words same)
    (mark-same head words same))
    (ap (λ (n : ℕ). n == ino) (ino-same head words same))

-- ---- the slots of devices that read these words

pub heads-read : (words : Words) (regions : List (Seen WordStep)) (blocks : List (Seen BlockStep)) →
    AreReadOf words regions blocks → (at : ℕ) →
    AreHeadOf (get_or words.slots at []) (get_or (slots_in regions) at [])
heads-read words regions blocks read at =
    let here : get_or words.slots at [] ≡ take 6 (get_or (slots_in regions) at []) =
    ap (λ slots. get_or slots at []) (sym read.slots)
    ∙ get_or-map (take 6) (slots_in regions) at [] in
    record {
      word = λ k below.
          ap (λ ws. get_or ws k 0) here
          ∙ get_or-take 6 (get_or (slots_in regions) at []) k 0 below;
    }

pub slots-many : (words : Words) (regions : List (Seen WordStep)) (blocks : List (Seen BlockStep)) →
    AreReadOf words regions blocks → length (slots_in regions) ≡ length words.slots
slots-many words regions blocks read =
    sym (length-map (slots_in regions) (take 6)) ∙ ap length read.slots

-- so many slots as regions have behind the front
pub regions-many : (words : Words) (regions : List (Seen WordStep))
    (blocks : List (Seen BlockStep)) → AreReadOf words regions blocks →
    length regions ≡ 323 + length words.slots
regions-many words regions blocks read =
    let slots = slots-many words regions blocks read in
    let dropped : length (slots_in regions) ≡ length regions - 323 =
    length-drop 323 (map words_of regions)
    ∙ ap (λ (n : ℕ). n - 323) (length-map regions words_of) in
    omega (arith, slots, dropped, read.many)

-- the words of a slot as a region's
pub slot-at : (regions : List (Seen WordStep)) (at : ℕ) →
    get_or (slots_in regions) at [] ≡ words_at regions (323 + at)
slot-at regions at =
    get_or-drop 323 (map words_of regions) at []
    ∙ get_or-map words_of regions (323 + at) record { device = 0; also = []; history = [] }

-- ---- tags

pub tag-at : (blocks : List (Seen BlockStep)) (at : ℕ) →
    get_or (tags_in blocks) at 0 ≡ (content_at (map content_of blocks) at).tag
tag-at blocks at =
    get_or-map (λ (block : Seen BlockStep). (content_of block).tag) blocks at
    record { device = 0; also = []; history = [] }
    ∙ sym (ap (λ (c : Content). c.tag)
    (get_or-map content_of blocks at record { device = 0; also = []; history = [] }))

pub tag-read : (words : Words) (regions : List (Seen WordStep)) (blocks : List (Seen BlockStep)) →
    AreReadOf words regions blocks → (at : ℕ) →
    get_or words.tags at 0 ≡ (content_at (map content_of blocks) at).tag
tag-read words regions blocks read at =
    ap (λ tags. get_or tags at 0) (sym read.tags) ∙ tag-at blocks at

pub blocks-many : (words : Words) (regions : List (Seen WordStep))
    (blocks : List (Seen BlockStep)) → AreReadOf words regions blocks →
    length blocks ≡ length words.tags
blocks-many words regions blocks read =
    sym (length-map blocks (λ (block : Seen BlockStep). (content_of block).tag))
    ∙ ap length read.tags
