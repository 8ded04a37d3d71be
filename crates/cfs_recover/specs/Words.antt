-- The first words of regions.
use Rattle.std.specs.Prelude.{ℕ, ◌<◌, List, length, map, set}
use Rattle.cfs_pmem.specs.Images.{Seen, WordStep, kept, words_of, wrote}
use Rattle.cfs_pmem.specs.Objects.{seen_at}

-- each region has a word
abbrev pub HaveFirstWords : List (Seen WordStep) → Type 0
HaveFirstWords regions =
    (k : ℕ) → k < length regions → 0 < length (words_of (seen_at regions k))

-- how many words each region has
abbrev pub lengths_of : List (Seen WordStep) → List ℕ
lengths_of regions = map (λ region. length (words_of region)) regions

-- the first word of the region at a place is set and persisted
abbrev pub with_first : ℕ → ℕ → List (Seen WordStep) → List (Seen WordStep)
with_first place word regions = set regions place (kept (wrote 0 word (seen_at regions place)))
