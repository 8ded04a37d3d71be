-- What a write, a new length and a read mean, position by position.
use Rattle.std.specs.Prelude.{◌≡◌, ◌⊎◌, ℕ, ◌+◌, ◌-◌, ◌<◌, ◌≤◌, List, length, min, max, slice_index}

-- the bytes stand at the offset, what they do not cover stays, and a gap before them reads as zero
pub record Writes (old new : List ℕ) (offset : ℕ) (bytes : List ℕ) : Type 0 where
  pub size : length new ≡ max (length old) (offset + length bytes)
  pub written : (k : ℕ) → k < length bytes → slice_index new (offset + k) ≡ slice_index bytes k
  pub kept : (k : ℕ) → k < length old → (k < offset) ⊎ (offset + length bytes ≤ k) →
      slice_index new k ≡ slice_index old k
  pub gap : (k : ℕ) → length old ≤ k → k < offset → slice_index new k ≡ 0

-- the file has that length; what it had below it stays, and what came with it is zero
pub record Resizes (old new : List ℕ) (size : ℕ) : Type 0 where
  pub is_size : length new ≡ size
  pub kept : (k : ℕ) → k < size → k < length old → slice_index new k ≡ slice_index old k
  pub grown : (k : ℕ) → k < size → length old ≤ k → slice_index new k ≡ 0

-- the bytes that the file has from the offset on, at most so many
pub record Reads (file : List ℕ) (offset count : ℕ) (bytes : List ℕ) : Type 0 where
  pub size : length bytes ≡ min count (length file - offset)
  pub read : (k : ℕ) → k < length bytes → slice_index bytes k ≡ slice_index file (offset + k)
