-- What a region holds, and what a crash may leave of it, as definitions over the history of its
-- writing steps.
use Rattle.std.specs.Prelude.{ℕ, ◌+◌, ◌-◌, ◌<◌, ◌≤◌, ◌≡◌, ◌⊎◌, List, [], ◌∷◌, ◌++◌, length, take, drop}
use Rattle.std.proofs.Math.ListN.{get_or, set}

-- One writing step, with the words after it: a persist that succeeded, or any other step, failed
-- ones included.
pub data WordStep : Type 0 where
  changed : List ℕ → WordStep
  persisted : List ℕ → WordStep

-- A device: its number, and its writing steps so far, the newest first. The oldest entry is what it
-- came with.
-- The length of the history is its clock, and n writing steps ago the history was `drop n`.
-- `also` are the numbers of further devices that its calls make steps on, as those of a mirror; in
-- memory there are none.
pub record Seen (Form : Type 0) : Type 0 where
  pub device : ℕ
  pub also : List ℕ
  pub history : List Form

-- the devices that its calls make steps on
abbrev pub devices_of : {Form : Type 0} → Seen Form → List ℕ
devices_of seen = seen.device ∷ seen.also

-- the device after one more writing step
abbrev pub stepped : {Form : Type 0} → Form → Seen Form → Seen Form
stepped step seen = record { device = seen.device; also = seen.also; history = step ∷ seen.history }

-- the words after the newest step, which a read returns
abbrev pub words_now : List WordStep → List ℕ
words_now [] = []
words_now (changed words ∷ before) = words
words_now (persisted words ∷ before) = words

-- the words at the newest persist that succeeded
abbrev pub words_kept : List WordStep → List ℕ
words_kept [] = []
words_kept (changed words ∷ before) = words_kept before
words_kept (persisted words ∷ before) = words

abbrev pub words_of : Seen WordStep → List ℕ
words_of seen = words_now seen.history

-- a region that came with these words, which are all that a crash may leave
abbrev pub began : ℕ → List ℕ → Seen WordStep
began device words = record { device = device; also = []; history = persisted words ∷ [] }

-- the region after a write of a word, after a step that failed, and after a persist
abbrev pub wrote : ℕ → ℕ → Seen WordStep → Seen WordStep
wrote at word seen = stepped (changed (set (words_of seen) at word)) seen

abbrev pub failed : Seen WordStep → Seen WordStep
failed seen = stepped (changed (words_of seen)) seen

abbrev pub kept : Seen WordStep → Seen WordStep
kept seen = stepped (persisted (words_of seen)) seen

-- since the newest persist that succeeded, word k held v
abbrev pub HasHeld : List WordStep → ℕ → ℕ → Type 0
HasHeld [] k v = ⊥
HasHeld (persisted words ∷ before) k v = v ≡ get_or words k 0
HasHeld (changed words ∷ before) k v = (v ≡ get_or words k 0) ⊎ HasHeld before k v

-- What a crash may leave: in each word, by itself, one of the values that it held since the newest
-- persist that succeeded.
pub record IsImage (history : List WordStep) (image : List ℕ) : Type 0 where
  pub size : length image ≡ length (words_now history)
  pub held : (k : ℕ) → k < length image → HasHeld history k (get_or image k 0)

-- P holds of each image
abbrev pub AllImages : Seen WordStep → (List ℕ → Type 0) → Type 0
AllImages seen P = (image : List ℕ) → IsImage seen.history image → P image

-- the words now are the only image
abbrev pub IsSure : Seen WordStep → Type 0
IsSure seen = AllImages seen (λ image. image ≡ words_of seen)

-- an image of that region, or one with this word set
pub record IsSetFrom (seen : Seen WordStep) (at word : ℕ) (image : List ℕ) : Type 0 where
  pub first : List ℕ
  pub possible : IsImage seen.history first
  pub same : (image ≡ first) ⊎ (image ≡ set first at word)

-- an image of that region, or one with some of these words set, which stand from a place on
pub record IsSetWithin (seen : Seen WordStep) (from : ℕ) (words image : List ℕ) : Type 0 where
  pub first : List ℕ
  pub possible : IsImage seen.history first
  pub size : length image ≡ length first
  pub each : (k : ℕ) → k < length image → (get_or image k 0 ≡ get_or first k 0) ⊎
      ((from ≤ k) × (k < from + length words) × (get_or image k 0 ≡ get_or words (k - from) 0))

-- those words with others written over them from a place on
abbrev pub patched : List ℕ → ℕ → List ℕ → List ℕ
patched words from new = take from words ++ (new ++ drop (from + length new) words)

-- A region in memory, as contracts see it.
pub record MemoryRegion : Type 0 where
  pub seen : Seen WordStep
  pub faults : ℕ
