-- What the journal's regions hold at each moment, and what a walk finds in their images.
use Rattle.std.specs.Prelude.{◌≡◌, ◌≢◌, ◌⊎◌, ℕ, zero, suc, ◌+◌, ◌-◌, ◌%◌, ◌<◌, ◌≤◌, ◌^◌, ◌==◌, if◌then◌else◌, List, [], ◌∷◌, ◌++◌, length, drop, map, get_or, replicate, slice_get, Option, Some, None}
use Rattle.std.specs.Option.{option_map}
use Rattle.cfs_dir.specs.declared.change.Change.{Change}
use Rattle.cfs_dir.specs.Change.{IsTellable}
use Rattle.cfs_pmem.specs.AllMoments.{AreDistinct}
use Rattle.cfs_pmem.specs.Images.{Seen, WordStep, words_of, AllImages}
use Rattle.cfs_pmem.specs.Objects.{seen_at, all_devices}
use Rattle.cfs_journal.specs.Records.{Tells, change_of, gate_of, record_words}

-- ---- what an image says

-- From a number on, the records whose gates go on with it, at most n of them: record s stands at
-- the position (s - 1) mod 64.
unfoldable pub walk : ℕ → ℕ → List (List ℕ) → List (List ℕ)
walk zero through images = []
walk (suc n) through images =
    let record_here : List ℕ = get_or images (through % 64) [] in
    if gate_of record_here == suc through then record_here ∷ walk n (suc through) images else []

-- the changes above a number
abbrev pub changes_above : ℕ → List (List ℕ) → List Change
changes_above through images = map change_of (walk 64 through images)

-- ---- what the regions hold

-- the position of the record that stands k behind a number
abbrev pub place : ℕ → ℕ → ℕ
place through k = (through + k) % 64

-- no record is here above a number, and the gate, if there is one, belongs here
pub record IsSpent (through position : ℕ) (image : List ℕ) : Type 0 where
  pub low : gate_of image ≤ through
  pub placed : gate_of image ≢ 0 → (gate_of image - 1) % 64 ≡ position

-- the record with this number is not here, or it is that of the change in doubt
pub record IsNext (through number position : ℕ) (doubt : Option Change)
    (image : List ℕ) : Type 0 where
  pub opened : gate_of image ≡ number → Some image ≡ option_map (record_words number) doubt
  pub shut : gate_of image ≢ number → IsSpent through position image

-- The regions hold these changes behind the number `through`, and perhaps one more, which is in
-- doubt.
pub record Standing (through : ℕ) (changes : List Change) (doubt : Option Change)
    (seens : List (Seen WordStep)) : Type 0 where
  pub size : length seens ≡ 64
  pub few : length changes ≤ 64
  pub low : through < 2 ^ 63
  pub room_for_doubt : doubt ≢ None → length changes < 64
  pub words : (position : ℕ) → position < 64 → length (words_of (seen_at seens position)) ≡ 16
  pub distinct : AreDistinct (all_devices seens)
  pub told_doubt : (change : Change) → doubt ≡ Some change → IsTellable change
  -- the records of the changes tell them in every image
  pub live : (k : ℕ) (change : Change) → slice_get changes k ≡ Some change →
      AllImages (seen_at seens (place through k)) (Tells (through + k + 1) change)
  -- the next one is there only with the change in doubt
  pub next : length changes < 64 →
      AllImages (seen_at seens (place through (length changes)))
      (IsNext through (through + length changes + 1) (place through (length changes)) doubt)
  -- and no other record is there
  pub spent : (k : ℕ) → length changes < k → k < 64 →
      AllImages (seen_at seens (place through k)) (IsSpent through (place through k))

-- Above each number from `through` on, a walk finds the changes from there on, or these and the
-- one in doubt.
pub record Gives (through : ℕ) (changes : List Change) (doubt : Option Change)
    (images : List (List ℕ)) : Type 0 where
  pub above : (number : ℕ) → through ≤ number → number ≤ through + length changes →
      (changes_above number images ≡ drop (number - through) changes)
      ⊎ ((change : Change) × (doubt ≡ Some change)
      × (changes_above number images ≡ drop (number - through) changes ++ change ∷ []))

-- the same with one or the other change in doubt
abbrev pub GivesEither : ℕ → List Change → Option Change → Option Change → List (List ℕ) → Type 0
GivesEither through changes one other images =
    Gives through changes one images ⊎ Gives through changes other images

-- 64 regions of zeros, as a new store has them
pub record AreBlank (seens : List (Seen WordStep)) : Type 0 where
  pub size : length seens ≡ 64
  pub distinct : AreDistinct (all_devices seens)
  pub zero : (position : ℕ) → position < 64 →
      AllImages (seen_at seens position) (λ image. image ≡ replicate 16 0)
