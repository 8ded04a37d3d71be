-- A record of the journal in words.
use Rattle.std.specs.Prelude.{ℕ, ◌≡◌, ◌⊎◌, Bool, IsTrue, List, ◌∷◌, ◌++◌, length, drop, get_or, Result, OnOk}
use Rattle.cfs_dir.specs.declared.change.Change.{Change}
use Rattle.cfs_dir.specs.Words.{change_in, change_words}
use Rattle.cfs_pmem.specs.declared.trace.Asked.{Asked}
use Rattle.cfs_pmem.specs.Images.{Seen, WordStep, words_of, IsImage, IsSure}
use Rattle.cfs_pmem.specs.Moments.{Moments}
use Rattle.cfs_pmem.specs.WordOps.{WordOp, persist, puts, set_ops, DoesWords}

-- the gate, and behind it the words of a change
abbrev pub record_words : ℕ → Change → List ℕ
record_words number change = number ∷ change_words change

abbrev pub gate_of : List ℕ → ℕ
gate_of words = get_or words 0 0

abbrev pub change_of : List ℕ → Change
change_of words = change_in (drop 1 words)

-- a record that tells this change under this number, whatever words it has that tell nothing
pub record Tells (number : ℕ) (change : Change) (words : List ℕ) : Type 0 where
  pub gate : gate_of words ≡ number
  pub told : change_of words ≡ change

-- the eighteen steps of a record, the newest first: words 1 to 15, a persist, the gate, a persist
abbrev pub record_ops : ℕ → Change → List WordOp
record_ops number change =
    set_ops 0 number ++ (persist ∷ puts 1 (change_words change) (length (change_words change)))

-- the gate is that of an image that the region had
pub record HasGateOf (seen : Seen WordStep) (image : List ℕ) : Type 0 where
  pub first : List ℕ
  pub possible : IsImage seen.history first
  pub size : length image ≡ length first
  pub gate : gate_of image ≡ gate_of first

-- the gate is one that the region had, or the record stands whole
abbrev pub IsRecordFrom : Seen WordStep → ℕ → Change → List ℕ → Type 0
IsRecordFrom seen number change image = HasGateOf seen image ⊎ (image ≡ record_words number change)

-- A call writes a record.
pub record WritesRecord {T E : Type 0} (obeys_power : Bool) (number : ℕ) (change : Change)
    (result : Result T E) (asked_old : List Asked) (old : Seen WordStep)
    (asked_new : List Asked) (new : Seen WordStep) : Type 0 where
  pub ok : OnOk result (words_of new ≡ record_words number change)
  pub sure : OnOk result (IsSure new)
  pub size : length (words_of new) ≡ 16
  pub does : IsTrue obeys_power →
      DoesWords (record_ops number change) result asked_old old asked_new new
  -- at each moment the gate is one from before the call, or the record stands whole
  pub moments : Moments IsImage (IsRecordFrom old number change) asked_old old asked_new new
