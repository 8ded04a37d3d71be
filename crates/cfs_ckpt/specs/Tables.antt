-- What a write of a whole table does to the region of one copy.
use Rattle.std.specs.Prelude.{ℕ, ◌≡◌, Bool, IsTrue, List, ◌∷◌, length, Result, OnOk}
use Rattle.cfs_pmem.specs.declared.trace.Asked.{Asked}
use Rattle.cfs_pmem.specs.Images.{Seen, WordStep, words_of, IsImage, IsSure}
use Rattle.cfs_pmem.specs.Moments.{Moments}
use Rattle.cfs_pmem.specs.WordOps.{WordOp, persist, puts, DoesWords}

-- the steps, the newest first: each word in order, and a persist
abbrev pub table_ops : List ℕ → List WordOp
table_ops words = persist ∷ puts 0 words (length words)

-- whatever the image is
abbrev pub IsAny : List ℕ → Type 0
IsAny image = Unit {0}

-- A call writes these words over all words of a region. While it runs an image may be any mixture.
pub record WritesTable {T E : Type 0} (obeys_power : Bool) (words : List ℕ) (result : Result T E)
    (asked_old : List Asked) (old : Seen WordStep)
    (asked_new : List Asked) (new : Seen WordStep) : Type 0 where
  pub ok : OnOk result (words_of new ≡ words)
  pub sure : OnOk result (IsSure new)
  pub size : length (words_of new) ≡ length (words_of old)
  pub does : IsTrue obeys_power → DoesWords (table_ops words) result asked_old old asked_new new
  pub moments : Moments IsImage IsAny asked_old old asked_new new
