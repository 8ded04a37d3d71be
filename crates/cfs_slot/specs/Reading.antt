-- A slot whose words are read.
use Rattle.std.specs.Prelude.{ℕ, ◌≡◌, Bool, IsTrue, List, ◌++◌}
use Rattle.cfs_pmem.specs.declared.trace.Asked.{Asked}
use Rattle.cfs_pmem.specs.Images.{Seen, WordStep, IsImage}
use Rattle.cfs_pmem.specs.Moments.{Moments}
use Rattle.cfs_pmem.specs.Operations.{all_allowed}
use Rattle.cfs_pmem.specs.WordOps.{word_asks}
use Rattle.cfs_slot.specs.Operations.{gets}

-- The first k words were read, and nothing changed.
pub record HasRead (obeys_power : Bool) (k : ℕ) (asked_old : List Asked) (old : Seen WordStep)
    (asked_new : List Asked) (new : Seen WordStep) : Type 0 where
  pub same : new ≡ old
  pub asked : IsTrue obeys_power →
      asked_new ≡ all_allowed (word_asks old.device) (gets k) ++ asked_old
  pub moments : Moments IsImage (IsImage old.history) asked_old old asked_new new
