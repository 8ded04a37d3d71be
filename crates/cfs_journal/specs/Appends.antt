-- What an append does to the region of the next record.
use Rattle.std.specs.Prelude.{ℕ, ◌≡◌, ◌⊎◌, List, [], ◌++◌, Option, Some, None, Result, OnOk, OnErr}
use Rattle.cfs_dir.specs.declared.change.Change.{Change}
use Rattle.cfs_journal.specs.Records.{record_ops}
use Rattle.cfs_pmem.specs.declared.trace.Asked.{Asked}
use Rattle.cfs_pmem.specs.Images.{Seen, WordStep}
use Rattle.cfs_pmem.specs.Operations.{AllDone, FrontDone}
use Rattle.cfs_pmem.specs.WordOps.{WordOp, set_ops, word_asks, word_done, WordFails}

-- the steps that close the gate of the record in doubt, if there is one
abbrev pub closing_ops : Option Change → List WordOp
closing_ops None = []
closing_ops (Some change) = set_ops 0 0

-- all of some operations were done, and then a front of others, of which the next failed
pub record StopsBehind (earlier later : List WordOp) (asked_old : List Asked) (old : Seen WordStep)
    (asked_new : List Asked) (new : Seen WordStep) : Type 0 where
  pub asked_between : List Asked
  pub between : Seen WordStep
  pub done : AllDone (word_asks old.device) word_done earlier asked_old old asked_between between
  pub front : FrontDone (word_asks between.device) word_done WordFails later
      asked_between between asked_new new

-- An append closes the gate of the record in doubt and then writes the next record. Where the first
-- fails, the same change is in doubt as before; where the second fails, the new one is.
pub record Appends {T E : Type 0} (number : ℕ) (change : Change) (doubt doubt_left : Option Change)
    (result : Result T E) (asked_old : List Asked) (old : Seen WordStep)
    (asked_new : List Asked) (new : Seen WordStep) : Type 0 where
  pub ok : OnOk result (AllDone (word_asks old.device) word_done
      (record_ops number change ++ closing_ops doubt) asked_old old asked_new new)
  pub err : OnErr result
      (((doubt_left ≡ doubt) × FrontDone (word_asks old.device) word_done WordFails
      (closing_ops doubt) asked_old old asked_new new)
      ⊎ ((doubt_left ≡ Some change)
      × StopsBehind (closing_ops doubt) (record_ops number change) asked_old old asked_new new))
