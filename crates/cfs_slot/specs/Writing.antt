-- A slot that is written behind its closed gate.
use Rattle.std.specs.Prelude.{ℕ, ◌≡◌, Bool, IsTrue, List, ◌++◌, length, Result, OnOk, OnErr}
use Rattle.std.proofs.Math.ListN.{get_or}
use Rattle.cfs_pmem.specs.declared.trace.Asked.{Asked}
use Rattle.cfs_pmem.specs.Images.{Seen, WordStep, words_of, IsImage, IsSure}
use Rattle.cfs_pmem.specs.Moments.{Moments}
use Rattle.cfs_pmem.specs.Operations.{after_all, all_allowed}
use Rattle.cfs_pmem.specs.WordOps.{WordOp, word_asks, word_done, DoesWords, WordsStopIn}
use Rattle.cfs_slot.specs.Staging.{HoldsPayload}
use Rattle.cfs_slot.specs.Words.{gate_of, mark_of, ino_of, offset_of, grant_of, IsClosed}

-- A call writes a slot by these operations, the last of which persists it.
pub record WritesSlot {T E : Type 0} (obeys_power : Bool) (ops : List WordOp) (result : Result T E)
    (asked_old : List Asked) (old : Seen WordStep)
    (asked_new : List Asked) (new : Seen WordStep) : Type 0 where
  pub ok : OnOk result (new ≡ after_all word_done ops old)
  -- what was written stands in every image
  pub sure : OnOk result (IsSure new)
  -- it stopped at one of them, which failed
  pub stopped : OnErr result (WordsStopIn ops old new)
  pub size : length (words_of new) ≡ length (words_of old)
  pub does : IsTrue obeys_power → DoesWords ops result asked_old old asked_new new
  -- at each moment the gate is closed in every image
  pub moments : Moments IsImage IsClosed asked_old old asked_new new

-- These operations were all done, and at each moment of them the gate is closed in every image.
pub record HasDone (obeys_power : Bool) (ops : List WordOp)
    (asked_old : List Asked) (old : Seen WordStep)
    (asked_new : List Asked) (new : Seen WordStep) : Type 0 where
  pub state : new ≡ after_all word_done ops old
  pub asked : IsTrue obeys_power → asked_new ≡ all_allowed (word_asks old.device) ops ++ asked_old
  pub size : length (words_of new) ≡ length (words_of old)
  pub moments : Moments IsImage IsClosed asked_old old asked_new new

-- What stands in a slot that was written: word 4 is the kind's.
pub record HoldsFields (ino offset kind grant : ℕ) (payload words : List ℕ) : Type 0 where
  pub gate_is : gate_of words ≡ 0
  pub mark_is : mark_of words ≡ 0
  pub ino_is : ino_of words ≡ ino
  pub offset_is : offset_of words ≡ offset
  pub kind_is : get_or words 4 0 ≡ kind
  pub grant_is : grant_of words ≡ grant
  pub payload_is : HoldsPayload payload words
