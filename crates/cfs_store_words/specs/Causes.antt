-- What the counts of devices' faults tell of a call that also takes memory.
use Rattle.std.specs.Prelude.{ℕ, ◌≡◌, List, Result, IfErr, OnOk}
use Rattle.cfs_slot.specs.Payload.{NoneFell, SomeRose}
use Rattle.cfs_store_words.specs.declared.read_failed.ReadFailed.{ReadFailed}
use Rattle.cfs_store_words.specs.declared.read_failed.ReadFailed.TheVariants.{Failed, NoMemory}

-- No count fell, and all are as before on Ok. `Caused` says of an error what the counts before and
-- now have to do with it.
pub record TellsCause {T E : Type 0} (Caused : List ℕ → List ℕ → E → Type 0)
    (befores nows : List ℕ) (result : Result T E) : Type 0 where
  pub later : NoneFell befores nows
  pub failed : IfErr result (Caused befores nows)
  pub passed : OnOk result (nows ≡ befores)

-- one rose where a device failed, and all are as before where memory lacked
abbrev pub ReadCaused : List ℕ → List ℕ → ReadFailed → Type 0
ReadCaused befores nows (Failed fault) = SomeRose befores nows
ReadCaused befores nows NoMemory = nows ≡ befores
