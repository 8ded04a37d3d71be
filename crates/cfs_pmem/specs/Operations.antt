-- What a call of several steps does, as a list of operations: the table of its device steps as
-- data. Operations are
-- listed as steps are, the newest first.
use Rattle.std.specs.Prelude.{ℕ, ◌<◌, ◌≡◌, Bool, true, false, List, [], ◌∷◌, ◌++◌, length, drop, Result, OnOk, OnErr}
use Rattle.cfs_pmem.specs.declared.trace.Asked.{Asked}
use Rattle.cfs_pmem.specs.declared.trace.Asked.TheVariants.{Step}

-- the step that an operation asks for
pub record Ask : Type 0 where
  pub device : ℕ
  pub writing : Bool

abbrev pub answered : Ask → Bool → Asked
answered ask allowed = Step ask.device ask.writing allowed

-- the state after all operations, where `done` says what is left behind each
abbrev pub after_all : {Op State : Type 0} → (Op → State → State) → List Op → State → State
after_all done [] state = state
after_all done (op ∷ before) state = done op (after_all done before state)

-- all operations but the newest were done, which failed
abbrev pub LastFails : {Op State : Type 0} → (Op → State → State) → (Op → State → State → Type 0)
    → List Op → State → State → Type 0
LastFails done Fails [] old new = ⊥
LastFails done Fails (op ∷ before) old new = Fails op (after_all done before old) new

-- what they asked, where all was allowed, and where the newest was refused
abbrev pub all_allowed : {Op : Type 0} → (Op → Ask) → List Op → List Asked
all_allowed asks [] = []
all_allowed asks (op ∷ before) = answered (asks op) true ∷ all_allowed asks before

abbrev pub last_refused : {Op : Type 0} → (Op → Ask) → List Op → List Asked
last_refused asks [] = []
last_refused asks (op ∷ before) = answered (asks op) false ∷ all_allowed asks before

-- a front of the operations was done, and the next one failed; `left` were not come to
pub record StopsIn {Op State : Type 0} (done : Op → State → State)
    (Fails : Op → State → State → Type 0) (ops : List Op) (old new : State) : Type 0 where
  pub left : ℕ
  pub within : left < length ops
  pub state : LastFails done Fails (drop left ops) old new

pub record AllDone {Op State : Type 0} (asks : Op → Ask) (done : Op → State → State) (ops : List Op)
    (asked_old : List Asked) (old : State) (asked_new : List Asked) (new : State) : Type 0 where
  pub state : new ≡ after_all done ops old
  pub asked : asked_new ≡ all_allowed asks ops ++ asked_old

pub record FrontDone {Op State : Type 0} (asks : Op → Ask) (done : Op → State → State)
    (Fails : Op → State → State → Type 0) (ops : List Op)
    (asked_old : List Asked) (old : State) (asked_new : List Asked) (new : State) : Type 0 where
  pub left : ℕ
  pub within : left < length ops
  pub state : LastFails done Fails (drop left ops) old new
  pub asked : asked_new ≡ last_refused asks (drop left ops) ++ asked_old

-- The call does these operations: on Ok all were done and allowed; on Err a front of them was, and
-- the next was refused.
pub record Does {Op State T E : Type 0} (asks : Op → Ask) (done : Op → State → State)
    (Fails : Op → State → State → Type 0) (ops : List Op)
    (result : Result T E) (asked_old : List Asked) (old : State) (asked_new : List Asked)
    (new : State) : Type 0 where
  pub all : OnOk result (AllDone asks done ops asked_old old asked_new new)
  pub front : OnErr result (FrontDone asks done Fails ops asked_old old asked_new new)
