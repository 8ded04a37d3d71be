-- Operations on the regions of a list, each on one of them.
use Rattle.std.specs.Prelude.{ℕ, ◌≡◌, List, map, Result}
use Rattle.std.proofs.Math.ListN.{get_or, set}
use Rattle.cfs_pmem.specs.declared.trace.Asked.{Asked}
use Rattle.cfs_pmem.specs.Images.{Seen, WordStep}
use Rattle.cfs_pmem.specs.Objects.{seen_at}
use Rattle.cfs_pmem.specs.Operations.{Ask, Does}
use Rattle.cfs_pmem.specs.WordOps.{WordOp, word_done, word_writes, WordFails}

-- an operation on the region at a place
pub record PlacedOp : Type 0 where
  pub place : ℕ
  pub op : WordOp

-- several on the same one
abbrev pub at_place : ℕ → List WordOp → List PlacedOp
at_place place ops = map (λ op. record { place = place; op = op }) ops

-- the device number of each region
abbrev pub numbers_of : List (Seen WordStep) → List ℕ
numbers_of seens = map (λ seen. seen.device) seens

abbrev pub placed_asks : List ℕ → PlacedOp → Ask
placed_asks numbers placed =
    record { device = get_or numbers placed.place 0; writing = word_writes placed.op }

-- the regions after an operation
abbrev pub placed_done : PlacedOp → List (Seen WordStep) → List (Seen WordStep)
placed_done placed seens =
    set seens placed.place (word_done placed.op (seen_at seens placed.place))

-- and after one that failed
abbrev pub PlacedFails : PlacedOp → List (Seen WordStep) → List (Seen WordStep) → Type 0
PlacedFails placed old new =
    WordFails placed.op (seen_at old placed.place) (seen_at new placed.place)
    × (new ≡ set old placed.place (seen_at new placed.place))

-- a call does these operations on the regions
abbrev pub DoesPlaced : {T E : Type 0} → List PlacedOp → Result T E → List Asked
    → List (Seen WordStep) → List Asked → List (Seen WordStep) → Type 0
DoesPlaced ops result asked_old old asked_new new =
    Does (placed_asks (numbers_of old)) placed_done PlacedFails ops result
    asked_old old asked_new new
