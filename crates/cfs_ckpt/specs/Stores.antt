-- The steps of a store, in order, and what a failure leaves.
use Rattle.std.specs.Prelude.{ℕ, suc, ◌≡◌, ◌+◌, ◌-◌, ◌*◌, ◌%◌, ◌==◌, Bool, true, false, List, [], ◌∷◌, ◌++◌, length, drop, Result, OnOk, OnErr}
use Rattle.cfs_dir.specs.Namespace.{Namespace}
use Rattle.cfs_dir.specs.Words.{table_words}
use Rattle.cfs_pmem.specs.declared.trace.Asked.{Asked}
use Rattle.cfs_pmem.specs.Images.{Seen, WordStep}
use Rattle.cfs_pmem.specs.Operations.{AllDone, FrontDone}
use Rattle.cfs_pmem.specs.WordOps.{persist, set_ops}
use Rattle.cfs_ckpt.specs.Placed.{PlacedOp, PlacedFails, at_place, numbers_of, placed_asks, placed_done}
use Rattle.cfs_ckpt.specs.Tables.{table_ops}

-- the copy that a word does not select
abbrev pub free_copy : ℕ → ℕ
free_copy word = 1 - word % 2

-- the word that selects a copy, as the tree after a number of changes
abbrev pub word_for : ℕ → ℕ → ℕ
word_for through copy = through * 2 + copy

-- the selector is at place 0, and the copies are behind it

-- a selector in doubt is persisted as it now stands
abbrev pub settle_ops : Bool → List PlacedOp
settle_ops true = at_place 0 (persist ∷ [])
settle_ops false = []

abbrev pub put_ops : ℕ → Namespace → List PlacedOp
put_ops copy tree = at_place (suc copy) (table_ops (table_words tree))

abbrev pub select_ops : ℕ → List PlacedOp
select_ops word = at_place 0 (set_ops 0 word)

-- all steps, the newest first
abbrev pub store_ops : Bool → ℕ → Namespace → ℕ → List PlacedOp
store_ops unsure word tree through =
    select_ops (word_for through (free_copy word))
    ++ (put_ops (free_copy word) tree ++ settle_ops unsure)

-- the newest of these steps is one on the selector
abbrev pub is_at_selector : List PlacedOp → Bool
is_at_selector [] = false
is_at_selector (placed ∷ before) = placed.place == 0

-- A front of these steps was done, and the next one failed. The selector is in doubt exactly where
-- that one was on it.
pub record StopsAt (ops : List PlacedOp) (unsure : Bool) (asked_old : List Asked)
    (old : List (Seen WordStep)) (asked_new : List Asked)
    (new : List (Seen WordStep)) : Type 0 where
  pub front : FrontDone (placed_asks (numbers_of old)) placed_done PlacedFails ops
      asked_old old asked_new new
  pub doubt : unsure ≡ is_at_selector (drop front.left ops)

-- A call makes these steps, in this order.
pub record Stores {T E : Type 0} (ops : List PlacedOp) (unsure : Bool) (result : Result T E)
    (asked_old : List Asked) (old : List (Seen WordStep)) (asked_new : List Asked)
    (new : List (Seen WordStep)) : Type 0 where
  pub ok : OnOk result
      (AllDone (placed_asks (numbers_of old)) placed_done ops asked_old old asked_new new)
  pub err : OnErr result (StopsAt ops unsure asked_old old asked_new new)

-- How many steps these are: one more where the selector is in doubt.
abbrev pub StoresTakeSteps : Type 0
StoresTakeSteps = (word : ℕ) (tree : Namespace) (through : ℕ) →
    (length (store_ops false word tree through) ≡ 3076)
    × (length (store_ops true word tree through) ≡ 3077)
