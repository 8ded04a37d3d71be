-- How the nodes are kept: each by its inode number, beside the inode number of the node
-- of each record.
use Rattle.std.specs.Prelude.{◌≡◌, ◌≢◌, ℕ, suc, List, [], ◌∷◌, Option, None, Some, IsSomeAnd, length, map, nat_eq}
use Rattle.std.specs.HashMap.{get, HashMap}
use Rattle.std.specs.declared.hash.FoldHasher.{FoldHasher}
use Rattle.std.specs.declared.hash.BuildHasherDefault.{BuildHasherDefault}
use Rattle.cfs_dir.specs.declared.node.Node.{Node}

abbrev pub NodeMap : Type 0
NodeMap = HashMap ℕ Node (BuildHasherDefault FoldHasher)

-- the node of a record that has this inode number, or none
abbrev pub slot_of : NodeMap → Option ℕ → Option Node
slot_of by_number None = None
slot_of by_number (Some number) = get nat_eq by_number number

-- the node of each record
abbrev pub slots_of : NodeMap → List (Option ℕ) → List (Option Node)
slots_of by_number numbers = map (slot_of by_number) numbers

-- the inode number of a record finds a node that has that number and that record
abbrev pub FindsOwn : NodeMap → ℕ → Option ℕ → Type 0
FindsOwn by_number rec None = Unit {0}
FindsOwn by_number rec (Some number) =
    IsSomeAnd (get nat_eq by_number number) (λ node. (node.ino ≡ number) × (node.rec ≡ rec))

-- each record's inode number finds its node, where the first is that of record `first`
abbrev pub AreNumbered : NodeMap → ℕ → List (Option ℕ) → Type 0
AreNumbered by_number first [] = Unit {0}
AreNumbered by_number first (number ∷ numbers) =
    FindsOwn by_number first number × AreNumbered by_number (suc first) numbers

-- no record has this inode number
abbrev pub IsAbsent : ℕ → List (Option ℕ) → Type 0
IsAbsent key [] = Unit {0}
IsAbsent key (None ∷ numbers) = IsAbsent key numbers
IsAbsent key (Some number ∷ numbers) = (key ≢ number) × IsAbsent key numbers

-- the nodes of 256 records by their numbers, and no other node
pub record IsNumbered (by_number : NodeMap) (numbers : List (Option ℕ)) : Type 0 where
  pub size : length numbers ≡ 256
  pub numbered : AreNumbered by_number 0 numbers
  pub only : (number : ℕ) → IsAbsent number numbers → get nat_eq by_number number ≡ None
