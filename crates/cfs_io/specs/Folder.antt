-- What the steps of a folder do to its files, and what a cut may leave of them.
use Rattle.std.specs.Prelude.{◌≡◌, ◌≢◌, ◌⊎◌, ℕ, ◌==◌, ◌++◌, ◌<◌, ◌+◌, Bool, true, false, List, [], ◌∷◌, length, not, take, Some, None, ⊤, IfSome, IsSomeAnd}
use Rattle.std.specs.declared.option.Option.{Option}
use Rattle.std.specs.Option.{option_map}
use Rattle.std.specs.List.{list_any}
use Rattle.std.specs.FinMap.{get, insert, remove, retain_keys}
use Rattle.cfs_io.specs.Files.{Files, Finds, Misses, Saved}

-- what a cut may leave under each name: the bytes of a file, or no file
abbrev pub Remains : Type 1
Remains = List ℕ → Option (List ℕ) → Type 0

-- under this name a cut may leave no more than it might before
abbrev pub LeavesNoMoreAt : Remains → Remains → List ℕ → Type 0
LeavesNoMoreAt old new name = (left : Option (List ℕ)) → new name left → old name left

-- the same under every name
abbrev pub LeavesNoMore : Remains → Remains → Type 0
LeavesNoMore old new = (q : List ℕ) → LeavesNoMoreAt old new q

-- the same under every other name
abbrev pub OthersLeaveNoMore : Remains → Remains → List ℕ → Type 0
OthersLeaveNoMore old new name = (q : List ℕ) → q ≢ name → LeavesNoMoreAt old new q

-- the file of this name has these bytes now, and nothing else changed
abbrev pub Put : Option Files → Option Files → List ℕ → List ℕ → Type 0
Put old new name bytes = new ≡ option_map (λ m. insert m name bytes) old

-- a new file without bytes stands under this name, and nothing else changed
abbrev pub Made : Option Files → Option Files → List ℕ → Type 0
Made old new name = Misses old name × Put old new name []

-- the file of this name, which had no bytes, has these, and nothing else changed
abbrev pub Filled : Option Files → Option Files → List ℕ → List ℕ → Type 0
Filled old new name bytes = Finds old name [] → Put old new name bytes

-- the file under the one name is gone, and under the other stands one with these bytes
abbrev pub Replaced : Option Files → Option Files → List ℕ → List ℕ → List ℕ → Type 0
Replaced old new from to bytes = new ≡ option_map (λ m. insert (remove m from) to bytes) old

-- the file of the one name stands under the other, in place of one that was there, and
-- nothing else changed
abbrev pub Moved : Option Files → Option Files → List ℕ → List ℕ → Type 0
Moved old new from to = (bytes : List ℕ) → Finds old from bytes → Replaced old new from to bytes

-- there is no file of this name now, and nothing else changed
abbrev pub Removed : Option Files → Option Files → List ℕ → Type 0
Removed old new name = new ≡ option_map (λ m. remove m name) old

-- each file of another name is as it was
abbrev pub OthersStay : Option Files → Option Files → List ℕ → Type 0
OthersStay None new name = new ≡ None
OthersStay (Some old) None name = ⊥
OthersStay (Some old) (Some new) name = (q : List ℕ) → q ≢ name → get new q ≡ get old q

-- what is left is what stands under this name
abbrev pub IsOf : Option Files → List ℕ → Option (List ℕ) → Type 0
IsOf files name left = IfSome files (λ m. left ≡ get m name)

-- what is left is a file of these bytes, where the files are told
abbrev pub IsWhole : Option Files → List ℕ → Option (List ℕ) → Type 0
IsWhole files bytes left = IfSome files (λ _. left ≡ Some bytes)

-- a name that is kept for the new files of saves: it has a `~`
abbrev pub is_kept_name : List ℕ → Bool
is_kept_name name = list_any (λ byte. byte == 126) name

-- the files of a folder that a shelf over it has: those of all other names
abbrev pub on_shelf : Option Files → Option Files
on_shelf files = option_map (λ m. retain_keys m (λ name. not (is_kept_name name))) files

-- the folder has one file more, under a name that is kept for saves
pub record HasOneBeside (old new : Option Files) : Type 0 where
  pub name : List ℕ
  pub kept : is_kept_name name ≡ true
  pub is_new : Misses old name
  pub others : OthersStay old new name

-- the file of this name has so many bytes
abbrev pub HasSize : Option Files → List ℕ → ℕ → Type 0
HasSize files name size = IfSome files (λ m. IsSomeAnd (get m name) (λ bytes. length bytes ≡ size))

-- these are the first bytes of the file of this name, at most so many
abbrev pub ReadsFront : Option Files → List ℕ → ℕ → List ℕ → Type 0
ReadsFront files name most front =
    IfSome files (λ m. IsSomeAnd (get m name) (λ bytes. front ≡ take most bytes))

-- the file of this name has more bytes
abbrev pub IsLonger : Option Files → List ℕ → ℕ → Type 0
IsLonger files name most = IfSome files (λ m. IfSome (get m name) (λ bytes. most < length bytes))

-- the files are as they were, or the file of this name has these bytes and nothing else changed
abbrev pub SameOrSaved : Option Files → Option Files → List ℕ → List ℕ → Type 0
SameOrSaved old new name bytes = (new ≡ old) ⊎ Saved old new name bytes
