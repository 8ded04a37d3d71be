-- The files of a shelf by their names, where these are told.
use Rattle.std.specs.Prelude.{◌≡◌, ◌≢◌, ℕ, List, Some, None, ⊤, IfSome}
use Rattle.std.specs.declared.option.Option.{Option}
use Rattle.std.specs.Ordering.{nat_cmp}
use Rattle.std.specs.Cmp.Lexicographic.{slice_cmp}
use Rattle.std.specs.FinMap.{FinMap, get, insert, remove, from_entries}

-- a finite map from names to bytes
abbrev pub Files : Type 0
Files = FinMap (slice_cmp nat_cmp) (List ℕ)

-- the file of this name has these bytes
abbrev pub Finds : Option Files → List ℕ → List ℕ → Type 0
Finds files name bytes = IfSome files (λ m. get m name ≡ Some bytes)

-- there is no file of this name
abbrev pub Misses : Option Files → List ℕ → Type 0
Misses files name = IfSome files (λ m. get m name ≡ None)

-- the file of this name has these bytes now, and nothing else changed
abbrev pub Saved : Option Files → Option Files → List ℕ → List ℕ → Type 0
Saved None new name bytes = ⊤
Saved (Some old) None name bytes = ⊥
Saved (Some old) (Some new) name bytes = new ≡ insert old name bytes

-- each file of another name is as it was
abbrev pub OthersKept : Option Files → Option Files → List ℕ → Type 0
OthersKept None new name = ⊤
OthersKept (Some old) None name = ⊥
OthersKept (Some old) (Some new) name = (q : List ℕ) → q ≢ name → get new q ≡ get old q

-- the files of a list; of two with one name the first
abbrev pub files_of : List (List ℕ × List ℕ) → Files
files_of = from_entries

-- the files with this one of a name, or without any
abbrev pub with_or_without : Files → List ℕ → Option (List ℕ) → Files
with_or_without files name None = remove files name
with_or_without files name (Some bytes) = insert files name bytes
