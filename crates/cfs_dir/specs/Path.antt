-- The text of a path: `/`, or one to 64 times `/` and a name.
use Rattle.std.specs.Prelude.{◌≡◌, ℕ, ◌≤◌, List, [], ◌∷◌, Bool, ◌==◌, ◌++◌, All, length}
use Rattle.std.specs.Str.{bytes_eq}
use Rattle.std.specs.Cmp.{IsEquivalence}
use Rattle.std.proofs.lemmas.Cmp.{lists_equiv, nat_list_eq_equiv}
use lib.Pointwise.{pointwise}
use Rattle.cfs_dir.specs.Name.{AreNameBytes}

-- a name as a path may write it; the tree refuses one that is too long for a node
abbrev pub IsPathName : List ℕ → Type 0
IsPathName name = (1 ≤ length name) × (length name ≤ 200) × AreNameBytes name

abbrev pub ArePathNames : List (List ℕ) → Type 0
ArePathNames names = (length names ≤ 64) × All IsPathName names

abbrev pub is_slash : ℕ → Bool
is_slash byte = byte == 47

abbrev pub BeginsWithSlash : List ℕ → Type 0
BeginsWithSlash [] = ⊥
BeginsWithSlash (byte ∷ bytes) = byte ≡ 47

-- each name behind a `/`
abbrev pub behind_slashes : List (List ℕ) → List ℕ
behind_slashes [] = []
behind_slashes (name ∷ names) = 47 ∷ (name ++ behind_slashes names)

-- the text of a path; the path of no names is the root's
abbrev pub text_of : List (List ℕ) → List ℕ
text_of [] = 47 ∷ []
text_of (name ∷ names) = behind_slashes (name ∷ names)

-- the text is that of a path with these names
pub record IsPathText (text : List ℕ) (names : List (List ℕ)) : Type 0 where
  pub names_are : ArePathNames names
  pub text_is : text_of names ≡ text

-- what `==` of two paths answers
abbrev pub same_names : List (List ℕ) → List (List ℕ) → Bool
same_names = pointwise bytes_eq

pub same_names-laws : IsEquivalence same_names
same_names-laws = lists_equiv nat_list_eq_equiv
