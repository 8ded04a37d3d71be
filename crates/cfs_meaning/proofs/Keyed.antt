-- Files whose file blocks have one block each.
use Rattle.std.proofs.Common.{◌≡◌, ◌≢◌, ◌⊎◌, ℕ, ◌+◌, ◌≤◌, zero, suc, Bool, true, false, Option}
use Rattle.std.proofs.Common.{Some, List, [], ◌∷◌, ◌++◌, map, filter, inl, inr, refl, sym, ap}
use Rattle.std.proofs.Common.{◌∙◌, subst, cond, if◌then◌else◌, arith}
use Rattle.std.specs.Prelude.{find, unwrap_or, ◌==◌, is_none}
use Rattle.std.specs.Option.{option_map}
use Rattle.std.specs.List.{flat_map, range_with_len}
use Rattle.std.proofs.lemmas.Bool.{eqb-false, eqb-true, ne_eqb}
use Rattle.cfs_meaning.specs.World.{File, World, block_of, file_in, new_file, replaces}
use Rattle.cfs_meaning.specs.Devices.{OfEachFile}
use Rattle.cfs_meaning.specs.Stock.{AreMappedOnce, HaveOwnKeys, IsOnlyAt}

-- ---- each file

file-or : (P : File → Type 0) (test : Bool) (one other : File) → P one → P other →
    P (if test then one else other)
file-or P true one other h more = h
file-or P false one other h more = more

all-replaced : (P : File → Type 0) (new : File) (files : List File) → P new →
    OfEachFile P files → OfEachFile P (map (replaces new) files)
all-replaced P new [] here all = tt
all-replaced P new (f ∷ files) here all =
    (file-or P (f.ino == new.ino) new f here all.0, all-replaced P new files here all.1)

looked-up : (P : File → Type 0) (test : File → Bool) (files : List File) (other : File) →
    OfEachFile P files → P other → P (unwrap_or (find test files) other)
looked-up P test [] other all last = last
looked-up P test (f ∷ files) other all last =
    by-test (test f) (looked-up P test files other all.1 last)
  where
    by-test : (b : Bool) → P (unwrap_or (find test files) other) →
        P (unwrap_or (cond b (Some f) (find test files)) other)
    by-test true rest = all.0
    by-test false rest = rest

pub files-left : (P : File → Type 0) (test : File → Bool) (files : List File) →
    OfEachFile P files → OfEachFile P (filter test files)
files-left P test [] all = tt
files-left P test (f ∷ files) all = by-test (test f) (files-left P test files all.1)
  where
    by-test : (b : Bool) → OfEachFile P (filter test files) →
        OfEachFile P (cond b (f ∷ filter test files) (filter test files))
    by-test true rest = (all.0, rest)
    by-test false rest = rest

pub files-joined : (P : File → Type 0) (one other : List File) → OfEachFile P one →
    OfEachFile P other → OfEachFile P (one ++ other)
files-joined P [] other all more = more
files-joined P (f ∷ files) other all more = (all.0, files-joined P files other all.1 more)

-- a file that is looked up is mapped once, and so are all behind its change
pub keyed-in : (world : World) (ino : ℕ) → AreMappedOnce world →
    HaveOwnKeys (file_in world ino).blocks
keyed-in world ino all =
    looked-up (λ f. HaveOwnKeys f.blocks) (λ f. f.ino == ino) world.files (new_file 0 0) all tt

pub mapped-kept : (world : World) (ino : ℕ) (new : File) →
    (HaveOwnKeys (file_in world ino).blocks → HaveOwnKeys new.blocks) → AreMappedOnce world →
    OfEachFile (λ f. HaveOwnKeys f.blocks) (map (replaces new) world.files)
mapped-kept world ino new keys all =
    all-replaced (λ f. HaveOwnKeys f.blocks) new world.files (keys (keyed-in world ino all)) all

-- ---- pairs

only-left : (k : ℕ) (test : ℕ × ℕ → Bool) (blocks : List (ℕ × ℕ)) → IsOnlyAt k blocks →
    IsOnlyAt k (filter test blocks)
only-left k test [] only = tt
only-left k test (x ∷ blocks) only = by-test (test x) (only-left k test blocks only.1)
  where
    by-test : (b : Bool) → IsOnlyAt k (filter test blocks) →
        IsOnlyAt k (cond b (x ∷ filter test blocks) (filter test blocks))
    by-test true rest = (only.0, rest)
    by-test false rest = rest

pub keys-left : (test : ℕ × ℕ → Bool) (blocks : List (ℕ × ℕ)) → HaveOwnKeys blocks →
    HaveOwnKeys (filter test blocks)
keys-left test [] own = tt
keys-left test (x ∷ blocks) own = by-test (test x) (keys-left test blocks own.1)
  where
    by-test : (b : Bool) → HaveOwnKeys (filter test blocks) →
        HaveOwnKeys (cond b (x ∷ filter test blocks) (filter test blocks))
    by-test true rest = (only-left x.0 test blocks own.0, rest)
    by-test false rest = rest

-- one more, where none stood
none-only : (k : ℕ) (blocks : List (ℕ × ℕ)) →
    is_none (option_map (λ (x : ℕ × ℕ). x.1) (find (λ x. x.0 == k) blocks)) ≡ true →
    IsOnlyAt k blocks
none-only k [] none = tt
none-only k (x ∷ blocks) none =
    by-test (x.0 == k) refl (λ now. none-only k blocks now) none
  where
    by-test : (b : Bool) → (x.0 == k) ≡ b →
        (is_none (option_map (λ (y : ℕ × ℕ). y.1) (find (λ y. y.0 == k) blocks)) ≡ true →
        IsOnlyAt k blocks) →
        is_none (option_map (λ (y : ℕ × ℕ). y.1)
        (cond b (Some x) (find (λ y. y.0 == k) blocks))) ≡ true →
        (x.0 ≢ k) × IsOnlyAt k blocks
    by-test true is rest now = absurd (cc)
    by-test false is rest now = (eqb-false x.0 k is, rest now)

pub only-more : (j : ℕ) (one other : List (ℕ × ℕ)) → IsOnlyAt j one → IsOnlyAt j other →
    IsOnlyAt j (one ++ other)
only-more j [] other only more = more
only-more j (x ∷ one) other only more = (only.0, only-more j one other only.1 more)

pub keys-more : (k b : ℕ) (blocks : List (ℕ × ℕ)) →
    is_none (option_map (λ (x : ℕ × ℕ). x.1) (find (λ x. x.0 == k) blocks)) ≡ true →
    HaveOwnKeys blocks → HaveOwnKeys (blocks ++ (k, b) ∷ [])
keys-more k b blocks none own = added blocks (none-only k blocks none) own
  where
    added : (list : List (ℕ × ℕ)) → IsOnlyAt k list → HaveOwnKeys list →
        HaveOwnKeys (list ++ (k, b) ∷ [])
    added [] only all = (tt, tt)
    added (x ∷ list) only all = (
      only-more x.0 list ((k, b) ∷ []) all.0 ((λ same. only.0 (sym same), tt)),
      added list only.1 all.1,
    )

-- ---- blocks in ascending order

-- each pair stands behind a number and those before it, and is what is found there
abbrev pub AreListed : (ℕ → Option ℕ) → ℕ → List (ℕ × ℕ) → Type 0
AreListed at from [] = Unit {0}
AreListed at from (x ∷ xs) = (from ≤ x.0) × (at x.0 ≡ Some x.1) × AreListed at (x.0 + 1) xs

-- what stands before a number does not matter
pub listed-kept : (at now : ℕ → Option ℕ) (from : ℕ) (xs : List (ℕ × ℕ)) →
    ((j : ℕ) → from ≤ j → now j ≡ at j) → AreListed at from xs → AreListed now from xs
listed-kept at now from [] same all = tt
listed-kept at now from (x ∷ xs) same all = (
  all.0,
  same x.0 all.0 ∙ all.1,
  listed-kept at now (x.0 + 1) xs
      (λ j low. let first = all.0 in same j (omega (arith, low, first))) all.2,
)

listed-from : (at : ℕ → Option ℕ) (low from : ℕ) (xs : List (ℕ × ℕ)) → low ≤ from →
    AreListed at from xs → AreListed at low xs
listed-from at low from [] less all = tt
listed-from at low from (x ∷ xs) less all =
    (let first = all.0 in omega (arith, less, first), all.1, all.2)

-- those with a number are none, or the one that is found
none-left : (k : ℕ) (blocks : List (ℕ × ℕ)) → IsOnlyAt k blocks →
    filter (λ x. x.0 == k) blocks ≡ []
none-left k [] only = refl
none-left k (x ∷ blocks) only =
    ap (λ b. cond b (x ∷ filter (λ y. y.0 == k) blocks) (filter (λ y. y.0 == k) blocks))
    (ne_eqb x.0 k only.0) ∙ none-left k blocks only.1

abbrev IsSingle : ℕ → List (ℕ × ℕ) → List (ℕ × ℕ) → Type 0
IsSingle k blocks left =
    (left ≡ []) ⊎ ((x : ℕ × ℕ) × (left ≡ x ∷ []) × (x.0 ≡ k)
    × (find (λ y. y.0 == k) blocks ≡ Some x))

single : (k : ℕ) (blocks : List (ℕ × ℕ)) → HaveOwnKeys blocks →
    IsSingle k blocks (filter (λ x. x.0 == k) blocks)
single k [] own = inl refl
single k (x ∷ blocks) own = by-test (x.0 == k) refl (single k blocks own.1)
  where
    rest : List (ℕ × ℕ)
    rest = filter (λ y. y.0 == k) blocks

    by-test : (b : Bool) → (x.0 == k) ≡ b → IsSingle k blocks rest →
        IsSingle k (x ∷ blocks) (cond b (x ∷ rest) rest)
    by-test true is later =
        let same : x.0 ≡ k = eqb-true x.0 k is in
        inr (
          x,
          ap (λ list. x ∷ list) (none-left k blocks (subst (λ n. IsOnlyAt n blocks) same
              own.0)),
          same,
          ap (λ b. cond b (Some x) (find (λ y. y.0 == k) blocks)) is,
        )
    by-test false is later = elim later [
      | inl none ↦ inl none
      | inr one ↦ inr (
        one.0,
        one.1,
        one.2,
        ap (λ b. cond b (Some x) (find (λ y. y.0 == k) blocks)) is ∙ one.3,
      )
    ]

-- the blocks of a file by their file blocks
pub listed : (f : File) (from n : ℕ) → HaveOwnKeys f.blocks →
    AreListed (block_of f) from
    (flat_map (λ k. filter (λ x. x.0 == k) f.blocks) (range_with_len from n))
listed f from zero own = tt
listed f from (suc n) own = by-first (single from f.blocks own) (listed f (from + 1) n own)
  where
    rest : List (ℕ × ℕ)
    rest = flat_map (λ k. filter (λ x. x.0 == k) f.blocks) (range_with_len (from + 1) n)

    by-first : IsSingle from f.blocks (filter (λ x. x.0 == from) f.blocks) →
        AreListed (block_of f) (from + 1) rest →
        AreListed (block_of f) from (filter (λ x. x.0 == from) f.blocks ++ rest)
    by-first here later = elim here [
      | inl none ↦
          subst (λ (list : List (ℕ × ℕ)). AreListed (block_of f) from (list ++ rest)) (sym none)
          (listed-from (block_of f) from (from + 1) rest (omega arith) later)
      | inr one ↦
          subst (λ (list : List (ℕ × ℕ)). AreListed (block_of f) from (list ++ rest)) (sym one.1) (
            let same = one.2 in omega (arith, same),
            ap (block_of f) one.2 ∙ ap (option_map (λ (x : ℕ × ℕ). x.1)) one.3,
            subst (λ k. AreListed (block_of f) (k + 1) rest) (sym one.2) later,
          )
    ]

-- the file that is no file has none
pub none-listed : (rec n from : ℕ) →
    flat_map (λ k. filter (λ (x : ℕ × ℕ). x.0 == k) (new_file 0 rec).blocks) (range_with_len from n)
    ≡ []
none-listed rec zero from = refl
none-listed rec (suc n) from = none-listed rec n (from + 1)
