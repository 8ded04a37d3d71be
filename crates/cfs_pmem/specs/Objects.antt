-- A list of objects of one kind, as regions or blocks, and calls on one of them.
use Rattle.std.specs.Prelude.{ℕ, zero, suc, ◌<◌, ◌≡◌, ◌⊎◌, List, [], ◌∷◌, ◌++◌, length, map}
use Rattle.std.proofs.Math.ListN.{get_or, set}
use Rattle.cfs_pmem.specs.declared.trace.Asked.{Asked}
use Rattle.cfs_pmem.specs.Asks.{AreStepsOn}
use Rattle.cfs_pmem.specs.Images.{Seen, devices_of, stepped}
use Rattle.cfs_pmem.specs.AllMoments.{AllMoments}

-- the object at a place, or one with no history
abbrev pub seen_at : {Form : Type 0} → List (Seen Form) → ℕ → Seen Form
seen_at seens place = get_or seens place record { device = 0; also = []; history = [] }

abbrev pub all_devices : {Form : Type 0} → List (Seen Form) → List (List ℕ)
all_devices seens = map devices_of seens

-- an object after one call: it is as it was, or one step further
abbrev pub IsBehind : {Form : Type 0} → Seen Form → Seen Form → Type 0
IsBehind {Form} old new = (new ≡ old) ⊎ ((step : Form) × (new ≡ stepped step old))

-- one call on the object at one of the places, which asks for steps of its devices alone, and for
-- one at least
pub record IsCallOn {Form : Type 0} (asked : List Asked) (old new : List (Seen Form)) : Type 0 where
  pub place : ℕ
  pub within : place < length old
  pub now : Seen Form
  pub is : new ≡ set old place now
  pub behind : IsBehind (seen_at old place) now
  pub some : 0 < length asked
  pub own : AreStepsOn (devices_of (seen_at old place)) asked

-- one image of each object, in the objects' order
abbrev pub IsEachImage : {Form Image : Type 0} → (List Form → Image → Type 0) → List (Seen Form)
    → List Image → Type 0
IsEachImage IsImage [] [] = Unit {0}
IsEachImage IsImage [] (image ∷ images) = ⊥
IsEachImage IsImage (seen ∷ rest) [] = ⊥
IsEachImage IsImage (seen ∷ rest) (image ∷ images) =
    IsImage seen.history image × IsEachImage IsImage rest images

-- the image at one place has P, and each other one is an image of its object
abbrev pub IsImageBut : {Form Image : Type 0} → (List Form → Image → Type 0) → (Image → Type 0) → ℕ
    → List (Seen Form) → List Image → Type 0
IsImageBut IsImage P place [] images = ⊥
IsImageBut IsImage P place (seen ∷ rest) [] = ⊥
IsImageBut IsImage P zero (seen ∷ rest) (image ∷ images) = P image × IsEachImage IsImage rest images
IsImageBut IsImage P (suc place) (seen ∷ rest) (image ∷ images) =
    IsImage seen.history image × IsImageBut IsImage P place rest images

-- images of some objects that stand between others: theirs have P, and each other one is an image
-- of its object
pub record IsImageAmong {Form Image : Type 0} (IsImage : List Form → Image → Type 0)
    (P : List Image → Type 0) (front back : List (Seen Form)) (images : List Image) : Type 0 where
  pub before : List Image
  pub mine : List Image
  pub behind : List Image
  pub is : images ≡ before ++ (mine ++ behind)
  pub of_front : IsEachImage IsImage front before
  pub has : P mine
  pub of_back : IsEachImage IsImage back behind

-- the moments of a call on these objects
abbrev pub MomentsOf : {Form Image : Type 0} → (List Form → Image → Type 0) → (List Image → Type 0)
    → List Asked → List (Seen Form) → List Asked → List (Seen Form) → Type 0
MomentsOf IsImage P asked_old old asked_new new =
    AllMoments all_devices (IsEachImage IsImage) IsCallOn P asked_old old asked_new new
