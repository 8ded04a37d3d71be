-- Counts and devices of regions and blocks together, and facts of each of a list.
use Rattle.std.proofs.Common.{ℕ, zero, suc, ◌<◌, ◌≡◌, Result, Ok, Err, List, [], ◌∷◌, ◌++◌}
use Rattle.std.proofs.Common.{take, length, map, get_or, inl, inr, refl, sym, ap, subst, arith}
use Rattle.cfs_pmem.specs.AllMoments.{AreDistinct, IsApartFrom}
use Rattle.cfs_pmem.specs.Images.{Seen, WordStep}
use Rattle.cfs_pmem.specs.Objects.{all_devices}
use Rattle.cfs_block.specs.BlockImages.{BlockStep, content_of}
use Rattle.cfs_block.specs.Devices.{numbers_of}
use Rattle.cfs_slot.specs.Payload.{HaveCause, NoneFell, SomeRose}
use Rattle.cfs_recover.specs.declared.piece.Piece.{Piece}
use Rattle.cfs_recover.specs.Begins.{both}
use Rattle.cfs_recover.specs.Held.{AllLieWithin, AreFull}
use Rattle.cfs_recover.specs.Pieces.{LiesWithin}
use Rattle.cfs_recover.proofs.BlockCalls.{none-fell}

-- ---- counts

pub cause-back : {T E : Type 0} (front old new : List ℕ) (result : Result T E) →
    HaveCause old new result → HaveCause (front ++ old) (front ++ new) result
cause-back [] old new result cause = cause
cause-back (n ∷ front) old new (Ok t) cause =
    let behind = cause-back front old new (Ok t) cause in record {
      later = (omega arith, behind.later);
      failed = tt;
      passed = ap (λ (ns : List ℕ). n ∷ ns) behind.passed;
    }
cause-back (n ∷ front) old new (Err e) cause =
    let behind = cause-back front old new (Err e) cause in record {
      later = (omega arith, behind.later);
      failed = inr behind.failed;
      passed = tt;
    }

-- a call that failed
pub failed-back : {T E : Type 0} {result : Result T E} (front old new : List ℕ) (e : E) →
    result ≡ Err e → NoneFell old new → SomeRose old new →
    HaveCause (front ++ old) (front ++ new) result
failed-back {T} {E} {result} front old new e is later failed =
    subst (λ (r : Result T E). HaveCause (front ++ old) (front ++ new) r) (sym is)
    (cause-back front old new (Err e) (record { later = later; failed = failed; passed = tt }))

fell-front : (old new back : List ℕ) → NoneFell old new → NoneFell (old ++ back) (new ++ back)
fell-front [] [] back fell = none-fell back
fell-front [] (n ∷ new) back fell = absurd fell
fell-front (m ∷ old) [] back fell = absurd fell
fell-front (m ∷ old) (n ∷ new) back fell = (fell.0, fell-front old new back fell.1)

rose-front : (old new back : List ℕ) → SomeRose old new → SomeRose (old ++ back) (new ++ back)
rose-front [] new back rose = absurd rose
rose-front (m ∷ old) [] back rose = absurd rose
rose-front (m ∷ old) (n ∷ new) back rose = elim rose [
  | inl here ↦ inl here
  | inr later ↦ inr (rose-front old new back later)
]

pub cause-front : {T E : Type 0} (old new back : List ℕ) (result : Result T E) →
    HaveCause old new result → HaveCause (old ++ back) (new ++ back) result
cause-front old new back (Ok t) cause = record {
  later = fell-front old new back cause.later;
  failed = tt;
  passed = ap (λ (ns : List ℕ). ns ++ back) cause.passed;
}
cause-front old new back (Err e) cause = record {
  later = fell-front old new back cause.later;
  failed = rose-front old new back cause.failed;
  passed = tt;
}

-- ---- devices

apart-front : (one : List ℕ) (front back : List (List ℕ)) → IsApartFrom one (front ++ back) →
    IsApartFrom one front
apart-front one [] back apart = tt
apart-front one (first ∷ front) back apart = (apart.0, apart-front one front back apart.1)

pub distinct-front : (front back : List (List ℕ)) → AreDistinct (front ++ back) →
    AreDistinct front
distinct-front [] back distinct = tt
distinct-front (one ∷ front) back distinct =
    (apart-front one front back distinct.0, distinct-front front back distinct.1)

pub distinct-back : (front back : List (List ℕ)) → AreDistinct (front ++ back) → AreDistinct back
distinct-back [] back distinct = distinct
distinct-back (one ∷ front) back distinct = distinct-back front back distinct.1

pub distinct-regions : (olds news : List (Seen WordStep)) (blocks : List (Seen BlockStep)) →
    all_devices news ≡ all_devices olds → AreDistinct (numbers_of (both olds blocks)) →
    AreDistinct (numbers_of (both news blocks))
distinct-regions olds news blocks same distinct =
    subst (λ (ns : List (List ℕ)). AreDistinct (ns ++ all_devices blocks)) (sym same) distinct

pub distinct-blocks : (regions : List (Seen WordStep)) (olds news : List (Seen BlockStep)) →
    all_devices news ≡ all_devices olds → AreDistinct (numbers_of (both regions olds)) →
    AreDistinct (numbers_of (both regions news))
distinct-blocks regions olds news same distinct =
    subst (λ (ns : List (List ℕ)). AreDistinct (all_devices regions ++ ns)) (sym same) distinct

-- ---- each of them

pub full-all : {X : Type 0} (see : X → Seen BlockStep) (xs : List X) →
    ((x : X) → length (content_of (see x)).bytes ≡ 4096) → AreFull (map see xs)
full-all see [] full k less = absurd (omega arith)
full-all see (x ∷ xs) full zero less = full x
full-all see (x ∷ xs) full (suc k) less = full-all see xs full k (omega arith)

pub within-all : (blocks bytes : ℕ) (pieces : List Piece) →
    ((k : ℕ) (d : Piece) → k < length pieces → LiesWithin blocks bytes (get_or pieces k d)) →
    AllLieWithin blocks bytes pieces
within-all blocks bytes [] within = tt
within-all blocks bytes (piece ∷ pieces) within = (
  within 0 piece (omega arith),
  within-all blocks bytes pieces (λ k d less. within (suc k) d (omega arith)),
)

pub take-none : {X : Type 0} (xs : List X) → take 0 xs ≡ []
take-none [] = refl
take-none (x ∷ xs) = refl
