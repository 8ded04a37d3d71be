-- A fresh core keeps the invariant.
use Rattle.std.proofs.Common.{◌≡◌, inl, inr, ℕ, suc, zero, ◌/◌, ◌==◌, true, false, ◌||◌, List, [], ◌∷◌, length, get_or, arith, refl, ◌∙◌}
use Rattle.std.specs.List.{list_all}
use Rattle.std.proofs.lemmas.Bool.Decides.{nat_tests}
use Rattle.std.proofs.lemmas.List.{get_or_past}
use Rattle.cfs_file.proofs.Logs.{IsLegal-none}
use Rattle.cfs_file.specs.declared.sizes.TheConstants.{BLOCK_LEN}
use Rattle.cfs_core.specs.declared.flag.Flag.{Flag}
use Rattle.cfs_core.specs.declared.flag.Flag.TheVariants.{Off, On, Unsure}
use Rattle.cfs_core.specs.declared.inode_core.Core.{Core}
use Rattle.cfs_core.specs.Words.{blank, is_live, is_off, is_unserved}
use Rattle.cfs_core.specs.Medium.{file, is_size, rests}
use Rattle.cfs_core.specs.Fresh.{IsEmpty, IsFresh, is_sure}
use Rattle.cfs_core.proofs.Alive.{sound-empty}
use Rattle.cfs_core.proofs.Apart.{apart-empty}
use Rattle.cfs_core.proofs.Kept.{IsKept, IsLive, IsStored, IsUnserved, IsView, at, file_at}
use Rattle.cfs_core.proofs.Legal.{and_all, both}
use Rattle.cfs_core.proofs.LoggedCrash.{logged-fresh}
use Rattle.cfs_core.proofs.Order.{ordered-empty}

at-fresh : (core : Core) → IsFresh core → (k : ℕ) → at core k ≡ blank
at-fresh core fresh k = rw fresh.tracks refl

none-live : (core : Core) → IsFresh core → (k : ℕ) → IsLive core k → ⊥
none-live core fresh k live = let own : is_live blank.state ≡ true = rw (at-fresh core fresh k) at live in cc

none-unserved : (core : Core) → IsFresh core → (k : ℕ) → IsUnserved core k → ⊥
none-unserved core fresh k unserved = let own : is_unserved blank.state ≡ true = rw (at-fresh core fresh k) at unserved in cc

file-fresh : (core : Core) → IsFresh core → (v p : ℕ) → IsView core v p → file_at core v ≡ core.base
file-fresh core fresh v p view = elim view [
  | inl same ↦ rw (same, fresh.log) refl
  | inr unserved ↦ absurd (none-unserved core fresh v unserved.0)
]

pub size-fresh : (core : Core) → IsFresh core → (s : ℕ) → is_size core s ≡ true → s ≡ length core.base
size-fresh core fresh s size =
    let own : ((s == core.size) || false) ≡ true = rw fresh.sizes at size in
    same s core.size own ∙ fresh.size
  where
    same : (a b : ℕ) → ((a == b) || false) ≡ true → a ≡ b
    same a b h = grind (arith, nat_tests)

stored-fresh : (core : Core) → IsFresh core → IsStored core
stored-fresh core fresh = record {
  short = rw fresh.loose refl;
  rests_free = λ v p view free. rw (file-fresh core fresh v p view) (fresh.bytes p);
  zero_past = λ v s p view size past free.
      rw (file-fresh core fresh v p view) (get_or_past core.base p 0 (omega (arith, size-fresh core fresh s size)));
  long = λ s p size none.
      let whole : file core ≡ core.base = rw fresh.log refl in
      rw (whole, size-fresh core fresh s size) refl;
  applied_rests = λ k p live applied alters. absurd (none-live core fresh k live);
  applied_size = λ k s live applied size. absurd (none-live core fresh k live);
}

pub kept-fresh : (core : Core) → IsFresh core → IsKept core
kept-fresh core fresh = record {
  legal = rw fresh.log (IsLegal-none core.base fresh.fits);
  blocks = fresh.blocks;
  ordered = ordered-empty core fresh;
  sound = sound-empty core fresh;
  apart = apart-empty core fresh;
  logged = logged-fresh core fresh;
  stored_ = stored-fresh core fresh;
}

-- the core of an empty file is fresh
pub fresh-empty : (core : Core) → IsEmpty core → IsFresh core
fresh-empty core empty = record {
  fits = rw empty.base (omega arith);
  log = empty.log;
  tracks = empty.tracks;
  doubt = empty.doubt;
  size = rw (empty.base, empty.size) refl;
  sizes = empty.sizes;
  blocks = empty.blocks;
  tags = sure core.tags empty.tags;
  bytes = λ p. rests_nothing p;
  blank = λ p off. rw empty.bytes refl;
  loose = empty.loose;
  up = empty.up;
}
  where
    off_sure : (flag : Flag) → is_off flag ≡ true → is_sure flag ≡ true
    off_sure Off h = refl
    off_sure On h = refl
    off_sure Unsure h = cc

    sure : (flags : List Flag) → list_all is_off flags ≡ true → list_all is_sure flags ≡ true
    sure [] h = refl
    sure (f ∷ fs) h = let parts = both (is_off f) (list_all is_off fs) h in and_all (is_sure f) (list_all is_sure fs) (off_sure f parts.0) (sure fs parts.1)

    off_at : (flags : List Flag) (k : ℕ) → list_all is_off flags ≡ true → get_or flags k Off ≡ Off
    off_at [] k h = refl
    off_at (f ∷ fs) zero h = off_is f (both (is_off f) (list_all is_off fs) h).0
      where
        off_is : (flag : Flag) → is_off flag ≡ true → flag ≡ Off
        off_is Off is = refl
        off_is On is = cc
        off_is Unsure is = cc
    off_at (f ∷ fs) (suc k) h = off_at fs k (both (is_off f) (list_all is_off fs) h).1

    rests_nothing : (p : ℕ) → rests core p (get_or core.base p 0) ≡ true
    rests_nothing p =
        let flag : get_or core.tags (p / BLOCK_LEN) Off ≡ Off = off_at core.tags (p / BLOCK_LEN) empty.tags in
        rw (flag, empty.base) refl
