-- Reads, one after another.
use Rattle.std.proofs.Common.{ℕ, zero, suc, ◌<◌, ◌≡◌, ◌∙◌, Result, Ok, Err, List, [], ◌∷◌}
use Rattle.std.proofs.Common.{length, map, get_or, set, inl, inr, refl, sym, ap, subst, arith}
use Rattle.std.proofs.lemmas.Result.{err_from_is_err_and}
use Rattle.std.specs.Result.{IsErrAnd}
use Rattle.std.proofs.lemmas.List.{get_or-map, length-map, map-set, set-get_or}
use Rattle.cfs_pmem.specs.declared.trace.Asked.{Asked}
use Rattle.cfs_pmem.specs.AllMoments.{AreDistinct}
use Rattle.cfs_pmem.specs.Faults.{HasCause}
use Rattle.cfs_pmem.specs.Images.{Seen}
use Rattle.cfs_pmem.specs.Moments.{Moments}
use Rattle.cfs_pmem.specs.Objects.{IsEachImage, IsImageBut, MomentsOf, all_devices, seen_at}
use Rattle.cfs_pmem.proofs.AllMomentLemmas.{all_after, all_begun, all_weaker}
use Rattle.cfs_pmem.proofs.ObjectLemmas.{map-see-set, one_of, seen_at-map}
use Rattle.cfs_slot.specs.Payload.{HaveCause, NoneFell}
use Rattle.cfs_store_words.specs.declared.read_failed.ReadFailed.{ReadFailed}
use Rattle.cfs_store_words.specs.declared.read_failed.ReadFailed.TheVariants.{NoMemory}
use Rattle.cfs_store_words.specs.Causes.{ReadCaused, TellsCause}
use Rattle.cfs_store_words.specs.Leaves.{LeavesEach}

-- what is the same of one of them is the same of all
pub kept-at : {X Y : Type 0} (f : X → Y) (xs : List X) (place : ℕ) (d y : X) →
    place < length xs → f y ≡ f (get_or xs place d) → map f (set xs place y) ≡ map f xs
kept-at f xs place d y less same =
    map-set f xs place y
    ∙ (ap (set (map f xs) place) (same ∙ sym (get_or-map f xs place d (f d) less))
    ∙ set-get_or (map f xs) place (f d))

module _ {Form Image : Type 0} (IsImage_ : List Form → Image → Type 0) where
  -- an image of one of them among images of the others
  each-own : (place : ℕ) (olds : List (Seen Form)) (images : List Image) →
      IsImageBut IsImage_ (IsImage_ (seen_at olds place).history) place olds images →
      IsEachImage IsImage_ olds images
  each-own place [] images h = absurd h
  each-own zero (old ∷ olds) [] h = absurd h
  each-own (suc place) (old ∷ olds) [] h = absurd h
  each-own zero (old ∷ olds) (image ∷ images) h = (h.0, h.1)
  each-own (suc place) (old ∷ olds) (image ∷ images) h =
      (h.0, each-own place olds images h.1)

  -- a call on one of them that changes it not
  pub leaves-at : {X : Type 0} {asked_old asked_new : List Asked} (see : X → Seen Form)
      (xs : List X) (place : ℕ) (d y : X) → place < length xs →
      AreDistinct (all_devices (map see xs)) → see y ≡ see (get_or xs place d) →
      Moments IsImage_ (IsImage_ (see (get_or xs place d)).history) asked_old
      (see (get_or xs place d)) asked_new (see y) →
      LeavesEach IsImage_ asked_old (map see xs) asked_new (map see (set xs place y))
  leaves-at {X} {asked_old} {asked_new} see xs place d y less distinct same moments = record {
    same = kept-at see xs place d y less same;
    moments = subst (λ (news : List (Seen Form)).
        MomentsOf IsImage_ (IsEachImage IsImage_ (map see xs)) asked_old (map see xs) asked_new
        news)
        (sym (map-see-set see xs place y))
        (all_weaker (λ (images : List Image) but. each-own place (map see xs) images but)
        (one_of (map see xs) place (omega (arith, length-map xs see)) distinct
        (subst (λ (old : Seen Form).
        Moments IsImage_ (IsImage_ old.history) asked_old old asked_new (see y))
        (sym (seen_at-map see xs place d less)) moments)));
  }

  pub leaves-none : (asked : List Asked) (olds : List (Seen Form)) →
      AreDistinct (all_devices olds) → LeavesEach IsImage_ asked olds asked olds
  leaves-none asked olds distinct = record {
    same = refl;
    moments = all_begun asked olds distinct (λ images each. each);
  }

  pub leaves-after : {asked_old asked_mid asked_new : List Asked}
      {olds mids news : List (Seen Form)} → LeavesEach IsImage_ asked_old olds asked_mid mids →
      LeavesEach IsImage_ asked_mid mids asked_new news →
      LeavesEach IsImage_ asked_old olds asked_new news
  leaves-after {asked_old} {asked_mid} {asked_new} {olds} {mids} {news} one two = record {
    same = two.same ∙ one.same;
    moments = all_after one.moments
        (all_weaker
        (λ (images : List Image) each.
        subst (λ (seens : List (Seen Form)). IsEachImage IsImage_ seens images) one.same each)
        two.moments);
  }

-- ---- the counts of faults

pub none-fell : (counts : List ℕ) → NoneFell counts counts
none-fell [] = tt
none-fell (n ∷ counts) = (omega arith, none-fell counts)

cause-at : {T E : Type 0} (counts : List ℕ) (at now : ℕ) (result : Result T E) →
    at < length counts →
    HasCause (get_or counts at 0) now result → HaveCause counts (set counts at now) result
cause-at [] at now result less cause = absurd (omega arith)
cause-at (n ∷ counts) zero now (Ok t) less cause = record {
  later = (cause.later, none-fell counts);
  failed = tt;
  passed = ap (λ (m : ℕ). m ∷ counts) cause.passed;
}
cause-at (n ∷ counts) zero now (Err e) less cause = record {
  later = (cause.later, none-fell counts);
  failed = inl cause.failed;
  passed = tt;
}
cause-at (n ∷ counts) (suc at) now (Ok t) less cause =
    let behind = cause-at counts at now (Ok t) (omega arith) cause in record {
      later = (omega arith, behind.later);
      failed = tt;
      passed = ap (λ (ns : List ℕ). n ∷ ns) behind.passed;
    }
cause-at (n ∷ counts) (suc at) now (Err e) less cause =
    let behind = cause-at counts at now (Err e) (omega arith) cause in record {
      later = (omega arith, behind.later);
      failed = inr behind.failed;
      passed = tt;
    }

-- that of one of them tells how a call on it ended
pub cause-of : {X T E : Type 0} (faults : X → ℕ) (xs : List X) (at : ℕ) (d y : X)
    (result : Result T E) → at < length xs →
    HasCause (faults (get_or xs at d)) (faults y) result →
    HaveCause (map faults xs) (map faults (set xs at y)) result
cause-of {X} {T} {E} faults xs at d y result less cause =
    subst (λ (ns : List ℕ). HaveCause (map faults xs) ns result) (sym (map-set faults xs at y))
    (cause-at (map faults xs) at (faults y) result (omega (arith, length-map xs faults))
    (subst (λ (n : ℕ). HasCause n (faults y) result) (sym (get_or-map faults xs at d 0 less))
    cause))

-- none rose
pub same-cause : {T E : Type 0} (befores nows : List ℕ) (t : T) → nows ≡ befores →
    HaveCause {T = T} {E = E} befores nows (Ok t)
same-cause befores nows t same = record {
  later = subst (λ (ns : List ℕ). NoneFell befores ns) (sym same) (none-fell befores);
  failed = tt;
  passed = same;
}

-- a call behind one that went well
pub cause-after : {T E : Type 0} (befores mids nows : List ℕ) (result : Result T E) →
    mids ≡ befores → HaveCause mids nows result → HaveCause befores nows result
cause-after befores mids nows result same cause =
    subst (λ (ns : List ℕ). HaveCause ns nows result) same cause

-- where memory lacked
pub lacked : {T : Type 0} (befores nows : List ℕ) (result : Result T ReadFailed) →
    IsErrAnd result (λ (error : ReadFailed). error ≡ NoMemory) → nows ≡ befores →
    TellsCause ReadCaused befores nows result
lacked {T} befores nows result is same =
    let p = err_from_is_err_and result is in
    subst (λ (r : Result T ReadFailed). TellsCause ReadCaused befores nows r)
    (sym (p.1 ∙ ap (λ (e : ReadFailed). Err e) p.2)) record {
      later = subst (λ (ns : List ℕ). NoneFell befores ns) (sym same) (none-fell befores);
      failed = same;
      passed = tt;
    }

pub went-well : {T : Type 0} (befores nows : List ℕ) (t : T) → nows ≡ befores →
    TellsCause ReadCaused befores nows (Ok t)
went-well befores nows t same = record {
  later = subst (λ (ns : List ℕ). NoneFell befores ns) (sym same) (none-fell befores);
  failed = tt;
  passed = same;
}
