-- Calls on the regions or on the blocks of a store, seen among both.
use Rattle.std.proofs.Common.{ℕ, ◌≡◌, ◌∙◌, Result, Ok, Err, List, [], ◌∷◌, ◌++◌, inl, inr, refl}
use Rattle.std.proofs.Common.{sym, ap}
use Rattle.std.proofs.Common.{subst, arith}
use Rattle.std.specs.Result.{IsErrAnd}
use Rattle.std.proofs.lemmas.Result.{err_from_is_err_and}
use Rattle.cfs_pmem.specs.declared.trace.Asked.{Asked}
use Rattle.cfs_pmem.specs.declared.fault.DeviceFault.{DeviceFault}
use Rattle.cfs_pmem.specs.AllMoments.{AreDistinct, IsApartFrom}
use Rattle.cfs_pmem.specs.Images.{IsImage, Seen, WordStep}
use Rattle.cfs_pmem.specs.Objects.{IsCallOn, IsEachImage}
use Rattle.cfs_pmem.proofs.AllMomentLemmas.{Carries, all_after, all_among, all_weaker}
use Rattle.cfs_block.specs.BlockImages.{BlockStep, IsBlockImage}
use Rattle.cfs_block.specs.Devices.{AreImagesOf, DeviceImages, Devices}
use Rattle.cfs_block.specs.Devices.{IsDeviceCall, numbers_of}
use Rattle.cfs_slot.specs.Payload.{HaveCause, NoneFell, SomeRose}
use Rattle.cfs_store_words.specs.declared.read_failed.ReadFailed.{ReadFailed}
use Rattle.cfs_store_words.specs.declared.read_failed.ReadFailed.TheVariants.{Failed, NoMemory}
use Rattle.cfs_store_words.specs.Causes.{ReadCaused, TellsCause}
use Rattle.cfs_store_words.specs.Leaves.{LeavesEach, LeavesStore, devices}
use Rattle.cfs_store_words.proofs.Calls.{none-fell, went-well}

-- ---- distinct devices

apart-front : (one : List ℕ) (xs ys : List (List ℕ)) → IsApartFrom one (xs ++ ys) →
    IsApartFrom one xs
apart-front one [] ys apart = tt
apart-front one (x ∷ xs) ys apart = (apart.0, apart-front one xs ys apart.1)

pub distinct-front : (xs ys : List (List ℕ)) → AreDistinct (xs ++ ys) → AreDistinct xs
distinct-front [] ys distinct = tt
distinct-front (x ∷ xs) ys distinct =
    (apart-front x xs ys distinct.0, distinct-front xs ys distinct.1)

pub distinct-back : (xs ys : List (List ℕ)) → AreDistinct (xs ++ ys) → AreDistinct ys
distinct-back [] ys distinct = distinct
distinct-back (x ∷ xs) ys distinct = distinct-back xs ys distinct.1

-- ---- what a crash leaves

pub regions-alone : {asked_old asked_new : List Asked} {olds news : List (Seen WordStep)}
    (blocks : List (Seen BlockStep)) → AreDistinct (numbers_of (devices olds blocks)) →
    LeavesEach IsImage asked_old olds asked_new news →
    LeavesStore asked_old (devices olds blocks) asked_new (devices news blocks)
regions-alone {asked_old} {asked_new} {olds} {news} blocks distinct leaves =
    let carries : Carries (IsEachImage IsImage) IsCallOn AreImagesOf IsDeviceCall
    (IsEachImage IsImage olds) (AreImagesOf (devices olds blocks))
    (λ (regions : List (Seen WordStep)). devices regions blocks) = record {
      call = λ asked was now h. inl (h, refl);
      gives = λ world all whole h. record {
        words = all whole.words h.words;
        contents = h.contents;
      };
    } in
    record {
      same = ap (λ (regions : List (Seen WordStep)). devices regions blocks) leaves.same;
      moments = all_among {put = λ (regions : List (Seen WordStep)). devices regions blocks}
          distinct carries leaves.moments;
    }

blocks-alone : {asked_old asked_new : List Asked} {olds news : List (Seen BlockStep)}
    (regions : List (Seen WordStep)) → AreDistinct (numbers_of (devices regions olds)) →
    LeavesEach IsBlockImage asked_old olds asked_new news →
    LeavesStore asked_old (devices regions olds) asked_new (devices regions news)
blocks-alone {asked_old} {asked_new} {olds} {news} regions distinct leaves =
    let carries : Carries (IsEachImage IsBlockImage) IsCallOn AreImagesOf IsDeviceCall
    (IsEachImage IsBlockImage olds) (AreImagesOf (devices regions olds))
    (λ (blocks : List (Seen BlockStep)). devices regions blocks) = record {
      call = λ asked was now h. inr (h, refl);
      gives = λ world all whole h. record {
        words = h.words;
        contents = all whole.contents h.contents;
      };
    } in
    record {
      same = ap (λ (blocks : List (Seen BlockStep)). devices regions blocks) leaves.same;
      moments = all_among {put = λ (blocks : List (Seen BlockStep)). devices regions blocks}
          distinct carries leaves.moments;
    }

store-after : {asked_old asked_mid asked_new : List Asked} {old mid new : Devices} →
    LeavesStore asked_old old asked_mid mid → LeavesStore asked_mid mid asked_new new →
    LeavesStore asked_old old asked_new new
store-after {asked_old} {asked_mid} {asked_new} {old} {mid} {new} one two = record {
  same = two.same ∙ one.same;
  moments = all_after one.moments
      (all_weaker
      (λ (images : DeviceImages) are.
      subst (λ (these : Devices). AreImagesOf these images) one.same are)
      two.moments);
}

-- first calls on the regions, and then on the blocks
pub blocks-behind : {asked_old asked_mid asked_new : List Asked}
    {olds mids : List (Seen WordStep)} {blocks news : List (Seen BlockStep)} →
    AreDistinct (numbers_of (devices olds blocks)) →
    LeavesEach IsImage asked_old olds asked_mid mids →
    LeavesEach IsBlockImage asked_mid blocks asked_new news →
    LeavesStore asked_old (devices olds blocks) asked_new (devices mids news)
blocks-behind {asked_old} {asked_mid} {asked_new} {olds} {mids} {blocks} {news} distinct one two =
    store-after (regions-alone blocks distinct one)
    (blocks-alone mids
    (subst (λ (seens : List (Seen WordStep)). AreDistinct (numbers_of (devices seens blocks)))
    (sym one.same) distinct) two)

-- ---- the counts of faults

fell-front : (old new back : List ℕ) → NoneFell old new → NoneFell (old ++ back) (new ++ back)
fell-front [] [] back fell = none-fell back
fell-front [] (n ∷ new) back fell = absurd fell
fell-front (o ∷ old) [] back fell = absurd fell
fell-front (o ∷ old) (n ∷ new) back fell = (fell.0, fell-front old new back fell.1)

rose-front : (old new back : List ℕ) → SomeRose old new → SomeRose (old ++ back) (new ++ back)
rose-front [] new back rose = absurd rose
rose-front (o ∷ old) [] back rose = absurd rose
rose-front (o ∷ old) (n ∷ new) back rose = elim rose [
  | inl here ↦ inl here
  | inr behind ↦ inr (rose-front old new back behind)
]

fell-back : (front old new : List ℕ) → NoneFell old new → NoneFell (front ++ old) (front ++ new)
fell-back [] old new fell = fell
fell-back (n ∷ front) old new fell = (omega arith, fell-back front old new fell)

rose-back : (front old new : List ℕ) → SomeRose old new → SomeRose (front ++ old) (front ++ new)
rose-back [] old new rose = rose
rose-back (n ∷ front) old new rose = inr (rose-back front old new rose)

caused-front : (old new back : List ℕ) (error : ReadFailed) → ReadCaused old new error →
    ReadCaused (old ++ back) (new ++ back) error
caused-front old new back (Failed fault) caused = rose-front old new back caused
caused-front old new back NoMemory caused = ap (λ (ns : List ℕ). ns ++ back) caused

caused-back : (front old new : List ℕ) (error : ReadFailed) → ReadCaused old new error →
    ReadCaused (front ++ old) (front ++ new) error
caused-back front old new (Failed fault) caused = rose-back front old new caused
caused-back front old new NoMemory caused = ap (λ (ns : List ℕ). front ++ ns) caused

pub cause-front : {T : Type 0} (old new back : List ℕ) (result : Result T ReadFailed) →
    TellsCause ReadCaused old new result →
    TellsCause ReadCaused (old ++ back) (new ++ back) result
cause-front old new back (Ok t) cause = record {
  later = fell-front old new back cause.later;
  failed = tt;
  passed = ap (λ (ns : List ℕ). ns ++ back) cause.passed;
}
cause-front old new back (Err error) cause = record {
  later = fell-front old new back cause.later;
  failed = caused-front old new back error cause.failed;
  passed = tt;
}

pub cause-back : {T : Type 0} (front old new : List ℕ) (result : Result T ReadFailed) →
    TellsCause ReadCaused old new result →
    TellsCause ReadCaused (front ++ old) (front ++ new) result
cause-back front old new (Ok t) cause = record {
  later = fell-back front old new cause.later;
  failed = tt;
  passed = ap (λ (ns : List ℕ). front ++ ns) cause.passed;
}
cause-back front old new (Err error) cause = record {
  later = fell-back front old new cause.later;
  failed = caused-back front old new error cause.failed;
  passed = tt;
}

-- a call that stops behind calls that went well
pub stops : {T U : Type 0} (befores mids nows : List ℕ) (error : ReadFailed)
    (result : Result T ReadFailed) → IsErrAnd result (λ (e : ReadFailed). e ≡ error) →
    mids ≡ befores → TellsCause {T = U} ReadCaused mids nows (Err error) →
    TellsCause ReadCaused befores nows result
stops {T} befores mids nows error result is same cause =
    let p = err_from_is_err_and result is in
    subst (λ (r : Result T ReadFailed). TellsCause ReadCaused befores nows r)
    (sym (p.1 ∙ ap (λ (e : ReadFailed). Err e) p.2)) record {
      later = subst (λ (ns : List ℕ). NoneFell ns nows) same cause.later;
      failed = subst (λ (ns : List ℕ). ReadCaused ns nows error) same cause.failed;
      passed = tt;
    }

pub stops-first : {T U : Type 0} (befores nows : List ℕ) (fault : DeviceFault)
    (result : Result T ReadFailed) → IsErrAnd result (λ (e : ReadFailed). e ≡ Failed fault) →
    HaveCause {T = U} befores nows (Err fault) → TellsCause ReadCaused befores nows result
stops-first {T} befores nows fault result is cause =
    let p = err_from_is_err_and result is in
    subst (λ (r : Result T ReadFailed). TellsCause ReadCaused befores nows r)
    (sym (p.1 ∙ ap (λ (e : ReadFailed). Err e) p.2)) record {
      later = cause.later;
      failed = cause.failed;
      passed = tt;
    }

pub stops-behind : {T U : Type 0} (front fronts befores nows : List ℕ) (error : ReadFailed)
    (result : Result T ReadFailed) → IsErrAnd result (λ (e : ReadFailed). e ≡ error) →
    fronts ≡ front → TellsCause {T = U} ReadCaused befores nows (Err error) →
    TellsCause ReadCaused (front ++ befores) (fronts ++ nows) result
stops-behind {T} front fronts befores nows error result is same cause =
    subst (λ (ns : List ℕ). TellsCause ReadCaused (front ++ befores) (ns ++ nows) result) (sym same)
    (cause-back front befores nows result
    (stops befores befores nows error result is refl cause))

pub both-well : {T : Type 0} (front fronts befores nows : List ℕ) (t : T) → fronts ≡ front →
    nows ≡ befores → TellsCause ReadCaused (front ++ befores) (fronts ++ nows) (Ok t)
both-well front fronts befores nows t same behind =
    went-well (front ++ befores) (fronts ++ nows) t
    (ap (λ (ns : List ℕ). ns ++ nows) same ∙ ap (λ (ns : List ℕ). front ++ ns) behind)
