-- Words that are read one after another.
use Rattle.std.proofs.Common.{ℕ, zero, suc, ◌+◌, ◌-◌, ◌<◌, ◌≡◌, ◌∙◌, Bool, true, false, IsTrue, Result, Ok, Err, List, [], ◌∷◌, ◌++◌, length, drop, refl, sym, ap, subst, arith}
use Rattle.cfs_pmem.specs.declared.trace.Asked.{Asked}
use Rattle.cfs_pmem.specs.declared.trace.Asked.TheVariants.{Step}
use Rattle.cfs_pmem.specs.Asks.{AsksSome}
use Rattle.cfs_pmem.specs.Images.{Seen, WordStep, devices_of}
use Rattle.cfs_pmem.specs.Operations.{LastFails, all_allowed, last_refused, after_all}
use Rattle.cfs_pmem.specs.WordOps.{WordOp, word_asks, word_done, WordFails, DoesWords}
use Rattle.cfs_pmem.proofs.CallLemmas.{does_front}
use Rattle.cfs_pmem.proofs.MomentLemmas.{begun, with_reading}
use Rattle.cfs_slot.specs.Operations.{gets}
use Rattle.cfs_slot.specs.Reading.{HasRead}

pub read_none : (obeys : Bool) (asked : List Asked) (seen : Seen WordStep) → HasRead obeys 0 asked seen asked seen
read_none obeys asked seen = record { same = refl; asked = λ o. refl; moments = begun asked seen (λ image h. h) }

pub read_more : {obeys : Bool} {k : ℕ} {asked_old asked_mid asked_new : List Asked} {old mid new : Seen WordStep}
    → HasRead obeys k asked_old old asked_mid mid → new ≡ mid → AsksSome (devices_of mid) asked_mid asked_new
    → (IsTrue obeys → asked_new ≡ Step mid.device false true ∷ asked_mid) → HasRead obeys (k + 1) asked_old old asked_new new
read_more {obeys} {k} {asked_old} {asked_mid} {asked_new} {old} {mid} {new} h e asks asked =
    let next : suc k ≡ k + 1 = omega arith in
    subst (λ n. HasRead obeys n asked_old old asked_new new) next
    record {
      same = e ∙ h.same;
      asked = λ o. asked o ∙ ap (λ (s : Seen WordStep). Step s.device false true ∷ asked_mid) h.same ∙ ap (λ s. Step old.device false true ∷ s) (h.asked o);
      moments = with_reading h.moments e asks;
    }

-- nothing changes
reads_same : (n : ℕ) (seen : Seen WordStep) → after_all word_done (gets n) seen ≡ seen
reads_same zero seen = refl
reads_same (suc k) seen = reads_same k seen

pub reads_all : {T E : Type 0} {obeys : Bool} {n k : ℕ} {asked_old asked_new : List Asked} {old new : Seen WordStep} (t : T) → k ≡ n
    → HasRead obeys k asked_old old asked_new new → IsTrue obeys → DoesWords {T = T} {E = E} (gets n) (Ok t) asked_old old asked_new new
reads_all {T} {E} {obeys} {n} {k} {asked_old} {asked_new} {old} {new} t end h o = record {
  all = record {
    state = h.same ∙ sym (reads_same n old);
    asked = h.asked o ∙ ap (λ m. all_allowed (word_asks old.device) (gets m) ++ asked_old) end;
  };
  front = tt;
}

drop-gets : (left k : ℕ) → drop left (gets (left + k)) ≡ gets k
drop-gets zero k = let e : 0 + k ≡ k = omega arith in ap (λ n. drop 0 (gets n)) e ∙ none_dropped (gets k)
  where
    none_dropped : (ops : List WordOp) → drop 0 ops ≡ ops
    none_dropped [] = refl
    none_dropped (op ∷ ops) = refl
drop-gets (suc left) k =
    let next : suc left + k ≡ suc (left + k) = omega arith in
    ap (λ n. drop (suc left) (gets n)) next ∙ drop-gets left k

length-gets : (n : ℕ) → length (gets n) ≡ n
length-gets zero = refl
length-gets (suc k) = ap (λ n. suc n) (length-gets k)

-- the next read failed
pub reads_front : {T E : Type 0} {obeys : Bool} {n k : ℕ} {result : Result T E} {asked_old asked_mid asked_new : List Asked} {old mid new : Seen WordStep} (e : E) → result ≡ Err e → k < n
    → HasRead obeys k asked_old old asked_mid mid → new ≡ mid → (IsTrue obeys → asked_new ≡ Step mid.device false false ∷ asked_mid)
    → IsTrue obeys → DoesWords (gets n) result asked_old old asked_new new
reads_front {T} {E} {obeys} {n} {k} {result} {asked_old} {asked_mid} {asked_new} {old} {mid} {new} e is l h same asked o =
    let left : ℕ = n - suc k in
    let count : left + suc k ≡ n = omega arith in
    let front : drop left (gets n) ≡ gets (suc k) = ap (λ m. drop left (gets m)) (sym count) ∙ drop-gets left (suc k) in
    does_front e is record {
      left = left;
      within = omega (arith, length-gets n);
      state = subst (λ xs. LastFails word_done WordFails xs old new) (sym front) (same ∙ h.same ∙ sym (reads_same k old));
      asked = asked o ∙ ap (λ (s : Seen WordStep). Step s.device false false ∷ asked_mid) h.same ∙ ap (λ s. Step old.device false false ∷ s) (h.asked o)
          ∙ ap (λ xs. last_refused (word_asks old.device) xs ++ asked_old) (sym front);
    }
