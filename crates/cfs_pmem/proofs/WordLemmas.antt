-- Calls that write words: a word that is set and persisted, and words one after another.
use Rattle.std.proofs.Common.{ℕ, zero, suc, ◌+◌, ◌-◌, ◌<◌, ◌≤◌, ◌≡◌, ◌⊎◌, ◌∙◌, Bool, true, false, IsTrue, Result, Ok, Err, List, [], ◌∷◌, ◌++◌, length, get_or, take, drop, inl, inr, refl, sym, ap, subst, arith, get_or-set_same, get_or-set_other}
use Rattle.std.proofs.Math.ListN.{set}
use Rattle.std.proofs.lemmas.List.{length-set, length-take-le, take_all}
use Rattle.std.proofs.lemmas.Bool.{cases_eq}
use Rattle.cfs_pmem.specs.declared.trace.Asked.{Asked}
use Rattle.cfs_pmem.specs.declared.trace.Asked.TheVariants.{Step}
use Rattle.cfs_pmem.specs.Asks.{AsksSome}
use Rattle.cfs_pmem.specs.Images.{Seen, WordStep, devices_of, words_of, wrote, failed, kept, patched, IsImage, IsSetWithin}
use Rattle.cfs_pmem.specs.Operations.{after_all, LastFails, last_refused}
use Rattle.cfs_pmem.specs.WordOps.{WordOp, word_asks, word_done, WordFails, puts, SetsWord, HasWritten, WritesWords}
use Rattle.cfs_pmem.proofs.ImageLemmas.{set_from_same, set_from_wrote, sure_kept}
use Rattle.cfs_pmem.proofs.Patches.{length-patched, patched_none, patched_more}
use Rattle.cfs_pmem.proofs.MomentLemmas.{begun, extended, on_failure, on_persist, on_write}

-- A word that is set and persisted: the write failed, the persist failed, and both went well.

pub set_at_write : {T E : Type 0} {obeys : Bool} {at word : ℕ} {result : Result T E} {asked_old asked_new : List Asked} {old new : Seen WordStep} (e : E) → result ≡ Err e
    → at < length (words_of old) → new ≡ failed old → AsksSome (devices_of old) asked_old asked_new
    → (IsTrue obeys → asked_new ≡ Step old.device true false ∷ asked_old)
    → SetsWord obeys at word result asked_old old asked_new new
set_at_write {T} {E} {obeys} {at} {word} {result} {asked_old} {asked_new} {old} {new} e is l f asks asked =
    subst (λ r. SetsWord obeys at word r asked_old old asked_new new) (sym is)
    record {
      ok = tt;
      sure = tt;
      err = inl f;
      size = ap (λ (s : Seen WordStep). length (words_of s)) f;
      does = λ o. record { all = tt; front = record { left = 1; within = omega arith; state = f; asked = asked o } };
      moments = on_failure (begun _ _ (set_from_same _ at word)) f asks;
    }

pub set_at_persist : {T E : Type 0} {obeys : Bool} {at word : ℕ} {result : Result T E} {asked_old asked_mid asked_new : List Asked} {old mid new : Seen WordStep} (e : E) → result ≡ Err e
    → at < length (words_of old) → mid ≡ wrote at word old → AsksSome (devices_of old) asked_old asked_mid
    → (IsTrue obeys → asked_mid ≡ Step old.device true true ∷ asked_old)
    → new ≡ failed mid → AsksSome (devices_of mid) asked_mid asked_new
    → (IsTrue obeys → asked_new ≡ Step mid.device true false ∷ asked_mid)
    → SetsWord obeys at word result asked_old old asked_new new
set_at_persist {T} {E} {obeys} {at} {word} {result} {asked_old} {asked_mid} {asked_new} {old} {mid} {new} e is l w asks_mid asked_to f asks asked =
    let stands : new ≡ failed (wrote at word old) = f ∙ ap (λ s. failed s) w in
    subst (λ r. SetsWord obeys at word r asked_old old asked_new new) (sym is)
    record {
      ok = tt;
      sure = tt;
      err = inr stands;
      size = ap (λ (s : Seen WordStep). length (words_of s)) stands ∙ length-set (words_of old) at word;
      does = λ o. record {
        all = tt;
        front = record {
          left = 0;
          within = omega arith;
          state = stands;
          asked = asked o ∙ ap (λ (s : Seen WordStep). Step s.device true false ∷ asked_mid) w ∙ ap (λ s. Step old.device true false ∷ s) (asked_to o);
        };
      };
      moments = on_failure (extended _ (begun _ _ (set_from_same _ at word)) w asks_mid (set_from_wrote _ at word l w)) f asks;
    }

pub set_whole : {T E : Type 0} {obeys : Bool} {at word : ℕ} {asked_old asked_mid asked_new : List Asked} {old mid new : Seen WordStep} (t : T)
    → at < length (words_of old) → mid ≡ wrote at word old → AsksSome (devices_of old) asked_old asked_mid
    → (IsTrue obeys → asked_mid ≡ Step old.device true true ∷ asked_old)
    → new ≡ kept mid → AsksSome (devices_of mid) asked_mid asked_new
    → (IsTrue obeys → asked_new ≡ Step mid.device true true ∷ asked_mid)
    → SetsWord {T = T} {E = E} obeys at word (Ok t) asked_old old asked_new new
set_whole {T} {E} {obeys} {at} {word} {asked_old} {asked_mid} {asked_new} {old} {mid} {new} t l w asks_mid asked_to k asks asked =
    let stands : new ≡ kept (wrote at word old) = k ∙ ap (λ s. kept s) w in
    record {
      ok = stands;
      sure = sure_kept mid k;
      err = tt;
      size = ap (λ (s : Seen WordStep). length (words_of s)) stands ∙ length-set (words_of old) at word;
      does = λ o. record {
        front = tt;
        all = record {
          state = stands;
          asked = asked o ∙ ap (λ (s : Seen WordStep). Step s.device true true ∷ asked_mid) w ∙ ap (λ s. Step old.device true true ∷ s) (asked_to o);
        };
      };
      moments = on_persist (extended _ (begun _ _ (set_from_same _ at word)) w asks_mid (set_from_wrote _ at word l w)) k asks;
    }

-- Words one after another.

pub length-puts : (from : ℕ) (words : List ℕ) (n : ℕ) → length (puts from words n) ≡ n
length-puts from words zero = refl
length-puts from words (suc k) = ap (λ n. suc n) (length-puts from words k)

-- without the newest ones
pub drop-puts : (from : ℕ) (words : List ℕ) (left k : ℕ) → drop left (puts from words (left + k)) ≡ puts from words k
drop-puts from words zero k = ap (λ n. drop 0 (puts from words n)) (omega arith) ∙ none_dropped (puts from words k)
  where
    none_dropped : (ops : List WordOp) → drop 0 ops ≡ ops
    none_dropped [] = refl
    none_dropped (op ∷ ops) = refl
drop-puts from words (suc left) k =
    let next : suc left + k ≡ suc (left + k) = omega arith in
    ap (λ n. drop (suc left) (puts from words n)) next ∙ drop-puts from words left k

within_same : (old : Seen WordStep) (from : ℕ) (words image : List ℕ) → IsImage old.history image → IsSetWithin old from words image
within_same old from words image h = record { first = image; possible = h; size = refl; each = λ k l. inl refl }

within_set : (old : Seen WordStep) (from : ℕ) (words image : List ℕ) (k word : ℕ) → word ≡ get_or words k 0 → k < length words
    → IsSetWithin old from words image → IsSetWithin old from words (set image (from + k) word)
within_set old from words image k word is l h = record {
  first = h.first;
  possible = h.possible;
  size = length-set image (from + k) word ∙ h.size;
  each = λ j lj.
      let size : length (set image (from + k) word) ≡ length image = length-set image (from + k) word in
      elim (cases_eq j (from + k)) [
        | inl here ↦ inr (
          omega arith,
          omega arith,
          ap (λ n. get_or (set image (from + k) word) n 0) here ∙ get_or-set_same image (from + k) word 0 (omega arith) ∙ is
              ∙ ap (λ n. get_or words n 0) (omega arith),
        )
        | inr other ↦ subst (λ v. (v ≡ get_or h.first j 0) ⊎ ((from ≤ j) × (j < from + length words) × (v ≡ get_or words (j - from) 0)))
            (sym (get_or-set_other image (from + k) j word 0 other)) (h.each j (omega arith))
      ];
}

pub written_none : (obeys : Bool) (from : ℕ) (words : List ℕ) (asked : List Asked) (old : Seen WordStep) → HasWritten obeys from words 0 asked old asked old
written_none obeys from words asked old = record {
  within = omega arith;
  state = refl;
  asked = λ o. refl;
  words_are = sym (patched_none (words_of old) from words);
  moments = begun asked old (λ image h. within_same old from words image h);
}

-- how many words there are
pub written-size : {obeys : Bool} {from : ℕ} {words : List ℕ} {k : ℕ} {asked_old asked_mid : List Asked} {old mid : Seen WordStep} → from + length words ≤ length (words_of old)
    → HasWritten obeys from words k asked_old old asked_mid mid → length (words_of mid) ≡ length (words_of old)
written-size {obeys} {from} {words} {k} {asked_old} {asked_mid} {old} {mid} fits h =
    let size : length (take k words) ≡ k = length-take-le k words h.within in
    ap (λ (ws : List ℕ). length ws) h.words_are ∙ length-patched (words_of old) from (take k words) (omega (arith, h.within))

-- one more word
pub written_more : {obeys : Bool} {from : ℕ} {words : List ℕ} {k : ℕ} {asked_old asked_mid asked_new : List Asked} {old mid new : Seen WordStep} (word : ℕ) → word ≡ get_or words k 0
    → k < length words → from + length words ≤ length (words_of old) → HasWritten obeys from words k asked_old old asked_mid mid
    → new ≡ wrote (from + k) word mid → AsksSome (devices_of mid) asked_mid asked_new → (IsTrue obeys → asked_new ≡ Step mid.device true true ∷ asked_mid)
    → HasWritten obeys from words (k + 1) asked_old old asked_new new
written_more {obeys} {from} {words} {k} {asked_old} {asked_mid} {asked_new} {old} {mid} {new} word is l fits h w asks asked =
    let size : length (words_of mid) ≡ length (words_of old) = written-size fits h in
    let next : suc k ≡ k + 1 = omega arith in
    subst (λ n. HasWritten obeys from words n asked_old old asked_new new) next
    record {
      within = omega arith;
      state = w ∙ ap (λ v. wrote (from + k) v mid) is ∙ ap (λ s. wrote (from + k) (get_or words k 0) s) h.state;
      asked = λ o. asked o ∙ ap (λ d. Step d true true ∷ asked_mid) h.moments.same ∙ ap (λ s. Step old.device true true ∷ s) (h.asked o);
      words_are = ap (λ (s : Seen WordStep). words_of s) w ∙ ap (λ v. set (words_of mid) (from + k) v) is ∙ ap (λ ws. set ws (from + k) (get_or words k 0)) h.words_are
          ∙ patched_more (words_of old) from words k fits l;
      moments = on_write (from + k) word (omega arith) h.moments w asks (λ image p. within_set old from words image k word is l p);
    }

-- all words
pub writes_all : {T E : Type 0} {obeys : Bool} {from : ℕ} {words : List ℕ} {k : ℕ} {asked_old asked_new : List Asked} {old new : Seen WordStep} (t : T) → length words ≤ k
    → from + length words ≤ length (words_of old) → HasWritten obeys from words k asked_old old asked_new new → WritesWords {T = T} {E = E} obeys from words (Ok t) asked_old old asked_new new
writes_all {T} {E} {obeys} {from} {words} {k} {asked_old} {asked_new} {old} {new} t past fits h =
    let end : k ≡ length words = omega (arith, h.within) in
    let all : HasWritten obeys from words (length words) asked_old old asked_new new = subst (λ n. HasWritten obeys from words n asked_old old asked_new new) end h in
    record {
      ok = all.state;
      words_are = all.words_are ∙ ap (λ ws. patched (words_of old) from ws) (take_all (length words) words (omega arith));
      stopped = tt;
      size = written-size fits all;
      does = λ o. record { all = record { state = all.state; asked = all.asked o }; front = tt };
      moments = all.moments;
    }

-- the next word failed
pub writes_front : {T E : Type 0} {obeys : Bool} {from : ℕ} {words : List ℕ} {k : ℕ} {result : Result T E} {asked_old asked_mid asked_new : List Asked} {old mid new : Seen WordStep} (e : E) → result ≡ Err e
    → k < length words → from + length words ≤ length (words_of old) → HasWritten obeys from words k asked_old old asked_mid mid
    → new ≡ failed mid → AsksSome (devices_of mid) asked_mid asked_new → (IsTrue obeys → asked_new ≡ Step mid.device true false ∷ asked_mid)
    → WritesWords obeys from words result asked_old old asked_new new
writes_front {T} {E} {obeys} {from} {words} {k} {result} {asked_old} {asked_mid} {asked_new} {old} {mid} {new} e is l fits h f asks asked =
    let ops : List WordOp = puts from words (length words) in
    let left : ℕ = length words - suc k in
    let count : left + suc k ≡ length words = omega arith in
    let front : drop left ops ≡ puts from words (suc k) = ap (λ n. drop left (puts from words n)) (sym count) ∙ drop-puts from words left (suc k) in
    let within : left < length ops = omega (arith, length-puts from words (length words)) in
    let stands : new ≡ failed (after_all word_done (puts from words k) old) = f ∙ ap (λ s. failed s) h.state in
    let state : LastFails word_done WordFails (drop left ops) old new = subst (λ xs. LastFails word_done WordFails xs old new) (sym front) stands in
    subst (λ r. WritesWords obeys from words r asked_old old asked_new new) (sym is)
    record {
      ok = tt;
      words_are = tt;
      stopped = record { left = left; within = within; state = state };
      size = ap (λ (s : Seen WordStep). length (words_of s)) f ∙ written-size fits h;
      does = λ o. record {
        all = tt;
        front = record {
          left = left;
          within = within;
          state = state;
          asked = asked o ∙ ap (λ d. Step d true false ∷ asked_mid) h.moments.same ∙ ap (λ s. Step old.device true false ∷ s) (h.asked o)
              ∙ ap (λ xs. last_refused (word_asks old.device) xs ++ asked_old) (sym front);
        };
      };
      moments = on_failure h.moments f asks;
    }
