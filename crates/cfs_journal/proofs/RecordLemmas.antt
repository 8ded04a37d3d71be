-- A record that is written behind its gate, and its gate.
use Rattle.std.proofs.Common.{ℕ, ◌+◌, ◌≡◌, ◌∙◌, Bool, true, false, IsTrue, Result, Ok, Err, List, [], ◌∷◌, ◌++◌, length, get_or, drop, inl, inr, refl, sym, ap, subst, arith}
use Rattle.std.proofs.Math.ListN.{set}
use Rattle.std.proofs.lemmas.List.{append-nil, drop_all}
use Rattle.cfs_dir.specs.declared.change.Change.{Change}
use Rattle.cfs_dir.specs.declared.change.Change.TheVariants as changes
use Rattle.cfs_dir.specs.Words.{change_words}
use Rattle.cfs_pmem.specs.declared.trace.Asked.{Asked}
use Rattle.cfs_pmem.specs.declared.trace.Asked.TheVariants.{Step}
use Rattle.cfs_pmem.specs.Asks.{AsksSome}
use Rattle.cfs_pmem.specs.Images.{Seen, WordStep, devices_of, words_of, failed, kept, patched, IsImage, IsSetFrom, IsSetWithin, IsSure}
use Rattle.cfs_pmem.specs.Moments.{Moments}
use Rattle.cfs_pmem.specs.Operations.{AllDone}
use Rattle.cfs_pmem.specs.WordOps.{WordOp, persist, word_asks, word_done, puts, set_ops, SetsWord, WritesWords}
use Rattle.cfs_pmem.proofs.CallLemmas.{done_more, fails_next, front_of, words_after}
use Rattle.cfs_pmem.proofs.ImageLemmas.{now_is_image}
use Rattle.cfs_pmem.proofs.MomentLemmas.{after, on_failure, on_persist, weaker}
use Rattle.cfs_journal.specs.Records.{HasGateOf, IsRecordFrom, WritesRecord}

pub length-change_words : (change : Change) → length (change_words change) ≡ 15
length-change_words (changes.Create node) = refl
length-change_words (changes.Remove rec ino) = refl
length-change_words (changes.Move node replaced) = refl

-- fifteen words behind the gate, and the gate
opened : (words new : List ℕ) (number : ℕ) → length words ≡ 16 → length new ≡ 15 → set (patched words 1 new) 0 number ≡ number ∷ new
opened [] new number size many = absurd (omega (arith, size))
opened (w ∷ words) new number size many =
    let none : drop (1 + length new) (w ∷ words) ≡ [] = drop_all (1 + length new) (w ∷ words) (omega arith) in
    ap (λ (rest : List ℕ). number ∷ (new ++ rest)) none ∙ ap (λ (ws : List ℕ). number ∷ ws) (append-nil new)

gate-patched : (words new : List ℕ) → length words ≡ 16 → get_or (patched words 1 new) 0 0 ≡ get_or words 0 0
gate-patched [] new size = absurd (omega (arith, size))
gate-patched (w ∷ words) new size = refl

length-behind : (words new : List ℕ) → length words ≡ 16 → length new ≡ 15 → length (patched words 1 new) ≡ 16
length-behind [] new size many = absurd (omega (arith, size))
length-behind (w ∷ words) new size many =
    let none : drop (1 + length new) (w ∷ words) ≡ [] = drop_all (1 + length new) (w ∷ words) (omega arith) in
    ap (λ (rest : List ℕ). length (w ∷ (new ++ rest))) none ∙ ap (λ (ws : List ℕ). length (w ∷ ws)) (append-nil new) ∙ omega arith

-- a word from the second on leaves the gate
within-gate : (old : Seen WordStep) (words image : List ℕ) → length (words_of old) ≡ 16 → IsSetWithin old 1 words image → HasGateOf old image
within-gate old words image size h = record {
  first = h.first;
  possible = h.possible;
  size = h.size;
  gate = elim (h.each 0 (omega (arith, h.size, h.possible.size))) [
    | inl same ↦ same
    | inr inside ↦ absurd (omega (arith, inside.0))
  ];
}

-- These operations were done, which leave the change behind the gate.
pub record IsBehind (obeys : Bool) (number : ℕ) (change : Change) (ops : List WordOp)
    (asked_old : List Asked) (old : Seen WordStep) (asked_new : List Asked) (new : Seen WordStep) : Type 0 where
  pub words : words_of new ≡ patched (words_of old) 1 (change_words change)
  pub size : length (words_of new) ≡ 16
  pub done : IsTrue obeys → AllDone (word_asks old.device) word_done ops asked_old old asked_new new
  pub moments : Moments IsImage (IsRecordFrom old number change) asked_old old asked_new new

pub behind_words : {T E : Type 0} {obeys : Bool} {number : ℕ} {asked_old asked_new : List Asked} {old new : Seen WordStep} (change : Change) (words : List ℕ) (t : T) → words ≡ change_words change
    → length (words_of old) ≡ 16 → WritesWords {T = T} {E = E} obeys 1 words (Ok t) asked_old old asked_new new
    → IsBehind obeys number change (puts 1 (change_words change) (length (change_words change))) asked_old old asked_new new
behind_words {T} {E} {obeys} {number} {asked_old} {asked_new} {old} {new} change words t is size written =
    let w : WritesWords {T = T} {E = E} obeys 1 (change_words change) (Ok t) asked_old old asked_new new =
    subst (λ ws. WritesWords {T = T} {E = E} obeys 1 ws (Ok t) asked_old old asked_new new) is written in
    record {
      words = w.words_are;
      size = w.size ∙ size;
      done = λ o. (w.does o).all;
      moments = weaker (λ image h. inl (within-gate old (change_words change) image size h)) w.moments;
    }

pub behind_persist : {obeys : Bool} {number : ℕ} {change : Change} {ops : List WordOp} {asked_old asked_mid asked_new : List Asked} {old mid new : Seen WordStep}
    → IsBehind obeys number change ops asked_old old asked_mid mid → new ≡ kept mid → AsksSome (devices_of mid) asked_mid asked_new
    → (IsTrue obeys → asked_new ≡ Step mid.device true true ∷ asked_mid) → IsBehind obeys number change (persist ∷ ops) asked_old old asked_new new
behind_persist {asked_mid = asked_mid} {old = old} {mid = mid} b k asks asked = record {
  words = ap (λ (s : Seen WordStep). words_of s) k ∙ b.words;
  size = ap (λ (s : Seen WordStep). length (words_of s)) k ∙ b.size;
  done = λ o. done_more persist (b.done o) k (asked o ∙ ap (λ (d : ℕ). Step d true true ∷ asked_mid) b.moments.same);
  moments = on_persist b.moments k asks;
}

-- the words failed
pub record_at_words : {T E U F : Type 0} {obeys : Bool} {number : ℕ} {result : Result T E} {asked_old asked_new : List Asked} {old new : Seen WordStep} (change : Change) (words : List ℕ) (e : E) → result ≡ Err e → (f : F)
    → words ≡ change_words change → length (words_of old) ≡ 16 → WritesWords {T = U} {E = F} obeys 1 words (Err f) asked_old old asked_new new
    → WritesRecord obeys number change result asked_old old asked_new new
record_at_words {T} {E} {U} {F} {obeys} {number} {result} {asked_old} {asked_new} {old} {new} change words e is f same size written =
    let w : WritesWords {T = U} {E = F} obeys 1 (change_words change) (Err f) asked_old old asked_new new =
    subst (λ ws. WritesWords {T = U} {E = F} obeys 1 ws (Err f) asked_old old asked_new new) same written in
    subst (λ r. WritesRecord obeys number change r asked_old old asked_new new) (sym is)
    record {
      ok = tt;
      sure = tt;
      size = w.size ∙ size;
      does = λ o. record { all = tt; front = front_of (set_ops 0 number ++ (persist ∷ [])) (w.does o).front };
      moments = weaker (λ image h. inl (within-gate old (change_words change) image size h)) w.moments;
    }

-- the first persist failed
pub record_at_persist : {T E : Type 0} {obeys : Bool} {number : ℕ} {change : Change} {result : Result T E} {asked_old asked_mid asked_new : List Asked} {old mid new : Seen WordStep} (e : E) → result ≡ Err e
    → IsBehind obeys number change (puts 1 (change_words change) (length (change_words change))) asked_old old asked_mid mid → new ≡ failed mid → AsksSome (devices_of mid) asked_mid asked_new
    → (IsTrue obeys → asked_new ≡ Step mid.device true false ∷ asked_mid) → WritesRecord obeys number change result asked_old old asked_new new
record_at_persist {obeys = obeys} {number = number} {change = change} {asked_old = asked_old} {asked_mid = asked_mid} {asked_new = asked_new} {old = old} {mid = mid} {new = new} e is b f asks asked =
    subst (λ r. WritesRecord obeys number change r asked_old old asked_new new) (sym is)
    record {
      ok = tt;
      sure = tt;
      size = ap (λ (s : Seen WordStep). length (words_of s)) f ∙ b.size;
      does = λ o. record {
        all = tt;
        front = front_of (set_ops 0 number)
            (fails_next persist (b.done o) f (asked o ∙ ap (λ (d : ℕ). Step d true false ∷ asked_mid) b.moments.same));
      };
      moments = on_failure b.moments f asks;
    }

-- an image of the words behind the gate, or with the gate set
gated : {obeys : Bool} {number : ℕ} {change : Change} {ops : List WordOp} {asked_old asked_mid : List Asked} {old mid : Seen WordStep} → length (words_of old) ≡ 16
    → IsBehind obeys number change ops asked_old old asked_mid mid → IsSure mid → (image : List ℕ) → IsSetFrom mid 0 number image → IsRecordFrom old number change image
gated {number = number} {change = change} {old = old} size b sure image h =
    let first : h.first ≡ patched (words_of old) 1 (change_words change) = sure h.first h.possible ∙ b.words in
    elim h.same [
      | inl same ↦ inl record {
        first = words_of old;
        possible = now_is_image old.history;
        size = ap (λ (ws : List ℕ). length ws) (same ∙ first) ∙ length-behind (words_of old) (change_words change) size (length-change_words change) ∙ sym size;
        gate = ap (λ (ws : List ℕ). get_or ws 0 0) (same ∙ first) ∙ gate-patched (words_of old) (change_words change) size;
      }
      | inr set_it ↦ inr (set_it ∙ ap (λ (ws : List ℕ). set ws 0 number) first ∙ opened (words_of old) (change_words change) number size (length-change_words change))
    ]

-- the gate failed
pub record_at_gate : {T E U F : Type 0} {obeys : Bool} {number : ℕ} {change : Change} {result : Result T E} {asked_old asked_mid asked_new : List Asked} {old mid new : Seen WordStep} (e : E) → result ≡ Err e → (f : F)
    → length (words_of old) ≡ 16 → IsBehind obeys number change (persist ∷ puts 1 (change_words change) (length (change_words change))) asked_old old asked_mid mid → IsSure mid
    → SetsWord {T = U} {E = F} obeys 0 number (Err f) asked_mid mid asked_new new → WritesRecord obeys number change result asked_old old asked_new new
record_at_gate {obeys = obeys} {number = number} {change = change} {asked_old = asked_old} {asked_new = asked_new} {old = old} {new = new} e is f size b sure s =
    subst (λ r. WritesRecord obeys number change r asked_old old asked_new new) (sym is)
    record {
      ok = tt;
      sure = tt;
      size = s.size ∙ b.size;
      does = λ o. words_after (Err e) (b.done o) (record { all = tt; front = (s.does o).front });
      moments = after b.moments (weaker (gated size b sure) s.moments);
    }

-- all went well
pub record_whole : {T E U F : Type 0} {obeys : Bool} {number : ℕ} {change : Change} {asked_old asked_mid asked_new : List Asked} {old mid new : Seen WordStep} (t : T) (u : U)
    → length (words_of old) ≡ 16 → IsBehind obeys number change (persist ∷ puts 1 (change_words change) (length (change_words change))) asked_old old asked_mid mid → IsSure mid
    → SetsWord {T = U} {E = F} obeys 0 number (Ok u) asked_mid mid asked_new new → WritesRecord {T = T} {E = E} obeys number change (Ok t) asked_old old asked_new new
record_whole {number = number} {change = change} {old = old} t u size b sure s = record {
  ok = ap (λ (x : Seen WordStep). words_of x) s.ok
      ∙ (ap (λ (ws : List ℕ). set ws 0 number) b.words ∙ opened (words_of old) (change_words change) number size (length-change_words change));
  sure = s.sure;
  size = s.size ∙ b.size;
  does = λ o. words_after (Ok t) (b.done o) (record { all = (s.does o).all; front = tt });
  moments = after b.moments (weaker (gated size b sure) s.moments);
}
