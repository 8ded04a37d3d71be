-- Moments of a call on one object, step by step and call by call.
use Rattle.std.proofs.Common.{ℕ, zero, suc, ◌+◌, ◌-◌, ◌<◌, ◌≤◌, ◌≡◌, ◌∙◌, List, [], ◌∷◌, ◌++◌, length, drop, inl, inr, refl, sym, ap, subst, arith, append_assoc}
use Rattle.std.proofs.Math.ListN.{set}
use Rattle.std.proofs.lemmas.List.{drop-drop}
use Rattle.std.proofs.lemmas.Bool.{cases_lt}
use Rattle.cfs_pmem.specs.declared.trace.Asked.{Asked}
use Rattle.cfs_pmem.specs.Asks.{AreStepsOn, AsksSome}
use Rattle.cfs_pmem.specs.Images.{WordStep, Seen, devices_of, stepped, words_of, wrote, failed, kept, IsImage}
use Rattle.cfs_pmem.specs.Moments.{Call, ticking, reading, ticks_in, asked_in, AreCallsOn, Moments}
use Rattle.cfs_pmem.proofs.ImageLemmas.{all_failed, all_kept, all_wrote, now_is_image}

pub ticks_in-append : (later earlier : List Call) → ticks_in (later ++ earlier) ≡ ticks_in later + ticks_in earlier
ticks_in-append [] earlier = omega arith
ticks_in-append (ticking asked ∷ later) earlier = let rest = ticks_in-append later earlier in omega arith
ticks_in-append (reading asked ∷ later) earlier = ticks_in-append later earlier

pub asked_in-append : (later earlier : List Call) → asked_in (later ++ earlier) ≡ asked_in later ++ asked_in earlier
asked_in-append [] earlier = refl
asked_in-append (ticking asked ∷ later) earlier =
    ap (λ s. asked ++ s) (asked_in-append later earlier) ∙ sym (append_assoc asked (asked_in later) (asked_in earlier))
asked_in-append (reading asked ∷ later) earlier =
    ap (λ s. asked ++ s) (asked_in-append later earlier) ∙ sym (append_assoc asked (asked_in later) (asked_in earlier))

pub calls_both : (devices : List ℕ) (later earlier : List Call) → AreCallsOn devices later → AreCallsOn devices earlier → AreCallsOn devices (later ++ earlier)
calls_both devices [] earlier a b = b
calls_both devices (ticking asked ∷ later) earlier a b = (a.0, a.1, calls_both devices later earlier a.2 b)
calls_both devices (reading asked ∷ later) earlier a b = (a.0, a.1, calls_both devices later earlier a.2 b)

-- the devices stay
same_devices : {Form : Type 0} (old new : Seen Form) → new.device ≡ old.device → new.also ≡ old.also → devices_of new ≡ devices_of old
same_devices old new d a = ap (λ n. n ∷ new.also) d ∙ ap (λ ns. old.device ∷ ns) a

-- before its first step
pub begun : {Form Image : Type 0} {IsImage : List Form → Image → Type 0} {P : Image → Type 0} (asked : List Asked) (seen : Seen Form)
    → ((image : Image) → IsImage seen.history image → P image) → Moments IsImage P asked seen asked seen
begun {Form} {Image} {IsImage} {P} asked seen all = record {
  calls = [];
  own = tt;
  asked = refl;
  same = refl;
  same_also = refl;
  clock = omega arith;
  before = refl;
  each = λ ago l image h. let now : ago ≡ 0 = omega arith in all image (subst (λ n. IsImage (drop n seen.history) image) now h);
}

one_step : {Form Image : Type 0} {IsImage : List Form → Image → Type 0} {P : Image → Type 0} {asked_old asked_mid asked_new : List Asked} {old mid : Seen Form} (step : Form)
    → Moments IsImage P asked_old old asked_mid mid → AsksSome (devices_of mid) asked_mid asked_new → ((image : Image) → IsImage (step ∷ mid.history) image → P image)
    → Moments IsImage P asked_old old asked_new (stepped step mid)
one_step {Form} {Image} {IsImage} {P} {asked_old} {asked_mid} {asked_new} {old} {mid} step m asks all = record {
  calls = ticking asks.made ∷ m.calls;
  own = (asks.some, subst (λ ds. AreStepsOn ds asks.made) (same_devices old mid m.same m.same_also) asks.own, m.own);
  asked = asks.is ∙ ap (λ s. asks.made ++ s) m.asked ∙ sym (append_assoc asks.made (asked_in m.calls) asked_old);
  same = m.same;
  same_also = m.same_also;
  clock = omega (arith, m.clock);
  before = m.before;
  each = λ ago. elim ago as (λ n. n ≤ suc (ticks_in m.calls) → (image : Image) → IsImage (drop n (step ∷ mid.history)) image → P image) [
    | zero ↦ λ l image h. all image h
    | suc k ↦ λ l image h. m.each k (omega arith) image h
  ];
}

-- one more call that writes
pub extended : {Form Image : Type 0} {IsImage : List Form → Image → Type 0} {P : Image → Type 0} {asked_old asked_mid asked_new : List Asked} {old mid new : Seen Form} (step : Form)
    → Moments IsImage P asked_old old asked_mid mid → new ≡ stepped step mid → AsksSome (devices_of mid) asked_mid asked_new → ((image : Image) → IsImage new.history image → P image)
    → Moments IsImage P asked_old old asked_new new
extended {Form} {Image} {IsImage} {P} {asked_old} {asked_mid} {asked_new} {old} {mid} {new} step m e asks all =
    subst (λ s. Moments IsImage P asked_old old asked_new s) (sym e)
    (one_step step m asks (subst (λ s. (image : Image) → IsImage s.history image → P image) e all))

-- one more call that reads
pub with_reading : {Form Image : Type 0} {IsImage : List Form → Image → Type 0} {P : Image → Type 0} {asked_old asked_mid asked_new : List Asked} {old mid new : Seen Form}
    → Moments IsImage P asked_old old asked_mid mid → new ≡ mid → AsksSome (devices_of mid) asked_mid asked_new → Moments IsImage P asked_old old asked_new new
with_reading {Form} {Image} {IsImage} {P} {asked_old} {asked_mid} {asked_new} {old} {mid} {new} m e asks =
    subst (λ s. Moments IsImage P asked_old old asked_new s) (sym e)
    record {
      calls = reading asks.made ∷ m.calls;
      own = (asks.some, subst (λ ds. AreStepsOn ds asks.made) (same_devices old mid m.same m.same_also) asks.own, m.own);
      asked = asks.is ∙ ap (λ s. asks.made ++ s) m.asked ∙ sym (append_assoc asks.made (asked_in m.calls) asked_old);
      same = m.same;
      same_also = m.same_also;
      clock = m.clock;
      before = m.before;
      each = m.each;
    }

-- a call after a call
pub after : {Form Image : Type 0} {IsImage : List Form → Image → Type 0} {P : Image → Type 0} {asked_old asked_mid asked_new : List Asked} {old mid new : Seen Form}
    → Moments IsImage P asked_old old asked_mid mid → Moments IsImage P asked_mid mid asked_new new → Moments IsImage P asked_old old asked_new new
after {Form} {Image} {IsImage} {P} {asked_old} {asked_mid} {asked_new} {old} {mid} {new} a b =
    let both : ticks_in (b.calls ++ a.calls) ≡ ticks_in b.calls + ticks_in a.calls = ticks_in-append b.calls a.calls in
    record {
      calls = b.calls ++ a.calls;
      own = calls_both (devices_of old) b.calls a.calls (subst (λ ds. AreCallsOn ds b.calls) (same_devices old mid a.same a.same_also) b.own) a.own;
      asked = b.asked ∙ ap (λ s. asked_in b.calls ++ s) a.asked ∙ sym (append_assoc (asked_in b.calls) (asked_in a.calls) asked_old)
          ∙ ap (λ s. s ++ asked_old) (sym (asked_in-append b.calls a.calls));
      same = b.same ∙ a.same;
      same_also = b.same_also ∙ a.same_also;
      clock = omega (arith, a.clock, b.clock);
      before = ap (λ n. drop n new.history) both ∙ sym (drop-drop (ticks_in a.calls) (ticks_in b.calls) new.history) ∙ ap (λ h. drop (ticks_in a.calls) h) b.before ∙ a.before;
      each = λ ago l image h. elim (cases_lt ago (ticks_in b.calls)) [
        | inl late ↦ b.each ago (omega arith) image h
        | inr early ↦
            let k : ℕ = ago - ticks_in b.calls in
            let is : ago ≡ ticks_in b.calls + k = omega arith in
            let there : drop ago new.history ≡ drop k mid.history =
            ap (λ n. drop n new.history) is ∙ sym (drop-drop k (ticks_in b.calls) new.history) ∙ ap (λ hs. drop k hs) b.before in
            a.each k (omega (arith, both)) image (subst (λ hs. IsImage hs image) there h)
      ];
    }

-- what is weaker holds at each moment too
pub weaker : {Form Image : Type 0} {IsImage : List Form → Image → Type 0} {P Q : Image → Type 0} {asked_old asked_new : List Asked} {old new : Seen Form}
    → ((image : Image) → P image → Q image) → Moments IsImage P asked_old old asked_new new → Moments IsImage Q asked_old old asked_new new
weaker give m = record {
  calls = m.calls;
  own = m.own;
  asked = m.asked;
  same = m.same;
  same_also = m.same_also;
  clock = m.clock;
  before = m.before;
  each = λ ago l image h. give image (m.each ago l image h);
}

-- the images at its end
pub at_end : {Form Image : Type 0} {IsImage : List Form → Image → Type 0} {P : Image → Type 0} {asked_old asked_new : List Asked} {old new : Seen Form}
    → Moments IsImage P asked_old old asked_new new → (image : Image) → IsImage new.history image → P image
at_end m = λ image h. m.each 0 (omega arith) image h

-- One more call of a region: it failed, persisted, or wrote a word where P stays.

pub on_failure : {P : List ℕ → Type 0} {asked_old asked_mid asked_new : List Asked} {old mid new : Seen WordStep}
    → Moments IsImage P asked_old old asked_mid mid → new ≡ failed mid → AsksSome (devices_of mid) asked_mid asked_new → Moments IsImage P asked_old old asked_new new
on_failure {P} {asked_old} {asked_mid} {asked_new} {old} {mid} m e asks = extended _ m e asks (all_failed P mid e (at_end m))

pub on_persist : {P : List ℕ → Type 0} {asked_old asked_mid asked_new : List Asked} {old mid new : Seen WordStep}
    → Moments IsImage P asked_old old asked_mid mid → new ≡ kept mid → AsksSome (devices_of mid) asked_mid asked_new → Moments IsImage P asked_old old asked_new new
on_persist {P} {asked_old} {asked_mid} {asked_new} {old} {mid} m e asks = extended _ m e asks (all_kept P mid e (at_end m (words_of mid) (now_is_image mid.history)))

pub on_write : {P : List ℕ → Type 0} {asked_old asked_mid asked_new : List Asked} {old mid new : Seen WordStep} (at word : ℕ) → at < length (words_of mid)
    → Moments IsImage P asked_old old asked_mid mid → new ≡ wrote at word mid → AsksSome (devices_of mid) asked_mid asked_new
    → ((image : List ℕ) → P image → P (set image at word)) → Moments IsImage P asked_old old asked_new new
on_write {P} {asked_old} {asked_mid} {asked_new} {old} {mid} at word l m e asks stays = extended _ m e asks (all_wrote P mid at word l e (at_end m) stays)
