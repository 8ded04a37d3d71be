-- A slot that is written behind its closed gate.
use Rattle.std.proofs.Common.{ℕ, ◌+◌, ◌<◌, ◌≤◌, ◌≡◌, ◌∙◌, Bool, true, false, IsTrue, Result, Ok, Err, List, [], ◌∷◌, ◌++◌, length, get_or, drop, refl, sym, ap, subst, arith, ⊎_elim, length-append}
use Rattle.std.proofs.lemmas.List.{drop-append-le}
use Rattle.std.proofs.Math.Seq.{drop-append-add}
use Rattle.cfs_pmem.specs.declared.trace.Asked.{Asked}
use Rattle.cfs_pmem.specs.declared.trace.Asked.TheVariants.{Step}
use Rattle.cfs_pmem.specs.Asks.{AsksSome}
use Rattle.cfs_pmem.specs.Images.{Seen, WordStep, devices_of, words_of, failed, kept, patched, AllImages, IsSetWithin}
use Rattle.cfs_pmem.specs.Operations.{StopsIn, LastFails, AllDone, after_all}
use Rattle.cfs_pmem.specs.WordOps.{WordOp, persist, word_asks, word_done, WritesWords}
use Rattle.cfs_pmem.proofs.CallLemmas.{after_all-append, fails_behind, front_of, does_front, words_after}
use Rattle.cfs_pmem.proofs.ImageLemmas.{sure_kept}
use Rattle.cfs_pmem.proofs.MomentLemmas.{after, at_end, begun, on_failure, on_persist, weaker}
use Rattle.cfs_pmem.proofs.Patches.{patched_below, patched_inside, length-patched}
use Rattle.cfs_slot.specs.Operations.{payload_words, puts_all}
use Rattle.cfs_slot.specs.Staging.{words_for}
use Rattle.cfs_slot.specs.Words.{IsClosed}
use Rattle.cfs_slot.specs.Writing.{WritesSlot, HasDone, HoldsFields}
use Rattle.cfs_slot.proofs.PayloadLemmas.{holds_payload, length-payload_words}

-- words that are written behind the gate leave it closed
pub closed_within : (old : Seen WordStep) (from : ℕ) (words : List ℕ) → 0 < from → AllImages old IsClosed
    → (image : List ℕ) → IsSetWithin old from words image → IsClosed image
closed_within old from words behind closed [] h = refl
closed_within old from words behind closed (x ∷ xs) h =
    ⊎_elim (λ e. e ∙ closed h.first h.possible) (λ b. absurd (omega (arith, b.0, behind))) (h.each 0 (omega arith))

-- a front of fewer operations is one of more, and one behind others that were done
pub stops_later : {Op State : Type 0} {done : Op → State → State} {Fails : Op → State → State → Type 0} {ops : List Op} {old new : State} (later : List Op)
    → StopsIn done Fails ops old new → StopsIn done Fails (later ++ ops) old new
stops_later {Op} {State} {done} {Fails} {ops} {old} {new} later h =
    let same : drop (length later + h.left) (later ++ ops) ≡ drop h.left ops = drop-append-add later ops h.left in
    record {
      left = length later + h.left;
      within = omega (arith, length-append later ops, h.within);
      state = subst (λ xs. LastFails done Fails xs old new) (sym same) h.state;
    }

pub stops_behind : {Op State : Type 0} {done : Op → State → State} {Fails : Op → State → State → Type 0} {later : List Op} {old mid new : State} (earlier : List Op)
    → mid ≡ after_all done earlier old → StopsIn done Fails later mid new → StopsIn done Fails (later ++ earlier) old new
stops_behind {Op} {State} {done} {Fails} {later} {old} {mid} {new} earlier e h =
    let front : drop h.left (later ++ earlier) ≡ drop h.left later ++ earlier = drop-append-le h.left later earlier (omega (arith, h.within)) in
    record {
      left = h.left;
      within = omega (arith, length-append later earlier, h.within);
      state = subst (λ xs. LastFails done Fails xs old new) (sym front)
          (fails_behind done Fails (drop h.left later) earlier old new (subst (λ s. LastFails done Fails (drop h.left later) s new) e h.state));
    }

-- no operation yet, more words, and a persist

pub none_done : (obeys : Bool) (asked : List Asked) (seen : Seen WordStep) → AllImages seen IsClosed → HasDone obeys [] asked seen asked seen
none_done obeys asked seen closed = record { state = refl; asked = λ o. refl; size = refl; moments = begun asked seen closed }

all_of : {obeys : Bool} {ops : List WordOp} {asked_old asked_new : List Asked} {old new : Seen WordStep} → IsTrue obeys
    → HasDone obeys ops asked_old old asked_new new → AllDone (word_asks old.device) word_done ops asked_old old asked_new new
all_of o h = record { state = h.state; asked = h.asked o }

pub words_done : {T E : Type 0} {t : T} {obeys : Bool} {from : ℕ} {words : List ℕ} {ops : List WordOp} {asked_old asked_mid asked_new : List Asked} {old mid new : Seen WordStep}
    → 0 < from → HasDone obeys ops asked_old old asked_mid mid → WritesWords {T = T} {E = E} obeys from words (Ok t) asked_mid mid asked_new new
    → HasDone obeys (puts_all from words ++ ops) asked_old old asked_new new
words_done {T} {E} {t} {obeys} {from} {words} {ops} {asked_old} {asked_mid} {asked_new} {old} {mid} {new} behind h w = record {
  state = w.ok ∙ ap (λ s. after_all word_done (puts_all from words) s) h.state ∙ sym (after_all-append word_done (puts_all from words) ops old);
  asked = λ o. (words_after {T = T} {E = E} (Ok t) (all_of o h) (w.does o)).all.asked;
  size = w.size ∙ h.size;
  moments = after h.moments (weaker (closed_within mid from words behind (at_end h.moments)) w.moments);
}

pub persist_done : {obeys : Bool} {ops : List WordOp} {asked_old asked_mid asked_new : List Asked} {old mid new : Seen WordStep}
    → HasDone obeys ops asked_old old asked_mid mid → new ≡ kept mid → AsksSome (devices_of mid) asked_mid asked_new
    → (IsTrue obeys → asked_new ≡ Step mid.device true true ∷ asked_mid) → HasDone obeys (persist ∷ ops) asked_old old asked_new new
persist_done {obeys} {ops} {asked_old} {asked_mid} {asked_new} {old} {mid} {new} h k asks asked = record {
  state = k ∙ ap (λ s. kept s) h.state;
  asked = λ o. asked o ∙ ap (λ d. Step d true true ∷ asked_mid) h.moments.same ∙ ap (λ s. Step old.device true true ∷ s) (h.asked o);
  size = ap (λ (s : Seen WordStep). length (words_of s)) k ∙ h.size;
  moments = on_persist h.moments k asks;
}

-- The words failed, the persist failed, and all went well.

pub words_stopped : {T E F U : Type 0} {f : F} {obeys : Bool} {from : ℕ} {words : List ℕ} {ops : List WordOp} {result : Result T E} {asked_old asked_mid asked_new : List Asked} {old mid new : Seen WordStep}
    (later : List WordOp) (e : E) → result ≡ Err e → 0 < from → HasDone obeys ops asked_old old asked_mid mid → WritesWords {T = U} {E = F} obeys from words (Err f) asked_mid mid asked_new new
    → WritesSlot obeys (later ++ (puts_all from words ++ ops)) result asked_old old asked_new new
words_stopped {T} {E} {F} {U} {f} {obeys} {from} {words} {ops} {result} {asked_old} {asked_mid} {asked_new} {old} {mid} {new} later e is behind h w =
    let both : List WordOp = puts_all from words ++ ops in
    subst (λ r. WritesSlot obeys (later ++ both) r asked_old old asked_new new) (sym is)
    record {
      ok = tt;
      sure = tt;
      stopped = stops_later later (stops_behind ops h.state w.stopped);
      size = w.size ∙ h.size;
      does = λ o. does_front e refl (front_of later (words_after {T = U} {E = F} (Err f) (all_of o h) (w.does o)).front);
      moments = after h.moments (weaker (closed_within mid from words behind (at_end h.moments)) w.moments);
    }

pub persist_stopped : {T E : Type 0} {obeys : Bool} {ops : List WordOp} {result : Result T E} {asked_old asked_mid asked_new : List Asked} {old mid new : Seen WordStep}
    (e : E) → result ≡ Err e → HasDone obeys ops asked_old old asked_mid mid → new ≡ failed mid → AsksSome (devices_of mid) asked_mid asked_new
    → (IsTrue obeys → asked_new ≡ Step mid.device true false ∷ asked_mid) → WritesSlot obeys (persist ∷ ops) result asked_old old asked_new new
persist_stopped {T} {E} {obeys} {ops} {result} {asked_old} {asked_mid} {asked_new} {old} {mid} {new} e is h f asks asked =
    let state : new ≡ failed (after_all word_done ops old) = f ∙ ap (λ s. failed s) h.state in
    subst (λ r. WritesSlot obeys (persist ∷ ops) r asked_old old asked_new new) (sym is)
    record {
      ok = tt;
      sure = tt;
      stopped = record { left = 0; within = omega arith; state = state };
      size = ap (λ (s : Seen WordStep). length (words_of s)) f ∙ h.size;
      does = λ o. record {
        all = tt;
        front = record {
          left = 0;
          within = omega arith;
          state = state;
          asked = asked o ∙ ap (λ d. Step d true false ∷ asked_mid) h.moments.same ∙ ap (λ s. Step old.device true false ∷ s) (h.asked o);
        };
      };
      moments = on_failure h.moments f asks;
    }

pub slot_written : {T E : Type 0} {obeys : Bool} {ops : List WordOp} {asked_old asked_mid asked_new : List Asked} {old mid new : Seen WordStep} (t : T)
    → HasDone obeys ops asked_old old asked_mid mid → new ≡ kept mid → AsksSome (devices_of mid) asked_mid asked_new
    → (IsTrue obeys → asked_new ≡ Step mid.device true true ∷ asked_mid) → WritesSlot {T = T} {E = E} obeys (persist ∷ ops) (Ok t) asked_old old asked_new new
slot_written {T} {E} {obeys} {ops} {asked_old} {asked_mid} {asked_new} {old} {mid} {new} t h k asks asked =
    let all : HasDone obeys (persist ∷ ops) asked_old old asked_new new = persist_done h k asks asked in
    record {
      ok = all.state;
      sure = sure_kept mid k;
      stopped = tt;
      size = all.size;
      does = λ o. record { all = all_of o all; front = tt };
      moments = all.moments;
    }

-- what a call answers that writes a slot alone, by operations that are these

pub writes_ok : {T E U F : Type 0} {obeys : Bool} {ops same : List WordOp} {t : T} {asked_old asked_new : List Asked} {old new : Seen WordStep} (u : U) → ops ≡ same
    → WritesSlot {T = T} {E = E} obeys ops (Ok t) asked_old old asked_new new → WritesSlot {T = U} {E = F} obeys same (Ok u) asked_old old asked_new new
writes_ok {T} {E} {U} {F} {obeys} {ops} {same} {t} {asked_old} {asked_new} {old} {new} u e h =
    subst (λ xs. WritesSlot {T = U} {E = F} obeys xs (Ok u) asked_old old asked_new new) e
    record {
      ok = h.ok;
      sure = h.sure;
      stopped = tt;
      size = h.size;
      does = λ o. record { all = (h.does o).all; front = tt };
      moments = h.moments;
    }

pub writes_err : {T E U F : Type 0} {obeys : Bool} {ops same : List WordOp} {e : E} {asked_old asked_new : List Asked} {old new : Seen WordStep} (f : F) → ops ≡ same
    → WritesSlot {T = T} {E = E} obeys ops (Err e) asked_old old asked_new new → WritesSlot {T = U} {E = F} obeys same (Err f) asked_old old asked_new new
writes_err {T} {E} {U} {F} {obeys} {ops} {same} {e} {asked_old} {asked_new} {old} {new} f is h =
    subst (λ xs. WritesSlot {T = U} {E = F} obeys xs (Err f) asked_old old asked_new new) is
    record {
      ok = tt;
      sure = tt;
      stopped = h.stopped;
      size = h.size;
      does = λ o. record { all = tt; front = (h.does o).front };
      moments = h.moments;
    }

-- what then stands in the slot
pub fields_held : (ino offset kind grant : ℕ) (payload first words : List ℕ) → length first ≡ 518 → length payload ≤ 4096 → ((k : ℕ) → get_or payload k 0 < 256)
    → IsClosed first → words ≡ patched (patched first 1 (0 ∷ ino ∷ offset ∷ kind ∷ grant ∷ [])) 6 (payload_words (words_for (length payload)) payload)
    → HoldsFields ino offset kind grant payload words
fields_held ino offset kind grant payload first words size few bytes closed is =
    let n : ℕ = words_for (length payload) in
    let header : List ℕ = 0 ∷ ino ∷ offset ∷ kind ∷ grant ∷ [] in
    let mid : List ℕ = patched first 1 header in
    let held : List ℕ = payload_words n payload in
    let held_size : length held ≡ n = length-payload_words n payload in
    let mid_size : length mid ≡ 518 = length-patched first 1 header (omega (arith, size)) ∙ size in
    let room : 6 + length held ≤ length mid = omega (arith, held_size, mid_size) in
    let field : (k : ℕ) → k < 5 → get_or words (1 + k) 0 ≡ get_or header k 0 =
    λ k l. ap (λ ws. get_or ws (1 + k) 0) is ∙ patched_below mid 6 held (1 + k) room (omega arith) ∙ patched_inside first 1 header k (omega (arith, size)) l in
    let words_size : length words ≡ 518 = ap (λ (ws : List ℕ). length ws) is ∙ length-patched mid 6 held room ∙ mid_size in
    record {
      gate_is = ap (λ ws. get_or ws 0 0) is ∙ patched_below mid 6 held 0 room (omega arith) ∙ patched_below first 1 header 0 (omega (arith, size)) (omega arith) ∙ closed;
      mark_is = field 0 (omega arith);
      ino_is = field 1 (omega arith);
      offset_is = field 2 (omega arith);
      kind_is = field 3 (omega arith);
      grant_is = field 4 (omega arith);
      payload_is = holds_payload payload words few words_size bytes (λ i l. ap (λ ws. get_or ws (6 + i) 0) is ∙ patched_inside mid 6 held i room (omega (arith, held_size)));
    }
