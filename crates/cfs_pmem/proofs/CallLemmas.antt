-- Calls as lists of operations, one after another.
use Rattle.std.proofs.Common.{◌+◌, ◌<◌, ◌≡◌, ◌∙◌, true, false, Result, Ok, Err, List, [], ◌∷◌, ◌++◌, length, drop, refl, sym, ap, subst, arith, append_assoc, length-append}
use Rattle.std.proofs.lemmas.List.{drop-append-le, length-drop}
use Rattle.std.proofs.Math.Seq.{drop-append-add}
use Rattle.cfs_pmem.specs.declared.trace.Asked.{Asked}
use Rattle.cfs_pmem.specs.Images.{Seen, WordStep}
use Rattle.cfs_pmem.specs.Operations.{Ask, answered, after_all, LastFails, all_allowed, last_refused, AllDone, FrontDone, Does}
use Rattle.cfs_pmem.specs.WordOps.{WordOp, get, put, persist, word_asks, word_done, WordFails, DoesWords}

pub after_all-append : {Op State : Type 0} (done : Op → State → State) (later earlier : List Op) (state : State)
    → after_all done (later ++ earlier) state ≡ after_all done later (after_all done earlier state)
after_all-append done [] earlier state = refl
after_all-append done (op ∷ later) earlier state = ap (λ s. done op s) (after_all-append done later earlier state)

pub all_allowed-append : {Op : Type 0} (asks : Op → Ask) (later earlier : List Op) → all_allowed asks (later ++ earlier) ≡ all_allowed asks later ++ all_allowed asks earlier
all_allowed-append asks [] earlier = refl
all_allowed-append asks (op ∷ later) earlier = ap (λ s. answered (asks op) true ∷ s) (all_allowed-append asks later earlier)

-- what is asked behind what was asked before
allowed_behind : {Op : Type 0} (asks : Op → Ask) (later earlier : List Op) (asked : List Asked)
    → all_allowed asks later ++ (all_allowed asks earlier ++ asked) ≡ all_allowed asks (later ++ earlier) ++ asked
allowed_behind asks later earlier asked =
    sym (append_assoc (all_allowed asks later) (all_allowed asks earlier) asked) ∙ ap (λ s. s ++ asked) (sym (all_allowed-append asks later earlier))

pub refused_behind : {Op : Type 0} (asks : Op → Ask) (later earlier : List Op) (asked : List Asked) → 0 < length later
    → last_refused asks later ++ (all_allowed asks earlier ++ asked) ≡ last_refused asks (later ++ earlier) ++ asked
refused_behind asks [] earlier asked l = absurd (omega arith)
refused_behind asks (op ∷ later) earlier asked l = ap (λ s. answered (asks op) false ∷ s) (allowed_behind asks later earlier asked)

pub fails_behind : {Op State : Type 0} (done : Op → State → State) (Fails : Op → State → State → Type 0) (later earlier : List Op) (old new : State)
    → LastFails done Fails later (after_all done earlier old) new → LastFails done Fails (later ++ earlier) old new
fails_behind done Fails [] earlier old new h = absurd h
fails_behind done Fails (op ∷ later) earlier old new h = subst (λ s. Fails op s new) (sym (after_all-append done later earlier old)) h

-- no operation yet, one more, and one that failed

pub done_none : {Op State : Type 0} (asks : Op → Ask) (done : Op → State → State) (asked : List Asked) (state : State) → AllDone asks done [] asked state asked state
done_none asks done asked state = record { state = refl; asked = refl }

pub done_more : {Op State : Type 0} {asks : Op → Ask} {done : Op → State → State} {ops : List Op} {asked_old asked_mid asked_new : List Asked} {old mid new : State} (op : Op)
    → AllDone asks done ops asked_old old asked_mid mid → new ≡ done op mid → asked_new ≡ answered (asks op) true ∷ asked_mid
    → AllDone asks done (op ∷ ops) asked_old old asked_new new
done_more {Op} {State} {asks} {done} op h e asked = record {
  state = e ∙ ap (λ s. done op s) h.state;
  asked = asked ∙ ap (λ s. answered (asks op) true ∷ s) h.asked;
}

pub fails_next : {Op State : Type 0} {asks : Op → Ask} {done : Op → State → State} {Fails : Op → State → State → Type 0} {ops : List Op} {asked_old asked_mid asked_new : List Asked} {old mid new : State} (op : Op)
    → AllDone asks done ops asked_old old asked_mid mid → Fails op mid new → asked_new ≡ answered (asks op) false ∷ asked_mid
    → FrontDone asks done Fails (op ∷ ops) asked_old old asked_new new
fails_next {Op} {State} {asks} {done} {Fails} {ops} {asked_old} {asked_mid} {asked_new} {old} {mid} {new} op h f asked = record {
  left = 0;
  within = omega arith;
  state = subst (λ s. Fails op s new) h.state f;
  asked = asked ∙ ap (λ s. answered (asks op) false ∷ s) h.asked;
}

-- a front of fewer operations is one of more
pub front_of : {Op State : Type 0} {asks : Op → Ask} {done : Op → State → State} {Fails : Op → State → State → Type 0} {ops : List Op} {asked_old asked_new : List Asked} {old new : State} (later : List Op)
    → FrontDone asks done Fails ops asked_old old asked_new new → FrontDone asks done Fails (later ++ ops) asked_old old asked_new new
front_of {Op} {State} {asks} {done} {Fails} {ops} {asked_old} {asked_new} {old} {new} later h =
    let same : drop (length later + h.left) (later ++ ops) ≡ drop h.left ops = drop-append-add later ops h.left in
    record {
      left = length later + h.left;
      within = omega (arith, length-append later ops, h.within);
      state = subst (λ xs. LastFails done Fails xs old new) (sym same) h.state;
      asked = h.asked ∙ ap (λ xs. last_refused asks xs ++ asked_old) (sym same);
    }

-- a call behind a call that went well

pub done_after : {Op State : Type 0} {asks : Op → Ask} {done : Op → State → State} {later earlier : List Op} {asked_old asked_mid asked_new : List Asked} {old mid new : State}
    → AllDone asks done earlier asked_old old asked_mid mid → AllDone asks done later asked_mid mid asked_new new
    → AllDone asks done (later ++ earlier) asked_old old asked_new new
done_after {Op} {State} {asks} {done} {later} {earlier} {asked_old} {asked_mid} {asked_new} {old} {mid} {new} a b = record {
  state = b.state ∙ ap (λ s. after_all done later s) a.state ∙ sym (after_all-append done later earlier old);
  asked = b.asked ∙ ap (λ s. all_allowed asks later ++ s) a.asked ∙ allowed_behind asks later earlier asked_old;
}

pub front_after : {Op State : Type 0} {asks : Op → Ask} {done : Op → State → State} {Fails : Op → State → State → Type 0} {later earlier : List Op} {asked_old asked_mid asked_new : List Asked} {old mid new : State}
    → AllDone asks done earlier asked_old old asked_mid mid → FrontDone asks done Fails later asked_mid mid asked_new new
    → FrontDone asks done Fails (later ++ earlier) asked_old old asked_new new
front_after {Op} {State} {asks} {done} {Fails} {later} {earlier} {asked_old} {asked_mid} {asked_new} {old} {mid} {new} a b =
    let some : 0 < length (drop b.left later) = omega (arith, length-drop b.left later, b.within) in
    let front : drop b.left (later ++ earlier) ≡ drop b.left later ++ earlier = drop-append-le b.left later earlier (omega (arith, b.within)) in
    record {
      left = b.left;
      within = omega (arith, length-append later earlier, b.within);
      state = subst (λ xs. LastFails done Fails xs old new) (sym front)
          (fails_behind done Fails (drop b.left later) earlier old new (subst (λ s. LastFails done Fails (drop b.left later) s new) a.state b.state));
      asked = b.asked ∙ ap (λ s. last_refused asks (drop b.left later) ++ s) a.asked ∙ refused_behind asks (drop b.left later) earlier asked_old some
          ∙ ap (λ xs. last_refused asks xs ++ asked_old) (sym front);
    }

pub does_after : {Op State T E : Type 0} {asks : Op → Ask} {done : Op → State → State} {Fails : Op → State → State → Type 0} {later earlier : List Op}
    {asked_old asked_mid asked_new : List Asked} {old mid new : State} (result : Result T E)
    → AllDone asks done earlier asked_old old asked_mid mid → Does asks done Fails later result asked_mid mid asked_new new
    → Does asks done Fails (later ++ earlier) result asked_old old asked_new new
does_after (Ok t) a b = record { all = done_after a b.all; front = tt }
does_after (Err e) a b = record { all = tt; front = front_after a b.front }

-- a call of which a front was done
pub does_front : {Op State T E : Type 0} {asks : Op → Ask} {done : Op → State → State} {Fails : Op → State → State → Type 0} {ops : List Op}
    {asked_old asked_new : List Asked} {old new : State} {result : Result T E} (e : E) → result ≡ Err e
    → FrontDone asks done Fails ops asked_old old asked_new new → Does asks done Fails ops result asked_old old asked_new new
does_front {Op} {State} {T} {E} {asks} {done} {Fails} {ops} {asked_old} {asked_new} {old} {new} {result} e is front =
    subst (λ r. Does asks done Fails ops r asked_old old asked_new new) (sym is) record { all = tt; front = front }

-- Calls on one region: its device stays.

pub done-device : (op : WordOp) (seen : Seen WordStep) → (word_done op seen).device ≡ seen.device
done-device (get at) seen = refl
done-device (put at word) seen = refl
done-device persist seen = refl

pub words-device : (ops : List WordOp) (seen : Seen WordStep) → (after_all word_done ops seen).device ≡ seen.device
words-device [] seen = refl
words-device (op ∷ before) seen = done-device op (after_all word_done before seen) ∙ words-device before seen

pub words_after : {T E : Type 0} {later earlier : List WordOp} {asked_old asked_mid asked_new : List Asked} {old mid new : Seen WordStep} (result : Result T E)
    → AllDone (word_asks old.device) word_done earlier asked_old old asked_mid mid → DoesWords later result asked_mid mid asked_new new
    → DoesWords (later ++ earlier) result asked_old old asked_new new
words_after {T} {E} {later} {earlier} {asked_old} {asked_mid} {asked_new} {old} {mid} {new} result a b =
    let same : mid.device ≡ old.device = ap (λ (s : Seen WordStep). s.device) a.state ∙ words-device earlier old in
    does_after result a (subst (λ d. Does (word_asks d) word_done WordFails later result asked_mid mid asked_new new) same b)
