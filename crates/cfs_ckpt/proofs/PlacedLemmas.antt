-- Operations on one region, as operations on one of several; and calls one after another.
use Rattle.std.proofs.Common.{ℕ, ◌<◌, ◌≡◌, ◌∙◌, true, false, Result, Ok, Err, List, [], ◌∷◌, ◌++◌, length, drop, inl, inr, get_or, refl, sym, ap, subst, arith}
use Rattle.std.proofs.Math.ListN.{set}
use Rattle.std.proofs.lemmas.Bool.{cases_eq}
use Rattle.std.proofs.lemmas.List.{drop-map, get_or-map, get_or-set_other, get_or-set_same, length-map, map-set, set-get_or, set-set}
use Rattle.cfs_pmem.specs.declared.trace.Asked.{Asked}
use Rattle.cfs_pmem.specs.Faults.{HasCause, Rose}
use Rattle.cfs_pmem.specs.Images.{Seen, WordStep}
use Rattle.cfs_pmem.specs.Objects.{seen_at}
use Rattle.cfs_pmem.specs.Operations.{AllDone, Does, LastFails, after_all, all_allowed, answered, last_refused}
use Rattle.cfs_pmem.specs.WordOps.{WordOp, DoesWords, WordFails, word_asks, word_done}
use Rattle.cfs_pmem.proofs.CallLemmas.{does_after, done-device}
use Rattle.cfs_ckpt.specs.Causes.{HasOneCause}
use Rattle.cfs_ckpt.specs.Placed.{DoesPlaced, PlacedFails, PlacedOp, at_place, numbers_of, placed_asks, placed_done}

abbrev none : Seen WordStep
none = record { device = 0; also = []; history = [] }

pub here : (olds : List (Seen WordStep)) (place : ℕ) (now : Seen WordStep) → place < length olds → seen_at (set olds place now) place ≡ now
here olds place now l = get_or-set_same olds place now none l

done_at : (olds : List (Seen WordStep)) (place : ℕ) → place < length olds → (ops : List WordOp)
    → after_all placed_done (at_place place ops) olds ≡ set olds place (after_all word_done ops (seen_at olds place))
done_at olds place l [] = sym (set-get_or olds place none)
done_at olds place l (op ∷ before) =
    let x : Seen WordStep = after_all word_done before (seen_at olds place) in
    ap (λ seens. placed_done record { place = place; op = op } seens) (done_at olds place l before)
    ∙ ap (λ s. set (set olds place x) place (word_done op s)) (here olds place x l)
    ∙ set-set olds place x (word_done op x)

allowed_at : (numbers : List ℕ) (place device : ℕ) → device ≡ get_or numbers place 0 → (ops : List WordOp)
    → all_allowed (word_asks device) ops ≡ all_allowed (placed_asks numbers) (at_place place ops)
allowed_at numbers place device is [] = refl
allowed_at numbers place device is (op ∷ before) =
    ap (λ n. answered (word_asks n op) true ∷ all_allowed (word_asks device) before) is
    ∙ ap (λ steps. answered (placed_asks numbers record { place = place; op = op }) true ∷ steps) (allowed_at numbers place device is before)

refused_at : (numbers : List ℕ) (place device : ℕ) → device ≡ get_or numbers place 0 → (ops : List WordOp)
    → last_refused (word_asks device) ops ≡ last_refused (placed_asks numbers) (at_place place ops)
refused_at numbers place device is [] = refl
refused_at numbers place device is (op ∷ before) =
    ap (λ n. answered (word_asks n op) false ∷ all_allowed (word_asks device) before) is
    ∙ ap (λ steps. answered (placed_asks numbers record { place = place; op = op }) false ∷ steps) (allowed_at numbers place device is before)

fails_at : (olds : List (Seen WordStep)) (place : ℕ) (now : Seen WordStep) → place < length olds → (ops : List WordOp)
    → LastFails word_done WordFails ops (seen_at olds place) now → LastFails placed_done PlacedFails (at_place place ops) olds (set olds place now)
fails_at olds place now l [] h = absurd h
fails_at olds place now l (op ∷ before) h =
    let x : Seen WordStep = after_all word_done before (seen_at olds place) in
    let new : List (Seen WordStep) = set olds place now in
    let failed : WordFails op (seen_at (set olds place x) place) (seen_at new place) =
    subst (λ s. WordFails op s (seen_at new place)) (sym (here olds place x l)) (subst (λ s. WordFails op x s) (sym (here olds place now l)) h) in
    let others : new ≡ set (set olds place x) place (seen_at new place) =
    sym (ap (λ s. set (set olds place x) place s) (here olds place now l) ∙ set-set olds place x now) in
    subst (λ seens. PlacedFails record { place = place; op = op } seens new) (sym (done_at olds place l before)) (failed, others)

-- what a call does to one region it does to it among the others
pub placed : {T E : Type 0} {ops : List WordOp} {asked_old asked_new : List Asked} (olds : List (Seen WordStep)) (place : ℕ) (now : Seen WordStep) (result : Result T E) → place < length olds
    → DoesWords ops result asked_old (seen_at olds place) asked_new now → DoesPlaced (at_place place ops) result asked_old olds asked_new (set olds place now)
placed {T} {E} {ops} {asked_old} {asked_new} olds place now (Ok t) l h =
    let number : (seen_at olds place).device ≡ get_or (numbers_of olds) place 0 = sym (get_or-map (λ (s : Seen WordStep). s.device) olds place none 0 l) in
    record {
      all = record {
        state = ap (λ s. set olds place s) h.all.state ∙ sym (done_at olds place l ops);
        asked = h.all.asked ∙ ap (λ steps. steps ++ asked_old) (allowed_at (numbers_of olds) place (seen_at olds place).device number ops);
      };
      front = tt;
    }
placed {T} {E} {ops} {asked_old} {asked_new} olds place now (Err e) l h =
    let number : (seen_at olds place).device ≡ get_or (numbers_of olds) place 0 = sym (get_or-map (λ (s : Seen WordStep). s.device) olds place none 0 l) in
    let same : drop h.front.left (at_place place ops) ≡ at_place place (drop h.front.left ops) = drop-map (λ (op : WordOp). record { place = place; op = op }) h.front.left ops in
    record {
      all = tt;
      front = record {
        left = h.front.left;
        within = omega (arith, h.front.within, length-map {B = PlacedOp} ops (λ (op : WordOp). record { place = place; op = op }));
        state = subst (λ xs. LastFails placed_done PlacedFails xs olds (set olds place now)) (sym same) (fails_at olds place now l (drop h.front.left ops) h.front.state);
        asked = h.front.asked ∙ ap (λ steps. steps ++ asked_old) (refused_at (numbers_of olds) place (seen_at olds place).device number (drop h.front.left ops))
            ∙ ap (λ xs. last_refused (placed_asks (numbers_of olds)) xs ++ asked_old) (sym same);
      };
    }

-- the device numbers stay
pub numbers_after : (ops : List PlacedOp) (olds : List (Seen WordStep)) → numbers_of (after_all placed_done ops olds) ≡ numbers_of olds
numbers_after [] olds = refl
numbers_after (op ∷ before) olds =
    let mid : List (Seen WordStep) = after_all placed_done before olds in
    map-set (λ (s : Seen WordStep). s.device) mid op.place (word_done op.op (seen_at mid op.place))
    ∙ ap (λ d. set (numbers_of mid) op.place d) (done-device op.op (seen_at mid op.place))
    ∙ sym (map-set (λ (s : Seen WordStep). s.device) mid op.place (seen_at mid op.place))
    ∙ ap (λ seens. numbers_of seens) (set-get_or mid op.place none)
    ∙ numbers_after before olds

-- a call behind a call that went well
pub placed_after : {T E : Type 0} {later earlier : List PlacedOp} {asked_old asked_mid asked_new : List Asked} {old mid new : List (Seen WordStep)} (result : Result T E)
    → AllDone (placed_asks (numbers_of old)) placed_done earlier asked_old old asked_mid mid → DoesPlaced later result asked_mid mid asked_new new
    → DoesPlaced (later ++ earlier) result asked_old old asked_new new
placed_after {T} {E} {later} {earlier} {asked_old} {asked_mid} {asked_new} {old} {mid} {new} result a b =
    let same : numbers_of mid ≡ numbers_of old = ap (λ seens. numbers_of seens) a.state ∙ numbers_after earlier old in
    does_after result a (subst (λ numbers. Does (placed_asks numbers) placed_done PlacedFails later result asked_mid mid asked_new new) same b)

-- ---- counts of faults

-- the count of one region tells how a call ended
pub caused_at : {T E : Type 0} (before : List ℕ) (place now : ℕ) (result : Result T E) → place < length before → HasCause (get_or before place 0) now result
    → HasOneCause before (set before place now) result
caused_at before place now (Ok t) l h =
    let same : set before place now ≡ before = ap (λ n. set before place n) h.passed ∙ set-get_or before place 0 in
    record {
      later = λ k. omega (arith, ap (λ ns. get_or ns k 0) same);
      failed = tt;
      passed = same;
    }
caused_at before place now (Err e) l h =
    let is : get_or (set before place now) place 0 ≡ now = get_or-set_same before place now 0 l in
    record {
      later = λ k. elim (cases_eq k place) [
        | inl same ↦ omega (arith, h.later, ap (λ i. get_or before i 0) same, ap (λ i. get_or (set before place now) i 0) same, is)
        | inr other ↦ omega (arith, get_or-set_other before place k now 0 other)
      ];
      failed = record {
        place = place;
        rose = subst (λ n. Rose (get_or before place 0) n) (sym is) h.failed;
        others = ap (λ n. set before place n) (sym is);
      };
      passed = tt;
    }

-- a call of one region that went well, and then one that failed
pub caused_after : {T E U F V G : Type 0} {before between now : ℕ} {result : Result V G} (t : T) (f : F) (g : G) → result ≡ Err g
    → HasCause {T = T} {E = E} before between (Ok t) → HasCause {T = U} {E = F} between now (Err f) → HasCause before now result
caused_after {before = before} {now = now} {result = result} t f g is a b = subst (λ r. HasCause before now r) (sym is) record {
  later = omega (arith, a.later, b.later);
  failed = subst (λ n. Rose n now) a.passed b.failed;
  passed = tt;
}
