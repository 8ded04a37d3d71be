-- The refusals of checks that are put together.
use Rattle.std.proofs.Common.{◌≡◌, ℕ, ◌+◌, ◌<◌, List, ◌++◌, sym, ◌∙◌, subst}
use Rattle.std.specs.Prelude.{None, Result, Ok, Err, IfErr, IfOk, OnOk}
use Rattle.cfs_image.specs.Checks.{Check, damage_of}
use Rattle.cfs_survey.specs.declared.refusal.SurveyRefusal.{SurveyRefusal}
use Rattle.cfs_survey.specs.declared.refusal.SurveyRefusal.TheVariants.{Damaged, NoMemory}
use Rattle.cfs_survey.specs.Faults.{checks_from, damage_in}
use Rattle.cfs_survey.specs.Refusals.{Refuses}
use Rattle.cfs_survey.proofs.FirstFaults.{before_others, behind_sound, fails_at}

pub refused_behind : (xs ys : List Check) (refusal : SurveyRefusal) → damage_of xs ≡ None → Refuses ys refusal → Refuses (xs ++ ys) refusal
refused_behind xs ys (Damaged fault) sound h = behind_sound xs ys sound ∙ h
refused_behind xs ys NoMemory sound h = tt

pub refused_before : (xs ys : List Check) (refusal : SurveyRefusal) → Refuses xs refusal → Refuses (xs ++ ys) refusal
refused_before xs ys (Damaged fault) h = before_others xs ys (damage_in fault) h
refused_before xs ys NoMemory h = tt

pub refused_with : {T : Type 0} (r : Result T SurveyRefusal) (checks : List Check) (y refusal : SurveyRefusal) → r ≡ Err y → y ≡ refusal
    → Refuses checks refusal → IfErr r (Refuses checks)
refused_with r checks y refusal e same h = subst (λ x. IfErr x (Refuses checks)) (sym e) (subst (Refuses checks) (sym same) h)

-- the first number whose checks are refused
pub refused_at : (each : ℕ → List Check) (from k n at : ℕ) (refusal : SurveyRefusal) →
    from + k ≡ at → k < n
    → damage_of (checks_from each from k) ≡ None → Refuses (each at) refusal →
    Refuses (checks_from each from n) refusal
refused_at each from k n at (Damaged fault) e below before h =
    fails_at each from k n at (damage_in fault) e below before h
refused_at each from k n at NoMemory e below before h = tt

-- checks that name the same damage
pub refused_same : {T : Type 0} (xs ys : List Check) (r : Result T SurveyRefusal) →
    damage_of xs ≡ damage_of ys → IfErr r (Refuses xs) → IfErr r (Refuses ys)
refused_same xs ys (Ok x) e h = tt
refused_same xs ys (Err (Damaged fault)) e h = sym e ∙ h
refused_same xs ys (Err NoMemory) e h = tt

pub refuses_same : (xs ys : List Check) (refusal : SurveyRefusal) →
    damage_of xs ≡ damage_of ys → Refuses xs refusal → Refuses ys refusal
refuses_same xs ys (Damaged fault) e h = sym e ∙ h
refuses_same xs ys NoMemory e h = tt

-- what is known of an answer says what it refuses, and what it tells
pub if_err_with : {T E : Type 0} (r : Result T E) (P Q : E → Type 0) → ((x : E) → P x → Q x) →
    IfErr r P → IfErr r Q
if_err_with (Ok x) P Q more h = tt
if_err_with (Err e) P Q more h = more e h

pub if_ok_with : {T E : Type 0} (r : Result T E) (P : Type 0) (Q R : T → Type 0) →
    ((x : T) → P → Q x → R x) → OnOk r P → IfOk r Q → IfOk r R
if_ok_with (Ok x) P Q R more here h = more x here h
if_ok_with (Err e) P Q R more here h = tt

pub if_ok_more : {T E : Type 0} (r : Result T E) (Q R : T → Type 0) → ((x : T) → Q x → R x) →
    IfOk r Q → IfOk r R
if_ok_more (Ok x) Q R more h = more x h
if_ok_more (Err e) Q R more h = tt
