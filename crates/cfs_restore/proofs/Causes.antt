-- Why a call stopped, and what was done by then.
use Rattle.std.proofs.Common.{ℕ, ◌≡◌, ◌∙◌, Result, Ok, Err, List, refl, sym, ap, subst}
use Rattle.std.specs.Prelude.{IfErr}
use Rattle.std.specs.Result.{IsErrAnd}
use Rattle.std.proofs.lemmas.Result.{err_from_is_err_and}
use Rattle.cfs_pmem.specs.declared.fault.DeviceFault.{DeviceFault}
use Rattle.cfs_block.specs.Devices.{Devices}
use Rattle.cfs_image.specs.Checks.{Check}
use Rattle.cfs_slot.specs.Payload.{HaveCause, NoneFell}
use Rattle.cfs_store_words.specs.declared.survey_failed.SurveyFailed.{SurveyFailed}
use Rattle.cfs_store_words.specs.declared.survey_failed.SurveyFailed.TheVariants as surveys
use Rattle.cfs_store_words.specs.Causes.{TellsCause}
use Rattle.cfs_store_words.specs.Failures.{SurveyCaused}
use Rattle.cfs_store_words.specs.Failures.{NamesDamage as SurveyNames}
use Rattle.cfs_store_words.proofs.Calls.{none-fell}
use Rattle.cfs_restore.specs.declared.restore_failed.RestoreFailed.{RestoreFailed}
use Rattle.cfs_restore.specs.declared.restore_failed.RestoreFailed.TheVariants.{Failed}
use Rattle.cfs_restore.specs.declared.restore_failed.RestoreFailed.TheVariants.{NoMemory}
use Rattle.cfs_restore.specs.Failures.{LeavesUnlessFailed, NamesDamage, RestoreCaused, of_survey}

-- ---- an answer that is this error

stopped : {T : Type 0} (P : Result T RestoreFailed → Type 0) (error : RestoreFailed)
    (result : Result T RestoreFailed) →
    IsErrAnd result (λ (e : RestoreFailed). e ≡ error) → P (Err error) → P result
stopped {T} P error result is here =
    let p = err_from_is_err_and result is in
    subst P (sym (p.1 ∙ ap (λ (e : RestoreFailed). Err e) p.2)) here

-- ---- where memory lacked

pub lacked-leaves : {T : Type 0} (old : Devices) (result : Result T RestoreFailed) →
    IsErrAnd result (λ (e : RestoreFailed). e ≡ NoMemory) →
    IfErr result (LeavesUnlessFailed old old)
lacked-leaves {T} old result is =
    stopped (λ (r : Result T RestoreFailed). IfErr r (LeavesUnlessFailed old old)) NoMemory result
    is refl

pub lacked-named : {T : Type 0} (checks : List Check) (result : Result T RestoreFailed) →
    IsErrAnd result (λ (e : RestoreFailed). e ≡ NoMemory) → IfErr result (NamesDamage checks)
lacked-named {T} checks result is =
    stopped (λ (r : Result T RestoreFailed). IfErr r (NamesDamage checks)) NoMemory result is tt

pub lacked-cause : {T : Type 0} (counts : List ℕ) (result : Result T RestoreFailed) →
    IsErrAnd result (λ (e : RestoreFailed). e ≡ NoMemory) →
    TellsCause RestoreCaused counts counts result
lacked-cause {T} counts result is =
    stopped (λ (r : Result T RestoreFailed). TellsCause RestoreCaused counts counts r) NoMemory
    result is (record { later = none-fell counts; failed = refl; passed = tt })

-- ---- where a device failed

pub failed-leaves : {T : Type 0} (old new : Devices) (fault : DeviceFault)
    (result : Result T RestoreFailed) →
    IsErrAnd result (λ (e : RestoreFailed). e ≡ Failed fault) →
    IfErr result (LeavesUnlessFailed old new)
failed-leaves {T} old new fault result is =
    stopped (λ (r : Result T RestoreFailed). IfErr r (LeavesUnlessFailed old new)) (Failed fault)
    result is tt

pub failed-named : {T : Type 0} (checks : List Check) (fault : DeviceFault)
    (result : Result T RestoreFailed) →
    IsErrAnd result (λ (e : RestoreFailed). e ≡ Failed fault) →
    IfErr result (NamesDamage checks)
failed-named {T} checks fault result is =
    stopped (λ (r : Result T RestoreFailed). IfErr r (NamesDamage checks)) (Failed fault) result
    is tt

pub failed-cause : {T U : Type 0} (befores nows : List ℕ) (fault : DeviceFault)
    (result : Result T RestoreFailed) →
    IsErrAnd result (λ (e : RestoreFailed). e ≡ Failed fault) →
    HaveCause {T = U} befores nows (Err fault) → TellsCause RestoreCaused befores nows result
failed-cause {T} befores nows fault result is cause =
    stopped (λ (r : Result T RestoreFailed). TellsCause RestoreCaused befores nows r)
    (Failed fault) result is
    (record { later = cause.later; failed = cause.failed; passed = tt })

-- ---- where the store was not surveyed

kept-unless : (old new : Devices) (error : SurveyFailed) → new ≡ old →
    LeavesUnlessFailed old new (of_survey error)
kept-unless old new (surveys.Failed fault) same = tt
kept-unless old new (surveys.Damaged fault) same = same
kept-unless old new surveys.NoMemory same = same

pub survey-leaves : {T : Type 0} (old new : Devices) (error : SurveyFailed)
    (result : Result T RestoreFailed) →
    IsErrAnd result (λ (e : RestoreFailed). e ≡ of_survey error) → new ≡ old →
    IfErr result (LeavesUnlessFailed old new)
survey-leaves {T} old new error result is same =
    stopped (λ (r : Result T RestoreFailed). IfErr r (LeavesUnlessFailed old new))
    (of_survey error) result is (kept-unless old new error same)

named-so : (checks : List Check) (error : SurveyFailed) → SurveyNames checks error →
    NamesDamage checks (of_survey error)
named-so checks (surveys.Failed fault) names = tt
named-so checks (surveys.Damaged fault) names = names
named-so checks surveys.NoMemory names = tt

pub survey-named : {T : Type 0} (checks : List Check) (error : SurveyFailed)
    (result : Result T RestoreFailed) →
    IsErrAnd result (λ (e : RestoreFailed). e ≡ of_survey error) → SurveyNames checks error →
    IfErr result (NamesDamage checks)
survey-named {T} checks error result is names =
    stopped (λ (r : Result T RestoreFailed). IfErr r (NamesDamage checks)) (of_survey error) result
    is (named-so checks error names)

caused-so : (befores nows : List ℕ) (error : SurveyFailed) → SurveyCaused befores nows error →
    RestoreCaused befores nows (of_survey error)
caused-so befores nows (surveys.Failed fault) caused = caused
caused-so befores nows (surveys.Damaged fault) caused = caused
caused-so befores nows surveys.NoMemory caused = caused

pub survey-cause : {T U : Type 0} (befores nows : List ℕ) (error : SurveyFailed)
    (result : Result T RestoreFailed) →
    IsErrAnd result (λ (e : RestoreFailed). e ≡ of_survey error) →
    TellsCause {T = U} SurveyCaused befores nows (Err error) →
    TellsCause RestoreCaused befores nows result
survey-cause {T} befores nows error result is cause =
    stopped (λ (r : Result T RestoreFailed). TellsCause RestoreCaused befores nows r)
    (of_survey error) result is (record {
      later = cause.later;
      failed = caused-so befores nows error cause.failed;
      passed = tt;
    })

-- ---- where a later call stopped, or none

pub home-leaves : {T : Type 0} (old mid new : Devices) (error : RestoreFailed)
    (result : Result T RestoreFailed) → IsErrAnd result (λ (e : RestoreFailed). e ≡ error) →
    mid ≡ old → LeavesUnlessFailed mid new error → IfErr result (LeavesUnlessFailed old new)
home-leaves {T} old mid new error result is same leaves =
    stopped (λ (r : Result T RestoreFailed). IfErr r (LeavesUnlessFailed old new)) error result is
    (subst (λ (before : Devices). LeavesUnlessFailed before new error) same leaves)

pub home-named : {T : Type 0} (checks : List Check) (error : RestoreFailed)
    (result : Result T RestoreFailed) → IsErrAnd result (λ (e : RestoreFailed). e ≡ error) →
    NamesDamage checks error → IfErr result (NamesDamage checks)
home-named {T} checks error result is names =
    stopped (λ (r : Result T RestoreFailed). IfErr r (NamesDamage checks)) error result is names

pub home-cause : {T U : Type 0} (befores mids nows : List ℕ) (error : RestoreFailed)
    (result : Result T RestoreFailed) → IsErrAnd result (λ (e : RestoreFailed). e ≡ error) →
    mids ≡ befores → TellsCause {T = U} RestoreCaused mids nows (Err error) →
    TellsCause RestoreCaused befores nows result
home-cause {T} befores mids nows error result is same cause =
    stopped (λ (r : Result T RestoreFailed). TellsCause RestoreCaused befores nows r) error result
    is (record {
      later = subst (λ (ns : List ℕ). NoneFell ns nows) same cause.later;
      failed = subst (λ (ns : List ℕ). RestoreCaused ns nows error) same cause.failed;
      passed = tt;
    })

pub well-cause : {T : Type 0} (befores nows : List ℕ) (t : T) → nows ≡ befores →
    TellsCause RestoreCaused befores nows (Ok t)
well-cause befores nows t same = record {
  later = subst (λ (ns : List ℕ). NoneFell befores ns) (sym same) (none-fell befores);
  failed = tt;
  passed = same;
}
