-- Two calls on the same region: the gate is closed, and then the record is written.
use Rattle.std.specs.Result.{is_err}
use Rattle.std.proofs.Common.{◌≡◌, ◌∙◌, ℕ, true, false, List, ◌++◌, Option, Result, Ok, Err, OnErr, subst, arith}
use Rattle.cfs_dir.specs.declared.change.Change.{Change}
use Rattle.cfs_pmem.specs.declared.trace.Asked.{Asked}
use Rattle.cfs_pmem.specs.Faults.{HasCause, Rose}
use Rattle.cfs_pmem.specs.Images.{Seen, WordStep}
use Rattle.cfs_pmem.specs.Operations.{AllDone, FrontDone}
use Rattle.cfs_pmem.specs.WordOps.{WordOp, word_asks, word_done, WordFails, DoesWords}
use Rattle.cfs_pmem.proofs.CallLemmas.{words_after}
use Rattle.cfs_journal.specs.Appends.{closing_ops, StopsBehind}
use Rattle.cfs_journal.specs.Records.{record_ops}

pub all_of : {T E : Type 0} {ops : List WordOp} {asked_old asked_new : List Asked} {old new : Seen WordStep} (result : Result T E) → is_err result ≡ false
    → DoesWords ops result asked_old old asked_new new → AllDone (word_asks old.device) word_done ops asked_old old asked_new new
all_of (Ok value) passed h = h.all
all_of (Err e) passed h = cc

pub front_at : {T E : Type 0} {ops : List WordOp} {asked_old asked_new : List Asked} {old new : Seen WordStep} (result : Result T E) → is_err result ≡ true
    → DoesWords ops result asked_old old asked_new new → FrontDone (word_asks old.device) word_done WordFails ops asked_old old asked_new new
front_at (Ok value) failed h = cc
front_at (Err e) failed h = h.front

pub on_err : {T E P : Type 0} (result : Result T E) → is_err result ≡ true → OnErr result P → P
on_err (Ok value) failed h = cc
on_err (Err e) failed h = h

-- both were done
pub both_done : {T E U F : Type 0} (number : ℕ) (change : Change) (doubt : Option Change) {asked_old asked_mid asked_new : List Asked} {old mid new : Seen WordStep}
    (first : Result T E) (second : Result U F) → is_err first ≡ false → is_err second ≡ false
    → DoesWords (closing_ops doubt) first asked_old old asked_mid mid → DoesWords (record_ops number change) second asked_mid mid asked_new new
    → AllDone (word_asks old.device) word_done (record_ops number change ++ closing_ops doubt) asked_old old asked_new new
both_done number change doubt first second closed written a b = all_of second written (words_after second (all_of first closed a) b)

-- the second failed
pub second_stops : {T E U F : Type 0} (number : ℕ) (change : Change) (doubt : Option Change) {asked_old asked_mid asked_new : List Asked} {old mid new : Seen WordStep}
    (first : Result T E) (second : Result U F) → is_err first ≡ false → is_err second ≡ true
    → DoesWords (closing_ops doubt) first asked_old old asked_mid mid → DoesWords (record_ops number change) second asked_mid mid asked_new new
    → StopsBehind (closing_ops doubt) (record_ops number change) asked_old old asked_new new
second_stops number change doubt {asked_mid = asked_mid} {mid = mid} first second closed stopped a b = record {
  asked_between = asked_mid;
  between = mid;
  done = all_of first closed a;
  front = front_at second stopped b;
}

-- the cause of both is that of the second
pub caused : {T E U F V G : Type 0} {before between now : ℕ} (first : Result T E) (second : Result U F) (result : Result V G) → is_err first ≡ false → is_err second ≡ is_err result
    → HasCause before between first → HasCause between now second → HasCause before now result
caused (Err e) second result closed same a b = cc
caused (Ok x) (Ok y) (Ok z) closed same a b = record { later = omega (arith, a.later, b.later); failed = tt; passed = b.passed ∙ a.passed }
caused (Ok x) (Ok y) (Err z) closed same a b = cc
caused (Ok x) (Err y) (Ok z) closed same a b = cc
caused {now = now} (Ok x) (Err y) (Err z) closed same a b = record { later = omega (arith, a.later, b.later); failed = subst (λ n. Rose n now) a.passed b.failed; passed = tt }
