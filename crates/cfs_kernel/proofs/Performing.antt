-- How a request ends whose tests are passed.
use Rattle.std.proofs.Common.{ℕ, ◌≡◌, ◌≢◌, Bool, false, List, Option, Some, None, Result, Ok, Err, inl, inr, refl, sym, ◌∙◌, ap}
use Rattle.std.specs.Prelude.{IfOk, OnErr}
use Rattle.cfs_requests.specs.Steps.{Step}
use Rattle.cfs_dir.specs.declared.change.Change.{Change}
use Rattle.cfs_pmem.specs.declared.trace.Asked.{Asked}
use Rattle.cfs_pmem.specs.Images.{Seen, WordStep}
use Rattle.cfs_names.specs.declared.store_refusal.StoreRefusal.{StoreRefusal}
use Rattle.cfs_names.specs.declared.store_refusal.StoreRefusal.TheVariants as stored
use Rattle.cfs_names.specs.StoredTrees.{LacksRoom}
use Rattle.cfs_kernel.specs.declared.ns_state.NsState.{NsState}
use Rattle.cfs_kernel.specs.declared.refusal.NsRefusal.{NsRefusal}
use Rattle.cfs_kernel.specs.declared.refusal.NsRefusal.TheVariants as answers
use Rattle.cfs_kernel.specs.Answers.{stored_told}
use Rattle.cfs_kernel.specs.States.{IsSpent, Kernel, kernel_of, stored_of}
use Rattle.cfs_kernel.specs.Storing.{Lacks, Performs, Rests, Stores}

-- two refusals of one look
pub same_refusal : {X R : Type 0} {one two : R} (look : Result X R) → look ≡ Err one → look ≡ Err two → one ≡ two
same_refusal look a b = let both = sym a ∙ b in cc

pub same_value : {X R : Type 0} {one two : X} (look : Result X R) → look ≡ Ok one → look ≡ Ok two → one ≡ two
same_value look a b = let both = sym a ∙ b in cc

pub same_some : {X : Type 0} {one two : X} → Some one ≡ Some two → one ≡ two
same_some e = cc

pub not_both : {X R A : Type 0} {one : X} {two : R} (look : Result X R) → look ≡ Ok one → look ≡ Err two → A
not_both look a b = absurd (let both = sym a ∙ b in cc)

-- a request that takes the next place
pub counted_as : {X : Type 0} (mid after : Kernel X) (places n : ℕ) → mid ≡ after → places ≡ n →
    record mid { requests = places } ≡ record after { requests = n }
counted_as mid after places n same place = rw same (rw place refl)

lacking : {R : Type 0} {g : _} (old : NsState R g) (change : Change) (outcome : Result (Unit {0}) StoreRefusal) → (IsSpent (kernel_of old) → ⊥) →
    (LacksRoom (stored_of old) → outcome ≡ Err stored.NoMemory) → Lacks (Some change) old → outcome ≡ Err stored.NoMemory
lacking old change outcome unspent lacks none = elim none [ inl is ↦ absurd (unspent is) | inr room ↦ lacks room ]

-- the step of every caller
pub for_every : {T E : Type 0} {one two : Step} (left : Step) (result : Result T E) → one ≡ two → IfOk result (λ value. one ≡ left) →
    IfOk result (λ value. (caller : ℕ) → two ≡ left)
for_every left (Ok value) same is = λ caller. sym same ∙ is
for_every left (Err refusal) same is = tt

module _ {R : Type 0} {g : _} {T : Type 0} (see : R → Seen WordStep) (faults : R → ℕ) (obeys takes : Bool) (old : NsState R g) (asked : List Asked) where
  -- there is no number for a place
  pub spent : (change : Option Change) (value : T) (after : Kernel R) → IsSpent (kernel_of old) →
      Performs see faults obeys takes change value after (Err answers.NoMemory) asked old asked old
  spent change value after is = record {
    outcome = Err stored.NoMemory;
    answer = refl;
    passed = tt;
    failed = refl;
    without_memory = λ _. ((refl, refl, refl), refl);
    attempts = λ differs. absurd (differs refl);
    lacks = λ _. refl;
    only = λ _ _. inl is;
  }

  -- a request that changes nothing takes its place
  pub unchanged_then : (value : T) (after : Kernel R) (result : Result T NsRefusal) (new : NsState R g) → (IsSpent (kernel_of old) → ⊥) → result ≡ Ok value →
      kernel_of new ≡ after → Rests asked (stored_of old) asked (stored_of new) → Performs see faults obeys takes None value after result asked old asked new
  unchanged_then value after result new unspent told left rests = record {
    outcome = Ok tt;
    answer = told;
    passed = left;
    failed = tt;
    without_memory = λ is. absurd (cc);
    attempts = λ _. (refl, rests);
    lacks = λ none. elim none [ inl is ↦ absurd (unspent is) | inr room ↦ absurd room ];
    only = λ _ is. absurd (cc);
  }

  module _ (change : Change) (outcome : Result (Unit {0}) StoreRefusal) (asked_new : List Asked) (new : NsState R g)
      (unspent : IsSpent (kernel_of old) → ⊥)
      (without_memory : outcome ≡ Err stored.NoMemory → Rests asked (stored_of old) asked_new (stored_of new))
      (stores : outcome ≢ Err stored.NoMemory → Stores see faults obeys change outcome asked (stored_of old) asked_new (stored_of new))
      (lacks : LacksRoom (stored_of old) → outcome ≡ Err stored.NoMemory)
      (only : takes ≡ false → outcome ≡ Err stored.NoMemory → LacksRoom (stored_of old)) where
    -- the change is not stored
    pub failed_to_store : (value : T) (after : Kernel R) (refusal : StoreRefusal) (told : NsRefusal) → outcome ≡ Err refusal → told ≡ stored_told refusal →
        OnErr outcome (kernel_of new ≡ kernel_of old) → Performs see faults obeys takes (Some change) value after (Err told) asked old asked_new new
    failed_to_store value after refusal told is tells same = record {
      outcome = outcome;
      answer = rw is (ap (λ refusal. Err refusal) tells);
      passed = rw is tt;
      failed = same;
      without_memory = without_memory;
      attempts = stores;
      lacks = lacking old change outcome unspent lacks;
      only = λ none is. inr (only none is);
    }

    -- it is
    pub stored_then : (value : T) (after : Kernel R) (done : Unit {0}) (result : Result T NsRefusal) → outcome ≡ Ok done → result ≡ Ok value → kernel_of new ≡ after →
        Performs see faults obeys takes (Some change) value after result asked old asked_new new
    stored_then value after done result is told left = record {
      outcome = outcome;
      answer = rw is told;
      passed = rw is left;
      failed = rw is tt;
      without_memory = without_memory;
      attempts = stores;
      lacks = lacking old change outcome unspent lacks;
      only = λ none is. inr (only none is);
    }
