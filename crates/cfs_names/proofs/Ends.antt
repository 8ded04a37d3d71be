-- How the calls of a change end: room was made or not, and the record was appended or not.
use Rattle.std.specs.Result.{is_err}
use Rattle.std.proofs.Common.{ℕ, ◌+◌, ◌%◌, ◌≡◌, ◌⊎◌, ◌∙◌, Bool, true, false, Result, Ok, Err, List, [], ◌∷◌, ◌++◌, length, Option, Some, None, inl, inr, refl, ap, subst, arith}
use Rattle.std.proofs.lemmas.List.{length-append}
use Rattle.std.specs.Prelude.{IsErr, OnErr, OnOk}
use Rattle.cfs_dir.specs.declared.change.Change.{Change}
use Rattle.cfs_dir.specs.Change.{changed}
use Rattle.cfs_dir.specs.Namespace.{Namespace}
use Rattle.cfs_pmem.specs.declared.trace.Asked.{Asked}
use Rattle.cfs_pmem.specs.Faults.{HasCause}
use Rattle.cfs_pmem.specs.Images.{Seen, WordStep}
use Rattle.cfs_pmem.specs.Objects.{seen_at}
use Rattle.cfs_ckpt.specs.Placed.{PlacedOp}
use Rattle.cfs_ckpt.specs.Stores.{Stores, store_ops}
use Rattle.cfs_journal.specs.Appends.{Appends}
use Rattle.cfs_journal.specs.Journals.{faults_at}
use Rattle.cfs_names.specs.declared.store_refusal.StoreRefusal.{StoreRefusal}
use Rattle.cfs_names.specs.declared.store_refusal.StoreRefusal.TheVariants as refusals
use Rattle.cfs_names.specs.Causes.{HasCauseOf}
use Rattle.cfs_names.specs.Held.{Held, MakesChange, changes_left}
use Rattle.cfs_names.specs.Steps.{Found, MakesRoom, StoresChange}

pub on_ok : {T E P : Type 0} (result : Result T E) → is_err result ≡ false → OnOk result P → P
on_ok (Ok t) is p = p
on_ok (Err e) is p = absurd (cc)

pub on_err : {T E P : Type 0} (result : Result T E) → is_err result ≡ true → OnErr result P → P
on_err (Ok t) is p = absurd (cc)
on_err (Err e) is p = p

-- ---- room

pub room_there : {full : Bool} {unsure : Bool} {asked : List Asked} {seens : List (Seen WordStep)} (ops : List PlacedOp) → full ≡ false → MakesRoom full ops true unsure unsure asked seens asked seens
room_there ops not_full = record {
  none = λ _. (refl, refl, refl, refl);
  all = λ is _. absurd (cc);
  front = λ is _. absurd (cc);
}

pub room_stopped : {T E : Type 0} {full unsure_old unsure_new : Bool} {asked_old asked_new : List Asked} {old new : List (Seen WordStep)} (result : Result T E) (unsure : Bool) (word : ℕ) (tree : Namespace) (number last : ℕ)
    → number ≡ last → is_err result ≡ true → full ≡ true → Stores (store_ops unsure word tree number) unsure_new result asked_old old asked_new new
    → MakesRoom full (store_ops unsure word tree last) false unsure_old unsure_new asked_old old asked_new new
room_stopped {full = full} {unsure_old = unsure_old} {unsure_new = unsure_new} {asked_old = asked_old} {asked_new = asked_new} {old = old} {new = new} result unsure word tree number last same failed is_full stores =
    subst (λ n. MakesRoom full (store_ops unsure word tree n) false unsure_old unsure_new asked_old old asked_new new) same record {
      none = λ is. absurd (cc);
      all = λ _ is. absurd (cc);
      front = λ _ _. on_err result failed stores.err;
    }

pub room_stored : {T E : Type 0} {full unsure_old unsure_new : Bool} {asked_old asked_new : List Asked} {old new : List (Seen WordStep)} (result : Result T E) (unsure : Bool) (word : ℕ) (tree : Namespace) (number last : ℕ)
    → number ≡ last → is_err result ≡ false → full ≡ true → unsure_new ≡ false → Stores (store_ops unsure word tree number) unsure_new result asked_old old asked_new new
    → MakesRoom full (store_ops unsure word tree last) true unsure_old unsure_new asked_old old asked_new new
room_stored {full = full} {unsure_old = unsure_old} {unsure_new = unsure_new} {asked_old = asked_old} {asked_new = asked_new} {old = old} {new = new} result unsure word tree number last same passed is_full settled stores =
    subst (λ n. MakesRoom full (store_ops unsure word tree n) true unsure_old unsure_new asked_old old asked_new new) same record {
      none = λ is. absurd (cc);
      all = λ _ _. (settled, on_ok result passed stores.ok);
      front = λ _ is. absurd (cc);
    }

-- ---- and the record

-- what an append does for one call it does for another that ends alike
appends_alike : {T E U F : Type 0} {number : ℕ} {change : Change} {doubt left : Option Change} {asked_old asked_new : List Asked} {old new : Seen WordStep} (one : Result T E) (other : Result U F)
    → is_err one ≡ is_err other → Appends number change doubt left one asked_old old asked_new new → Appends number change doubt left other asked_old old asked_new new
appends_alike (Ok t) (Ok u) same h = record { ok = h.ok; err = tt }
appends_alike (Ok t) (Err f) same h = absurd (cc)
appends_alike (Err e) (Ok u) same h = absurd (cc)
appends_alike (Err e) (Err f) same h = record { ok = tt; err = h.err }

-- no room was made
pub change_stopped : {T E : Type 0} {full : Bool} {ops : List PlacedOp} {number : ℕ} {change : Change} {result : Result T E} {asked_old asked_new : List Asked} {old new : Found}
    → MakesRoom full ops false old.unsure new.unsure asked_old old.tables asked_new new.tables → IsErr result → new.doubt ≡ old.doubt → new.next ≡ old.next
    → StoresChange full ops number change result asked_old old asked_new new
change_stopped {asked_new = asked_new} room failed doubt next = record {
  ok = false;
  asked = asked_new;
  room = room;
  appended = λ is. absurd (cc);
  stopped = λ _. (failed, doubt, refl, next);
}

-- room was made, and the append ended as the call does
pub change_appended : {T E U F : Type 0} {full : Bool} {ops : List PlacedOp} {number : ℕ} {change : Change} {asked_old asked_new : List Asked} {old new : Found} (asked : List Asked) (first : Result U F) (result : Result T E)
    → is_err first ≡ is_err result → MakesRoom full ops true old.unsure new.unsure asked_old old.tables asked new.tables
    → Appends number change old.doubt new.doubt first asked old.next asked_new new.next → StoresChange full ops number change result asked_old old asked_new new
change_appended asked first result same room appended = record {
  ok = true;
  asked = asked;
  room = room;
  appended = λ _. appends_alike first result same appended;
  stopped = λ is. absurd (cc);
}

-- the next record's number, place and region are those from before room was made
pub appended_from : {T E : Type 0} {change : Change} {doubt doubt_old left : Option Change} {result : Result T E} {asked asked_new : List Asked} {seens seens_old : List (Seen WordStep)} (new : List (Seen WordStep)) (last last_old : ℕ)
    → last + 1 ≡ last_old + 1 → seens ≡ seens_old → doubt ≡ doubt_old
    → Appends (last + 1) change doubt left result asked (seen_at seens (last % 64)) asked_new (seen_at new (last % 64))
    → Appends (last_old + 1) change doubt_old left result asked (seen_at seens_old (last_old % 64)) asked_new (seen_at new (last_old % 64))
appended_from {change = change} {doubt = doubt} {doubt_old = doubt_old} {left = left} {result = result} {asked = asked} {asked_new = asked_new} {seens = seens} {seens_old = seens_old} new last last_old same same_seens same_doubt h =
    let number : last ≡ last_old = omega (arith, same) in
    subst (λ n. Appends (n + 1) change doubt_old left result asked (seen_at seens_old (n % 64)) asked_new (seen_at new (n % 64))) number
    (subst (λ s. Appends (last + 1) change doubt_old left result asked (seen_at s (last % 64)) asked_new (seen_at new (last % 64))) same_seens
    (subst (λ d. Appends (last + 1) change d left result asked (seen_at seens (last % 64)) asked_new (seen_at new (last % 64))) same_doubt h))

-- ---- what is held

pub makes_failed : {T E : Type 0} {full : Bool} {change : Change} {old new : Held} (mid : Held) (result : Result T E) → is_err result ≡ true
    → mid.tree ≡ old.tree → mid.changes ≡ changes_left full old.changes → mid.last ≡ old.last → mid.doubt ≡ old.doubt
    → new.tree ≡ mid.tree → new.changes ≡ mid.changes → new.last ≡ mid.last → (new.doubt ≡ mid.doubt) ⊎ (new.doubt ≡ Some change) → MakesChange full change result old new
makes_failed mid (Ok t) failed = absurd (cc)
makes_failed {change = change} {old = old} {new = new} mid (Err e) failed = λ tree changes last doubt tree_new changes_new last_new doubt_new. record {
  made = tt;
  appended = tt;
  number = tt;
  settled = tt;
  refused = tree_new ∙ tree;
  left = inr (changes_new ∙ changes);
  same_number = last_new ∙ last;
  doubtful = elim doubt_new [
    | inl same ↦ inl (same ∙ doubt)
    | inr this ↦ inr this
  ];
}

pub makes_done : {T E : Type 0} {full : Bool} {change : Change} {old new : Held} (mid : Held) (result : Result T E) → is_err result ≡ false
    → mid.changes ≡ changes_left full old.changes → mid.last ≡ old.last
    → new.tree ≡ changed old.tree change → new.changes ≡ mid.changes ++ change ∷ [] → new.last ≡ mid.last + 1 → new.doubt ≡ None → MakesChange full change result old new
makes_done mid (Err e) failed = absurd (cc)
makes_done {change = change} mid (Ok t) failed = λ changes last tree_new changes_new last_new doubt_new. record {
  made = tree_new;
  appended = changes_new ∙ ap (λ cs. cs ++ change ∷ []) changes;
  number = last_new ∙ ap (λ (n : ℕ). n + 1) last;
  settled = doubt_new;
  refused = tt;
  left = tt;
  same_number = tt;
  doubtful = tt;
}

-- the number of the last change, before and behind an append
pub last_same : {changes left : List Change} (through later : ℕ) → later ≡ through → left ≡ changes → later + length left ≡ through + length changes
last_same through later same_number same_changes = omega (arith, same_number, ap (λ (cs : List Change). length cs) same_changes)

pub last_more : {left : List Change} (changes : List Change) (change : Change) (through later : ℕ) → later ≡ through → left ≡ changes ++ change ∷ [] → later + length left ≡ through + length changes + 1
last_more changes change through later same_number more = omega (arith, same_number, ap (λ (cs : List Change). length cs) more, length-append changes (change ∷ []))

-- ---- causes

-- it was the checkpoint's
pub room_cause : {T : Type 0} {tables_old tables_new : List ℕ} {next_old next_new : ℕ} {result : Result T StoreRefusal} → next_new ≡ next_old
    → HasCauseOf tables_old tables_new 0 0 result → HasCauseOf tables_old tables_new next_old next_new result
room_cause same h = record {
  failed = λ is. elim (h.failed is) [
    | inl rose ↦ inl (rose.0, same)
    | inr other ↦ absurd (omega (arith, other.1))
  ];
  passed = λ is. ((h.passed is).0, same);
}

-- it was the record's
pub append_cause : {T U E : Type 0} {tables_old tables_new : List ℕ} {next_old next_new : ℕ} (first : Result U E) → is_err first ≡ true → tables_new ≡ tables_old
    → HasCause next_old next_new first → HasCauseOf {T = T} tables_old tables_new next_old next_new (Err refusals.Failed)
append_cause first failed tables h = record {
  failed = λ is. inr (tables, on_err first failed h.failed);
  passed = λ is. absurd (is refl);
}

pub no_cause : {T U E : Type 0} {tables_old tables_new : List ℕ} {next_old next_new : ℕ} (t : T) (first : Result U E) → is_err first ≡ false → tables_new ≡ tables_old
    → HasCause next_old next_new first → HasCauseOf tables_old tables_new next_old next_new (Ok t)
no_cause t first passed tables h = record {
  failed = λ is. absurd (cc);
  passed = λ is. (tables, on_ok first passed h.passed);
}

-- of the region of the next record, where the place is that from before room was made
pub cause_from : {R T E : Type 0} {result : Result T E} {regions regions_old : List R} (faults : R → ℕ) (new : List R) (last last_old : ℕ) → last ≡ last_old → regions ≡ regions_old
    → HasCause (faults_at faults (last % 64) regions) (faults_at faults (last % 64) new) result → HasCause (faults_at faults (last_old % 64) regions_old) (faults_at faults (last_old % 64) new) result
cause_from {R} {T} {E} {result} {regions} {regions_old} faults new last last_old same same_regions h =
    subst (λ n. HasCause (faults_at faults (n % 64) regions_old) (faults_at faults (n % 64) new) result) same
    (subst (λ rs. HasCause (faults_at faults (last % 64) rs) (faults_at faults (last % 64) new) result) same_regions h)
