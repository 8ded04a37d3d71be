-- What a crash recovers at each moment of a store and of an append.
use Rattle.std.proofs.Common.{ℕ, ◌+◌, ◌-◌, ◌≡◌, ◌⊎◌, ◌∙◌, List, [], ◌∷◌, ◌++◌, length, drop, Option, Some, None, inl, inr, refl, sym, ap, subst, arith}
use Rattle.std.proofs.lemmas.List.{drop_all}
use Rattle.cfs_dir.specs.declared.change.Change.{Change}
use Rattle.cfs_dir.specs.Change.{changed, changed_by}
use Rattle.cfs_dir.specs.Namespace.{Namespace}
use Rattle.cfs_pmem.specs.declared.trace.Asked.{Asked}
use Rattle.cfs_pmem.specs.Images.{Seen, WordStep, IsImage}
use Rattle.cfs_pmem.specs.Objects.{IsEachImage, MomentsOf}
use Rattle.cfs_pmem.proofs.AllMomentLemmas.{all_after, all_at_end, all_begun, all_weaker}
use Rattle.cfs_ckpt.specs.History.{StoreMoments}
use Rattle.cfs_ckpt.specs.Loads.{CanLoad, Loaded, LoadsOnly, loaded}
use Rattle.cfs_ckpt.proofs.LoadLemmas.{loads_begun}
use Rattle.cfs_journal.specs.Standing.{Gives, GivesEither, Standing, changes_above}
use Rattle.cfs_journal.proofs.Standings.{held_of}
use Rattle.cfs_journal.proofs.Walks.{gives}
use Rattle.cfs_names.specs.Behind.{AreBehind, IsBehind}
use Rattle.cfs_names.specs.Recovered.{IsTreeOr, Recovers, recovered}
use Rattle.cfs_names.proofs.Joint.{behind_appended, behind_cut, behind_stored, recovers}
use Rattle.cfs_names.proofs.Worlds.{apart, behind_front, loaded_front, on_records, on_tables}

-- what the two parts recover
pub recovered_parts : (mine behind : List (List ℕ)) → length mine ≡ 3 → recovered (mine ++ behind) ≡ changed_by (loaded mine).tree (changes_above (loaded mine).through behind)
recovered_parts mine behind three =
    ap (λ (x : Loaded). changed_by x.tree (changes_above x.through (drop 3 (mine ++ behind)))) (loaded_front mine behind three)
    ∙ ap (λ records. changed_by (loaded mine).tree (changes_above (loaded mine).through records)) (behind_front mine behind three)

abbrev pub RecoversTree : Namespace → Option Change → List (List ℕ) → Type 0
RecoversTree tree doubt images = IsTreeOr tree doubt (recovered images)

parts : {through : ℕ} {changes : List Change} {doubt : Option Change} {tree : Namespace} (mine behind : List (List ℕ)) → length mine ≡ 3
    → IsBehind through changes tree (loaded mine) → Gives through changes doubt behind → RecoversTree tree doubt (mine ++ behind)
parts {doubt = doubt} {tree = tree} mine behind three is_behind give = subst (λ found. IsTreeOr tree doubt found) (sym (recovered_parts mine behind three)) (recovers is_behind give)

-- between calls
pub at_rest : {through : ℕ} {changes : List Change} {doubt : Option Change} {tree : Namespace} {tables records : List (Seen WordStep)} (asked : List Asked) → length tables ≡ 3 → apart (tables ++ records)
    → AreBehind through changes tree tables → Standing through changes doubt records
    → MomentsOf IsImage (RecoversTree tree doubt) asked (tables ++ records) asked (tables ++ records)
at_rest {through} {changes} {doubt} {tree} {tables} {records} asked three distinct are standing =
    on_records tables three distinct
    (λ mine behind size each give. parts mine behind size (are (loaded mine) (loads_begun tables mine each)) give)
    (all_begun asked records standing.distinct (λ images each. gives (held_of standing images each)))

-- while the tree is stored
pub while_stored : {through : ℕ} {changes : List Change} {doubt : Option Change} {tree : Namespace} {asked_old asked_new : List Asked} {old new : List (Seen WordStep)} (records : List (Seen WordStep)) (number : ℕ)
    → number ≡ through + length changes → length old ≡ 3 → apart (old ++ records) → AreBehind through changes tree old → Standing through changes doubt records
    → StoreMoments record { tree = tree; through = number } asked_old old asked_new new
    → MomentsOf IsImage (RecoversTree tree doubt) asked_old (old ++ records) asked_new (new ++ records)
while_stored {through} {changes} {doubt} {tree} {asked_old} {asked_new} {old} {new} records number is three distinct are standing m =
    on_tables records three distinct
    (λ mine behind size has each. parts mine behind size (elim has [
      | inl was ↦ are (loaded mine) was
      | inr this ↦ subst (λ x. IsBehind through changes tree x) (sym (this ∙ ap (λ (n : ℕ). record { tree = tree; through = n }) is)) (behind_stored through changes tree)
    ]) (gives (held_of standing behind each)))
    m

-- while a record is appended
pub while_appended : {through : ℕ} {changes : List Change} {doubt : Option Change} {tree : Namespace} {asked_old asked_new : List Asked} {old new : List (Seen WordStep)} (change : Change) (tables : List (Seen WordStep))
    → length tables ≡ 3 → apart (tables ++ old) → AreBehind through changes tree tables
    → MomentsOf IsImage (GivesEither through changes doubt (Some change)) asked_old old asked_new new
    → MomentsOf IsImage (Recovers tree doubt change) asked_old (tables ++ old) asked_new (tables ++ new)
while_appended {through} {changes} {doubt} {tree} {asked_old} {asked_new} {old} {new} change tables three distinct are m =
    on_records tables three distinct
    (λ mine behind size each has.
    let is_behind = are (loaded mine) (loads_begun tables mine each) in
    elim has [
      | inl give ↦ inl (parts mine behind size is_behind give)
      | inr give ↦ either change tree (parts mine behind size is_behind give)
    ])
    m
  where
    either : (one : Change) (from : Namespace) {other : Option Change} {found : Namespace} → IsTreeOr from (Some one) found → IsTreeOr from other found ⊎ (found ≡ changed from one)
    either one from (inl same) = inl (inl same)
    either one from (inr more) = let this : more.0 ≡ one = cc in inr (more.2 ∙ ap (λ (c : Change). changed from c) this)

-- ---- what is loaded behind a store

pub behind_kept : {through : ℕ} {changes : List Change} {tree : Namespace} {asked_old asked_new : List Asked} {old new : List (Seen WordStep)} (number : ℕ) → number ≡ through + length changes
    → AreBehind through changes tree old → StoreMoments record { tree = tree; through = number } asked_old old asked_new new → AreBehind through changes tree new
behind_kept {through} {changes} {tree} {asked_old} {asked_new} {old} {new} number is are m = λ x can.
    subst (λ y. IsBehind through changes tree y) can.loads (elim (all_at_end m can.images can.possible) [
      | inl was ↦ are (loaded can.images) was
      | inr this ↦ subst (λ y. IsBehind through changes tree y) (sym (this ∙ ap (λ (n : ℕ). record { tree = tree; through = n }) is)) (behind_stored through changes tree)
    ])

-- and where it went well and the journal is cut
pub behind_fresh : {tree : Namespace} {new : List (Seen WordStep)} (changes : List Change) (through number cut : ℕ) (left : List Change) → number ≡ through + length changes → cut ≡ number
    → left ≡ drop (number - through) changes → LoadsOnly new record { tree = tree; through = number } → AreBehind cut left tree new
behind_fresh {tree} {new} changes through number cut left is same rest only = λ x can.
    let none : left ≡ [] = rest ∙ drop_all (number - through) changes (omega (arith, is)) in
    let this : x ≡ record { tree = tree; through = number } = sym can.loads ∙ only can.images can.possible in
    subst (λ y. IsBehind cut left tree y) (sym this)
    (subst (λ n. IsBehind n left tree record { tree = tree; through = number }) (sym same)
    (subst (λ cs. IsBehind number cs tree record { tree = tree; through = number }) (sym none) (behind_cut number tree)))

-- ---- what is loaded behind an append

pub behind_same : {through later : ℕ} {changes left : List Change} {tree : Namespace} {seens : List (Seen WordStep)} → later ≡ through → left ≡ changes → AreBehind through changes tree seens
    → AreBehind later left tree seens
behind_same {through} {later} {changes} {left} {tree} {seens} same_number same_changes are =
    subst (λ n. AreBehind n left tree seens) (sym same_number) (subst (λ cs. AreBehind through cs tree seens) (sym same_changes) are)

pub behind_after : {through later : ℕ} {changes left : List Change} {tree after : Namespace} {seens : List (Seen WordStep)} (change : Change) → later ≡ through → left ≡ changes ++ change ∷ []
    → after ≡ changed tree change → AreBehind through changes tree seens → AreBehind later left after seens
behind_after {through} {later} {changes} {left} {tree} {after} {seens} change same_number more is are =
    subst (λ t. AreBehind later left t seens) (sym is)
    (behind_same same_number more (λ x can. behind_appended change (are x can)))

-- ---- room is made, and then a record is appended

pub then_appended : {through : ℕ} {changes : List Change} {doubt doubt_old : Option Change} {tree tree_old : Namespace} {asked_old asked asked_new : List Asked} {old tables records new : List (Seen WordStep)} (change : Change)
    → tree ≡ tree_old → doubt ≡ doubt_old → length tables ≡ 3 → apart (tables ++ records) → AreBehind through changes tree tables
    → MomentsOf IsImage (RecoversTree tree_old doubt_old) asked_old old asked (tables ++ records)
    → MomentsOf IsImage (GivesEither through changes doubt (Some change)) asked records asked_new new
    → MomentsOf IsImage (Recovers tree_old doubt_old change) asked_old old asked_new (tables ++ new)
then_appended {doubt_old = doubt_old} {tree = tree} {tree_old = tree_old} {tables = tables} change same_tree same_doubt three distinct are first second =
    all_after (all_weaker (λ images h. inl h) first)
    (all_weaker (λ images h. subst (λ t. Recovers t doubt_old change images) same_tree (subst (λ d. Recovers tree d change images) same_doubt h))
    (while_appended change tables three distinct are second))
