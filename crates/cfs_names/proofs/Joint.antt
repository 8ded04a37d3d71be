-- The journal beside the checkpoint: what is loaded leads to the tree, before and after each step.
use Rattle.std.proofs.Common.{ℕ, zero, suc, ◌+◌, ◌-◌, ◌<◌, ◌≤◌, ◌≡◌, ◌⊎◌, ◌∙◌, List, [], ◌∷◌, ◌++◌, length, drop, Option, Some, None, inl, inr, refl, sym, ap, subst, arith}
use Rattle.std.proofs.lemmas.List.{append-nil, drop-append-le, drop_all, length-append}
use Rattle.cfs_dir.specs.declared.change.Change.{Change}
use Rattle.cfs_dir.specs.Change.{changed, changed_by}
use Rattle.cfs_dir.specs.Namespace.{Namespace}
use Rattle.cfs_ckpt.specs.Loads.{Loaded, loaded}
use Rattle.cfs_journal.specs.Standing.{Gives, changes_above}
use Rattle.cfs_names.specs.Behind.{IsBehind}
use Rattle.cfs_names.specs.Recovered.{IsTreeOr}

-- one change more
pub changed_by-last : (tree : Namespace) (changes : List Change) (change : Change) → changed_by tree (changes ++ change ∷ []) ≡ changed (changed_by tree changes) change
changed_by-last tree [] change = refl
changed_by-last tree (first ∷ rest) change = changed_by-last (changed tree first) rest change

-- what is loaded, and what the journal gives above its number, recover the tree
pub recovers : {through : ℕ} {changes : List Change} {doubt : Option Change} {tree : Namespace} {x : Loaded} {records : List (List ℕ)}
    → IsBehind through changes tree x → Gives through changes doubt records → IsTreeOr tree doubt (changed_by x.tree (changes_above x.through records))
recovers {through} {changes} {doubt} {tree} {x} {records} behind gives = elim (gives.above x.through behind.low behind.high) [
  | inl all ↦ inl (ap (λ cs. changed_by x.tree cs) all ∙ behind.leads)
  | inr more ↦ inr (
    more.0,
    more.1,
    ap (λ cs. changed_by x.tree cs) more.2 ∙ changed_by-last x.tree (drop (x.through - through) changes) more.0
        ∙ ap (λ (t : Namespace). changed t more.0) behind.leads,
  )
]

-- a change is appended
pub behind_appended : {through : ℕ} {changes : List Change} {tree : Namespace} {x : Loaded} (change : Change) → IsBehind through changes tree x
    → IsBehind through (changes ++ change ∷ []) (changed tree change) x
behind_appended {through} {changes} {tree} {x} change behind = record {
  low = behind.low;
  high = omega (arith, behind.high, length-append changes (change ∷ []));
  leads = ap (λ cs. changed_by x.tree cs) (drop-append-le (x.through - through) changes (change ∷ []) (omega (arith, behind.high)))
      ∙ changed_by-last x.tree (drop (x.through - through) changes) change
      ∙ ap (λ (t : Namespace). changed t change) behind.leads;
}

-- the tree is stored
pub behind_stored : (through : ℕ) (changes : List Change) (tree : Namespace) → IsBehind through changes tree (record { tree = tree; through = through + length changes })
behind_stored through changes tree = record {
  low = omega arith;
  high = omega arith;
  leads = ap (λ cs. changed_by tree cs) (drop_all (through + length changes - through) changes (omega arith));
}

-- and the journal is cut
pub behind_cut : (through : ℕ) (tree : Namespace) → IsBehind through [] tree (record { tree = tree; through = through })
behind_cut through tree = record {
  low = omega arith;
  high = omega arith;
  leads = ap (λ cs. changed_by tree cs) (drop_all (through - through) [] (omega arith));
}
