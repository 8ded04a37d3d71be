-- How parents lead to the root, step by step.
use Rattle.std.proofs.Common.{◌≡◌, ◌≢◌, ℕ, zero, suc, List, true, false, ◌∙◌, ap, eq-eqb}
use Rattle.std.specs.Prelude.{◌==◌, if◌then◌else◌}
use Rattle.std.specs.Option.{option_map_or}
use Rattle.cfs_dir.specs.declared.node.Node.{Node}
use Rattle.cfs_dir.specs.Namespace.{node_of}
use Rattle.cfs_dir.specs.Tree.{leads_to_root}
use Rattle.std.proofs.lemmas.Bool.{eqb-true, cases_Bool}
use Rattle.std.proofs.Common.{inl, inr}

pub unequal : (a b : ℕ) → a ≢ b → (a == b) ≡ false
unequal a b h = elim (cases_Bool (a == b)) [ inl t ↦ absurd (h (eqb-true a b t)) | inr f ↦ f ]

pub at_root : (steps : ℕ) (nodes : List Node) (ino : ℕ) → ino ≡ 1 → leads_to_root steps nodes ino ≡ true
unfolding leads_to_root
at_root zero nodes ino e = eq-eqb ino 1 e
at_root (suc steps) nodes ino e = ap (λ b. if b then true else option_map_or (λ node. leads_to_root steps nodes node.parent) (node_of nodes ino) false) (eq-eqb ino 1 e)

pub no_step_left : (steps : ℕ) (nodes : List Node) (ino : ℕ) → steps ≡ 0 → ino ≢ 1 → leads_to_root steps nodes ino ≡ false
unfolding leads_to_root
no_step_left zero nodes ino none other = unequal ino 1 other
no_step_left (suc steps) nodes ino none other = absurd (cc)

pub one_step : (steps n : ℕ) (nodes : List Node) (ino : ℕ) → steps ≡ suc n → ino ≢ 1
    → leads_to_root steps nodes ino ≡ option_map_or (λ node. leads_to_root n nodes node.parent) (node_of nodes ino) false
unfolding leads_to_root
one_step zero n nodes ino more other = absurd (cc)
one_step (suc steps) n nodes ino more other =
    let same : steps ≡ n = cc in
    ap (λ b. if b then true else option_map_or (λ node. leads_to_root steps nodes node.parent) (node_of nodes ino) false) (unequal ino 1 other)
    ∙ ap (λ m. option_map_or (λ node. leads_to_root m nodes node.parent) (node_of nodes ino) false) same
