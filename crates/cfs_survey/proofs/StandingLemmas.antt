-- What the checks of a change say of the nodes that it names.
use Rattle.std.proofs.Common.{◌≡◌, ◌≢◌, ◌∙◌, ℕ, ◌+◌, Bool, true, false, not, List, []}
use Rattle.std.proofs.Common.{◌∷◌, get_or, drop, inl, inr, refl, sym, ap, arith}
use Rattle.std.specs.Prelude.{Option, Some, None, is_none, ◌==◌, if◌then◌else◌}
use Rattle.std.proofs.lemmas.Bool.{eqb-false, eqb-true}
use Rattle.std.proofs.lemmas.List.{get_or-take, get_or-drop}
use Rattle.cfs_dir.specs.declared.node.Node.{Node}
use Rattle.cfs_dir.specs.Namespace.{node_at}
use Rattle.cfs_dir.proofs.Members.{In}
use Rattle.cfs_image.specs.Checks.{check, damage_of}
use Rattle.cfs_survey.specs.Changes.{empty_check, held_check, ino_of, lower_of, lowest_child}
use Rattle.cfs_survey.specs.Changes.{node_row, number_of, standing_checks}
use Rattle.cfs_survey.specs.Faults.{equal}
use Rattle.cfs_survey.proofs.FirstFaults.{passed, sound_parts}
use Rattle.cfs_survey.proofs.NameLemmas.{not_true}

-- the node's words begin with its inode number
pub row_ino : (words : List ℕ) → get_or (node_row words) 0 0 ≡ ino_of words
row_ino words =
    get_or-take 12 (drop 3 words) 0 0 (omega arith) ∙ get_or-drop 3 words 0 0

-- a node of a record, with an inode number
pub record IsHeld (nodes : List Node) (rec ino : ℕ) (held : Node) : Type 0 where
  pub found : node_at nodes rec ≡ Some held
  pub ino_is : held.ino ≡ ino
  pub other : rec ≢ 0

held_holds : (at : ℕ) (found : Option Node) (ino : ℕ) →
    damage_of (held_check at found ino ∷ []) ≡ None
    → (held : Node) × (found ≡ Some held) × (held.ino ≡ ino)
held_holds at None ino sound = absurd (let clash = passed (held_check at None ino) sound in cc)
held_holds at (Some node) ino sound =
    (node, refl, sym (eqb-true ino node.ino (passed (equal node.ino at ino) sound)))

pub standing_holds : (at : ℕ) (nodes : List Node) (words : List ℕ) →
    damage_of (standing_checks at nodes words) ≡ None
    → (held : Node) × IsHeld nodes (number_of words) (ino_of words) held
standing_holds at nodes words sound =
    let first = held_check (at + 24) (node_at nodes (number_of words)) (ino_of words) in
    let root = check (not (number_of words == 0)) (at + 16) (number_of words) 0 in
    let parts = sound_parts (first ∷ []) (root ∷ []) sound in
    let held = held_holds (at + 24) (node_at nodes (number_of words)) (ino_of words) parts.0 in (
      held.0,
      record {
        found = held.1;
        ino_is = held.2;
        other = eqb-false (number_of words) 0
            (not_true (number_of words == 0) (passed root parts.1));
      },
    )

-- no node stands in a directory without a lowest child
childless : (nodes : List Node) (ino : ℕ) → is_none (lowest_child nodes ino) ≡ true →
    (node : Node) → In nodes node → node.parent ≢ ino
childless [] ino none node m e = absurd m
childless (first ∷ rest) ino none node m e =
    split (first.parent == ino) refl (λ h deeper. childless rest ino h node deeper e) none
  where
    split : (b : Bool) → (first.parent == ino) ≡ b
        → (is_none (lowest_child rest ino) ≡ true → In rest node → ⊥)
        → is_none (if b then Some (lower_of first.ino (lowest_child rest ino))
        else lowest_child rest ino) ≡ true
        → ⊥
    split true is later h = absurd (cc)
    split false is later h = elim m [
      | inl same ↦ eqb-false first.parent ino is (ap (λ (n : Node). n.parent) same ∙ e)
      | inr deeper ↦ later h deeper
    ]

pub empty_holds : (at : ℕ) (nodes : List Node) (ino : ℕ) →
    damage_of (empty_check at nodes ino ∷ []) ≡ None →
    (node : Node) → In nodes node → node.parent ≢ ino
empty_holds at nodes ino sound = childless nodes ino (passed (empty_check at nodes ino) sound)
