-- That the nodes of a table that passes its checks are a tree.
use Rattle.std.proofs.Common.{◌≡◌, ℕ, ◌+◌, ◌<◌, ◌≤◌, zero, suc, List, [], ◌∷◌, ◌++◌, get_or, drop, sym, ◌∙◌, ap, subst, arith}
use Rattle.std.specs.Prelude.{All, None, Some, IsSomeAnd, find, ◌==◌}
use Rattle.std.specs.Option.{option_or}
use Rattle.std.proofs.lemmas.List.Elements.{All-weaker}
use Rattle.std.proofs.lemmas.List.Folds.{find-append}
use Rattle.cfs_dir.specs.declared.node.Node.{Node}
use Rattle.cfs_dir.specs.Namespace.{node_at}
use Rattle.cfs_dir.specs.Tree.{IsRoot, IsTree}
use Rattle.cfs_dir.specs.Words.{node_in, table_in}
use Rattle.cfs_image.specs.Checks.{check, damage_of}
use Rattle.cfs_survey.specs.Faults.{checks_from}
use Rattle.cfs_survey.specs.Fields.{root_checks}
use Rattle.cfs_survey.specs.Places.{place_checks, places_checks, rec_of, twin_of}
use Rattle.cfs_survey.specs.Tables.{nodes_below, next_checks, record_checks, records_checks, row, row_at, standing, table_checks}
use Rattle.cfs_survey.proofs.FirstFaults.{passed, sound_parts}
use Rattle.cfs_survey.proofs.RecordLemmas.{none_found, records_hold, root_holds}
use Rattle.cfs_survey.proofs.RowLemmas.{IsSoundNode}
use Rattle.cfs_survey.proofs.TableLemmas.{below_first, below_next, nodes_in-records}
use Rattle.cfs_survey.proofs.TreeLemmas.{all_sound, depths_hold, next_bounds, nodes_in-ascend, parents_hold}
use Rattle.cfs_survey.proofs.TwinLemmas.{names_once}
use Rattle.std.specs.Prelude.{is_none}

pub twins_hold : (place : ℕ → ℕ) (nodes : List Node) → damage_of (places_checks place nodes) ≡ None → All (λ x. twin_of nodes x ≡ None) nodes
unfolding places_checks
twins_hold place nodes sound =
    All-weaker (λ node. damage_of (place_checks (place node.rec) nodes node) ≡ None) (λ x. twin_of nodes x ≡ None)
    (λ node here.
    let whole = place_checks (place node.rec) nodes node in
    let twin = check (is_none (twin_of nodes node)) (place node.rec) node.rec (rec_of (twin_of nodes node)) in
    none_found (twin_of nodes node) (passed twin (sound_parts (twin ∷ []) (drop 2 whole) (sound_parts (get_or whole 0 twin ∷ []) (drop 1 whole) here).1).0))
    nodes (all_sound (λ node. place_checks (place node.rec) nodes node) nodes sound)

root_stays : (words : List ℕ) (n : ℕ) → get_or (row words 0) 0 0 ≡ 1 → node_at (nodes_below words (n + 1)) 0 ≡ Some (node_in 0 (row words 0))
root_stays words zero one = ap (λ nodes. node_at nodes 0) (below_first words one)
root_stays words (suc n) one =
    let more : suc n + 1 ≡ n + 1 + 1 = omega arith in
    ap (λ m. node_at (nodes_below words m) 0) more
    ∙ ap (λ nodes. node_at nodes 0) (below_next words (n + 1))
    ∙ find-append (λ node. node.rec == 0) (nodes_below words (n + 1)) (standing (n + 1) (row words (n + 1)))
    ∙ ap (λ found. option_or found (find (λ node. node.rec == 0) (standing (n + 1) (row words (n + 1))))) (root_stays words n one)

record_parts : (at : ℕ) (words : List ℕ) → damage_of (records_checks at words) ≡ None
    → (damage_of (root_checks (row_at at 0) (row words 0)) ≡ None) × (damage_of (checks_from (record_checks at words) 1 255) ≡ None)
unfolding records_checks
record_parts at words sound = sound_parts (root_checks (row_at at 0) (row words 0)) (checks_from (record_checks at words) 1 255) sound

pub table_is_tree : (at : ℕ) (words : List ℕ) → damage_of (table_checks at words) ≡ None
    → IsTree (table_in words).nodes (get_or words 0 0)
table_is_tree at words sound =
    let nodes : List Node = (table_in words).nodes in
    let next : ℕ = get_or words 0 0 in
    let outer = sound_parts (next_checks at next) (records_checks at words ++ places_checks (row_at at) nodes) sound in
    let inner = sound_parts (records_checks at words) (places_checks (row_at at) nodes) outer.1 in
    let bounds = next_bounds at next outer.0 in
    let parts = record_parts at words inner.0 in
    let root = root_holds (row_at at 0) next (row words 0) bounds.0 parts.0 in
    let each = records_hold at words 255 (omega arith) bounds.0 parts.0 parts.1 in
    let ascending = nodes_in-ascend 256 0 (drop 1 words) in
    record {
      next_low = bounds.0;
      next_high = bounds.1;
      ascending = ascending;
      records = nodes_in-records 256 0 (drop 1 words);
      root = subst (λ found. IsSomeAnd found IsRoot) (sym (root_stays words 255 root.1.ino)) root.1;
      numbers = All-weaker (IsSoundNode next) (λ node. (1 ≤ node.ino) × (node.ino < next)) (λ node h. (h.low, h.below)) nodes each.sound;
      number_once = each.once;
      modes = All-weaker (IsSoundNode next) (λ node. node.mode ≤ 511) (λ node h. h.mode) nodes each.sound;
      owners = All-weaker (IsSoundNode next) (λ node. (node.uid < 4294967296) × (node.gid < 4294967296))
          (λ node h. (let u = h.uid in omega arith, let g = h.gid in omega arith)) nodes each.sound;
      names = All-weaker (IsSoundNode next) _ (λ node h. h.name) nodes each.sound;
      name_once = names_once nodes ascending (twins_hold (row_at at) nodes inner.1);
      parents = parents_hold (row_at at) nodes inner.1;
      depths = depths_hold (row_at at) nodes inner.1;
    }
