-- The records that begin free: those without a node.
use Rattle.std.proofs.Common.{ℕ, Some, None, ◌≡◌, ◌<◌, true, not, ◌&&◌, List, refl, arith}
use Rattle.std.specs.Prelude.{is_some, nat_eq, nat_lt}
use Rattle.cfs_dir.specs.declared.node.Node.{Node}
use Rattle.cfs_dir.specs.Namespace.{node_at}
use Rattle.cfs_grants.specs.declared.free.FreeRecords.{FreeRecords}
use Rattle.cfs_grants.specs.Free.{is_free}
use Rattle.std.proofs.lemmas.Bool.{eqb-true}
use Rattle.cfs_dir.specs.Tree.{IsTree}
use Rattle.cfs_dir.proofs.Members.{All-In, find-Some}

-- of the records below a number, those without a node are free
abbrev pub AreFound : List Node → FreeRecords → ℕ → Type 0
AreFound nodes bits count = (rec : ℕ) → rec < 256 →
    is_free bits rec ≡ (nat_lt rec count && not (is_some (node_at nodes rec)))

-- the records of a tree's nodes are below 256
pub rec_below : (nodes : List Node) (next rec : ℕ) → IsTree nodes next → is_some (node_at nodes rec) ≡ true → rec < 256
rec_below nodes next rec tree there =
    elim (node_at nodes rec) as (λ found. node_at nodes rec ≡ found → is_some found ≡ true → rec < 256) [
      | None ↦ λ is none. absurd (cc)
      | Some node ↦ λ is some.
          let found = find-Some (λ (n : Node). nat_eq n.rec rec) nodes node is in
          let low : node.rec < 256 = All-In (λ (n : Node). n.rec < 256) nodes node tree.records found.0 in
          let same : node.rec ≡ rec = eqb-true node.rec rec found.1 in
          omega (arith, low, same)
    ] refl there
