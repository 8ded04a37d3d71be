-- The kernel's part as the contracts of its calls see it.
use Rattle.std.specs.Prelude.{ℕ, ◌+◌, ◌-◌, ◌^◌, ◌≡◌, List, Option, Some, None, set}
use Rattle.cfs_dir.specs.declared.node.Node.{Node}
use Rattle.cfs_dir.specs.declared.moved.Moved.{Moved}
use Rattle.cfs_dir.specs.Moved.{with_move}
use Rattle.cfs_dir.specs.Namespace.{Namespace, with_node, without_node}
use Rattle.cfs_grants.specs.declared.grant.Grant.{Grant}
use Rattle.cfs_grants.specs.declared.removed.Removed.{Removed}
use Rattle.cfs_names.specs.declared.stored_tree.StoredTree.{StoredTree}
use Rattle.cfs_names.specs.StoredTrees.{tree_of}
use Rattle.cfs_queue.specs.Queue.{Slots}
use Rattle.cfs_requests.specs.declared.opening.Opening.{Opening}
use Rattle.cfs_requests.specs.Steps.{Names, opened_tree}
use Rattle.cfs_kernel.specs.declared.ns_state.NsState.{NsState}
use Rattle.cfs_kernel.specs.Records.{buried, unused_record}

-- The names and the grants, how many requests were answered with a place, the removed files, each
-- at its record, and the queues that are home.
pub record Kernel (X : Type 0) : Type 0 where
  pub names : Names
  pub requests : ℕ
  pub removed : List (Option Removed)
  pub home : List (Option (Slots X))

abbrev pub stored_of : {R : Type 0} {g : _} → NsState R g → StoredTree R g
stored_of state = state.stored

abbrev pub names_of : {R : Type 0} {g : _} → NsState R g → Names
names_of state = record {
  tree = tree_of state.stored;
  grants = state.queues.grants;
  next_grant = state.granted + 1;
}

abbrev pub kernel_of : {R : Type 0} {g : _} → NsState R g → Kernel R
kernel_of state = record {
  names = names_of state;
  requests = state.places;
  removed = state.removed;
  home = state.queues.home.items;
}

-- the record that a node would take that is made now
abbrev pub record_of : {X : Type 0} → Kernel X → Option ℕ
record_of kernel = unused_record kernel.names.tree.nodes kernel.removed

-- there is no number for a further place
abbrev pub IsSpent : {X : Type 0} → Kernel X → Type 0
IsSpent kernel = kernel.requests ≡ 2 ^ 64 - 1

-- ---- what changes

abbrev pub with_tree : {X : Type 0} → Namespace → Kernel X → Kernel X
with_tree tree kernel = record kernel { names = record kernel.names { tree = tree } }

-- one more request has its place
abbrev pub counted : {X : Type 0} → Kernel X → Kernel X
counted kernel = record kernel { requests = kernel.requests + 1 }

abbrev pub with_buried : {X : Type 0} → Option Node → Kernel X → Kernel X
with_buried node kernel = record kernel { removed = buried node kernel.removed }

-- ---- what a request leaves that took a place

abbrev pub after_make : {X : Type 0} → Node → Kernel X → Kernel X
after_make node kernel = counted (with_tree (with_node kernel.names.tree node) kernel)

abbrev pub after_remove : {X : Type 0} → Node → Kernel X → Kernel X
after_remove node kernel =
    counted (with_tree (without_node kernel.names.tree node) (with_buried (Some node) kernel))

abbrev pub after_move : {X : Type 0} → Moved → Kernel X → Kernel X
after_move moved kernel =
    counted (with_tree (with_move kernel.names.tree moved) (with_buried moved.replaced kernel))

-- the queue of a grant goes out
abbrev pub with_grant : {X : Type 0} → Grant → Kernel X → Kernel X
with_grant grant kernel = record kernel {
  names = record kernel.names {
    grants = set kernel.names.grants grant.queue (Some grant);
    next_grant = kernel.names.next_grant + 1;
  };
  home = set kernel.home grant.queue None;
}

abbrev pub after_open : {X : Type 0} → Opening → Grant → Kernel X → Kernel X
after_open opening grant kernel =
    counted (with_grant grant (with_tree (opened_tree kernel.names.tree opening) kernel))

-- and comes home
abbrev pub after_close : {X : Type 0} → Slots X → Kernel X → Kernel X
after_close queue kernel = counted (record kernel {
  names = record kernel.names { grants = set kernel.names.grants queue.number None };
  home = set kernel.home queue.number (Some queue);
})
