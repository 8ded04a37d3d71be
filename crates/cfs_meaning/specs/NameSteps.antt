-- Requests on names as steps of a tree and the grants that stand.
use Rattle.std.specs.Prelude.{ℕ, ◌==◌, Bool, ◌&&◌, List, [], ◌∷◌, Option, Some, None, Result, Ok}
use Rattle.std.specs.Prelude.{Err, if◌then◌else◌, replicate}
use Rattle.std.specs.List.{list_any}
use Rattle.cfs_dir.specs.declared.change.Change.{Change}
use Rattle.cfs_dir.specs.declared.change.Change.TheVariants.{Create, Remove}
use Rattle.cfs_dir.specs.declared.moved.Moved.{Moved}
use Rattle.cfs_dir.specs.declared.node.Node.{Node}
use Rattle.cfs_dir.specs.Moved.{change_of}
use Rattle.cfs_dir.specs.Namespace.{Namespace, is_child}
use Rattle.cfs_grants.specs.declared.grant.Grant.{Grant}
use Rattle.cfs_requests.specs.declared.name_refusal.NameRefusal.{NameRefusal}
use Rattle.cfs_requests.specs.declared.opening.Opening.{Opening}
use Rattle.cfs_requests.specs.declared.opening.Opening.TheVariants.{Found, Made}
use Rattle.cfs_requests.specs.Looks.{makes, moves, opens, removes, unlinks}
use Rattle.cfs_requests.specs.Steps.{IsLegalOrder, NameEntry, NameRequest, Names, Step}
use Rattle.cfs_requests.specs.Steps.{closes_queue, makes_directory, moves_node, opens_file}
use Rattle.cfs_requests.specs.Steps.{removes_directory, stepped, unlinks_file}

-- a tree, the grants that stand, and the number of the next grant
abbrev pub Order : Type 0
Order = Names

abbrev pub tree_of : Order → Namespace
tree_of order = order.tree

-- on a store of so many queues, none has a grant, and grants begin at 1
abbrev pub new_order : ℕ → Namespace → Order
new_order queues tree =
    record { tree = tree; grants = replicate queues None; next_grant = 1 }

-- the request that gives a grant back
abbrev pub closing : Grant → NameRequest
closing grant = closes_queue grant.queue

-- a node that is made stands in the record
abbrev pub step_of : Order → ℕ → NameRequest → Option ℕ → Step
step_of order caller request rec = stepped order caller request rec

-- a legal order of requests between two such states
abbrev pub AreInOrder : Order → List NameEntry → Order → Type 0
AreInOrder base log now = IsLegalOrder base log now

-- ---- why a request is refused by its words or by the tree

abbrev pub refusal_in : {A : Type 0} → Result A NameRefusal → Option NameRefusal
refusal_in (Ok value) = None
refusal_in (Err refusal) = Some refusal

abbrev pub refusal_of : Order → NameRequest → Option ℕ → Option NameRefusal
refusal_of order (opens_file credential path flags mode) rec =
    refusal_in (opens order.tree credential path flags mode rec)
refusal_of order (makes_directory credential path mode) rec =
    refusal_in (makes order.tree credential path mode rec)
refusal_of order (unlinks_file credential path) rec =
    refusal_in (unlinks order.tree credential path)
refusal_of order (removes_directory credential path) rec =
    refusal_in (removes order.tree credential path)
refusal_of order (moves_node credential from to) rec =
    refusal_in (moves order.tree credential from to)
refusal_of order (closes_queue queue) rec = None

-- ---- what a request changes of the tree, if it does

abbrev pub opening_changes : Result Opening NameRefusal → List Change
opening_changes (Err refusal) = []
opening_changes (Ok (Found node)) = []
opening_changes (Ok (Made node)) = Create node ∷ []

abbrev pub made_changes : Result Node NameRefusal → List Change
made_changes (Err refusal) = []
made_changes (Ok node) = Create node ∷ []

abbrev pub removed_changes : Result Node NameRefusal → List Change
removed_changes (Err refusal) = []
removed_changes (Ok node) = Remove node.rec node.ino ∷ []

-- a node that stands so already is not moved
abbrev pub stands : List Node → Node → Bool
stands nodes node =
    list_any (λ n. (n.rec == node.rec) && is_child node.parent node.name n) nodes

abbrev pub moved_changes : List Node → Result Moved NameRefusal → List Change
moved_changes nodes (Err refusal) = []
moved_changes nodes (Ok moved) = if stands nodes moved.node then [] else change_of moved ∷ []

abbrev pub changes_of : Order → NameRequest → Option ℕ → List Change
changes_of order (opens_file credential path flags mode) rec =
    opening_changes (opens order.tree credential path flags mode rec)
changes_of order (makes_directory credential path mode) rec =
    made_changes (makes order.tree credential path mode rec)
changes_of order (unlinks_file credential path) rec =
    removed_changes (unlinks order.tree credential path)
changes_of order (removes_directory credential path) rec =
    removed_changes (removes order.tree credential path)
changes_of order (moves_node credential from to) rec =
    moved_changes order.tree.nodes (moves order.tree credential from to)
changes_of order (closes_queue queue) rec = []

-- the record of the node that is made, if one is
abbrev pub record_made : List Change → Option ℕ
record_made (Create node ∷ rest) = Some node.rec
record_made other = None
