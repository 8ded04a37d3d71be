-- Requests on names one after another: what each makes of the tree and the grants.
use Rattle.std.specs.Prelude.{ℕ, ◌+◌, ◌≡◌, ◌==◌, List, [], ◌∷◌, ◌++◌, Option, Some, None, Result, Ok, Err, IsSomeAnd, if◌then◌else◌, set}
use Rattle.cfs_cred.specs.declared.credential.Credential.{Credential}
use Rattle.cfs_dir.specs.declared.moved.Moved.{Moved}
use Rattle.cfs_dir.specs.declared.node.Node.{Node}
use Rattle.cfs_dir.specs.Moved.{with_move}
use Rattle.cfs_dir.specs.Namespace.{Namespace, with_node, without_node}
use Rattle.cfs_grants.specs.declared.grant.Grant.{Grant}
use Rattle.cfs_grants.specs.Grants.{free_queue, grant_at}
use Rattle.cfs_requests.specs.declared.name_refusal.NameRefusal.{NameRefusal}
use Rattle.cfs_requests.specs.declared.opening.Opening.{Opening}
use Rattle.cfs_requests.specs.declared.opening.Opening.TheVariants.{Found, Made}
use Rattle.cfs_requests.specs.Looks.{makes, moves, opens, removes, unlinks}
use Rattle.cfs_words.specs.declared.flags.Flags.{Flags}

-- ---- what is asked and answered

pub data NameRequest : Type 0 where
  -- open, by flags and, for a file that is made, with a mode
  opens_file : Credential → List (List ℕ) → Flags → ℕ → NameRequest
  -- mkdir, with a mode
  makes_directory : Credential → List (List ℕ) → ℕ → NameRequest
  unlinks_file : Credential → List (List ℕ) → NameRequest
  removes_directory : Credential → List (List ℕ) → NameRequest
  -- rename, from one path to another
  moves_node : Credential → List (List ℕ) → List (List ℕ) → NameRequest
  -- close, of the grant that has this queue
  closes_queue : ℕ → NameRequest

pub data NameAnswer : Type 0 where
  -- the grant of an open
  granted : Grant → NameAnswer
  -- the inode number of a directory that is made
  numbered : ℕ → NameAnswer
  done : NameAnswer

-- the tree, the grants that stand, each at its queue, and the number of the next grant
pub record Names : Type 0 where
  pub tree : Namespace
  pub grants : List (Option Grant)
  pub next_grant : ℕ

-- ---- one request

abbrev pub opened_node : Opening → Node
opened_node (Found node) = node
opened_node (Made node) = node

abbrev pub opened_tree : Namespace → Opening → Namespace
opened_tree tree (Found node) = tree
opened_tree tree (Made node) = with_node tree node

-- the grant of an open
abbrev pub grant_for : ℕ → ℕ → ℕ → Flags → Node → Grant
grant_for number queue caller flags node = record {
  number = number;
  ino = node.ino;
  queue = queue;
  caller = caller;
  reads = flags.read;
  writes = flags.write;
}

-- what a request answers and leaves; none where it is refused
abbrev pub Step : Type 0
Step = Option (NameAnswer × Names)

abbrev pub open_step : Names → ℕ → Flags → Option ℕ → Result Opening NameRefusal → Step
open_step names caller flags queue (Err refusal) = None
open_step names caller flags None (Ok opening) = None
open_step names caller flags (Some queue) (Ok opening) =
    let grant : Grant = grant_for names.next_grant queue caller flags (opened_node opening) in
    Some (
      granted grant,
      record {
        tree = opened_tree names.tree opening;
        grants = set names.grants queue (Some grant);
        next_grant = names.next_grant + 1;
      },
    )

abbrev pub make_step : Names → Result Node NameRefusal → Step
make_step names (Err refusal) = None
make_step names (Ok node) =
    Some (numbered node.ino, record names { tree = with_node names.tree node })

abbrev pub remove_step : Names → Result Node NameRefusal → Step
remove_step names (Err refusal) = None
remove_step names (Ok node) = Some (done, record names { tree = without_node names.tree node })

abbrev pub move_step : Names → Result Moved NameRefusal → Step
move_step names (Err refusal) = None
move_step names (Ok moved) = Some (done, record names { tree = with_move names.tree moved })

-- A caller gives back a queue that is granted to it.
abbrev pub close_step : Names → ℕ → ℕ → Option Grant → Step
close_step names caller queue None = None
close_step names caller queue (Some grant) =
    if grant.caller == caller
    then Some (done, record names { grants = set names.grants queue None })
    else None

-- The request of a caller; where it makes a node, in this record.
abbrev pub stepped : Names → ℕ → NameRequest → Option ℕ → Step
stepped names caller (opens_file credential path flags mode) rec =
    open_step names caller flags (free_queue names.grants)
    (opens names.tree credential path flags mode rec)
stepped names caller (makes_directory credential path mode) rec =
    make_step names (makes names.tree credential path mode rec)
stepped names caller (unlinks_file credential path) rec =
    remove_step names (unlinks names.tree credential path)
stepped names caller (removes_directory credential path) rec =
    remove_step names (removes names.tree credential path)
stepped names caller (moves_node credential from to) rec =
    move_step names (moves names.tree credential from to)
stepped names caller (closes_queue queue) rec =
    close_step names caller queue (grant_at names.grants queue)

-- ---- one after another

-- a request that was answered, and the record of a node that it made
pub record NameEntry : Type 0 where
  pub caller : ℕ
  pub line : ℕ
  pub request : NameRequest
  pub rec : Option ℕ
  pub answer : NameAnswer

-- A legal order: each request answers by the tree and the grants after those before it, and the
-- last leaves these. Its places are 1, 2, 3 and so on.
abbrev pub IsLegalOrder : Names → List NameEntry → Names → Type 0
IsLegalOrder base [] now = now ≡ base
IsLegalOrder base (entry ∷ rest) now =
    IsSomeAnd (stepped base entry.caller entry.request entry.rec)
    (λ after. (after.0 ≡ entry.answer) × IsLegalOrder after.1 rest now)

-- A legal order goes on with a request that is answered by what it left.
abbrev pub OrdersGoOn : Type 0
OrdersGoOn =
    (base now after : Names) (log : List NameEntry) (entry : NameEntry) →
    IsLegalOrder base log now →
    stepped now entry.caller entry.request entry.rec ≡ Some (entry.answer, after) →
    IsLegalOrder base (log ++ entry ∷ []) after
