-- How a request of the kernel is answered.
use Rattle.std.specs.Prelude.{ℕ, ◌+◌, Option, Some, None, Result, Ok, Err}
use Rattle.cfs_dir.specs.declared.change.Change.{Change}
use Rattle.cfs_dir.specs.declared.change.Change.TheVariants as changes
use Rattle.cfs_dir.specs.declared.node.Node.{Node}
use Rattle.cfs_dir.specs.declared.posix.Posix.TheVariants.{TooManyFiles}
use Rattle.cfs_names.specs.declared.store_refusal.StoreRefusal.{StoreRefusal}
use Rattle.cfs_names.specs.declared.store_refusal.StoreRefusal.TheVariants as stored
use Rattle.cfs_requests.specs.declared.name_refusal.NameRefusal.{NameRefusal}
use Rattle.cfs_requests.specs.declared.name_refusal.NameRefusal.TheVariants as asked
use Rattle.cfs_queue.specs.Queue.{Slots}
use Rattle.cfs_requests.specs.declared.opening.Opening.{Opening}
use Rattle.cfs_requests.specs.declared.opening.Opening.TheVariants.{Found, Made}
use Rattle.cfs_requests.specs.Steps.{grant_for, opened_node}
use Rattle.cfs_words.specs.declared.flags.Flags.{Flags}
use Rattle.cfs_kernel.specs.declared.opened.Opened.{Opened}
use Rattle.cfs_kernel.specs.declared.refusal.NsRefusal.{NsRefusal}
use Rattle.cfs_kernel.specs.declared.refusal.NsRefusal.TheVariants as answers
use Rattle.cfs_kernel.specs.States.{Kernel, record_of}

-- A refusal after so many requests, where this record and this inode number are the next: want of
-- a record or of a number has an answer of its own.
abbrev pub told_at : ℕ → Option ℕ → ℕ → NameRefusal → NsRefusal
told_at requests rec next (asked.Words error) = answers.Path error
told_at requests None next (asked.Tree TooManyFiles) = answers.NoRecord 256
told_at requests (Some rec) next (asked.Tree TooManyFiles) = answers.NoNumber next
told_at requests rec next (asked.Tree error) = answers.Tree error requests

abbrev pub told : {X : Type 0} → Kernel X → NameRefusal → NsRefusal
told kernel refusal =
    told_at kernel.requests (record_of kernel) kernel.names.tree.next refusal

-- why a change was not stored
abbrev pub stored_told : StoreRefusal → NsRefusal
stored_told stored.NoMemory = answers.NoMemory
stored_told stored.Failed = answers.Failed

-- what is answered where the tests are passed: the value, once the change is stored
abbrev pub ended : {T : Type 0} → T → Result (Unit {0}) StoreRefusal → Result T NsRefusal
ended value (Ok done) = Ok value
ended value (Err refusal) = Err (stored_told refusal)

-- the change of an open
abbrev pub opened_change : Opening → Option Change
opened_change (Found node) = None
opened_change (Made node) = Some (changes.Create node)

-- what an open gives: the grant of a queue that was home
abbrev pub gives : {R : Type 0} → Kernel R → ℕ → Flags → Opening → ℕ → Slots R
    → Opened R
gives kernel caller flags opening number queue =
    let node : Node = opened_node opening in
    record {
      place = kernel.requests + 1;
      grant = grant_for kernel.names.next_grant number caller flags node;
      rec = node.rec;
      queue = queue;
    }
