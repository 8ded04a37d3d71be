-- What is done to the tree: a change is a record of the journal before it is one of the tree, and
-- the lines of callers on names.
use Rattle.std.specs.Prelude.{ℕ, ◌+◌, ◌==◌, Bool, true, false, not, ◌&&◌, if◌then◌else◌, Option}
use Rattle.std.specs.Prelude.{Some, None, List, [], ◌∷◌, ◌++◌, length, map, filter, find, get_or}
use Rattle.std.specs.Prelude.{nat_lt, is_none, is_some, unwrap_or}
use Rattle.std.specs.List.{flat_map, list_any, range_with_len}
use Rattle.cfs_dir.specs.declared.change.Change.{Change}
use Rattle.cfs_dir.specs.declared.change.Change.TheVariants as changes
use Rattle.cfs_dir.specs.declared.posix.Posix.TheVariants as posix
use Rattle.cfs_dir.specs.Namespace.{is_directory}
use Rattle.cfs_ckpt.specs.Stores.{free_copy, put_ops, select_ops, settle_ops, word_for}
use Rattle.cfs_requests.specs.declared.name_refusal.NameRefusal.{NameRefusal}
use Rattle.cfs_requests.specs.declared.name_refusal.NameRefusal.TheVariants as refusals
use Rattle.cfs_requests.specs.Steps.{NameAnswer, NameRequest, Step}
use Rattle.cfs_requests.specs.Steps as names
use Rattle.cfs_print.specs.declared.printed.Printed.{Printed}
use Rattle.cfs_print.specs.declared.printed.Printed.TheVariants.{Made, Named, NoNumber, NoQueue}
use Rattle.cfs_print.specs.declared.printed.Printed.TheVariants.{NoRecord, Opened, Refused}
use Rattle.cfs_print.specs.declared.printed.Printed.TheVariants.{RefusedAt}
use Rattle.cfs_meaning.specs.Drive.{words_at}
use Rattle.cfs_meaning.specs.Steps.{appended, on_tables, record_closed, selector}
use Rattle.cfs_meaning.specs.NameSteps.{Order, changes_of, record_made, refusal_of, step_of}
use Rattle.cfs_meaning.specs.NameSteps.{tree_of}
use Rattle.cfs_meaning.specs.World.{Descriptor, File, Names, World, caller_in, is_in_tree, is_open}
use Rattle.cfs_meaning.specs.World.{is_used, new_file, open_of, with_descriptors, with_names}
use Rattle.cfs_meaning.specs.Inode.{purge}
use Rattle.cfs_meaning.specs.Ways.{Changes, Now, Shrugs, Tries, Way, each, give, known, never}
use Rattle.cfs_meaning.specs.Ways.{only_if, steps, unless_fault, when, ◌>>=◌, ◌>>◌}

-- ---- journal and checkpoint

abbrev pub selector_settled : Names → Names
selector_settled n = record n { selector_unsure = false }

-- The selector's word was written: the checkpoint stands for all changes so far, or is in doubt.
abbrev pub selected : ℕ → Bool → Names → Names
selected through true n = record n { through = through; records = 0 }
selected through false n = record n { selector_unsure = true }

-- The tree is written to the copy that is not selected, and then the selector. A selector in doubt
-- is persisted first, as it stands. The selector's word has room for numbers below 2^63.
abbrev pub checkpoint : Way (Unit {0})
checkpoint = do
  world ← Now
  let unsure = world.names.selector_unsure
  let copy = free_copy (get_or (words_at world.drive selector) 0 0)
  let through = world.names.through + world.names.records
  only_if (nat_lt through 9223372036854775808)
  when unsure (steps (on_tables (settle_ops unsure)) >> Changes (with_names selector_settled))
  steps (on_tables (put_ops copy (tree_of world.names.now)))
  kept ← Tries (on_tables (select_ops (word_for through copy)))
  Changes (with_names (selected through kept))
  unless_fault kept

abbrev pub doubt_settled : Names → Names
doubt_settled n = record n { doubt = None }

-- the record of a change was written: there is one more, or it is in doubt
abbrev pub recorded : Change → Bool → Names → Names
recorded change true n = record n { records = n.records + 1 }
recorded change false n = record n { doubt = Some change }

-- One more change of the tree is recorded. With 64 records a checkpoint comes first, and the record
-- of a change in doubt is closed.
abbrev pub store_change : Change → Way (Unit {0})
store_change change = do
  world ← Now
  when (world.names.records == 64) checkpoint
  ready ← Now
  let through = ready.names.through
  let records = ready.names.records
  when (is_some ready.names.doubt)
      (steps (record_closed through records) >> Changes (with_names doubt_settled))
  kept ← Tries (appended through records change)
  Changes (with_names (recorded change kept))
  unless_fault kept

-- ---- a request on names

-- the lowest record that is not used
abbrev pub free_record : World → Option ℕ
free_record world = find (λ rec. not (is_used world rec)) (range_with_len 0 256)

abbrev pub step_in : World → ℕ → NameRequest → Option ℕ → Step
step_in world c request rec = step_of world.names.now c request rec

-- how many requests on names there were
abbrev pub name_count : World → ℕ
name_count world = length world.names.log

-- By the tree after so many requests; where a node has no record, or else no inode number left, and
-- where no queue is free, without that number.
abbrev pub refusal_answer : World → Option NameRefusal → Printed
refusal_answer world None = NoQueue (length world.queues)
refusal_answer world (Some (refusals.Words error)) = Refused error
refusal_answer world (Some (refusals.Tree posix.TooManyFiles)) =
    if is_none (free_record world) then NoRecord else NoNumber
refusal_answer world (Some (refusals.Tree error)) = RefusedAt error (name_count world)

-- a file that is made begins empty
abbrev pub files_made : Change → List File
files_made (changes.Create node) =
    if is_directory node.kind then [] else new_file node.ino node.rec ∷ []
files_made other = []

-- The request is logged, with the record of a node that it makes. The tree and the grants are as
-- its step leaves them.
abbrev pub log_step : ℕ → ℕ → NameRequest → Option ℕ → NameAnswer × Order → World → World
log_step c line request rec step world = record world {
  names = record world.names {
    log = world.names.log
        ++ record {
          caller = c;
          line = line;
          request = request;
          rec = record_made (changes_of world.names.now request rec);
          answer = step.0;
        } ∷ [];
    now = step.1;
  };
  files = world.files ++ flat_map files_made (changes_of world.names.now request rec);
}

-- A request on names has its step, or is refused. What it changes of the tree is stored first.
abbrev pub ask : ℕ → ℕ → NameRequest → Way NameAnswer
ask c line request = do
  world ← Now
  let rec = free_record world
  step ← known (step_in world c request rec)
      (refusal_answer world (refusal_of world.names.now request rec))
  each (changes_of world.names.now request rec) store_change
  Changes (log_step c line request rec step)
  give step.0

-- ---- open

abbrev pub has_fd : List Descriptor → ℕ → Bool
has_fd opened n = list_any (λ d. d.fd == n) opened

abbrev pub lowest_fd : List Descriptor → ℕ
lowest_fd opened =
    unwrap_or (find (λ n. not (has_fd opened n)) (range_with_len 0 (length opened + 1))) 0

-- a descriptor with the lowest free number has the grant
abbrev pub open_with : ℕ → Bool → NameAnswer → Way Printed
open_with c appends (names.granted grant) = do
  world ← Now
  let fd = lowest_fd (open_of (caller_in world c))
  Changes (with_descriptors c (λ opened. opened
      ++ record { fd = fd; grant = grant; appends = appends; position = 0; posted = [] } ∷ []))
  give (Opened (name_count world) fd grant.ino)
open_with c appends other = never

-- ---- the other requests

abbrev pub say_made : NameAnswer → Way Printed
say_made (names.numbered ino) = Now >>= (λ w. give (Made (name_count w) ino))
say_made other = never

abbrev pub say_named : Way Printed
say_named = Now >>= (λ w. give (Named (name_count w)))

-- the removed files without a descriptor, by ascending record
abbrev pub is_dying : World → File → Bool
is_dying world f = not (is_in_tree world f.ino) && not (is_open world f.ino)

abbrev pub is_dying_at : World → ℕ → File → Bool
is_dying_at world rec f = (f.rec == rec) && is_dying world f

abbrev pub dying : World → List ℕ
dying world =
    flat_map (λ rec. map (λ f. f.ino) (filter (is_dying_at world rec) world.files))
    (range_with_len 0 256)

-- each of them is purged; a fault leaves it for the next time, and is not answered
abbrev pub purge_all : Way (Unit {0})
purge_all = Now >>= (λ w. each (dying w) (λ ino. Shrugs (purge ino)))

-- a request that may leave removed files behind
abbrev pub ask_and_purge : ℕ → ℕ → NameRequest → Way Printed
ask_and_purge c line request = ask c line request >> purge_all >> say_named
