-- What is known between calls of a file with its grants.
use Rattle.std.specs.Prelude.{ℕ, ◌≡◌, Bool, true, Option, Some, None, List, length, map}
use Rattle.std.specs.List.{list_all}
use Rattle.cfs_pmem.specs.Images.{words_of}
use Rattle.cfs_tracker.specs.declared.in_doubt.InDoubt.{InDoubt}
use Rattle.cfs_tracker.specs.View.{reading_place}
use Rattle.cfs_inode.specs.View.{StateView}
use Rattle.cfs_granted.specs.declared.reader.Reader.{Reader}
use Rattle.cfs_granted.specs.Readers.{reader_place}
use Rattle.cfs_granted.specs.Rows.{Rows, stands}

-- the grant of the request in doubt passes a test
abbrev pub does_doubt_pass : {D : Type 0} → (ℕ → Bool) → Option (InDoubt D) → Bool
does_doubt_pass test None = true
does_doubt_pass test (Some doubt) = test doubt.grant

-- There is a row for each of 64 queues. Whatever is pending or in doubt was asked under a grant that
-- stands, and of each pending read it is kept under which. The region of the size word is that word.
pub record IsGranted (rows : Rows) (readers : List Reader) (state : StateView) : Type 0 where
  pub many : length rows ≡ 64
  pub places : map reader_place readers ≡ map reading_place state.tracker.reads
  pub reads : list_all (λ (r : Reader). stands r.grant rows) readers ≡ true
  pub entries : list_all (λ e. stands e.grant rows) state.tracker.entries ≡ true
  pub doubt : does_doubt_pass (λ n. stands n rows) state.tracker.doubt ≡ true
  pub word : length (words_of state.size) ≡ 1
