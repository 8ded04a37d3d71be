-- The operations of a job's steps, the newest first: the table of its device steps as data.
use Rattle.std.specs.Prelude.{ℕ, ◌-◌, ◌*◌, ◌≡◌, Bool, IsTrue, List, [], ◌∷◌, map, Result, OnOk, OnErr}
use Rattle.cfs_file.specs.declared.sizes.TheConstants.{BLOCK_LEN}
use Rattle.cfs_file.specs.declared.span.Span.{Span}
use Rattle.cfs_file.specs.declared.span.Span.TheVariants.{Nothing, Range, From}
use Rattle.cfs_core.specs.Words.{end_in, piece_in, start_in}
use Rattle.cfs_pmem.specs.declared.trace.Asked.{Asked}
use Rattle.cfs_pmem.specs.Images.{Seen, WordStep}
use Rattle.cfs_pmem.specs.Moments.{Moments}
use Rattle.cfs_pmem.specs.Operations.{Ask, Does, StopsIn, after_all}
use Rattle.cfs_block.specs.BlockImages.{BlockStep, Content, IsBlockImage}
use Rattle.cfs_block.specs.BlockOps.{BlockFails, BlockOp, block_asks, block_done, flush, put_bytes}
use Rattle.cfs_slot.specs.Payload.{AsksOnly, SlotRead, payload_reads, read_asks}
use Rattle.cfs_job.specs.Views.{payload_seen}

pub data JobOp : Type 0 where
  -- a read of a word of a slot
  get_word : SlotRead → JobOp
  -- an operation on the step's block
  on_block : BlockOp → JobOp

-- what each asks for, where the block has this device number
abbrev pub job_asks : ℕ → JobOp → Ask
job_asks device (get_word read) = read_asks read
job_asks device (on_block op) = block_asks device op

-- the block after an operation, and after one that failed
abbrev pub job_done : JobOp → Seen BlockStep → Seen BlockStep
job_done (get_word read) seen = seen
job_done (on_block op) seen = block_done op seen

abbrev pub JobFails : Bool → JobOp → Seen BlockStep → Seen BlockStep → Type 0
JobFails keeps_refused (get_word read) old new = new ≡ old
JobFails keeps_refused (on_block op) old new = BlockFails keeps_refused op old new

-- Where the positions of a span in a block of the file begin in that block, and how many they are.

abbrev pub place_in : Span → ℕ → ℕ
place_in span at = start_in span at - BLOCK_LEN * at

abbrev pub count_in : Span → ℕ → ℕ
count_in span at = end_in span at - start_in span at

-- the reads of the words that hold a request's bytes in a block of the file; a truncate has none
abbrev pub piece_reads : List ℕ → Span → ℕ → List SlotRead
piece_reads devices Nothing at = []
piece_reads devices (Range from to) at =
    payload_reads devices (start_in (Range from to) at - from) (count_in (Range from to) at)
piece_reads devices (From from) at = []

abbrev pub devices_seen : List (Seen WordStep) → List ℕ
devices_seen slots = map (λ s. s.device) slots

-- The request's bytes in a block of the file are read and written there.
abbrev pub write_ops : List (Seen WordStep) → Span → ℕ → List JobOp
write_ops slots span at =
    on_block (put_bytes (place_in span at) (piece_in (payload_seen slots) span at))
    ∷ map get_word (piece_reads (devices_seen slots) span at)

abbrev pub flush_ops : List JobOp
flush_ops = on_block flush ∷ []

-- A call does these operations on a block and on slots with these devices. `P` holds at each moment
-- of what a crash may leave of the block.
pub record WorksOn {T E : Type 0} (obeys_slots obeys_block keeps_refused : Bool)
    (P : Content → Type 0) (slots : List ℕ) (ops : List JobOp) (result : Result T E)
    (asked_old : List Asked) (old : Seen BlockStep) (asked_new : List Asked)
    (new : Seen BlockStep) : Type 0 where
  pub ok : OnOk result (new ≡ after_all job_done ops old)
  -- a front of them was done, and the next one failed
  pub stopped : OnErr result (StopsIn job_done (JobFails keeps_refused) ops old new)
  pub does : IsTrue obeys_slots → IsTrue obeys_block →
      Does (job_asks old.device) job_done (JobFails keeps_refused) ops result
      asked_old old asked_new new
  -- the slots were read first, and only then came the block
  pub between : List Asked
  pub reads : AsksOnly slots asked_old between
  pub moments : Moments IsBlockImage P between old asked_new new
