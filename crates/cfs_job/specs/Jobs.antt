-- A job as plain data.
use Rattle.std.specs.Prelude.{ℕ, Option, List, ◌++◌, map}
use Rattle.cfs_pmem.specs.Images.{Seen, WordStep}
use Rattle.cfs_block.specs.BlockImages.{BlockStep}
use Rattle.cfs_file.specs.declared.span.Span.{Span}
use Rattle.cfs_slot.specs.declared.live.Live.{Live}
use Rattle.cfs_slot.specs.Reads.{regions_of}
use Rattle.cfs_slot.specs.Regions.{place_of}
use Rattle.cfs_job.specs.declared.lent.Lent.{Lent}
use Rattle.cfs_job.specs.declared.job.Job.{Job}
use Rattle.cfs_job.specs.Counts.{faults_in}
use Rattle.cfs_job.specs.Tiles.{lent_in, tile_in, tile_of}
use Rattle.cfs_job.specs.Views.{JobView}

-- where `words`, `bytes` and `number` tell what regions and blocks are
abbrev pub job_view : {R B : Type 0} {g h : _} → (R → Seen WordStep) → (B → Seen BlockStep)
    → (B → ℕ) → Job R B g h → JobView
job_view words bytes number job = record {
  ino = job.ino;
  place = place_of job.request;
  span = job.span;
  slots = map words (regions_of job.request);
  first = tile_in bytes number job.first;
  second = tile_in bytes number job.second;
}

-- the counts of faults of its slots, and of its blocks
abbrev pub slot_faults : {R B : Type 0} {g h : _} → (R → ℕ) → Job R B g h → List ℕ
slot_faults faults job = map faults (regions_of job.request)

abbrev pub block_faults : {R B : Type 0} {g h : _} → (B → ℕ) → Job R B g h → List ℕ
block_faults faults job = faults_in faults job.first ++ faults_in faults job.second

-- what a job of these parts is
abbrev pub view_of_parts : {R B : Type 0} {g : _} → (R → Seen WordStep) → (B → Seen BlockStep)
    → (B → ℕ) → ℕ → Live R g → Span → Option (Lent B) → Option (Lent B) → JobView
view_of_parts words bytes number ino request span first second = record {
  ino = ino;
  place = place_of request;
  span = span;
  slots = map words (regions_of request);
  first = tile_of bytes number first;
  second = tile_of bytes number second;
}

-- What a job is made of: its request, and its blocks with their numbers in the file.

abbrev pub request_in : {R B : Type 0} {g h : _} → Job R B g h → Live R g
request_in job = job.request

abbrev pub first_in : {R B : Type 0} {g h : _} → Job R B g h → Option (Lent B)
first_in job = lent_in job.first

abbrev pub second_in : {R B : Type 0} {g h : _} → Job R B g h → Option (Lent B)
second_in job = lent_in job.second
