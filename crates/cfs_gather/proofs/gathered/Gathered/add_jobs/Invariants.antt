use Rattle.std.proofs.Common.{◌≡◌, ◌++◌, map}
use Rattle.std.specs.List.{flat_map}
use Rattle.cfs_active.specs.Memory.{words_seen}
use Rattle.cfs_block.specs.MemoryBlocks.{number_of, seen_of}
use Rattle.cfs_job.specs.Jobs.{job_view}
use Rattle.cfs_gather.specs.Gathered.{bytes_in, words_in}
use Rattle.cfs_gather.specs.Seens.{blocks_in_job}
use Rattle.cfs_gather.proofs.gathered.Gathered.add_jobs.Given as goal

abbrev pub invariant-loop-job : goal.invariant-loop-job
invariant-loop-job l = record {
  regions : words_in l.self ≡ words_in l.initial.self
      ++ flat_map (λ job. job.slots) (map (job_view words_seen seen_of number_of) l.yielded);
  blocks : bytes_in l.self ≡ bytes_in l.initial.self
      ++ flat_map blocks_in_job (map (job_view words_seen seen_of number_of) l.yielded);
}
