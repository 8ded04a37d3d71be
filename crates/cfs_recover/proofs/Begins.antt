-- While the bytes of the lowest entry are brought home, a mount finds the same files.
use Rattle.std.proofs.Common.{ℕ, List, refl, sym, subst}
use Rattle.cfs_file.specs.declared.request.Request.{Request}
use Rattle.cfs_pmem.specs.declared.trace.Asked.{Asked}
use Rattle.cfs_pmem.specs.Images.{Seen, WordStep}
use Rattle.cfs_block.specs.BlockImages.{BlockStep, Content}
use Rattle.cfs_home.specs.Calls.{MountMoments}
use Rattle.cfs_home.specs.Disks.{AllStay, BlocksBeside, Disk, File, WritesBlocks}
use Rattle.cfs_home.proofs.Calls.{writes-stop}
use Rattle.cfs_home.proofs.Disks.{goes-on, writes-all}
use Rattle.cfs_recover.specs.Begins.{Begins, both}
use Rattle.cfs_recover.specs.Pieces.{LeavesBeside}

beside-same : (ino : ℕ) (request : Request) (first : List Content) →
    BlocksBeside ino request first first
beside-same ino request first = record {
  tags = λ at. refl;
  others = λ at of_others. refl;
  beside = λ at p less here out. refl;
}

pub bytes-stop : (files : List File) (file : File) (at : ℕ) (entry : ℕ × Request)
    (rest : List (ℕ × Request)) (start first : Disk) (regions : List (Seen WordStep))
    (olds news : List (Seen BlockStep)) (asked_old asked_new : List Asked) →
    Begins files file at entry rest start first regions olds →
    LeavesBeside file.ino entry.1 first.blocks asked_old olds asked_new news →
    MountMoments files start asked_old (both regions olds) asked_new (both regions news)
bytes-stop files file at entry rest start first regions olds news _ _ begins leaves =
    writes-stop files file entry.1 start first regions olds news _ _ keeps
    begins.stands.words begins.stands.distinct
    (leaves (λ contents each. subst (BlocksBeside file.ino entry.1 first.blocks)
    (sym (begins.stands.blocks_are contents each)) (beside-same file.ino entry.1 first.blocks)))
  where
    keeps : (second : Disk) → WritesBlocks file entry.1 first second → AllStay files start second
    keeps second step =
        let on = goes-on files start first second begins.stands.stay in
        on.1 (writes-all files file at entry rest first second begins.stands.are begins.among
        on.0 begins.low step)
