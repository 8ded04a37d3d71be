use Rattle.std.proofs.Common.{List, map, sym, subst}
use Rattle.cfs_pmem.specs.Images.{Seen, WordStep}
use Rattle.cfs_slot.specs.Reads.{regions_of}
use Rattle.cfs_slot.specs.Regions.{place_of}
use Rattle.cfs_job.specs.Stands.{IsSound}
use Rattle.cfs_job.specs.Tiles.{tile_in, tile_of}
use Rattle.cfs_job.proofs.JobLemmas.{sound_new}
use Rattle.cfs_job.proofs.job.Job.new.Goals as goal

pub invariant_of-result : goal.invariant_of-result
invariant_of-result g c =
    let slots : List (Seen WordStep) = map g.R.Region.seen (regions_of c.args.request) in
    record {
      sound = subst (λ f. ∥ IsSound slots (place_of c.args.request) c.args.span f (tile_in g.B.Block.seen g.B.Block.number c.taken-2.result) ∥₁) (sym c.taken.ensures)
          (subst (λ s. ∥ IsSound slots (place_of c.args.request) c.args.span (tile_of g.B.Block.seen g.B.Block.number c.args.first) s ∥₁) (sym c.taken-2.ensures)
          ∣ sound_new g.B.Block.seen g.B.Block.number slots (place_of c.args.request) c.args.span c.args.first c.args.second
          c.requires.spans c.requires.touched c.requires.opened ∣₁);
    }
