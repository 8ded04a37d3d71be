use Rattle.std.proofs.Common.{◌≡◌, ◌∷◌, [], Bool, true, false, not, refl, sym, subst, rules, map}
use Rattle.cfs_slot.specs.Reads.{regions_of}
use Rattle.cfs_job.specs.Counts.{HasCauseIn, faults_in}
use Rattle.cfs_job.specs.Stands.{is_touched_by}
use Rattle.cfs_job.specs.Steps.{is_unwritten}
use Rattle.cfs_job.specs.Tiles.{tile_in}
use Rattle.cfs_job.proofs.tiles.write_in.Goals as goal

not_true : (b : Bool) → not b ≡ true → b ≡ false
not_true true e = cc
not_true false e = refl

pub write-requires : goal.write-requires
write-requires g c =
    let seen = g.B.Block.seen in
    let number = g.B.Block.number in
    let touched = subst (λ t. is_touched_by c.args.span (tile_in seen number t) ≡ true) c.in-Some.is c.requires.touched in
    let unwritten = subst (λ t. is_unwritten (tile_in seen number t) ≡ true) c.in-Some.is c.requires.unwritten in
    (search rules, (c.requires.spans, (touched, not_true c.in-Some.tile.written unwritten)))

pub returns-clause-cause : goal.returns-clause-cause
returns-clause-cause g c =
    subst (λ t. HasCauseIn (map g.R.Region.faults (regions_of c.args.request.now)) (map g.R.Region.faults (regions_of c.write.new.request))
    (faults_in g.B.Block.faults t) (g.B.Block.faults c.write.new.self.block ∷ []) c.write.result) (sym c.in-Some.is) c.write.ensures.cause
