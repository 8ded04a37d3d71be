use Rattle.std.proofs.Common.{ℕ, ◌≡◌, ◌∙◌, Option, List, map, ap}
use Rattle.cfs_file.specs.declared.span.Span.{Span}
use Rattle.cfs_pmem.specs.Images.{Seen, WordStep}
use Rattle.cfs_slot.specs.Reads.{regions_of}
use Rattle.cfs_slot.specs.Regions.{place_of}
use Rattle.cfs_job.specs.Tiles.{tile_in, tile_of}
use Rattle.cfs_job.specs.Views.{JobView, TileView, anew_tile}
use Rattle.cfs_job.proofs.JobLemmas.{given_anew}
use Rattle.cfs_job.proofs.job.Job.into_parts.Goals as goal

both_are : (ino place : ℕ) (span : Span) (slots : List (Seen WordStep)) (a b c d : Option TileView) → a ≡ c → b ≡ d
    → ◌≡◌ {A = JobView} (record { ino = ino; place = place; span = span; slots = slots; first = a; second = b })
    (record { ino = ino; place = place; span = span; slots = slots; first = c; second = d })
both_are ino place span slots a b c d first second = cc

pub returns-clause-view : goal.returns-clause-view
returns-clause-view g c =
    let seen = g.B.Block.seen in
    let number = g.B.Block.number in
    both_are c.args.self.ino (place_of c.args.self.request) c.args.self.span (map g.R.Region.seen (regions_of c.args.self.request))
    (tile_of seen number c.given.result) (tile_of seen number c.given-2.result)
    (anew_tile (tile_in seen number c.args.self.first)) (anew_tile (tile_in seen number c.args.self.second))
    (ap (λ l. tile_of seen number l) c.given.ensures ∙ given_anew seen number c.args.self.first)
    (ap (λ l. tile_of seen number l) c.given-2.ensures ∙ given_anew seen number c.args.self.second)
