use Rattle.std.proofs.Common.{◌∙◌, map, refl, arith}
use Rattle.std.proofs.lemmas.List.{length-map}
use Rattle.cfs_recover.proofs.BlockCalls.{on-ok, same-cause}
use Rattle.cfs_recover.proofs.Settled.{none-moments, size-moments, size-right, size-wrong}
use Rattle.cfs_recover.proofs.ends.settle_size.Goals as goal

pub returns-then-entry-clause-ok : goal.returns-then-entry-clause-ok
returns-then-entry-clause-ok g c =
    size-right c.args.entry (map g.R.Region.seen c.args.regions.now) c.if-entry.true

pub returns-then-entry-clause-moments : goal.returns-then-entry-clause-moments
returns-then-entry-clause-moments g c = λ files file live rest start first blocks brought.
    none-moments files file c.args.entry live rest start first
    (map g.R.Region.seen c.args.regions.now) blocks _ brought

pub returns-then-entry-clause-cause : goal.returns-then-entry-clause-cause
returns-then-entry-clause-cause g c = same-cause _ _ refl

pub returns-clause-ok : goal.returns-clause-ok
returns-clause-ok g c =
    on-ok c.set_size.result
    (λ is. is ∙ size-wrong c.args.entry (map g.R.Region.seen c.args.regions.now)
    c.if-entry.false)
    c.set_size.ensures.ok

pub returns-clause-moments : goal.returns-clause-moments
returns-clause-moments g c = λ files file live rest start first blocks brought.
    let see = g.R.Region.seen in
    size-moments files file c.args.entry live rest start first (map see c.args.regions.now) blocks
    brought (map see c.set_size.new.regions) _ _ c.requires.node
    (omega (arith, c.requires.place, length-map c.args.regions.now see)) c.requires.words
    c.set_size.ensures.moments
