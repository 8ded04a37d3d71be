use Rattle.std.proofs.Common.{◌+◌, ◌∙◌, List, map, ap, arith}
use Rattle.std.proofs.lemmas.List.{length-map}
use Rattle.cfs_pmem.specs.Images.{Seen, WordStep}
use Rattle.cfs_pmem.proofs.AllMomentLemmas.{all_after}
use Rattle.cfs_home.specs.Calls.{with_size}
use Rattle.cfs_recover.specs.Words.{with_first}
use Rattle.cfs_recover.proofs.BlockCalls.{on-ok}
use Rattle.cfs_recover.proofs.Settled.{gate-moments, settled-stands, settled-words, sized-at}
use Rattle.cfs_recover.proofs.ends.settle.Goals as goal

pub close_gate-requires-clause-within : goal.close_gate-requires-clause-within
close_gate-requires-clause-within g c =
    settled-words c.args.entry (map g.R.Region.seen c.args.regions.now)
    (map g.R.Region.seen c.settle_size.new.regions) c.in_ok-settle_size.ensures.ok
    c.requires.words
    (omega (arith, c.requires.place, length-map c.args.regions.now g.R.Region.seen))

pub returns-clause-ok : goal.returns-clause-ok
returns-clause-ok g c =
    on-ok c.close_gate.result
    (λ is. is ∙ ap (λ (seens : List (Seen WordStep)). with_first (323 + c.args.entry.slot) 0 seens)
    c.in_ok-settle_size.ensures.ok)
    c.close_gate.ensures.ok

pub returns-clause-moments : goal.returns-clause-moments
returns-clause-moments g c = λ files file live rest start first blocks brought.
    let see = g.R.Region.seen in
    let entry = c.args.entry in
    let mids = map see c.settle_size.new.regions in
    all_after (c.settle_size.ensures.moments files file live rest start first blocks brought)
    (gate-moments files file entry live rest start (with_size entry.node entry.size_after first)
    mids blocks
    (sized-at files file entry live rest start first (map see c.args.regions.now) mids blocks
    c.in_ok-settle_size.ensures.ok c.requires.node
    (omega (arith, c.requires.node, c.requires.place, length-map c.args.regions.now see))
    c.requires.words c.settle_size.ensures.devices brought)
    (map see c.close_gate.new.regions) _ _ c.close_gate.ensures.moments)

pub returns-clause-stands : goal.returns-clause-stands
returns-clause-stands g c =
    let see = g.R.Region.seen in
    on-ok c.close_gate.result
    (λ is. λ files file live rest start first blocks brought.
    settled-stands files file c.args.entry live rest start first (map see c.args.regions.now)
    (map see c.settle_size.new.regions) (map see c.close_gate.new.regions) blocks
    c.in_ok-settle_size.ensures.ok c.requires.node
    (omega (arith, c.requires.place, length-map c.args.regions.now see)) c.requires.words
    c.settle_size.ensures.devices is c.close_gate.ensures.devices brought)
    c.close_gate.ensures.ok
