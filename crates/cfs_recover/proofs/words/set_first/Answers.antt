use Rattle.std.proofs.Common.{List, map, get_or, set, sym, subst, arith}
use Rattle.std.proofs.lemmas.List.{length-map}
use Rattle.cfs_pmem.specs.Images.{Seen, WordStep, IsImage, IsSetFrom}
use Rattle.cfs_pmem.specs.Moments.{Moments}
use Rattle.cfs_pmem.specs.Objects.{IsImageBut, MomentsOf, seen_at}
use Rattle.cfs_pmem.specs.WordOps.{SetsWord}
use Rattle.cfs_pmem.proofs.ObjectLemmas.{map-see-set, one_of, seen_at-map, seen_at-set}
use Rattle.cfs_recover.proofs.BlockCalls.{cause-of, devices-same_at, on-ok}
use Rattle.cfs_recover.proofs.WordCalls.{first-is, lengths-at, word-devices}
use Rattle.cfs_recover.proofs.words.set_first.Goals as goal

pub returns-clause-ok : goal.returns-clause-ok
returns-clause-ok g c =
    on-ok c.set_word.result
    (first-is g.R.Region.seen c.args.regions.now c.args.place c.index-regions-place.result
    c.set_word.new.region c.args.word c.requires.place)
    c.set_word.ensures.set.ok

pub returns-clause-set : goal.returns-clause-set
returns-clause-set g c =
    let see = g.R.Region.seen in
    let xs = c.args.regions.now in
    let new = c.set_word.new.region in
    subst (λ (s : Seen WordStep). SetsWord g.R.Region.obeys_power 0 c.args.word c.set_word.result
    (g.P.Power.asked c.args.power.now) s (g.P.Power.asked c.set_word.new.power)
    (seen_at (map see (set xs c.args.place new)) c.args.place))
    (sym (seen_at-map see xs c.args.place c.index-regions-place.result c.requires.place))
    (subst (λ (s : Seen WordStep). SetsWord g.R.Region.obeys_power 0 c.args.word c.set_word.result
    (g.P.Power.asked c.args.power.now)
    (see (get_or xs c.args.place c.index-regions-place.result))
    (g.P.Power.asked c.set_word.new.power) s)
    (sym (seen_at-set see xs c.args.place new c.requires.place)) c.set_word.ensures.set)

pub returns-clause-moments : goal.returns-clause-moments
returns-clause-moments g c =
    let see = g.R.Region.seen in
    let xs = c.args.regions.now in
    let olds : List (Seen WordStep) = map see xs in
    let new = c.set_word.new.region in
    let of_one : Moments IsImage (IsSetFrom (seen_at olds c.args.place) 0 c.args.word)
    (g.P.Power.asked c.args.power.now) (seen_at olds c.args.place)
    (g.P.Power.asked c.set_word.new.power) (see new) =
    subst (λ (s : Seen WordStep). Moments IsImage (IsSetFrom s 0 c.args.word)
    (g.P.Power.asked c.args.power.now) s (g.P.Power.asked c.set_word.new.power) (see new))
    (sym (seen_at-map see xs c.args.place c.index-regions-place.result c.requires.place))
    c.set_word.ensures.set.moments in
    subst (λ (news : List (Seen WordStep)). MomentsOf IsImage
    (IsImageBut IsImage (IsSetFrom (seen_at olds c.args.place) 0 c.args.word) c.args.place olds)
    (g.P.Power.asked c.args.power.now) olds (g.P.Power.asked c.set_word.new.power) news)
    (sym (map-see-set see xs c.args.place new))
    (one_of olds c.args.place (omega (arith, length-map xs see, c.requires.place))
    c.requires.distinct of_one)

pub returns-clause-lengths : goal.returns-clause-lengths
returns-clause-lengths g c =
    lengths-at g.R.Region.seen c.args.regions.now c.args.place c.index-regions-place.result
    c.set_word.new.region c.requires.place c.set_word.ensures.set.size

pub returns-clause-devices : goal.returns-clause-devices
returns-clause-devices g c =
    let see = g.R.Region.seen in
    let xs = c.args.regions.now in
    devices-same_at see xs c.args.place c.index-regions-place.result c.set_word.new.region
    c.requires.place
    (word-devices c.args.word c.set_word.result
    (see (get_or xs c.args.place c.index-regions-place.result)) (see c.set_word.new.region)
    c.set_word.ensures.set.ok c.set_word.ensures.set.err)

pub returns-clause-cause : goal.returns-clause-cause
returns-clause-cause g c =
    cause-of g.R.Region.faults c.args.regions.now c.args.place c.index-regions-place.result
    c.set_word.new.region c.set_word.result c.requires.place c.set_word.ensures.cause
