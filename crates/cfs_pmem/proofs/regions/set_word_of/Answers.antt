use Rattle.std.proofs.Common.{◌≡◌, ◌∙◌, List, map, get_or, sym, ap, subst, arith}
use Rattle.std.proofs.Math.ListN.{set}
use Rattle.std.proofs.lemmas.List.{length-map, map-set, get_or-map, get_or-set_same}
use Rattle.cfs_pmem.specs.Faults.{HasCause}
use Rattle.cfs_pmem.specs.Images.{Seen, WordStep, IsImage, IsSetFrom}
use Rattle.cfs_pmem.specs.Moments.{Moments}
use Rattle.cfs_pmem.specs.Objects.{seen_at, IsImageBut, MomentsOf}
use Rattle.cfs_pmem.specs.WordOps.{SetsWord}
use Rattle.cfs_pmem.proofs.ObjectLemmas.{one_of, seen_at-map, map-see-set, seen_at-set}
use Rattle.cfs_pmem.proofs.regions.set_word_of.Goals as goal

pub returns-clause-set : goal.returns-clause-set
returns-clause-set g c =
    let see = g.R.Region.seen in
    let xs = c.args.regions.now in
    let was : seen_at (map see xs) c.args.place ≡ see (get_or xs c.args.place c.index-regions-place.result) = seen_at-map see xs c.args.place c.index-regions-place.result c.requires.place in
    let now : seen_at (map see (set xs c.args.place c.set_word.new.region)) c.args.place ≡ see c.set_word.new.region = seen_at-set see xs c.args.place c.set_word.new.region c.requires.place in
    subst (λ s. SetsWord g.R.Region.obeys_power c.args.at c.args.word c.set_word.result (g.P.Power.asked c.args.power.now) s (g.P.Power.asked c.set_word.new.power) (seen_at (map see (set xs c.args.place c.set_word.new.region)) c.args.place)) (sym was)
    (subst (λ s. SetsWord g.R.Region.obeys_power c.args.at c.args.word c.set_word.result (g.P.Power.asked c.args.power.now) (see (get_or xs c.args.place c.index-regions-place.result)) (g.P.Power.asked c.set_word.new.power) s) (sym now) c.set_word.ensures.set)

pub returns-clause-seen : goal.returns-clause-seen
returns-clause-seen g c =
    let see = g.R.Region.seen in
    let xs = c.args.regions.now in
    map-see-set see xs c.args.place c.set_word.new.region
    ∙ ap (λ s. set (map see xs) c.args.place s) (sym (seen_at-set see xs c.args.place c.set_word.new.region c.requires.place))

pub returns-clause-moments : goal.returns-clause-moments
returns-clause-moments g c =
    let see = g.R.Region.seen in
    let xs = c.args.regions.now in
    let olds : List (Seen WordStep) = map see xs in
    let was : seen_at olds c.args.place ≡ see (get_or xs c.args.place c.index-regions-place.result) = seen_at-map see xs c.args.place c.index-regions-place.result c.requires.place in
    let of_one : Moments IsImage (IsSetFrom (seen_at olds c.args.place) c.args.at c.args.word) (g.P.Power.asked c.args.power.now) (seen_at olds c.args.place) (g.P.Power.asked c.set_word.new.power) (see c.set_word.new.region) =
    subst (λ s. Moments IsImage (IsSetFrom s c.args.at c.args.word) (g.P.Power.asked c.args.power.now) s (g.P.Power.asked c.set_word.new.power) (see c.set_word.new.region)) (sym was) c.set_word.ensures.set.moments in
    subst (λ news. MomentsOf IsImage (IsImageBut IsImage (IsSetFrom (seen_at olds c.args.place) c.args.at c.args.word) c.args.place olds) (g.P.Power.asked c.args.power.now) olds (g.P.Power.asked c.set_word.new.power) news)
    (sym (map-see-set see xs c.args.place c.set_word.new.region))
    (one_of olds c.args.place (omega (arith, length-map xs see, c.requires.place)) c.requires.distinct of_one)

pub returns-clause-cause : goal.returns-clause-cause
returns-clause-cause g c =
    let xs = c.args.regions.now in
    let x = get_or xs c.args.place c.index-regions-place.result in
    let was : get_or (map g.R.Region.faults xs) c.args.place 0 ≡ g.R.Region.faults x = get_or-map g.R.Region.faults xs c.args.place c.index-regions-place.result 0 c.requires.place in
    let now : get_or (map g.R.Region.faults (set xs c.args.place c.set_word.new.region)) c.args.place 0 ≡ g.R.Region.faults c.set_word.new.region =
    ap (λ ns. get_or ns c.args.place 0) (map-set g.R.Region.faults xs c.args.place c.set_word.new.region)
    ∙ get_or-set_same (map g.R.Region.faults xs) c.args.place (g.R.Region.faults c.set_word.new.region) 0 (omega (arith, length-map xs g.R.Region.faults, c.requires.place)) in
    subst (λ n. HasCause n (get_or (map g.R.Region.faults (set xs c.args.place c.set_word.new.region)) c.args.place 0) c.set_word.result) (sym was)
    (subst (λ n. HasCause (g.R.Region.faults x) n c.set_word.result) (sym now) c.set_word.ensures.cause)
