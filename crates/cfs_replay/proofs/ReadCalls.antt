-- Reads of regions, one after another.
use Rattle.std.proofs.Common.{ℕ, zero, suc, ◌<◌, ◌≡◌, ◌∙◌, List, [], ◌∷◌, length, map, get_or, set}
use Rattle.std.proofs.Common.{refl, sym, subst, arith}
use Rattle.std.proofs.lemmas.List.{length-map}
use Rattle.cfs_pmem.specs.declared.trace.Asked.{Asked}
use Rattle.cfs_pmem.specs.AllMoments.{AreDistinct}
use Rattle.cfs_pmem.specs.Images.{Seen, WordStep, IsImage}
use Rattle.cfs_pmem.specs.Moments.{Moments}
use Rattle.cfs_pmem.specs.Objects.{IsEachImage, IsImageBut, MomentsOf, all_devices, seen_at}
use Rattle.cfs_pmem.proofs.AllMomentLemmas.{all_after, all_begun, all_weaker}
use Rattle.cfs_pmem.proofs.ObjectLemmas.{map-see-set, one_of, seen_at-map}
use Rattle.cfs_recover.proofs.BlockCalls.{map-same_at}
use Rattle.cfs_replay.specs.Reading.{LeavesAll}

-- an image of one of them among images of the others
each-own : (place : ℕ) (olds : List (Seen WordStep)) (images : List (List ℕ)) →
    IsImageBut IsImage (IsImage (seen_at olds place).history) place olds images →
    IsEachImage IsImage olds images
each-own place [] images h = absurd h
each-own zero (old ∷ olds) [] h = absurd h
each-own (suc place) (old ∷ olds) [] h = absurd h
each-own zero (old ∷ olds) (image ∷ images) h = (h.0, h.1)
each-own (suc place) (old ∷ olds) (image ∷ images) h =
    (h.0, each-own place olds images h.1)

-- a call that changes none of them
pub leaves-of : {X : Type 0} {asked_old asked_new : List Asked} (see : X → Seen WordStep)
    (xs : List X) (place : ℕ) (d y : X) → place < length xs →
    AreDistinct (all_devices (map see xs)) → see y ≡ see (get_or xs place d) →
    Moments IsImage (IsImage (see (get_or xs place d)).history) asked_old
    (see (get_or xs place d)) asked_new (see y) →
    LeavesAll asked_old (map see xs) asked_new (map see (set xs place y))
leaves-of {X} {asked_old} {asked_new} see xs place d y less distinct same moments = record {
  same = map-same_at see xs place d y less same;
  moments = subst (λ (news : List (Seen WordStep)).
      MomentsOf IsImage (IsEachImage IsImage (map see xs)) asked_old (map see xs) asked_new news)
      (sym (map-see-set see xs place y))
      (all_weaker (λ (images : List (List ℕ)) but. each-own place (map see xs) images but)
      (one_of (map see xs) place (omega (arith, length-map xs see)) distinct
      (subst (λ (old : Seen WordStep). Moments IsImage (IsImage old.history) asked_old old
      asked_new (see y)) (sym (seen_at-map see xs place d less)) moments)));
}

pub leaves-none : (asked : List Asked) (olds : List (Seen WordStep)) →
    AreDistinct (all_devices olds) → LeavesAll asked olds asked olds
leaves-none asked olds distinct = record {
  same = refl;
  moments = all_begun asked olds distinct (λ images each. each);
}

pub leaves-after : {asked_old asked_mid asked_new : List Asked}
    {olds mids news : List (Seen WordStep)} → LeavesAll asked_old olds asked_mid mids →
    LeavesAll asked_mid mids asked_new news → LeavesAll asked_old olds asked_new news
leaves-after {asked_old} {asked_mid} {asked_new} {olds} {mids} {news} one two = record {
  same = two.same ∙ one.same;
  moments = all_after one.moments
      (all_weaker
      (λ (images : List (List ℕ)) each.
      subst (λ (seens : List (Seen WordStep)). IsEachImage IsImage seens images) one.same each)
      two.moments);
}
