-- The regions of a store are parted.
use Rattle.std.proofs.Common.{◌≡◌, ◌∙◌, ℕ, ◌-◌, ◌*◌, ◌/◌, List, [], ◌∷◌, ◌++◌, length, map, take, drop}
use Rattle.std.proofs.Common.{length-drop, sym, ap, ap₂, subst, arith}
use Rattle.std.proofs.Math.Seq.{take-add}
use Rattle.std.proofs.lemmas.List.{drop-map, take-map}
use Rattle.cfs_image.specs.Layout.{queues_of, region_count}
use Rattle.cfs_pmem.specs.Images.{Seen, WordStep}
use Rattle.cfs_pmem.specs.Objects.{seen_at}
use Rattle.cfs_survey.specs.Surveys.{Words}
use Rattle.cfs_mount.specs.Front.{HoldFront}
use Rattle.cfs_mount.specs.Settled.{records_among, tables_among}

module _ {X : Type 0} (see : X → Seen WordStep) (regions : List X) where
  first-seen : (selector : X) → take 1 regions ≡ selector ∷ [] →
      seen_at (map see regions) 0 ≡ see selector
  first-seen selector first =
      let same : take 1 (map see regions) ≡ see selector ∷ [] =
      take-map see 1 regions ∙ ap (λ xs. map see xs) first in
      head-of (map see regions) same
    where
      head-of : (seens : List (Seen WordStep)) → take 1 seens ≡ see selector ∷ [] →
          seen_at seens 0 ≡ see selector
      head-of [] is = absurd (cc)
      head-of (seen ∷ seens) is = cc

  tables-seen : (tables : List X) → tables ≡ tables_among regions →
      tables_among (map see regions) ≡ map see tables
  tables-seen tables are =
      ap (λ seens. take 2 seens) (drop-map see 1 regions) ∙ take-map see 2 (drop 1 regions)
      ∙ ap (λ xs. map see xs) (sym are)

  records-seen : (records : List X) → records ≡ records_among regions →
      records_among (map see regions) ≡ map see records
  records-seen records are =
      ap (λ seens. take 64 seens) (drop-map see 3 regions) ∙ take-map see 64 (drop 3 regions)
      ∙ ap (λ xs. map see xs) (sym are)

  -- the front of the parts is that of all regions
  pub front-parted : (words : Words) (selector : X) (tables records : List X) →
      take 1 regions ≡ selector ∷ [] → tables ≡ tables_among regions →
      records ≡ records_among regions →
      HoldFront words (seen_at (map see regions) 0) (tables_among (map see regions))
      (records_among (map see regions)) →
      HoldFront words (see selector) (map see tables) (map see records)
  front-parted words selector tables records first are have front =
      subst (λ seen. HoldFront words seen (map see tables) (map see records))
      (first-seen selector first)
      (subst (λ seens. HoldFront words (seen_at (map see regions) 0) seens (map see records))
      (tables-seen tables are)
      (subst (λ seens. HoldFront words (seen_at (map see regions) 0)
      (tables_among (map see regions)) seens) (records-seen records have) front))

  -- and they are the first 67 of these
  pub parts-are-front : (selector : X) (tables records : List X) →
      take 1 regions ≡ selector ∷ [] → tables ≡ tables_among regions →
      records ≡ records_among regions →
      (see selector ∷ map see tables) ++ map see records ≡ take 67 (map see regions)
  parts-are-front selector tables records first are have =
      ap₂ (λ one two. (one ++ two) ++ map see records)
      (sym (take-map see 1 regions ∙ ap (λ xs. map see xs) first))
      (sym (tables-seen tables are))
      ∙ ap (λ three. (take 1 (map see regions) ++ tables_among (map see regions)) ++ three)
      (sym (records-seen records have))
      ∙ ap (λ one. one ++ records_among (map see regions))
      (sym (take-add 1 2 (map see regions)))
      ∙ sym (take-add 3 64 (map see regions))

-- as many slots as 16 of each queue
pub sixteen-each : {X : Type 0} (regions slots : List X) (count : ℕ) → count ≡ length slots →
    slots ≡ drop 323 regions → length regions ≡ region_count (queues_of (length regions)) →
    (count / 16 ≡ queues_of (length regions)) × (length slots ≡ 16 * (count / 16))
sixteen-each regions slots count counted are whole =
    let many : length slots ≡ length regions - 323 = ap length are ∙ length-drop 323 regions in
    let queues : count / 16 ≡ queues_of (length regions) =
    ap (λ n. n / 16) (counted ∙ many) in
    (queues, omega (arith, many, whole, queues))
