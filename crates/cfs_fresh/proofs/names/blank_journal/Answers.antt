use Rattle.std.proofs.Common.{◌≡◌, ◌∙◌, ◌∷◌, [], List, map, ap, arith, subst, sym}
use Rattle.std.proofs.lemmas.List.{map-append}
use Rattle.cfs_pmem.specs.declared.mem_region.MemRegion.{MemRegion}
use Rattle.cfs_pmem.specs.Images.{Seen, WordStep}
use Rattle.cfs_journal.specs.Standing.{AreBlank}
use Rattle.cfs_journal.proofs.Blanks.{blanks, blanks_are_blank, blanks_more, blanks_none}
use Rattle.cfs_fresh.proofs.names.blank_journal.Goals as goal

pub loop-device-init : goal.loop-device-init
loop-device-init c = (ap (λ (xs : List MemRegion). map (λ (r : MemRegion). r.seen) xs) c.in_ok-records.ensures.items ∙ blanks_none, omega arith)

pub loop-device-preserved : goal.loop-device-preserved
loop-device-preserved c =
    let old = c.loop-device.records.items in
    let one = c.in_ok-zeros.field-0 in
    let seens : List MemRegion → List (Seen WordStep) = λ xs. map (λ (r : MemRegion). r.seen) xs in (
      blanks_more c.loop-device.device one.seen c.loop-device.invariant.0
          (ap (λ (r : MemRegion). r.seen) c.in_ok-zeros.ensures)
          (ap seens c.in_ok-push.ensures.items ∙ map-append (λ (r : MemRegion). r.seen) old (one ∷ [])),
      omega (arith, c.loop-device-test.true),
    )

pub blank-requires : goal.blank-requires
blank-requires c =
    let all : c.loop-device.device ≡ 64 = omega (arith, c.loop-device.invariant.1, c.loop-device-test.false) in
    subst AreBlank (sym (c.loop-device.invariant.0 ∙ ap blanks all)) blanks_are_blank

pub returns-clause-regions : goal.returns-clause-regions
returns-clause-regions c =
    let all : c.loop-device.device ≡ 64 = omega (arith, c.loop-device.invariant.1, c.loop-device-test.false) in
    ap (λ (xs : List MemRegion). map (λ (r : MemRegion). r.seen) xs) c.in_ok-journal.ensures.regions
    ∙ c.loop-device.invariant.0 ∙ ap blanks all
