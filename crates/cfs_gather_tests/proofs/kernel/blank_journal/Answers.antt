use Rattle.std.proofs.Common.{◌≡◌, ◌∙◌, ◌∷◌, [], List, map, ap, arith, subst, sym}
use Rattle.std.proofs.lemmas.List.{map-append}
use Rattle.cfs_pmem.specs.declared.mem_region.MemRegion.{MemRegion}
use Rattle.cfs_pmem.specs.Images.{Seen, WordStep}
use Rattle.cfs_journal.specs.Standing.{AreBlank}
use Rattle.cfs_gather_tests.specs.Blanks.{blanks}
use Rattle.cfs_gather_tests.proofs.Blanks.{blanks_are_blank, blanks_more, blanks_none}
use Rattle.cfs_gather_tests.proofs.kernel.blank_journal.Goals as goal

pub loop-number-init : goal.loop-number-init
loop-number-init c = (ap (λ (xs : List MemRegion). map (λ (r : MemRegion). r.seen) xs) c.in_ok-records.ensures.items ∙ blanks_none, omega arith)

pub loop-number-preserved : goal.loop-number-preserved
loop-number-preserved c =
    let old = c.loop-number.records.items in
    let one = c.in_ok-zeros.field-0 in
    let seens : List MemRegion → List (Seen WordStep) = λ xs. map (λ (r : MemRegion). r.seen) xs in (
      blanks_more c.loop-number.number one.seen c.loop-number.invariant.0
          (ap (λ (r : MemRegion). r.seen) c.in_ok-zeros.ensures)
          (ap seens c.in_ok-push.ensures.items ∙ map-append (λ (r : MemRegion). r.seen) old (one ∷ [])),
      omega (arith, c.loop-number-test.true),
    )

pub blank-requires : goal.blank-requires
blank-requires c =
    let all : c.loop-number.number ≡ 64 = omega (arith, c.loop-number.invariant.1, c.loop-number-test.false) in
    subst AreBlank (sym (c.loop-number.invariant.0 ∙ ap blanks all)) blanks_are_blank

pub returns-clause-regions : goal.returns-clause-regions
returns-clause-regions c =
    let all : c.loop-number.number ≡ 64 = omega (arith, c.loop-number.invariant.1, c.loop-number-test.false) in
    ap (λ (xs : List MemRegion). map (λ (r : MemRegion). r.seen) xs) c.in_ok-journal.ensures.regions
    ∙ c.loop-number.invariant.0 ∙ ap blanks all
