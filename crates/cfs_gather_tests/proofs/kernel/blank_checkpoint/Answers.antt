use Rattle.std.proofs.Common.{ℕ, ◌∙◌, ◌∷◌, List, ap, map, refl}
use Rattle.std.proofs.lemmas.List.{length-replicate}
use Rattle.cfs_pmem.specs.declared.mem_region.MemRegion.{MemRegion}
use Rattle.cfs_gather_tests.proofs.Blanks.{are_beside, are_fresh, regions}
use Rattle.cfs_gather_tests.proofs.kernel.blank_checkpoint.Goals as goal

pub blank-requires : goal.blank-requires
blank-requires c =
    are_fresh _ _ (regions c.in_ok-selector.selector c.in_ok-first.first c.in_ok-second.second c.in_ok-selector.ensures refl
    c.in_ok-tables.ensures.items c.in_ok-first.ensures c.in_ok-second.ensures)
    (length-replicate {A = ℕ} 3073 0) (length-replicate {A = ℕ} 3073 0)

pub returns : goal.returns
returns c =
    are_beside _ _ (
    ap (λ (r : MemRegion). r.seen ∷ map (λ (t : MemRegion). t.seen) c.blank.result.tables.items) c.blank.ensures.selector
    ∙ ap (λ (ts : List MemRegion). c.in_ok-selector.selector.seen ∷ map (λ (t : MemRegion). t.seen) ts) c.blank.ensures.tables
    ∙ regions c.in_ok-selector.selector c.in_ok-first.first c.in_ok-second.second c.in_ok-selector.ensures refl
    c.in_ok-tables.ensures.items c.in_ok-first.ensures c.in_ok-second.ensures)
