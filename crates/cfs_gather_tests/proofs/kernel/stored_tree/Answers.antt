use Rattle.std.proofs.Common.{◌∙◌, ◌++◌, List, [], map, refl, subst, sym}
use Rattle.cfs_pmem.specs.declared.mem_region.MemRegion.{MemRegion}
use Rattle.cfs_pmem.specs.AllMoments.{AreDistinct}
use Rattle.cfs_pmem.specs.Images.{Seen, WordStep}
use Rattle.cfs_pmem.specs.Objects.{all_devices}
use Rattle.cfs_ckpt.specs.Checkpoints.{seens_of}
use Rattle.cfs_journal.specs.Journals.{changes_of, regions_of, through_of}
use Rattle.cfs_names.proofs.Ends.{on_ok}
use Rattle.cfs_names.proofs.Recovering.{behind_fresh}
use Rattle.cfs_names.proofs.Worlds.{apart_tables}
use Rattle.cfs_gather_tests.proofs.kernel.stored_tree.Goals as goal

pub new-requires-clause-behind : goal.new-requires-clause-behind
new-requires-clause-behind c =
    let journal = c.in_ok-journal.journal in
    behind_fresh [] 0 0 (through_of journal) (changes_of journal) refl
    c.in_ok-journal.ensures.through c.in_ok-journal.ensures.changes
    (on_ok c.store.result (sym c.is_err.ensures.value ∙ c.if-is_err.false) c.store.ensures.stored)

pub new-requires-clause-distinct : goal.new-requires-clause-distinct
new-requires-clause-distinct c =
    let tables = seens_of (λ (r : MemRegion). r.seen) c.in_ok-checkpoint.checkpoint in
    let records : List (Seen WordStep) =
    map (λ (r : MemRegion). r.seen) (regions_of c.in_ok-journal.journal) in
    let before : AreDistinct (all_devices (tables ++ records)) =
    subst (λ rs. AreDistinct (all_devices (tables ++ rs))) (sym c.in_ok-journal.ensures.regions)
    c.in_ok-checkpoint.ensures in
    apart_tables records before c.store.ensures.moments
