use Rattle.std.proofs.Common.{◌≡◌, ◌∙◌, List, map, ap, subst, sym}
use Rattle.cfs_pmem.specs.AllMoments.{AreDistinct}
use Rattle.cfs_pmem.specs.Images.{MemoryRegion}
use Rattle.cfs_block.specs.Devices.{numbers_of}
use Rattle.cfs_block.specs.MemoryBlocks.{seen_of}
use Rattle.cfs_block.specs.declared.mem_block.MemBlock.{MemBlock}
use Rattle.cfs_store_words.specs.Leaves.{devices}
use Rattle.cfs_store_words.proofs.Distinct.{memory-distinct}
use Rattle.cfs_store_words_tests.proofs.tests.survey_of.Goals as goal

pub survey_store-requires-clause-distinct : goal.survey_store-requires-clause-distinct
survey_store-requires-clause-distinct c =
    let medium = c.in_ok-medium.medium in
    let regions : c.deref_mut.result.now ≡ medium.regions.items =
    c.deref_mut.ensures.value ∙ ap (λ v. v.items) c.into_parts-regions.ensures.regions in
    let blocks : c.deref_mut-2.result.now ≡ medium.blocks.items =
    c.deref_mut-2.ensures.value ∙ ap (λ v. v.items) c.into_parts-regions.ensures.blocks in
    subst (λ (these : List MemoryRegion). AreDistinct (numbers_of
    (devices (map (λ region. region.seen) these) (map seen_of c.deref_mut-2.result.now))))
    (sym regions)
    (subst (λ (these : List MemBlock). AreDistinct (numbers_of
    (devices (map (λ region. region.seen) medium.regions.items) (map seen_of these))))
    (sym blocks)
    (memory-distinct medium.regions.items medium.blocks.items medium.store
    c.in_ok-medium.ensures.regions))
