use Rattle.std.proofs.Common.{◌≡◌, ◌<◌, ◌++◌, ◌∙◌, ℕ, List, length, take, drop, map, get_or, ap, subst, arith}
use Rattle.std.proofs.lemmas.List.{get_or_default, length-map, take_at}
use Rattle.cfs_pmem.specs.Images.{MemoryRegion, IsImage, words_of}
use Rattle.cfs_image.specs.Crash.{region_left, after_region}
use Rattle.cfs_image.proofs.Crashing.{crash_more, kept_more}
use Rattle.cfs_image.proofs.crash.crash_regions.Goals as goal

pub loop-region-preserved : goal.loop-region-preserved
loop-region-preserved c =
    let items : List MemoryRegion = c.loop-region.region-items in
    let i : ℕ = c.loop-region.region-index in
    let x : MemoryRegion = get_or items i c.region-item.result in
    let within : i < length items = omega arith in
    let size : length items ≡ length (map (λ (r : MemoryRegion). r.seen) c.deref_mut-region-items.result.now) =
    omega (arith, length-map c.deref_mut-region-items.result.now (λ (r : MemoryRegion). r.seen)) in
    let more = crash_more (λ (r : MemoryRegion). r.seen) region_left after_region (λ s t. IsImage s.history (words_of t))
    c.args.pick.now (map (λ (r : MemoryRegion). r.seen) c.deref_mut-region-items.result.now) c.loop-region.pick c.crash.new.pick items i x c.crash.new.self
    c.loop-region.invariant.left within size (get_or_default items i x c.region-item.result within)
    c.crash.ensures.left c.crash.ensures.pick c.crash.ensures.image c.loop-region.invariant.images in
    record {
      left = more.0;
      images = more.1;
      faults = kept_more (λ (r : MemoryRegion). r.faults) items i c.region-item.result c.crash.new.self within c.crash.ensures.faults ∙ c.loop-region.invariant.faults;
    }

pub returns-clause-images : goal.returns-clause-images
returns-clause-images c = λ k d e l.
    let items = c.loop-region.region-items in
    let old = c.args.regions.now.items in
    let whole : take c.args.regions.now.len (items ++ drop (length items) old) ≡ items = take_at items (drop (length items) old) c.args.regions.now.len (omega arith) in
    let below : k < c.loop-region.region-index = omega (arith, length-map old (λ (r : MemoryRegion). r.seen), ap (λ xs. length xs) c.deref_mut-region-items.ensures.value) in
    rw whole
    (subst (λ xs. IsImage (get_or (map (λ (r : MemoryRegion). r.seen) xs) k d).history (words_of (get_or (map (λ (r : MemoryRegion). r.seen) items) k e)))
    c.deref_mut-region-items.ensures.value (c.loop-region.invariant.images k d e below))
