use Rattle.std.proofs.Common.{◌∙◌, ◌++◌, All, List, ℕ, ap, arith, subst}
use Rattle.cfs_pmem.specs.Images.{MemoryRegion, words_of}
use Rattle.cfs_image.specs.Image.{IsWord, words_bytes}
use Rattle.cfs_image.proofs.Writings.{written_more}
use Rattle.cfs_image.proofs.write.push_regions.Goals as goal

pub loop-region-preserved : goal.loop-region-preserved
loop-region-preserved c =
    let before : List ℕ = c.loop-region.image.items in
    let more = written_more words_bytes (λ (r : MemoryRegion). words_of r.seen) (λ ws. All IsWord ws) c.args.regions.now c.loop-region.region-index c.region-item.result
    c.args.image.now.items before c.push_words.new.image.items (omega arith) c.region-item.is c.loop-region.invariant.image
    (c.in_ok-push_words.ensures.image ∙ ap (λ ws. before ++ words_bytes ws) c.words.ensures)
    c.loop-region.invariant.fit (subst (λ ws. All IsWord ws) c.words.ensures c.in_ok-push_words.ensures.fit) in
    record { image = more.0; fit = more.1 }
