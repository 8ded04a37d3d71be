use Rattle.std.proofs.Common.{arith, ◌≡◌, ◌∙◌, ◌++◌, All, length, ap, subst, sym}
use Rattle.std.specs.List.{flat_map}
use Rattle.cfs_image.specs.Layout.{queues_of}
use Rattle.cfs_image.specs.Image.{IsWord, block_bytes, words_bytes, contents_in, image_of, words_in}
use Rattle.cfs_image.specs.Held.{AreHeld}
use Rattle.cfs_image.specs.Checks.{IsSound}
use Rattle.cfs_image.proofs.HeldLemmas.{held_by}
use Rattle.cfs_image.proofs.Standing.{images-are-sound}
use Rattle.cfs_image.proofs.Writings.{image_written}
use Rattle.cfs_image.proofs.write.write_image.Goals as goal

held : (c : goal.After-from_vec) → AreHeld (words_in c.args.medium.now.regions.items) (contents_in c.args.medium.now.blocks.items)
held c =
    held_by c.args.medium.now.regions.items c.args.medium.now.blocks.items c.args.medium.now.store
    (subst (λ regions. All (λ words. All IsWord words) (words_in regions)) c.deref.ensures.value c.in_ok-push_regions.ensures.fit)
    (subst (λ blocks. All (λ content. IsWord content.tag) (contents_in blocks)) c.deref-2.ensures.value c.in_ok-push_blocks.ensures.fit)

pub returns-clause-held : goal.returns-clause-held
returns-clause-held c = held c

pub returns-clause-sound : goal.returns-clause-sound
returns-clause-sound c =
    let regions = c.args.medium.now.regions.items in
    let blocks = c.args.medium.now.blocks.items in
    let many : c.from.result ≡ length blocks = omega (arith, c.from.ensures, c.len-blocks.ensures) in
    let queues : c.from-2.result ≡ queues_of (length regions) = c.from-2.ensures ∙ c.queues-queues.ensures in
    let image : c.from_vec.result ≡ image_of (words_in regions) (contents_in blocks) =
    c.from_vec.ensures
    ∙ image_written regions blocks c.from.result c.from-2.result c.in_ok-image.image.items c.push_words.new.image.items c.push_regions.new.image.items c.push_blocks.new.image.items
    c.in_ok-image.ensures.items c.in_ok-push_words.ensures.image
    (c.in_ok-push_regions.ensures.image ∙ ap (λ rs. c.push_words.new.image.items ++ flat_map words_bytes (words_in rs)) c.deref.ensures.value)
    (c.in_ok-push_blocks.ensures.image ∙ ap (λ bs. c.push_regions.new.image.items ++ flat_map block_bytes (contents_in bs)) c.deref-2.ensures.value)
    many queues in
    subst (λ bytes. IsSound bytes) (sym image) (images-are-sound (words_in regions) (contents_in blocks) (held c))
