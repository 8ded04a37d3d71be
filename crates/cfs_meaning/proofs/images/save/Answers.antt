use Rattle.std.proofs.Common.{◌≡◌, ◌∙◌}
use Rattle.cfs_image.specs.Image.{contents_in, image_of, words_in}
use Rattle.cfs_meaning.proofs.Stored.{if-one, saved-so}
use Rattle.cfs_meaning.proofs.images.save.Goals as goal

pub returns : goal.returns
returns c =
    if-one c.write_image.result
    (λ image. image ≡ image_of (words_in c.args.medium.now.regions.items)
    (contents_in c.args.medium.now.blocks.items)) _
    (λ image is asked. is
    ∙ saved-so asked c.args.medium.now.regions.items c.args.medium.now.blocks.items)
    c.write_image.ensures.image
