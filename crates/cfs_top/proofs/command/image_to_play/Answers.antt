use Rattle.std.proofs.Common.{◌∙◌, arith, sym}
use Rattle.cfs_top.proofs.Words.{IsPlay-three}
use Rattle.cfs_top.proofs.command.image_to_play.Goals as goal

pub returns-in-len3-clause-found : goal.returns-in-len3-clause-found
returns-in-len3-clause-found c =
    IsPlay-three _ _ _ (omega arith) c.command-item.is c.image-item.is
    (sym c.is_play.ensures ∙ c.if-is_play.true) (sym c.is_image.ensures ∙ c.if-is_image.true)
