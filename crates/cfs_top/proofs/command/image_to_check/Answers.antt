use Rattle.std.proofs.Common.{◌∙◌, arith, sym}
use Rattle.cfs_top.proofs.Words.{IsCheck-three}
use Rattle.cfs_top.proofs.command.image_to_check.Goals as goal

pub returns-in-len3-clause-found : goal.returns-in-len3-clause-found
returns-in-len3-clause-found c =
    IsCheck-three _ _ _ (omega arith) c.command-item.is c.image-item.is
    (sym c.is_check.ensures ∙ c.if-is_check.true) (sym c.is_image.ensures ∙ c.if-is_image.true)
