use Rattle.std.proofs.Common.{◌∙◌, arith, sym}
use Rattle.cfs_top.proofs.Words.{IsUpgrade-four}
use Rattle.cfs_top.proofs.command.image_to_upgrade.Goals as goal

pub returns-clause-found : goal.returns-clause-found
returns-clause-found c =
    IsUpgrade-four _ _ _ _ (omega arith) c.command-item.is c.image-item.is c.new-item.is
    (sym c.is_upgrade.ensures ∙ c.if-not-is_upgrade.false)
    (sym c.is_image.ensures ∙ c.if-not-is_image.false)
    (sym c.is_image-else-not-is_image.ensures ∙ c.if-not-is_image-2.false)
    (sym c.eq.ensures ∙ c.if-eq.false)
