use Rattle.std.proofs.Common.{◌∙◌, arith, sym}
use Rattle.cfs_top.proofs.Words.{IsMkfs-five}
use Rattle.cfs_top.proofs.command.store_to_make.Goals as goal

pub returns-clause-found : goal.returns-clause-found
returns-clause-found c =
    IsMkfs-five _ _ _ _ _ _ _ (omega arith) c.command-item.is c.image-item.is c.blocks-item.is c.queues-item.is
    (sym c.is_mkfs.ensures ∙ c.if-not-is_mkfs.false) (sym c.is_image.ensures ∙ c.if-not-is_image.false)
    c.in_ok-blocks.ensures.found c.in_ok-queues.ensures.found
