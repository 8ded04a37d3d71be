use Rattle.std.proofs.Common.{◌∙◌, arith, sym}
use Rattle.cfs_top.proofs.Words.{IsDump-four}
use Rattle.cfs_top.proofs.command.file_to_dump.Goals as goal

pub returns-in-Ok-clause-found : goal.returns-in-Ok-clause-found
returns-in-Ok-clause-found c =
    IsDump-four _ _ _ _ _ (omega arith) c.command-item.is c.image-item.is c.path-item.is
    (sym c.is_dump.ensures ∙ c.if-not-is_dump.false)
    (sym c.is_image.ensures ∙ c.if-not-is_image.false)
    (rw c.as_slice.ensures at c.in-Ok.ensures.parsed)
