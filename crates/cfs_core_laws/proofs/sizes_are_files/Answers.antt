use Rattle.cfs_core.proofs.Images.{size-allowed}
use Rattle.cfs_core_laws.proofs.Whole.{whole}
use Rattle.cfs_core_laws.proofs.sizes_are_files.Goals as goal

pub returns : goal.returns
returns c = λ core image reached h. (whole reached).fit image.size (size-allowed core image h)
