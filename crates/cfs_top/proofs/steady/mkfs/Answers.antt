use Rattle.cfs_top.proofs.steady.mkfs.Goals as goal

pub returns-in-Ok-save-clause-made : goal.returns-in-Ok-save-clause-made
returns-in-Ok-save-clause-made g c = rw (c.as_slice.ensures, c.in-Ok.ensures.image) at c.in-Ok-save.ensures.saved
