-- What the log of a block, which takes no room at run time, stands for.
use Rattle.std.specs.Prelude.{List, [], ◌∷◌}
use Rattle.cfs_block.specs.BlockImages.{BlockStep, ranged, tagged, flushed, stalled}
use Rattle.cfs_block.specs.declared.history.Past.{Past, Start, Ranged', Tagged', Flushed', Stalled'}

abbrev pub block_steps : Past → List BlockStep
block_steps Start = []
block_steps (Ranged' from len tag bytes shape before) =
    ranged from len record { tag = tag; bytes = bytes.value.items } ∷ block_steps before
block_steps (Tagged' asked tag bytes shape before) =
    tagged asked record { tag = tag; bytes = bytes.value.items } ∷ block_steps before
block_steps (Flushed' tag bytes shape before) =
    flushed record { tag = tag; bytes = bytes.value.items } ∷ block_steps before
block_steps (Stalled' tag bytes shape before) =
    stalled record { tag = tag; bytes = bytes.value.items } ∷ block_steps before
