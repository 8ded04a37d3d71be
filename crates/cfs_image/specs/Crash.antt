-- What a crash leaves of the objects of a store, one after another.
use Rattle.std.specs.Prelude.{ℕ, ◌<◌, List, [], ◌∷◌, length}
use Rattle.std.proofs.Math.ListN.{get_or}
use Rattle.cfs_pmem.specs.declared.pick.Pick.{Pick}
use Rattle.cfs_pmem.specs.Images as regions
use Rattle.cfs_pmem.specs.Images.{Seen, WordStep, words_kept, words_of}
use Rattle.cfs_pmem.specs.Draws.{words_left, after_words}
use Rattle.cfs_block.specs.BlockImages as blocks
use Rattle.cfs_block.specs.BlockImages.{BlockStep}
use Rattle.cfs_block.specs.Written.{block_left, after_block}

-- a region as a crash leaves it, and the pick behind it
abbrev pub region_left : Pick → Seen WordStep → Seen WordStep
region_left pick seen =
    regions.began seen.device (words_left pick (words_kept seen.history) (words_of seen))

abbrev pub after_region : Pick → Seen WordStep → Pick
after_region pick seen = after_words pick (words_kept seen.history) (words_of seen)

-- a block, likewise
abbrev pub block_left_of : Pick → Seen BlockStep → Seen BlockStep
block_left_of pick seen = blocks.began seen.device (block_left pick seen.history)

abbrev pub after_block_of : Pick → Seen BlockStep → Pick
after_block_of pick seen = after_block pick seen.history

-- objects in their order, each with the pick that stands behind the one before it
abbrev pub all_left : {Step : Type 0} → (Pick → Seen Step → Seen Step) → (Pick → Seen Step → Pick) →
    Pick → List (Seen Step) → List (Seen Step)
all_left left after pick [] = []
all_left left after pick (seen ∷ rest) = left pick seen ∷ all_left left after (after pick seen) rest

abbrev pub after_all : {Step : Type 0} → (Pick → Seen Step → Pick) → Pick → List (Seen Step) → Pick
after_all after pick [] = pick
after_all after pick (seen ∷ rest) = after_all after (after pick seen) rest

-- the regions that a crash leaves, the pick behind them, and the same of blocks
abbrev pub regions_left : Pick → List (Seen WordStep) → List (Seen WordStep)
regions_left pick seen = all_left region_left after_region pick seen

abbrev pub after_regions : Pick → List (Seen WordStep) → Pick
after_regions pick seen = after_all after_region pick seen

abbrev pub blocks_left : Pick → List (Seen BlockStep) → List (Seen BlockStep)
blocks_left pick seen = all_left block_left_of after_block_of pick seen

abbrev pub after_blocks : Pick → List (Seen BlockStep) → Pick
after_blocks pick seen = after_all after_block_of pick seen

-- what each region holds is an image of it as it was, and what each block holds
abbrev pub AreImages : List (Seen WordStep) → List (Seen WordStep) → Type 0
AreImages old new = (k : ℕ) (d e : Seen WordStep) → k < length old →
    regions.IsImage (get_or old k d).history (words_of (get_or new k e))

abbrev pub AreBlockImages : List (Seen BlockStep) → List (Seen BlockStep) → Type 0
AreBlockImages old new = (k : ℕ) (d e : Seen BlockStep) → k < length old →
    blocks.IsBlockImage (get_or old k d).history (blocks.content_of (get_or new k e))
