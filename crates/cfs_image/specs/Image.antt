-- The bytes that words and contents of blocks are in an image.
use Rattle.std.specs.Prelude.{ℕ, ◌^◌, ◌<◌, ◌≡◌, List, [], ◌∷◌, ◌++◌, length, drop, map}
use Rattle.std.specs.List.{flat_map}
use Rattle.byteorder.specs.Endian.{little_bytes, little_number}
use Rattle.cfs_pmem.specs.Images.{MemoryRegion, words_of, began}
use Rattle.cfs_block.specs.BlockImages as blocks
use Rattle.cfs_block.specs.BlockImages.{Content, content_of}
use Rattle.cfs_block.specs.MemoryBlocks.{seen_of, faults_of}
use Rattle.cfs_block.specs.declared.mem_block.MemBlock.{MemBlock}
use Rattle.cfs_image.specs.declared.layout.TheConstants.{NAME, VERSION}
use Rattle.cfs_image.specs.Layout.{queues_of}

-- the word at an offset: eight bytes, the lowest first
abbrev pub word_at : List ℕ → ℕ → ℕ
word_at bytes offset = little_number 8 (drop offset bytes)

-- the number is that of a 64-bit word
abbrev pub IsWord : ℕ → Type 0
IsWord word = word < 2 ^ 64

-- words as they stand in an image
abbrev pub words_bytes : List ℕ → List ℕ
words_bytes words = flat_map (little_bytes 8) words

-- a block as it stands in an image: its tag word, and then its bytes
abbrev pub block_bytes : Content → List ℕ
block_bytes content = little_bytes 8 content.tag ++ content.bytes

abbrev pub header_of : ℕ → ℕ → List ℕ
header_of blocks queues = NAME ∷ VERSION ∷ blocks ∷ queues ∷ []

-- The image of a store: the header, the words of its regions and the contents of its blocks, both
-- in order of device number.
abbrev pub image_of : List (List ℕ) → List Content → List ℕ
image_of regions blocks =
    words_bytes (header_of (length blocks) (queues_of (length regions))) ++
    (flat_map words_bytes regions ++ flat_map block_bytes blocks)

-- what regions and blocks in memory hold now
abbrev pub words_in : List MemoryRegion → List (List ℕ)
words_in regions = map (λ region. words_of region.seen) regions

abbrev pub contents_in : List MemBlock → List Content
contents_in blocks = map (λ block. content_of (seen_of block)) blocks

-- It was made with the words it holds now, nothing was written to it since, and it has not failed.
abbrev pub IsNewRegion : MemoryRegion → Type 0
IsNewRegion region =
    region ≡ record { seen = began region.seen.device (words_of region.seen); faults = 0 }

abbrev pub IsNewBlock : MemBlock → Type 0
IsNewBlock block =
    (seen_of block ≡ blocks.began (seen_of block).device (content_of (seen_of block)))
    × (faults_of block ≡ 0)
