-- How a request is cut into pieces, by the blocks that its file has.
use Rattle.std.specs.Prelude.{ℕ, ◌+◌, ◌-◌, ◌/◌, ◌<◌, ◌≡◌, Option, Some, List, map, get_or}
use Rattle.std.specs.Prelude.{nat_eq}
use Rattle.std.specs.HashMap.{get, HashMap}
use Rattle.std.specs.List.{filter_map, range_with_len}
use Rattle.std.specs.Option.{option_map}
use Rattle.std.specs.declared.hash.BuildHasherDefault.{BuildHasherDefault}
use Rattle.std.specs.declared.hash.FoldHasher.{FoldHasher}
use Rattle.cfs_file.specs.declared.sizes.TheConstants.{FILE_BLOCKS}
use Rattle.cfs_pmem.specs.Images.{Seen}
use Rattle.cfs_block.specs.BlockImages.{BlockStep, content_of}
use Rattle.cfs_medium.specs.Store.{tag_of}
use Rattle.cfs_recover.specs.declared.piece.Piece.{Piece}
use Rattle.cfs_recover.specs.Cut.{piece_in, zeros_in}

-- a map from tags to the blocks that have them
abbrev pub BlockMap : Type 0
BlockMap = HashMap ℕ ℕ (BuildHasherDefault FoldHasher)

-- the tag of each block, as it reads now
abbrev pub tags_in : List (Seen BlockStep) → List ℕ
tags_in blocks = map (λ block. (content_of block).tag) blocks

-- the block that the map has for a block of the file
abbrev pub found_at : BlockMap → ℕ → ℕ → Option ℕ
found_at found ino block = get nat_eq found (tag_of ino block)

-- For each block of the file the map has the one that is tagged for it, and no other.
abbrev pub FindsBlocks : ℕ → BlockMap → List ℕ → Type 0
FindsBlocks ino found tags =
    (block at : ℕ) → block < FILE_BLOCKS →
    (found_at found ino block ≡ Some at → get_or tags at 0 ≡ tag_of ino block)
    × (get_or tags at 0 ≡ tag_of ino block → found_at found ino block ≡ Some at)

-- a piece for each of these blocks of the file that it has
abbrev pub pieces_for : (ℕ → ℕ → Piece) → (ℕ → Option ℕ) → ℕ → ℕ → List Piece
pieces_for cut find from count =
    filter_map (λ block. option_map (λ at. cut at block) (find block))
    (range_with_len from count)

-- of a write of `len` bytes
abbrev pub write_pieces : BlockMap → ℕ → ℕ → ℕ → List Piece
write_pieces found ino offset len =
    pieces_for (λ at block. piece_in at block offset len) (found_at found ino) (offset / 4096)
    ((offset + len + 4095) / 4096 - offset / 4096)

-- and of a truncate to n
abbrev pub zero_pieces : BlockMap → ℕ → ℕ → List Piece
zero_pieces found ino n =
    pieces_for (λ at block. zeros_in at block n) (found_at found ino) (n / 4096) (256 - n / 4096)
