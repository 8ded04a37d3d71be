-- The checks of the blocks' tags. `at` is the offset of the first one.
use Rattle.std.specs.Prelude.{ℕ, ◌+◌, ◌*◌, ◌/◌, ◌%◌, ◌==◌, ◌&&◌, not, nat_le, Bool, false, List, []}
use Rattle.std.specs.Prelude.{◌∷◌, get_or, length, find, Option, is_none, unwrap_or, if◌then◌else◌}
use Rattle.std.specs.List.{range_with_len}
use Rattle.std.specs.Option.{option_map_or}
use Rattle.cfs_dir.specs.declared.node.Node.{Node}
use Rattle.cfs_dir.specs.Namespace.{is_directory, node_of}
use Rattle.cfs_image.specs.Checks.{Check, check}
use Rattle.cfs_survey.specs.Faults.{checks_from}

-- whether an inode number is that of a file
abbrev pub is_file : List Node → ℕ → Bool
is_file nodes ino =
    option_map_or (λ node. not (is_directory node.kind)) (node_of nodes ino) false

-- where the tag of a block stands
abbrev pub tag_at : ℕ → ℕ → ℕ
tag_at at block = at + 4104 * block

-- the lowest of the first n blocks that has a tag
abbrev pub block_of : List ℕ → ℕ → ℕ → Option ℕ
block_of tags n tag = find (λ block. get_or tags block 0 == tag) (range_with_len 0 n)

-- the tag names one of the 256 blocks of a file
abbrev pub is_block_tag : ℕ → Bool
is_block_tag tag = nat_le 1 (tag % 65536) && nat_le (tag % 65536) 256

-- a block's tag, and that no lower block has it
abbrev pub own_checks : ℕ → List ℕ → ℕ → ℕ → List Check
own_checks at tags block tag =
    check (is_block_tag tag) (tag_at at block) tag 256
    ∷ check (is_none (block_of tags block tag)) (tag_at at block) tag
    (unwrap_or (block_of tags block tag) 0) ∷ []

-- a block whose tag is one of a file
abbrev pub tag_checks : ℕ → List Node → List ℕ → ℕ → List Check
tag_checks at nodes tags block =
    if is_file nodes (get_or tags block 0 / 65536)
    then own_checks at tags block (get_or tags block 0) else []

-- each block, ascending
unfoldable pub tags_checks : ℕ → List Node → List ℕ → List Check
tags_checks at nodes tags = checks_from (tag_checks at nodes tags) 0 (length tags)
