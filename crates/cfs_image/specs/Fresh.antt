-- What stands in the image of a new store.
use Rattle.std.specs.Prelude.{ℕ, ◌-◌, ◌==◌, List, [], ◌∷◌, ◌++◌, length, map, replicate, if◌then◌else◌}
use Rattle.std.specs.List.{range_with_len}
use Rattle.cfs_block.specs.BlockImages.{Content}
use Rattle.cfs_image.specs.Image.{image_of}
use Rattle.cfs_image.specs.Layout.{region_count, region_words}

-- the front of a table: the next inode number is 2, and record 0 has the root, inode 1, its own
-- parent, a directory of mode 0777
abbrev pub new_table : List ℕ
new_table = 2 ∷ 1 ∷ 1 ∷ 2 ∷ 511 ∷ []

-- what the region with this number begins with: table copy 0 with that front
abbrev pub front_of : ℕ → List ℕ
front_of device = if device == 1 then new_table else []

-- its words, with zeros behind the front
abbrev pub new_words : ℕ → List ℕ
new_words device = front_of device ++ replicate (region_words device - length (front_of device)) 0

abbrev pub new_content : Content
new_content = record { tag = 0; bytes = replicate 4096 0 }

abbrev pub new_image_of : ℕ → ℕ → List ℕ
new_image_of blocks queues =
    image_of (map new_words (range_with_len 0 (region_count queues)))
    (replicate blocks new_content)
