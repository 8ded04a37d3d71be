-- The commands that words are.
use Rattle.std.specs.Prelude.{◌≡◌, ◌≢◌, ℕ, ◌==◌, ◌≤◌, ◌&&◌, ◌||◌, not, nat_le, Bool, List, [], ◌∷◌}
use Rattle.std.specs.Prelude.{length, get_or, codes, IsTrue}
use Rattle.std.specs.Char.{is_ascii_alphanumeric}
use Rattle.std.specs.List.{list_all}
use Rattle.std.specs.Fmt.{decimal}
use Rattle.std.specs.Str.{bytes_eq}
use Rattle.cfs_dir.specs.Path.{ArePathNames, text_of}
use Rattle.cfs_image.specs.declared.layout.TheConstants.{FEWEST_BLOCKS, FEWEST_QUEUES, MOST_BLOCKS}
use Rattle.cfs_image.specs.declared.layout.TheConstants.{MOST_QUEUES}

-- a letter, a digit, `.`, `_`, `-` or `/`
abbrev pub is_image_byte : ℕ → Bool
is_image_byte b = is_ascii_alphanumeric b || b == 46 || b == 95 || b == 45 || b == 47

-- an image's name has 1 to 200 such bytes, and does not look like an option
abbrev pub is_image_name : List ℕ → Bool
is_image_name name =
    nat_le 1 (length name) && nat_le (length name) 200 && list_all is_image_byte name
    && not (get_or name 0 0 == 45)

abbrev pub is_play : List ℕ → Bool
is_play word = bytes_eq word (codes "play")

-- the words are the program's name, `play` and an image's name
pub record IsPlay (words : List (List ℕ)) (image : List ℕ) : Type 0 where
  pub program : List ℕ
  pub are : words ≡ program ∷ codes "play" ∷ image ∷ []
  pub name : IsTrue (is_image_name image)

abbrev pub is_mkfs : List ℕ → Bool
is_mkfs word = bytes_eq word (codes "mkfs")

-- the words are the program's name, `mkfs`, an image's name, and in decimal how many
-- blocks and queues
pub record IsMkfs (words : List (List ℕ)) (image : List ℕ) (blocks queues : ℕ) : Type 0 where
  pub program : List ℕ
  pub are : words ≡ program ∷ codes "mkfs" ∷ image ∷ decimal blocks ∷ decimal queues ∷ []
  pub name : IsTrue (is_image_name image)
  pub fewest_blocks : FEWEST_BLOCKS ≤ blocks
  pub most_blocks : blocks ≤ MOST_BLOCKS
  pub fewest_queues : FEWEST_QUEUES ≤ queues
  pub most_queues : queues ≤ MOST_QUEUES

abbrev pub is_upgrade : List ℕ → Bool
is_upgrade word = bytes_eq word (codes "upgrade")

-- the words are the program's name, `upgrade`, an image's name, and another one for the new image
pub record IsUpgrade (words : List (List ℕ)) (image new : List ℕ) : Type 0 where
  pub program : List ℕ
  pub are : words ≡ program ∷ codes "upgrade" ∷ image ∷ new ∷ []
  pub name : IsTrue (is_image_name image)
  pub new_name : IsTrue (is_image_name new)
  pub another : new ≢ image

abbrev pub is_check : List ℕ → Bool
is_check word = bytes_eq word (codes "check")

-- the words are the program's name, `check` and an image's name
pub record IsCheck (words : List (List ℕ)) (image : List ℕ) : Type 0 where
  pub program : List ℕ
  pub are : words ≡ program ∷ codes "check" ∷ image ∷ []
  pub name : IsTrue (is_image_name image)

abbrev pub is_dump : List ℕ → Bool
is_dump word = bytes_eq word (codes "dump")

-- the words are the program's name, `dump`, an image's name and a path
pub record IsDump (words : List (List ℕ)) (image : List ℕ) (path : List (List ℕ)) : Type 0 where
  pub program : List ℕ
  pub are : words ≡ program ∷ codes "dump" ∷ image ∷ text_of path ∷ []
  pub name : IsTrue (is_image_name image)
  pub names : ArePathNames path
