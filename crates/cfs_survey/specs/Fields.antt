-- The checks of the twelve words of a node by themselves. `at` is the offset of the first word.
use Rattle.std.specs.Prelude.{ℕ, ◌+◌, ◌==◌, ◌||◌, not, nat_lt, Bool, List, [], ◌∷◌, ◌++◌, get_or, take, drop, if◌then◌else◌}
use Rattle.std.specs.Int.{w64, to_le_bytes}
use Rattle.std.specs.List.{flat_map}
use Rattle.cfs_dir.specs.declared.kind.Kind.{Kind}
use Rattle.cfs_dir.specs.declared.kind.Kind.TheVariants.{Directory, File}
use Rattle.cfs_dir.specs.Name.{is_dots, is_name_byte}
use Rattle.cfs_image.specs.Checks.{Check, check}
use Rattle.cfs_survey.specs.Faults.{at_least, at_most, checks_from, equal}

abbrev pub largest_id : ℕ
largest_id = 4294967295

-- mode, owner and group
abbrev pub owner_checks : ℕ → List ℕ → List Check
owner_checks at words =
    at_most 511 (at + 24) (get_or words 3 0)
    ∷ at_most largest_id (at + 32) (get_or words 4 0)
    ∷ at_most largest_id (at + 40) (get_or words 5 0) ∷ []

-- the root is its own parent, a directory without a name; the words of its name are not looked at
unfoldable pub root_checks : ℕ → List ℕ → List Check
root_checks at words =
    equal 1 at (get_or words 0 0)
    ∷ equal 1 (at + 8) (get_or words 1 0)
    ∷ equal 2 (at + 16) (get_or words 2 0)
    ∷ equal 0 (at + 48) (get_or words 6 0)
    ∷ owner_checks at words

abbrev pub kind_in : ℕ → Kind
kind_in kind = if kind == 2 then Directory else File

abbrev pub kind_check : ℕ → ℕ → Check
kind_check at kind = check ((kind == 1) || (kind == 2)) (at + 16) kind 2

-- the forty bytes of the name's five words
abbrev pub name_room : List ℕ → List ℕ
name_room words = flat_map (to_le_bytes w64) (take 5 (drop 7 words))

-- whether a byte may stand at k in the room of a name of this length
abbrev pub fits : ℕ → ℕ → ℕ → Bool
fits byte k len = if nat_lt k len then is_name_byte byte else byte == 0

abbrev pub byte_check : ℕ → ℕ → List ℕ → ℕ → Check
byte_check at len room k =
    check (fits (get_or room k 0) k len) (at + 56 + k) (get_or room k 0) 0

abbrev pub byte_checks : ℕ → ℕ → List ℕ → List Check
byte_checks at len room = checks_from (λ k. byte_check at len room k ∷ []) 0 40

-- the name's length, each of its bytes, and that it is not `.` or `..`
abbrev pub name_checks : ℕ → ℕ → List ℕ → List Check
name_checks at len room =
    at_least 1 (at + 48) len
    ∷ at_most 40 (at + 48) len
    ∷ (byte_checks at len room ++ check (not (is_dots (take len room))) (at + 48) len 0 ∷ [])

-- the words of a node that is not the root
abbrev pub field_checks : ℕ → List ℕ → List Check
field_checks at words =
    kind_check at (get_or words 2 0)
    ∷ (owner_checks at words ++ name_checks at (get_or words 6 0) (name_room words))
