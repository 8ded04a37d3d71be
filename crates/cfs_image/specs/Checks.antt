-- The checks of an image's length and header, in the order in which they are made.
use Rattle.std.specs.Prelude.{ℕ, ◌≡◌, ◌==◌, nat_le, min, Bool, List, [], ◌∷◌, length, Option, Some, None, if◌then◌else◌}
use Rattle.cfs_image.specs.declared.layout.TheConstants.{NAME}
use Rattle.cfs_image.specs.declared.refusal.ImageRefusal.{ImageRefusal}
use Rattle.cfs_image.specs.declared.refusal.ImageRefusal.TheVariants.{Damaged, NoMemory}
use Rattle.cfs_image.specs.declared.version.Version.{Version}
use Rattle.cfs_image.specs.declared.version.Version.TheVariants.{Present}
use Rattle.cfs_image.specs.Versions.{image_len_in, number_of}
use Rattle.cfs_image.specs.Image.{word_at}

-- what is named where a check fails: an offset, the number found, and the number that it is against
pub record Damage : Type 0 where
  pub offset : ℕ
  pub found : ℕ
  pub against : ℕ

-- whether a check holds, and its damage where it fails
pub record Check : Type 0 where
  pub holds : Bool
  pub damage : Damage

abbrev pub check : Bool → ℕ → ℕ → ℕ → Check
check holds offset found against =
    record { holds = holds; damage = record { offset = offset; found = found; against = against } }

-- how long the image should be, by the numbers of blocks and queues in its header
abbrev pub due_len : Version → List ℕ → ℕ
due_len version bytes = image_len_in version (word_at bytes 16) (word_at bytes 24)

abbrev pub checks_of : Version → List ℕ → List Check
checks_of version bytes =
    -- the length is that of a header at least
    check (nat_le 32 (length bytes)) (length bytes) (length bytes) 32
    -- the name, the version
    ∷ check (word_at bytes 0 == NAME) 0 (word_at bytes 0) NAME
    ∷ check (word_at bytes 8 == number_of version) 8 (word_at bytes 8) (number_of version)
    -- the numbers of blocks and of queues
    ∷ check (nat_le 16 (word_at bytes 16)) 16 (word_at bytes 16) 16
    ∷ check (nat_le (word_at bytes 16) 16384) 16 (word_at bytes 16) 16384
    ∷ check (nat_le 1 (word_at bytes 24)) 24 (word_at bytes 24) 1
    ∷ check (nat_le (word_at bytes 24) 64) 24 (word_at bytes 24) 64
    -- the length is that of these blocks and queues
    ∷ check (length bytes == due_len version bytes) (min (length bytes) (due_len version bytes))
    (length bytes) (due_len version bytes)
    ∷ []

-- the damage of the first check that fails
abbrev pub damage_of : List Check → Option Damage
damage_of [] = None
damage_of (check ∷ rest) = if check.holds then damage_of rest else Some check.damage

-- every check holds
abbrev pub IsSoundIn : Version → List ℕ → Type 0
IsSoundIn version bytes = damage_of (checks_of version bytes) ≡ None

abbrev pub IsSound : List ℕ → Type 0
IsSound bytes = IsSoundIn Present bytes

-- the refusal names the damage of the first check that fails
abbrev pub NamesFirst : Version → List ℕ → ImageRefusal → Type 0
NamesFirst version bytes (Damaged offset found against) =
    damage_of (checks_of version bytes)
    ≡ Some record { offset = offset; found = found; against = against }
NamesFirst version bytes NoMemory = ⊥

-- so does a refusal of a reading, unless memory lacked
abbrev pub NamesDamage : List ℕ → ImageRefusal → Type 0
NamesDamage bytes (Damaged offset found against) =
    NamesFirst Present bytes (Damaged offset found against)
NamesDamage bytes NoMemory = Unit {0}
