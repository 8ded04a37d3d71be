-- Which image of version 1 is refused.
use Rattle.std.specs.Prelude.{ℕ, List}
use Rattle.cfs_image.specs.declared.refusal.ImageRefusal.{ImageRefusal}
use Rattle.cfs_image.specs.declared.refusal.ImageRefusal.TheVariants.{Damaged, NoMemory}
use Rattle.cfs_image.specs.declared.version.Version.TheVariants.{First}
use Rattle.cfs_image.specs.Checks.{IsSoundIn, NamesFirst}

-- every check of version 1 holds
abbrev pub IsOldSound : List ℕ → Type 0
IsOldSound bytes = IsSoundIn First bytes

-- The refusal names the damage of the first check of version 1 that fails. Want of memory comes
-- where all hold.
abbrev pub NamesOldDamage : List ℕ → ImageRefusal → Type 0
NamesOldDamage bytes (Damaged offset found against) =
    NamesFirst First bytes (Damaged offset found against)
NamesOldDamage bytes NoMemory = IsOldSound bytes
