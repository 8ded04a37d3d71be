-- Cells that have a value each.
use Rattle.std.specs.Prelude.{◌≡◌, Option, Some, None, List, [], ◌∷◌, length}

-- the values that stand in cells
abbrev pub somes : {T : Type 0} → List (Option T) → List T
somes [] = []
somes (None ∷ cells) = somes cells
somes (Some x ∷ cells) = x ∷ somes cells

-- each cell has a value
abbrev pub AreFull : {T : Type 0} → List (Option T) → Type 0
AreFull cells = length (somes cells) ≡ length cells
