-- Bytes cut into parts, and joined again.
use Rattle.std.specs.Prelude.{ℕ, ◌==◌, List, [], ◌∷◌, ◌++◌}
use Rattle.std.specs.List.{slice_split}

-- the parts between the separators; bytes without one are one part
abbrev pub parts_of : ℕ → List ℕ → List (List ℕ)
parts_of separator bytes = slice_split (λ b. b == separator) bytes

-- the words of a line: one space stands between two words
abbrev pub words_of : List ℕ → List (List ℕ)
words_of line = parts_of 32 line

-- each part behind a separator
abbrev pub behind : ℕ → List (List ℕ) → List ℕ
behind separator [] = []
behind separator (part ∷ parts) = separator ∷ (part ++ behind separator parts)

-- the parts with a separator between each two
abbrev pub joined : ℕ → List (List ℕ) → List ℕ
joined separator [] = []
joined separator (part ∷ parts) = part ++ behind separator parts
