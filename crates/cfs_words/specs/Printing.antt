-- Words behind a text.
use Rattle.std.specs.Prelude.{◌≡◌, ℕ, List, ◌++◌}
use Rattle.cfs_words.specs.Parts.{behind}

-- the words were added, each behind a space
abbrev pub Adds : List ℕ → List ℕ → List (List ℕ) → Type 0
Adds old new words = new ≡ old ++ behind 32 words
