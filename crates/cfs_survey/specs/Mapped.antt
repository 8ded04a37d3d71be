-- A map from the tags of files to the blocks that have them.
use Rattle.std.specs.Prelude.{ℕ, ◌≡◌, ◌/◌, true, List, nat_eq}
use Rattle.std.specs.HashMap.{get, HashMap}
use Rattle.std.specs.declared.hash.FoldHasher.{FoldHasher}
use Rattle.std.specs.declared.hash.BuildHasherDefault.{BuildHasherDefault}
use Rattle.cfs_dir.specs.declared.node.Node.{Node}
use Rattle.cfs_survey.specs.Tags.{block_of, is_file}

abbrev pub BlockMap : Type 0
BlockMap = HashMap ℕ ℕ (BuildHasherDefault FoldHasher)

-- it finds the lowest of the first n blocks that has the tag
abbrev pub IsBlockMap : List Node → List ℕ → ℕ → BlockMap → Type 0
IsBlockMap nodes tags n blocks =
    (tag : ℕ) → is_file nodes (tag / 65536) ≡ true → get nat_eq blocks tag ≡ block_of tags n tag
