-- A checkpoint as the contracts of its calls see it.
use Rattle.std.specs.Prelude.{ℕ, Bool, List, ◌∷◌, map}
use Rattle.cfs_pmem.specs.Images.{Seen, WordStep}
use Rattle.cfs_ckpt.specs.declared.checkpoint.Checkpoint.{Checkpoint}

-- its regions: the selector, and then the two copies
abbrev pub seens_of : {R : Type 0} {g : _} → (R → Seen WordStep) → Checkpoint R g
    → List (Seen WordStep)
seens_of see checkpoint = see checkpoint.selector ∷ map see checkpoint.tables.items

-- the faults that each of them has counted
abbrev pub faults_of : {R : Type 0} {g : _} → (R → ℕ) → Checkpoint R g → List ℕ
faults_of faults checkpoint = faults checkpoint.selector ∷ map faults checkpoint.tables.items

abbrev pub selector_of : {R : Type 0} {g : _} → Checkpoint R g → R
selector_of checkpoint = checkpoint.selector

abbrev pub tables_of : {R : Type 0} {g : _} → Checkpoint R g → List R
tables_of checkpoint = checkpoint.tables.items

-- the selector's word as it now stands
abbrev pub word_of : {R : Type 0} {g : _} → Checkpoint R g → ℕ
word_of checkpoint = checkpoint.word

-- whether a fault left the selector in doubt
abbrev pub unsure_of : {R : Type 0} {g : _} → Checkpoint R g → Bool
unsure_of checkpoint = checkpoint.unsure
