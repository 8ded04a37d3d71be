-- What a save that was refused leaves, and why it was refused.
use Rattle.std.specs.Prelude.{◌≡◌, ℕ, ◌+◌, ◌++◌, ◌<◌, List, [], ◌∷◌, ⊤, IfSome, IsSome}
use Rattle.std.specs.declared.option.Option.{Option}
use Rattle.std.specs.FinMap.{get}
use Rattle.cfs_pmem.specs.Faults.{Rose}
use Rattle.cfs_io.specs.declared.save_refusal.SaveRefusal.{SaveRefusal}
use Rattle.cfs_io.specs.declared.save_refusal.SaveRefusal.TheVariants.{NamesTaken, NoMemory, Unchanged, LeftBeside, NotDurable}
use Rattle.cfs_io.specs.Files.{Files}
use Rattle.cfs_io.specs.Folder.{HasOneBeside, Put}

-- what a refusal leaves of the files
abbrev pub LeftBy : SaveRefusal → Option Files → Option Files → List ℕ → List ℕ → Type 0
LeftBy NamesTaken old new name bytes = new ≡ old
LeftBy NoMemory old new name bytes = new ≡ old
LeftBy Unchanged old new name bytes = new ≡ old
LeftBy LeftBeside old new name bytes = HasOneBeside old new
LeftBy NotDurable old new name bytes = Put old new name bytes

-- the names that a save of this name tries for its new file
abbrev pub name_beside : List ℕ → ℕ → List ℕ
name_beside name number = name ++ (126 ∷ (48 + number) ∷ [])

-- there is a file of this name
abbrev pub Stands : Option Files → List ℕ → Type 0
Stands files name = IfSome files (λ m. IsSome (get m name))

-- why a save of this name is refused, with the folder's count of faults before and after it
abbrev pub CauseOf : SaveRefusal → Option Files → List ℕ → ℕ → ℕ → Type 0
CauseOf NamesTaken old name before now =
    (number : ℕ) → number < 10 → Stands old (name_beside name number)
CauseOf NoMemory old name before now = ⊤
CauseOf Unchanged old name before now = Rose before now
CauseOf LeftBeside old name before now = Rose before now
CauseOf NotDurable old name before now = Rose before now
