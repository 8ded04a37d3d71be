-- What a folder in memory holds, and which of its steps are to fail.
use Rattle.std.specs.Prelude.{◌≡◌, ◌⊎◌, ℕ, List}
use Rattle.std.specs.declared.option.Option.{Option}
use Rattle.std.specs.FinMap.{get}
use Rattle.cfs_io.specs.declared.mem_folder.MemFolder.{MemFolder}
use Rattle.cfs_io.specs.Files.{Files, files_of}

-- the files, as reads give them
abbrev pub folder_files : MemFolder → Files
folder_files folder = files_of folder.files.items

-- the bytes that are sure of each file, by its name
abbrev pub sure_files : MemFolder → Files
sure_files folder = files_of folder.sure.items

-- the files that stand under their names for sure
abbrev pub kept_files : MemFolder → Files
kept_files folder = files_of folder.kept.items

-- how many steps were made
abbrev pub folder_steps : MemFolder → ℕ
folder_steps folder = folder.calls.made

-- the numbers of the steps that are to fail
abbrev pub failing_steps : MemFolder → List ℕ
failing_steps folder = folder.calls.failing.items

-- what is sure of the file of this name is all of it
abbrev pub AreSure : MemFolder → List ℕ → Type 0
AreSure folder name = get (sure_files folder) name ≡ get (folder_files folder) name

-- a cut may leave what stands under a name for sure, or the file that stands there now: all of it
-- where it is sure
abbrev pub CutLeaves : MemFolder → List ℕ → Option (List ℕ) → Type 0
CutLeaves folder name left =
    (left ≡ get (kept_files folder) name)
    ⊎ (AreSure folder name → left ≡ get (folder_files folder) name)
