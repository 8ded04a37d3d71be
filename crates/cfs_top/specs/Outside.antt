-- How a call of the program ends: after which words and input, with which status and output.
use Rattle.std.specs.Prelude.{◌≡◌, ◌⊎◌, ◌≤◌, ℕ, List, [], ◌++◌, length, IsTrue, IsFalse, Some, None}
use Rattle.std.specs.declared.option.Option.{Option}
use Rattle.std.specs.Io.KnownBytes.{Appends, Consumes, IsAtEnd}
use Rattle.cfs_file.specs.declared.entry.Entry.{Entry}
use Rattle.cfs_io.specs.declared.script.TheConstants.{LONGEST_SCRIPT}
use Rattle.cfs_pmem.specs.Faults.{Rose}
use Rattle.cfs_dump.specs.Dumped.{dumped}
use Rattle.cfs_fsck.specs.Images.{image_checks, image_words}
use Rattle.cfs_fsck.specs.Reports.{report_of}
use Rattle.cfs_image.specs.declared.refusal.ImageRefusal.{ImageRefusal}
use Rattle.cfs_image.specs.declared.refusal.ImageRefusal.TheVariants as refusals
use Rattle.cfs_image.specs.declared.version.Version.TheVariants.{First}
use Rattle.cfs_image.specs.Checks.{Check, Damage, checks_of, damage_of}
use Rattle.cfs_image.specs.Fresh.{new_image_of}
use Rattle.cfs_move.specs.Upgraded.{upgraded}
use Rattle.cfs_io.specs.Files.{Files, Finds, Misses, OthersKept, Saved}
use Rattle.cfs_io.specs.Streams.{AppendsFront, MoreCame, SomeCame}
use Rattle.cfs_script.specs.declared.command.Command.TheVariants as commands
use Rattle.cfs_script.specs.declared.line.Line.{Line}
use Rattle.cfs_script.specs.Script.{IsScript, IsNoScript}
use Rattle.cfs_top.specs.declared.out_line.OutLine.{OutLine}
use Rattle.cfs_top.specs.declared.status.Status.{Status}
use Rattle.cfs_top.specs.declared.status.Status.TheVariants.{Done, Usage, Script, Image, Input}
use Rattle.cfs_top.specs.declared.status.Status.TheVariants.{Output, Shelf, NoMemory, Absent, NoFile}
use Rattle.cfs_top.specs.Command.{IsCheck, IsDump, IsMkfs, IsPlay, IsUpgrade}
use Rattle.cfs_top.specs.Order.{KeepsOrder}
use Rattle.cfs_top.specs.Play.{Run}
use Rattle.cfs_top.specs.Stage.{are_served}
use Rattle.cfs_top.specs.Text.{absent_text, damaged_text, no_file_text, refused_text, report_text}
use Rattle.cfs_top.specs.Text.{texts, usage_text}

-- what is told of a shelf at one moment: its files, and how many loads and saves have met a fault
pub record Shelved : Type 0 where
  pub files : Option Files
  pub loads : ℕ
  pub saves : ℕ

-- what is told of the outside at one moment: the bytes that the source has left, the bytes that the
-- sink has, the shelf
pub record Outside : Type 0 where
  pub left : Option (List ℕ)
  pub written : Option (List ℕ)
  pub shelf : Shelved

-- The source was read to its end, its bytes are a script and no more than one may have, and the
-- text is all that its lines answer, one after another from an empty file on.
pub record PlaysScript (left rest : Option (List ℕ)) (text : List ℕ) : Type 0 where
  pub bytes : List ℕ
  pub came : Consumes left rest bytes
  pub short : length bytes ≤ LONGEST_SCRIPT
  pub end : IsAtEnd rest
  pub lines : List Line
  pub script : IsScript commands.Play bytes lines
  pub served : IsTrue (are_served 0 lines)
  pub outs : List OutLine
  pub log : List Entry
  pub run : Run [] lines outs log
  pub order : KeepsOrder lines outs log
  pub is_text : text ≡ texts outs

-- The source was read to its end, and its bytes are no script, though no more than one may have.
pub record IsNone (left rest : Option (List ℕ)) : Type 0 where
  pub bytes : List ℕ
  pub came : Consumes left rest bytes
  pub short : length bytes ≤ LONGEST_SCRIPT
  pub end : IsAtEnd rest
  pub none : IsNoScript commands.Play bytes

-- The source was read to its end, and its bytes are a script that the program does not serve yet.
pub record IsUnserved (left rest : Option (List ℕ)) : Type 0 where
  pub bytes : List ℕ
  pub came : Consumes left rest bytes
  pub short : length bytes ≤ LONGEST_SCRIPT
  pub end : IsAtEnd rest
  pub lines : List Line
  pub script : IsScript commands.Play bytes lines
  pub unserved : IsFalse (are_served 0 lines)

-- more bytes came than a script may have, or what came is no script, or one that is not served yet
abbrev pub IsRefused : Option (List ℕ) → Option (List ℕ) → Type 0
IsRefused left rest = MoreCame left rest LONGEST_SCRIPT ⊎ (IsNone left rest ⊎ IsUnserved left rest)

-- the status that `play` is to end with, and the text that it is to write
abbrev pub PlayIsDue : Option (List ℕ) → Option (List ℕ) → Status → List ℕ → Type 0
PlayIsDue left rest Done text = PlaysScript left rest text
PlayIsDue left rest Script text = IsRefused left rest × (text ≡ refused_text)
PlayIsDue left rest other text = ⊥

-- what is due where an image can't be loaded
abbrev pub LoadIsDue : Option Files → List ℕ → Status → List ℕ → Type 0
LoadIsDue files image Absent text = Misses files image × (text ≡ absent_text)
LoadIsDue files image other text = ⊥

-- there is a file of this name, and the text says which of these checks of it is the first that
-- fails
pub record IsDamaged (checks : List ℕ → List Check) (files : Option Files)
    (image text : List ℕ) : Type 0 where
  pub bytes : List ℕ
  pub found : Finds files image bytes
  pub damage : Damage
  pub first : damage_of (checks bytes) ≡ Some damage
  pub is_text : text ≡ damaged_text damage

-- the checks of an image of version 1: those of its length and header, and then all of the image
-- that it becomes
unfoldable pub upgrade_checks : List ℕ → List Check
upgrade_checks bytes = checks_of First bytes ++ image_checks (upgraded bytes)

-- there is a file of this name, an image of version 1 that passes its checks
pub record IsOldImage (files : Option Files) (image bytes : List ℕ) : Type 0 where
  pub found : Finds files image bytes
  pub sound : damage_of (upgrade_checks bytes) ≡ None

-- the status that `upgrade` of an image is to end with, and the text that it is to write
abbrev pub UpgradeIsDue : Option Files → List ℕ → Status → List ℕ → Type 0
UpgradeIsDue files image Done text = ((bytes : List ℕ) × IsOldImage files image bytes) × (text ≡ [])
UpgradeIsDue files image Image text = IsDamaged upgrade_checks files image text
UpgradeIsDue files image other text = LoadIsDue files image other text

-- there is a file of this name, an image that passes all checks, and the text says what it holds
pub record IsReported (files : Option Files) (image text : List ℕ) : Type 0 where
  pub bytes : List ℕ
  pub found : Finds files image bytes
  pub sound : damage_of (image_checks bytes) ≡ None
  pub is_text : text ≡ report_text (report_of (image_words bytes))

-- the status that `check` of an image is to end with, and the text that it is to write
abbrev pub CheckIsDue : Option Files → List ℕ → Status → List ℕ → Type 0
CheckIsDue files image Done text = IsReported files image text
CheckIsDue files image Image text = IsDamaged image_checks files image text
CheckIsDue files image other text = LoadIsDue files image other text

-- there is a file of this name, an image that passes all checks, and this is the file at a path of
-- its tree
pub record IsFound (files : Option Files) (image : List ℕ) (path : List (List ℕ))
    (file : Option (List ℕ)) : Type 0 where
  pub bytes : List ℕ
  pub found : Finds files image bytes
  pub sound : damage_of (image_checks bytes) ≡ None
  pub is_file : file ≡ dumped bytes path

-- the status that `dump` of a path in an image is to end with, and the text that it is to write: the
-- file's bytes
abbrev pub DumpIsDue : Option Files → List ℕ → List (List ℕ) → Status → List ℕ → Type 0
DumpIsDue files image path Done text = IsFound files image path (Some text)
DumpIsDue files image path NoFile text = IsFound files image path None × (text ≡ no_file_text)
DumpIsDue files image path Image text = IsDamaged image_checks files image text
DumpIsDue files image path other text = LoadIsDue files image other text

-- the words are `play` of some image
abbrev pub ArePlay : List (List ℕ) → Type 0
ArePlay words = (image : List ℕ) × IsPlay words image

-- the words are `mkfs` of some image
abbrev pub AreMkfs : List (List ℕ) → Type 0
AreMkfs words =
    (image : List ℕ) × ((blocks : ℕ) × ((queues : ℕ) × IsMkfs words image blocks queues))

-- the words are `upgrade` of some image
abbrev pub AreUpgrade : List (List ℕ) → Type 0
AreUpgrade words = (image : List ℕ) × ((new : List ℕ) × IsUpgrade words image new)

-- the words are `check` of some image
abbrev pub AreCheck : List (List ℕ) → Type 0
AreCheck words = (image : List ℕ) × IsCheck words image

-- the words are `dump` of a path in some image
abbrev pub AreDump : List (List ℕ) → Type 0
AreDump words = (image : List ℕ) × ((path : List (List ℕ)) × IsDump words image path)

-- the words are no command that saves
abbrev pub SaveNone : List (List ℕ) → Type 0
SaveNone words = (AreMkfs words → ⊥) × (AreUpgrade words → ⊥)

-- the words are no command
abbrev pub AreNone : List (List ℕ) → Type 0
AreNone words =
    (ArePlay words → ⊥) × (AreCheck words → ⊥) × (AreDump words → ⊥) × SaveNone words

-- the words are `upgrade` of an image, and this is due of it
abbrev pub IsDueOfUpgrade : List (List ℕ) → Option Files → Status → List ℕ → Type 0
IsDueOfUpgrade words files status text = (image : List ℕ)
    × ((new : List ℕ) × (IsUpgrade words image new × UpgradeIsDue files image status text))

-- the words are `check` of an image, and this is due of it
abbrev pub IsDueOfCheck : List (List ℕ) → Option Files → Status → List ℕ → Type 0
IsDueOfCheck words files status text =
    (image : List ℕ) × (IsCheck words image × CheckIsDue files image status text)

-- the words are `dump` of a path in an image, and this is due of it
abbrev pub IsDueOfDump : List (List ℕ) → Option Files → Status → List ℕ → Type 0
IsDueOfDump words files status text = (image : List ℕ) × ((path : List (List ℕ))
    × (IsDump words image path × DumpIsDue files image path status text))

-- The status that the call is to end with, and the text that it is to write: `mkfs` writes none.
abbrev pub IsDue : List (List ℕ) → Option Files → Option (List ℕ) → Option (List ℕ) → Status
    → List ℕ → Type 0
IsDue words files left rest status text =
    (ArePlay words × PlayIsDue left rest status text)
    ⊎ ((AreMkfs words × (status ≡ Done) × (text ≡ []))
    ⊎ (IsDueOfUpgrade words files status text
    ⊎ (IsDueOfCheck words files status text
    ⊎ (IsDueOfDump words files status text
    ⊎ (AreNone words × (status ≡ Usage) × (text ≡ usage_text))))))

-- some front of a text that is due was written
pub record WritesFront (due : Status → List ℕ → Type 0)
    (before after : Option (List ℕ)) : Type 0 where
  pub status : Status
  pub text : List ℕ
  pub is_due : due status text
  pub written : AppendsFront before after text

-- the text that is due with this status was written
pub record WritesAll (due : Status → List ℕ → Type 0) (status : Status)
    (before after : Option (List ℕ)) : Type 0 where
  pub text : List ℕ
  pub is_due : due status text
  pub written : Appends before after text

-- what was written, by the status
abbrev pub Writes : (Status → List ℕ → Type 0) → Status → Option (List ℕ) → Option (List ℕ)
    → Type 0
Writes due Input before after = after ≡ before
Writes due Output before after = WritesFront due before after
Writes due Shelf before after = after ≡ before
Writes due NoMemory before after = (after ≡ before) ⊎ WritesFront due before after
Writes due other before after = WritesAll due other before after

-- `mkfs` is to save these bytes under this name: the image of a new store
abbrev pub IsNew : List (List ℕ) → List ℕ → List ℕ → Type 0
IsNew words name bytes = (blocks : ℕ)
    × ((queues : ℕ) × (IsMkfs words name blocks queues × (bytes ≡ new_image_of blocks queues)))

-- `upgrade` is to: what the image that is there becomes
abbrev pub IsUpgraded : List (List ℕ) → Option Files → List ℕ → List ℕ → Type 0
IsUpgraded words files name bytes = (image : List ℕ) × ((old : List ℕ)
    × (IsUpgrade words image name × (IsOldImage files image old × (bytes ≡ upgraded old))))

-- the bytes that are to be saved under a name stand there, and nothing else changed
pub record Saves (words : List (List ℕ)) (old new : Option Files) : Type 0 where
  pub name : List ℕ
  pub bytes : List ℕ
  pub are : IsNew words name bytes ⊎ IsUpgraded words old name bytes
  pub saved : Saved old new name bytes

-- a load of the shelf met a fault, and each file is as it was
pub record LoadFails (before after : Shelved) : Type 0 where
  pub rose : Rose before.loads after.loads
  pub saves : after.saves ≡ before.saves
  pub files : after.files ≡ before.files

-- a save under this name met a fault, and each file of another name is as it was
pub record SaveFails (name : List ℕ) (before after : Shelved) : Type 0 where
  pub rose : Rose before.saves after.saves
  pub loads : after.loads ≡ before.loads
  pub others : OthersKept before.files after.files name

-- the bytes that were to be saved under a name met a fault
pub record FailsToSave (words : List (List ℕ)) (before after : Shelved) : Type 0 where
  pub name : List ℕ
  pub bytes : List ℕ
  pub are : IsNew words name bytes ⊎ IsUpgraded words before.files name bytes
  pub fails : SaveFails name before after

-- the words are a command that loads
abbrev pub DoLoad : List (List ℕ) → Type 0
DoLoad words = AreUpgrade words ⊎ (AreCheck words ⊎ AreDump words)

-- what became of the shelf
abbrev pub LeavesShelf : Status → List (List ℕ) → Shelved → Shelved → Type 0
LeavesShelf Done words before after =
    Saves words before.files after.files ⊎ (SaveNone words × (after.files ≡ before.files))
LeavesShelf Shelf words before after =
    (DoLoad words × LoadFails before after) ⊎ FailsToSave words before after
LeavesShelf other words before after = after.files ≡ before.files

-- A call with these words ended so: what it wrote is what is due, and the shelf is as the status
-- says. Only `play` reads the source.
pub record Ends (status : Status) (words : List (List ℕ)) (before after : Outside) : Type 0 where
  pub writes : Writes (IsDue words before.shelf.files before.left after.left) status
      before.written after.written
  pub asked : status ≡ Input → ArePlay words
  pub came : SomeCame before.left after.left
  pub unread : (ArePlay words → ⊥) → after.left ≡ before.left
  pub shelf : LeavesShelf status words before.shelf after.shelf

-- what became of the shelf by `mkfs`
abbrev pub Makes : Status → List ℕ → ℕ → ℕ → Shelved → Shelved → Type 0
Makes Done image blocks queues before after =
    Saved before.files after.files image (new_image_of blocks queues)
Makes Shelf image blocks queues before after = SaveFails image before after
Makes NoMemory image blocks queues before after = after.files ≡ before.files
Makes other image blocks queues before after = ⊥

-- what an image became under a new name
pub record Renews (image name : List ℕ) (old new : Option Files) : Type 0 where
  pub bytes : List ℕ
  pub is_old : IsOldImage old image bytes
  pub saved : Saved old new name (upgraded bytes)

-- it was to, and could not be saved
pub record FailsToRenew (image name : List ℕ) (before after : Shelved) : Type 0 where
  pub bytes : List ℕ
  pub is_old : IsOldImage before.files image bytes
  pub fails : SaveFails name before after

-- what became of the shelf by `upgrade`
abbrev pub Upgrades : Status → List ℕ → List ℕ → Shelved → Shelved → Type 0
Upgrades Done image name before after = Renews image name before.files after.files
Upgrades Usage image name before after = ⊥
Upgrades Script image name before after = ⊥
Upgrades Input image name before after = ⊥
Upgrades Shelf image name before after =
    LoadFails before after ⊎ FailsToRenew image name before after
Upgrades other image name before after = after.files ≡ before.files

-- what became of the shelf by a call that only loads
abbrev pub Loads : Status → Shelved → Shelved → Type 0
Loads Usage before after = ⊥
Loads Script before after = ⊥
Loads Input before after = ⊥
Loads Shelf before after = LoadFails before after
Loads other before after = after.files ≡ before.files

-- the call ended with the status that was due
abbrev pub IsHeeded : Status → Type 0
IsHeeded Input = ⊥
IsHeeded Output = ⊥
IsHeeded Shelf = ⊥
IsHeeded NoMemory = ⊥
IsHeeded other = Unit {0}

-- the text was written, which ends with this status, or a front of it, which ends with a fault
abbrev pub Says : Status → Status → List ℕ → Option (List ℕ) → Option (List ℕ) → Type 0
Says result status text before after =
    ((result ≡ status) × Appends before after text)
    ⊎ ((result ≡ Output) × AppendsFront before after text)

-- so it was, unless memory lacked for the text
abbrev pub MaySay : Status → Status → List ℕ → Option (List ℕ) → Option (List ℕ) → Type 0
MaySay result status text before after =
    ((result ≡ NoMemory) × (after ≡ before)) ⊎ Says result status text before after

-- why an image was refused: nothing is said where memory lacked for its checks
abbrev pub SaysWhy : ImageRefusal → Status → Option (List ℕ) → Option (List ℕ) → Type 0
SaysWhy (refusals.Damaged offset found against) result before after =
    MaySay result Image
    (damaged_text record { offset = offset; found = found; against = against }) before after
SaysWhy refusals.NoMemory result before after = (result ≡ NoMemory) × (after ≡ before)

-- the refusal names the damage of the first of these checks that fails, unless memory lacked
abbrev pub Names : List Check → ImageRefusal → Type 0
Names checks (refusals.Damaged offset found against) =
    damage_of checks ≡ Some record { offset = offset; found = found; against = against }
Names checks refusals.NoMemory = Unit {0}
