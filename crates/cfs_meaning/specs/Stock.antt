-- What is known of the blocks of a store beside what its devices show.
use Rattle.std.specs.Prelude.{◌≡◌, ◌≢◌, ℕ, ◌<◌, List, [], ◌∷◌, length}
use Rattle.cfs_script.specs.declared.form.Form.TheVariants as forms
use Rattle.cfs_script.specs.declared.line.Line.{Line}
use Rattle.cfs_print.specs.declared.out_line.OutLine.{OutLine}
use Rattle.cfs_meaning.specs.Drive.{Drive, content_at}
use Rattle.cfs_meaning.specs.World.{Caller, Up, World}
use Rattle.cfs_meaning.specs.Mounting.{mounted_world}
use Rattle.cfs_meaning.specs.Devices.{IsShown, NoneHasEnded, OfEachFile}
use Rattle.cfs_meaning.specs.Laws.{AreReached, HaveNoMount}
use Rattle.cfs_meaning.specs.Home.{new_drive}
use Rattle.cfs_meaning.specs.Play.{Run, Step}

-- no other pair has this file block
abbrev pub IsOnlyAt : ℕ → List (ℕ × ℕ) → Type 0
IsOnlyAt k [] = Unit {0}
IsOnlyAt k (x ∷ blocks) = (x.0 ≢ k) × IsOnlyAt k blocks

-- a file block has one block
abbrev pub HaveOwnKeys : List (ℕ × ℕ) → Type 0
HaveOwnKeys [] = Unit {0}
HaveOwnKeys (x ∷ blocks) = IsOnlyAt x.0 blocks × HaveOwnKeys blocks

-- so of each file
abbrev pub AreMappedOnce : World → Type 0
AreMappedOnce world = OfEachFile (λ f. HaveOwnKeys f.blocks) world.files

-- Each line but a mount keeps that, whatever fails.
abbrev pub RunsKeepMapped : Type 0
RunsKeepMapped =
    (old new : World) (lines : List Line) (outs : List OutLine) → HaveNoMount lines →
    Run old lines outs new → AreMappedOnce old → AreMappedOnce new

-- two blocks with one tag are one, or free
abbrev pub TagsAreApart : Drive → Type 0
TagsAreApart drive =
    (one other : ℕ) → one < length drive.blocks → other < length drive.blocks →
    (content_at drive one).tag ≢ 0 → (content_at drive one).tag ≡ (content_at drive other).tag →
    one ≡ other

-- So it is where such devices are mounted, as those of a new store are.
abbrev pub MountsMapOnce : Type 0
MountsMapOnce =
    ((callers : List Caller) (drive : Drive) → TagsAreApart drive →
    AreMappedOnce (mounted_world callers drive))
    × ((blocks queues : ℕ) → TagsAreApart (new_drive blocks queues))

-- A close keeps a mounted world shown where no core has ended: whatever it helps, and whatever of
-- the removed files that it purges is done or refused.
abbrev pub ClosesKeepShown : Type 0
ClosesKeepShown =
    (old new : World) (line : Line) (out : List OutLine) (c fd : ℕ) →
    line.form ≡ forms.Close c fd → old.phase ≡ Up → NoneHasEnded old → AreMappedOnce old →
    AreReached old → IsShown old → Step line old out new → IsShown new
