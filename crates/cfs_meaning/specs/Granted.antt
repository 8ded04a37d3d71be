-- The grants of open descriptors.
use Rattle.std.specs.Prelude.{◌≡◌, ℕ, List, [], ◌∷◌, Option, Some}
use Rattle.cfs_grants.specs.declared.grant.Grant.{Grant}
use Rattle.cfs_grants.specs.Grants.{grant_at}
use Rattle.cfs_script.specs.declared.line.Line.{Line}
use Rattle.cfs_print.specs.declared.out_line.OutLine.{OutLine}
use Rattle.cfs_meaning.specs.Drive.{Drive}
use Rattle.cfs_meaning.specs.World.{Caller, Descriptor, World}
use Rattle.cfs_meaning.specs.Mounting.{mounted_world}
use Rattle.cfs_meaning.specs.Play.{Run}

-- P holds of the number and the grant of each descriptor
abbrev pub OfEach : (ℕ → Grant → Type 0) → List Descriptor → Type 0
OfEach P [] = Unit {0}
OfEach P (d ∷ opened) = P d.fd d.grant × OfEach P opened

-- and so of all callers, where P holds of the caller's number too
abbrev pub OfEachOpen : (ℕ → ℕ → Grant → Type 0) → List Caller → Type 0
OfEachOpen P [] = Unit {0}
OfEachOpen P (x ∷ callers) = OfEach (P x.number) x.descriptors × OfEachOpen P callers

-- A descriptor's grant stands in the table at its queue, and is its caller's. No second descriptor
-- has the queue: that of each queue has one number.
pub record IsGranted (table : List (Option Grant)) (number_at : ℕ → ℕ) (c fd : ℕ)
    (grant : Grant) : Type 0 where
  pub stands : grant_at table grant.queue ≡ Some grant
  pub own : grant.caller ≡ c
  pub only : fd ≡ number_at grant.queue

abbrev pub AreGranted : World → Type 0
AreGranted world =
    (number_at : ℕ → ℕ) × OfEachOpen (IsGranted world.names.now.grants number_at) world.callers

-- So it is where a mount left a store, and at the end of every run, crashes and mounts among its
-- lines.
abbrev pub OpenFilesAreGranted : Type 0
OpenFilesAreGranted =
    ((callers : List Caller) (drive : Drive) → AreGranted (mounted_world callers drive))
    × ((old new : World) (lines : List Line) (outs : List OutLine) → Run old lines outs new →
    AreGranted old → AreGranted new)
