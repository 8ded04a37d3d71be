-- What is known of all parts of the lines of one number: of ways and events, and of requests on
-- names.
use Rattle.std.proofs.Common.{◌≡◌, ℕ, List}
use Rattle.cfs_core.specs.declared.event.Event.{Event}
use Rattle.cfs_core.specs.declared.event.Event.TheVariants as events
use Rattle.cfs_requests.specs.Steps.{NameRequest}
use Rattle.cfs_meaning.specs.World.{Descriptor, World, with_descriptors}
use Rattle.cfs_meaning.specs.Names.{ask}
use Rattle.cfs_meaning.specs.Inode.{event, run_job, skip}
use Rattle.cfs_meaning.specs.Files.{Defers, Helps}
use Rattle.cfs_meaning.specs.Ways.{Changes, Way}
use Rattle.cfs_meaning.proofs.Keeping.{Any, Base, IsQuiet, Keeps}

-- an entry that is admitted comes from the line, and no crash comes to a core
abbrev pub IsOfLine : ℕ → Event → Type 0
IsOfLine line (events.Admit entry grant kept) = entry.line ≡ line
IsOfLine line (events.AdmitRead entry) = entry.line ≡ line
IsOfLine line (events.Crash image) = ⊥
IsOfLine line events.Mount = ⊥
IsOfLine line other = Unit {0}

-- Beside what is known of ways: of events that may come, of an entry that is helped where its
-- no-ops are skipped and its jobs are done, and of what a read defers.
pub record Law : Type 1 where
  pub base : Base
  pub line : ℕ
  pub comes : (ino : ℕ) (e : Event) → IsOfLine line e → base.Means Any (event ino e)
  pub helps : (ino : ℕ) → ((place : ℕ) → base.Means Any (skip ino place)) →
      ((place : ℕ) → base.Means Any (run_job ino place)) →
      (place : ℕ) → base.Means Any (Helps ino place)
  pub defers : (ino place : ℕ) (way : Way (List ℕ)) (move : World → World) → base.Means Any way →
      ((world : World) → IsQuiet world (move world)) → base.Means Any (Defers ino place way move)

-- Beside that, of requests on names, and of descriptors that are opened.
pub record Requests (law : Law) : Type 0 where
  pub asks : (c : ℕ) (request : NameRequest) → law.base.Means Any (ask c law.line request)
  pub opens : (c : ℕ) (change : List Descriptor → List Descriptor) →
      law.base.Means Any (Changes (with_descriptors c change))

pub keep-event : (law : Law) {ino : ℕ} {e : Event} → IsOfLine law.line e →
    Keeps law.base Any (event ino e)
keep-event law {ino} {e} own = record { means = law.comes ino e own }
