-- Each event keeps the invariant, so that every core of a run has it.
use Rattle.std.proofs.Common.{◌≡◌, Bool, true, false, Option, Some, None, List, [], ◌∷◌, ◌++◌, length, take, arith, refl}
use Rattle.std.proofs.lemmas.List.{append-nil, take_all}
use Rattle.cfs_file.specs.File.{IsFile}
use Rattle.cfs_file.specs.Log.{IsLegal, file_of}
use Rattle.cfs_file.proofs.Logs.{IsLegal-none, file_of-append}
use Rattle.cfs_core.specs.declared.doubt.Doubt.{Doubt}
use Rattle.cfs_core.specs.declared.event.Event.{Event}
use Rattle.cfs_core.specs.declared.event.Event.TheVariants as events
use Rattle.cfs_core.specs.declared.inode_core.Core.{Core}
use Rattle.cfs_core.specs.Fresh.{IsFresh}
use Rattle.cfs_core.specs.Medium.{file, image_now, in_doubt, recovered}
use Rattle.cfs_core.specs.May.{case, is_in_phase}
use Rattle.cfs_core.specs.After.{after}
use Rattle.cfs_core.specs.Run.{IsRun, after_all}
use Rattle.cfs_core.specs.Good.{IsGood}
use Rattle.cfs_core.proofs.Alive.{sound-after}
use Rattle.cfs_core.proofs.Apart.{apart-after}
use Rattle.cfs_core.proofs.Freshly.{kept-fresh}
use Rattle.cfs_core.proofs.Goods.{good-kept}
use Rattle.cfs_core.proofs.Images.{image_now-is}
use Rattle.cfs_core.proofs.Kept.{IsDoubtful, IsKept}
use Rattle.cfs_core.proofs.Legal.{both, legal-after}
use Rattle.cfs_core.proofs.Logged.{blocks-after, logged-after}
use Rattle.cfs_core.proofs.Order.{ordered-after}
use Rattle.cfs_core.proofs.Recovers.{recovers}
use Rattle.cfs_core.proofs.Stored.{stored-after}

-- ---- the file that a mount finds is a file

file-fits : (core : Core) → IsKept core → IsFile (file core)
file-fits core kept =
    let all : take (length core.log) core.log ≡ core.log =
    take_all (length core.log) core.log (omega arith) in
    rw all at (kept.legal.files (length core.log) (omega arith))

doubt-fits : (core : Core) (o : Option Doubt) (gate : Bool) →
    ((doubt : Doubt) → o ≡ Some doubt → IsDoubtful core doubt) → IsFile (file core) →
    IsFile (file_of core.base (core.log ++ in_doubt o gate))
doubt-fits core None gate doubtful fits = rw (append-nil core.log) fits
doubt-fits core (Some doubt) false doubtful fits = rw (append-nil core.log) fits
doubt-fits core (Some doubt) true doubtful fits =
    rw (file_of-append core.base core.log (doubt.entry ∷ [])) (doubtful doubt refl).fits

pub mount-fits : (core : Core) → IsKept core → IsFile (recovered core (image_now core))
mount-fits core kept =
    rw (recovers core kept (image_now core) (image_now-is core))
    (doubt-fits core core.doubt (image_now core).doubt kept.logged.doubtful (file-fits core kept))

-- ---- each event

legal-kept : (core : Core) (event : Event) → IsKept core → case core event ≡ true →
    IsLegal (after core event).base (after core event).log []
legal-kept core (events.Tag block kept) k h =
    legal-after core (events.Tag block kept) k.legal h refl
legal-kept core (events.Admit entry grant kept) k h =
    legal-after core (events.Admit entry grant kept) k.legal h refl
legal-kept core (events.AdmitRead entry) k h =
    legal-after core (events.AdmitRead entry) k.legal h refl
legal-kept core (events.Serve place answer) k h =
    legal-after core (events.Serve place answer) k.legal h refl
legal-kept core (events.Mark place by kept) k h =
    legal-after core (events.Mark place by kept) k.legal h refl
legal-kept core (events.Dispatch place) k h =
    legal-after core (events.Dispatch place) k.legal h refl
legal-kept core (events.BlockWrite place block left) k h =
    legal-after core (events.BlockWrite place block left) k.legal h refl
legal-kept core (events.Flush place block ok) k h =
    legal-after core (events.Flush place block ok) k.legal h refl
legal-kept core (events.Finish place end) k h =
    legal-after core (events.Finish place end) k.legal h refl
legal-kept core (events.Skip place) k h = legal-after core (events.Skip place) k.legal h refl
legal-kept core (events.Trim block kept) k h =
    legal-after core (events.Trim block kept) k.legal h refl
legal-kept core events.Settle k h = legal-after core events.Settle k.legal h refl
legal-kept core (events.Crash image) k h = legal-after core (events.Crash image) k.legal h refl
legal-kept core events.Mount k h =
    IsLegal-none (recovered core (image_now core)) (mount-fits core k)

pub kept-after : (core : Core) (event : Event) → IsKept core → case core event ≡ true →
    IsKept (after core event)
kept-after core event kept h = record {
  legal = legal-kept core event kept h;
  blocks = blocks-after core event kept h;
  ordered = ordered-after core event kept.ordered h;
  sound = sound-after core event kept.sound h;
  apart = apart-after core event kept.apart h;
  logged = logged-after core event kept h;
  stored_ = stored-after core event kept h;
}

pub kept-run : (core : Core) (list : List Event) → IsKept core → IsRun core list →
    IsKept (after_all core list)
kept-run core [] kept run = kept
kept-run core (event ∷ list) kept run =
    let allowed = both (is_in_phase core.crashed event) (case core event) run.0 in
    kept-run (after core event) list (kept-after core event kept allowed.1) run.1

-- from a fresh core
pub kept-all : (core : Core) (list : List Event) → IsFresh core → IsRun core list →
    IsKept (after_all core list)
kept-all core list fresh run = kept-run core list (kept-fresh core fresh) run

pub runs-are-good : (core : Core) (list : List Event) → IsFresh core → IsRun core list →
    IsGood (after_all core list)
runs-are-good core list fresh run = good-kept (after_all core list) (kept-all core list fresh run)
