-- Until a change is admitted, a core that has nothing in doubt keeps its file, and every image
-- recovers it.
use Rattle.std.proofs.Common.{◌≡◌, true, false, not, Some, None, List, [], ◌∷◌, refl, ◌∙◌}
use Rattle.std.specs.List.{list_all}
use Rattle.std.proofs.lemmas.List.{append-nil}
use Rattle.cfs_file.proofs.Logs.{file_of-append}
use Rattle.cfs_core.specs.declared.event.Event.{Event}
use Rattle.cfs_core.specs.declared.event.Event.TheVariants as events
use Rattle.cfs_core.specs.declared.event.End.TheVariants as ends
use Rattle.cfs_core.specs.declared.event.SizeEnd.TheVariants as sizes
use Rattle.cfs_core.specs.declared.image.Image.{Image}
use Rattle.cfs_core.specs.declared.inode_core.Core.{Core}
use Rattle.cfs_core.specs.Medium.{file, image_now, is_image, recovered}
use Rattle.cfs_core.specs.May.{case, is_in_phase, is_next, is_query}
use Rattle.cfs_core.specs.After.{after}
use Rattle.cfs_core.specs.Opened.{is_admission}
use Rattle.cfs_core.specs.Run.{IsRun, after_all}
use Rattle.cfs_core.proofs.Apart.{not_true}
use Rattle.cfs_core.proofs.Images.{image_now-is}
use Rattle.cfs_core.proofs.Kept.{IsKept}
use Rattle.cfs_core.proofs.KeptRuns.{kept-after}
use Rattle.cfs_core.proofs.Legal.{both}
use Rattle.cfs_core.proofs.Recovers.{recovers}
use Rattle.cfs_core.proofs.Registers.{query-effect}

recovers-file : (core : Core) → IsKept core → core.doubt ≡ None → (image : Image) →
    is_image core image ≡ true → recovered core image ≡ file core
recovers-file core kept calm image h =
    recovers core kept image h ∙ rw (calm, append-nil core.log) refl

-- an event keeps the file, and leaves nothing in doubt
abbrev KeepsFile : Core → Event → Type 0
KeepsFile core event = ((after core event).doubt ≡ None) × (file (after core event) ≡ file core)

keeps-file : (core : Core) (event : Event) → IsKept core → core.doubt ≡ None →
    is_admission event ≡ false → case core event ≡ true → KeepsFile core event
keeps-file core (events.Tag block kept) k calm none h = (calm, refl)
keeps-file core (events.Admit entry grant kept) k calm none h = cc
keeps-file core (events.AdmitRead entry) k calm none h =
    let query = both (is_next core entry) (is_query entry.request) h in (
      calm,
      file_of-append core.base core.log (entry ∷ [])
          ∙ query-effect entry.request (file core) query.1,
    )
keeps-file core (events.Serve place answer) k calm none h = (calm, refl)
keeps-file core (events.Mark place by kept) k calm none h = (calm, refl)
keeps-file core (events.Dispatch place) k calm none h = (calm, refl)
keeps-file core (events.BlockWrite place block None) k calm none h = (calm, refl)
keeps-file core (events.BlockWrite place block (Some left)) k calm none h = (calm, refl)
keeps-file core (events.Flush place block true) k calm none h = (calm, refl)
keeps-file core (events.Flush place block false) k calm none h = (calm, refl)
keeps-file core (events.Finish place ends.Retired) k calm none h = (calm, refl)
keeps-file core (events.Finish place ends.More) k calm none h = (calm, refl)
keeps-file core (events.Finish place (ends.Back sizes.AsBefore gate applied)) k calm none h =
    (calm, refl)
keeps-file core (events.Finish place (ends.Back sizes.Set gate applied)) k calm none h =
    (calm, refl)
keeps-file core (events.Finish place (ends.Back sizes.Either gate applied)) k calm none h =
    (calm, refl)
keeps-file core (events.Skip place) k calm none h = (calm, refl)
keeps-file core (events.Trim block kept) k calm none h = (calm, refl)
keeps-file core events.Settle k calm none h = (refl, refl)
keeps-file core (events.Crash image) k calm none h = (rw calm refl, refl)
keeps-file core events.Mount k calm none h =
    (refl, recovers-file core k calm (image_now core) (image_now-is core))

-- every image on the way recovers the file of the first core
pub again : (core : Core) (steps : List Event) (left : Image) → IsKept core → core.doubt ≡ None →
    IsRun core steps → list_all (λ e. not (is_admission e)) steps ≡ true →
    is_image (after_all core steps) left ≡ true → recovered (after_all core steps) left ≡ file core
again core [] left kept calm run none h = recovers-file core kept calm left h
again core (event ∷ steps) left kept calm run none h =
    let allowed = both (is_in_phase core.crashed event) (case core event) run.0 in
    let quiet = both (not (is_admission event)) (list_all (λ e. not (is_admission e)) steps) none in
    let keeps = keeps-file core event kept calm (not_true (is_admission event) quiet.0) allowed.1 in
    again (after core event) steps left
    (kept-after core event kept allowed.1) keeps.0 run.1 quiet.1 h ∙ keeps.1
