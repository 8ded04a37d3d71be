-- Each size that the size word may have is that of a file, and each change ends within the longest
-- file.
use Rattle.std.proofs.Common.{◌≡◌, inl, inr, ℕ, suc, ◌-◌, ◌≤◌, ◌==◌, true, false, ◌||◌, Some, None, List, [], ◌∷◌, ◌++◌, length, arith, refl}
use Rattle.std.specs.List.{list_any}
use Rattle.cfs_file.specs.declared.request.Request.{Request}
use Rattle.cfs_file.specs.declared.span.Span.{Span}
use Rattle.cfs_file.specs.declared.span.Span.TheVariants.{Nothing, Range, From}
use Rattle.cfs_file.specs.declared.sizes.TheConstants.{LONGEST_FILE}
use Rattle.cfs_file.specs.File.{IsFile, effect}
use Rattle.cfs_file.specs.Span.{span}
use Rattle.cfs_file.proofs.Positions.{resized-resizes}
use Rattle.cfs_core.specs.declared.event.Event.{Event}
use Rattle.cfs_core.specs.declared.event.Event.TheVariants as events
use Rattle.cfs_core.specs.declared.event.End.{End}
use Rattle.cfs_core.specs.declared.event.End.TheVariants as ends
use Rattle.cfs_core.specs.declared.event.SizeEnd.TheVariants as sizes
use Rattle.cfs_core.specs.declared.inode_core.Core.{Core}
use Rattle.cfs_core.specs.Words.{is_out, payload_of, sized, track}
use Rattle.cfs_core.specs.Medium.{image_now, is_size, recovered}
use Rattle.cfs_core.specs.Fresh.{IsFresh}
use Rattle.cfs_core.specs.May.{case, ends_well, is_change, is_in_phase}
use Rattle.cfs_core.specs.After.{after}
use Rattle.cfs_core.specs.Run.{IsRun, after_all}
use Rattle.cfs_core.proofs.Alive.{out_lives}
use Rattle.cfs_core.proofs.Freshly.{kept-fresh, size-fresh}
use Rattle.cfs_core.proofs.Images.{size-allowed}
use Rattle.cfs_core.proofs.Kept.{IsChange, IsKept, at, file_at}
use Rattle.cfs_core.proofs.KeptRuns.{kept-after, mount-fits}
use Rattle.cfs_core.proofs.Legal.{both, or_right, same_number}
use Rattle.cfs_core.proofs.Order.{track_is}
use Rattle.cfs_core.proofs.Registers.{IsShaped, change-effect, change-entry, change-within, effect_by, file_at-next, shaped-request}
use Rattle.cfs_core.proofs.Sizes.{length-put}
use Rattle.cfs_core.proofs.StoredFinish.{any_more}
use Rattle.cfs_core.proofs.StoredFrames.{now_size, only_size, or_cases}

-- ---- spans

-- a file that an entry of the span made is short enough
abbrev pub FitsFile : Span → Type 0
FitsFile Nothing = Unit {0}
FitsFile (Range from to) = to ≤ LONGEST_FILE
FitsFile (From from) = from ≤ LONGEST_FILE

pub sized-fits : (s : ℕ) (of : Span) → s ≤ LONGEST_FILE → FitsFile of → sized s of ≤ LONGEST_FILE
sized-fits s Nothing short fits = short
sized-fits s (Range from to) short fits = omega arith
sized-fits s (From from) short fits = fits

fits-sized : (s : ℕ) (of : Span) → sized s of ≤ LONGEST_FILE → FitsFile of
fits-sized s Nothing short = tt
fits-sized s (Range from to) short = omega arith
fits-sized s (From from) short = short

length-by : (file bytes : List ℕ) (of : Span) → IsShaped bytes of →
    length (effect_by file bytes of) ≡ sized (length file) of
length-by file bytes Nothing shaped = absurd shaped
length-by file bytes (Range from to) shaped = omega (arith, length-put file from bytes)
length-by file bytes (From from) shaped = (resized-resizes file from).is_size

length-change : (file : List ℕ) (request : Request) → is_change request ≡ true →
    length (effect file request) ≡ sized (length file) (span request (length file))
length-change file request change =
    rw (change-effect request file change)
    (length-by file (payload_of request) (span request (length file))
    (shaped-request request (length file) change))

pub change-fits : (file : List ℕ) (request : Request) → is_change request ≡ true → IsFile file →
    FitsFile (span request (length file)) → IsFile (effect file request)
change-fits file request change short fits =
    rw (length-change file request change)
    (sized-fits (length file) (span request (length file)) short fits)

pub fits-change : (file : List ℕ) (request : Request) → is_change request ≡ true →
    IsFile (effect file request) → FitsFile (span request (length file))
fits-change file request change short =
    fits-sized (length file) (span request (length file))
    (rw (length-change file request change) at short)

-- each change of the log
pub change-ends : (core : Core) → IsKept core → (k : ℕ) → IsChange core k →
    FitsFile (at core k).span
change-ends core kept k change =
    let entry = change-entry core k change in
    let short : IsFile (file_at core (suc k)) =
    kept.legal.files (suc k) (omega (arith, change-within core k change)) in
    let next : IsFile (effect (file_at core k) entry.0.request) =
    rw (file_at-next core k entry.0 entry.1.0) at short in
    rw (kept.logged.spans k entry.0 entry.1.0)
    (fits-change (file_at core k) entry.0.request entry.1.1 next)

-- ---- the size word

abbrev pub SizesFit : Core → Type 0
SizesFit core = (s : ℕ) → is_size core s ≡ true → s ≤ LONGEST_FILE

-- the core with another size, or with one more
set_fits : (n s : ℕ) → n ≤ LONGEST_FILE → ((s == n) || false) ≡ true → s ≤ LONGEST_FILE
set_fits n s short is = omega (arith, only_size s n is)

either_fits : (core : Core) (n s : ℕ) → SizesFit core → n ≤ LONGEST_FILE →
    ((s == n) || list_any (λ x. s == x) (core.sizes ++ core.size ∷ [])) ≡ true → s ≤ LONGEST_FILE
either_fits core n s fit short is =
    elim (or_cases (s == n) (list_any (λ x. s == x) (core.sizes ++ core.size ∷ [])) is) [
      | inl new ↦ omega (arith, same_number s n new)
      | inr old ↦ elim (any_more s core.sizes core.size old) [
        | inl was ↦ fit s (rw was (now_size core))
        | inr other ↦ fit s (or_right (s == core.size) (list_any (λ x. s == x) core.sizes) other)
      ]
    ]

-- the size that an entry which is out leaves
out-size : (core : Core) (place : ℕ) → IsKept core → SizesFit core →
    is_out (track core.tracks place).state ≡ true →
    sized core.size (track core.tracks place).span ≤ LONGEST_FILE
out-size core place kept fit out =
    let here : track core.tracks place ≡ at core (place - 1) =
    track_is core.tracks place (place - 1) no_place refl in
    let own : is_out (at core (place - 1)).state ≡ true = rw here at out in
    rw here (sized-fits core.size (at core (place - 1)).span (fit core.size (now_size core))
    (change-ends core kept (place - 1)
    (kept.logged.live_changes (place - 1) (out_lives (at core (place - 1)).state own))))
  where
    no_place : place ≡ 0 → ⊥
    no_place none = let off : is_out (track core.tracks 0).state ≡ true = rw none at out in cc

fit-finish : (core : Core) (place : ℕ) (end : End) → IsKept core → SizesFit core →
    case core (events.Finish place end) ≡ true → SizesFit (after core (events.Finish place end))
fit-finish core place ends.Retired kept fit h =
    λ s is. set_fits (sized core.size (track core.tracks place).span) s
    (out-size core place kept fit (both (is_out (track core.tracks place).state)
    (ends_well core place ends.Retired) h).0) is
fit-finish core place ends.More kept fit h = fit
fit-finish core place (ends.Back sizes.AsBefore gate applied) kept fit h = fit
fit-finish core place (ends.Back sizes.Set gate applied) kept fit h =
    λ s is. set_fits (sized core.size (track core.tracks place).span) s
    (out-size core place kept fit (both (is_out (track core.tracks place).state)
    (ends_well core place (ends.Back sizes.Set gate applied)) h).0) is
fit-finish core place (ends.Back sizes.Either gate applied) kept fit h =
    λ s is. either_fits core (sized core.size (track core.tracks place).span) s fit
    (out-size core place kept fit (both (is_out (track core.tracks place).state)
    (ends_well core place (ends.Back sizes.Either gate applied)) h).0) is

pub fit-after : (core : Core) (event : Event) → IsKept core → SizesFit core → case core event ≡ true →
    SizesFit (after core event)
fit-after core (events.Tag block kept) k fit h = fit
fit-after core (events.Admit entry grant true) k fit h = fit
fit-after core (events.Admit entry grant false) k fit h = fit
fit-after core (events.AdmitRead entry) k fit h = fit
fit-after core (events.Serve place answer) k fit h = fit
fit-after core (events.Mark place by kept) k fit h = fit
fit-after core (events.Dispatch place) k fit h = fit
fit-after core (events.BlockWrite place block None) k fit h = fit
fit-after core (events.BlockWrite place block (Some left)) k fit h = fit
fit-after core (events.Flush place block true) k fit h = fit
fit-after core (events.Flush place block false) k fit h = fit
fit-after core (events.Finish place end) k fit h = fit-finish core place end k fit h
fit-after core (events.Skip place) k fit h = fit
fit-after core (events.Trim block kept) k fit h = fit
fit-after core events.Settle k fit h = fit
fit-after core (events.Crash image) k fit h =
    λ s is. set_fits image.size s (fit image.size (size-allowed core image h)) is
fit-after core events.Mount k fit h =
    λ s is. set_fits (length (recovered core (image_now core))) s (mount-fits core k) is

fit-run : (core : Core) (list : List Event) → IsKept core → SizesFit core → IsRun core list →
    SizesFit (after_all core list)
fit-run core [] kept fit run = fit
fit-run core (event ∷ list) kept fit run =
    let allowed = both (is_in_phase core.crashed event) (case core event) run.0 in
    fit-run (after core event) list (kept-after core event kept allowed.1)
    (fit-after core event kept fit allowed.1) run.1

-- from a fresh core
pub fit-all : (core : Core) (list : List Event) → IsFresh core → IsRun core list →
    SizesFit (after_all core list)
fit-all core list fresh run =
    fit-run core list (kept-fresh core fresh)
    (λ s is. rw (size-fresh core fresh s is) fresh.fits) run
