-- What holds of every run.
use Rattle.std.specs.Prelude.{◌≡◌, ◌≢◌, ℕ, ◌<◌, Bool, true, false}
use Rattle.std.specs.List.{list_all}
use Rattle.cfs_file.specs.declared.entry.Entry.{Entry}
use Rattle.cfs_file.specs.Span.{meets, reaches_over}
use Rattle.cfs_core.specs.declared.event.Event.{Event}
use Rattle.cfs_core.specs.declared.event.Event.TheVariants as events
use Rattle.cfs_core.specs.declared.inode_core.Core.{Core}
use Rattle.cfs_core.specs.declared.image.Image.{Image}
use Rattle.cfs_core.specs.Words.{is_live, is_off, is_out, track}
use Rattle.cfs_core.specs.Medium.{bit_at, is_image, is_open}
use Rattle.cfs_core.specs.May.{may}
use Rattle.cfs_core.specs.Good.{IsGood}
use Rattle.cfs_core.specs.Within.{within}
use Rattle.cfs_core.specs.After.{after}
use Rattle.cfs_core.specs.Run.{IsRun, OfEveryRun}
use Rattle.cfs_core.specs.Marks.{marks_by, marks_to_try}
use Rattle.cfs_core.specs.Listing.{listing, relisted}
use Rattle.cfs_core.specs.Steps.{Commute, JobStep, StaysInside, step_of}
use Rattle.cfs_core.specs.Opened.{OpensWell}

-- After each event of every run of a fresh core, mounts included, the core is good.
abbrev pub RunsAreGood : Type 0
RunsAreGood = OfEveryRun IsGood

-- In every run, each moment within an event is a failed event that may come where the event may.
abbrev pub MomentsMayCome : Type 0
MomentsMayCome = OfEveryRun (λ core.
    (event : Event) → may core event ≡ true → list_all (may core) (within core event) ≡ true)

-- In every image of every run, an entry whose gate is open and whose mark is not set is live.
abbrev pub OnlyLiveAreOpen : Type 0
OnlyLiveAreOpen = OfEveryRun (λ core.
    (image : Image) → is_image core image ≡ true →
    (place : ℕ) → is_open image place ≡ true → is_live (track core.tracks place).state ≡ true)

-- In every run, a job works on no position of an earlier live entry. So two jobs that are out have
-- no position in common.
abbrev pub JobsAreApart : Type 0
JobsAreApart = OfEveryRun (λ core.
    (earlier later : ℕ) → earlier < later →
    is_live (track core.tracks earlier).state ≡ true →
    is_out (track core.tracks later).state ≡ true →
    meets (track core.tracks earlier).span (track core.tracks later).span ≡ false)

-- In every image of every run, an entry whose mark is set is covered by a later one.
abbrev pub MarkedAreCovered : Type 0
MarkedAreCovered = OfEveryRun (λ core.
    (image : Image) → is_image core image ≡ true →
    (place : ℕ) → bit_at image.marks place ≡ true →
    (by : ℕ) × ((place < by)
    × (reaches_over (track core.tracks by).span (track core.tracks place).span ≡ true)))

-- In every image of every run, a live entry is open, unless it is applied or a mark of it was
-- tried.
abbrev pub LiveAreOpen : Type 0
LiveAreOpen = OfEveryRun (λ core.
    (image : Image) → is_image core image ≡ true →
    (place : ℕ) → is_live (track core.tracks place).state ≡ true →
    (track core.tracks place).applied ≡ false → is_off (track core.tracks place).mark ≡ true →
    is_open image place ≡ true)

-- In every run, each image that a crash may leave opens as a core of its own, whose file is the
-- recovered one, and every run of that core is good. So a mount may bring the live entries home one
-- by one.
abbrev pub ImagesOpenAsCores : Type 0
ImagesOpenAsCores = OfEveryRun (λ core.
    (image : Image) → is_image core image ≡ true → OpensWell core image)

-- After a change is admitted, the marks that it may set may come one after another, whichever of
-- them are kept.
abbrev pub MarksMayFollow : Type 0
MarksMayFollow =
    (core : Core) (entry : Entry) (grant : ℕ) (kept : ℕ → Bool) →
    may core (events.Admit entry grant true) ≡ true →
    let admitted : Core = after core (events.Admit entry grant true) in
    IsRun admitted (marks_by entry.place kept (marks_to_try admitted entry.place))

-- In every run, this is what each event makes of the queue of each grant.
abbrev pub ListedUntilClosed : Type 0
ListedUntilClosed = OfEveryRun (λ core.
    (event : Event) (grant : ℕ) → may core event ≡ true →
    listing (after core event) grant ≡ relisted grant event (listing core grant))

-- In every run, a write or a flush of a job changes nothing beside its entry's track and its block.
abbrev pub StepsStayInside : Type 0
StepsStayInside = OfEveryRun (λ core.
    (place block : ℕ) (step : JobStep) → may core (step_of place block step) ≡ true →
    StaysInside place block core (after core (step_of place block step)))

-- In every run, where two steps of different jobs on different blocks may come, either may come
-- first.
abbrev pub JobStepsCommute : Type 0
JobStepsCommute = OfEveryRun (λ core.
    (place other block beside : ℕ) (one two : JobStep) → place ≢ other → block ≢ beside →
    may core (step_of place block one) ≡ true → may core (step_of other beside two) ≡ true →
    Commute core (step_of place block one) (step_of other beside two))
