-- What else holds of every core that there is.
use Rattle.std.specs.Prelude.{◌≡◌, ℕ, ◌+◌, ◌*◌, ◌/◌, ◌<◌, ◌≤◌, Bool, true, false, not, ◌&&◌, ◌||◌, ◌++◌, Some, List, get_or, length, is_none, nat_le}
use Rattle.std.specs.List.{All, Any, list_all}
use Rattle.cfs_file.specs.declared.sizes.TheConstants.{BLOCK_LEN, FILE_BLOCKS, LONGEST_FILE}
use Rattle.cfs_file.specs.Log.{file_of}
use Rattle.cfs_file.specs.Span.{Holds}
use Rattle.cfs_core.specs.declared.doubt.Doubt.{Doubt}
use Rattle.cfs_core.specs.declared.event.End.TheVariants as ends
use Rattle.cfs_core.specs.declared.event.Event.{Event}
use Rattle.cfs_core.specs.declared.event.Event.TheVariants as events
use Rattle.cfs_core.specs.declared.flag.Flag.TheVariants.{Off}
use Rattle.cfs_core.specs.declared.image.Image.{Image}
use Rattle.cfs_core.specs.declared.inode_core.Core.{Core}
use Rattle.cfs_core.specs.declared.stretch.Stretch.{Stretch}
use Rattle.cfs_core.specs.Words.{has_block, is_on, is_through, track}
use Rattle.cfs_core.specs.Jobs.{done_after, is_wanted, next_block}
use Rattle.cfs_core.specs.Medium.{file, in_doubt, is_image, is_open, recovered, stored_byte}
use Rattle.cfs_core.specs.May.{is_zero_block, may, stands_at}
use Rattle.cfs_core.specs.After.{after}
use Rattle.cfs_core.specs.Fresh.{IsFresh}
use Rattle.cfs_core.specs.Good.{IsGood}
use Rattle.cfs_core.specs.Opened.{is_admission, opened}
use Rattle.cfs_core.specs.Run.{IsRun, after_all}
use Rattle.cfs_core_laws.specs.Changes.{EachMoment, all_changed, changes, logged_image, named}
use Rattle.cfs_core_laws.specs.InStep.{AreInStep}
use Rattle.cfs_core_laws.specs.Order.{is_out_sorted}
use Rattle.cfs_core_laws.specs.Reached.{IsReached}
use Rattle.cfs_core_laws.specs.Rest.{IsAtRest, is_closed, is_of_a_job, restarted, without_log}

-- where a run of such a core ends
abbrev pub RunsAreReached : Type 0
RunsAreReached =
    (core : Core) (events : List Event) → IsReached core → IsRun core events →
    IsReached (after_all core events)

abbrev pub ReachedAreGood : Type 0
ReachedAreGood = (core : Core) → IsReached core → IsGood core

-- The lists have their lengths, and the request in doubt its place and gate.
abbrev pub ListsAreInStep : Type 0
ListsAreInStep = (core : Core) → IsReached core → AreInStep core

-- Each stretch lies in the block that it begins in.
abbrev pub StretchesAreShort : Type 0
StretchesAreShort =
    (core : Core) → IsReached core →
    list_all (λ s. nat_le s.to (BLOCK_LEN * (s.from / BLOCK_LEN) + BLOCK_LEN)) core.loose ≡ true

abbrev pub ends_within : ℕ → Stretch → Bool
ends_within many stretch = nat_le stretch.to many

-- And it ends no later than the bytes that read.
abbrev pub StretchesAreWithin : Type 0
StretchesAreWithin =
    (core : Core) → IsReached core → list_all (ends_within (length core.bytes)) core.loose ≡ true

-- Each size that an image may have is one of a file.
abbrev pub SizesAreFiles : Type 0
SizesAreFiles =
    (core : Core) (image : Image) → IsReached core → is_image core image ≡ true →
    image.size ≤ LONGEST_FILE

-- No block is out with two jobs.
abbrev pub BlocksAreLentOnce : Type 0
BlocksAreLentOnce =
    (core : Core) → IsReached core → (one other block : ℕ) →
    has_block (track core.tracks one).state block ≡ true →
    has_block (track core.tracks other).state block ≡ true → one ≡ other

-- A job has only blocks that are wanted of its entry: each is mapped, has a position of the entry,
-- and stands behind those that are done.
abbrev pub LentAreWanted : Type 0
LentAreWanted =
    (core : Core) → IsReached core → (place block : ℕ) →
    has_block (track core.tracks place).state block ≡ true →
    is_wanted core.tags (track core.tracks place) (track core.tracks place).done block ≡ true

-- A job's second block stands behind its first.
abbrev pub JobsAscend : Type 0
JobsAscend =
    (core : Core) → IsReached core → (place : ℕ) →
    is_out_sorted (track core.tracks place).state ≡ true

-- A block that is not tagged in every image is zero in every image.
abbrev pub UntaggedAreZero : Type 0
UntaggedAreZero =
    (core : Core) → IsReached core → (block : ℕ) → is_on (get_or core.tags block Off) ≡ false →
    is_zero_block core block ≡ true

-- So it may be tagged, where no crash came.
abbrev pub TagsMayCome : Type 0
TagsMayCome =
    (core : Core) → IsReached core → core.crashed ≡ false →
    (block : ℕ) (kept : Bool) → block < FILE_BLOCKS → is_on (get_or core.tags block Off) ≡ false →
    may core (events.Tag block kept) ≡ true

-- the job is through, and its entry is applied or wants no further block
abbrev pub is_through_with : Core → ℕ → Bool
is_through_with core place =
    is_through (track core.tracks place).state
    && ((track core.tracks place).applied
    || is_none (next_block core.tags (track core.tracks place)
    (done_after (track core.tracks place).done (track core.tracks place).state)))

-- Until a crash, the bytes of an entry whose job is through, with no further block to write, stand
-- in every image.
abbrev pub ThroughStands : Type 0
ThroughStands =
    (core : Core) → IsReached core → core.crashed ≡ false →
    (place : ℕ) → is_through_with core place ≡ true → stands_at core place ≡ true

-- So it may be retired.
abbrev pub ThroughMayRetire : Type 0
ThroughMayRetire =
    (core : Core) → IsReached core → core.crashed ≡ false →
    (place : ℕ) → is_through_with core place ≡ true →
    may core (events.Finish place ends.Retired) ≡ true

-- In an image, past the stored size, a byte that no entry live in this image has is 0.
abbrev pub ImagesAreClean : Type 0
ImagesAreClean =
    (core : Core) (image : Image) → IsReached core → is_image core image ≡ true →
    (position : ℕ) → image.size ≤ position →
    ((place : ℕ) → is_open image place ≡ true → Holds (track core.tracks place).span position → ⊥) →
    ((doubt : Doubt) → core.doubt ≡ Some doubt → image.doubt ≡ true →
    Holds doubt.span position → ⊥) →
    stored_byte image position ≡ 0

-- A mounted core is fresh.
abbrev pub MountedAreFresh : Type 0
MountedAreFresh =
    (core : Core) → IsReached core → core.crashed ≡ true → IsFresh (after core events.Mount)

-- A core that is at rest may drop its log: what is left is fresh, and has the same images.
abbrev pub RestedAreFresh : Type 0
RestedAreFresh =
    (core : Core) → IsReached core → IsAtRest core →
    IsFresh (restarted core)
    × ((image : Image) → is_image core image ≡ true →
    is_image (restarted core) (without_log image) ≡ true)

-- Once the entries of an opened image are brought home, the file is the one that the image
-- recovers.
abbrev pub BroughtHomeAreRecovered : Type 0
BroughtHomeAreRecovered =
    (core : Core) (image : Image) (steps : List Event) → IsReached core →
    is_image core image ≡ true → IsRun (opened core image) steps →
    list_all (λ e. not (is_admission e)) steps ≡ true →
    IsAtRest (after_all (opened core image) steps) →
    file (after_all (opened core image) steps) ≡ recovered core image

-- So a mount that takes each entry of the image home by a job ends in a fresh core, whose base is
-- the file that the image recovers.
abbrev pub BroughtHomeAreFresh : Type 0
BroughtHomeAreFresh =
    (core : Core) (image : Image) (steps : List Event) → IsReached core →
    is_image core image ≡ true → IsRun (opened core image) steps →
    list_all is_of_a_job steps ≡ true →
    list_all (λ t. is_closed t.state) (after_all (opened core image) steps).tracks ≡ true →
    IsFresh (restarted (after_all (opened core image) steps))
    × ((restarted (after_all (opened core image) steps)).base ≡ recovered core image)

-- every image of the one is one of the other
abbrev pub AreImagesOf : Core → Core → Type 0
AreImagesOf one other = (image : Image) → is_image one image ≡ true → is_image other image ≡ true

-- The images of each moment within an event are images of one core: of the core before, of the
-- core after, or of a failed event that is named.
abbrev pub MomentsAreNamed : Type 0
MomentsAreNamed =
    (core : Core) (event : Event) → IsReached core → may core event ≡ true →
    EachMoment (λ moment. Any (AreImagesOf moment) (named core event)) core (changes core event)

-- The laws hold of each core that is named.
abbrev pub NamedAreReached : Type 0
NamedAreReached =
    (core : Core) (event : Event) → IsReached core → may core event ≡ true →
    All IsReached (named core event)

-- every image of the moment recovers the other core's file after its log, and then its request in
-- doubt exactly where that gate is open
abbrev pub RecoversAs : Core → Core → Type 0
RecoversAs moment other =
    (image : Image) → is_image moment image ≡ true →
    recovered other image ≡ file_of other.base (other.log ++ in_doubt other.doubt image.doubt)

-- So at each moment a crash recovers what it would before or after the event, or after a failed
-- one.
abbrev pub MomentsRecover : Type 0
MomentsRecover =
    (core : Core) (event : Event) → IsReached core → may core event ≡ true →
    EachMoment (λ moment. Any (RecoversAs moment) (named core event)) core (changes core event)

-- it is no crash and no mount
abbrev pub is_step : Event → Bool
is_step (events.Crash image) = false
is_step events.Mount = false
is_step _ = true

-- Once all its steps were made, the images are those of the core after the event.
abbrev pub ChangesMakeTheCore : Type 0
ChangesMakeTheCore =
    (core : Core) (event : Event) (image : Image) → IsReached core → may core event ≡ true →
    is_step event ≡ true → is_image (all_changed core (changes core event)) image ≡ true →
    is_image (after core event) (logged_image event image) ≡ true
