-- When the devices of an inode show a core: each image of each of them fits it.
use Rattle.std.specs.Prelude.{ℕ, ◌+◌, ◌-◌, ◌*◌, ◌≤◌, ◌<◌, ◌≡◌, ◌==◌, Bool, true, false, not, Option, Some, None, List, ◌++◌, length, drop, get_or, slice_get, if◌then◌else◌}
use Rattle.std.specs.Option.{option_map}
use Rattle.cfs_file.specs.declared.entry.Entry.{Entry}
use Rattle.cfs_file.specs.declared.request.Request.{Request}
use Rattle.cfs_file.specs.Log.{file_of}
use Rattle.cfs_file.specs.declared.sizes.TheConstants.{BLOCK_LEN, FILE_BLOCKS}
use Rattle.cfs_core.specs.declared.doubt.Doubt.{Doubt}
use Rattle.cfs_core.specs.declared.flag.Flag.{Flag}
use Rattle.cfs_core.specs.declared.flag.Flag.TheVariants.{Off}
use Rattle.cfs_core.specs.declared.stretch.Stretch.{Stretch}
use Rattle.cfs_core.specs.declared.track.Track.{Track}
use Rattle.cfs_core.specs.declared.inode_core.Core.{Core}
use Rattle.cfs_core.specs.Words.{can_be, track}
use Rattle.cfs_core.specs.Medium.{in_doubt, is_loose, is_size, placed}
use Rattle.cfs_pmem.specs.Images.{Seen, WordStep, IsImage, words_of}
use Rattle.cfs_pmem.specs.Objects.{IsEachImage}
use Rattle.cfs_block.specs.BlockImages.{BlockStep, Content, content_of}
use Rattle.cfs_slot.specs.Words.{gate_of, ino_of, mark_of, request_of}
use Rattle.cfs_medium.specs.Store.{tag_of}
use Rattle.cfs_medium.specs.World.{World, Remains, IsImageAt, head_words, recovered_of}

-- ---- slots

-- what a core knows of the slots at a number: the gate, the mark, and the request as it was placed
pub record Holding : Type 0 where
  pub gate : Flag
  pub mark : Flag
  pub request : Option Request

abbrev pub entry_of : List Entry → ℕ → Option Entry
entry_of log place = if place == 0 then None else slice_get log (place - 1)

abbrev pub logged_at : List Entry → Track → ℕ → Holding
logged_at log t place = record {
  gate = t.gate;
  mark = t.mark;
  request = option_map (λ e. placed t.span e.request) (entry_of log place);
}

abbrev pub doubted : Doubt → Holding
doubted doubt = record {
  gate = doubt.gate;
  mark = Off;
  request = Some (placed doubt.span doubt.entry.request);
}

-- The request in doubt stands at its own number, and each logged one at its place.
abbrev pub holding : Core → Option Doubt → ℕ → Holding
holding core None place = logged_at core.log (track core.tracks place) place
holding core (Some doubt) place =
    if doubt.entry.place == place then doubted doubt
    else logged_at core.log (track core.tracks place) place

abbrev pub is_gated : List ℕ → Bool
is_gated words = not (gate_of words == 0)

-- The gate is open only where it may be. Then it has its number, the slots hold the request, and
-- the mark is set only where it may be. A closed slot may hold anything.
pub record SlotFits (ino place : ℕ) (held : Holding) (slots : List (List ℕ)) : Type 0 where
  pub gate : can_be held.gate (is_gated (head_words slots)) ≡ true
  pub number : is_gated (head_words slots) ≡ true → gate_of (head_words slots) ≡ place
  pub mark : is_gated (head_words slots) ≡ true →
      can_be held.mark (mark_of (head_words slots) == 1) ≡ true
  pub file : is_gated (head_words slots) ≡ true → ino_of (head_words slots) ≡ ino
  pub request : is_gated (head_words slots) ≡ true →
      held.request ≡ Some (request_of (head_words slots) (drop 1 slots))

abbrev pub SlotsShown : ℕ → ℕ → Holding → List (Seen WordStep) → Type 0
SlotsShown ino place held seens =
    (slots : List (List ℕ)) → IsEachImage IsImage seens slots → SlotFits ino place held slots

-- ---- blocks

abbrev pub is_for : ℕ → ℕ → Content → Bool
is_for ino block content = content.tag == tag_of ino block

-- The block is tagged only where it may be, and else for no file. A tagged one has the core's bytes
-- but where these are loose.
pub record BlockFits (ino block : ℕ) (tag : Flag) (loose : List Stretch) (bytes : List ℕ)
    (content : Content) : Type 0 where
  pub tag_is : can_be tag (is_for ino block content) ≡ true
  pub free : is_for ino block content ≡ false → content.tag ≡ 0
  pub bytes_are : is_for ino block content ≡ true → (k : ℕ) → k < BLOCK_LEN →
      is_loose loose (BLOCK_LEN * block + k) ≡ false →
      get_or content.bytes k 0 ≡ get_or bytes (BLOCK_LEN * block + k) 0

-- what is read now of a tagged block: the core's bytes, loose ones too
abbrev pub ReadsAs : ℕ → ℕ → List ℕ → Option (Seen BlockStep) → Type 0
ReadsAs ino block bytes None = Unit {0}
ReadsAs ino block bytes (Some seen) =
    is_for ino block (content_of seen) ≡ true → (k : ℕ) → k < BLOCK_LEN →
    get_or (content_of seen).bytes k 0 ≡ get_or bytes (BLOCK_LEN * block + k) 0

pub record BlockShown (ino block : ℕ) (tag : Flag) (loose : List Stretch) (bytes : List ℕ)
    (here : Option (Seen BlockStep)) : Type 0 where
  pub images : (content : Content) → IsImageAt here content →
      BlockFits ino block tag loose bytes content
  pub reads : ReadsAs ino block bytes here

-- ---- the whole

-- the request in doubt has the number of a place of the log, or the next one, and there no slot of
-- a logged request is open
pub record DoubtFits (core : Core) (doubt : Doubt) : Type 0 where
  pub from : 1 ≤ doubt.entry.place
  pub to : doubt.entry.place ≤ length core.log + 1
  pub apart : (track core.tracks doubt.entry.place).gate ≡ Off

-- the lengths of a core's lists, its request in doubt, and its loose positions, which are of its
-- bytes
pub record HasShape (core : Core) : Type 0 where
  pub tags : length core.tags ≡ FILE_BLOCKS
  pub tracks : length core.tracks ≡ length core.log
  pub doubt : (doubt : Doubt) → core.doubt ≡ Some doubt → DoubtFits core doubt
  pub loose : (position : ℕ) → is_loose core.loose position ≡ true → position < length core.bytes

-- What a crash left fits the core.
pub record RemainsFit (ino : ℕ) (core : Core) (remains : Remains) : Type 0 where
  pub size : is_size core (get_or remains.size 0 0) ≡ true
  pub slots : (place : ℕ) →
      SlotFits ino place (holding core core.doubt place) (remains.slots place)
  pub blocks : (block : ℕ) → block < FILE_BLOCKS →
      BlockFits ino block (get_or core.tags block Off) core.loose core.bytes (remains.blocks block)

-- Each image of each device fits the core, and so does what is read of it now.
pub record Shows (ino : ℕ) (core : Core) (world : World) : Type 0 where
  pub shape : HasShape core
  pub sizes : (words : List ℕ) → IsImage world.size.history words →
      is_size core (get_or words 0 0) ≡ true
  pub size_now : get_or (words_of world.size) 0 0 ≡ core.size
  pub slots : (place : ℕ) → SlotsShown ino place (holding core core.doubt place) (world.slots place)
  pub blocks : (block : ℕ) → block < FILE_BLOCKS →
      BlockShown ino block (get_or core.tags block Off) core.loose core.bytes (world.blocks block)

-- the gate of the request in doubt was left open
abbrev pub is_doubt_open : Option Doubt → Remains → Bool
is_doubt_open None remains = false
is_doubt_open (Some doubt) remains = is_gated (head_words (remains.slots doubt.entry.place))

-- A mount finds the file after the log, and then the request in doubt exactly where its gate was
-- left open. Numbers below n are looked at.
abbrev pub Recovers : ℕ → ℕ → Core → Remains → Type 0
Recovers ino n core remains =
    recovered_of ino remains n
    ≡ file_of core.base (core.log ++ in_doubt core.doubt (is_doubt_open core.doubt remains))
