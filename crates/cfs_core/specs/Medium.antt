-- What a crash may leave of a core's part of the medium, and the file that a mount finds in it.
use Rattle.std.specs.Prelude.{ℕ, ◌-◌, ◌/◌, ◌==◌, Bool, true, false, not, ◌&&◌, ◌||◌, if◌then◌else◌, Option, Some, None, List, [], ◌∷◌, ◌++◌, length, map, filter, get_or, nat_lt, nat_le}
use Rattle.std.specs.List.{list_any, list_all, range_with_len}
use Rattle.cfs_file.specs.declared.entry.Entry.{Entry}
use Rattle.cfs_file.specs.declared.request.Request.{Request}
use Rattle.cfs_file.specs.declared.request.Request.TheVariants as requests
use Rattle.cfs_file.specs.declared.span.Span.{Span}
use Rattle.cfs_file.specs.Log.{file_of}
use Rattle.cfs_file.specs.declared.sizes.TheConstants.{BLOCK_LEN}
use Rattle.cfs_core.specs.declared.flag.Flag.{Flag}
use Rattle.cfs_core.specs.declared.flag.Flag.TheVariants.{Off, On, Unsure}
use Rattle.cfs_core.specs.declared.track.Track.{Track}
use Rattle.cfs_core.specs.declared.doubt.Doubt.{Doubt}
use Rattle.cfs_core.specs.declared.stretch.Stretch.{Stretch}
use Rattle.cfs_core.specs.declared.image.Image.{Image}
use Rattle.cfs_core.specs.declared.inode_core.Core.{Core}
use Rattle.cfs_core.specs.Words.{blank, byte_at, can_be, is_off, is_on, positions, start_of, track}

-- the file after the log
abbrev pub file : Core → List ℕ
file core = file_of core.base core.log

-- an image may have any byte at the position
abbrev pub is_loose : List Stretch → ℕ → Bool
is_loose loose position = list_any (λ s. nat_le s.from position && nat_lt position s.to) loose

-- the byte stands at the position in every image; where no block is tagged there stands 0
abbrev pub rests_as : Flag → Bool → ℕ → ℕ → Bool
rests_as Off loose stands byte = byte == 0
rests_as On loose stands byte = not loose && (stands == byte)
rests_as Unsure loose stands byte = not loose && ((stands == byte) && (byte == 0))

abbrev pub rests : Core → ℕ → ℕ → Bool
rests core position byte =
    rests_as (get_or core.tags (position / BLOCK_LEN) Off) (is_loose core.loose position)
    (get_or core.bytes position 0) byte

-- at each position of its span that lies in a mapped block, the entry's byte stands in every image
abbrev pub stands : Core → List ℕ → Span → Bool
stands core bytes span =
    list_all (λ p. is_off (get_or core.tags (p / BLOCK_LEN) Off)
    || rests core p (byte_at bytes span p)) (positions span)

-- the stored byte that is read at a position: 0 past the stored size
abbrev pub reads : Core → ℕ → ℕ
reads core position =
    if nat_lt position core.size && is_on (get_or core.tags (position / BLOCK_LEN) Off)
    then get_or core.bytes position 0 else 0

-- ---- images

abbrev pub doubt_gate : Option Doubt → Flag
doubt_gate None = Off
doubt_gate (Some doubt) = doubt.gate

-- each value is one that its flag allows
abbrev pub allow_bits : List Flag → List Bool → Bool
allow_bits flags bits =
    list_all (λ k. can_be (get_or flags k Off) (get_or bits k false))
    (range_with_len 0 (length flags))

abbrev pub allow_gates : List Track → List Bool → Bool
allow_gates tracks bits =
    list_all (λ k. can_be (get_or tracks k blank).gate (get_or bits k false))
    (range_with_len 0 (length tracks))

abbrev pub allow_marks : List Track → List Bool → Bool
allow_marks tracks bits =
    list_all (λ k. can_be (get_or tracks k blank).mark (get_or bits k false))
    (range_with_len 0 (length tracks))

abbrev pub agree : List Flag → List Bool → Bool
agree flags bits = (length bits == length flags) && allow_bits flags bits

abbrev pub gates_agree : List Track → List Bool → Bool
gates_agree tracks bits = (length bits == length tracks) && allow_gates tracks bits

abbrev pub marks_agree : List Track → List Bool → Bool
marks_agree tracks bits = (length bits == length tracks) && allow_marks tracks bits

-- the bytes are those that stand, but where these are loose
abbrev pub are_bytes : List Stretch → List ℕ → List ℕ → Bool
are_bytes loose stands bytes =
    list_all (λ p. is_loose loose p || (get_or bytes p 0 == get_or stands p 0))
    (range_with_len 0 (length stands))

abbrev pub bytes_agree : Core → List ℕ → Bool
bytes_agree core bytes =
    (length bytes == length core.bytes) && are_bytes core.loose core.bytes bytes

-- a value that the size word has in some image
abbrev pub is_size : Core → ℕ → Bool
is_size core size = (size == core.size) || list_any (λ s. size == s) core.sizes

-- a crash may leave this: each word and each byte by itself
abbrev pub is_image : Core → Image → Bool
is_image core image =
    is_size core image.size
    && (agree core.tags image.tags
    && (bytes_agree core image.bytes
    && (gates_agree core.tracks image.gates
    && (marks_agree core.tracks image.marks
    && can_be (doubt_gate core.doubt) image.doubt))))

-- what is read now, as an image
abbrev pub image_now : Core → Image
image_now core = record {
  size = core.size;
  tags = map (λ flag. is_on flag) core.tags;
  bytes = core.bytes;
  gates = map (λ t. is_on t.gate) core.tracks;
  marks = map (λ t. is_on t.mark) core.tracks;
  doubt = is_on (doubt_gate core.doubt);
}

-- the byte of the block that is tagged for the position, or 0
abbrev pub stored_byte : Image → ℕ → ℕ
stored_byte image position =
    if get_or image.tags (position / BLOCK_LEN) false then get_or image.bytes position 0 else 0

-- the stored file
abbrev pub stored : Image → List ℕ
stored image = map (λ p. stored_byte image p) (range_with_len 0 image.size)

-- the bit of a place, from 1
abbrev pub bit_at : List Bool → ℕ → Bool
bit_at bits place = if place == 0 then false else get_or bits (place - 1) false

-- the entry's gate is open and its mark is not set
abbrev pub is_open : Image → ℕ → Bool
is_open image place = bit_at image.gates place && not (bit_at image.marks place)

abbrev pub in_doubt : Option Doubt → Bool → List Entry
in_doubt None gate = []
in_doubt (Some doubt) true = doubt.entry ∷ []
in_doubt (Some doubt) false = []

-- what the slot holds of a request with that span: of an append, a write at the offset that it was
-- given
abbrev pub placed : Span → Request → Request
placed span (requests.Append bytes) = requests.Write (start_of span) bytes
placed span request = request

abbrev pub placed_entry : Span → Entry → Entry
placed_entry span entry = record entry { request = placed span entry.request }

abbrev pub placed_doubt : Option Doubt → Bool → List Entry
placed_doubt None gate = []
placed_doubt (Some doubt) true = placed_entry doubt.span doubt.entry ∷ []
placed_doubt (Some doubt) false = []

-- the entries of the log whose gates are open, as their slots hold them
abbrev pub open_entries : List Track → Image → List Entry → List Entry
open_entries tracks image log =
    map (λ e. placed_entry (track tracks e.place).span e) (filter (λ e. is_open image e.place) log)

-- The live entries of an image: those of the log in order of place, which is the number in their
-- gates, and then the request in doubt where its gate is open.
abbrev pub live_entries : Core → Image → List Entry
live_entries core image =
    open_entries core.tracks image core.log ++ placed_doubt core.doubt image.doubt

-- the recovered file: the stored file, taken through the live entries
abbrev pub recovered : Core → Image → List ℕ
recovered core image = file_of (stored image) (live_entries core image)
