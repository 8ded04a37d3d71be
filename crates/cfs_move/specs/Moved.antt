-- Where the bytes of each device of an old image stand in the new one.
use Rattle.std.specs.Prelude.{ℕ, ◌+◌, ◌-◌, ◌*◌, ◌≡◌, nat_lt, List, [], ◌++◌, length, take, drop}
use Rattle.std.specs.Prelude.{if◌then◌else◌}
use Rattle.byteorder.specs.Endian.{little_bytes}
use Rattle.cfs_image.specs.declared.layout.TheConstants.{VERSION}
use Rattle.cfs_image.specs.declared.version.Version.TheVariants.{First}
use Rattle.cfs_image.specs.Image.{word_at}
use Rattle.cfs_image.specs.Layout.{range_of}
use Rattle.cfs_image.specs.Versions.{journal_at_in, record_words_in}

-- the bytes of a range, which is an offset and a length
abbrev pub part : List ℕ → ℕ × ℕ → List ℕ
part bytes range = take range.1 (drop range.0 bytes)

-- the range of the device with this number in an image of version 1: as it is now up to the
-- journal, and 64 words nearer to the front behind it
abbrev pub old_range_of : ℕ → ℕ → ℕ × ℕ
old_range_of queues device =
    if nat_lt device 3 then range_of queues device
    else if nat_lt device 67
    then (journal_at_in First (device - 3), 8 * record_words_in First)
    else ((range_of queues device).0 - 512, (range_of queues device).1)

-- what a device gains behind its bytes: a journal record a word 0
abbrev pub gained : ℕ → List ℕ
gained device =
    if nat_lt device 3 then [] else if nat_lt device 67 then little_bytes 8 0 else []

-- The header's version is another one. Each device has the bytes that it had, and what it gained,
-- and with these the image ends.
pub record IsMoved (old new : List ℕ) : Type 0 where
  pub name : word_at new 0 ≡ word_at old 0
  pub version : word_at new 8 ≡ VERSION
  pub blocks : word_at new 16 ≡ word_at old 16
  pub queues : word_at new 24 ≡ word_at old 24
  pub each_device : (device : ℕ) → part new (range_of (word_at old 24) device) ≡
      part old (old_range_of (word_at old 24) device) ++ gained device
  pub longer : length new ≡ length old + 512
