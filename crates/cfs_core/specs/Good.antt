-- What holds after each event of a run: the file is the one that the log gives, whatever a crash
-- leaves.
use Rattle.std.specs.Prelude.{◌≡◌, ℕ, ◌+◌, ◌-◌, ◌≤◌, true, false, Some, List, [], ◌∷◌, ◌++◌, map, take}
use Rattle.std.specs.List.{slice_get}
use Rattle.cfs_file.specs.declared.answer.Answer.{Answer}
use Rattle.cfs_file.specs.declared.answer.Answer.TheVariants as answers
use Rattle.cfs_file.specs.declared.entry.Entry.{Entry}
use Rattle.cfs_file.specs.File.{answer}
use Rattle.cfs_file.specs.Log.{IsLegal, file_of}
use Rattle.cfs_file.specs.Span.{Holds}
use Rattle.cfs_core.specs.declared.event.Event.TheVariants as events
use Rattle.cfs_core.specs.declared.image.Image.{Image}
use Rattle.cfs_core.specs.declared.inode_core.Core.{Core}
use Rattle.cfs_core.specs.Words.{is_live, track}
use Rattle.cfs_core.specs.Medium.{file, in_doubt, is_image, live_entries, recovered, stored, stored_byte}
use Rattle.cfs_core.specs.May.{may}

-- the file after the entries before a place
abbrev pub file_before : Core → ℕ → List ℕ
file_before core place = file_of core.base (take (place - 1) core.log)

-- the bytes that an answer gives
abbrev pub bytes_of : Answer → List ℕ
bytes_of (answers.Got bytes) = bytes
bytes_of _ = []

-- from this number on, each one is greater than the one before
abbrev pub Rises : ℕ → List ℕ → Type 0
Rises low [] = Unit {0}
Rises low (n ∷ ns) = (low ≤ n) × Rises (n + 1) ns

pub record IsGood (core : Core) : Type 0 where
  -- places 1, 2, 3 and so on, and every file on the way short enough
  pub legal : IsLegal core.base core.log []
  -- a read or sync that may be served now gets its answer on the file after the entries before it
  pub served : (place : ℕ) (bytes : List ℕ) (entry : Entry) →
      may core (events.Serve place (Some bytes)) ≡ true →
      slice_get core.log (place - 1) ≡ Some entry →
      bytes ≡ bytes_of (answer (file_before core place) entry.request)
  -- every image recovers the file after the log, and then the request in doubt exactly where its
  -- gate is open
  pub recovers : (image : Image) → is_image core image ≡ true →
      recovered core image ≡ file_of core.base (core.log ++ in_doubt core.doubt image.doubt)
  -- the live entries of an image stand in the order of the numbers in their gates
  pub rises : (image : Image) → is_image core image ≡ true →
      Rises 0 (map (λ e. e.place) (live_entries core image))
  -- where no entry is live, every image stores the file after the log
  pub drained : (image : Image) → is_image core image ≡ true →
      ((place : ℕ) → is_live (track core.tracks place).state ≡ false) → stored image ≡ file core
  -- past the stored size, a byte that no live entry has is 0 in every image
  pub zero_past : (image : Image) (position : ℕ) → is_image core image ≡ true →
      image.size ≤ position →
      ((place : ℕ) → is_live (track core.tracks place).state ≡ true →
      Holds (track core.tracks place).span position → ⊥) →
      stored_byte image position ≡ 0
