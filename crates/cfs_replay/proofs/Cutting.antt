-- The pieces of a request, one after another, and what they are together.
use Rattle.std.proofs.Common.{ℕ, zero, suc, ◌+◌, ◌-◌, ◌/◌, ◌%◌, ◌<◌, ◌≤◌, ◌≡◌, ◌∙◌}
use Rattle.std.proofs.Common.{Option, Some, None, List, [], ◌∷◌, ◌++◌, length, get_or}
use Rattle.std.proofs.Common.{inl, inr, refl, sym, ap, subst, arith, append_assoc}
use Rattle.std.specs.List.{cons_option, filter_map, range_with_len}
use Rattle.std.specs.Option.{option_map, option_to_list}
use Rattle.std.proofs.lemmas.Bool.{cases_lt}
use Rattle.std.proofs.lemmas.List.{append-nil}
use Rattle.cfs_file.specs.declared.request.Request.{Request}
use Rattle.cfs_file.specs.declared.request.Request.TheVariants.{Truncate, Write}
use Rattle.cfs_file.specs.declared.sizes.TheConstants.{BLOCK_LEN, FILE_BLOCKS}
use Rattle.cfs_file.specs.Span.{Touches}
use Rattle.cfs_block.specs.BlockImages.{Content}
use Rattle.cfs_medium.specs.Depicts.{IsFor, content_at}
use Rattle.cfs_medium.specs.Store.{tag_of}
use Rattle.cfs_home.specs.Calls.{IsPiece}
use Rattle.cfs_recover.specs.declared.blocks.TheConstants.{ZEROS}
use Rattle.cfs_recover.specs.declared.piece.Piece.{Piece}
use Rattle.cfs_recover.specs.Brought.{AreAllPieces}
use Rattle.cfs_recover.specs.Cut.{piece_in, zeros_in}
use Rattle.cfs_recover.specs.Held.{AllBring, Brings, IsInPiece, SomeHas}
use Rattle.cfs_recover.specs.Pieces.{LiesWithin}
use Rattle.cfs_recover.proofs.Ranges.{truncates-cut, writes-cut}
use Rattle.cfs_replay.specs.Pieces.{BlockMap, FindsBlocks, found_at, pieces_for, write_pieces}
use Rattle.cfs_replay.specs.Pieces.{zero_pieces}

-- ---- one after another

-- those that are left, with those that were put
pub pieces-more : (f : ℕ → Option Piece) (most n block : ℕ) (found more all : List Piece) →
    most ≡ n + 1 → all ≡ found ++ filter_map f (range_with_len block most) →
    more ≡ found ++ option_to_list (f block) →
    all ≡ more ++ filter_map f (range_with_len (block + 1) n)
pieces-more f zero n block found more all one before put = absurd (omega (arith, one))
pieces-more f (suc m) n block found more all one before put =
    before
    ∙ (ap (λ (ps : List Piece). found ++ ps) (split (f block))
    ∙ (sym (append_assoc found (option_to_list (f block))
    (filter_map f (range_with_len (block + 1) m)))
    ∙ (ap (λ (ps : List Piece). ps ++ filter_map f (range_with_len (block + 1) m)) (sym put)
    ∙ ap (λ (k : ℕ). more ++ filter_map f (range_with_len (block + 1) k))
    (let same : m ≡ n = omega (arith, one) in same))))
  where
    split : (o : Option Piece) → cons_option o (filter_map f (range_with_len (block + 1) m))
        ≡ option_to_list o ++ filter_map f (range_with_len (block + 1) m)
    split None = refl
    split (Some piece) = refl

pub pieces-done : (f : ℕ → Option Piece) (n block : ℕ) (found all : List Piece) → n ≡ 0 →
    all ≡ found ++ filter_map f (range_with_len block n) → found ≡ all
pieces-done f zero block found all none whole = sym (whole ∙ append-nil found)
pieces-done f (suc n) block found all none whole = absurd (omega (arith, none))

-- ---- together

-- P holds of each of them
abbrev pub AllAre : (Piece → Type 0) → List Piece → Type 0
AllAre P [] = Unit {0}
AllAre P (piece ∷ pieces) = P piece × AllAre P pieces

pub are-at : (P : Piece → Type 0) (pieces : List Piece) → AllAre P pieces →
    (k : ℕ) (d : Piece) → k < length pieces → P (get_or pieces k d)
are-at P [] all k d less = absurd (omega arith)
are-at P (piece ∷ pieces) all zero d less = all.0
are-at P (piece ∷ pieces) all (suc k) d less = are-at P pieces all.1 k d (omega arith)

-- what holds of each piece that is cut
pub cut-all : (P : Piece → Type 0) (cut : ℕ → ℕ → Piece) (find : ℕ → Option ℕ)
    (from count : ℕ) →
    ((block at : ℕ) → from ≤ block → block < from + count → find block ≡ Some at →
    P (cut at block)) →
    AllAre P (pieces_for cut find from count)
cut-all P cut find from zero each = tt
cut-all P cut find from (suc n) each =
    split (find from) (λ at is. each from at (omega arith) (omega arith) is)
    (cut-all P cut find (from + 1) n
    (λ block at low high is. each block at (omega arith) (omega arith) is))
  where
    split : (o : Option ℕ) → ((at : ℕ) → o ≡ Some at → P (cut at from)) →
        AllAre P (pieces_for cut find (from + 1) n) →
        AllAre P (cons_option (option_map (λ at. cut at from) o)
        (pieces_for cut find (from + 1) n))
    split None has rest = rest
    split (Some at) has rest = (has at refl, rest)

-- a piece of a block is among them
pub cut-has : (cut : ℕ → ℕ → Piece) (find : ℕ → Option ℕ) (from count block at to k : ℕ) →
    from ≤ block → block < from + count → find block ≡ Some at →
    IsInPiece (cut at block) to k → SomeHas (pieces_for cut find from count) to k
cut-has cut find from zero block at to k low high is here = absurd (omega arith)
cut-has cut find from (suc n) block at to k low high is here = elim (cases_lt from block) [
  | inl below ↦ later (find from)
      (cut-has cut find (from + 1) n block at to k (omega arith) (omega arith) is here)
  | inr past ↦
      let same : block ≡ from = omega arith in
      first (find from) (ap find (sym same) ∙ is)
      (subst (λ (b : ℕ). IsInPiece (cut at b) to k) same here)
]
  where
    later : (o : Option ℕ) → SomeHas (pieces_for cut find (from + 1) n) to k →
        SomeHas (cons_option (option_map (λ a. cut a from) o)
        (pieces_for cut find (from + 1) n)) to k
    later None some = some
    later (Some a) some = inr some

    first : (o : Option ℕ) → o ≡ Some at → IsInPiece (cut at from) to k →
        SomeHas (cons_option (option_map (λ a. cut a from) o)
        (pieces_for cut find (from + 1) n)) to k
    first None is_some inside = absurd (cc)
    first (Some a) is_some inside =
        let same : a ≡ at = cc in
        inl (subst (λ (b : ℕ). IsInPiece (cut b from) to k) (sym same) inside)

all-bring : (ino : ℕ) (request : Request) (first : List Content) (bytes : List ℕ)
    (pieces : List Piece) → AllAre (Brings ino request first bytes) pieces →
    AllBring ino request first bytes pieces
all-bring ino request first bytes [] all = tt
all-bring ino request first bytes (piece ∷ pieces) all =
    (all.0, all-bring ino request first bytes pieces all.1)

-- the tags of these blocks
abbrev pub HaveTagsOf : List Content → List ℕ → Type 0
HaveTagsOf contents tags = (at : ℕ) → (content_at contents at).tag ≡ get_or tags at 0

-- what a piece of a block has
abbrev IsPart : ℕ → Request → List Content → List ℕ → Piece → ℕ → ℕ → Type 0
IsPart ino request first bytes piece at block =
    IsPiece ino request first at piece.from (piece.end - piece.start)
    × (Brings ino request first bytes piece
    × ((position : ℕ) → position / BLOCK_LEN ≡ block → Touches request 0 position →
    IsInPiece piece at (position % BLOCK_LEN)))

module _ (ino : ℕ) (found : BlockMap) (first : List Content) (tags : List ℕ)
    (own : HaveTagsOf first tags) (finds : FindsBlocks ino found tags) where
  tagged : (block at : ℕ) → block < FILE_BLOCKS → found_at found ino block ≡ Some at →
      IsFor ino block first at
  tagged block at less is = own at ∙ (finds block at less).0 is

  there : (block at : ℕ) → block < FILE_BLOCKS → IsFor ino block first at →
      found_at found ino block ≡ Some at
  there block at less is = (finds block at less).1 (sym (own at) ∙ is)

  -- a write
  pub write-pieces-are : (offset : ℕ) (bytes : List ℕ) → offset + length bytes ≤ 1048576 →
      AreAllPieces ino (Write offset bytes) first bytes
      (write_pieces found ino offset (length bytes))
  write-pieces-are offset bytes fits = record {
    touch = are-at (λ piece. IsPiece ino (Write offset bytes) first piece.at piece.from
        (piece.end - piece.start)) (write_pieces found ino offset (length bytes))
        (cut-all (λ piece. IsPiece ino (Write offset bytes) first piece.at piece.from
        (piece.end - piece.start)) cut (found_at found ino) from count
        (λ block at low high is. (part block at low high is).0));
    bring = all-bring ino (Write offset bytes) first bytes
        (write_pieces found ino offset (length bytes))
        (cut-all (Brings ino (Write offset bytes) first bytes) cut (found_at found ino) from count
        (λ block at low high is. (part block at low high is).1.0));
    all = λ at p less here touches.
        let is = there (p / BLOCK_LEN) at less here in
        let low : from ≤ p / BLOCK_LEN =
        let up = touches.0 in omega (arith, up) in
        let high : p / BLOCK_LEN < from + count =
        let down = touches.1 in omega (arith, down) in
        cut-has cut (found_at found ino) from count (p / BLOCK_LEN) at at (p % BLOCK_LEN) low high
        is ((part (p / BLOCK_LEN) at low high is).1.1 p refl touches);
  }
    where
      from : ℕ
      from = offset / 4096

      count : ℕ
      count = (offset + length bytes + 4095) / 4096 - offset / 4096

      cut : ℕ → ℕ → Piece
      cut at block = piece_in at block offset (length bytes)

      part : (block at : ℕ) → from ≤ block → block < from + count →
          found_at found ino block ≡ Some at →
          IsPart ino (Write offset bytes) first bytes (cut at block) at block
      part block at low high is =
          let less : block < FILE_BLOCKS = omega (arith, high, fits) in
          writes-cut ino offset bytes first at block less (tagged block at less is)
          (omega (arith, low)) (omega (arith, high))

  -- a truncate
  pub zero-pieces-are : (n : ℕ) →
      AreAllPieces ino (Truncate n) first ZEROS (zero_pieces found ino n)
  zero-pieces-are n = record {
    touch = are-at (λ piece. IsPiece ino (Truncate n) first piece.at piece.from
        (piece.end - piece.start)) (zero_pieces found ino n)
        (cut-all (λ piece. IsPiece ino (Truncate n) first piece.at piece.from
        (piece.end - piece.start)) cut (found_at found ino) from count
        (λ block at low high is. (part block at low high is).0));
    bring = all-bring ino (Truncate n) first ZEROS (zero_pieces found ino n)
        (cut-all (Brings ino (Truncate n) first ZEROS) cut (found_at found ino) from count
        (λ block at low high is. (part block at low high is).1.0));
    all = λ at p less here touches.
        let is = there (p / BLOCK_LEN) at less here in
        let low : from ≤ p / BLOCK_LEN = omega (arith, touches) in
        let high : p / BLOCK_LEN < from + count = omega (arith, less, low) in
        cut-has cut (found_at found ino) from count (p / BLOCK_LEN) at at (p % BLOCK_LEN) low high
        is ((part (p / BLOCK_LEN) at low high is).1.1 p refl touches);
  }
    where
      from : ℕ
      from = n / 4096

      count : ℕ
      count = 256 - n / 4096

      cut : ℕ → ℕ → Piece
      cut at block = zeros_in at block n

      part : (block at : ℕ) → from ≤ block → block < from + count →
          found_at found ino block ≡ Some at →
          IsPart ino (Truncate n) first ZEROS (cut at block) at block
      part block at low high is =
          let less : block < FILE_BLOCKS = omega (arith, high) in
          truncates-cut ino n first at block less (tagged block at less is) (omega (arith, low))

-- ---- where they lie

tag-within : (ino block at : ℕ) (tags : List ℕ) → get_or tags at 0 ≡ tag_of ino block →
    at < length tags
tag-within ino block at [] is = absurd (omega (arith, is))
tag-within ino block zero (tag ∷ tags) is = omega arith
tag-within ino block (suc at) (tag ∷ tags) is =
    let below = tag-within ino block at tags is in omega (arith, below)

pub write-within : (ino : ℕ) (found : BlockMap) (tags : List ℕ) (offset len : ℕ) →
    FindsBlocks ino found tags → offset + len ≤ 1048576 →
    (k : ℕ) (d : Piece) → k < length (write_pieces found ino offset len) →
    LiesWithin (length tags) len (get_or (write_pieces found ino offset len) k d)
write-within ino found tags offset len finds fits =
    are-at (LiesWithin (length tags) len) (write_pieces found ino offset len)
    (cut-all (LiesWithin (length tags) len) (λ at block. piece_in at block offset len)
    (found_at found ino) (offset / 4096) ((offset + len + 4095) / 4096 - offset / 4096)
    (λ block at low high is. record {
      at = tag-within ino block at tags ((finds block at (omega (arith, high, fits))).0 is);
      start = omega (arith, low, high);
      «end» = omega (arith, low, high);
      fits = omega (arith, low, high);
    }))

pub zeros-within : (ino : ℕ) (found : BlockMap) (tags : List ℕ) (n : ℕ) →
    FindsBlocks ino found tags → (k : ℕ) (d : Piece) → k < length (zero_pieces found ino n) →
    LiesWithin (length tags) 4096 (get_or (zero_pieces found ino n) k d)
zeros-within ino found tags n finds =
    are-at (LiesWithin (length tags) 4096) (zero_pieces found ino n)
    (cut-all (LiesWithin (length tags) 4096) (λ at block. zeros_in at block n)
    (found_at found ino) (n / 4096) (256 - n / 4096)
    (λ block at low high is. record {
      at = tag-within ino block at tags ((finds block at (omega (arith, high))).0 is);
      start = omega (arith, low, high);
      «end» = omega (arith, low, high);
      fits = omega (arith, low, high);
    }))
