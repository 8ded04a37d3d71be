-- What stands in the blocks once the pieces of a request are written.
use Rattle.std.proofs.Common.{ℕ, ◌+◌, ◌-◌, ◌*◌, ◌/◌, ◌%◌, ◌<◌, ◌≤◌, ◌≡◌, ◌∙◌, ◌⊎◌, List, [], ◌∷◌}
use Rattle.std.proofs.Common.{drop, length, map, get_or, set, inl, inr, refl, sym, ap, subst, arith}
use Rattle.std.proofs.Math.ListN.{get_or-map}
use Rattle.std.proofs.lemmas.Bool.{cases_lt}
use Rattle.std.proofs.lemmas.List.{get_or-drop, get_or-set_other, get_or-set_same, get_or-take}
use Rattle.std.proofs.lemmas.List.{length-drop, length-set, length-take-le, set_past}
use Rattle.cfs_file.specs.declared.request.Request.{Request}
use Rattle.cfs_file.specs.declared.sizes.TheConstants.{BLOCK_LEN, FILE_BLOCKS}
use Rattle.cfs_core.proofs.Order.{same_or_not}
use Rattle.cfs_pmem.specs.Images.{Seen, patched}
use Rattle.cfs_pmem.specs.Objects.{seen_at}
use Rattle.cfs_pmem.proofs.Patches.{length-patched, patched_above, patched_below, patched_inside}
use Rattle.cfs_block.specs.BlockImages.{BlockStep, Content, content_of, kept, wrote}
use Rattle.cfs_medium.specs.Depicts.{IsFor, content_at}
use Rattle.cfs_medium.specs.Store.{tag_of}
use Rattle.cfs_home.specs.Parts.{own_byte}
use Rattle.cfs_recover.specs.declared.piece.Piece.{Piece}
use Rattle.cfs_recover.specs.Pieces.{LiesWithin, bytes_of, with_flush, with_flushes, with_write}
use Rattle.cfs_recover.specs.Pieces.{with_writes}
use Rattle.cfs_recover.specs.Held.{AllBring, AllLieWithin, AreFull, Brings, IsInPiece, PiecesHold}
use Rattle.cfs_recover.specs.Held.{SomeHas}

abbrev pub content_in : List (Seen BlockStep) → ℕ → Content
content_in blocks at = content_of (seen_at blocks at)

byte_in : List (Seen BlockStep) → ℕ → ℕ → ℕ
byte_in blocks at k = get_or (content_in blocks at).bytes k 0

-- ---- one write

-- the content of a block after another one changed, and after it changed itself
pub set-there : (blocks : List (Seen BlockStep)) (a : ℕ) (new : Seen BlockStep) (at : ℕ) →
    (at ≡ a → ⊥) → content_in (set blocks a new) at ≡ content_in blocks at
set-there blocks a new at apart =
    ap content_of
    (get_or-set_other blocks a at new (record { device = 0; also = []; history = [] }) apart)

pub set-here : (blocks : List (Seen BlockStep)) (a : ℕ) (new : Seen BlockStep) (at : ℕ) → at ≡ a →
    a < length blocks → content_in (set blocks a new) at ≡ content_of new
set-here blocks a new at same less =
    ap (content_in (set blocks a new)) same
    ∙ ap content_of
    (get_or-set_same blocks a new (record { device = 0; also = []; history = [] }) less)

-- what a write of the right length leaves
record Fits (blocks : List (Seen BlockStep)) (a from : ℕ) (bytes : List ℕ) : Type 0 where
  less : a < length blocks
  full : length (content_in blocks a).bytes ≡ 4096
  fits : from + length bytes ≤ 4096

write-tag : (blocks : List (Seen BlockStep)) (a from : ℕ) (bytes : List ℕ) (at : ℕ) →
    Fits blocks a from bytes →
    (content_in (with_write a from bytes blocks) at).tag ≡ (content_in blocks at).tag
write-tag blocks a from bytes at fits = elim (same_or_not at a) [
  | inl same ↦
      ap (λ (c : Content). c.tag)
      (set-here blocks a (wrote from bytes (seen_at blocks a)) at same fits.less)
      ∙ ap (λ (k : ℕ). (content_in blocks k).tag) (sym same)
  | inr apart ↦
      ap (λ (c : Content). c.tag)
      (set-there blocks a (wrote from bytes (seen_at blocks a)) at apart)
]

write-long : (blocks : List (Seen BlockStep)) (a from : ℕ) (bytes : List ℕ) (at : ℕ) →
    Fits blocks a from bytes →
    length (content_in (with_write a from bytes blocks) at).bytes
    ≡ length (content_in blocks at).bytes
write-long blocks a from bytes at fits = elim (same_or_not at a) [
  | inl same ↦
      ap (λ (c : Content). length c.bytes)
      (set-here blocks a (wrote from bytes (seen_at blocks a)) at same fits.less)
      ∙ (length-patched (content_in blocks a).bytes from bytes
      (omega (arith, fits.full, fits.fits))
      ∙ ap (λ (k : ℕ). length (content_in blocks k).bytes) (sym same))
  | inr apart ↦
      ap (λ (c : Content). length c.bytes)
      (set-there blocks a (wrote from bytes (seen_at blocks a)) at apart)
]

write-beside : (blocks : List (Seen BlockStep)) (a from : ℕ) (bytes : List ℕ) (at k : ℕ) →
    Fits blocks a from bytes →
    ((a ≡ at) × (from ≤ k) × (k < from + length bytes) → ⊥) →
    byte_in (with_write a from bytes blocks) at k ≡ byte_in blocks at k
unfolding byte_in
write-beside blocks a from bytes at k fits out = elim (same_or_not at a) [
  | inl same ↦
      ap (λ (c : Content). get_or c.bytes k 0)
      (set-here blocks a (wrote from bytes (seen_at blocks a)) at same fits.less)
      ∙ (outside same ∙ ap (λ (j : ℕ). get_or (content_in blocks j).bytes k 0) (sym same))
  | inr apart ↦
      ap (λ (c : Content). get_or c.bytes k 0)
      (set-there blocks a (wrote from bytes (seen_at blocks a)) at apart)
]
  where
    outside : at ≡ a →
        get_or (patched (content_in blocks a).bytes from bytes) k 0
        ≡ get_or (content_in blocks a).bytes k 0
    outside same = elim (cases_lt k from) [
      | inl below ↦ patched_below (content_in blocks a).bytes from bytes k
          (omega (arith, fits.full, fits.fits)) below
      | inr up ↦ elim (cases_lt k (from + length bytes)) [
        | inl inside ↦ absurd (out (sym same, up, inside))
        | inr above ↦ patched_above (content_in blocks a).bytes from bytes k
            (omega (arith, fits.full, fits.fits)) above
      ]
    ]

write-inside : (blocks : List (Seen BlockStep)) (a from : ℕ) (bytes : List ℕ) (at k : ℕ) →
    Fits blocks a from bytes → a ≡ at → from ≤ k → k < from + length bytes →
    byte_in (with_write a from bytes blocks) at k ≡ get_or bytes (k - from) 0
unfolding byte_in
write-inside blocks a from bytes at k fits same up inside =
    let place : from + (k - from) ≡ k = omega arith in
    ap (λ (c : Content). get_or c.bytes k 0)
    (set-here blocks a (wrote from bytes (seen_at blocks a)) at (sym same) fits.less)
    ∙ (ap (λ (j : ℕ). get_or (patched (content_in blocks a).bytes from bytes) j 0) (sym place)
    ∙ patched_inside (content_in blocks a).bytes from bytes (k - from)
    (omega (arith, fits.full, fits.fits)) (omega arith))

-- ---- all pieces

piece-len : (piece : Piece) (bytes : List ℕ) (blocks : ℕ) →
    LiesWithin blocks (length bytes) piece →
    length (bytes_of piece bytes) ≡ piece.end - piece.start
piece-len piece bytes blocks within =
    length-take-le (piece.end - piece.start) (drop piece.start bytes)
    (omega (arith, within.start, within.«end», length-drop piece.start bytes))

fits-in : (blocks : List (Seen BlockStep)) (piece : Piece) (bytes : List ℕ) → AreFull blocks →
    LiesWithin (length blocks) (length bytes) piece →
    Fits blocks piece.at piece.from (bytes_of piece bytes)
fits-in blocks piece bytes full within = record {
  less = within.at;
  full = full piece.at within.at;
  fits = omega (arith, within.fits, piece-len piece bytes (length blocks) within);
}

still-full : (blocks : List (Seen BlockStep)) (piece : Piece) (bytes : List ℕ) → AreFull blocks →
    LiesWithin (length blocks) (length bytes) piece →
    AreFull (with_write piece.at piece.from (bytes_of piece bytes) blocks)
still-full blocks piece bytes full within k less =
    write-long blocks piece.at piece.from (bytes_of piece bytes) k
    (fits-in blocks piece bytes full within)
    ∙ full k (omega (
      arith,
      less,
      length-set blocks piece.at
          (wrote piece.from (bytes_of piece bytes) (seen_at blocks piece.at)),
    ))

still-within : (blocks : List (Seen BlockStep)) (a from n : ℕ) (bytes : List ℕ)
    (pieces : List Piece) → AllLieWithin (length blocks) n pieces →
    AllLieWithin (length (with_write a from bytes blocks)) n pieces
still-within blocks a from n bytes pieces within =
    subst (λ (m : ℕ). AllLieWithin m n pieces)
    (sym (length-set blocks a (wrote from bytes (seen_at blocks a)))) within

in-or-not : (piece : Piece) (at k : ℕ) → IsInPiece piece at k ⊎ (IsInPiece piece at k → ⊥)
in-or-not piece at k = elim (same_or_not piece.at at) [
  | inl same ↦ elim (cases_lt k piece.from) [
    | inl below ↦ inr (λ h. let low = h.1 in omega arith)
    | inr up ↦ elim (cases_lt k (piece.from + (piece.end - piece.start))) [
      | inl inside ↦ inl (same, up, inside)
      | inr above ↦ inr (λ h. let high = h.2 in omega arith)
    ]
  ]
  | inr apart ↦ inr (λ h. apart h.0)
]

pub tags-stay : (pieces : List Piece) (bytes : List ℕ) (blocks : List (Seen BlockStep)) (at : ℕ) →
    AreFull blocks → AllLieWithin (length blocks) (length bytes) pieces →
    (content_in (with_writes pieces bytes blocks) at).tag ≡ (content_in blocks at).tag
tags-stay [] bytes blocks at full within = refl
tags-stay (piece ∷ pieces) bytes blocks at full within =
    tags-stay pieces bytes (with_write piece.at piece.from (bytes_of piece bytes) blocks) at
    (still-full blocks piece bytes full within.0)
    (still-within blocks piece.at piece.from (length bytes) (bytes_of piece bytes) pieces within.1)
    ∙ write-tag blocks piece.at piece.from (bytes_of piece bytes) at
    (fits-in blocks piece bytes full within.0)

pub flushes-stay : (pieces : List Piece) (blocks : List (Seen BlockStep)) (at : ℕ) →
    content_in (with_flushes pieces blocks) at ≡ content_in blocks at
flushes-stay [] blocks at = refl
flushes-stay (piece ∷ pieces) blocks at =
    flushes-stay pieces (with_flush piece.at blocks) at ∙ one
  where
    one : content_in (with_flush piece.at blocks) at ≡ content_in blocks at
    one = elim (same_or_not at piece.at) [
      | inl same ↦ elim (cases_lt piece.at (length blocks)) [
        | inl less ↦
            set-here blocks piece.at (kept (seen_at blocks piece.at)) at same less
            ∙ ap (content_in blocks) (sym same)
        | inr past ↦
            ap (λ (seens : List (Seen BlockStep)). content_in seens at)
            (set_past blocks piece.at (kept (seen_at blocks piece.at)) past)
      ]
      | inr apart ↦ set-there blocks piece.at (kept (seen_at blocks piece.at)) at apart
    ]

pub writes-full : (pieces : List Piece) (bytes : List ℕ) (blocks : List (Seen BlockStep)) →
    AreFull blocks → AllLieWithin (length blocks) (length bytes) pieces →
    AreFull (with_writes pieces bytes blocks)
writes-full [] bytes blocks full within = full
writes-full (piece ∷ pieces) bytes blocks full within =
    writes-full pieces bytes (with_write piece.at piece.from (bytes_of piece bytes) blocks)
    (still-full blocks piece bytes full within.0)
    (still-within blocks piece.at piece.from (length bytes) (bytes_of piece bytes) pieces within.1)

flushes-long : (pieces : List Piece) (blocks : List (Seen BlockStep)) →
    length (with_flushes pieces blocks) ≡ length blocks
flushes-long [] blocks = refl
flushes-long (piece ∷ pieces) blocks =
    flushes-long pieces (with_flush piece.at blocks)
    ∙ length-set blocks piece.at (kept (seen_at blocks piece.at))

pub flushes-full : (pieces : List Piece) (blocks : List (Seen BlockStep)) → AreFull blocks →
    AreFull (with_flushes pieces blocks)
flushes-full pieces blocks full k less =
    ap (λ (c : Content). length c.bytes) (flushes-stay pieces blocks k)
    ∙ full k (omega (arith, less, flushes-long pieces blocks))

-- a position in a piece has its own byte behind the write
own-inside : (ino : ℕ) (request : Request) (first : List Content) (piece : Piece)
    (bytes : List ℕ) (blocks : List (Seen BlockStep)) (at p : ℕ) → AreFull blocks →
    LiesWithin (length blocks) (length bytes) piece → Brings ino request first bytes piece →
    p / BLOCK_LEN < FILE_BLOCKS → IsFor ino (p / BLOCK_LEN) first at →
    IsInPiece piece at (p % BLOCK_LEN) →
    byte_in (with_write piece.at piece.from (bytes_of piece bytes) blocks) at (p % BLOCK_LEN)
    ≡ own_byte request p
own-inside ino request first piece bytes blocks at p full within brings less here inside =
    write-inside blocks piece.at piece.from (bytes_of piece bytes) at (p % BLOCK_LEN)
    (fits-in blocks piece bytes full within) inside.0 inside.1 high
    ∙ (get_or-take (piece.end - piece.start) (drop piece.start bytes)
    (p % BLOCK_LEN - piece.from) 0 short
    ∙ (get_or-drop piece.start bytes (p % BLOCK_LEN - piece.from) 0
    ∙ (brings.own (p % BLOCK_LEN - piece.from) short ∙ ap (own_byte request) place)))
  where
    low : piece.from ≤ p % BLOCK_LEN
    low = inside.1

    top : p % BLOCK_LEN < piece.from + (piece.end - piece.start)
    top = inside.2

    high : p % BLOCK_LEN < piece.from + length (bytes_of piece bytes)
    high = omega (arith, top, piece-len piece bytes (length blocks) within)

    short : p % BLOCK_LEN - piece.from < piece.end - piece.start
    short = omega (arith, top, low)

    one : tag_of ino (p / BLOCK_LEN) ≡ tag_of ino brings.block
    one = sym here ∙ (ap (λ (j : ℕ). (content_at first j).tag) (sym inside.0) ∙ brings.tag)

    place : BLOCK_LEN * brings.block + (piece.from + (p % BLOCK_LEN - piece.from)) ≡ p
    place = omega (arith, one, low)

pieces-own : (ino : ℕ) (request : Request) (first : List Content) (pieces : List Piece)
    (bytes : List ℕ) (blocks : List (Seen BlockStep)) (at p : ℕ) → AreFull blocks →
    AllLieWithin (length blocks) (length bytes) pieces → AllBring ino request first bytes pieces →
    p / BLOCK_LEN < FILE_BLOCKS → IsFor ino (p / BLOCK_LEN) first at →
    SomeHas pieces at (p % BLOCK_LEN)
    ⊎ (byte_in blocks at (p % BLOCK_LEN) ≡ own_byte request p) →
    byte_in (with_writes pieces bytes blocks) at (p % BLOCK_LEN) ≡ own_byte request p
pieces-own ino request first [] bytes blocks at p full within bring less here has = elim has [
  | inl some ↦ absurd some
  | inr stands ↦ stands
]
pieces-own ino request first (piece ∷ pieces) bytes blocks at p full within bring less here has =
    pieces-own ino request first pieces bytes
    (with_write piece.at piece.from (bytes_of piece bytes) blocks) at p
    (still-full blocks piece bytes full within.0)
    (still-within blocks piece.at piece.from (length bytes) (bytes_of piece bytes) pieces within.1)
    bring.1 less here (elim (in-or-not piece at (p % BLOCK_LEN)) [
      | inl inside ↦ inr (own-inside ino request first piece bytes blocks at p full within.0
          bring.0 less here inside)
      | inr out ↦ elim has [
        | inl some ↦ elim some [ inl inside ↦ absurd (out inside) | inr later ↦ inl later ]
        | inr stands ↦ inr (write-beside blocks piece.at piece.from (bytes_of piece bytes) at
            (p % BLOCK_LEN) (fits-in blocks piece bytes full within.0)
            (λ h. out (
              h.0,
              h.1,
              (let top = h.2 in
                  omega (arith, top, piece-len piece bytes (length blocks) within.0)),
            )) ∙ stands)
      ]
    ])

-- ---- the contents

pub contents-at : (blocks : List (Seen BlockStep)) (at : ℕ) →
    content_at (map content_of blocks) at ≡ content_in blocks at
contents-at blocks at =
    get_or-map content_of blocks at (record { device = 0; also = []; history = [] })

pub pieces-hold : PiecesHold
unfolding byte_in
pieces-hold ino request pieces bytes blocks full within bring all at p less here touched =
    ap (λ (c : Content). get_or c.bytes (p % BLOCK_LEN) 0)
    (contents-at (with_flushes pieces (with_writes pieces bytes blocks)) at
    ∙ flushes-stay pieces (with_writes pieces bytes blocks) at)
    ∙ pieces-own ino request (map content_of blocks) pieces bytes blocks at p full within bring less
    first_here (inl (all at p less first_here touched))
  where
    first_here : IsFor ino (p / BLOCK_LEN) (map content_of blocks) at
    first_here =
        ap (λ (c : Content). c.tag) (contents-at blocks at)
        ∙ (sym (ap (λ (c : Content). c.tag)
        (contents-at (with_flushes pieces (with_writes pieces bytes blocks)) at
        ∙ flushes-stay pieces (with_writes pieces bytes blocks) at)
        ∙ tags-stay pieces bytes blocks at full within)
        ∙ here)
