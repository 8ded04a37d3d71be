-- Each block that was written is flushed, and the others stay as they are.
use Rattle.std.proofs.Common.{ℕ, suc, ◌<◌, ◌≡◌, ◌∙◌, ◌⊎◌, List, [], ◌∷◌, length, map, set, inl, inr}
use Rattle.std.proofs.Common.{refl, sym, ap, subst, arith}
use Rattle.std.proofs.lemmas.List.{get_or-set_other, get_or-set_same, length-set}
use Rattle.cfs_core.proofs.Order.{same_or_not}
use Rattle.cfs_pmem.specs.Images.{Seen}
use Rattle.cfs_pmem.specs.Objects.{IsEachImage, seen_at}
use Rattle.cfs_block.specs.BlockImages.{BlockStep, Content, IsBlockImage, IsSureBlock, content_of}
use Rattle.cfs_block.specs.BlockImages.{kept, wrote}
use Rattle.cfs_block.proofs.BlockLemmas.{sure_kept}
use Rattle.cfs_recover.specs.declared.piece.Piece.{Piece}
use Rattle.cfs_recover.specs.Held.{AllLieWithin}
use Rattle.cfs_recover.specs.Pieces.{bytes_of, with_flush, with_flushes, with_write, with_writes}
use Rattle.cfs_recover.specs.Pieces.{with_writes_through}
use Rattle.cfs_recover.specs.Sure.{AreSure, PiecesAreSure, SureBlocksAreOf}

-- one of the pieces is for the block
abbrev SomeAt : List Piece → ℕ → Type 0
SomeAt [] k = ⊥
SomeAt (piece ∷ pieces) k = (k ≡ piece.at) ⊎ SomeAt pieces k

-- each block is sure, or one of the pieces is for it
abbrev AreSureBut : List Piece → List (Seen BlockStep) → Type 0
AreSureBut pieces blocks =
    (k : ℕ) → k < length blocks → IsSureBlock (seen_at blocks k) ⊎ SomeAt pieces k

abbrev AllBelow : ℕ → List Piece → Type 0
AllBelow n [] = Unit {0}
AllBelow n (piece ∷ pieces) = (piece.at < n) × AllBelow n pieces

below-of : (blocks bytes : ℕ) (pieces : List Piece) → AllLieWithin blocks bytes pieces →
    AllBelow blocks pieces
below-of blocks bytes [] within = tt
below-of blocks bytes (piece ∷ pieces) within =
    (within.0.at, below-of blocks bytes pieces within.1)

-- a block after another one changed
stays-at : (blocks : List (Seen BlockStep)) (a k : ℕ) (new : Seen BlockStep) → (k ≡ a → ⊥) →
    seen_at (set blocks a new) k ≡ seen_at blocks k
stays-at blocks a k new apart =
    get_or-set_other blocks a k new (record { device = 0; also = []; history = [] }) apart

-- the blocks after some of the pieces are written, of which `all` are all
write-sure : (all pieces : List Piece) (bytes : List ℕ) (blocks : List (Seen BlockStep)) →
    ((k : ℕ) → SomeAt pieces k → SomeAt all k) → AreSureBut all blocks →
    AreSureBut all (with_writes pieces bytes blocks)
write-sure all [] bytes blocks into sure = sure
write-sure all (piece ∷ pieces) bytes blocks into sure =
    write-sure all pieces bytes (with_write piece.at piece.from (bytes_of piece bytes) blocks)
    (λ k some. into k (inr some)) one
  where
    one : AreSureBut all (with_write piece.at piece.from (bytes_of piece bytes) blocks)
    one k less = elim (same_or_not k piece.at) [
      | inl same ↦ inr (into k (inl same))
      | inr apart ↦ elim (sure k (omega (
        arith,
        less,
        length-set blocks piece.at
            (wrote piece.from (bytes_of piece bytes) (seen_at blocks piece.at)),
      ))) [
        | inl is ↦ inl (subst (λ (seen : Seen BlockStep). IsSureBlock seen)
            (sym (stays-at blocks piece.at k
            (wrote piece.from (bytes_of piece bytes) (seen_at blocks piece.at)) apart)) is)
        | inr some ↦ inr some
      ]
    ]

writes-long : (pieces : List Piece) (bytes : List ℕ) (blocks : List (Seen BlockStep)) →
    length (with_writes pieces bytes blocks) ≡ length blocks
writes-long [] bytes blocks = refl
writes-long (piece ∷ pieces) bytes blocks =
    writes-long pieces bytes (with_write piece.at piece.from (bytes_of piece bytes) blocks)
    ∙ length-set blocks piece.at
    (wrote piece.from (bytes_of piece bytes) (seen_at blocks piece.at))

flush-sure : (pieces : List Piece) (blocks : List (Seen BlockStep)) →
    AllBelow (length blocks) pieces → AreSureBut pieces blocks →
    AreSure (with_flushes pieces blocks)
flush-sure [] blocks below sure = λ k less. elim (sure k less) [
  | inl is ↦ is
  | inr some ↦ absurd some
]
flush-sure (piece ∷ pieces) blocks below sure =
    flush-sure pieces (with_flush piece.at blocks)
    (subst (λ (n : ℕ). AllBelow n pieces)
    (sym (length-set blocks piece.at (kept (seen_at blocks piece.at)))) below.1) one
  where
    one : AreSureBut pieces (with_flush piece.at blocks)
    one k less = elim (same_or_not k piece.at) [
      | inl same ↦ inl (sure_kept (seen_at blocks piece.at)
          (ap (seen_at (with_flush piece.at blocks)) same
          ∙ get_or-set_same blocks piece.at (kept (seen_at blocks piece.at))
          (record { device = 0; also = []; history = [] }) below.0))
      | inr apart ↦ elim (sure k (omega (
        arith,
        less,
        length-set blocks piece.at (kept (seen_at blocks piece.at)),
      ))) [
        | inl is ↦ inl (subst (λ (seen : Seen BlockStep). IsSureBlock seen)
            (sym (stays-at blocks piece.at k (kept (seen_at blocks piece.at)) apart)) is)
        | inr some ↦ elim some [
          | inl here ↦ absurd (apart here)
          | inr later ↦ inr later
        ]
      ]
    ]

pub pieces-sure : PiecesAreSure
pieces-sure pieces bytes blocks sure within =
    flush-sure pieces (with_writes pieces bytes blocks)
    (subst (λ (n : ℕ). AllBelow n pieces) (sym (writes-long pieces bytes blocks))
    (below-of (length blocks) (length bytes) pieces within))
    (write-sure pieces pieces bytes blocks (λ k some. some) (λ k less. inl (sure k less)))

-- each block that is written is flushed at once
pub through-sure : (pieces : List Piece) (bytes : List ℕ) (blocks : List (Seen BlockStep))
    (n : ℕ) → AllLieWithin (length blocks) n pieces → AreSure blocks →
    AreSure (with_writes_through pieces bytes blocks)
through-sure [] bytes blocks n within sure = sure
through-sure (piece ∷ pieces) bytes blocks n within sure =
    through-sure pieces bytes (with_flush piece.at mid) n
    (subst (λ (m : ℕ). AllLieWithin m n pieces) (sym long) within.1) one
  where
    mid : List (Seen BlockStep)
    mid = with_write piece.at piece.from (bytes_of piece bytes) blocks

    mid_long : length (with_write piece.at piece.from (bytes_of piece bytes) blocks)
        ≡ length blocks
    mid_long = length-set blocks piece.at
        (wrote piece.from (bytes_of piece bytes) (seen_at blocks piece.at))

    long : length (with_flush piece.at
        (with_write piece.at piece.from (bytes_of piece bytes) blocks)) ≡ length blocks
    long = length-set (with_write piece.at piece.from (bytes_of piece bytes) blocks) piece.at
        (kept (seen_at (with_write piece.at piece.from (bytes_of piece bytes) blocks) piece.at))
        ∙ mid_long

    one : AreSure (with_flush piece.at
        (with_write piece.at piece.from (bytes_of piece bytes) blocks))
    one k less = elim (same_or_not k piece.at) [
      | inl same ↦ sure_kept
          (seen_at (with_write piece.at piece.from (bytes_of piece bytes) blocks) piece.at)
          (ap (seen_at (with_flush piece.at
          (with_write piece.at piece.from (bytes_of piece bytes) blocks))) same
          ∙ get_or-set_same (with_write piece.at piece.from (bytes_of piece bytes) blocks) piece.at
          (kept (seen_at (with_write piece.at piece.from (bytes_of piece bytes) blocks) piece.at))
          (record { device = 0; also = []; history = [] })
          (let below = within.0.at in omega (arith, below, mid_long)))
      | inr apart ↦ subst (λ (seen : Seen BlockStep). IsSureBlock seen)
          (sym (stays-at (with_write piece.at piece.from (bytes_of piece bytes) blocks) piece.at k
          (kept (seen_at (with_write piece.at piece.from (bytes_of piece bytes) blocks) piece.at))
          apart
          ∙ stays-at blocks piece.at k
          (wrote piece.from (bytes_of piece bytes) (seen_at blocks piece.at)) apart))
          (sure k (omega (arith, less, long)))
    ]

-- the only images
sure-contents : (blocks : List (Seen BlockStep)) (contents : List Content) → AreSure blocks →
    IsEachImage IsBlockImage blocks contents → contents ≡ map content_of blocks
sure-contents [] [] sure each = refl
sure-contents [] (content ∷ contents) sure each = absurd each
sure-contents (block ∷ blocks) [] sure each = absurd each
sure-contents (block ∷ blocks) (content ∷ contents) sure each =
    ap (λ (c : Content). c ∷ contents) (sure 0 (omega arith) content each.0)
    ∙ ap (λ (cs : List Content). content_of block ∷ cs)
    (sure-contents blocks contents (λ k less. sure (suc k) (omega arith)) each.1)

pub sure-blocks : SureBlocksAreOf
sure-blocks blocks disk sure contents each = sure-contents blocks contents sure each
