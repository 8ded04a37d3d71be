-- Pieces that are each flushed before the next one is written come to the same contents.
use Rattle.std.proofs.Common.{ℕ, ◌≡◌, ◌∙◌, List, [], ◌∷◌, length, inl, inr, refl, sym, ap}
use Rattle.std.proofs.Common.{arith}
use Rattle.std.proofs.lemmas.Bool.{cases_lt}
use Rattle.std.proofs.lemmas.List.{length-set, set_past}
use Rattle.cfs_core.proofs.Order.{same_or_not}
use Rattle.cfs_pmem.specs.Images.{Seen}
use Rattle.cfs_pmem.specs.Objects.{seen_at}
use Rattle.cfs_block.specs.BlockImages.{BlockStep, Content, kept, with_bytes, wrote}
use Rattle.cfs_recover.specs.declared.piece.Piece.{Piece}
use Rattle.cfs_recover.specs.Held.{AllLieWithin, AreFull}
use Rattle.cfs_recover.specs.Pieces.{bytes_of, with_flush, with_flushes, with_write, with_writes}
use Rattle.cfs_recover.specs.Pieces.{with_writes_through}
use Rattle.cfs_recover.proofs.Held.{content_in, flushes-stay, set-here, set-there}
use Rattle.cfs_recover.proofs.Held.{writes-full}

-- they read the same
abbrev pub AreAlike : List (Seen BlockStep) → List (Seen BlockStep) → Type 0
AreAlike one other = (at : ℕ) → content_in one at ≡ content_in other at

write-alike : (xs ys : List (Seen BlockStep)) (a from : ℕ) (bytes : List ℕ) → AreAlike xs ys →
    length xs ≡ length ys → AreAlike (with_write a from bytes xs) (with_write a from bytes ys)
write-alike xs ys a from bytes alike long at = elim (same_or_not at a) [
  | inl same ↦ elim (cases_lt a (length xs)) [
    | inl less ↦
        set-here xs a (wrote from bytes (seen_at xs a)) at same less
        ∙ (ap (λ (c : Content). with_bytes from bytes c) (alike a)
        ∙ sym (set-here ys a (wrote from bytes (seen_at ys a)) at same (omega (arith, less, long))))
    | inr past ↦
        ap (λ (seens : List (Seen BlockStep)). content_in seens at)
        (set_past xs a (wrote from bytes (seen_at xs a)) past)
        ∙ (alike at
        ∙ sym (ap (λ (seens : List (Seen BlockStep)). content_in seens at)
        (set_past ys a (wrote from bytes (seen_at ys a)) (omega (arith, past, long)))))
  ]
  | inr apart ↦
      set-there xs a (wrote from bytes (seen_at xs a)) at apart
      ∙ (alike at ∙ sym (set-there ys a (wrote from bytes (seen_at ys a)) at apart))
]

through-alike : (pieces : List Piece) (bytes : List ℕ) (xs ys : List (Seen BlockStep)) →
    AreAlike xs ys → length xs ≡ length ys →
    AreAlike (with_writes_through pieces bytes xs) (with_writes pieces bytes ys)
through-alike [] bytes xs ys alike long = alike
through-alike (piece ∷ pieces) bytes xs ys alike long =
    through-alike pieces bytes
    (with_flush piece.at (with_write piece.at piece.from (bytes_of piece bytes) xs))
    (with_write piece.at piece.from (bytes_of piece bytes) ys)
    (λ at. flushes-stay (piece ∷ [])
    (with_write piece.at piece.from (bytes_of piece bytes) xs) at
    ∙ write-alike xs ys piece.at piece.from (bytes_of piece bytes) alike long at)
    (length-set (with_write piece.at piece.from (bytes_of piece bytes) xs) piece.at
    (kept (seen_at (with_write piece.at piece.from (bytes_of piece bytes) xs) piece.at))
    ∙ (length-set xs piece.at (wrote piece.from (bytes_of piece bytes) (seen_at xs piece.at))
    ∙ (long
    ∙ sym (length-set ys piece.at
    (wrote piece.from (bytes_of piece bytes) (seen_at ys piece.at))))))

writes-long : (pieces : List Piece) (bytes : List ℕ) (blocks : List (Seen BlockStep)) →
    length (with_writes pieces bytes blocks) ≡ length blocks
writes-long [] bytes blocks = refl
writes-long (piece ∷ pieces) bytes blocks =
    writes-long pieces bytes (with_write piece.at piece.from (bytes_of piece bytes) blocks)
    ∙ length-set blocks piece.at
    (wrote piece.from (bytes_of piece bytes) (seen_at blocks piece.at))

through-long : (pieces : List Piece) (bytes : List ℕ) (blocks : List (Seen BlockStep)) →
    length (with_writes_through pieces bytes blocks) ≡ length blocks
through-long [] bytes blocks = refl
through-long (piece ∷ pieces) bytes blocks =
    through-long pieces bytes
    (with_flush piece.at (with_write piece.at piece.from (bytes_of piece bytes) blocks))
    ∙ (length-set (with_write piece.at piece.from (bytes_of piece bytes) blocks) piece.at
    (kept (seen_at (with_write piece.at piece.from (bytes_of piece bytes) blocks) piece.at))
    ∙ length-set blocks piece.at
    (wrote piece.from (bytes_of piece bytes) (seen_at blocks piece.at)))

pub through-full : (pieces : List Piece) (bytes : List ℕ) (blocks : List (Seen BlockStep)) →
    AreFull blocks → AllLieWithin (length blocks) (length bytes) pieces →
    AreFull (with_writes_through pieces bytes blocks)
through-full pieces bytes blocks full within k less =
    ap (λ (c : Content). length c.bytes)
    (through-alike pieces bytes blocks blocks (λ at. refl) refl k)
    ∙ writes-full pieces bytes blocks full within k
    (omega (arith, less, writes-long pieces bytes blocks, through-long pieces bytes blocks))

-- the same contents as behind writes and flushes
pub through-same : (pieces : List Piece) (bytes : List ℕ) (blocks : List (Seen BlockStep)) →
    AreAlike (with_writes_through pieces bytes blocks)
    (with_flushes pieces (with_writes pieces bytes blocks))
through-same pieces bytes blocks at =
    through-alike pieces bytes blocks blocks (λ at. refl) refl at
    ∙ sym (flushes-stay pieces (with_writes pieces bytes blocks) at)
