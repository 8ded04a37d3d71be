-- Pieces of writes and truncates.
use Rattle.std.proofs.Common.{ℕ, ◌+◌, ◌<◌, ◌≡◌, ◌∙◌, List, length, get_or, refl, ap, arith}
use Rattle.std.proofs.lemmas.List.{get_or-replicate}
use Rattle.cfs_block.specs.BlockImages.{zeros}
use Rattle.cfs_block.proofs.BlockLemmas.{length-zeros, zeros-are}
use Rattle.cfs_recover.specs.declared.blocks.TheConstants.{ZEROS}
use Rattle.cfs_recover.specs.Cut.{TruncatesAreCut, WritesAreCut}

pub writes-cut : WritesAreCut
writes-cut ino offset bytes first at block less here below above = (
  record {
    block = block;
    within = less;
    tag = here;
    fits = omega (arith, below, above);
    touched = λ k up top. (omega (arith, up, below), omega (arith, up, top, below, above));
  },
  (
    record {
      block = block;
      within = less;
      tag = here;
      own = λ k inside. ap (λ (j : ℕ). get_or bytes j 0) (omega (arith, inside, below, above));
    },
    λ p same touched.
        let low = touched.0 in
        let high = touched.1 in
        (refl, omega (arith, same, low, below), omega (arith, same, high, low, below, above)),
  ),
)

are-zeros : ZEROS ≡ zeros
unfolding zeros
are-zeros = refl

pub zeros-long : length ZEROS ≡ 4096
zeros-long = ap (λ (bytes : List ℕ). length bytes) are-zeros ∙ length-zeros

zero-at : (k : ℕ) → k < 4096 → get_or ZEROS k 0 ≡ 0
zero-at k less =
    ap (λ (bytes : List ℕ). get_or bytes k 0) (are-zeros ∙ zeros-are)
    ∙ get_or-replicate 4096 k 0 0 less

pub truncates-cut : TruncatesAreCut
truncates-cut ino n first at block less here below = (
  record {
    block = block;
    within = less;
    tag = here;
    fits = omega (arith, below);
    touched = λ k up top. omega (arith, up, below);
  },
  (
    record {
      block = block;
      within = less;
      tag = here;
      own = λ k inside. zero-at (0 + k) (omega (arith, inside, below));
    },
    λ p same touched.
        (refl, omega (arith, same, touched, below), omega (arith, same, touched, below)),
  ),
)
