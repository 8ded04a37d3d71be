-- The invariant gives all that is promised after each event.
use Rattle.std.proofs.Common.{◌≡◌, inl, ℕ, ◌+◌, ◌≤◌, true, false, length, get_or, nat_lt, refl, sym, ap, ◌∙◌}
use Rattle.cfs_file.specs.Span.{Holds}
use Rattle.cfs_core.specs.declared.image.Image.{Image}
use Rattle.cfs_core.specs.declared.inode_core.Core.{Core}
use Rattle.cfs_core.specs.Words.{is_live, track}
use Rattle.cfs_core.specs.Medium.{file, is_image, stored, stored_byte}
use Rattle.cfs_core.specs.Good.{IsGood}
use Rattle.cfs_core.proofs.Images.{at-next, length-stored, rests-stored, size-allowed}
use Rattle.cfs_core.proofs.Kept.{IsFree, IsKept, IsLive, at, file_at}
use Rattle.cfs_core.proofs.Order.{gates-rise}
use Rattle.cfs_core.proofs.Recovers.{recovers, stored-free}
use Rattle.cfs_core.proofs.Registers.{file_at-all, same-bits}
use Rattle.cfs_core.proofs.Served.{served}

-- where no entry is live
nothing-live : (core : Core) → ((place : ℕ) → is_live (track core.tracks place).state ≡ false) →
    (k : ℕ) → IsLive core k → ⊥
nothing-live core none k live =
    let off : is_live (at core k).state ≡ false = rw (at-next core k) at (none (k + 1)) in
    cc

drained : (core : Core) → IsKept core → (image : Image) → is_image core image ≡ true →
    ((place : ℕ) → is_live (track core.tracks place).state ≡ false) → stored image ≡ file core
drained core kept image h none =
    same-bits (stored image) (file_at core (length core.log))
    (λ p. stored-free core kept image h p (λ i less live alters. nothing-live core none i live))
    (λ p. ap (λ (n : ℕ). nat_lt p n) (length-stored image)
    ∙ (kept.stored_.long image.size p (size-allowed core image h)
    (λ i live. absurd (nothing-live core none i live))
    ∙ ap (λ f. nat_lt p (length f)) (sym (file_at-all core))))
    ∙ file_at-all core

zero_past : (core : Core) → IsKept core → (image : Image) (p : ℕ) → is_image core image ≡ true →
    image.size ≤ p →
    ((place : ℕ) → is_live (track core.tracks place).state ≡ true →
    Holds (track core.tracks place).span p → ⊥) → stored_byte image p ≡ 0
zero_past core kept image p h past none =
    rests-stored core image p (get_or (file_at core (length core.log)) p 0) h
    (kept.stored_.rests_free (length core.log) p (inl refl) free)
    ∙ kept.stored_.zero_past (length core.log) image.size p (inl refl)
    (size-allowed core image h) past free
  where
    free : IsFree core (length core.log) p
    free i less live alters =
        let here : at core i ≡ track core.tracks (i + 1) = sym (at-next core i) in
        none (i + 1) (rw here at live) (rw here at alters.1)

pub good-kept : (core : Core) → IsKept core → IsGood core
good-kept core kept = record {
  legal = kept.legal;
  served = served core kept;
  recovers = recovers core kept;
  rises = λ image h. gates-rise core image kept.ordered h;
  drained = drained core kept;
  zero_past = zero_past core kept;
}
