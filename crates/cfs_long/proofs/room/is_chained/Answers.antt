use Rattle.std.proofs.Common.{◌≡◌, Bool, true, false, inl, inr, refl}
use Rattle.cfs_long.proofs.room.is_chained.Goals as goal

both : (b : Bool) → b ≡ true → b ≡ false → ⊥
both b t f = cc

pub returns-then-is_stageable : goal.returns-then-is_stageable
returns-then-is_stageable c = (λ e. inl (c.is_stageable.ensures.0 c.if-is_stageable.true), λ h. refl)

pub returns : goal.returns
returns c = (
  λ e. inr (c.is_long.ensures.0 e),
  λ h. elim h [
    | inl short ↦ absurd (both c.is_stageable.result (c.is_stageable.ensures.1 short) c.if-is_stageable.false)
    | inr long ↦ c.is_long.ensures.1 long
  ],
)
