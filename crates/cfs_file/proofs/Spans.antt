-- The tests of overlap and cover say what they mean, position by position.
use Rattle.std.proofs.Common.{◌-◌, ◌<◌, ◌≤◌, inl, inr, max, min, arith, refl}
use Rattle.std.specs.Bool.{Decides}
use Rattle.std.proofs.lemmas.Bool.{lt-ltb, ltb-true}
use Rattle.std.proofs.lemmas.Bool.Decides.{leb_tells, nat_tests}
use Rattle.cfs_file.specs.declared.span.Span.{Span}
use Rattle.cfs_file.specs.declared.span.Span.TheVariants.{Nothing, Range, From}
use Rattle.cfs_file.specs.Span.{Overlap, Covers, meets, reaches_over}

pub meets-overlap : (a b : Span) → Decides (meets a b) (Overlap a b)
meets-overlap Nothing b = (λ h. cc, λ o. absurd o.1.0)
meets-overlap (Range f t) Nothing = (λ h. cc, λ o. absurd o.1.1)
meets-overlap (Range f t) (Range g u) = (
  λ h. let lt : max f g < min t u = ltb-true _ _ h in
      (max f g, ((omega arith, omega arith), (omega arith, omega arith))),
  λ o. lt-ltb (max f g) (min t u) (omega arith),
)
meets-overlap (Range f t) (From g) = (
  λ h. let lt : max f g < t = ltb-true _ _ h in (max f g, ((omega arith, omega arith), omega arith)),
  λ o. lt-ltb (max f g) t (omega arith),
)
meets-overlap (From f) Nothing = (λ h. cc, λ o. absurd o.1.1)
meets-overlap (From f) (Range g u) = (
  λ h. let lt : max g f < u = ltb-true _ _ h in (max g f, (omega arith, (omega arith, omega arith))),
  λ o. lt-ltb (max g f) u (omega arith),
)
meets-overlap (From f) (From g) = (λ h. (max f g, (omega arith, omega arith)), λ o. refl)

pub reaches_over-covers : (later earlier : Span) → Decides (reaches_over later earlier) (Covers later earlier)
reaches_over-covers Nothing Nothing = (λ h p holds. holds, λ c. refl)
reaches_over-covers Nothing (Range f t) = (
  λ h p holds. let le : t ≤ f = grind (arith, nat_tests) in absurd (omega arith),
  λ c. elim (leb_tells t f) [ inl within ↦ within.0 | inr beyond ↦ absurd (c f (omega arith, beyond.1)) ],
)
reaches_over-covers Nothing (From g) = (λ h. cc, λ c. absurd (c g (omega arith)))
reaches_over-covers (Range s e) Nothing = (λ h p holds. absurd holds, λ c. refl)
reaches_over-covers (Range s e) (Range f t) = (
  λ h p holds. grind (arith, nat_tests),
  λ c. elim (leb_tells t f) [
    | inl within ↦ grind (arith, nat_tests)
    | inr beyond ↦ let first : (s ≤ f) × (f < e) = c f (omega arith, beyond.1) in
        let last : (s ≤ t - 1) × (t - 1 < e) = c (t - 1) (omega arith, omega arith) in
        grind (arith, nat_tests)
  ],
)
reaches_over-covers (Range s e) (From g) =
    (λ h. cc, λ c. let far : (s ≤ max g e) × (max g e < e) = c (max g e) (omega arith) in absurd (omega arith))
reaches_over-covers (From s) Nothing = (λ h p holds. absurd holds, λ c. refl)
reaches_over-covers (From s) (Range f t) = (
  λ h p holds. grind (arith, nat_tests),
  λ c. elim (leb_tells t f) [
    | inl within ↦ grind (arith, nat_tests)
    | inr beyond ↦ let first : s ≤ f = c f (omega arith, beyond.1) in grind (arith, nat_tests)
  ],
)
reaches_over-covers (From s) (From g) = (
  λ h p holds. let le : s ≤ g = grind (arith, nat_tests) in omega arith,
  λ c. let first : s ≤ g = c g (omega arith) in grind (arith, nat_tests),
)
