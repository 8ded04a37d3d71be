-- The spans that a tree keeps, and what is asked of them.
use Rattle.std.specs.Prelude.{ℕ, ◌+◌, ◌*◌, ◌^◌, ◌<◌, ◌≤◌, Option, None, Some, List, [], ◌∷◌, length, nat_lt, nat_eq, cond, IsSomeAnd}
use Rattle.std.specs.List.{count_by}
use Rattle.std.specs.Map.{lookup}
use Rattle.cfs_file.specs.declared.span.Span.{Span}
use Rattle.cfs_file.specs.declared.span.Span.TheVariants.{Nothing, Range, From}
use Rattle.cfs_file.specs.Span.{Overlap, Covers, meets}
use Rattle.cfs_tree.specs.Nodes.{start_of}

-- What a tree keeps: the spans with their places, ordered by where they start and then by place;
-- and how many more it has room for.
pub record SpanList : Type 0 where
  pub spans : List (ℕ × Span)
  pub spare : ℕ

-- the span kept for a place
abbrev pub span_at : List (ℕ × Span) → ℕ → Option Span
span_at spans place = lookup (λ kept. nat_eq place kept) spans

-- The order of the list, as one number: where the span starts, and then the place.
abbrev pub order_of : ℕ × Span → ℕ
order_of kept = start_of kept.1 * 2 ^ 64 + kept.0

-- the list with one more, where the order puts it
abbrev pub insert_in_order : ℕ × Span → List (ℕ × Span) → List (ℕ × Span)
insert_in_order new [] = new ∷ []
insert_in_order new (kept ∷ rest) =
    cond (nat_lt (order_of new) (order_of kept)) (new ∷ kept ∷ rest)
    (kept ∷ insert_in_order new rest)

-- the list without a place
abbrev pub without_place : ℕ → List (ℕ × Span) → List (ℕ × Span)
without_place place [] = []
without_place place (kept ∷ rest) =
    cond (nat_eq place kept.0) (without_place place rest) (kept ∷ without_place place rest)

-- the numbers of the span, where it has them, are below the greatest of 64 bits
abbrev pub IsBounded : Span → Type 0
IsBounded Nothing = Unit {0}
IsBounded (Range from to) = (from + 1 < 2 ^ 64) × (to + 1 < 2 ^ 64)
IsBounded (From from) = from + 1 < 2 ^ 64

-- the span has a position
abbrev pub HasPositions : Span → Type 0
HasPositions Nothing = ⊥
HasPositions (Range from to) = from < to
HasPositions (From from) = Unit {0}

-- the least number of which P holds, and none exactly where P holds of none
abbrev pub IsLeast : (ℕ → Type 0) → Option ℕ → Type 0
IsLeast P None = (n : ℕ) → P n → ⊥
IsLeast P (Some least) = P least × ((n : ℕ) → P n → least ≤ n)

-- a place between the two, whose span meets the asked one
abbrev pub OverlapsBetween : List (ℕ × Span) → Span → ℕ → ℕ → ℕ → Type 0
OverlapsBetween spans asked after before place =
    (after < place) × (place < before)
    × IsSomeAnd (span_at spans place) (λ kept. Overlap asked kept)

-- a place between the two, whose span the asked one covers
abbrev pub CoveredBetween : List (ℕ × Span) → Span → ℕ → ℕ → ℕ → Type 0
CoveredBetween spans asked after before place =
    (after < place) × (place < before) × IsSomeAnd (span_at spans place) (λ kept. Covers asked kept)

-- how many of the spans the asked one overlaps
abbrev pub overlap_count : Span → List (ℕ × Span) → ℕ
overlap_count asked spans = count_by (λ kept. meets asked kept.1) spans

-- At most (k + 1) (h + 1) steps, where k spans overlap the asked one and the tree is h high; and of
-- n spans it is at most so high that 2 ^ h is at most (n + 1) ^ 2.
abbrev pub IsWithinBound : List (ℕ × Span) → Span → ℕ → Type 0
IsWithinBound spans asked steps =
    (h : ℕ) × (2 ^ h ≤ (length spans + 1) ^ 2) × (steps ≤ (overlap_count asked spans + 1) * (h + 1))
