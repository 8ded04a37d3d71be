-- What a walk over the entries keeps of those that it has passed.
use Rattle.std.specs.Prelude.{◌≡◌, ℕ, ◌+◌, Bool, true, false, ◌&&◌, ◌||◌, List, max, min, nat_lt}
use Rattle.std.specs.List.{list_any}
use Rattle.cfs_file.specs.declared.span.Span.{Span}
use Rattle.cfs_file.specs.declared.span.Span.TheVariants.{Nothing, Range, From}
use Rattle.cfs_file.specs.Span.{meets}
use Rattle.cfs_tracker.specs.declared.passed.Passed.{Passed}
use Rattle.cfs_tracker.specs.declared.pending.Pending.{Pending}
use Rattle.cfs_tracker.specs.Dispatch.{is_ahead}

-- a stretch overlaps the span
abbrev pub has_stretch : List Span → Span → Bool
has_stretch stretches span = list_any (λ s. meets s span) stretches

-- so of an entry behind all that was passed
abbrev pub is_before : {S : Type 0} → Passed → Pending S → Bool
is_before passed entry =
    nat_lt passed.last entry.place && has_stretch passed.stretches entry.span

-- What overlaps a stretch overlaps a live entry whose place is not past the last.
abbrev pub IsOf : {S : Type 0} → List (Pending S) → Passed → Type 0
IsOf entries passed =
    (span : Span) → has_stretch passed.stretches span ≡ true →
    list_any (is_ahead (passed.last + 1) span) entries ≡ true

-- ---- stretches are joined

abbrev pub is_nothing : Span → Bool
is_nothing Nothing = true
is_nothing (Range from to) = false
is_nothing (From from) = false

-- there is none yet, or they overlap
abbrev pub is_joinable : Span → Span → Bool
is_joinable stretch added = is_nothing stretch || meets stretch added

-- from the first position of both to the last
abbrev pub joined : Span → Span → Span
joined Nothing other = other
joined (Range from to) Nothing = Range from to
joined (Range from to) (Range start end) = Range (min from start) (max to end)
joined (Range from to) (From start) = From (min from start)
joined (From from) Nothing = From from
joined (From from) (Range start end) = From (min from start)
joined (From from) (From start) = From (min from start)
