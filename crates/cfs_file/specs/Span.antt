-- The positions of a file that a request touches.
use Rattle.std.specs.Prelude.{ℕ, ◌+◌, ◌-◌, ◌<◌, ◌≤◌, ◌^◌, length, min, max, nat_lt, nat_le, Bool, true, false, ◌&&◌, ◌||◌, cond}
use Rattle.cfs_file.specs.declared.request.Request.{Request}
use Rattle.cfs_file.specs.declared.request.Request.TheVariants as requests
use Rattle.cfs_file.specs.declared.span.Span.{Span}
use Rattle.cfs_file.specs.declared.span.Span.TheVariants.{Nothing, Range, From}

-- the span has the position
abbrev pub Holds : Span → ℕ → Type 0
Holds Nothing position = ⊥
Holds (Range from to) position = (from ≤ position) × (position < to)
Holds (From from) position = from ≤ position

-- The request, on a file of that length, touches the position: a write those of its bytes, a
-- truncate all from its new length on, a read those of the bytes that it gives.
abbrev pub Touches : Request → ℕ → ℕ → Type 0
Touches (requests.Write offset bytes) size position =
    (offset ≤ position) × (position < offset + length bytes)
Touches (requests.Append bytes) size position = (size ≤ position) × (position < size + length bytes)
Touches (requests.Truncate n) size position = n ≤ position
Touches (requests.Read offset count) size position =
    (offset ≤ position) × (position < offset + count) × (position < size)
Touches requests.Sync size position = ⊥

-- some position is in both
abbrev pub Overlap : Span → Span → Type 0
Overlap a b = (position : ℕ) × (Holds a position × Holds b position)

-- the later span has all positions of the earlier one
abbrev pub Covers : Span → Span → Type 0
Covers later earlier = (position : ℕ) → Holds earlier position → Holds later position

-- the end of a write or an append fits 64 bits
abbrev pub EndFits : Request → ℕ → Type 0
EndFits (requests.Write offset bytes) size = offset + length bytes < 2 ^ 64
EndFits (requests.Append bytes) size = size + length bytes < 2 ^ 64
EndFits (requests.Truncate n) size = Unit {0}
EndFits (requests.Read offset count) size = Unit {0}
EndFits requests.Sync size = Unit {0}

-- the positions from the first number on, below the second; without one it is `Nothing`
abbrev pub between : ℕ → ℕ → Span
between from to = cond (nat_lt from to) (Range from to) Nothing

-- the span of a request on a file of that length
abbrev pub span : Request → ℕ → Span
span (requests.Write offset bytes) size = between offset (offset + length bytes)
span (requests.Append bytes) size = between size (size + length bytes)
span (requests.Truncate n) size = From n
span (requests.Read offset count) size = between offset (offset + min (size - offset) count)
span requests.Sync size = Nothing

-- the test of an overlap
abbrev pub meets : Span → Span → Bool
meets Nothing b = false
meets (Range from to) Nothing = false
meets (Range from to) (Range other end) = nat_lt (max from other) (min to end)
meets (Range from to) (From other) = nat_lt (max from other) to
meets (From from) Nothing = false
meets (From from) (Range other end) = nat_lt (max other from) end
meets (From from) (From other) = true

-- the test of a cover, the later span first
abbrev pub reaches_over : Span → Span → Bool
reaches_over Nothing Nothing = true
reaches_over Nothing (Range from to) = nat_le to from
reaches_over Nothing (From from) = false
reaches_over (Range start end) Nothing = true
reaches_over (Range start end) (Range from to) =
    nat_le to from || (nat_le start from && nat_le to end)
reaches_over (Range start end) (From from) = false
reaches_over (From start) Nothing = true
reaches_over (From start) (Range from to) = nat_le to from || nat_le start from
reaches_over (From start) (From from) = nat_le start from
