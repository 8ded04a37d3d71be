-- The entries and the reads of a file, and what stands in whose way. A place is at least 1, and
-- below the greatest number of 64 bits.
use Rattle.std.specs.Prelude.{ℕ, ◌+◌, ◌^◌, ◌<◌, ◌⊎◌, List, nat_lt, cond, IsSomeAnd, MatchOption, Bool, true, false}
use Rattle.cfs_file.specs.declared.span.Span.{Span}
use Rattle.cfs_file.specs.declared.span.Span.TheVariants.{Nothing, Range, From}
use Rattle.cfs_tree.specs.Spans.{SpanList, span_at, insert_in_order, OverlapsBetween, CoveredBetween}

-- The spans of the live entries and of the unserved reads, with their places, each list ordered by
-- where the spans start and then by place; and the room for more in each.
pub record Lists : Type 0 where
  pub entries : List (ℕ × Span)
  pub reads : List (ℕ × Span)
  pub entry_spare : ℕ
  pub read_spare : ℕ

abbrev pub lists_of : SpanList → SpanList → Lists
lists_of entries reads = record {
  entries = entries.spans;
  reads = reads.spans;
  entry_spare = entries.spare;
  read_spare = reads.spare;
}

-- whether the span has a position
abbrev pub some_position : Span → Bool
some_position Nothing = false
some_position (Range from to) = nat_lt from to
some_position (From from) = true

-- Empty, or with numbers below the greatest of 64 bits.
abbrev pub IsFit : Span → Type 0
IsFit Nothing = Unit {0}
IsFit (Range from to) = from < to → (from + 1 < 2 ^ 64) × (to + 1 < 2 ^ 64)
IsFit (From from) = from + 1 < 2 ^ 64

-- the list with one more, unless its span is empty
abbrev pub added : ℕ → Span → List (ℕ × Span) → List (ℕ × Span)
added place span spans = cond (some_position span) (insert_in_order (place, span) spans) spans

-- A place that this one waits for: an entry for any below it that overlaps, a read for
-- an entry alone.
abbrev pub Blocks : Lists → ℕ → ℕ → Type 0
Blocks lists place n =
    MatchOption (span_at lists.entries place)
    (IsSomeAnd (span_at lists.reads place) (λ span. OverlapsBetween lists.entries span 0 place n))
    (λ span. OverlapsBetween lists.entries span 0 place n
    ⊎ OverlapsBetween lists.reads span 0 place n)

-- a read with a place between the two overlaps the first, which is an entry
abbrev pub IsReadBetween : Lists → ℕ → ℕ → ℕ → Type 0
IsReadBetween lists first last read =
    IsSomeAnd (span_at lists.entries first)
    (λ span. OverlapsBetween lists.reads span first last read)

-- an entry between the two that the entry of this place covers, and that no read between needs
abbrev pub IsToMark : Lists → ℕ → ℕ → ℕ → Type 0
IsToMark lists place after n =
    IsSomeAnd (span_at lists.entries place)
    (λ span. CoveredBetween lists.entries span after place n)
    × ((read : ℕ) → IsReadBetween lists n place read → ⊥)

-- a read above the entry of this place that overlaps it
abbrev pub IsReaderOf : Lists → ℕ → ℕ → Type 0
IsReaderOf lists place n =
    IsSomeAnd (span_at lists.entries place)
    (λ span. OverlapsBetween lists.reads span place 18446744073709551615 n)

-- the answer whether there is such a read
abbrev pub ReadBetween : Bool → Lists → ℕ → ℕ → Type 0
ReadBetween true lists first last = (read : ℕ) × IsReadBetween lists first last read
ReadBetween false lists first last = (read : ℕ) → IsReadBetween lists first last read → ⊥
