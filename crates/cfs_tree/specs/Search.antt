-- What a search finds, and what it costs.
use Rattle.std.specs.Prelude.{◌≡◌, ℕ, ◌+◌, ◌*◌, ◌^◌, ◌<◌, ◌≤◌, Option, None, Some, List, min, Contains}
use Rattle.cfs_file.specs.declared.span.Span.{Span}
use Rattle.cfs_file.specs.declared.span.Span.TheVariants.{Nothing, Range, From}
use Rattle.cfs_file.specs.Span.{Overlap, Covers}
use Rattle.cfs_tree.specs.declared.search.Relation.{Relation}
use Rattle.cfs_tree.specs.declared.search.Relation.TheVariants as relations
use Rattle.cfs_tree.specs.declared.search.Search.{Search}
use Rattle.cfs_tree.specs.declared.store.SpanStore.{SpanStore}
use Rattle.cfs_tree.specs.Nodes.{stored_at, height_under, end_under, start_of}
use Rattle.cfs_tree.specs.Shape.{NodeTree, numbers_of, times}
use Rattle.cfs_tree.specs.Change.{IsTree}
use Rattle.cfs_tree.specs.Spans.{IsBounded, HasPositions, overlap_count}
use Rattle.cfs_tree.specs.Holding.{kept_of}

-- how the asked span stands to a kept one
abbrev pub Relates : Relation → Span → Span → Type 0
Relates relations.Overlaps asked kept = Overlap asked kept
Relates relations.Covers asked kept = Covers asked kept

-- the place and its span are what is looked for
abbrev pub IsAsked : Search → ℕ × Span → Type 0
IsAsked search kept =
    (search.after < kept.0) × (kept.0 < search.before) × Relates search.relation search.asked kept.1

-- the span has the positions from the first number on, below the second
abbrev pub IsExtent : Span → ℕ → ℕ → Type 0
IsExtent Nothing from end = ⊥
IsExtent (Range first last) from end =
    (first ≡ from) × (last ≡ end) × (from < end) × (end + 1 < 2 ^ 64)
IsExtent (From first) from end = (first ≡ from) × (end ≡ 18446744073709551615) × (from < end)

-- the smallest place of the pairs of which P holds, and none exactly where it holds of none
abbrev pub LeastAmong : (ℕ × Span → Type 0) → List (ℕ × Span) → Option ℕ → Type 0
LeastAmong P spans None = (kept : ℕ × Span) → Contains spans kept → P kept → ⊥
LeastAmong P spans (Some place) =
    ((span : Span) × Contains spans (place, span) × P (place, span))
    × ((kept : ℕ × Span) → Contains spans kept → P kept → place ≤ kept.0)

abbrev pub lesser_of : Option ℕ → Option ℕ → Option ℕ
lesser_of None b = b
lesser_of (Some a) None = Some a
lesser_of (Some a) (Some b) = Some (min a b)

-- a tree whose spans have positions and are bounded
pub record IsSearchable (store : SpanStore) (at : Option ℕ) (t : NodeTree) : Type 0 where
  pub tree : IsTree store.nodes.items at t
  pub spans : (n : ℕ) → 0 < times n (numbers_of t) →
      IsBounded (stored_at store.nodes.items n).node.span
      × HasPositions (stored_at store.nodes.items n).node.span
  pub places : (n : ℕ) → 0 < times n (numbers_of t) →
      (stored_at store.nodes.items n).node.place < 2 ^ 64

-- each span of the tree starts before the asked one ends
abbrev pub StartsBefore : SpanStore → NodeTree → ℕ → Type 0
StartsBefore store t end =
    (n : ℕ) → 0 < times n (numbers_of t) → start_of (stored_at store.nodes.items n).node.span < end

-- what a search under a link finds, where the spans there end by the reach
pub record Finds (search : Search) (store : SpanStore) (at : Option ℕ) (reach steps : ℕ)
    (result : Option ℕ) (t : NodeTree) : Type 0 where
  pub least : LeastAmong (IsAsked search) (kept_of store.nodes.items (numbers_of t)) result
  pub bound : steps ≤ (overlap_count search.asked (kept_of store.nodes.items (numbers_of t)) + 1)
      * height_under store.nodes.items at
  pub early : reach ≡ end_under store.nodes.items at → StartsBefore store t search.end →
      steps ≤ overlap_count search.asked (kept_of store.nodes.items (numbers_of t))
      * height_under store.nodes.items at

-- the search's span, and a reach that the tree under the link keeps to
abbrev pub CanSearch : Search → SpanStore → Option ℕ → ℕ → NodeTree → Type 0
CanSearch search store at reach t =
    IsExtent search.asked search.from search.end
    × (end_under store.nodes.items at ≤ reach) × IsSearchable store at t

abbrev pub FindsAll : Search → SpanStore → Option ℕ → ℕ → ℕ → Option ℕ → Type 0
FindsAll search store at reach steps result =
    (t : NodeTree) → CanSearch search store at reach t → Finds search store at reach steps result t

-- the search for this, with the asked span's extent
pub record IsSearchOf (relation : Relation) (asked : Span) (after before : ℕ)
    (search : Search) : Type 0 where
  pub same_relation : search.relation ≡ relation
  pub same_asked : search.asked ≡ asked
  pub same_after : search.after ≡ after
  pub same_before : search.before ≡ before
  pub extent : IsExtent asked search.from search.end
