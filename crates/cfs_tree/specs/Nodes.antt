-- The nodes of the store, by number, and what a node is once it is linked.
use Rattle.std.specs.Prelude.{ℕ, ◌+◌, ◌*◌, ◌^◌, Option, None, Some, List, max, slice_index_or, slice_set}
use Rattle.cfs_file.specs.declared.span.Span.{Span}
use Rattle.cfs_file.specs.declared.span.Span.TheVariants.{Nothing, Range, From}
use Rattle.cfs_tree.specs.declared.span_node.SpanNode.{SpanNode}
use Rattle.cfs_tree.specs.declared.store.stored_node.StoredNode.{StoredNode}

-- where a span starts
abbrev pub start_of : Span → ℕ
start_of Nothing = 0
start_of (Range from to) = from
start_of (From from) = from

-- where a span ends, the greatest 64-bit number where it has no end
abbrev pub end_of : Span → ℕ
end_of Nothing = 0
end_of (Range from to) = to
end_of (From from) = 18446744073709551615

-- what stands at a number that the store has not
abbrev pub no_node : StoredNode
no_node = record {
  node = record {
    place = 0;
    span = Nothing;
    left = None;
    right = None;
    left_end = 0;
    right_end = 0;
  };
  height = 0;
}

abbrev pub stored_at : List StoredNode → ℕ → StoredNode
stored_at nodes at = slice_index_or nodes at no_node

-- the height of the tree under a link, 0 where it is missing
abbrev pub height_under : List StoredNode → Option ℕ → ℕ
height_under nodes None = 0
height_under nodes (Some at) = (stored_at nodes at).height

-- the greatest end that a node knows of
abbrev pub end_known : SpanNode → ℕ
end_known node = max (max node.left_end (end_of node.span)) node.right_end

-- the greatest end under a link, 0 where it is missing
abbrev pub end_under : List StoredNode → Option ℕ → ℕ
end_under nodes None = 0
end_under nodes (Some at) = end_known (stored_at nodes at).node

-- the node of that number, with these sides
abbrev pub linked : List StoredNode → ℕ → Option ℕ → Option ℕ → StoredNode
linked nodes at left right = record {
  node = record {
    place = (stored_at nodes at).node.place;
    span = (stored_at nodes at).node.span;
    left = left;
    right = right;
    left_end = end_under nodes left;
    right_end = end_under nodes right;
  };
  height = max (height_under nodes left) (height_under nodes right) + 1;
}

-- the nodes after that node was linked
abbrev pub linking : List StoredNode → ℕ → Option ℕ → Option ℕ → List StoredNode
linking nodes at left right = slice_set nodes at (linked nodes at left right)

-- The order of the tree, as one number: where the span starts, and then the place.
abbrev pub rank_of : SpanNode → ℕ
rank_of node = start_of node.span * 2 ^ 64 + node.place

-- the node of a place, linked to nothing
abbrev pub alone_at : ℕ → Span → StoredNode
alone_at place span = record {
  node = record {
    place = place;
    span = span;
    left = None;
    right = None;
    left_end = 0;
    right_end = 0;
  };
  height = 1;
}
