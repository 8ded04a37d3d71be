-- What the two counted reads of the store give.
use Rattle.std.specs.Prelude.{ℕ, Option, None, Some, nat_eq, cond, slice_get}
use Rattle.std.specs.Option.{option_and_then, option_map}
use Rattle.std.specs.HashMap as hash
use Rattle.cfs_file.specs.declared.span.Span.{Span}
use Rattle.cfs_tree.specs.declared.span_node.SpanNode.{SpanNode}
use Rattle.cfs_tree.specs.declared.store.SpanStore.{SpanStore}

-- the node of that number: none where the number is free or past the last
abbrev pub node_of : SpanStore → ℕ → Option SpanNode
node_of store at =
    option_and_then (λ stored. cond (nat_eq stored.height 0) None (Some stored.node))
    (slice_get store.nodes.items at)

-- the span kept for that place
abbrev pub span_of : SpanStore → ℕ → Option Span
span_of store place =
    option_and_then (λ at. option_map (λ stored. stored.node.span) (slice_get store.nodes.items at))
    (hash.get nat_eq store.numbers place)
