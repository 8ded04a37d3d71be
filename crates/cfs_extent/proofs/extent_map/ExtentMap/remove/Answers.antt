use Rattle.std.proofs.Common.{◌+◌, min, arith, sym, ap, ◌∙◌, length, remove, vec_capacity}
use Rattle.std.specs.FinMap as map
use Rattle.std.proofs.lemmas.Option.{slice_get_within}
use Rattle.cfs_extent.specs.Extents.{block_at}
use Rattle.std.proofs.lemmas.List.Edits.{length-remove}
use Rattle.cfs_extent.proofs.Views.{Contains-place, block_absent, block_view, min_same, none_of, on_some, one_place, remove_view, same_view}
use Rattle.cfs_extent.proofs.extent_map.ExtentMap.remove.Goals as goal

pub returns-in_err-at-clause-block : goal.returns-in_err-at-clause-block
returns-in_err-at-clause-block g c =
    c.from_residual.ensures
    ∙ sym (ap (λ e. block_at e.held c.args.k) (sym c.self.view_is)
    ∙ block_absent c.self.inside.runs.list c.self.inside.blocks.items
    (min (vec_capacity c.self.inside.blocks) c.self.inside.runs.room) c.args.k
    c.in_err-at.ensures.absent)

pub index-requires : goal.index-requires
index-requires g c =
    omega (
      arith,
      slice_get_within c.self.inside.runs.list _ _ c.in_ok-at.ensures.there.there,
      c.self.invariant.0,
    )

pub returns-then-is_none-clause-block : goal.returns-then-is_none-clause-block
returns-then-is_none-clause-block g c =
    sym (ap (λ e. block_at e.held c.args.k) (sym c.self.view_is)
    ∙ block_view c.self.inside.runs.list c.self.inside.blocks.items
    (min (vec_capacity c.self.inside.blocks) c.self.inside.runs.room) c.in_ok-at.at c.args.k
    c.index.result.now c.self.invariant.0 c.in_ok-at.ensures.there c.index.ensures
    ∙ none_of c.index.result.now c.if-is_none.ensures)

pub remove-requires-clause-there : goal.remove-requires-clause-there
remove-requires-clause-there g c =
    Contains-place c.self.inside.runs.list c.in_ok-at.at c.args.k c.in_ok-at.ensures.there

pub remove-requires-2 : goal.remove-requires-2
remove-requires-2 g c =
    omega (
      arith,
      slice_get_within c.self.inside.runs.list _ _ c.in_ok-at.ensures.there.there,
      c.self.invariant.0,
    )

pub invariant_of-self : goal.invariant_of-self
invariant_of-self g c =
    let list = ap (λ n. length n.list) c.remove.ensures.removed in
    let room = ap (λ n. n.room) c.remove.ensures.removed in
    let blocks = ap length c.remove-2.ensures.items in
    let one = length-remove c.self.inside.runs.list c.remove.result
    (slice_get_within c.self.inside.runs.list _ _ c.remove.ensures.there.there) in
    let other = length-remove c.self.inside.blocks.items c.in_ok-at.at
    (omega (
      arith,
      slice_get_within c.self.inside.runs.list _ _ c.in_ok-at.ensures.there.there,
      c.self.invariant.0,
    )) in
    (omega (arith, c.self.invariant.0), omega (arith, c.self.invariant.1))

pub returns-clause-block : goal.returns-clause-block
returns-clause-block g c =
    sym (ap (λ e. block_at e.held c.args.k) (sym c.self.view_is)
    ∙ block_view c.self.inside.runs.list c.self.inside.blocks.items
    (min (vec_capacity c.self.inside.blocks) c.self.inside.runs.room) c.in_ok-at.at c.args.k
    c.remove-2.result c.self.invariant.0 c.in_ok-at.ensures.there c.remove-2.ensures.value)

pub returns-clause-removed : goal.returns-clause-removed
returns-clause-removed g c =
    let same = one_place c.self.inside.runs.list _ _ c.args.k c.remove.ensures.there
    c.in_ok-at.ensures.there in
    on_some c.remove-2.result
    (same_view
    (ap (λ n. n.list) c.remove.ensures.removed
    ∙ ap (remove c.self.inside.runs.list) same)
    c.remove-2.ensures.items
    (min_same _ _ _ _ c.remove-2.ensures.capacity (ap (λ n. n.room) c.remove.ensures.removed))
    ∙ remove_view c.self.inside.runs.list c.self.inside.blocks.items
    (min (vec_capacity c.self.inside.blocks) c.self.inside.runs.room) c.in_ok-at.at c.args.k
    c.remove-2.result c.self.invariant.0 c.in_ok-at.ensures.there c.remove-2.ensures.value
    (omega (arith, c.self.invariant.1))
    ∙ ap (λ e. record { held = map.remove e.held c.args.k; spare = e.spare + 1 }) c.self.view_is)
