use Rattle.std.proofs.Common.{Some, min, arith, sym, ap, ◌∙◌, set, vec_capacity}
use Rattle.std.specs.FinMap as map
use Rattle.std.proofs.lemmas.Option.{slice_get_within}
use Rattle.cfs_extent.specs.Extents.{extents_of}
use Rattle.cfs_extent.proofs.Held.{get_absent}
use Rattle.cfs_extent.proofs.Views.{get_view, set_view}
use Rattle.cfs_extent.proofs.extent_map.ExtentMap.put_back.Goals as goal

pub unreachable-requires : goal.unreachable-requires
unreachable-requires g c =
    let none = get_absent c.self.inside.runs.list c.self.inside.blocks.items c.args.k
    c.in_default.ensures.absent in
    let there = ap (λ e. map.get e.held c.args.k) c.self.view_is ∙ c.requires in
    let e = sym none ∙ there in
    cc

pub index_mut-requires : goal.index_mut-requires
index_mut-requires g c =
    omega (
      arith,
      slice_get_within c.self.inside.runs.list _ _ c.in-Some.ensures.there.there,
      c.self.invariant.0,
    )

pub unreachable-requires-in-Some-replace : goal.unreachable-requires-in-Some-replace
unreachable-requires-in-Some-replace g c =
    let there = get_view c.self.inside.runs.list c.self.inside.blocks.items
    (min (vec_capacity c.self.inside.blocks) c.self.inside.runs.room) c.in-Some.at c.args.k
    c.index_mut.result.now c.self.invariant.0 c.in-Some.ensures.there c.index_mut.ensures.value in
    let out = ap (λ e. map.get e.held c.args.k) c.self.view_is ∙ c.requires in
    let e = sym there ∙ out in
    let f = c.in-Some-replace.ensures.value in
    cc

pub returns : goal.returns
returns g c =
    ap (λ w. extents_of c.self.inside.runs.list (set c.self.inside.blocks.items c.in-Some.at w)
    (min (vec_capacity c.self.inside.blocks) c.self.inside.runs.room)) c.replace.ensures.after
    ∙ set_view c.self.inside.runs.list c.self.inside.blocks.items
    (min (vec_capacity c.self.inside.blocks) c.self.inside.runs.room) c.in-Some.at c.args.k
    c.index_mut.result.now (Some c.args.block) c.self.invariant.0 c.in-Some.ensures.there
    c.index_mut.ensures.value
    ∙ ap (λ e. record { held = map.insert e.held c.args.k (Some c.args.block); spare = e.spare })
    c.self.view_is
