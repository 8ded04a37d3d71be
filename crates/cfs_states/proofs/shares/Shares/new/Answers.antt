use Rattle.std.proofs.Common.{◌≡◌, ◌∙◌, ap, length, map, arith, List, []}
use Rattle.cfs_active.specs.Memory.{words_seen}
use Rattle.cfs_plan.specs.Files.{files_of}
use Rattle.cfs_states.specs.Begins.{owner_at}
use Rattle.cfs_states.specs.Shares.{ShareView, share_view}
use Rattle.cfs_states.specs.declared.share.Share.{Share}
use Rattle.cfs_states.proofs.Begins.{begun-push}
use Rattle.cfs_states.proofs.shares.Shares.new.Goals as goal

pub loop-size-preserved : goal.loop-size-preserved
loop-size-preserved c =
    let long : c.len.result ≡ length c.loop-size.of_records.items = omega (
      arith,
      c.len.ensures,
      c.loop-size.of_records.ok.0,
    ) in
    ap (λ (l : List Share). map share_view l) c.in_ok-push.ensures.items
    ∙ begun-push share_view words_seen (files_of c.args.nodes.now) c.loop-size.yielded
    c.in-Some.size c.loop-size.of_records.items c.new.result c.loop-size.invariant
    (c.new.ensures ∙ ap (λ (o : _).
    let it : ShareView = record { size = words_seen c.in-Some.size; owner = o; blocks = [] } in it)
    (c.owner_of-owner.ensures ∙ ap (owner_at (files_of c.args.nodes.now)) long))
