use Rattle.std.proofs.Common.{◌∙◌, arith, refl, subst, sym}
use Rattle.cfs_plan.specs.Files.{HasFiles, files_of}
use Rattle.cfs_plan.specs.Lists.{is_leftover}
use Rattle.cfs_plan.proofs.Filters.{leftover-record, one-more}
use Rattle.cfs_plan.proofs.emptied.leftover_records.Goals as goal

pub loop-rec-preserved : goal.loop-rec-preserved
loop-rec-preserved c =
    let files = files_of c.args.nodes.now in
    one-more (λ rec. is_leftover files c.args.sizes.now rec) c.loop-rec.rec
    c.loop-rec.left.items c.note_where.new.list.items c.is_leftover.result
    c.loop-rec.invariant
    (c.is_leftover.ensures
    ∙ leftover-record files c.deref.result.now c.args.sizes.now c.loop-rec.rec _
    (subst (HasFiles files) (sym c.deref.ensures.value) c.in_ok-flags.ensures.flags)
    (omega (arith, c.loop-rec-test.true, c.in_ok-flags.ensures.len, c.deref.ensures.len)) refl)
    c.in_ok-note_where.ensures
