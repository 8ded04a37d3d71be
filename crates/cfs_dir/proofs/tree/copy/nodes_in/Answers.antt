use Rattle.std.proofs.Common.{◌≡◌, ◌++◌, ◌∷◌, [], sym, ◌∙◌, ap, add-one}
use Rattle.std.specs.Prelude.{option_copied}
use Rattle.cfs_dir.proofs.Filled.{take-last, take-none}
use Rattle.cfs_dir.proofs.tree.copy.nodes_in.Goals as goal
use Rattle.cfs_dir.proofs.tree.copy.nodes_in.Goals.{in-Some+in_ok-push, in_default}

pub loop-rec-preserved : goal.loop-rec-preserved
loop-rec-preserved c = rw (add-one c.loop-rec.rec) (elim c.match-get.branch [
  | in-Some+in_ok-push w ↦
      ap (λ (list : _). list.items) w.list-is ∙ w.in_ok-push.ensures.items ∙ ap (λ ns. ns ++ w.in-Some.node.now ∷ []) c.loop-rec.invariant
      ∙ sym (take-last c.loop-rec.rec c.args.nodes.now w.in-Some.node.now (sym c.get.ensures ∙ ap option_copied w.in-Some.is))
  | in_default w ↦
      ap (λ (list : _). list.items) w.list-is ∙ c.loop-rec.invariant
      ∙ sym (take-none c.loop-rec.rec c.args.nodes.now (sym c.get.ensures ∙ ap option_copied w.in_default.is))
])
