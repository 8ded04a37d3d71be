use Rattle.std.proofs.Common.{List, [], ◌∷◌, ◌++◌, arith, ap, ◌∙◌}
use Rattle.cfs_script.specs.declared.form.Form.{Form}
use Rattle.cfs_gen.proofs.Numbering.{forms_more, numbers_more}
use Rattle.cfs_gen.proofs.draft.Draft.push.Goals as goal

pub invariant_of-self-2 : goal.invariant_of-self-2
invariant_of-self-2 c = numbers_more _ _ _ c.args.form c.in_ok-push.ensures.items (omega arith) c.self.invariant

pub returns : goal.returns
returns c =
    forms_more _ _ _ c.args.form c.in_ok-push.ensures.items ∙ ap (λ (fs : List Form). fs ++ c.args.form ∷ []) c.self.view_is
