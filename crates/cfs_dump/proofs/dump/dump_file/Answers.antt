use Rattle.std.proofs.Common.{◌∙◌, subst, sym}
use Rattle.std.specs.Prelude.{IfErr}
use Rattle.std.proofs.lemmas.Result.{err_from_is_err_and}
use Rattle.cfs_dir.specs.Namespace.{Namespace}
use Rattle.cfs_fsck.specs.Refusals.{NamesFault}
use Rattle.cfs_survey.specs.Surveys.{words_of}
use Rattle.cfs_dump.proofs.Lives.{tell-file}
use Rattle.cfs_dump.proofs.Paths.{IsFileIn, file-in}
use Rattle.cfs_dump.proofs.Told.{slots-told, tags-told}
use Rattle.cfs_dump.proofs.dump.dump_file.Goals as goal

pub recovered-requires-clause-told : goal.recovered-requires-clause-told
recovered-requires-clause-told c =
    tell-file c.args.bytes.now c.in_ok-words.survey.tree.nodes.items
    c.in_ok-words.survey.tree.next c.in_ok-words.words.tags.items
    c.in_ok-words.words.slots.items c.in_ok-words.survey.blocks c.deref.result.now
    c.in-Some.node c.in_ok-words.ensures.header c.in_ok-words.ensures.stands
    (subst (λ (tree : Namespace). IsFileIn tree.nodes c.in-Some.node) c.in_ok-tree.ensures.made
    (file-in c.in_ok-tree.tree c.args.path.now c.in-Some.node
    (sym c.file_at.ensures ∙ c.in-Some.is)))
    (tags-told c.args.bytes.now (words_of c.in_ok-words.words) c.in_ok-words.ensures.words)
    (slots-told c.args.bytes.now (words_of c.in_ok-words.words) c.in_ok-words.ensures.words)
    c.in_ok-words.ensures.blocks (c.deref.ensures.value ∙ c.in_ok-words.ensures.entries)

pub returns-in_err-file-in-Some-clause-err : goal.returns-in_err-file-in-Some-clause-err
returns-in_err-file-in-Some-clause-err c =
    let p = err_from_is_err_and c.from_residual-in_err-file-in-Some.result
    c.from_residual-in_err-file-in-Some.ensures.1 in
    subst (λ r. IfErr r (NamesFault c.args.bytes.now)) (sym p.1)
    (subst (NamesFault c.args.bytes.now) (sym p.2) c.in_ok-words.ensures.header)
