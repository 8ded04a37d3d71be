use Rattle.std.proofs.Common.{◌≡◌, ◌∙◌, ◌∷◌, ℕ, List, None, map, sym, ap, ap₂, subst, arith}
use Rattle.cfs_dir.specs.declared.change.Change.{Change}
use Rattle.cfs_dir.specs.Change.{changed_by}
use Rattle.cfs_dir.specs.Words.{table_in}
use Rattle.cfs_image.specs.Layout.{journal_at}
use Rattle.cfs_ckpt.specs.Checkpoints.{seens_of}
use Rattle.cfs_journal.specs.Journals as journals
use Rattle.cfs_journal.specs.Journals.{changes_of}
use Rattle.cfs_journal.specs.Standing.{Standing}
use Rattle.cfs_names.specs.Behind.{AreBehind}
use Rattle.cfs_pmem.specs.Images.{Seen, WordStep}
use Rattle.cfs_survey.specs.Surveys.{Words, through_of, words_of}
use Rattle.cfs_mount.proofs.Fronts.{gates-sound, is-behind, journal-stands, selects}
use Rattle.cfs_mount.proofs.tree.mounted_tree.Goals as goal

pub new-requires : goal.new-requires
new-requires g c =
    let words : Words = words_of c.args.words.now in
    let tables : List (Seen WordStep) = map g.R.Region.seen c.args.tables.items in
    let records : List (Seen WordStep) = map g.R.Region.seen c.args.records.items in
    subst (λ (changes : List Change). Standing (through_of words.selector) changes None records)
    (sym c.requires.changes ∙ sym c.deref.ensures.value)
    (journal-stands words (g.R.Region.seen c.args.selector) tables records c.requires.front
    (journal_at 0) c.requires.whole.journal (omega arith) (gates-sound words c.requires.sound))

pub new-checkpoint-requires : goal.new-checkpoint-requires
new-checkpoint-requires g c =
    selects (words_of c.args.words.now) (g.R.Region.seen c.args.selector)
    (map g.R.Region.seen c.args.tables.items) (map g.R.Region.seen c.args.records.items)
    c.requires.front

pub new-requires-3-clause-behind : goal.new-requires-3-clause-behind
new-requires-3-clause-behind g c =
    let words : Words = words_of c.args.words.now in
    let see = g.R.Region.seen in
    let tables : List (Seen WordStep) = map see c.args.tables.items in
    let journal = c.in_ok-journal.journal in
    let changes : List Change = changes_of journal in
    let leads : changed_by (table_in words.table) changes ≡ c.in_ok-tree.tree =
    ap (λ (made : List Change). changed_by (table_in words.table) made)
    (c.in_ok-journal.ensures.changes ∙ c.deref.ensures.value ∙ c.requires.changes)
    ∙ sym c.requires.tree ∙ sym c.in_ok-tree.ensures.made in
    let seens : seens_of see c.new-checkpoint.result ≡ see c.args.selector ∷ tables =
    ap₂ (λ selector copies. see selector ∷ map see copies)
    c.new-checkpoint.ensures.selector c.new-checkpoint.ensures.tables in
    subst (λ (all : List (Seen WordStep)). AreBehind (journals.through_of journal) changes
    c.in_ok-tree.tree all) (sym seens)
    (subst (λ (through : ℕ). AreBehind through changes c.in_ok-tree.tree
    (see c.args.selector ∷ tables)) (sym c.in_ok-journal.ensures.through)
    (is-behind words (see c.args.selector) tables (map see c.args.records.items) c.requires.front
    changes c.in_ok-tree.tree leads))
