use Rattle.std.proofs.Common.{◌∙◌, get_or, sym}
use Rattle.cfs_survey.proofs.TagLemmas.{block_noted, own_free}
use Rattle.cfs_survey.proofs.tags.note_tag.Goals as goal

pub returns-clause-noted : goal.returns-clause-noted
returns-clause-noted c =
    let below_is = c.block_of.ensures ∙
    c.requires.below (get_or c.args.tags.now c.args.block 0) c.requires.file in
    block_noted c.args.nodes.now c.args.tags.now c.args.block c.args.blocks.now c.insert.new.self
    c.in_ok-insert.ensures.updates.0
    (own_free c.args.at c.args.tags.now c.args.block (get_or c.args.tags.now c.args.block 0)
    (sym (c.in_ok-check_own.ensures c.args.tags.now below_is)))
    c.requires.below
