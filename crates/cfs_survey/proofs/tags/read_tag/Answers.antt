use Rattle.std.proofs.Common.{◌∙◌, sym}
use Rattle.cfs_survey.proofs.TagLemmas.{block_skipped}
use Rattle.cfs_survey.proofs.tags.read_tag.Goals as goal

pub returns-clause-noted : goal.returns-clause-noted
returns-clause-noted c =
    block_skipped c.args.nodes.now c.args.tags.now c.args.block c.args.blocks.now
    (sym c.is_file.ensures ∙ c.if-is_file.false) c.requires.below
