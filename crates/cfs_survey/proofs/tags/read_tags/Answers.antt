use Rattle.std.proofs.Common.{◌≡◌, ◌∙◌, ℕ, length, sym, ap, arith}
use Rattle.std.proofs.lemmas.Result.{err_from_is_err_and}
use Rattle.cfs_image.specs.Checks.{damage_of}
use Rattle.cfs_survey.specs.Faults.{checks_from}
use Rattle.cfs_survey.specs.Tags.{tag_checks, tags_checks}
use Rattle.cfs_survey.proofs.FirstFaults.{none_yet, sound_more}
use Rattle.cfs_survey.proofs.RefusalLemmas.{refused_at, refused_with}
use Rattle.cfs_survey.proofs.TagLemmas.{none_mapped}
use Rattle.cfs_survey.proofs.tags.read_tags.Goals as goal

pub returns-in_err-read_tag-clause-named : goal.returns-in_err-read_tag-clause-named
unfolding tags_checks
returns-in_err-read_tag-clause-named c =
    let r = c.from_residual-in_err-read_tag in
    let p = err_from_is_err_and r.result r.ensures.1 in
    let each = tag_checks c.args.at c.args.nodes.now c.args.tags.now in
    let all : ℕ = length c.args.tags.now in
    refused_with r.result (checks_from each 0 all) p.0 c.in_err-read_tag.field-0.0 p.1 p.2
    (refused_at each 0 c.loop-block.block all c.loop-block.block c.in_err-read_tag.field-0.0
    (omega arith) (omega arith) c.loop-block.invariant.sound c.in_err-read_tag.ensures.named)

pub loop-block-preserved : goal.loop-block-preserved
loop-block-preserved c = record {
  sound = sound_more (tag_checks c.args.at c.args.nodes.now c.args.tags.now) 0 c.loop-block.block
      c.loop-block.block (omega arith) c.loop-block.invariant.sound c.in_ok-read_tag.ensures.sound;
  blocks = c.in_ok-read_tag.ensures.noted;
}

pub loop-block-init : goal.loop-block-init
loop-block-init c = record {
  sound = none_yet (tag_checks c.args.at c.args.nodes.now c.args.tags.now) 0;
  blocks = none_mapped c.args.nodes.now c.args.tags.now c.in_ok-blocks.blocks
      c.in_ok-blocks.ensures.empty;
}

pub returns-clause-sound : goal.returns-clause-sound
unfolding tags_checks
returns-clause-sound c =
    let each = tag_checks c.args.at c.args.nodes.now c.args.tags.now in
    let all : c.loop-block.block ≡ length c.args.tags.now = omega arith in
    ap (λ n. damage_of (checks_from each 0 n)) (sym all) ∙ c.loop-block.invariant.sound
