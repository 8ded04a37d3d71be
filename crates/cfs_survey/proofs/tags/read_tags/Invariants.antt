use Rattle.std.proofs.Common.{◌≡◌}
use Rattle.std.specs.Prelude.{None}
use Rattle.cfs_image.specs.Checks.{damage_of}
use Rattle.cfs_survey.specs.Faults.{checks_from}
use Rattle.cfs_survey.specs.Mapped.{IsBlockMap}
use Rattle.cfs_survey.specs.Tags.{tag_checks}
use Rattle.cfs_survey.proofs.tags.read_tags.Given as goal

abbrev pub invariant-loop-block : goal.invariant-loop-block
invariant-loop-block l = record {
  sound : damage_of (checks_from (tag_checks l.at l.nodes l.tags) 0 l.block) ≡ None;
  blocks : IsBlockMap l.nodes l.tags l.block l.blocks;
}
