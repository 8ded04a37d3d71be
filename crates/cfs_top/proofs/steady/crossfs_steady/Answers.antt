use Rattle.std.proofs.Common.{◌∙◌, inl, inr, [], refl, sym}
use Rattle.cfs_top.proofs.Ends.{Consumes-none, check_ends, dump_ends, kept_shelf, mkfs_ends}
use Rattle.cfs_top.proofs.Ends.{output_input, output_shelf, play_writes, said_writes}
use Rattle.cfs_top.proofs.Ends.{upgrade_ends, usage_input, usage_shelf}
use Rattle.cfs_top.specs.Outside.{SaveNone}
use Rattle.cfs_top.proofs.steady.crossfs_steady.Goals as goal

pub returns-in-Some-clause-ends : goal.returns-in-Some-clause-ends
returns-in-Some-clause-ends g c = mkfs_ends _ _ _ _ _ _ _ _ _ c.in-Some.ensures.found c.mkfs.ensures.made

pub returns-in-Some-image_to_upgrade-clause-ends : goal.returns-in-Some-image_to_upgrade-clause-ends
returns-in-Some-image_to_upgrade-clause-ends g c =
    upgrade_ends _ _ _ _ _ _ _ _ _ c.in-Some-image_to_upgrade.ensures.found c.upgrade.ensures.writes
    c.upgrade.ensures.upgrades

pub returns-in-Some-image_to_check-clause-ends : goal.returns-in-Some-image_to_check-clause-ends
returns-in-Some-image_to_check-clause-ends g c =
    let none : SaveNone c.args.words.now = (
      λ mkfs. c.in_default.ensures.none mkfs.0 mkfs.1.0 mkfs.1.1.0 mkfs.1.1.1,
      λ upgrade. c.in_default-image_to_upgrade.ensures.none upgrade.0 upgrade.1.0 upgrade.1.1,
    ) in
    check_ends _ _ _ _ _ _ _ _ c.in-Some-image_to_check.ensures.found none c.check.ensures.writes
    c.check.ensures.leaves

pub returns-in-Ok-Some-clause-ends : goal.returns-in-Ok-Some-clause-ends
returns-in-Ok-Some-clause-ends g c =
    let none : SaveNone c.args.words.now = (
      λ mkfs. c.in_default.ensures.none mkfs.0 mkfs.1.0 mkfs.1.1.0 mkfs.1.1.1,
      λ upgrade. c.in_default-image_to_upgrade.ensures.none upgrade.0 upgrade.1.0 upgrade.1.1,
    ) in
    dump_ends _ _ _ _ _ _ _ _ _ (rw c.in-Ok-Some.field-0-is at c.in-Ok-Some.ensures.found) none
    c.dump.ensures.writes c.dump.ensures.leaves

pub returns-in-Some-image_to_play-clause-ends : goal.returns-in-Some-image_to_play-clause-ends
returns-in-Some-image_to_play-clause-ends g c =
    let none : SaveNone c.args.words.now = (
      λ mkfs. c.in_default.ensures.none mkfs.0 mkfs.1.0 mkfs.1.1.0 mkfs.1.1.1,
      λ upgrade. c.in_default-image_to_upgrade.ensures.none upgrade.0 upgrade.1.0 upgrade.1.1,
    ) in
    record {
      writes = play_writes _ _ _ _ _ _ _ (_, c.in-Some-image_to_play.ensures.found)
          c.play.ensures.writes;
      asked = λ input. (_, c.in-Some-image_to_play.ensures.found);
      came = c.play.ensures.came;
      unread = λ other. absurd (other (_, c.in-Some-image_to_play.ensures.found));
      shelf = kept_shelf _ _ _ none c.play.ensures.shelf;
    }

pub returns-in-None-clause-ends : goal.returns-in-None-clause-ends
returns-in-None-clause-ends g c =
    let none : SaveNone c.args.words.now = (
      λ mkfs. c.in_default.ensures.none mkfs.0 mkfs.1.0 mkfs.1.1.0 mkfs.1.1.1,
      λ upgrade. c.in_default-image_to_upgrade.ensures.none upgrade.0 upgrade.1.0 upgrade.1.1,
    ) in
    record {
      writes = said_writes _ _ _ _ _ _ tt
          (inr (inr (inr (inr (inr (
            (
              λ play. c.in-None.ensures.none play.0 play.1,
              λ check. c.in_default-image_to_check.ensures.none check.0 check.1,
              λ dump. (rw c.in-Ok-None.field-0-is at c.in-Ok-None.ensures.none) dump.0 dump.1.0
                  dump.1.1,
              none,
            ),
            refl,
            refl,
          ))))))
          c.say.ensures.said;
      asked = λ input. elim c.say.ensures.said [ inl all ↦ absurd (usage_input (sym all.0 ∙ input)) | inr front ↦ absurd (output_input (sym front.0 ∙ input)) ];
      came = ([], Consumes-none _);
      unread = λ other. refl;
      shelf = kept_shelf _ _ _ none
          (λ shelf. elim c.say.ensures.said [
            | inl all ↦ usage_shelf (sym all.0 ∙ shelf)
            | inr front ↦
                output_shelf (sym front.0 ∙ shelf)
          ]);
    }
