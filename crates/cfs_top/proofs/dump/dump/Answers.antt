use Rattle.std.proofs.Common.{◌≡◌, ◌∙◌, ℕ, List, Some, None, ap, inr, refl, subst, sym}
use Rattle.cfs_dump.specs.Dumped.{dumped}
use Rattle.cfs_fsck.specs.Images.{image_checks}
use Rattle.cfs_fsck.specs.Refusals.{NamesFault}
use Rattle.cfs_image.specs.Checks.{damage_of}
use Rattle.cfs_top.specs.declared.status.Status.TheVariants.{Done, NoFile}
use Rattle.cfs_top.specs.Outside.{DumpIsDue}
use Rattle.cfs_top.specs.Text.{no_file_text}
use Rattle.cfs_top.proofs.Ends.{may_say_writes, refused_writes}
use Rattle.cfs_top.proofs.dump.dump.Goals as goal

pub returns-in-Ok-Some-clause-writes : goal.returns-in-Ok-Some-clause-writes
returns-in-Ok-Some-clause-writes g c =
    may_say_writes (DumpIsDue (g.H.Shelf.files c.args.shelf.now) c.args.image.now c.args.path.now)
    c.say.result Done c.as_slice-in-Ok-Some.result.now (g.K.Sink.written c.args.output.now)
    (g.K.Sink.written c.load.new.output) (g.K.Sink.written c.say.new.output)
    c.in-Ok.ensures.unwritten tt (record {
      bytes = c.in-Ok.bytes;
      found = c.in-Ok.ensures.found;
      sound = subst (λ (bytes : List ℕ). damage_of (image_checks bytes) ≡ None) c.as_slice.ensures
          c.in-Ok-Some.ensures.sound;
      is_file = ap Some (c.as_slice-in-Ok-Some.ensures ∙ c.in-Ok-Some.file-is)
          ∙ (sym c.in-Ok-Some.field-0-is ∙ (c.in-Ok-Some.ensures.dumped
          ∙ ap (λ (bytes : List ℕ). dumped bytes c.args.path.now) c.as_slice.ensures));
    }) (inr c.say.ensures.said)

pub returns-in-Ok-None-clause-writes : goal.returns-in-Ok-None-clause-writes
returns-in-Ok-None-clause-writes g c =
    may_say_writes (DumpIsDue (g.H.Shelf.files c.args.shelf.now) c.args.image.now c.args.path.now)
    c.say-in-Ok-None.result NoFile no_file_text (g.K.Sink.written c.args.output.now)
    (g.K.Sink.written c.load.new.output) (g.K.Sink.written c.say-in-Ok-None.new.output)
    c.in-Ok.ensures.unwritten tt (
      record {
        bytes = c.in-Ok.bytes;
        found = c.in-Ok.ensures.found;
        sound = subst (λ (bytes : List ℕ). damage_of (image_checks bytes) ≡ None)
            c.as_slice.ensures c.in-Ok-None.ensures.sound;
        is_file = sym c.in-Ok-None.field-0-is ∙ (c.in-Ok-None.ensures.dumped
            ∙ ap (λ (bytes : List ℕ). dumped bytes c.args.path.now) c.as_slice.ensures);
      },
      refl,
    ) (inr c.say-in-Ok-None.ensures.said)

pub returns-clause-writes : goal.returns-clause-writes
returns-clause-writes g c =
    refused_writes (DumpIsDue (g.H.Shelf.files c.args.shelf.now) c.args.image.now c.args.path.now)
    c.in-Err-dump_file.refusal c.refuse.result (g.K.Sink.written c.args.output.now)
    (g.K.Sink.written c.load.new.output) (g.K.Sink.written c.refuse.new.output)
    c.in-Ok.ensures.unwritten (λ offset found against is. record {
      bytes = c.in-Ok.bytes;
      found = c.in-Ok.ensures.found;
      damage = record { offset = offset; found = found; against = against };
      first = subst (NamesFault c.in-Ok.bytes) is
          (subst (λ (bytes : List ℕ). NamesFault bytes c.in-Err-dump_file.refusal)
          c.as_slice.ensures c.in-Err-dump_file.ensures.err);
      is_text = refl;
    }) c.refuse.ensures.said
