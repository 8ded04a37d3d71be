use Rattle.std.proofs.Common.{◌≡◌, ◌∙◌, ℕ, List, None, ap, refl, subst}
use Rattle.cfs_fsck.specs.Images.{image_checks, image_words}
use Rattle.cfs_fsck.specs.Refusals.{NamesFault}
use Rattle.cfs_fsck.specs.Reports.{report_of}
use Rattle.cfs_image.specs.Checks.{damage_of}
use Rattle.cfs_top.specs.declared.status.Status.TheVariants.{Done}
use Rattle.cfs_top.specs.Outside.{CheckIsDue}
use Rattle.cfs_top.specs.Text.{report_text}
use Rattle.cfs_top.proofs.Ends.{may_say_writes, refused_writes}
use Rattle.cfs_top.proofs.check.check.Goals as goal

pub returns-in-Ok-check_image-clause-writes : goal.returns-in-Ok-check_image-clause-writes
returns-in-Ok-check_image-clause-writes g c =
    may_say_writes (CheckIsDue (g.H.Shelf.files c.args.shelf.now) c.args.image.now) c.tell.result
    Done (report_text c.in-Ok-check_image.report) (g.K.Sink.written c.args.output.now)
    (g.K.Sink.written c.load.new.output) (g.K.Sink.written c.tell.new.output)
    c.in-Ok.ensures.unwritten tt (record {
      bytes = c.in-Ok.bytes;
      found = c.in-Ok.ensures.found;
      sound = subst (λ (bytes : List ℕ). damage_of (image_checks bytes) ≡ None) c.as_slice.ensures
          c.in-Ok-check_image.ensures.sound;
      is_text = ap report_text (c.in-Ok-check_image.ensures.report
          ∙ ap (λ (bytes : List ℕ). report_of (image_words bytes)) c.as_slice.ensures);
    }) c.tell.ensures.said

pub returns-clause-writes : goal.returns-clause-writes
returns-clause-writes g c =
    refused_writes (CheckIsDue (g.H.Shelf.files c.args.shelf.now) c.args.image.now)
    c.in-Err-check_image.refusal c.refuse.result (g.K.Sink.written c.args.output.now)
    (g.K.Sink.written c.load.new.output) (g.K.Sink.written c.refuse.new.output)
    c.in-Ok.ensures.unwritten (λ offset found against is. record {
      bytes = c.in-Ok.bytes;
      found = c.in-Ok.ensures.found;
      damage = record { offset = offset; found = found; against = against };
      first = subst (NamesFault c.in-Ok.bytes) is
          (subst (λ (bytes : List ℕ). NamesFault bytes c.in-Err-check_image.refusal)
          c.as_slice.ensures c.in-Err-check_image.ensures.err);
      is_text = refl;
    }) c.refuse.ensures.said
