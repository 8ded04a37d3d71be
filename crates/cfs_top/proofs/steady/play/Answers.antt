use Rattle.std.proofs.Common.{inl, inr, refl, sym, ◌∙◌}
use Rattle.cfs_top.proofs.Ends.{all_of_script, front_of_script, said_writes}
use Rattle.cfs_top.proofs.steady.play.Goals as goal

pub returns-in-Err-TooLong-clause-writes : goal.returns-in-Err-TooLong-clause-writes
returns-in-Err-TooLong-clause-writes g c =
    said_writes _ _ _ _ _ _ tt (inl ((rw c.in-Err-TooLong.field-0-is at c.in-Err-TooLong.ensures.long) refl), refl) c.say.ensures.said

pub returns-in-Err-Line-clause-writes : goal.returns-in-Err-Line-clause-writes
returns-in-Err-Line-clause-writes g c =
    said_writes _ _ _ _ _ _ tt (
      inr (inl (record {
        bytes = c.in-Ok.bytes;
        came = c.in-Ok.ensures.all;
        short = c.in-Ok.ensures.short;
        end = c.in-Ok.ensures.end;
        none = rw c.as_slice.ensures at (rw c.in-Err-Line.field-0-is at c.in-Err-Line.ensures.refused);
      })),
      refl,
    ) c.say-in-Err-Line.ensures.said

pub returns-then-not-are_served-clause-writes : goal.returns-then-not-are_served-clause-writes
returns-then-not-are_served-clause-writes g c =
    said_writes _ _ _ _ _ _ tt (
      inr (inr (record {
        bytes = c.in-Ok.bytes;
        came = c.in-Ok.ensures.all;
        short = c.in-Ok.ensures.short;
        end = c.in-Ok.ensures.end;
        lines = c.in-Ok-read_play.script;
        script = rw c.as_slice.ensures at c.in-Ok-read_play.ensures.found;
        unserved = rw c.lines.ensures.same at (sym c.are_served.ensures ∙ c.if-not-are_served.true);
      })),
      refl,
    ) c.say-then-not-are_served.ensures.said

pub returns-in-Ok-play_script-clause-writes : goal.returns-in-Ok-play_script-clause-writes
returns-in-Ok-play_script-clause-writes g c =
    all_of_script _ _ c.in-Ok.bytes _ _ _ _ c.in-Ok.ensures.all c.in-Ok.ensures.short c.in-Ok.ensures.end
    (rw c.as_slice.ensures at c.in-Ok-read_play.ensures.found) (rw c.lines.ensures.same at (sym c.are_served.ensures ∙ c.if-not-are_served.false))
    (rw c.new-world.ensures at c.in-Ok-play_script.ensures.whole)

pub returns-in-Err-Output-clause-writes : goal.returns-in-Err-Output-clause-writes
returns-in-Err-Output-clause-writes g c =
    front_of_script _ _ c.in-Ok.bytes _ _ _ c.in-Ok.ensures.all c.in-Ok.ensures.short c.in-Ok.ensures.end
    (rw c.as_slice.ensures at c.in-Ok-read_play.ensures.found) (rw c.lines.ensures.same at (sym c.are_served.ensures ∙ c.if-not-are_served.false))
    (rw c.new-world.ensures at c.in-Err-Output.ensures.front)

pub returns-clause-writes : goal.returns-clause-writes
returns-clause-writes g c =
    inr (front_of_script _ _ c.in-Ok.bytes _ _ _ c.in-Ok.ensures.all c.in-Ok.ensures.short c.in-Ok.ensures.end
    (rw c.as_slice.ensures at c.in-Ok-read_play.ensures.found) (rw c.lines.ensures.same at (sym c.are_served.ensures ∙ c.if-not-are_served.false))
    (rw c.new-world.ensures at c.in-Err-NoMemory-play_script.ensures.front))
