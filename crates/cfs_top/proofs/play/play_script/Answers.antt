use Rattle.std.proofs.Common.{◌∙◌, ◌+◌, drop}
use Rattle.std.proofs.lemmas.List.{take_more}
use Rattle.cfs_top.proofs.Runs.{around, on_err, PlaysAll-append, PlaysFront-behind, PlaysFront-more}
use Rattle.cfs_top.proofs.play.play_script.Goals as goal

pub lines-preserved : goal.lines-preserved
lines-preserved g c = record {
  played = rw (take_more c.lines-line-items.result.now c.lines.line-index c.line-item.result c.lines-test.true)
      (rw (← c.line-item.is) (PlaysAll-append _ _ _ _ _ _ _ _ c.lines.invariant.played c.in_ok-play_line.ensures.whole));
  faults = c.in_ok-play_line.ensures.kept ∙ c.lines.invariant.faults;
}

pub returns-in_err-play_line-clause-front : goal.returns-in_err-play_line-clause-front
returns-in_err-play_line-clause-front g c =
    let items = c.lines-line-items.result.now in
    let front = PlaysFront-more _ _ (drop (c.lines.line-index + 1) items) _ _
    (PlaysFront-behind _ _ _ _ _ _ _ c.lines.invariant.played c.in_err-play_line.ensures.front) in
    let whole = around items c.lines.line-index c.line-item.result c.lines-test.true c.line-item.is in
    on_err _ _ (rw (whole, c.lines-line-items.ensures.same) at front)
