use Rattle.std.proofs.Common.{◌≡◌, ◌∙◌, ℕ, ap, not}
use Rattle.std.specs.Prelude.{insert}
use Rattle.std.specs.List.{position_or_len}
use Rattle.cfs_survey.specs.Live.{is_before}
use Rattle.cfs_survey.proofs.LiveLemmas.{insert-live}
use Rattle.cfs_survey.proofs.slots.put_live.Goals as goal

pub returns : goal.returns
returns c =
    let place : c.index_for-at.result
    ≡ position_or_len (λ other. not (is_before other c.args.entry)) c.args.entries.now.items =
    rw c.deref.ensures.value at c.index_for-at.ensures.index in
    c.in_ok-insert.ensures.items
    ∙ (ap (λ (i : ℕ). insert c.args.entries.now.items i c.args.entry) place
    ∙ insert-live c.args.entry c.args.entries.now.items)
