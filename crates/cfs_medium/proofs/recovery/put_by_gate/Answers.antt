use Rattle.std.proofs.Common.{◌≡◌, ◌∙◌, ℕ, ap, nat_le}
use Rattle.std.specs.Prelude.{insert}
use Rattle.std.specs.List.{position_or_len}
use Rattle.cfs_medium.proofs.Insertion.{insert-put}
use Rattle.cfs_medium.proofs.recovery.put_by_gate.Goals as goal

pub returns : goal.returns
returns c =
    let place : c.place_for-at.result ≡ position_or_len (λ e. nat_le c.args.gate e.0) c.args.entries.now.items =
    rw c.as_slice.ensures.value at c.place_for-at.ensures.place in
    c.in_ok-insert.ensures.items
    ∙ (ap (λ (i : ℕ). insert c.args.entries.now.items i (c.args.gate, c.args.request)) place
    ∙ insert-put (c.args.gate, c.args.request) c.args.entries.now.items)
