use Rattle.std.proofs.Common.{rules, ◌≡◌, length, None, vec_len}
use Rattle.std.specs.Prelude.{replicate}
use Rattle.cfs_kernel.proofs.Rows.{all_out}
use Rattle.cfs_kernel.proofs.queues.Queues.new.Goals as goal

pub invariant_of-result : goal.invariant_of-result
invariant_of-result g c =
    let size : vec_len c.args.queues ≡ length c.args.queues.items = search rules in
    let grants : c.new-grants.result ≡ replicate (length c.args.queues.items) None = search rules in
    record {
      out = rw c.in_ok-home.ensures (rw grants (all_out c.args.queues.items));
      whole = rw c.in_ok-home.ensures c.requires.whole;
    }
