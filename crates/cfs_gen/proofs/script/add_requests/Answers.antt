use Rattle.std.proofs.Common.{ℕ, sym, ap, ◌∙◌}
use Rattle.std.proofs.lemmas.List.{append-nil}
use Rattle.cfs_gen.specs.Draws.{state_after}
use Rattle.cfs_gen.specs.Workload.{requests_below}
use Rattle.cfs_gen.proofs.Rounds.{draws_more, request_more}
use Rattle.cfs_gen.proofs.script.add_requests.Goals as goal

pub requests-init : goal.requests-init
unfolding state_after requests_below
requests-init c = record { forms = sym (append-nil c.args.draft.now); state = c.new-draws.ensures }

pub requests-preserved : goal.requests-preserved
requests-preserved c = record {
  forms =
      request_more c.args.number c.requests.index c.requests.draws c.args.draft.now c.requests.draft c.add_request.new.draft
      c.requests.invariant.state c.requests.invariant.forms c.in_ok-add_request.ensures.forms;
  state =
      c.in_ok-add_request.ensures.draws ∙ ap (λ (s : ℕ). state_after s 4) c.requests.invariant.state
      ∙ draws_more c.args.number c.requests.index;
}
