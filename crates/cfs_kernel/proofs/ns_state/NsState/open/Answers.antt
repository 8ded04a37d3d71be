use Rattle.std.proofs.Common.{rules, ◌≡◌, ◌∙◌, ◌+◌, Ok, true, false, refl, sym, ap}
use Rattle.std.specs.Prelude.{is_some}
use Rattle.std.specs.Result.{is_err}
use Rattle.cfs_dir.specs.Namespace.{with_node}
use Rattle.cfs_dir.specs.declared.change.Change.TheVariants as changes
use Rattle.cfs_grants.specs.declared.grant.Grant.{Grant}
use Rattle.cfs_names.proofs.Ends.{on_ok}
use Rattle.cfs_requests.specs.Steps.{grant_for}
use Rattle.cfs_requests.specs.declared.opening.Opening.TheVariants.{Found, Made}
use Rattle.cfs_kernel.specs.Answers.{opened_change}
use Rattle.cfs_kernel.specs.Queues.{home_at}
use Rattle.cfs_kernel.specs.States.{Kernel, counted, kernel_of, with_grant, with_tree}
use Rattle.cfs_kernel.proofs.Opening.{gives_is}
use Rattle.cfs_kernel.proofs.Performing.{failed_to_store, same_some, same_value, spent, stored_then, unchanged_then}
use Rattle.cfs_kernel.proofs.ns_state.NsState.open.Goals as goal

pub returns-in_default-checked_add-clause-performed :
    goal.returns-in_default-checked_add-clause-performed
returns-in_default-checked_add-clause-performed g c opening number queue is free home =
    spent g.R.Region.seen g.R.Region.faults g.R.Region.obeys_power (is_some (opened_change opening)) c.args.self.now (g.P.Power.asked c.args.power.now) _ _ _
    (search rules)

pub returns-in-Err-add_node-clause-performed : goal.returns-in-Err-add_node-clause-performed
returns-in-Err-add_node-clause-performed g c opening number queue is free home =
    let same : Made c.in-Made.node ≡ opening = sym c.in-Made.is ∙ same_value c.args.looked c.in-Ok.is is in
    let called = c.add_node.ensures in
    rw (sym same) (failed_to_store g.R.Region.seen g.R.Region.faults g.R.Region.obeys_power true c.args.self.now (g.P.Power.asked c.args.power.now)
    (changes.Create c.in-Made.node) c.add_node.result (g.P.Power.asked c.add_node.new.power) c.add_node.new.self
    (λ is. search rules) called.without_memory called.stores called.lacks (λ takes. absurd (cc))
    _ _ c.in-Err-add_node.refusal c.stored_told.result c.in-Err-add_node.is c.stored_told.ensures called.failed)

pub returns-in-Found-clause-performed : goal.returns-in-Found-clause-performed
returns-in-Found-clause-performed g c opening number queue is free home =
    let self = c.args.self.now in
    let same : Found c.in-Found.node ≡ opening = sym c.in-Found.is ∙ same_value c.args.looked c.in-Ok.is is in
    let lowest : c.in-Some.queue ≡ number = same_some (sym c.in-Some.is ∙ c.free.ensures.lowest ∙ free) in
    let place : c.grant.result.place ≡ self.places + 1 = search rules in
    let given = c.grant.ensures in
    let there : c.grant.result.queue ≡ queue =
    same_some (sym given.home ∙ ap (λ n. home_at self.queues.home.items n) lowest ∙ home) in
    rw (sym same) (rw (sym lowest) (rw (sym there)
    (unchanged_then g.R.Region.seen g.R.Region.faults g.R.Region.obeys_power false self (g.P.Power.asked c.args.power.now) _ _ _ _
    (λ is. search rules)
    (ap (λ opened. Ok opened) (gives_is c.grant.result (kernel_of self) c.args.caller c.args.flags (Found c.in-Found.node) c.in-Some.queue c.grant.result.queue
    place given.grant given.rec refl))
    (given.kernel ∙ ap (λ (grant : Grant). counted (with_grant grant (kernel_of self))) given.grant)
    (rw given.stored ((refl, refl, refl), refl)))))

pub returns-in-Ok-add_node-clause-performed : goal.returns-in-Ok-add_node-clause-performed
returns-in-Ok-add_node-clause-performed g c opening number queue is free home =
    let self = c.args.self.now in
    let node = c.in-Made.node in
    let same : Made c.in-Made.node ≡ opening = sym c.in-Made.is ∙ same_value c.args.looked c.in-Ok.is is in
    let lowest : c.in-Some.queue ≡ number = same_some (sym c.in-Some.is ∙ c.free.ensures.lowest ∙ free) in
    let called = c.add_node.ensures in
    let given = c.grant-in-Made.ensures in
    let passed = on_ok c.add_node.result (ap (λ result. is_err result) c.in-Ok-add_node.is) called.passed in
    let place : c.grant-in-Made.result.place ≡ self.places + 1 = given.place ∙ c.in-Some-checked_add.ensures.1 in
    let grant = given.grant ∙ ap (λ (kernel : Kernel g.row.R.Denot). grant_for kernel.names.next_grant c.in-Some.queue c.args.caller c.args.flags node) passed in
    let there : c.grant-in-Made.result.queue ≡ queue = same_some
    (sym given.home ∙ ap (λ (kernel : Kernel g.row.R.Denot). home_at kernel.home c.in-Some.queue) passed ∙ ap (λ n. home_at self.queues.home.items n) lowest ∙ home) in
    rw (sym same) (rw (sym lowest) (rw (sym there)
    (stored_then g.R.Region.seen g.R.Region.faults g.R.Region.obeys_power true self (g.P.Power.asked c.args.power.now)
    (changes.Create node) c.add_node.result (g.P.Power.asked c.add_node.new.power) c.grant-in-Made.new.self
    (λ is. search rules) (λ is. rw given.stored (called.without_memory is)) (λ differs. rw given.stored (called.stores differs)) called.lacks (λ takes. absurd (cc))
    _ _ c.in-Ok-add_node.field-0 _ c.in-Ok-add_node.is
    (ap (λ opened. Ok opened) (gives_is c.grant-in-Made.result (kernel_of self) c.args.caller c.args.flags (Made node) c.in-Some.queue c.grant-in-Made.result.queue
    place grant given.rec refl))
    (given.kernel ∙ ap (λ (kernel : Kernel g.row.R.Denot). counted (with_grant c.grant-in-Made.result.grant kernel)) passed
    ∙ ap (λ (grant : Grant). counted (with_grant grant (with_tree (with_node self.stored.tree node) (kernel_of self)))) grant))))
