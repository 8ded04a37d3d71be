use Rattle.std.proofs.Common.{◌∙◌, ap, map, subst, sym, ℕ, Option, Some, ◌∷◌, ◌++◌, []}
use Rattle.std.specs.Option.{option_map}
use Rattle.std.proofs.lemmas.List.{map-append}
use Rattle.cfs_active.specs.View.{ActiveView, active_view}
use Rattle.cfs_states.specs.Shares.{IsOrderIn, loaded_as, share_view}
use Rattle.cfs_states.proofs.load.Loaded.add.Goals as goal

pub returns-in_ok-push-in-Some-2-clause-states : goal.returns-in_ok-push-in-Some-2-clause-states
returns-in_ok-push-in-Some-2-clause-states c = λ ordered is.
    let share = share_view c.args.share in
    let own = subst (λ (o : Option ℕ). IsOrderIn o share.blocks ordered) c.in-Some.is is in
    let view = c.in_ok-active-in-Some.ensures ordered own in
    let told = λ (state : Option _). option_map active_view state in
    ap (map told) c.in_ok-push-in-Some.ensures.items
    ∙ (map-append told c.args.self.now.states.items (Some c.in_ok-active-in-Some.active ∷ [])
    ∙ ap (λ (state : Option ActiveView).
    map told c.args.self.now.states.items ++ state ∷ [])
    (ap Some view ∙ sym (ap (λ (o : Option ℕ). option_map (loaded_as share.size ordered) o)
    c.in-Some.is)))
