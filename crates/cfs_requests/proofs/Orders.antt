-- Legal orders that go on.
use Rattle.std.proofs.Common.{◌≡◌, ◌∙◌, [], ◌∷◌, ◌++◌, Some, None, refl, sym, ap, subst}
use Rattle.std.specs.Prelude.{IsSomeAnd}
use Rattle.cfs_requests.specs.Steps.{IsLegalOrder, NameAnswer, Names, OrdersGoOn, Step, stepped}

and_more : (step : Step) (P Q : NameAnswer × Names → Type 0) → ((after : NameAnswer × Names) → P after → Q after) →
    IsSomeAnd step P → IsSomeAnd step Q
and_more None P Q give h = h
and_more (Some after) P Q give h = give after h

pub orders-go-on : OrdersGoOn
orders-go-on base now after [] entry legal step =
    let here : stepped base entry.caller entry.request entry.rec ≡ Some (entry.answer, after) =
    ap (λ (names : Names). stepped names entry.caller entry.request entry.rec) (sym legal) ∙ step in
    subst (λ s. IsSomeAnd s (λ left. (left.0 ≡ entry.answer) × (after ≡ left.1))) (sym here) (refl, refl)
orders-go-on base now after (first ∷ rest) entry legal step =
    and_more (stepped base first.caller first.request first.rec)
    (λ left. (left.0 ≡ first.answer) × IsLegalOrder left.1 rest now)
    (λ left. (left.0 ≡ first.answer) × IsLegalOrder left.1 (rest ++ entry ∷ []) after)
    (λ left h. (h.0, orders-go-on left.1 now after rest entry h.1 step)) legal
