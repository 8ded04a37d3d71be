use Rattle.std.proofs.Common.{◌≡◌, ◌<◌, ◌≤◌, ◌∙◌, List, length, refl, sym, ap, arith, subst}
use Rattle.std.specs.List.{count_by}
use Rattle.std.proofs.lemmas.List.{length-map}
use Rattle.cfs_slot.specs.Regions.{devices_in, of_slots, slot_numbers}
use Rattle.cfs_queue.specs.declared.kept.Kept.{Kept}
use Rattle.cfs_queue.specs.Queue.{AreRising, Slots, all_out, first_of, free_in, is_free}
use Rattle.cfs_queue.specs.Rows.{seen_all, seen_as}
use Rattle.cfs_queue.proofs.QueueLemmas.{many_count, many_out, many_queue, many_rising, rising_chain, same_slots}
use Rattle.cfs_queue.proofs.RowLemmas.{count_is, took_first}
use Rattle.cfs_queue.proofs.queue.Queue.take_many.Goals as goal

pub returns-then-count_free-m-clause-few : goal.returns-then-count_free-m-clause-few
returns-then-count_free-m-clause-few g c =
    let f = λ (row : Kept g.row.R.Denot g.R.Region). seen_as row in
    let count : c.count_free.result ≡ length (free_in (seen_all c.self.inside.rows.items)) =
    c.count_free.ensures ∙ ap (λ (rows : List (Kept g.row.R.Denot g.R.Region)). count_by (λ row. is_free (seen_as row)) rows) c.as_slice.ensures.value ∙ count_is f c.self.inside.rows.items in
    let few : length (free_in c.args.self.now.held) < c.args.m =
    omega (arith, c.if-count_free-m.true, count, ap (λ (q : Slots g.row.R.Denot). length (free_in q.held)) c.self.view_is) in
    (λ _. few, λ _. refl)

pub invariant_of-self : goal.invariant_of-self
invariant_of-self g c = many_queue g.R.Region.seen c.self.inside.number c.self.invariant c.take_lowest.ensures.taken

pub returns-clause-few : goal.returns-clause-few
returns-clause-few g c =
    let f = λ (row : Kept g.row.R.Denot g.R.Region). seen_as row in
    let count : c.count_free.result ≡ length (free_in (seen_all c.self.inside.rows.items)) =
    c.count_free.ensures ∙ ap (λ (rows : List (Kept g.row.R.Denot g.R.Region)). count_by (λ row. is_free (seen_as row)) rows) c.as_slice.ensures.value ∙ count_is f c.self.inside.rows.items in
    let enough : c.args.m ≤ length (free_in c.args.self.now.held) =
    omega (arith, c.if-count_free-m.false, count, ap (λ (q : Slots g.row.R.Denot). length (free_in q.held)) c.self.view_is) in
    (λ wrong. cc, λ few. absurd (omega (arith, few, enough)))

pub returns-clause-count : goal.returns-clause-count
returns-clause-count g c =
    let f = λ (row : Kept g.row.R.Denot g.R.Region). seen_as row in
    let count : c.count_free.result ≡ length (free_in (seen_all c.self.inside.rows.items)) =
    c.count_free.ensures ∙ ap (λ (rows : List (Kept g.row.R.Denot g.R.Region)). count_by (λ row. is_free (seen_as row)) rows) c.as_slice.ensures.value ∙ count_is f c.self.inside.rows.items in
    many_count c.args.m (omega (arith, c.if-count_free-m.false, count)) c.take_lowest.ensures.taken c.take_lowest.ensures.most c.take_lowest.ensures.all

pub returns-clause-lowest : goal.returns-clause-lowest
returns-clause-lowest g c = ap (λ (q : Slots g.row.R.Denot). free_in q.held) (sym c.self.view_is) ∙ took_first c.take_lowest.ensures.taken

pub returns-clause-own : goal.returns-clause-own
returns-clause-own g c =
    subst (λ (q : Slots g.row.R.Denot). AreRising q.number (first_of q.number) (devices_in g.R.Region.seen (of_slots c.take_lowest.result))) c.self.view_is
    (many_rising g.R.Region.seen c.self.inside.number c.self.invariant c.take_lowest.ensures.taken)

pub returns-clause-chain : goal.returns-clause-chain
returns-clause-chain g c =
    rising_chain c.self.inside.number (devices_in g.R.Region.seen (of_slots c.take_lowest.result))
    (omega (arith, length-map (of_slots c.take_lowest.result) (λ (r : g.row.R.Denot). (g.R.Region.seen r).device), returns-clause-count g c, c.requires.some))
    (many_rising g.R.Region.seen c.self.inside.number c.self.invariant c.take_lowest.ensures.taken)

pub returns-clause-taken : goal.returns-clause-taken
returns-clause-taken g c =
    same_slots c.self.inside.number (seen_all c.take_lowest.new.rows.items) (all_out (slot_numbers g.R.Region.seen (of_slots c.take_lowest.result)) c.args.self.now.held) c.args.self.now
    (ap (λ (q : Slots g.row.R.Denot). q.number) c.self.view_is)
    (many_out g.R.Region.seen c.self.inside.number c.self.invariant c.take_lowest.ensures.taken
    ∙ ap (λ (q : Slots g.row.R.Denot). all_out (slot_numbers g.R.Region.seen (of_slots c.take_lowest.result)) q.held) c.self.view_is)
