use Rattle.std.proofs.Common.{rules, ◌≡◌, ◌∷◌, ◌∙◌, ◌+◌, ◌++◌, ◌%◌, Bool, true, Err, Ok, ℕ, List, length, map, inl, refl, sym, ap, subst, arith}
use Rattle.cfs_dir.specs.declared.change.Change.TheVariants as changes
use Rattle.cfs_names.specs.declared.store_refusal.StoreRefusal.TheVariants as refusals
use Rattle.cfs_names.specs.Behind.{AreBehind}
use Rattle.cfs_names.specs.Held.{changes_left}
use Rattle.cfs_names.specs.StoredTrees.{held_of}
use Rattle.cfs_names.proofs.Ends.{change_appended, last_more, last_same, makes_done, makes_failed, on_err, on_ok, room_there}
use Rattle.cfs_names.proofs.Recovering.{at_rest, behind_after, behind_same, while_appended}
use Rattle.cfs_names.proofs.Tellable.{join_named, joined_changed}
use Rattle.cfs_names.proofs.Worlds.{apart_records}
use Rattle.std.proofs.lemmas.Bool.Decides.{nat_tests}
use Rattle.cfs_pmem.proofs.AllMomentLemmas.{all_weaker}
use Rattle.cfs_names.proofs.stored_tree.StoredTree.create.Goals as goal

pub append-requires : goal.append-requires
append-requires g c =
    join_named c.args.self.now.tree c.args.node.now c.requires
    (on_ok c.insert.result (sym c.is_err.ensures.value ∙ c.if-is_err.false) c.insert.ensures.undoable).whole.next_low

pub returns-then-is_err-clause-moments : goal.returns-then-is_err-clause-moments
returns-then-is_err-clause-moments g c =
    let self = c.args.self.now in
    all_weaker (λ images h. inl h) (at_rest (g.P.Power.asked c.args.power.now) self.checkpoint.standing.size self.distinct self.behind self.journal.standing)

pub returns-clause-moments : goal.returns-clause-moments
returns-clause-moments g c =
    let self = c.args.self.now in
    let see = g.R.Region.seen in
    while_appended (changes.Create c.args.node.now) (see self.checkpoint.selector ∷ map see self.checkpoint.tables.items) self.checkpoint.standing.size self.distinct self.behind c.append.ensures.moments

pub returns-then-is_err-2-clause-moments : goal.returns-then-is_err-2-clause-moments
returns-then-is_err-2-clause-moments g c =
    let self = c.args.self.now in
    let see = g.R.Region.seen in
    while_appended (changes.Create c.args.node.now) (see self.checkpoint.selector ∷ map see self.checkpoint.tables.items) self.checkpoint.standing.size self.distinct self.behind c.append.ensures.moments

pub returns-then-is_err-2-clause-does : goal.returns-then-is_err-2-clause-does
returns-then-is_err-2-clause-does g c = λ obeys other.
    let self = c.args.self.now in
    change_appended (g.P.Power.asked c.args.power.now) c.append.result (Err refusals.Failed) (sym c.is_err-2.ensures.value ∙ c.if-is_err-2.true)
    (room_there _ (sym c.is_full.ensures ∙ c.if-is_full.false))
    (c.append.ensures.does obeys (λ full. let is = sym c.is_full.ensures ∙ c.if-is_full.false in grind (arith, nat_tests, c.append.ensures.full.0 full)))

pub returns-clause-does : goal.returns-clause-does
returns-clause-does g c = λ obeys other.
    let self = c.args.self.now in
    change_appended (g.P.Power.asked c.args.power.now) c.append.result (Ok tt) (sym c.is_err-2.ensures.value ∙ c.if-is_err-2.false)
    (room_there _ (sym c.is_full.ensures ∙ c.if-is_full.false))
    (c.append.ensures.does obeys (λ full. let is = sym c.is_full.ensures ∙ c.if-is_full.false in grind (arith, nat_tests, c.append.ensures.full.0 full)))

pub returns-then-is_err-2-clause-makes : goal.returns-then-is_err-2-clause-makes
returns-then-is_err-2-clause-makes g c =
    let self = c.args.self.now in
    let failed = sym c.is_err-2.ensures.value ∙ c.if-is_err-2.true in
    let same = on_err c.append.result failed c.append.ensures.refused in
    let again = c.take_back.ensures ∙ on_ok c.insert.result (sym c.is_err.ensures.value ∙ c.if-is_err.false) c.insert.ensures.undone in
    let not_full = sym c.is_full.ensures ∙ c.if-is_full.false in
    makes_failed (held_of self) (Err refusals.Failed) refl refl (ap (λ full. changes_left full self.journal.changes.items) (sym not_full)) refl refl
    again same (last_same self.journal.through c.append.new.self.through c.append.ensures.through same) (on_err c.append.result failed c.append.ensures.doubt)

pub invariant_of-self : goal.invariant_of-self
invariant_of-self g c =
    let self = c.args.self.now in
    let see = g.R.Region.seen in
    let same = on_err c.insert.result (sym c.is_err.ensures.value ∙ c.if-is_err.true) c.insert.ensures.unchanged in
    record {
      behind = subst (λ tree. AreBehind self.journal.through self.journal.changes.items tree (see self.checkpoint.selector ∷ map see self.checkpoint.tables.items)) (sym same) self.behind;
      distinct = self.distinct;
    }

pub invariant_of-self-then-is_err-2 : goal.invariant_of-self-then-is_err-2
invariant_of-self-then-is_err-2 g c =
    let self = c.args.self.now in
    let see = g.R.Region.seen in
    let same = on_err c.append.result (sym c.is_err-2.ensures.value ∙ c.if-is_err-2.true) c.append.ensures.refused in
    let again = c.take_back.ensures ∙ on_ok c.insert.result (sym c.is_err.ensures.value ∙ c.if-is_err.false) c.insert.ensures.undone in
    record {
      behind = subst (λ tree. AreBehind c.append.new.self.through c.append.new.self.changes.items tree (see self.checkpoint.selector ∷ map see self.checkpoint.tables.items)) (sym again)
          (behind_same c.append.ensures.through same self.behind);
      distinct = apart_records (see self.checkpoint.selector ∷ map see self.checkpoint.tables.items) self.distinct c.append.ensures.moments;
    }

pub invariant_of-self-else-is_err-2 : goal.invariant_of-self-else-is_err-2
invariant_of-self-else-is_err-2 g c =
    let self = c.args.self.now in
    let see = g.R.Region.seen in
    let more = on_ok c.append.result (sym c.is_err-2.ensures.value ∙ c.if-is_err-2.false) c.append.ensures.appended in
    let added = on_ok c.insert.result (sym c.is_err.ensures.value ∙ c.if-is_err.false) c.insert.ensures.added in
    record {
      behind = behind_after (changes.Create c.args.node.now) c.append.ensures.through more (added ∙ joined_changed self.tree c.args.node.now c.requires) self.behind;
      distinct = apart_records (see self.checkpoint.selector ∷ map see self.checkpoint.tables.items) self.distinct c.append.ensures.moments;
    }
