use Rattle.std.proofs.Common.{rules, ◌≡◌, ◌∷◌, ◌∙◌, ◌+◌, ◌++◌, ℕ, List, length, map, refl, sym, ap, subst}
use Rattle.cfs_pmem.specs.Images.{IsImage}
use Rattle.cfs_pmem.specs.Objects.{MomentsOf}
use Rattle.cfs_names.proofs.Ends.{on_ok, room_stopped}
use Rattle.cfs_names.proofs.Recovering.{RecoversTree, at_rest, behind_fresh, behind_kept, while_stored}
use Rattle.cfs_names.proofs.Worlds.{apart, apart_tables}
use Rattle.cfs_names.proofs.stored_tree.StoredTree.make_room.Goals as goal

pub returns-then-not-is_full-clause-moments : goal.returns-then-not-is_full-clause-moments
returns-then-not-is_full-clause-moments g c =
    let self = c.args.self.now in
    at_rest (g.P.Power.asked c.args.power.now) self.checkpoint.standing.size self.distinct self.behind self.journal.standing

pub returns-then-last-ge-NUMBER_END-clause-moments : goal.returns-then-last-ge-NUMBER_END-clause-moments
returns-then-last-ge-NUMBER_END-clause-moments g c =
    let self = c.args.self.now in
    at_rest (g.P.Power.asked c.args.power.now) self.checkpoint.standing.size self.distinct self.behind self.journal.standing

pub invariant_of-self : goal.invariant_of-self
invariant_of-self g c =
    let self = c.args.self.now in
    record {
      behind = behind_kept c.last-last.result c.last-last.ensures self.behind c.store.ensures.moments;
      distinct = apart_tables (map g.R.Region.seen self.journal.records.items) self.distinct c.store.ensures.moments;
    }

pub returns-then-is_err-clause-does : goal.returns-then-is_err-clause-does
returns-then-is_err-clause-does g c = λ obeys other.
    let self = c.args.self.now in
    room_stopped c.store.result self.checkpoint.unsure self.checkpoint.word self.tree c.last-last.result (self.journal.through + length self.journal.changes.items) c.last-last.ensures
    (sym c.is_err.ensures.value ∙ c.if-is_err.true) (sym c.is_full.ensures ∙ c.if-not-is_full.false) (c.store.ensures.does obeys)

pub returns-then-is_err-clause-moments : goal.returns-then-is_err-clause-moments
returns-then-is_err-clause-moments g c =
    let self = c.args.self.now in
    while_stored (map g.R.Region.seen self.journal.records.items) c.last-last.result c.last-last.ensures self.checkpoint.standing.size self.distinct self.behind self.journal.standing
    c.store.ensures.moments

pub invariant_of-self-2 : goal.invariant_of-self-2
invariant_of-self-2 g c =
    let self = c.args.self.now in
    let see = g.R.Region.seen in
    record {
      behind = behind_fresh self.journal.changes.items self.journal.through c.last-last.result c.cut.new.self.through c.cut.new.self.changes.items c.last-last.ensures c.cut.ensures.through c.cut.ensures.changes
          (on_ok c.store.result (sym c.is_err.ensures.value ∙ c.if-is_err.false) c.store.ensures.stored);
      distinct = subst (λ records. apart ((see c.store.new.self.selector ∷ map see c.store.new.self.tables.items) ++ map see records)) (sym c.cut.ensures.regions)
          (apart_tables (map see self.journal.records.items) self.distinct c.store.ensures.moments);
    }

pub returns-clause-moments : goal.returns-clause-moments
returns-clause-moments g c =
    let self = c.args.self.now in
    let see = g.R.Region.seen in
    let asked_old = g.P.Power.asked c.args.power.now in
    let asked_new = g.P.Power.asked c.store.new.power in
    let old = see self.checkpoint.selector ∷ map see self.checkpoint.tables.items in
    let new = see c.store.new.self.selector ∷ map see c.store.new.self.tables.items in
    subst (λ records. MomentsOf IsImage (RecoversTree self.tree self.journal.doubt) asked_old (old ++ map see self.journal.records.items) asked_new (new ++ map see records)) (sym c.cut.ensures.regions)
    (while_stored (map see self.journal.records.items) c.last-last.result c.last-last.ensures self.checkpoint.standing.size self.distinct self.behind self.journal.standing
    c.store.ensures.moments)
