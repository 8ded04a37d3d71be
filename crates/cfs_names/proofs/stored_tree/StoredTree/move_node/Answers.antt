use Rattle.std.proofs.Common.{rules, ◌≡◌, ◌∷◌, ◌∙◌, ◌+◌, ◌++◌, ◌%◌, Bool, true, Err, Ok, ℕ, List, length, map, inl, refl, sym, ap, subst, arith}
use Rattle.cfs_dir.specs.declared.change.Change.{Change}
use Rattle.cfs_dir.specs.Change.{changed}
use Rattle.cfs_dir.specs.Moved.{change_of}
use Rattle.cfs_names.specs.Recovered.{Recovers}
use Rattle.cfs_names.specs.Steps.{StoresChange}
use Rattle.cfs_names.specs.StoredTrees.{found_at, is_full, last_number, place_in, room_ops, seens_in}
use Rattle.cfs_pmem.specs.Images.{IsImage}
use Rattle.cfs_pmem.specs.Objects.{MomentsOf}
use Rattle.cfs_names.specs.declared.store_refusal.StoreRefusal.TheVariants as refusals
use Rattle.cfs_names.proofs.Ends.{appended_from, change_appended, on_err, on_ok}
use Rattle.cfs_names.proofs.Recovering.{behind_after, behind_same, then_appended}
use Rattle.cfs_names.proofs.Worlds.{apart_records}
use Rattle.cfs_pmem.proofs.AllMomentLemmas.{all_weaker}
use Rattle.cfs_names.proofs.stored_tree.StoredTree.move_node.Goals as goal

pub returns-in_err-make_room-clause-moments : goal.returns-in_err-make_room-clause-moments
returns-in_err-make_room-clause-moments g c = all_weaker (λ images h. inl h) c.make_room.ensures.moments

pub invariant_of-self : goal.invariant_of-self
invariant_of-self g c =
    let mid = c.make_room.new.self in
    record {
      behind = behind_same c.append.ensures.through (on_err c.append.result (sym c.is_err.ensures.value ∙ c.if-is_err.true) c.append.ensures.refused) mid.behind;
      distinct = apart_records (g.R.Region.seen mid.checkpoint.selector ∷ map g.R.Region.seen mid.checkpoint.tables.items) mid.distinct c.append.ensures.moments;
    }

pub returns-then-is_err-clause-does : goal.returns-then-is_err-clause-does
returns-then-is_err-clause-does g c = λ obeys other.
    let old = c.args.self.now in
    let mid = c.make_room.new.self in
    let see = g.R.Region.seen in
    rw (sym c.change.ensures)
    (change_appended (g.P.Power.asked c.make_room.new.power) c.append.result (Err refusals.Failed) (sym c.is_err.ensures.value ∙ c.if-is_err.true)
    (c.in_ok-make_room.ensures.does obeys (λ is. absurd (cc)))
    (appended_from (map see c.append.new.self.records.items) (mid.journal.through + length mid.journal.changes.items) (old.journal.through + length old.journal.changes.items) (ap (λ (n : ℕ). n + 1) c.make_room.ensures.number)
    (ap (λ records. map see records) c.make_room.ensures.regions) c.make_room.ensures.doubt
    (c.append.ensures.does obeys (λ full. omega (arith, c.append.ensures.full.0 full, c.in_ok-make_room.ensures.room)))))

pub returns-then-is_err-clause-moments : goal.returns-then-is_err-clause-moments
returns-then-is_err-clause-moments g c =
    let mid = c.make_room.new.self in
    rw (sym c.change.ensures)
    (then_appended c.change.result c.make_room.ensures.tree c.make_room.ensures.doubt mid.checkpoint.standing.size mid.distinct mid.behind
    c.make_room.ensures.moments c.append.ensures.moments)

pub invariant_of-self-2 : goal.invariant_of-self-2
invariant_of-self-2 g c =
    let mid = c.make_room.new.self in
    record {
      behind = behind_after c.change.result c.append.ensures.through
          (on_ok c.append.result (sym c.is_err.ensures.value ∙ c.if-is_err.false) c.append.ensures.appended) (c.move_node.ensures ∙ ap (λ (change : Change). changed mid.tree change) (sym c.change.ensures)) mid.behind;
      distinct = apart_records (g.R.Region.seen mid.checkpoint.selector ∷ map g.R.Region.seen mid.checkpoint.tables.items) mid.distinct c.append.ensures.moments;
    }

pub returns-clause-does : goal.returns-clause-does
returns-clause-does g c = λ obeys other.
    let old = c.args.self.now in
    let mid = c.make_room.new.self in
    let see = g.R.Region.seen in
    rw (sym c.change.ensures)
    (change_appended (g.P.Power.asked c.make_room.new.power) c.append.result (Ok tt) (sym c.is_err.ensures.value ∙ c.if-is_err.false)
    (c.in_ok-make_room.ensures.does obeys (λ is. absurd (cc)))
    (appended_from (map see c.append.new.self.records.items) (mid.journal.through + length mid.journal.changes.items) (old.journal.through + length old.journal.changes.items) (ap (λ (n : ℕ). n + 1) c.make_room.ensures.number)
    (ap (λ records. map see records) c.make_room.ensures.regions) c.make_room.ensures.doubt
    (c.append.ensures.does obeys (λ full. omega (arith, c.append.ensures.full.0 full, c.in_ok-make_room.ensures.room)))))

pub returns-clause-moments : goal.returns-clause-moments
returns-clause-moments g c =
    let mid = c.make_room.new.self in
    rw (sym c.change.ensures)
    (then_appended c.change.result c.make_room.ensures.tree c.make_room.ensures.doubt mid.checkpoint.standing.size mid.distinct mid.behind
    c.make_room.ensures.moments c.append.ensures.moments)
