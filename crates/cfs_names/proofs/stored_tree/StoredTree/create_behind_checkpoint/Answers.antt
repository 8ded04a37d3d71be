use Rattle.std.proofs.Common.{rules, ◌≡◌, ◌∷◌, ◌∙◌, ◌+◌, ◌++◌, ◌%◌, Bool, true, Err, Ok, ℕ, List, length, map, inl, refl, sym, ap, subst, arith}
use Rattle.cfs_dir.specs.declared.change.Change.TheVariants as changes
use Rattle.cfs_dir.specs.Change.{changed}
use Rattle.cfs_dir.specs.Namespace.{with_node}
use Rattle.cfs_pmem.specs.Objects.{seen_at}
use Rattle.cfs_names.specs.declared.store_refusal.StoreRefusal.TheVariants as refusals
use Rattle.cfs_names.specs.StoredTrees.{held_of}
use Rattle.cfs_names.proofs.Ends.{append_cause, appended_from, cause_from, change_appended, change_stopped, last_more, last_same, makes_done, makes_failed, no_cause, on_err, on_ok, room_cause}
use Rattle.cfs_names.proofs.Recovering.{at_rest, behind_after, behind_same, then_appended}
use Rattle.cfs_names.proofs.Tellable.{join_named, joined_changed}
use Rattle.cfs_names.proofs.Worlds.{apart_records}
use Rattle.cfs_pmem.proofs.AllMomentLemmas.{all_weaker}
use Rattle.cfs_names.proofs.stored_tree.StoredTree.create_behind_checkpoint.Goals as goal

pub returns-in_default-clause-moments : goal.returns-in_default-clause-moments
returns-in_default-clause-moments g c =
    let self = c.args.self.now in
    all_weaker (λ images h. inl h) (at_rest (g.P.Power.asked c.args.power.now) self.checkpoint.standing.size self.distinct self.behind self.journal.standing)

pub returns-then-is_err-clause-moments : goal.returns-then-is_err-clause-moments
returns-then-is_err-clause-moments g c =
    let self = c.args.self.now in
    all_weaker (λ images h. inl h) (at_rest (g.P.Power.asked c.args.power.now) self.checkpoint.standing.size self.distinct self.behind self.journal.standing)

pub returns-in-Err-clause-does : goal.returns-in-Err-clause-does
returns-in-Err-clause-does g c = λ obeys other.
    let see = g.R.Region.seen in
    let old = c.args.self.now in
    change_stopped {result = Err c.in-Err.refusal} (c.in-Err.ensures.does obeys other) refl c.make_room.ensures.doubt
    (ap (λ records. seen_at (map see records) ((old.journal.through + length old.journal.changes.items) % 64)) c.make_room.ensures.regions)

pub returns-in-Err-clause-moments : goal.returns-in-Err-clause-moments
returns-in-Err-clause-moments g c = all_weaker (λ images h. inl h) c.make_room.ensures.moments

pub append-requires : goal.append-requires
append-requires g c =
    join_named c.args.self.now.tree c.args.node.now c.requires
    (on_ok c.insert.result (sym c.is_err.ensures.value ∙ c.if-is_err.false) c.insert.ensures.undoable).whole.next_low

pub invariant_of-self : goal.invariant_of-self
invariant_of-self g c =
    let mid = c.make_room.new.self in
    record {
      behind = behind_same c.append.ensures.through (on_err c.append.result (sym c.is_err-2.ensures.value ∙ c.if-is_err-2.true) c.append.ensures.refused) mid.behind;
      distinct = apart_records (g.R.Region.seen mid.checkpoint.selector ∷ map g.R.Region.seen mid.checkpoint.tables.items) mid.distinct c.append.ensures.moments;
    }

pub returns-then-is_err-2-clause-makes : goal.returns-then-is_err-2-clause-makes
returns-then-is_err-2-clause-makes g c =
    let mid = c.make_room.new.self in
    let failed = sym c.is_err-2.ensures.value ∙ c.if-is_err-2.true in
    let same = on_err c.append.result failed c.append.ensures.refused in
    makes_failed (held_of mid) (Err refusals.Failed) refl c.make_room.ensures.tree c.in-Ok-make_room.ensures.left c.make_room.ensures.number c.make_room.ensures.doubt
    refl same (last_same mid.journal.through c.append.new.self.through c.append.ensures.through same) (on_err c.append.result failed c.append.ensures.doubt)

pub returns-then-is_err-2-clause-does : goal.returns-then-is_err-2-clause-does
returns-then-is_err-2-clause-does g c = λ obeys other.
    let old = c.args.self.now in
    let mid = c.make_room.new.self in
    let see = g.R.Region.seen in
    change_appended (g.P.Power.asked c.make_room.new.power) c.append.result (Err refusals.Failed) (sym c.is_err-2.ensures.value ∙ c.if-is_err-2.true)
    (c.in-Ok-make_room.ensures.does obeys (λ is. absurd (cc)))
    (appended_from (map see c.append.new.self.records.items) (mid.journal.through + length mid.journal.changes.items) (old.journal.through + length old.journal.changes.items)
    (ap (λ (n : ℕ). n + 1) c.make_room.ensures.number) (ap (λ records. map see records) c.make_room.ensures.regions) c.make_room.ensures.doubt
    (c.append.ensures.does obeys (λ full. omega (arith, c.append.ensures.full.0 full, c.in-Ok-make_room.ensures.room))))

pub returns-then-is_err-2-clause-cause : goal.returns-then-is_err-2-clause-cause
returns-then-is_err-2-clause-cause g c =
    let old = c.args.self.now in
    let mid = c.make_room.new.self in
    append_cause c.append.result (sym c.is_err-2.ensures.value ∙ c.if-is_err-2.true) (c.in-Ok-make_room.ensures.cause.passed (λ is. absurd (cc))).0
    (cause_from g.R.Region.faults c.append.new.self.records.items (mid.journal.through + length mid.journal.changes.items) (old.journal.through + length old.journal.changes.items)
    c.make_room.ensures.number c.make_room.ensures.regions
    (c.append.ensures.cause (λ full. omega (arith, c.append.ensures.full.0 full, c.in-Ok-make_room.ensures.room))))

pub returns-then-is_err-2-clause-moments : goal.returns-then-is_err-2-clause-moments
returns-then-is_err-2-clause-moments g c =
    let mid = c.make_room.new.self in
    then_appended (changes.Create c.args.node.now) c.make_room.ensures.tree c.make_room.ensures.doubt mid.checkpoint.standing.size mid.distinct mid.behind
    c.make_room.ensures.moments c.append.ensures.moments

pub invariant_of-self-2 : goal.invariant_of-self-2
invariant_of-self-2 g c =
    let old = c.args.self.now in
    let mid = c.make_room.new.self in
    let added = on_ok c.insert.result (sym c.is_err.ensures.value ∙ c.if-is_err.false) c.insert.ensures.added in
    record {
      behind = behind_after (changes.Create c.args.node.now) c.append.ensures.through
          (on_ok c.append.result (sym c.is_err-2.ensures.value ∙ c.if-is_err-2.false) c.append.ensures.appended)
          (added ∙ ap (λ tree. with_node tree c.args.node.now) c.in-Ok.ensures.cases ∙ joined_changed old.tree c.args.node.now c.requires
          ∙ ap (λ tree. changed tree (changes.Create c.args.node.now)) (sym c.make_room.ensures.tree)) mid.behind;
      distinct = apart_records (g.R.Region.seen mid.checkpoint.selector ∷ map g.R.Region.seen mid.checkpoint.tables.items) mid.distinct c.append.ensures.moments;
    }

pub returns-clause-makes : goal.returns-clause-makes
returns-clause-makes g c =
    let old = c.args.self.now in
    let mid = c.make_room.new.self in
    let passed = sym c.is_err-2.ensures.value ∙ c.if-is_err-2.false in
    let added = on_ok c.insert.result (sym c.is_err.ensures.value ∙ c.if-is_err.false) c.insert.ensures.added in
    let more = on_ok c.append.result passed c.append.ensures.appended in
    makes_done (held_of mid) (Ok tt) refl c.in-Ok-make_room.ensures.left c.make_room.ensures.number
    (added ∙ ap (λ tree. with_node tree c.args.node.now) c.in-Ok.ensures.cases ∙ joined_changed old.tree c.args.node.now c.requires)
    more (last_more mid.journal.changes.items (changes.Create c.args.node.now) mid.journal.through c.append.new.self.through c.append.ensures.through more)
    (on_ok c.append.result passed c.append.ensures.settled)

pub returns-clause-does : goal.returns-clause-does
returns-clause-does g c = λ obeys other.
    let old = c.args.self.now in
    let mid = c.make_room.new.self in
    let see = g.R.Region.seen in
    change_appended (g.P.Power.asked c.make_room.new.power) c.append.result (Ok tt) (sym c.is_err-2.ensures.value ∙ c.if-is_err-2.false)
    (c.in-Ok-make_room.ensures.does obeys (λ is. absurd (cc)))
    (appended_from (map see c.append.new.self.records.items) (mid.journal.through + length mid.journal.changes.items) (old.journal.through + length old.journal.changes.items)
    (ap (λ (n : ℕ). n + 1) c.make_room.ensures.number) (ap (λ records. map see records) c.make_room.ensures.regions) c.make_room.ensures.doubt
    (c.append.ensures.does obeys (λ full. omega (arith, c.append.ensures.full.0 full, c.in-Ok-make_room.ensures.room))))

pub returns-clause-cause : goal.returns-clause-cause
returns-clause-cause g c =
    let old = c.args.self.now in
    let mid = c.make_room.new.self in
    no_cause tt c.append.result (sym c.is_err-2.ensures.value ∙ c.if-is_err-2.false) (c.in-Ok-make_room.ensures.cause.passed (λ is. absurd (cc))).0
    (cause_from g.R.Region.faults c.append.new.self.records.items (mid.journal.through + length mid.journal.changes.items) (old.journal.through + length old.journal.changes.items)
    c.make_room.ensures.number c.make_room.ensures.regions
    (c.append.ensures.cause (λ full. omega (arith, c.append.ensures.full.0 full, c.in-Ok-make_room.ensures.room))))

pub returns-clause-moments : goal.returns-clause-moments
returns-clause-moments g c =
    let mid = c.make_room.new.self in
    then_appended (changes.Create c.args.node.now) c.make_room.ensures.tree c.make_room.ensures.doubt mid.checkpoint.standing.size mid.distinct mid.behind
    c.make_room.ensures.moments c.append.ensures.moments
