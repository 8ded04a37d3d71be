use Rattle.std.proofs.Common.{◌≡◌, ◌∷◌, false, map, subst, sym}
use Rattle.std.proofs.Math.ListN.{set}
use Rattle.std.specs.Prelude.{OnOk}
use Rattle.cfs_dir.specs.Words.{table_words}
use Rattle.cfs_pmem.specs.Images.{words_of, IsSure}
use Rattle.cfs_ckpt.specs.Selects.{Selects}
use Rattle.cfs_ckpt.specs.Stores.{free_copy}
use Rattle.cfs_ckpt.proofs.CopyLemmas.{IsCopy, copy_cause, copy_does, copy_moments, copy_seen, copy_size, copy_stands, copy_within}
use Rattle.cfs_ckpt.proofs.checkpoint.Checkpoint.put_table.Goals as goal

pub write_table-requires : goal.write_table-requires
write_table-requires g c =
    let see = g.R.Region.seen in
    let self = c.args.self.now in
    let copy : IsCopy self.tables.items c.free_copy-free.result (free_copy self.word) c.index_mut.result.now =
    record { place = c.free_copy-free.ensures; within = copy_within see (see self.selector) self.tables.items self.standing c.free_copy-free.ensures; item_is = c.index_mut.ensures.value } in
    copy_size see (see self.selector) self.tables.items self.standing copy

pub invariant_of-self : goal.invariant_of-self
invariant_of-self g c =
    let see = g.R.Region.seen in
    let self = c.args.self.now in
    let copy : IsCopy self.tables.items c.free_copy-free.result (free_copy self.word) c.index_mut.result.now =
    record { place = c.free_copy-free.ensures; within = copy_within see (see self.selector) self.tables.items self.standing c.free_copy-free.ensures; item_is = c.index_mut.ensures.value } in
    let sure : Selects self.word false (see self.selector ∷ map see self.tables.items) = subst (λ u. Selects self.word u (see self.selector ∷ map see self.tables.items)) c.requires self.standing in
    record {
      standing = subst (λ u. Selects self.word u (see self.selector ∷ map see (set self.tables.items c.free_copy-free.result c.write_table.new.region))) (sym c.requires)
          (copy_stands see (see self.selector) self.tables.items c.write_table.new.region sure copy c.write_table.ensures.written.size c.write_table.ensures.written.moments);
    }

pub returns-clause-words : goal.returns-clause-words
returns-clause-words g c =
    let see = g.R.Region.seen in
    let self = c.args.self.now in
    let copy : IsCopy self.tables.items c.free_copy-free.result (free_copy self.word) c.index_mut.result.now =
    record { place = c.free_copy-free.ensures; within = copy_within see (see self.selector) self.tables.items self.standing c.free_copy-free.ensures; item_is = c.index_mut.ensures.value } in
    subst (λ x. OnOk c.write_table.result (words_of x ≡ table_words c.args.tree.now)) (copy_seen see (see self.selector) self.tables.items c.write_table.new.region copy) c.write_table.ensures.written.ok

pub returns-clause-sure : goal.returns-clause-sure
returns-clause-sure g c =
    let see = g.R.Region.seen in
    let self = c.args.self.now in
    let copy : IsCopy self.tables.items c.free_copy-free.result (free_copy self.word) c.index_mut.result.now =
    record { place = c.free_copy-free.ensures; within = copy_within see (see self.selector) self.tables.items self.standing c.free_copy-free.ensures; item_is = c.index_mut.ensures.value } in
    subst (λ x. OnOk c.write_table.result (IsSure x)) (copy_seen see (see self.selector) self.tables.items c.write_table.new.region copy) c.write_table.ensures.written.sure

pub returns-clause-does : goal.returns-clause-does
returns-clause-does g c = λ obeys.
    let see = g.R.Region.seen in
    let self = c.args.self.now in
    let copy : IsCopy self.tables.items c.free_copy-free.result (free_copy self.word) c.index_mut.result.now =
    record { place = c.free_copy-free.ensures; within = copy_within see (see self.selector) self.tables.items self.standing c.free_copy-free.ensures; item_is = c.index_mut.ensures.value } in
    copy_does see (see self.selector) self.tables.items c.write_table.new.region c.write_table.result copy (c.write_table.ensures.written.does obeys)

pub returns-clause-cause : goal.returns-clause-cause
returns-clause-cause g c =
    let see = g.R.Region.seen in
    let self = c.args.self.now in
    let copy : IsCopy self.tables.items c.free_copy-free.result (free_copy self.word) c.index_mut.result.now =
    record { place = c.free_copy-free.ensures; within = copy_within see (see self.selector) self.tables.items self.standing c.free_copy-free.ensures; item_is = c.index_mut.ensures.value } in
    copy_cause g.R.Region.faults (g.R.Region.faults self.selector) self.tables.items c.write_table.new.region c.write_table.result copy c.write_table.ensures.cause

pub returns-clause-moments : goal.returns-clause-moments
returns-clause-moments g c =
    let see = g.R.Region.seen in
    let self = c.args.self.now in
    let copy : IsCopy self.tables.items c.free_copy-free.result (free_copy self.word) c.index_mut.result.now =
    record { place = c.free_copy-free.ensures; within = copy_within see (see self.selector) self.tables.items self.standing c.free_copy-free.ensures; item_is = c.index_mut.ensures.value } in
    let sure : Selects self.word false (see self.selector ∷ map see self.tables.items) = subst (λ u. Selects self.word u (see self.selector ∷ map see self.tables.items)) c.requires self.standing in
    copy_moments see (see self.selector) self.tables.items c.write_table.new.region sure copy c.write_table.ensures.written.moments
