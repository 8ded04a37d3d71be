use Rattle.std.specs.Prelude.{option_copied}
use Rattle.std.proofs.Common.{◌≡◌, ◌∙◌, ◌+◌, ◌*◌, length, subst, arith}
use Rattle.std.proofs.lemmas.Result.{err_from_is_err_and}
use Rattle.cfs_dir.specs.Words.{table_words}
use Rattle.cfs_ckpt.proofs.TableLemmas.{HasPut, length-table, length-words, put_first, put_row, row_same, table_at_first, table_at_persist, table_at_row, table_whole}
use Rattle.cfs_ckpt.proofs.table.write_table.Goals as goal

pub returns-in_err-write-clause-written : goal.returns-in_err-write-clause-written
returns-in_err-write-clause-written g c =
    let p = err_from_is_err_and c.from_residual.result c.from_residual.ensures.1 in
    table_at_first p.0 p.1 (omega (arith, length-table c.args.tree.now)) c.in_err-write.ensures.err c.write.ensures.asks c.in_err-write.ensures.asked

pub loop-rec-init : goal.loop-rec-init
loop-rec-init g c = record {
  put = put_first c.next.result c.next.ensures.next c.in_ok-write.ensures.ok c.write.ensures.asks c.in_ok-write.ensures.asked;
  faults = c.in_ok-write.ensures.cause.passed;
}

pub write_words-requires : goal.write_words-requires
write_words-requires g c = record {
  within = omega (arith, c.loop-rec.invariant.put.size, c.requires, length-words (option_copied c.node.result) c.record_words-row.result c.record_words-row.ensures);
  fits = omega (arith, length-words (option_copied c.node.result) c.record_words-row.result c.record_words-row.ensures);
}

pub returns-in_err-write_words-clause-written : goal.returns-in_err-write_words-clause-written
returns-in_err-write_words-clause-written g c =
    let p = err_from_is_err_and c.from_residual-in_err-write_words.result c.from_residual-in_err-write_words.ensures.1 in
    let size = length-words (option_copied c.node.result) c.record_words-row.result c.record_words-row.ensures in
    table_at_row c.record_words-row.result p.0 p.1 c.in_err-write_words.field-0.0
    (row_same c.args.tree.now c.loop-rec.rec (option_copied c.node.result) c.record_words-row.result c.loop-rec-test.true c.node.ensures c.record_words-row.ensures)
    (omega (arith, size, length-table c.args.tree.now, c.loop-rec-test.true)) c.loop-rec.invariant.put c.in_err-write_words.ensures.written

pub loop-rec-preserved : goal.loop-rec-preserved
loop-rec-preserved g c =
    let size = length-words (option_copied c.node.result) c.record_words-row.result c.record_words-row.ensures in
    let next : (1 + 12 * c.loop-rec.rec) + length c.record_words-row.result ≡ 1 + 12 * (c.loop-rec.rec + 1) = omega (arith, size) in
    record {
      put = subst (λ k. HasPut g.R.Region.obeys_power (table_words c.args.tree.now) k
          (g.P.Power.asked c.args.power.now) (g.R.Region.seen c.args.region.now) (g.P.Power.asked c.write_words.new.power) (g.R.Region.seen c.write_words.new.region)) next
          (put_row c.record_words-row.result tt
          (row_same c.args.tree.now c.loop-rec.rec (option_copied c.node.result) c.record_words-row.result c.loop-rec-test.true c.node.ensures c.record_words-row.ensures)
          c.loop-rec.invariant.put c.in_ok-write_words.ensures.written);
      faults = c.in_ok-write_words.ensures.cause.passed ∙ c.loop-rec.invariant.faults;
    }

pub returns-in_err-persist-clause-written : goal.returns-in_err-persist-clause-written
returns-in_err-persist-clause-written g c =
    let p = err_from_is_err_and c.from_residual-in_err-persist.result c.from_residual-in_err-persist.ensures.1 in
    table_at_persist p.0 p.1 (omega (arith, length-table c.args.tree.now, c.loop-rec-test.false)) c.loop-rec.invariant.put
    c.in_err-persist.ensures.err c.persist.ensures.asks c.in_err-persist.ensures.asked

pub returns-clause-written : goal.returns-clause-written
returns-clause-written g c =
    table_whole tt (omega (arith, length-table c.args.tree.now, c.loop-rec-test.false)) (omega (arith, length-table c.args.tree.now, c.requires)) c.loop-rec.invariant.put
    c.in_ok-persist.ensures.ok c.persist.ensures.asks c.in_ok-persist.ensures.asked
