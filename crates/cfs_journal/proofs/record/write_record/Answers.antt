use Rattle.std.proofs.lemmas.Result.{err_from_is_err_and}
use Rattle.cfs_pmem.proofs.ImageLemmas.{sure_kept}
use Rattle.cfs_journal.proofs.RecordLemmas.{behind_persist, behind_words, record_at_gate, record_at_persist, record_at_words, record_whole}
use Rattle.cfs_journal.proofs.record.write_record.Goals as goal

pub returns-in_err-write_words-clause-written : goal.returns-in_err-write_words-clause-written
returns-in_err-write_words-clause-written g c =
    let p = err_from_is_err_and c.from_residual.result c.from_residual.ensures.1 in
    record_at_words c.args.change.now c.words.result p.0 p.1 c.in_err-write_words.field-0.0 c.words.ensures c.requires c.in_err-write_words.ensures.written

pub returns-in_err-persist-clause-written : goal.returns-in_err-persist-clause-written
returns-in_err-persist-clause-written g c =
    let p = err_from_is_err_and c.from_residual-in_err-persist.result c.from_residual-in_err-persist.ensures.1 in
    record_at_persist p.0 p.1 (behind_words c.args.change.now c.words.result tt c.words.ensures c.requires c.in_ok-write_words.ensures.written)
    c.in_err-persist.ensures.err c.persist.ensures.asks c.in_err-persist.ensures.asked

pub returns-in_err-set_word-clause-written : goal.returns-in_err-set_word-clause-written
returns-in_err-set_word-clause-written g c =
    let p = err_from_is_err_and c.from_residual-in_err-set_word.result c.from_residual-in_err-set_word.ensures.1 in
    record_at_gate p.0 p.1 c.in_err-set_word.field-0.0 c.requires
    (behind_persist (behind_words c.args.change.now c.words.result tt c.words.ensures c.requires c.in_ok-write_words.ensures.written)
    c.in_ok-persist.ensures.ok c.persist.ensures.asks c.in_ok-persist.ensures.asked)
    (sure_kept (g.R.Region.seen c.write_words.new.region) c.in_ok-persist.ensures.ok) c.in_err-set_word.ensures.set

pub returns-clause-written : goal.returns-clause-written
returns-clause-written g c =
    record_whole tt tt c.requires
    (behind_persist (behind_words c.args.change.now c.words.result tt c.words.ensures c.requires c.in_ok-write_words.ensures.written)
    c.in_ok-persist.ensures.ok c.persist.ensures.asks c.in_ok-persist.ensures.asked)
    (sure_kept (g.R.Region.seen c.write_words.new.region) c.in_ok-persist.ensures.ok) c.in_ok-set_word.ensures.set
