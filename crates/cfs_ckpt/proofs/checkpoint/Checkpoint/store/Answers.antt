use Rattle.std.proofs.Common.{◌∷◌, ◌∙◌, inl, map}
use Rattle.std.proofs.lemmas.Result.{err_from_is_err_and}
use Rattle.cfs_pmem.proofs.AllMomentLemmas.{all_weaker}
use Rattle.cfs_ckpt.proofs.StoreLemmas.{all_moments, all_stored, both_moments, copy_words, stop_at_put, stop_at_select, stop_at_settle, stores_stopped, told_words}
use Rattle.cfs_ckpt.proofs.checkpoint.Checkpoint.store.Goals as goal

pub returns-in_err-settle-clause-does : goal.returns-in_err-settle-clause-does
returns-in_err-settle-clause-does g c = λ obeys.
    let self = c.args.self.now in
    let p = err_from_is_err_and c.from_residual.result c.from_residual.ensures.1 in
    stores_stopped p.0 p.1 c.in_err-settle.ensures.doubtful
    (stop_at_settle self.unsure self.word c.args.tree.now c.args.through (c.in_err-settle.ensures.does obeys).front)

pub returns-in_err-settle-clause-moments : goal.returns-in_err-settle-clause-moments
returns-in_err-settle-clause-moments g c = all_weaker (λ images h. inl h) c.settle.ensures.moments

pub returns-in_err-put_table-clause-does : goal.returns-in_err-put_table-clause-does
returns-in_err-put_table-clause-does g c = λ obeys.
    let self = c.args.self.now in
    let p = err_from_is_err_and c.from_residual-in_err-put_table.result c.from_residual-in_err-put_table.ensures.1 in
    stores_stopped p.0 p.1 c.put_table.ensures.settled
    (stop_at_put self.unsure self.word c.settle.new.self.word c.args.tree.now c.args.through c.settle.ensures.word
    (c.in_ok-settle.ensures.does obeys).all (c.in_err-put_table.ensures.does obeys).front)

pub returns-in_err-put_table-clause-moments : goal.returns-in_err-put_table-clause-moments
returns-in_err-put_table-clause-moments g c = all_weaker (λ images h. inl h) (both_moments c.settle.ensures.moments c.put_table.ensures.moments)

pub returns-in_err-select-clause-does : goal.returns-in_err-select-clause-does
returns-in_err-select-clause-does g c = λ obeys.
    let self = c.args.self.now in
    let p = err_from_is_err_and c.from_residual-in_err-select.result c.from_residual-in_err-select.ensures.1 in
    stores_stopped p.0 p.1 c.in_err-select.ensures.doubtful
    (stop_at_select self.unsure self.word c.settle.new.self.word c.put_table.new.self.word c.args.tree.now c.args.through c.settle.ensures.word c.put_table.ensures.word
    (c.in_ok-settle.ensures.does obeys).all (c.in_ok-put_table.ensures.does obeys).all (c.in_err-select.ensures.does obeys).front)

pub returns-in_err-select-clause-moments : goal.returns-in_err-select-clause-moments
returns-in_err-select-clause-moments g c =
    let see = g.R.Region.seen in
    let put = c.put_table.new.self in
    let told = told_words _ c.args.tree.now c.args.through c.put_table.ensures.whole
    (copy_words (see put.selector ∷ map see put.tables.items) put.word c.settle.new.self.word c.put_table.ensures.word c.in_ok-put_table.ensures.words) in
    all_moments told (both_moments c.settle.ensures.moments c.put_table.ensures.moments) c.select.ensures.moments

pub returns-clause-does : goal.returns-clause-does
returns-clause-does g c = λ obeys.
    let self = c.args.self.now in
    record {
      ok = all_stored self.unsure self.word c.settle.new.self.word c.put_table.new.self.word c.args.tree.now c.args.through c.settle.ensures.word c.put_table.ensures.word
          (c.in_ok-settle.ensures.does obeys).all (c.in_ok-put_table.ensures.does obeys).all (c.in_ok-select.ensures.does obeys).all;
      err = tt;
    }

pub returns-clause-stored : goal.returns-clause-stored
returns-clause-stored g c = λ images all.
    let see = g.R.Region.seen in
    let put = c.put_table.new.self in
    let told = told_words _ c.args.tree.now c.args.through c.put_table.ensures.whole
    (copy_words (see put.selector ∷ map see put.tables.items) put.word c.settle.new.self.word c.put_table.ensures.word c.in_ok-put_table.ensures.words) in
    c.in_ok-select.ensures.selected images all ∙ told

pub returns-clause-moments : goal.returns-clause-moments
returns-clause-moments g c =
    let see = g.R.Region.seen in
    let put = c.put_table.new.self in
    let told = told_words _ c.args.tree.now c.args.through c.put_table.ensures.whole
    (copy_words (see put.selector ∷ map see put.tables.items) put.word c.settle.new.self.word c.put_table.ensures.word c.in_ok-put_table.ensures.words) in
    all_moments told (both_moments c.settle.ensures.moments c.put_table.ensures.moments) c.select.ensures.moments
