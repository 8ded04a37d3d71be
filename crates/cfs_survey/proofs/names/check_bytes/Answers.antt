use Rattle.std.proofs.Common.{◌∙◌, ◌∷◌, [], ℕ, Some, sym, ap, arith}
use Rattle.std.proofs.lemmas.Result.{err_from_is_err_and}
use Rattle.cfs_survey.specs.Faults.{damage_in, reported}
use Rattle.cfs_survey.specs.Fields.{byte_check}
use Rattle.cfs_survey.proofs.FirstFaults.{fails_at, sound_more}
use Rattle.cfs_survey.proofs.names.check_bytes.Goals as goal

pub returns-in_err-check_byte : goal.returns-in_err-check_byte
returns-in_err-check_byte c =
    let p = err_from_is_err_and c.from_residual.result c.from_residual.ensures.1 in
    let each = λ (k : ℕ). byte_check c.args.at c.args.len c.args.room.now k ∷ [] in
    let f = fails_at each 0 c.loop-k.k 40 c.loop-k.k (damage_in c.in_err-check_byte.field-0.0) (omega arith) (omega arith) c.loop-k.invariant (sym c.in_err-check_byte.ensures) in
    ap reported p.1 ∙ ap (λ e. Some (damage_in e)) p.2 ∙ sym f

pub loop-k-preserved : goal.loop-k-preserved
loop-k-preserved c =
    let each = λ (k : ℕ). byte_check c.args.at c.args.len c.args.room.now k ∷ [] in
    sound_more each 0 c.loop-k.k c.loop-k.k (omega arith) c.loop-k.invariant (sym c.in_ok-check_byte.ensures)
