use Rattle.std.proofs.Common.{◌∙◌, ◌++◌, ◌∷◌, [], ℕ, List, map, sym, ap, arith}
use Rattle.std.specs.List.{range_with_len}
use Rattle.std.proofs.lemmas.List.{map-append}
use Rattle.cfs_survey.specs.Tables.{row_at}
use Rattle.cfs_survey.proofs.FirstFaults.{range_more}
use Rattle.cfs_survey.proofs.journal.table_places.Goals as goal

pub loop-rec-preserved : goal.loop-rec-preserved
loop-rec-preserved c =
    let first : List ℕ = range_with_len 0 c.loop-rec.rec in
    c.in_ok-push.ensures.items
    ∙ ap (λ (xs : List ℕ). xs ++ c.place_in_table.result ∷ []) c.loop-rec.invariant
    ∙ ap (λ (x : ℕ). map (row_at c.args.table_at) first ++ x ∷ []) c.place_in_table.ensures
    ∙ sym (map-append (row_at c.args.table_at) first (c.loop-rec.rec ∷ []))
    ∙ ap (map (row_at c.args.table_at))
    (sym (range_more 0 c.loop-rec.rec c.loop-rec.rec (omega arith)))
