use Rattle.std.proofs.Common.{◌≡◌, ◌∙◌, true, false, Some, List, sym, ap}
use Rattle.std.specs.List.{position}
use Rattle.cfs_queue.specs.declared.kept.Kept.{Kept}
use Rattle.cfs_queue.specs.declared.kept.Kept.TheVariants.{Free, Out}
use Rattle.cfs_queue.specs.Queue.{is_free}
use Rattle.cfs_queue.specs.Rows.{seen_as}
use Rattle.cfs_queue.proofs.RowLemmas.{found_free, none_found, taken_at}
use Rattle.cfs_queue.proofs.rows.take_first.Goals as goal

pub returns-in_default-clause-none : goal.returns-in_default-clause-none
returns-in_default-clause-none g c =
    none_found (λ (row : Kept g.row.R.Denot g.R.Region). seen_as row) c.args.rows.now.items
    (ap (λ (rows : List (Kept g.row.R.Denot g.R.Region)). position (λ row. is_free (seen_as row)) rows) (sym c.as_slice.ensures.value) ∙ sym c.first_free.ensures ∙ c.in_default.is)

pub unreachable-requires : goal.unreachable-requires
unreachable-requires g c =
    let found : position (λ (row : Kept g.row.R.Denot g.R.Region). is_free (seen_as row)) c.as_mut_slice.result.now ≡ Some c.in-Some.at =
    ap (λ (rows : List (Kept g.row.R.Denot g.R.Region)). position (λ row. is_free (seen_as row)) rows) (c.as_mut_slice.ensures.value ∙ sym c.as_slice.ensures.value) ∙ sym c.first_free.ensures ∙ c.in-Some.is in
    let free : is_free (seen_as c.index-as_mut_slice-at.result) ≡ true =
    found_free (λ (row : Kept g.row.R.Denot g.R.Region). seen_as row) c.as_mut_slice.result.now c.in-Some.at c.index-as_mut_slice-at.result found c.index-as_mut_slice-at.is in
    let same : c.index-as_mut_slice-at.result ≡ Out c.in-Out.field-0 = c.index-as_mut_slice-at.is ∙ sym c.replace.ensures.value ∙ c.in-Out.is in
    let wrong : false ≡ true = sym (ap (λ (row : Kept g.row.R.Denot g.R.Region). is_free (seen_as row)) same) ∙ free in
    cc

pub returns-clause-first : goal.returns-clause-first
returns-clause-first g c =
    let found : position (λ (row : Kept g.row.R.Denot g.R.Region). is_free (seen_as row)) c.args.rows.now.items ≡ Some c.in-Some.at =
    ap (λ (rows : List (Kept g.row.R.Denot g.R.Region)). position (λ row. is_free (seen_as row)) rows) (sym c.as_slice.ensures.value) ∙ sym c.first_free.ensures ∙ c.in-Some.is in
    let same : c.index-as_mut_slice-at.result ≡ Free c.in-Free.slot = c.index-as_mut_slice-at.is ∙ sym c.replace.ensures.value ∙ c.in-Free.is in
    taken_at (λ (row : Kept g.row.R.Denot g.R.Region). seen_as row) c.args.rows.now.items c.as_mut_slice.result.now c.in-Some.at c.index-as_mut_slice-at.result c.replace.new.dest c.in-Free.slot.region
    c.as_mut_slice.ensures.value found c.index-as_mut_slice-at.is (ap (λ (row : Kept g.row.R.Denot g.R.Region). seen_as row) same)
    (ap (λ (row : Kept g.row.R.Denot g.R.Region). seen_as row) c.replace.ensures.after)
