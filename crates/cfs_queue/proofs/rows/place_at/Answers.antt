use Rattle.std.proofs.Common.{◌≡◌, ◌<◌, ◌≤◌, ◌∙◌, Option, length, get_or, refl, sym, ap, arith}
use Rattle.std.proofs.lemmas.Bool.Decides.{nat_tests}
use Rattle.std.proofs.lemmas.List.{get_or-map, length-map}
use Rattle.std.proofs.lemmas.Option.{slice_get_past, slice_get_read}
use Rattle.cfs_queue.specs.declared.kept.Kept.{Kept}
use Rattle.cfs_queue.specs.Queue.{Held, place_at}
use Rattle.cfs_queue.specs.Rows.{seen_all, seen_as}
use Rattle.cfs_queue.proofs.rows.place_at.Goals as goal

pub returns-in_default : goal.returns-in_default
returns-in_default g c =
    let test = c.in_default.ensures.lookup.0 in
    let past : length c.args.rows.now ≤ c.args.at = grind (arith, nat_tests) in
    sym (ap (λ (o : Option (Held g.row.R.Denot)). place_at o)
    (slice_get_past (seen_all c.args.rows.now) c.args.at (omega (arith, past, length-map c.args.rows.now (λ (row : Kept g.row.R.Denot g.R.Region). seen_as row)))))

pub returns : goal.returns
returns g c =
    let f = λ (row : Kept g.row.R.Denot g.R.Region). seen_as row in
    let test = c.in-Some.ensures.lookup.0 in
    let lt : c.args.at < length c.args.rows.now = grind (arith, nat_tests) in
    let row : Kept g.row.R.Denot g.R.Region = c.in-Some.row.now in
    let there : get_or (seen_all c.args.rows.now) c.args.at (seen_as row) ≡ seen_as row =
    get_or-map f c.args.rows.now c.args.at row (seen_as row) lt ∙ ap f (sym c.in-Some.ensures.lookup.1) in
    c.place.ensures
    ∙ sym (ap (λ (o : Option (Held g.row.R.Denot)). place_at o)
    (slice_get_read (seen_all c.args.rows.now) (length (seen_all c.args.rows.now)) c.args.at (seen_as row) refl (omega (arith, lt, length-map c.args.rows.now f)) (sym there)))
