use Rattle.std.proofs.Common.{◌≡◌, ◌∙◌, ◌+◌, ◌<◌, ◌++◌, ◌∷◌, [], List, length, map, take, sym, ap, arith}
use Rattle.std.proofs.lemmas.List.{length-map, length-take, map-append, take_more}
use Rattle.cfs_queue.specs.declared.kept.Kept.{Kept}
use Rattle.cfs_queue.specs.Queue.{places_in}
use Rattle.cfs_queue.specs.Rows.{seen_all, seen_as}
use Rattle.cfs_queue.proofs.RowLemmas.{places_append, places_few}
use Rattle.cfs_queue.proofs.rows.sorted_places.Goals as goal

pub tell-requires : goal.tell-requires
tell-requires g c =
    let before : List (Kept g.row.R.Denot g.R.Region) = take c.loop-row.row-index c.args.rows.now in
    let room : length c.loop-row.places.items < 16 = omega (
      arith,
      ap length c.loop-row.invariant,
      places_few (seen_all before),
      length-map before (λ (row : Kept g.row.R.Denot g.R.Region). seen_as row),
      length-take c.loop-row.row-index c.args.rows.now,
      c.loop-row-test.true,
      c.requires,
    ) in
    room

pub loop-row-preserved : goal.loop-row-preserved
loop-row-preserved g c =
    let f = λ (row : Kept g.row.R.Denot g.R.Region). seen_as row in
    let before : List (Kept g.row.R.Denot g.R.Region) = take c.loop-row.row-index c.args.rows.now in
    let row : Kept g.row.R.Denot g.R.Region = c.row-item.result in
    let more : take (c.loop-row.row-index + 1) c.args.rows.now ≡ before ++ row ∷ [] =
    take_more c.args.rows.now c.loop-row.row-index row c.loop-row-test.true ∙ ap (λ (r : Kept g.row.R.Denot g.R.Region). before ++ r ∷ []) (sym c.row-item.is) in
    c.tell.ensures ∙ ap (λ l. l ++ places_in (seen_as row ∷ [])) c.loop-row.invariant
    ∙ sym (ap (λ (rows : List (Kept g.row.R.Denot g.R.Region)). places_in (map f rows)) more ∙ ap (λ l. places_in l) (map-append f before (row ∷ []))
    ∙ places_append (map f before) (map f (row ∷ [])))
