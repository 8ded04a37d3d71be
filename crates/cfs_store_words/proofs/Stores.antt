-- What the regions of a store have room for.
use Rattle.std.proofs.Common.{ℕ, suc, ◌+◌, ◌-◌, ◌%◌, ◌<◌, ◌≤◌, ◌≡◌, ◌∙◌, List, [], ◌∷◌}
use Rattle.std.proofs.Common.{length, map, get_or, take, drop, refl, sym, ap, arith}
use Rattle.std.proofs.Math.ListN as lists
use Rattle.std.proofs.lemmas.Bool.Decides.{nat_tests}
use Rattle.std.proofs.lemmas.List.{get_or-drop, get_or-take, length-drop, length-map}
use Rattle.std.proofs.lemmas.List.{length-take-le, take_all}
use Rattle.std.proofs.lemmas.List.FromFn.{get_or-map-range_with_len}
use Rattle.cfs_pmem.specs.Images.{Seen, WordStep, words_of}
use Rattle.cfs_block.specs.BlockImages.{BlockStep}
use Rattle.cfs_image.specs.Layout.{region_words}
use Rattle.cfs_image.specs.Store.{IsStore}
use Rattle.cfs_survey.specs.Surveys.{AreWhole, Words}
use Rattle.cfs_store_words.specs.Held.{selector_held, words_held}
use Rattle.cfs_store_words.specs.Rows.{first_word, row_at, rows_from, tag_in}

module _ {regions : List (Seen WordStep)} {blocks : List (Seen BlockStep)} {numbers : List ℕ}
    (store : IsStore regions blocks numbers) where
  -- a queue of slots at least, and 64 of them at most
  pub fewest : 339 ≤ length regions
  fewest = omega (arith, store.sized.whole_queues, store.sized.some_queue)

  pub most : length regions ≤ 1347
  most = omega (arith, store.sized.whole_queues, store.sized.most_queues)

  pub row-len : (place : ℕ) → place < length regions →
      length (row_at regions place) ≡ region_words place
  row-len place less =
      sym (lists.get_or-map (λ (seen : Seen WordStep). length (words_of seen)) regions place
      record { device = 0; also = []; history = [] })
      ∙ (ap (λ (ns : List ℕ). get_or ns place 0) store.sizes
      ∙ get_or-map-range_with_len region_words 0 (length regions) place place 0 less (omega arith))

  pub selector-len : length (row_at regions 0) ≡ 1
  selector-len = row-len 0 (omega (arith, fewest))

  pub table-len : (copy : ℕ) → copy < 2 → length (row_at regions (1 + copy)) ≡ 3073
  table-len copy less =
      row-len (1 + copy) (omega (arith, less, fewest)) ∙ words copy less
    where
      words : (copy : ℕ) → copy < 2 → region_words (1 + copy) ≡ 3073
      words copy less = grind (arith, nat_tests)

  pub record-len : (k : ℕ) → k < 64 → length (row_at regions (3 + k)) ≡ 16
  record-len k less = row-len (3 + k) (omega (arith, less, fewest)) ∙ words k less
    where
      words : (k : ℕ) → k < 64 → region_words (3 + k) ≡ 16
      words k less = grind (arith, nat_tests)

  pub size-len : (k : ℕ) → k < 256 → length (row_at regions (67 + k)) ≡ 1
  size-len k less = row-len (67 + k) (omega (arith, less, fewest)) ∙ words k less
    where
      words : (k : ℕ) → k < 256 → region_words (67 + k) ≡ 1
      words k less = grind (arith, nat_tests)

  pub slot-len : (k : ℕ) → 323 + k < length regions → length (row_at regions (323 + k)) ≡ 518
  slot-len k less = row-len (323 + k) less ∙ words k
    where
      words : (k : ℕ) → region_words (323 + k) ≡ 518
      words k = grind (arith, nat_tests)

  length-rows : (first count : ℕ) → first + count ≤ length regions →
      length (rows_from first count regions) ≡ count
  length-rows first count fits =
      length-take-le count (drop first (map words_of regions))
      (omega (arith, fits, length-drop first (map words_of regions), length-map regions words_of))

  pub whole : AreWhole (words_held regions blocks)
  whole = record {
    table = table-len (selector_held regions % 2) (omega arith);
    journal = length-rows 3 64 (omega (arith, fewest));
    sizes = length-map (rows_from 67 256 regions) first_word
        ∙ length-rows 67 256 (omega (arith, fewest));
    slots = omega (
      arith,
      most,
      length-map (drop 323 (map words_of regions)) (take 6),
      length-drop 323 (map words_of regions),
      length-map regions words_of,
    );
    tags = omega (arith, store.sized.most, length-map blocks tag_in);
  }

  full-rows : (n : ℕ) (rows : List (List ℕ)) →
      ((k : ℕ) → k < length rows → length (get_or rows k []) ≡ n) → map (take n) rows ≡ rows
  full-rows n [] long = refl
  full-rows n (row ∷ rows) long =
      ap (λ (first : List ℕ). first ∷ map (take n) rows)
      (take_all n row (omega (arith, long 0 (omega arith))))
      ∙ ap (λ (rest : List (List ℕ)). row ∷ rest)
      (full-rows n rows (λ k less. long (suc k) (omega (arith, less))))

  -- the records are read whole
  pub whole-records : map (take 16) (rows_from 3 64 regions) ≡ rows_from 3 64 regions
  whole-records =
      full-rows 16 (rows_from 3 64 regions)
      (λ k less.
      let few : k < 64 = omega (arith, less, length-rows 3 64 (omega (arith, fewest))) in
      ap (λ (row : List ℕ). length row)
      (get_or-take 64 (drop 3 (map words_of regions)) k [] few
      ∙ (get_or-drop 3 (map words_of regions) k []
      ∙ lists.get_or-map words_of regions (3 + k) record { device = 0; also = []; history = [] }))
      ∙ record-len k few)

  -- and all slots are read
  pub all-slots : rows_from 323 (length regions - 323) regions ≡ drop 323 (map words_of regions)
  all-slots =
      take_all (length regions - 323) (drop 323 (map words_of regions))
      (omega (arith, length-drop 323 (map words_of regions), length-map regions words_of))

  -- it is so behind calls that change no region
  pub table-after : {seens : List (Seen WordStep)} → seens ≡ regions → (selector : ℕ) →
      length (row_at seens (1 + selector % 2)) ≡ 3073
  table-after same selector =
      ap (λ (these : List (Seen WordStep)). length (row_at these (1 + selector % 2))) same
      ∙ table-len (selector % 2) (omega arith)

  pub record-after : {seens : List (Seen WordStep)} → seens ≡ regions → (k : ℕ) → k < 64 →
      16 ≤ length (row_at seens (3 + k))
  record-after {seens} same k less =
      let long : length (row_at seens (3 + k)) ≡ 16 =
      ap (λ (these : List (Seen WordStep)). length (row_at these (3 + k))) same
      ∙ record-len k less in
      omega (arith, long)

  pub size-after : {seens : List (Seen WordStep)} → seens ≡ regions → (k : ℕ) → k < 256 →
      1 ≤ length (row_at seens (67 + k))
  size-after {seens} same k less =
      let long : length (row_at seens (67 + k)) ≡ 1 =
      ap (λ (these : List (Seen WordStep)). length (row_at these (67 + k))) same
      ∙ size-len k less in
      omega (arith, long)

  pub slot-after : {seens : List (Seen WordStep)} → seens ≡ regions → (k : ℕ) →
      323 + k < length regions → 6 ≤ length (row_at seens (323 + k))
  slot-after {seens} same k less =
      let long : length (row_at seens (323 + k)) ≡ 518 =
      ap (λ (these : List (Seen WordStep)). length (row_at these (323 + k))) same
      ∙ slot-len k less in
      omega (arith, long)

  pub journal-is : {seens : List (Seen WordStep)} → seens ≡ regions →
      map (take 16) (rows_from 3 64 seens) ≡ rows_from 3 64 regions
  journal-is same =
      ap (λ (these : List (Seen WordStep)). map (take 16) (rows_from 3 64 these)) same
      ∙ whole-records

  pub slots-are : {seens : List (Seen WordStep)} (count : ℕ) → seens ≡ regions →
      count ≡ length regions - 323 →
      map (take 6) (rows_from 323 count seens) ≡ map (take 6) (drop 323 (map words_of regions))
  slots-are count same many =
      ap (λ (these : List (Seen WordStep)). map (take 6) (rows_from 323 count these)) same
      ∙ (ap (λ (n : ℕ). map (take 6) (rows_from 323 n regions)) many
      ∙ ap (map (take 6)) all-slots)

-- the words are these where each part is
pub words-are : (a b : Words) → a.selector ≡ b.selector → a.table ≡ b.table →
    a.journal ≡ b.journal → a.sizes ≡ b.sizes → a.slots ≡ b.slots → a.tags ≡ b.tags → a ≡ b
words-are a b selector table journal sizes slots tags =
    ap (λ (n : ℕ). record a { selector = n }) selector
    ∙ (ap (λ (xs : List ℕ). record a { selector = b.selector; table = xs }) table
    ∙ (ap (λ (xs : List (List ℕ)).
    record a { selector = b.selector; table = b.table; journal = xs }) journal
    ∙ (ap (λ (xs : List ℕ).
    record b { sizes = xs; slots = a.slots; tags = a.tags }) sizes
    ∙ (ap (λ (xs : List (List ℕ)). record b { slots = xs; tags = a.tags }) slots
    ∙ ap (λ (xs : List ℕ). record b { tags = xs }) tags))))
