-- Where all that an old image holds stands in the new one.
use Rattle.std.proofs.Common.{ℕ, ◌+◌, ◌-◌, ◌*◌, ◌<◌, ◌≤◌, ◌≡◌, ◌∙◌, List, [], ◌++◌, length, take}
use Rattle.std.proofs.Common.{drop, inl, inr, refl, sym, ap, arith, append_assoc}
use Rattle.std.proofs.lemmas.Bool.{cases_lt}
use Rattle.std.proofs.lemmas.Bool.Decides.{nat_tests}
use Rattle.std.proofs.lemmas.List.{append-nil, drop_at, drop-drop, length-append, length-drop}
use Rattle.std.proofs.lemmas.List.{length-take-le, take_at}
use Rattle.byteorder.specs.Endian.{little_bytes, little_number}
use Rattle.byteorder.specs.Numbers.{length-bytes_low_first, little_number-reads_back}
use Rattle.cfs_image.specs.declared.layout.TheConstants.{VERSION}
use Rattle.cfs_image.specs.declared.version.Version.TheVariants.{First}
use Rattle.cfs_image.specs.Checks.{IsSound}
use Rattle.cfs_image.specs.Image.{word_at}
use Rattle.cfs_image.specs.Layout.{range_of}
use Rattle.cfs_image.specs.Versions.{journal_at_in}
use Rattle.cfs_image.proofs.Standing.{sound_of}
use Rattle.cfs_move.specs.Moved.{IsMoved, gained, old_range_of, part}
use Rattle.cfs_move.specs.Refusals.{IsOldSound}
use Rattle.cfs_move.specs.Upgraded.{record_moved, records_moved, upgraded}
use Rattle.cfs_move.proofs.Headers.{IsOldHeaded, old_headed}
use Rattle.cfs_move.proofs.Pieces.{behind_kept, piece_at, pieces_length, within_kept, word_of_front}

-- how long a record of the new journal is, how long they are together, and where each stands
record_length : (old : List ℕ) (position : ℕ) → 58936 ≤ length old → position < 64 →
    length (record_moved old position) ≡ 128
record_length old position room l =
    let from : ℕ = journal_at_in First position in
    let kept : List ℕ = take 120 (drop from old) in
    let size : length kept ≡ 120 =
    length-take-le 120 (drop from old) (omega (arith, length-drop from old)) in
    omega (arith, length-append kept (little_bytes 8 0), length-bytes_low_first 0 8 0)

journal_length : (old : List ℕ) → 58936 ≤ length old → length (records_moved old 64) ≡ 8192
unfolding records_moved
journal_length old room =
    pieces_length (record_moved old) 0 64 (λ k l. record_length old k room (omega arith))

record_at : (old after : List ℕ) (position : ℕ) → 58936 ≤ length old → position < 64
    → take 128 (drop (128 * position) (records_moved old 64 ++ after)) ≡ record_moved old position
unfolding records_moved
record_at old after position room l =
    let same : 0 + position ≡ position = omega arith in
    piece_at (record_moved old) 0 64 position after (λ i b. record_length old i room (omega arith))
    l
    ∙ ap (λ (p : ℕ). record_moved old p) same

-- The pieces of the new image, and how long they are.
record AreLaid (old new : List ℕ) : Type 0 where
  pub name : length (take 8 old) ≡ 8
  pub head : length (take 8 old ++ little_bytes 8 VERSION) ≡ 16
  pub front : length (take 8 old ++ little_bytes 8 VERSION ++ take 49192 (drop 16 old)) ≡ 49208
  pub journal : length
      (take 8 old ++ little_bytes 8 VERSION ++ take 49192 (drop 16 old) ++ records_moved old 64)
      ≡ 57400
  pub at_name : new
      ≡ take 8 old ++ (little_bytes 8
      VERSION ++ (take 49192 (drop 16 old) ++ (records_moved old 64 ++ drop 56888 old)))
  pub at_front : new ≡ take 8 old ++ little_bytes 8
      VERSION ++ (take 49192 (drop 16 old) ++ (records_moved old 64 ++ drop 56888 old))
  pub at_records : new ≡ take 8 old ++ little_bytes 8 VERSION ++ take 49192
      (drop 16 old) ++ (records_moved old 64 ++ drop 56888 old)
  pub at_rest : new ≡ take 8 old ++ little_bytes 8 VERSION ++ take 49192
      (drop 16 old) ++ records_moved old 64 ++ drop 56888 old

laid : (old : List ℕ) → 58936 ≤ length old → AreLaid old (upgraded old)
unfolding upgraded
laid old room =
    let ver : List ℕ = little_bytes 8 VERSION in
    let kept : List ℕ = take 49192 (drop 16 old) in
    let moved : List ℕ = records_moved old 64 in
    let rest : List ℕ = drop 56888 old in
    let name : length (take 8 old) ≡ 8 = length-take-le 8 old (omega arith) in
    let head : length (take 8 old ++ ver) ≡ 16 =
    omega (arith, length-append (take 8 old) ver, length-bytes_low_first 0 8 VERSION) in
    let kept_size : length kept ≡ 49192 =
    length-take-le 49192 (drop 16 old) (omega (arith, length-drop 16 old)) in
    let front : length (take 8 old ++ ver ++ kept) ≡ 49208 =
    omega (arith, length-append (take 8 old ++ ver) kept) in
    record {
      name = name;
      head = head;
      front = front;
      journal =
          omega (arith, length-append (take 8 old ++ ver ++ kept) moved, journal_length old room);
      at_name = refl;
      at_front = sym (append_assoc (take 8 old) ver (kept ++ (moved ++ rest)));
      at_records = sym (append_assoc (take 8 old) ver (kept ++ (moved ++ rest))) ∙
          sym (append_assoc (take 8 old ++ ver) kept (moved ++ rest));
      at_rest =
          sym (append_assoc (take 8 old) ver (kept ++ (moved ++ rest))) ∙
          sym (append_assoc (take 8 old ++ ver) kept (moved ++ rest))
          ∙ sym (append_assoc (take 8 old ++ ver ++ kept) moved rest);
    }

-- ---- which range a device has, before the journal, in it, and behind it

front_range : (queues device : ℕ) → device < 3
    → (old_range_of queues device ≡ range_of queues device) × (gained device ≡ []) ×
    (16 ≤ (range_of queues device).0) ×
    ((range_of queues device).0 + (range_of queues device).1 ≤ 49208)
front_range queues device low = (
  grind (arith, nat_tests),
  grind (arith, nat_tests),
  grind (arith, nat_tests),
  grind (arith, nat_tests),
)

record_range : (queues device : ℕ) → 3 ≤ device → device < 67
    → (old_range_of queues device ≡ (journal_at_in First (device - 3), 120)) ×
    (gained device ≡ little_bytes 8 0) ×
    (range_of queues device ≡ (49208 + 128 * (device - 3), 128))
record_range queues device high low =
    (grind (arith, nat_tests), grind (arith, nat_tests), grind (arith, nat_tests))

rest_range : (queues device : ℕ) → 67 ≤ device
    → (old_range_of queues device ≡ ((range_of queues device).0 - 512, (range_of queues device).1))
    × (gained device ≡ []) × (57400 ≤ (range_of queues device).0)
rest_range queues device high =
    (grind (arith, nat_tests), grind (arith, nat_tests), grind (arith, nat_tests))

-- ---- what stands in each

front_stands : (old new : List ℕ) (queues device : ℕ) → 58936 ≤ length old → AreLaid old new →
    device < 3
    → part new (range_of queues device) ≡ part old (old_range_of queues device) ++ gained device
front_stands old new queues device room laid low =
    let range = front_range queues device low in
    within_kept old new (take 8 old ++ little_bytes 8 VERSION)
    (records_moved old 64 ++ drop 56888 old) 16 49192 (range_of queues device).0
    (range_of queues device).1
    laid.at_front laid.head (omega arith) range.2 range.3
    ∙ ap (λ r. part old r) (sym range.0)
    ∙ sym (append-nil (part old (old_range_of queues device)))
    ∙ ap (λ bs. part old (old_range_of queues device) ++ bs) (sym range.1)

record_stands : (old new : List ℕ) (queues device : ℕ) → 58936 ≤ length old → AreLaid old new →
    3 ≤ device → device < 67
    → part new (range_of queues device) ≡ part old (old_range_of queues device) ++ gained device
record_stands old new queues device room laid high low =
    let range = record_range queues device high low in
    let before : List ℕ = take 8 old ++ little_bytes 8 VERSION ++ take 49192 (drop 16 old) in
    let behind : List ℕ = records_moved old 64 ++ drop 56888 old in
    let position : ℕ = device - 3 in
    ap (λ r. part new r) range.2
    ∙ ap (λ bs. take 128 bs) (sym (drop-drop (128 * position) 49208 new))
    ∙ ap (λ bs. take 128 (drop (128 * position) (drop 49208 bs))) laid.at_records
    ∙ ap (λ bs. take 128 (drop (128 * position) bs)) (drop_at before behind 49208 laid.front)
    ∙ record_at old (drop 56888 old) position room (omega arith)
    ∙ ap (λ r. part old r ++ little_bytes 8 0) (sym range.0)
    ∙ ap (λ bs. part old (old_range_of queues device) ++ bs) (sym range.1)

rest_stands : (old new : List ℕ) (queues device : ℕ) → AreLaid old new → 67 ≤ device
    → part new (range_of queues device) ≡ part old (old_range_of queues device) ++ gained device
rest_stands old new queues device laid high =
    let range = rest_range queues device high in
    let at : ℕ = (range_of queues device).0 in
    let size : ℕ = (range_of queues device).1 in
    let place : 56888 + (at - 57400) ≡ at - 512 = omega (arith, range.2) in
    let before : List ℕ =
    take 8 old ++ little_bytes 8 VERSION ++ take 49192 (drop 16 old) ++ records_moved old 64 in
    ap (λ bs. take size bs)
    (behind_kept old new before 56888 57400 at laid.at_rest laid.journal range.2)
    ∙ ap (λ (m : ℕ). take size (drop m old)) place
    ∙ ap (λ r. part old r) (sym range.0)
    ∙ sym (append-nil (part old (old_range_of queues device)))
    ∙ ap (λ bs. part old (old_range_of queues device) ++ bs) (sym range.1)

device_stands : (old new : List ℕ) (queues device : ℕ) → 58936 ≤ length old → AreLaid old new
    → part new (range_of queues device) ≡ part old (old_range_of queues device) ++ gained device
device_stands old new queues device room laid = elim (cases_lt device 3) [
  | inl low ↦ front_stands old new queues device room laid low
  | inr high ↦ elim (cases_lt device 67) [
    | inl low ↦ record_stands old new queues device room laid high low
    | inr far ↦ rest_stands old new queues device laid far
  ]
]

-- ---- the whole

pub is_moved : (old : List ℕ) → IsOldSound old → IsMoved old (upgraded old)
is_moved old sound =
    let head : IsOldHeaded old = old_headed old sound in
    let room : 58936 ≤ length old = omega (arith, head.size) in
    let new : List ℕ = upgraded old in
    let all : AreLaid old new = laid old room in
    let ver : List ℕ = little_bytes 8 VERSION in
    let behind : List ℕ = take 49192 (drop 16 old) ++ (records_moved old 64 ++ drop 56888 old) in
    let before : List ℕ = take 8 old ++ ver ++ take 49192 (drop 16 old) ++ records_moved old 64 in
    let header : (at : ℕ) → 16 ≤ at → at ≤ 24 → word_at new at ≡ word_at old at = λ at above below.
    word_of_front (drop at new) (drop at old)
    (within_kept old new (take 8 old ++ ver) (records_moved old 64 ++ drop 56888 old) 16 49192 at 8
    all.at_front all.head (omega arith) above (omega arith)) in
    record {
      name = word_of_front (drop 0 new) (drop 0 old)
          (ap (λ bs. take 8 bs) all.at_name ∙ take_at (take 8 old) (ver ++ behind) 8 all.name);
      version =
          ap (λ bs. little_number 8 (drop 8 bs)) all.at_name ∙
          ap (λ bs. little_number 8 bs) (drop_at (take 8 old) (ver ++ behind) 8 all.name)
          ∙ little_number-reads_back 8 VERSION behind (omega arith);
      blocks = header 16 (omega arith) (omega arith);
      queues = header 24 (omega arith) (omega arith);
      each_device = λ device. device_stands old new (word_at old 24) device room all;
      longer = omega (
        arith,
        ap (λ (bs : List ℕ). length bs) all.at_rest,
        length-append before (drop 56888 old),
        length-drop 56888 old,
        all.journal,
      );
    }

pub is_sound : (old : List ℕ) → IsOldSound old → IsSound (upgraded old)
is_sound old sound =
    let head : IsOldHeaded old = old_headed old sound in
    let at : IsMoved old (upgraded old) = is_moved old sound in
    sound_of (upgraded old) (word_at old 16) (word_at old 24) (at.name ∙ head.name) at.version
    at.blocks at.queues
    (omega (arith, at.longer, head.size)) head.fewest_blocks head.most_blocks head.fewest_queues
    head.most_queues
