-- What the checks of a survey tell of a live entry.
use Rattle.std.proofs.Common.{◌≡◌, ◌≢◌, ◌∙◌, ℕ, ◌+◌, ◌-◌, ◌*◌, ◌<◌, ◌≤◌, Bool, true, false}
use Rattle.std.proofs.Common.{Some, None, List, [], ◌∷◌, ◌++◌, get_or, length, take, arith}
use Rattle.std.proofs.Common.{refl, sym, ap, ap₂, if◌then◌else◌, eq-eqb, suc, zero, cond}
use Rattle.std.proofs.Common.{inl, inr}
use Rattle.std.specs.Prelude.{◌==◌, ◌&&◌, not, nat_lt, is_none, min, position}
use Rattle.std.specs.List.{flat_map, position_or_len}
use Rattle.std.proofs.lemmas.Bool.{cases_lt, eqb-true, leb-true, ltb-false}
use Rattle.std.proofs.lemmas.List.{get_or-take, get_or_past, length-take}
use Rattle.cfs_core.proofs.Legal.{both}
use Rattle.cfs_dir.specs.declared.node.Node.{Node}
use Rattle.cfs_image.specs.Checks.{Check, check, damage_of}
use Rattle.cfs_slot.specs.Tails.{numbers_in}
use Rattle.cfs_slot.specs.Words.{count_of, gate_of, ino_of, is_live, kind_of, mark_of, offset_of}
use Rattle.cfs_slot.specs.Words.{tails_of}
use Rattle.cfs_survey.specs.Faults.{at_least, at_most, checks_from, equal}
use Rattle.cfs_survey.specs.Slots.{are_tails, block_checks, blocks_touched, end_check, end_of}
use Rattle.cfs_survey.specs.Slots.{entry_checks, first_block, is_entry, is_live_entry, kind_checks}
use Rattle.cfs_survey.specs.Slots.{length_checks, long_checks, open_checks, request_checks}
use Rattle.cfs_survey.specs.Slots.{set_checks, slot_at, slot_checks, slots_checks, tag_of}
use Rattle.cfs_survey.specs.Slots.{tails_due, touched_checks, truncate_checks, twin_check}
use Rattle.cfs_survey.specs.Slots.{device_in, lower_in_queue, owner_of, queue_from, tail_checks}
use Rattle.cfs_survey.specs.Slots.{write_checks}
use Rattle.cfs_survey.proofs.FirstFaults.{holds_at, passed, sound_parts}
use Rattle.cfs_survey.proofs.RootLemmas.{unequal}

-- ---- parts of checks

head-holds : (first : Check) (rest : List Check) → damage_of (first ∷ rest) ≡ None →
    first.holds ≡ true
head-holds first rest sound = passed first (sound_parts (first ∷ []) rest sound).0

rest-holds : (first : Check) (rest : List Check) → damage_of (first ∷ rest) ≡ None →
    damage_of rest ≡ None
rest-holds first rest sound = (sound_parts (first ∷ []) rest sound).1

-- the checks of an entry that is open and of a file, and no no-op
live-checks : (at : ℕ) (nodes : List Node) (mapped : ℕ → Bool) (slots : List (List ℕ)) (slot : ℕ)
    (words : List ℕ) → is_entry nodes words ≡ true → (mark_of words == 1) ≡ false →
    damage_of (if is_entry nodes words then open_checks at nodes mapped slots slot words else [])
    ≡ None → damage_of (entry_checks at nodes mapped slots slot words) ≡ None
live-checks at nodes mapped slots slot words entry other sound =
    let opened : damage_of (open_checks at nodes mapped slots slot words) ≡ None =
    ap (λ (b : Bool). damage_of (if b then open_checks at nodes mapped slots slot words else []))
    (sym entry) ∙ sound in
    ap (λ (b : Bool). damage_of (if b then [] else entry_checks at nodes mapped slots slot words))
    (sym other)
    ∙ rest-holds (at_most 1 (at + 8) (mark_of words))
    (if mark_of words == 1 then [] else entry_checks at nodes mapped slots slot words) opened

-- ---- one entry

-- what its head tells is in range
pub record IsRanged (words : List ℕ) : Type 0 where
  pub end : kind_of words ≢ 2 → offset_of words + count_of words ≤ 1048576
  pub whole : kind_of words ≢ 2 →
      count_of words ≤ 4096 * (1 + length (numbers_in (tails_of words)))
  pub length_is : kind_of words ≡ 2 → offset_of words ≤ 1048576

end-low : (at : ℕ) (words : List ℕ) → damage_of (end_check at words ∷ []) ≡ None →
    offset_of words + count_of words ≤ 1048576
end-low at words sound =
    let least : min (offset_of words + count_of words) 18446744073709551615 ≤ 1048576 =
    leb-true (min (end_of words) 18446744073709551615) 1048576
    (passed (end_check at words) sound) in
    omega arith

ranged : (at : ℕ) (nodes : List Node) (slots : List (List ℕ)) (slot : ℕ) (words : List ℕ)
    (two three : Bool) → (kind_of words == 2) ≡ two → (kind_of words == 3) ≡ three →
    damage_of (if two then truncate_checks at words
    else if three then long_checks at nodes slots slot words else write_checks at words) ≡ None →
    IsRanged words
ranged at nodes slots slot words true three is_two is_three sound =
    let kind = eqb-true (kind_of words) 2 is_two in
    let low = leb-true (offset_of words) 1048576
    (head-holds (at_most 1048576 (at + 24) (offset_of words)) []
    (rest-holds (equal 0 (at + 32) (count_of words))
    (at_most 1048576 (at + 24) (offset_of words) ∷ []) sound)) in
    record {
      end = λ other. absurd (other kind);
      whole = λ other. absurd (other kind);
      length_is = λ _. low;
    }
ranged at nodes slots slot words false true is_two is_three sound =
    let set = set_checks at nodes slots slot words (numbers_in (tails_of words)) in
    let parts = sound_parts (length_checks at words 4097 65536) (set ++ end_check at words ∷ [])
    sound in
    let later = sound_parts set (end_check at words ∷ []) parts.1 in
    let low = end-low at words later.1 in
    let tails : are_tails slot words (numbers_in (tails_of words)) ≡ true =
    head-holds (check (are_tails slot words (numbers_in (tails_of words))) (at + 32)
    (tails_of words) (tails_due words))
    (flat_map (tail_checks at slots (queue_from slot)) (numbers_in (tails_of words))
    ++ check (is_none (owner_of nodes (numbers_in (tails_of words))
    (lower_in_queue slot slots))) (at + 32) (tails_of words)
    (device_in (queue_from slot) (owner_of nodes (numbers_in (tails_of words))
    (lower_in_queue slot slots))) ∷ []) later.0 in
    let due : length (numbers_in (tails_of words)) ≡ tails_due words =
    eqb-true (length (numbers_in (tails_of words))) (tails_due words) (both _ _ tails).1 in
    record {
      end = λ _. low;
      whole = λ _. omega (arith, due);
      length_is = λ same.
          (let clash : (kind_of words == 2) ≡ true = eq-eqb (kind_of words) 2 same in
          absurd (cc));
    }
ranged at nodes slots slot words false false is_two is_three sound =
    let parts = sound_parts (length_checks at words 1 4096) (end_check at words ∷ []) sound in
    let low = end-low at words parts.1 in
    let most = leb-true (count_of words) 4096
    (head-holds (at_most 4096 (at + 32) (count_of words)) []
    (rest-holds (at_least 1 (at + 32) (count_of words))
    (at_most 4096 (at + 32) (count_of words) ∷ []) parts.0)) in
    record {
      end = λ _. low;
      whole = λ _. omega (arith, most);
      length_is = λ same.
          (let clash : (kind_of words == 2) ≡ true = eq-eqb (kind_of words) 2 same in
          absurd (cc));
    }

-- each block that it touches is mapped
pub record HasBlocks (mapped : ℕ → Bool) (words : List ℕ) : Type 0 where
  pub each : kind_of words ≢ 2 → (block : ℕ) → first_block words ≤ block →
      block < first_block words + blocks_touched words →
      mapped (tag_of (ino_of words) block) ≡ true

touches : (at : ℕ) (mapped : ℕ → Bool) (words : List ℕ) →
    damage_of (touched_checks at mapped words) ≡ None → HasBlocks mapped words
touches at mapped words sound = record {
  each = λ other block low high.
      (let is : (kind_of words == 2) ≡ false = unequal (kind_of words) 2 other in
      let range : damage_of (checks_from (block_checks at mapped words) (first_block words)
      (blocks_touched words)) ≡ None =
      ap (λ (b : Bool). damage_of (if b then []
      else checks_from (block_checks at mapped words) (first_block words) (blocks_touched words)))
      (sym is) ∙ sound in
      passed (check (mapped (tag_of (ino_of words) block)) (at + 24) block 0)
      (holds_at (block_checks at mapped words) (first_block words) (blocks_touched words)
      (block - first_block words) block (omega (arith, low)) (omega (arith, low, high)) range));
}

-- ---- no lower slot is live with its inode number and gate

fails-below : (p : List ℕ → Bool) (xs : List (List ℕ)) → length xs ≤ position_or_len p xs →
    (k : ℕ) → k < length xs → p (get_or xs k []) ≡ false
fails-below p [] long k below = absurd (omega (arith, below))
fails-below p (x ∷ xs) long k below = split (p x) refl (fails-below p xs) long k below
  where
    split : (b : Bool) → p x ≡ b →
        (length xs ≤ position_or_len p xs → (k : ℕ) → k < length xs →
        p (get_or xs k []) ≡ false) →
        suc (length xs) ≤ cond (not b) (1 + position_or_len p xs) 0 →
        (k : ℕ) → k < suc (length xs) → p (get_or (x ∷ xs) k []) ≡ false
    split true is deeper long k below = absurd (omega (arith, long))
    split false is deeper long zero below = is
    split false is deeper long (suc k) below =
        deeper (omega (arith, long)) k (omega (arith, below))

first-fails : (p : List ℕ → Bool) (xs : List (List ℕ)) → is_none (position p xs) ≡ true →
    (k : ℕ) → k < length xs → p (get_or xs k []) ≡ false
first-fails p xs none =
    split (nat_lt (position_or_len p xs) (length xs)) refl none
  where
    split : (b : Bool) → nat_lt (position_or_len p xs) (length xs) ≡ b →
        is_none (cond b (Some (position_or_len p xs)) None) ≡ true →
        (k : ℕ) → k < length xs → p (get_or xs k []) ≡ false
    split true is none = absurd (cc)
    split false is none =
        fails-below p xs (ltb-false (position_or_len p xs) (length xs) is)

pub record IsAlone (slots : List (List ℕ)) (slot : ℕ) (words : List ℕ) : Type 0 where
  pub lower : (k : ℕ) → k < slot → k < length slots →
      is_live (ino_of words) (get_or slots k []) ≡ true →
      gate_of (get_or slots k []) ≢ gate_of words

alone : (at : ℕ) (slots : List (List ℕ)) (slot : ℕ) (words : List ℕ) →
    (twin_check at slots slot words).holds ≡ true → IsAlone slots slot words
alone at slots slot words holds = record {
  lower = λ k low inside live same.
      (let test : List ℕ → Bool =
      λ other. is_live (ino_of words) other && (gate_of other == gate_of words) in
      let below : k < length (take slot slots) =
      omega (arith, low, inside, length-take slot slots) in
      let none : test (get_or (take slot slots) k []) ≡ false =
      first-fails test (take slot slots) holds k below in
      let some : test (get_or slots k []) ≡ true =
      ap₂ (λ (a b : Bool). a && b) live
      (eq-eqb (gate_of (get_or slots k [])) (gate_of words) same) in
      let clash = sym some ∙ ap test (sym (get_or-take slot slots k [] low)) ∙ none in
      absurd (cc));
}

-- ---- a live entry

pub record Passes (mapped : ℕ → Bool) (slots : List (List ℕ)) (slot : ℕ) : Type 0 where
  pub ranged : IsRanged (get_or slots slot [])
  pub blocks : HasBlocks mapped (get_or slots slot [])
  pub alone : IsAlone slots slot (get_or slots slot [])

passes-entry : (at : ℕ) (nodes : List Node) (mapped : ℕ → Bool) (slots : List (List ℕ))
    (slot : ℕ) →
    damage_of (entry_checks at nodes mapped slots slot (get_or slots slot [])) ≡ None →
    Passes mapped slots slot
passes-entry at nodes mapped slots slot sound =
    let words = get_or slots slot [] in
    let request = request_checks at nodes slots slot words in
    let twin = twin_check at slots slot words in
    let touched = touched_checks at mapped words in
    let first = sound_parts (kind_checks at words) (request ++ (twin ∷ touched)) sound in
    let second = sound_parts request (twin ∷ touched) first.1 in
    record {
      ranged = ranged at nodes slots slot words (kind_of words == 2) (kind_of words == 3) refl refl
          second.0;
      blocks = touches at mapped words (rest-holds twin touched second.1);
      alone = alone at slots slot words (head-holds twin touched second.1);
    }

flipped : (b : Bool) → not b ≡ true → b ≡ false
flipped true h = absurd (cc)
flipped false h = refl

-- an entry is live in a slot that there is
pub live-inside : (nodes : List Node) (slots : List (List ℕ)) (slot : ℕ) →
    is_live_entry nodes (get_or slots slot []) ≡ true → slot < length slots
live-inside nodes slots slot live = elim (cases_lt slot (length slots)) [
  | inl inside ↦ inside
  | inr past ↦
      let none : get_or slots slot [] ≡ [] = get_or_past slots slot [] past in
      let clash = sym live ∙ ap (is_live_entry nodes) none in
      absurd (cc)
]

pub passes : (at : ℕ) (nodes : List Node) (mapped : ℕ → Bool) (slots : List (List ℕ)) (slot : ℕ) →
    is_live_entry nodes (get_or slots slot []) ≡ true →
    damage_of (slots_checks at nodes mapped slots) ≡ None → Passes mapped slots slot
unfolding slots_checks
passes at nodes mapped slots slot live sound =
    let words = get_or slots slot [] in
    let inside = live-inside nodes slots slot live in
    let parts = both _ _ live in
    let opens = both _ _ (both _ _ parts.0).0 in
    let entry : is_entry nodes words ≡ true =
    ap₂ (λ (a b : Bool). a && b) opens.0 parts.1 in
    passes-entry (slot_at at slot) nodes mapped slots slot
    (live-checks (slot_at at slot) nodes mapped slots slot words entry
    (flipped (mark_of words == 1) opens.1)
    (holds_at (slot_checks at nodes mapped slots) 0 (length slots) slot slot (omega arith) inside
    sound))
