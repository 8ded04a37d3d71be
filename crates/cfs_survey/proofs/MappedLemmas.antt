-- The checks of the slots ask only for the tags of files: two maps that answer alike for these name
-- the same damage.
use Rattle.std.proofs.Common.{◌≡◌, ◌∙◌, ℕ, zero, suc, ◌+◌, ◌/◌, ◌<◌, ◌≤◌, Bool, true, false}
use Rattle.std.proofs.Common.{List, [], ◌∷◌, ◌++◌, get_or, length, sym, ap, ap₂, refl, arith}
use Rattle.std.specs.Prelude.{◌==◌, ◌&&◌, if◌then◌else◌, Option, Some, None, min, not}
use Rattle.std.specs.List.{flat_map, range_with_len}
use Rattle.std.specs.Option.{option_or}
use Rattle.std.proofs.lemmas.Bool.{leb-true}
use Rattle.cfs_dir.specs.declared.node.Node.{Node}
use Rattle.cfs_image.specs.Checks.{Check, Damage, check, damage_of}
use Rattle.cfs_slot.specs.Tails.{numbers_in}
use Rattle.cfs_slot.specs.Words.{gate_of, ino_of, kind_of, mark_of, tails_of}
use Rattle.cfs_survey.specs.Faults.{at_most, checks_from}
use Rattle.cfs_survey.specs.Slots.{blocks_touched, block_checks, end_check, end_of, entry_checks}
use Rattle.cfs_survey.specs.Slots.{first_block, is_entry, kind_checks, length_checks, long_checks}
use Rattle.cfs_survey.specs.Slots.{open_checks, request_checks, set_checks, slot_at, slot_checks}
use Rattle.cfs_survey.specs.Slots.{slots_checks, tag_of, touched_checks, truncate_checks}
use Rattle.cfs_survey.specs.Slots.{twin_check, write_checks}
use Rattle.cfs_survey.specs.Tags.{is_file}
use Rattle.cfs_survey.proofs.FirstFaults.{damage_append, passed, sound_parts}

-- checks behind others count only where these hold
pub damage_behind : (xs ys zs : List Check) → (damage_of xs ≡ None → damage_of ys ≡ damage_of zs)
    → damage_of (xs ++ ys) ≡ damage_of (xs ++ zs)
damage_behind xs ys zs same =
    damage_append xs ys ∙ split (damage_of xs) same ∙ sym (damage_append xs zs)
  where
    split : (first : Option Damage) → (first ≡ None → damage_of ys ≡ damage_of zs)
        → option_or first (damage_of ys) ≡ option_or first (damage_of zs)
    split None same = same refl
    split (Some damage) same = refl

-- checks of the same numbers that name the same
damage_range : (each other : ℕ → List Check) (from n : ℕ)
    → ((k : ℕ) → from ≤ k → k < from + n → damage_of (each k) ≡ damage_of (other k))
    → damage_of (checks_from each from n) ≡ damage_of (checks_from other from n)
unfolding checks_from
damage_range each other from zero same = refl
damage_range each other from (suc n) same =
    let here : damage_of (each from) ≡ damage_of (other from) =
    same from (omega arith) (omega arith) in
    let deeper : damage_of (flat_map each (range_with_len (from + 1) n))
    ≡ damage_of (flat_map other (range_with_len (from + 1) n)) =
    damage_range each other (from + 1) n (λ k low high. same k (omega arith) (omega arith)) in
    damage_append (each from) (flat_map each (range_with_len (from + 1) n))
    ∙ ap₂ option_or here deeper
    ∙ sym (damage_append (other from) (flat_map other (range_with_len (from + 1) n)))

-- two maps that answer alike for each tag of a file
pub record AgreeOnFiles (nodes : List Node) (mapped other : ℕ → Bool) : Type 0 where
  pub answers : (tag : ℕ) → is_file nodes (tag / 65536) ≡ true → mapped tag ≡ other tag

-- a tag of a block that a file can have is one of its file
own_tag : (ino block : ℕ) → block < 256 → tag_of ino block / 65536 ≡ ino
own_tag ino block low = omega arith

end_holds : (at : ℕ) (words : List ℕ) → damage_of (end_check at words ∷ []) ≡ None →
    end_of words ≤ 1048576
end_holds at words sound =
    let least : min (end_of words) 18446744073709551615 ≤ 1048576 =
    leb-true (min (end_of words) 18446744073709551615) 1048576
    (passed (end_check at words) sound) in
    omega arith

-- the end of a write whose request passes its checks
end_low : (at : ℕ) (nodes : List Node) (slots : List (List ℕ)) (slot : ℕ) (words : List ℕ)
    → (kind_of words == 2) ≡ false
    → damage_of (request_checks at nodes slots slot words) ≡ None → end_of words ≤ 1048576
end_low at nodes slots slot words other sound =
    split (kind_of words == 2) (kind_of words == 3) other sound
  where
    split : (two three : Bool) → two ≡ false
        → damage_of (if two then truncate_checks at words
        else if three then long_checks at nodes slots slot words else write_checks at words) ≡ None
        → end_of words ≤ 1048576
    split true three e h = absurd (cc)
    split false true e h =
        let parts = sound_parts (length_checks at words 4097 65536)
        (set_checks at nodes slots slot words (numbers_in (tails_of words))
        ++ end_check at words ∷ []) h in
        end_holds at words
        (sound_parts (set_checks at nodes slots slot words (numbers_in (tails_of words)))
        (end_check at words ∷ []) parts.1).1
    split false false e h =
        end_holds at words
        (sound_parts (length_checks at words 1 4096) (end_check at words ∷ []) h).1

-- the blocks that such a write touches
blocks_same : (at : ℕ) (nodes : List Node) (mapped other : ℕ → Bool) (words : List ℕ)
    → AgreeOnFiles nodes mapped other → is_file nodes (ino_of words) ≡ true
    → end_of words ≤ 1048576
    → damage_of (checks_from (block_checks at mapped words) (first_block words)
    (blocks_touched words))
    ≡ damage_of (checks_from (block_checks at other words) (first_block words)
    (blocks_touched words))
blocks_same at nodes mapped other words agree file low =
    damage_range (block_checks at mapped words) (block_checks at other words) (first_block words)
    (blocks_touched words) (λ block from below.
    let within : block < 256 = omega arith in
    let own = own_tag (ino_of words) block within in
    ap (λ holds. damage_of (check holds (at + 24) block 0 ∷ []))
    (agree.answers (tag_of (ino_of words) block)
    (ap (λ ino. is_file nodes ino) own ∙ file)))

touched_same : (at : ℕ) (nodes : List Node) (mapped other : ℕ → Bool) (slots : List (List ℕ))
    (slot : ℕ) (words : List ℕ)
    → AgreeOnFiles nodes mapped other → is_file nodes (ino_of words) ≡ true
    → damage_of (request_checks at nodes slots slot words) ≡ None
    → damage_of (touched_checks at mapped words) ≡ damage_of (touched_checks at other words)
touched_same at nodes mapped other slots slot words agree file sound =
    split (kind_of words == 2)
    (λ is. blocks_same at nodes mapped other words agree file
    (end_low at nodes slots slot words is sound))
  where
    split : (two : Bool)
        → (two ≡ false
        → damage_of (checks_from (block_checks at mapped words) (first_block words)
        (blocks_touched words))
        ≡ damage_of (checks_from (block_checks at other words) (first_block words)
        (blocks_touched words)))
        → damage_of (if two then []
        else checks_from (block_checks at mapped words) (first_block words) (blocks_touched words))
        ≡ damage_of (if two then []
        else checks_from (block_checks at other words) (first_block words) (blocks_touched words))
    split true same = refl
    split false same = same refl

entry_same : (at : ℕ) (nodes : List Node) (mapped other : ℕ → Bool) (slots : List (List ℕ))
    (slot : ℕ) (words : List ℕ)
    → AgreeOnFiles nodes mapped other → is_file nodes (ino_of words) ≡ true
    → damage_of (entry_checks at nodes mapped slots slot words)
    ≡ damage_of (entry_checks at nodes other slots slot words)
entry_same at nodes mapped other slots slot words agree file =
    let twin : List Check = twin_check at slots slot words ∷ [] in
    let request : List Check = request_checks at nodes slots slot words in
    let ours : List Check = touched_checks at mapped words in
    let theirs : List Check = touched_checks at other words in
    damage_behind (kind_checks at words) (request ++ (twin ++ ours)) (request ++ (twin ++ theirs))
    (λ _. damage_behind request (twin ++ ours) (twin ++ theirs)
    (λ sound. damage_behind twin ours theirs
    (λ _. touched_same at nodes mapped other slots slot words agree file sound)))

open_same : (at : ℕ) (nodes : List Node) (mapped other : ℕ → Bool) (slots : List (List ℕ))
    (slot : ℕ) (words : List ℕ)
    → AgreeOnFiles nodes mapped other → is_file nodes (ino_of words) ≡ true
    → damage_of (open_checks at nodes mapped slots slot words)
    ≡ damage_of (open_checks at nodes other slots slot words)
open_same at nodes mapped other slots slot words agree file =
    damage_behind (at_most 1 (at + 8) (mark_of words) ∷ [])
    (if mark_of words == 1 then [] else entry_checks at nodes mapped slots slot words)
    (if mark_of words == 1 then [] else entry_checks at nodes other slots slot words)
    (λ _. split (mark_of words == 1)
    (entry_same at nodes mapped other slots slot words agree file))
  where
    split : (marked : Bool)
        → damage_of (entry_checks at nodes mapped slots slot words)
        ≡ damage_of (entry_checks at nodes other slots slot words)
        → damage_of (if marked then [] else entry_checks at nodes mapped slots slot words)
        ≡ damage_of (if marked then [] else entry_checks at nodes other slots slot words)
    split true same = refl
    split false same = same

entry_file : (nodes : List Node) (words : List ℕ) → is_entry nodes words ≡ true →
    is_file nodes (ino_of words) ≡ true
entry_file nodes words entry = split (not (gate_of words == 0)) entry
  where
    split : (b : Bool) → (b && is_file nodes (ino_of words)) ≡ true →
        is_file nodes (ino_of words) ≡ true
    split true e = e
    split false e = absurd (cc)

slot_same : (at : ℕ) (nodes : List Node) (mapped other : ℕ → Bool) (slots : List (List ℕ))
    (slot : ℕ) → AgreeOnFiles nodes mapped other
    → damage_of (slot_checks at nodes mapped slots slot)
    ≡ damage_of (slot_checks at nodes other slots slot)
slot_same at nodes mapped other slots slot agree =
    split (is_entry nodes (get_or slots slot []))
    (λ is. open_same (slot_at at slot) nodes mapped other slots slot (get_or slots slot []) agree
    (entry_file nodes (get_or slots slot []) is))
  where
    split : (entry : Bool)
        → (entry ≡ true
        → damage_of (open_checks (slot_at at slot) nodes mapped slots slot (get_or slots slot []))
        ≡ damage_of (open_checks (slot_at at slot) nodes other slots slot (get_or slots slot [])))
        → damage_of (if entry
        then open_checks (slot_at at slot) nodes mapped slots slot (get_or slots slot []) else [])
        ≡ damage_of (if entry
        then open_checks (slot_at at slot) nodes other slots slot (get_or slots slot []) else [])
    split true same = same refl
    split false same = refl

pub slots_same : (at : ℕ) (nodes : List Node) (mapped other : ℕ → Bool) (slots : List (List ℕ))
    → AgreeOnFiles nodes mapped other
    → damage_of (slots_checks at nodes mapped slots) ≡ damage_of (slots_checks at nodes other slots)
unfolding slots_checks
slots_same at nodes mapped other slots agree =
    damage_range (slot_checks at nodes mapped slots) (slot_checks at nodes other slots) 0
    (length slots) (λ slot low below. slot_same at nodes mapped other slots slot agree)
