-- What fits a core is one of its images.
use Rattle.std.proofs.Common.{◌≡◌, inl, inr, ℕ, ◌+◌, ◌-◌, ◌*◌, ◌/◌, ◌%◌, ◌<◌, ◌==◌, Bool, true, false, ◌||◌, if◌then◌else◌, Option, Some, None, List, length, map, get_or, arith, refl, sym, ap, subst, ◌∙◌}
use Rattle.std.specs.List.{range_with_len}
use Rattle.std.proofs.lemmas.Bool.{cases_lt}
use Rattle.std.proofs.lemmas.Bool.Decides.{nat_tests}
use Rattle.std.proofs.lemmas.List.{get_or_past}
use Rattle.std.proofs.lemmas.List.FromFn.{get_or-map-range_with_len, length-map-range_with_len}
use Rattle.cfs_file.specs.declared.sizes.TheConstants.{BLOCK_LEN}
use Rattle.cfs_core.specs.declared.doubt.Doubt.{Doubt}
use Rattle.cfs_core.specs.declared.flag.Flag.{Flag}
use Rattle.cfs_core.specs.declared.flag.Flag.TheVariants.{Off, On, Unsure}
use Rattle.cfs_core.specs.declared.image.Image.{Image}
use Rattle.cfs_core.specs.declared.inode_core.Core.{Core}
use Rattle.cfs_core.specs.Words.{blank, can_be, is_on, track}
use Rattle.cfs_core.specs.Medium.{agree, bytes_agree, doubt_gate, gates_agree, is_image, is_loose, marks_agree}
use Rattle.cfs_core.proofs.Images.{all_in_range}
use Rattle.cfs_core.proofs.Legal.{and_all, or_right, same_number}
use Rattle.cfs_slot.specs.Words.{mark_of}
use Rattle.cfs_medium.specs.World.{Remains, head_words}
use Rattle.cfs_medium.specs.Shows.{HasShape, RemainsFit, SlotFits, doubted, holding, is_doubt_open, is_for, is_gated, logged_at}

-- ---- the image

abbrev pub is_set_at : ℕ → Remains → ℕ → Bool
is_set_at ino remains block = is_for ino block (remains.blocks block)

abbrev pub tags_left : ℕ → Core → Remains → List Bool
tags_left ino core remains = map (is_set_at ino remains) (range_with_len 0 (length core.tags))

abbrev pub byte_left : ℕ → Core → Remains → ℕ → ℕ
byte_left ino core remains p =
    if get_or (tags_left ino core remains) (p / BLOCK_LEN) false
    then get_or (remains.blocks (p / BLOCK_LEN)).bytes (p % BLOCK_LEN) 0
    else get_or core.bytes p 0

-- the request in doubt has this number
abbrev pub is_doubted : Option Doubt → ℕ → Bool
is_doubted None place = false
is_doubted (Some doubt) place = doubt.entry.place == place

abbrev pub gate_left : Option Doubt → List (List ℕ) → ℕ → Bool
gate_left doubt slots place = if is_doubted doubt place then false else is_gated (head_words slots)

-- of a closed slot, and where the request in doubt stands, the mark is what it may be
abbrev pub own_mark : Flag → List (List ℕ) → Bool
own_mark flag slots =
    if is_gated (head_words slots) then mark_of (head_words slots) == 1 else is_on flag

abbrev pub mark_left : Option Doubt → Flag → List (List ℕ) → ℕ → Bool
mark_left doubt flag slots place = if is_doubted doubt place then is_on flag else own_mark flag slots

abbrev pub gate_at : Core → Remains → ℕ → Bool
gate_at core remains k = gate_left core.doubt (remains.slots (k + 1)) (k + 1)

abbrev pub mark_at : Core → Remains → ℕ → Bool
mark_at core remains k =
    mark_left core.doubt (get_or core.tracks k blank).mark (remains.slots (k + 1)) (k + 1)

abbrev pub left : ℕ → Core → Remains → Image
left ino core remains = record {
  size = get_or remains.size 0 0;
  tags = tags_left ino core remains;
  bytes = map (byte_left ino core remains) (range_with_len 0 (length core.bytes));
  gates = map (gate_at core remains) (range_with_len 0 (length core.tracks));
  marks = map (mark_at core remains) (range_with_len 0 (length core.tracks));
  doubt = is_doubt_open core.doubt remains;
}

-- ---- what each flag allows

on_can : (flag : Flag) → can_be flag (is_on flag) ≡ true
on_can Off = refl
on_can On = refl
on_can Unsure = refl

pub equal_test : (a : ℕ) → (a == a) ≡ true
equal_test a = grind (arith, nat_tests)

-- a place from 1 has the track at the index below it
pub track-next : (core : Core) (k : ℕ) → track core.tracks (k + 1) ≡ get_or core.tracks k blank
track-next core k =
    let test : (k + 1 == 0) ≡ false = grind (arith, nat_tests) in
    let same : k + 1 - 1 ≡ k = omega arith in
    rw (test, same) refl

gate-can : (core : Core) (doubt : Option Doubt) (ino place : ℕ) (slots : List (List ℕ)) →
    SlotFits ino place (holding core doubt place) slots →
    ((d : Doubt) → doubt ≡ Some d → (track core.tracks d.entry.place).gate ≡ Off) →
    can_be (track core.tracks place).gate (gate_left doubt slots place) ≡ true
gate-can core None ino place slots fits apart = fits.gate
gate-can core (Some d) ino place slots fits apart = test (d.entry.place == place) refl
  where
    test : (b : Bool) → (d.entry.place == place) ≡ b →
        can_be (track core.tracks place).gate (gate_left (Some d) slots place) ≡ true
    test true is =
        let off : (track core.tracks place).gate ≡ Off =
        subst (λ n. (track core.tracks n).gate ≡ Off) (same_number d.entry.place place is)
        (apart d refl) in
        rw (is, off) refl
    test false is =
        let own : SlotFits ino place (logged_at core.log (track core.tracks place) place) slots =
        rw is at fits in
        rw is own.gate

own-can : (core : Core) (ino place : ℕ) (slots : List (List ℕ)) →
    SlotFits ino place (logged_at core.log (track core.tracks place) place) slots →
    can_be (track core.tracks place).mark (own_mark (track core.tracks place).mark slots) ≡ true
own-can core ino place slots fits = test (is_gated (head_words slots)) refl
  where
    test : (b : Bool) → is_gated (head_words slots) ≡ b →
        can_be (track core.tracks place).mark (own_mark (track core.tracks place).mark slots) ≡ true
    test true is = rw is (fits.mark is)
    test false is = rw is (on_can (track core.tracks place).mark)

mark-can : (core : Core) (doubt : Option Doubt) (ino place : ℕ) (slots : List (List ℕ)) →
    SlotFits ino place (holding core doubt place) slots →
    can_be (track core.tracks place).mark
    (mark_left doubt (track core.tracks place).mark slots place) ≡ true
mark-can core None ino place slots fits = own-can core ino place slots fits
mark-can core (Some d) ino place slots fits = test (d.entry.place == place) refl
  where
    test : (b : Bool) → (d.entry.place == place) ≡ b →
        can_be (track core.tracks place).mark
        (mark_left (Some d) (track core.tracks place).mark slots place) ≡ true
    test true is = rw is (on_can (track core.tracks place).mark)
    test false is =
        let own : SlotFits ino place (logged_at core.log (track core.tracks place) place) slots =
        rw is at fits in
        rw is (own-can core ino place slots own)

doubt-can : (core : Core) (doubt : Option Doubt) (ino : ℕ) (remains : Remains) →
    ((place : ℕ) → SlotFits ino place (holding core doubt place) (remains.slots place)) →
    can_be (doubt_gate doubt) (is_doubt_open doubt remains) ≡ true
doubt-can core None ino remains fits = refl
doubt-can core (Some d) ino remains fits =
    let own : SlotFits ino d.entry.place (doubted d) (remains.slots d.entry.place) =
    rw (equal_test d.entry.place) at (fits d.entry.place) in
    own.gate

-- ---- the whole

abbrev pub AllFit : ℕ → Core → Remains → Type 0
AllFit ino core remains =
    (place : ℕ) → SlotFits ino place (holding core core.doubt place) (remains.slots place)

pub tag-left : (ino : ℕ) (core : Core) (remains : Remains) (k : ℕ) → k < length core.tags →
    get_or (tags_left ino core remains) k false ≡ is_set_at ino remains k
tag-left ino core remains k within =
    get_or-map-range_with_len (is_set_at ino remains) 0 (length core.tags) k k false within
    (omega arith)

tags-are : (ino : ℕ) (core : Core) (remains : Remains) → HasShape core →
    RemainsFit ino core remains → agree core.tags (tags_left ino core remains) ≡ true
tags-are ino core remains shape fits = and_all _ _
    (rw (length-map-range_with_len (is_set_at ino remains) 0 (length core.tags))
    (equal_test (length core.tags)))
    (all_in_range (λ k. can_be (get_or core.tags k Off)
    (get_or (tags_left ino core remains) k false)) 0 (length core.tags)
    (λ k low high. tag k (omega arith)))
  where
    tag : (k : ℕ) → k < length core.tags →
        can_be (get_or core.tags k Off) (get_or (tags_left ino core remains) k false) ≡ true
    tag k within =
        rw (tag-left ino core remains k within)
        (fits.blocks k (omega (arith, shape.tags))).tag_is

-- a byte that is not loose is the core's
pub firm-byte : (ino : ℕ) (core : Core) (remains : Remains) → HasShape core →
    RemainsFit ino core remains → (p : ℕ) → is_loose core.loose p ≡ false →
    byte_left ino core remains p ≡ get_or core.bytes p 0
firm-byte ino core remains shape fits p firm =
    test (get_or (tags_left ino core remains) (p / BLOCK_LEN) false) refl
  where
    position : BLOCK_LEN * (p / BLOCK_LEN) + p % BLOCK_LEN ≡ p
    position = omega arith

    mapped : p / BLOCK_LEN < length core.tags → is_set_at ino remains (p / BLOCK_LEN) ≡ true →
        get_or (remains.blocks (p / BLOCK_LEN)).bytes (p % BLOCK_LEN) 0 ≡ get_or core.bytes p 0
    mapped within is =
        let own : is_loose core.loose (BLOCK_LEN * (p / BLOCK_LEN) + p % BLOCK_LEN) ≡ false =
        rw position firm in
        (fits.blocks (p / BLOCK_LEN) (omega (arith, shape.tags))).bytes_are is (p % BLOCK_LEN) (omega arith) own
        ∙ ap (λ (q : ℕ). get_or core.bytes q 0) position

    test : (b : Bool) → get_or (tags_left ino core remains) (p / BLOCK_LEN) false ≡ b →
        byte_left ino core remains p ≡ get_or core.bytes p 0
    test false is = rw is refl
    test true is = elim (cases_lt (p / BLOCK_LEN) (length core.tags)) [
      | inl within ↦
          let set : is_set_at ino remains (p / BLOCK_LEN) ≡ true =
          sym (tag-left ino core remains (p / BLOCK_LEN) within) ∙ is in
          rw is (mapped within set)
      | inr past ↦
          let unset : get_or (tags_left ino core remains) (p / BLOCK_LEN) false ≡ false =
          get_or_past (tags_left ino core remains) (p / BLOCK_LEN) false
          (omega (
            arith,
            past,
            length-map-range_with_len (is_set_at ino remains) 0
                (length core.tags),
          )) in
          cc
    ]

bytes-are : (ino : ℕ) (core : Core) (remains : Remains) → HasShape core →
    RemainsFit ino core remains →
    bytes_agree core (left ino core remains).bytes ≡ true
bytes-are ino core remains shape fits = and_all _ _
    (rw (length-map-range_with_len (byte_left ino core remains) 0 (length core.bytes))
    (equal_test (length core.bytes)))
    (all_in_range (λ p. is_loose core.loose p
    || (get_or (left ino core remains).bytes p 0 == get_or core.bytes p 0)) 0 (length core.bytes)
    (λ p low high. test p (omega arith) (is_loose core.loose p) refl))
  where
    test : (p : ℕ) → p < length core.bytes → (b : Bool) → is_loose core.loose p ≡ b →
        (is_loose core.loose p || (get_or (left ino core remains).bytes p 0
        == get_or core.bytes p 0)) ≡ true
    test p within true is = rw is refl
    test p within false is =
        let byte : get_or (left ino core remains).bytes p 0 ≡ get_or core.bytes p 0 =
        get_or-map-range_with_len (byte_left ino core remains) 0 (length core.bytes) p p 0 within
        (omega arith)
        ∙ firm-byte ino core remains shape fits p is in
        or_right (is_loose core.loose p) _ (rw byte (equal_test (get_or core.bytes p 0)))

gates-are : (ino : ℕ) (core : Core) (remains : Remains) → HasShape core →
    RemainsFit ino core remains → gates_agree core.tracks (left ino core remains).gates ≡ true
gates-are ino core remains shape fits = and_all _ _
    (rw (length-map-range_with_len (gate_at core remains) 0 (length core.tracks))
    (equal_test (length core.tracks)))
    (all_in_range (λ k. can_be (get_or core.tracks k blank).gate
    (get_or (left ino core remains).gates k false)) 0 (length core.tracks)
    (λ k low high. gate k (omega arith)))
  where
    gate : (k : ℕ) → k < length core.tracks →
        can_be (get_or core.tracks k blank).gate (get_or (left ino core remains).gates k false)
        ≡ true
    gate k within =
        let own = gate-can core core.doubt ino (k + 1) (remains.slots (k + 1))
        (fits.slots (k + 1))
        (λ d is. (shape.doubt d is).apart) in
        rw (get_or-map-range_with_len (gate_at core remains) 0 (length core.tracks) k k false within
        (omega arith))
        (rw (track-next core k) at own)

marks-are : (ino : ℕ) (core : Core) (remains : Remains) → HasShape core →
    RemainsFit ino core remains → marks_agree core.tracks (left ino core remains).marks ≡ true
marks-are ino core remains shape fits = and_all _ _
    (rw (length-map-range_with_len (mark_at core remains) 0 (length core.tracks))
    (equal_test (length core.tracks)))
    (all_in_range (λ k. can_be (get_or core.tracks k blank).mark
    (get_or (left ino core remains).marks k false)) 0 (length core.tracks)
    (λ k low high. mark k (omega arith)))
  where
    mark : (k : ℕ) → k < length core.tracks →
        can_be (get_or core.tracks k blank).mark (get_or (left ino core remains).marks k false)
        ≡ true
    mark k within =
        let own = mark-can core core.doubt ino (k + 1) (remains.slots (k + 1))
        (fits.slots (k + 1)) in
        rw (get_or-map-range_with_len (mark_at core remains) 0 (length core.tracks) k k false within
        (omega arith))
        (rw (track-next core k) at own)

pub left-is : (ino : ℕ) (core : Core) (remains : Remains) → HasShape core →
    RemainsFit ino core remains → is_image core (left ino core remains) ≡ true
left-is ino core remains shape fits =
    and_all _ _ fits.size
    (and_all _ _ (tags-are ino core remains shape fits)
    (and_all _ _ (bytes-are ino core remains shape fits)
    (and_all _ _ (gates-are ino core remains shape fits)
    (and_all _ _ (marks-are ino core remains shape fits)
    (doubt-can core core.doubt ino remains fits.slots)))))
