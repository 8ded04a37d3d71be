-- That the bytes of a name that passes its checks are those of a name.
use Rattle.std.proofs.Common.{◌≡◌, ℕ, suc, ◌-◌, ◌<◌, ◌≤◌, [], ◌∷◌, List, length, get_or, take}
use Rattle.std.proofs.Common.{true, false, Bool, inl, inr, refl, sym, ◌∙◌, ap, arith}
use Rattle.std.specs.Prelude.{None, IsTrue, not, nat_lt, Result, Ok, Err, OnOk, if◌then◌else◌}
use Rattle.std.proofs.lemmas.Bool.{cases_Bool, lt-ltb, ltb-false, ltb-true}
use Rattle.std.proofs.lemmas.List.{length-take-le, get_or-take, get_or_past}
use Rattle.std.proofs.lemmas.List.Elements.{All-from_get_or}
use Rattle.cfs_dir.specs.Name.{IsName, is_name_byte}
use Rattle.cfs_image.specs.Checks.{damage_of}
use Rattle.cfs_survey.specs.Fields.{byte_check, byte_checks, fits}
use Rattle.cfs_survey.proofs.FirstFaults.{holds_at, passed}

pub on_ok : {A E : Type 0} (r : Result A E) (P Q : Type 0) → (P → Q) → OnOk r P → OnOk r Q
on_ok (Ok x) P Q f h = f h
on_ok (Err e) P Q f h = tt

pub not_true : (b : Bool) → not b ≡ true → b ≡ false
not_true true h = absurd (cc)
not_true false h = refl

first_branch : (b x y : Bool) → b ≡ true → (if b then x else y) ≡ true → x ≡ true
first_branch true x y e h = h
first_branch false x y e h = absurd (cc)

-- a byte of a name is no 0, so that the bytes of a name that passes its checks are all there
room_reaches : (at len last : ℕ) (room : List ℕ) → len ≡ suc last → len ≤ 40
    → damage_of (byte_checks at len room) ≡ None → last < length room
room_reaches at len last room is high sound = elim (cases_Bool (nat_lt last (length room))) [
  | inl t ↦ ltb-true last (length room) t
  | inr f ↦
      let past : get_or room last 0 ≡ 0 = get_or_past room last 0 (ltb-false last (length room) f) in
      let below : last < len = omega arith in
      let each = λ (k : ℕ). byte_check at len room k ∷ [] in
      let here : fits (get_or room last 0) last len ≡ true =
      passed (byte_check at len room last)
      (holds_at each 0 40 last last (omega arith) (omega arith) sound) in
      let byte : is_name_byte (get_or room last 0) ≡ true =
      first_branch (nat_lt last len) (is_name_byte (get_or room last 0)) _
      (lt-ltb last len below) here in
      let zero_byte : is_name_byte 0 ≡ true = sym (ap is_name_byte past) ∙ byte in
      absurd (cc)
]

room_holds : (at len : ℕ) (room : List ℕ) → 1 ≤ len → len ≤ 40
    → damage_of (byte_checks at len room) ≡ None → len ≤ length room
room_holds at len room low high sound =
    let last : len ≡ suc (len - 1) = omega arith in
    let reached = room_reaches at len (len - 1) room last high sound in
    omega arith

pub IsName-from_checks : (at len : ℕ) (room : List ℕ) → 1 ≤ len → len ≤ 40
    → damage_of (byte_checks at len room) ≡ None → IsName (take len room)
IsName-from_checks at len room low high sound =
    let front : length (take len room) ≡ len =
    length-take-le len room (room_holds at len room low high sound) in
    let each = λ (k : ℕ). byte_check at len room k ∷ [] in (
      omega arith,
      omega arith,
      All-from_get_or (λ byte. IsTrue (is_name_byte byte)) (take len room) 0 (λ i below.
          let within : i < len = omega arith in
          let here : fits (get_or room i 0) i len ≡ true = passed (byte_check at len room i) (holds_at each 0 40 i i (omega arith) (omega arith) sound) in
          let same : get_or (take len room) i 0 ≡ get_or room i 0 = get_or-take len room i 0 within in
          ap is_name_byte same ∙ first_branch (nat_lt i len) (is_name_byte (get_or room i 0)) _ (lt-ltb i len within) here),
    )
