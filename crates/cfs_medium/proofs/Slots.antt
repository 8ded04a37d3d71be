-- The live entries of a list of slots are those that stand at its places.
use Rattle.std.proofs.Common.{◌≡◌, ◌≢◌, ◌⊎◌, inl, inr, ℕ, suc, zero, ◌+◌, ◌-◌, ◌*◌, ◌/◌, ◌<◌, ◌≤◌, Bool, true, false, if◌then◌else◌, Option, Some, None, List, [], ◌∷◌, length, map, get_or, set, arith, refl, sym, ap, subst, ◌∙◌}
use Rattle.std.specs.List.{cons_option, filter_map, range_with_len}
use Rattle.std.proofs.lemmas.Bool.{cases_lt}
use Rattle.std.proofs.lemmas.List.{get_or_default, get_or_past, get_or-set_other, get_or-set_same, length-set, set_past}
use Rattle.cfs_file.specs.declared.request.Request.{Request}
use Rattle.cfs_slot.specs.Tails.{numbers_in, tails_at}
use Rattle.cfs_slot.specs.Words.{gate_of, is_live, live_entry, request_of, tails_of}
use Rattle.cfs_medium.specs.Store.{by_gate, entry_at, live_in, put_by_gate}
use Rattle.cfs_medium.specs.Laws.{SlotsOfOthersStay}
use Rattle.cfs_medium.proofs.Has.{Has, contains-had}
use Rattle.cfs_medium.proofs.Sorted.{AreApart}

has-cons_option : (o : Option (ℕ × Request)) (xs : List (ℕ × Request)) (e : ℕ × Request) → Has (cons_option o xs) e → (o ≡ Some e) ⊎ Has xs e
has-cons_option None xs e h = inr h
has-cons_option (Some first) xs e h = elim h [
  | inl same ↦ inl (ap (λ (x : ℕ × Request). Some x) (sym same))
  | inr more ↦ inr more
]

cons_option-has : (o : Option (ℕ × Request)) (xs : List (ℕ × Request)) (e : ℕ × Request) → (o ≡ Some e) ⊎ Has xs e → Has (cons_option o xs) e
cons_option-has None xs e h = elim h [
  | inl is ↦ cc
  | inr more ↦ more
]
cons_option-has (Some first) xs e h = elim h [
  | inl is ↦ inl (cc)
  | inr more ↦ inr more
]

-- an entry that stands at one of n places from a on
abbrev StandsFrom : (ℕ → Option (ℕ × Request)) → ℕ → ℕ × Request → Type 0
StandsFrom entry a e = (at : ℕ) × ((a ≤ at) × (entry at ≡ Some e))

pub among-stands : (entry : ℕ → Option (ℕ × Request)) (n a : ℕ) (e : ℕ × Request) → Has (filter_map entry (range_with_len a n)) e → StandsFrom entry a e
among-stands entry zero a e h = absurd h
among-stands entry (suc n) a e h = elim (has-cons_option (entry a) (filter_map entry (range_with_len (a + 1) n)) e h) [
  | inl here ↦ (a, (omega arith, here))
  | inr more ↦ let later = among-stands entry n (a + 1) e more in (later.0, (omega (arith, later.1.0), later.1.1))
]

pub stands-among : (entry : ℕ → Option (ℕ × Request)) (n a at : ℕ) (e : ℕ × Request) → a ≤ at → at < a + n → entry at ≡ Some e → Has (filter_map entry (range_with_len a n)) e
stands-among entry zero a at e low high is = absurd (omega arith)
stands-among entry (suc n) a at e low high is =
    cons_option-has (entry a) (filter_map entry (range_with_len (a + 1) n)) e (elim (cases_lt a at) [
      | inl above ↦ inr (stands-among entry n (a + 1) at e (omega arith) (omega arith) is)
      | inr below ↦ let same : at ≡ a = omega arith in inl (subst (λ k. entry k ≡ Some e) same is)
    ])

apart-cons_option : (o : Option (ℕ × Request)) (xs : List (ℕ × Request)) → AreApart xs →
    ((first e : ℕ × Request) → o ≡ Some first → Has xs e → e.0 ≡ first.0 → ⊥) → AreApart (cons_option o xs)
apart-cons_option None xs apart other = apart
apart-cons_option (Some first) xs apart other = (λ e among same. other first e refl among same, apart)

pub among-apart : (entry : ℕ → Option (ℕ × Request)) (n a : ℕ) →
    ((first second : ℕ) (x y : ℕ × Request) → entry first ≡ Some x → entry second ≡ Some y → x.0 ≡ y.0 → first ≡ second) →
    AreApart (filter_map entry (range_with_len a n))
among-apart entry zero a once = tt
among-apart entry (suc n) a once =
    apart-cons_option (entry a) (filter_map entry (range_with_len (a + 1) n)) (among-apart entry n (a + 1) once)
    (λ first e here among same. no_other first e here (among-stands entry n (a + 1) e among) same)
  where
    no_other : (first e : ℕ × Request) → entry a ≡ Some first → StandsFrom entry (a + 1) e → e.0 ≡ first.0 → ⊥
    no_other first e here later same =
        let place : later.0 ≡ a = once later.0 a e first later.1.1 here same in
        omega (arith, place, later.1.0)

pub same-among : (f g : ℕ → Option (ℕ × Request)) → ((at : ℕ) → f at ≡ g at) → (n a : ℕ) →
    filter_map f (range_with_len a n) ≡ filter_map g (range_with_len a n)
same-among f g same zero a = refl
same-among f g same (suc n) a =
    ap (λ (o : Option (ℕ × Request)). cons_option o (filter_map f (range_with_len (a + 1) n))) (same a)
    ∙ ap (cons_option (g a)) (same-among f g same n (a + 1))

-- ---- the slots of a store

pub not_live-none : (ino : ℕ) (words : List ℕ) (tails : List (List ℕ)) → is_live ino words ≡ false → live_entry ino words tails ≡ None
not_live-none ino words tails is = ap (λ (b : Bool). if b then Some (gate_of words, request_of words tails) else None) is

pub past-none : (ino : ℕ) (slots : List (List ℕ)) (at : ℕ) → length slots ≤ at →
    entry_at ino slots at ≡ None
past-none ino slots at past =
    let empty : get_or slots at [] ≡ [] = get_or_past slots at [] past in
    not_live-none ino (get_or slots at []) (tails_at slots at) (ap (λ (words : List ℕ). is_live ino words) empty)

pub live-stands : (ino : ℕ) (slots : List (List ℕ)) (e : ℕ × Request) → Has (live_in ino slots) e → (at : ℕ) × (entry_at ino slots at ≡ Some e)
live-stands ino slots e h = let stands = among-stands (entry_at ino slots) (length slots) 0 e h in (stands.0, stands.1.1)

pub stands-live : (ino : ℕ) (slots : List (List ℕ)) (at : ℕ) (e : ℕ × Request) → entry_at ino slots at ≡ Some e → Has (live_in ino slots) e
stands-live ino slots at e is = elim (cases_lt at (length slots)) [
  | inl within ↦ stands-among (entry_at ino slots) (length slots) 0 at e (omega arith) (omega arith) is
  | inr past ↦ let none : entry_at ino slots at ≡ None = past-none ino slots at past in cc
]

-- where one gate stands in one slot alone
pub live-apart : (ino : ℕ) (slots : List (List ℕ)) →
    ((first second : ℕ) (a b : ℕ × Request) → entry_at ino slots first ≡ Some a → entry_at ino slots second ≡ Some b → a.0 ≡ b.0 → first ≡ second) →
    AreApart (live_in ino slots)
live-apart ino slots once = among-apart (entry_at ino slots) (length slots) 0 once

-- ---- taken up from the last place to the first

-- the entries from a place on
abbrev pub live_from : ℕ → List (List ℕ) → ℕ → List (ℕ × Request)
live_from ino slots at = filter_map (entry_at ino slots) (range_with_len at (length slots - at))

-- those from the place before one
live_from-before : (ino : ℕ) (slots : List (List ℕ)) (at : ℕ) → 0 < at → at ≤ length slots →
    live_from ino slots (at - 1) ≡ cons_option (entry_at ino slots (at - 1)) (live_from ino slots at)
live_from-before ino slots at some most =
    let count : length slots - (at - 1) ≡ suc (length slots - at) = omega arith in
    let next : at - 1 + 1 ≡ at = omega arith in
    ap (λ (n : ℕ). filter_map (entry_at ino slots) (range_with_len (at - 1) n)) count
    ∙ ap (λ (a : ℕ). cons_option (entry_at ino slots (at - 1)) (filter_map (entry_at ino slots) (range_with_len a (length slots - at)))) next

pub live_from-dead : (ino : ℕ) (slots : List (List ℕ)) (at : ℕ) → 0 < at → at ≤ length slots →
    is_live ino (get_or slots (at - 1) []) ≡ false → live_from ino slots (at - 1) ≡ live_from ino slots at
live_from-dead ino slots at some most dead =
    live_from-before ino slots at some most
    ∙ ap (λ (o : Option (ℕ × Request)). cons_option o (live_from ino slots at))
    (not_live-none ino (get_or slots (at - 1) []) (tails_at slots (at - 1)) dead)

pub live_from-live : (ino : ℕ) (slots : List (List ℕ)) (at : ℕ) → 0 < at → at ≤ length slots →
    is_live ino (get_or slots (at - 1) []) ≡ true →
    live_from ino slots (at - 1)
    ≡ (gate_of (get_or slots (at - 1) []), request_of (get_or slots (at - 1) []) (tails_at slots (at - 1))) ∷ live_from ino slots at
live_from-live ino slots at some most live =
    live_from-before ino slots at some most
    ∙ ap (λ (b : Bool). cons_option (if b then Some (gate_of (get_or slots (at - 1) []), request_of (get_or slots (at - 1) []) (tails_at slots (at - 1))) else None)
    (live_from ino slots at)) live

-- a slot that was read
pub read_at : (slots : List (List ℕ)) (at : ℕ) (words : List ℕ) → words ≡ get_or slots at words → at < length slots → words ≡ get_or slots at []
read_at slots at words is within = is ∙ get_or_default slots at words [] within

-- one turn over a slot that is live, and over one that is not
pub turn_live : (ino : ℕ) (slots : List (List ℕ)) (at : ℕ) (words : List ℕ) (gate : ℕ) (request : Request) (entries new : List (ℕ × Request)) →
    0 < at → at ≤ length slots → words ≡ get_or slots (at - 1) [] → is_live ino words ≡ true → gate ≡ gate_of words →
    request ≡ request_of (get_or slots (at - 1) []) (tails_at slots (at - 1)) →
    entries ≡ by_gate (live_from ino slots at) → new ≡ put_by_gate (gate, request) entries → new ≡ by_gate (live_from ino slots (at - 1))
turn_live ino slots at words gate request entries new some most here live gate_is request_is entries_are new_is =
    let live_here : is_live ino (get_or slots (at - 1) []) ≡ true = subst (λ w. is_live ino w ≡ true) here live in
    new_is
    ∙ (ap (λ (es : List (ℕ × Request)). put_by_gate (gate, request) es) entries_are
    ∙ (ap (λ (g : ℕ). put_by_gate (g, request) (by_gate (live_from ino slots at))) (gate_is ∙ ap (λ (w : List ℕ). gate_of w) here)
    ∙ (ap (λ (r : Request). put_by_gate (gate_of (get_or slots (at - 1) []), r) (by_gate (live_from ino slots at))) request_is
    ∙ ap (λ (es : List (ℕ × Request)). by_gate es) (sym (live_from-live ino slots at some most live_here)))))

pub turn_dead : (ino : ℕ) (slots : List (List ℕ)) (at : ℕ) (words : List ℕ) (entries : List (ℕ × Request)) →
    0 < at → at ≤ length slots → words ≡ get_or slots (at - 1) [] → is_live ino words ≡ false →
    entries ≡ by_gate (live_from ino slots at) → entries ≡ by_gate (live_from ino slots (at - 1))
turn_dead ino slots at words entries some most here dead entries_are =
    let dead_here : is_live ino (get_or slots (at - 1) []) ≡ false = subst (λ w. is_live ino w ≡ false) here dead in
    entries_are ∙ ap (λ (es : List (ℕ × Request)). by_gate es) (sym (live_from-dead ino slots at some most dead_here))

-- ---- slots of others

-- two functions that agree on the members of a list
map-same_among : (f g : ℕ → List ℕ) (ks : List ℕ) → ((k : ℕ) → Has ks k → f k ≡ g k) → map f ks ≡ map g ks
map-same_among f g [] same = refl
map-same_among f g (k ∷ ks) same =
    ap (λ (y : List ℕ). y ∷ map f ks) (same k (inl refl))
    ∙ ap (λ (ys : List (List ℕ)). g k ∷ ys) (map-same_among f g ks (λ j among. same j (inr among)))

pub slots-stay : SlotsOfOthersStay
slots-stay ino at slots words old no_tail new =
    ap (λ (n : ℕ). filter_map (entry_at ino (set slots at words)) (range_with_len 0 n)) (length-set slots at words)
    ∙ same-among (entry_at ino (set slots at words)) (entry_at ino slots) stays (length slots) 0
  where
    after : List (List ℕ)
    after = set slots at words

    here : entry_at ino after at ≡ entry_at ino slots at
    here = elim (cases_lt at (length slots)) [
      | inl within ↦
          let is : is_live ino (get_or after at []) ≡ false = ap (λ (w : List ℕ). is_live ino w) (get_or-set_same slots at words [] within) ∙ new in
          not_live-none ino (get_or after at []) (tails_at after at) is ∙ sym (not_live-none ino (get_or slots at []) (tails_at slots at) old)
      | inr past ↦ ap (λ (list : List (List ℕ)). entry_at ino list at) (set_past slots at words past)
    ]

    head_stays : (k : ℕ) → k ≢ at → get_or after k [] ≡ get_or slots k []
    head_stays k other = get_or-set_other slots at k words [] other

    tails_stay : (k : ℕ) → k ≢ at → is_live ino (get_or slots k []) ≡ true → tails_at after k ≡ tails_at slots k
    tails_stay k other live =
        ap (λ (w : List ℕ). map (λ (number : ℕ). get_or after (k / 16 * 16 + number) []) (numbers_in (tails_of w))) (head_stays k other)
        ∙ map-same_among (λ number. get_or after (k / 16 * 16 + number) []) (λ number. get_or slots (k / 16 * 16 + number) [])
        (numbers_in (tails_of (get_or slots k [])))
        (λ number among. head_stays (k / 16 * 16 + number)
        (no_tail k number live (contains-had (numbers_in (tails_of (get_or slots k []))) number among)))

    there : (k : ℕ) → k ≢ at → (live : Bool) → is_live ino (get_or slots k []) ≡ live → entry_at ino after k ≡ entry_at ino slots k
    there k other true live =
        ap (λ (w : List ℕ). live_entry ino w (tails_at after k)) (head_stays k other)
        ∙ ap (λ (tails : List (List ℕ)). live_entry ino (get_or slots k []) tails) (tails_stay k other live)
    there k other false dead =
        ap (λ (w : List ℕ). live_entry ino w (tails_at after k)) (head_stays k other)
        ∙ (not_live-none ino (get_or slots k []) (tails_at after k) dead
        ∙ sym (not_live-none ino (get_or slots k []) (tails_at slots k) dead))

    stays : (k : ℕ) → entry_at ino after k ≡ entry_at ino slots k
    stays k = elim (cases_lt k at) [
      | inl below ↦ there k (λ is. omega arith) (is_live ino (get_or slots k [])) refl
      | inr more ↦ elim (cases_lt at k) [
        | inl above ↦ there k (λ is. omega arith) (is_live ino (get_or slots k [])) refl
        | inr neither ↦ let same : k ≡ at = omega arith in subst (λ j. entry_at ino after j ≡ entry_at ino slots j) (sym same) here
      ]
    ]
