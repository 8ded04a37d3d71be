-- A slot whose gate is closed is taken from the live entries, and all others stay.
use Rattle.std.proofs.Common.{◌≡◌, ◌≢◌, ◌∙◌, ◌==◌, inl, inr, ℕ, ◌+◌, ◌*◌, ◌/◌, ◌<◌, ◌≤◌, Bool, true}
use Rattle.std.proofs.Common.{false, if◌then◌else◌, Option, Some, None, List, [], ◌∷◌, ◌++◌, length}
use Rattle.std.proofs.Common.{map, take, get_or, set, arith, refl, sym, ap, subst}
use Rattle.std.specs.List.{filter_map, flat_map, range_with_len}
use Rattle.std.proofs.lemmas.Bool.{cases_lt}
use Rattle.std.proofs.lemmas.Bool.Decides.{nat_tests}
use Rattle.std.proofs.lemmas.List.{get_or-set_other, get_or-set_same, length-set, set_past}
use Rattle.cfs_file.specs.declared.request.Request.{Request}
use Rattle.cfs_file.specs.declared.request.Request.TheVariants.{Truncate, Write}
use Rattle.cfs_core.specs.Good.{Rises}
use Rattle.cfs_slot.specs.Words.{area_of, count_of, gate_of, is_live, kind_of, live_entry}
use Rattle.cfs_slot.specs.Words.{offset_of, tails_of}
use Rattle.cfs_slot.specs.Tails.{numbers_in, tails_at}
use Rattle.cfs_core.proofs.Order.{same_or_not}
use Rattle.cfs_medium.specs.Store.{by_gate, entry_at, live_in}
use Rattle.cfs_medium.proofs.Has.{Has}
use Rattle.cfs_medium.proofs.Slots.{live-apart, live-stands, not_live-none, past-none, same-among}
use Rattle.cfs_medium.proofs.Slots.{stands-live}
use Rattle.cfs_medium.proofs.Sorted.{at_least, by_gate-has, by_gate-rising, gates, has-by_gate}
use Rattle.cfs_medium.proofs.Sorted.{rises-by_gate}
use Rattle.cfs_home.specs.Disks.{IsOnce, shut}
use Rattle.cfs_home.specs.Laws.{ShutSlotsLeaveOthers}

-- ---- the words of one slot

closed : List ℕ → List ℕ
closed words = set words 0 0

closed-dead : (ino : ℕ) (words : List ℕ) → is_live ino (closed words) ≡ false
unfolding closed
closed-dead ino [] = refl
closed-dead ino (gate ∷ words) = refl

closed-area : (words : List ℕ) → area_of (closed words) ≡ area_of words
unfolding closed
closed-area [] = refl
closed-area (gate ∷ words) = refl

-- ---- all slots

shut-here : (at : ℕ) (slots : List (List ℕ)) → at < length slots →
    get_or (shut at slots) at [] ≡ closed (get_or slots at [])
unfolding closed
shut-here at slots within = get_or-set_same slots at (set (get_or slots at []) 0 0) [] within

shut-there : (at other : ℕ) (slots : List (List ℕ)) → other ≢ at →
    get_or (shut at slots) other [] ≡ get_or slots other []
shut-there at other slots differs =
    get_or-set_other slots at other (set (get_or slots at []) 0 0) [] differs

shut-past : (at : ℕ) (slots : List (List ℕ)) → length slots ≤ at → shut at slots ≡ slots
shut-past at slots past = set_past slots at (set (get_or slots at []) 0 0) past

-- no payload changes
shut-area : (at : ℕ) (slots : List (List ℕ)) (k : ℕ) →
    area_of (get_or (shut at slots) k []) ≡ area_of (get_or slots k [])
shut-area at slots k = elim (same_or_not k at) [
  | inl same ↦ elim (cases_lt k (length slots)) [
    | inl within ↦
        subst (λ (j : ℕ). area_of (get_or (shut at slots) j []) ≡ area_of (get_or slots j []))
        (sym same)
        (ap area_of (shut-here at slots (omega arith)) ∙ closed-area (get_or slots at []))
    | inr past ↦ ap (λ (list : List (List ℕ)). area_of (get_or list k []))
        (shut-past at slots (omega arith))
  ]
  | inr differs ↦ ap area_of (shut-there at k slots differs)
]

areas-alike : (f g : ℕ → List ℕ) → ((k : ℕ) → area_of (f k) ≡ area_of (g k)) → (ks : List ℕ) →
    flat_map area_of (map f ks) ≡ flat_map area_of (map g ks)
areas-alike f g same [] = refl
areas-alike f g same (k ∷ ks) =
    ap (λ (bytes : List ℕ). bytes ++ flat_map area_of (map f ks)) (same k)
    ∙ ap (λ (bytes : List ℕ). area_of (g k) ++ bytes) (areas-alike f g same ks)

-- the entry in a slot, where its tails have these bytes
entry_with : ℕ → List ℕ → List ℕ → Option (ℕ × Request)
entry_with ino words bytes =
    if is_live ino words then Some (
      gate_of words,
      (if kind_of words == 2 then Truncate (offset_of words)
          else Write (offset_of words) (take (count_of words) (area_of words ++ bytes))),
    ) else None

entry-with : (ino : ℕ) (words : List ℕ) (tails : List (List ℕ)) →
    live_entry ino words tails ≡ entry_with ino words (flat_map area_of tails)
unfolding entry_with
entry-with ino words tails = refl

shut-elsewhere : (ino at : ℕ) (slots : List (List ℕ)) (k : ℕ) → k ≢ at →
    entry_at ino (shut at slots) k ≡ entry_at ino slots k
shut-elsewhere ino at slots k differs =
    ap (λ (words : List ℕ).
    live_entry ino words (tails_of_words (get_or (shut at slots) k []))) head
    ∙ (ap (λ (words : List ℕ). live_entry ino (get_or slots k []) (tails_of_words words)) head
    ∙ (entry-with ino (get_or slots k []) (tails_of_words (get_or slots k []))
    ∙ (ap (entry_with ino (get_or slots k [])) areas
    ∙ sym (entry-with ino (get_or slots k []) (tails_at slots k)))))
  where
    tails_of_words : List ℕ → List (List ℕ)
    tails_of_words words =
        map (λ number. get_or (shut at slots) (k / 16 * 16 + number) [])
        (numbers_in (tails_of words))

    head : get_or (shut at slots) k [] ≡ get_or slots k []
    head = shut-there at k slots differs

    areas : flat_map area_of (tails_of_words (get_or slots k []))
        ≡ flat_map area_of (tails_at slots k)
    areas = areas-alike (λ number. get_or (shut at slots) (k / 16 * 16 + number) [])
        (λ number. get_or slots (k / 16 * 16 + number) [])
        (λ number. shut-area at slots (k / 16 * 16 + number))
        (numbers_in (tails_of (get_or slots k [])))

shut-gone : (ino at : ℕ) (slots : List (List ℕ)) → entry_at ino (shut at slots) at ≡ None
shut-gone ino at slots = elim (cases_lt at (length slots)) [
  | inl within ↦
      not_live-none ino (get_or (shut at slots) at []) (tails_at (shut at slots) at)
      (ap (is_live ino) (shut-here at slots within) ∙ closed-dead ino (get_or slots at []))
  | inr past ↦
      ap (λ (list : List (List ℕ)). entry_at ino list at) (shut-past at slots past)
      ∙ past-none ino slots at past
]

pub shut-leaves : ShutSlotsLeaveOthers
shut-leaves ino at slots other = elim (same_or_not other at) [
  | inl same ↦
      let test : (other == at) ≡ true = grind (arith, nat_tests) in
      ap (λ (k : ℕ). entry_at ino (shut at slots) k) same
      ∙ (shut-gone ino at slots
      ∙ sym (ap (λ (b : Bool). if b then None else entry_at ino slots other) test))
  | inr differs ↦
      let test : (other == at) ≡ false = grind (arith, nat_tests) in
      shut-elsewhere ino at slots other differs
      ∙ sym (ap (λ (b : Bool). if b then None else entry_at ino slots other) test)
]

-- ---- the live entries of an inode

-- an entry that stands behind the closing stood before it
shut-stood : (ino at : ℕ) (slots : List (List ℕ)) (k : ℕ) (entry : ℕ × Request) →
    entry_at ino (shut at slots) k ≡ Some entry →
    (k ≢ at) × (entry_at ino slots k ≡ Some entry)
shut-stood ino at slots k entry stands = elim (same_or_not k at) [
  | inl same ↦
      let here : entry_at ino (shut at slots) at ≡ Some entry =
      subst (λ (j : ℕ). entry_at ino (shut at slots) j ≡ Some entry) same stands in
      let none = shut-gone ino at slots in absurd (cc)
  | inr differs ↦ (differs, sym (shut-elsewhere ino at slots k differs) ∙ stands)
]

pub shut-once : (ino at : ℕ) (slots : List (List ℕ)) → IsOnce ino slots → IsOnce ino (shut at slots)
shut-once ino at slots once first second entry other here there same =
    once first second entry other (shut-stood ino at slots first entry here).1
    (shut-stood ino at slots second other there).1 same

-- where the slot was no live entry
pub shut-same : (ino at : ℕ) (slots : List (List ℕ)) → entry_at ino slots at ≡ None →
    live_in ino (shut at slots) ≡ live_in ino slots
shut-same ino at slots none =
    ap (λ (n : ℕ). filter_map (entry_at ino (shut at slots)) (range_with_len 0 n))
    (length-set slots at (set (get_or slots at []) 0 0))
    ∙ same-among (entry_at ino (shut at slots)) (entry_at ino slots) stays (length slots) 0
  where
    stays : (k : ℕ) → entry_at ino (shut at slots) k ≡ entry_at ino slots k
    stays k = elim (same_or_not k at) [
      | inl same ↦
          ap (λ (j : ℕ). entry_at ino (shut at slots) j) same
          ∙ (shut-gone ino at slots
          ∙ (sym none ∙ ap (λ (j : ℕ). entry_at ino slots j) (sym same)))
      | inr differs ↦ shut-elsewhere ino at slots k differs
    ]

rises-from : (low high : ℕ) (ns : List ℕ) → low ≤ high → Rises high ns → Rises low ns
rises-from low high [] less rises = tt
rises-from low high (n ∷ ns) less rises = (let first = rises.0 in omega arith, rises.1)

-- where it was the lowest one
pub shut-lowest : (ino at : ℕ) (slots : List (List ℕ)) (entry : ℕ × Request)
    (rest : List (ℕ × Request)) → IsOnce ino slots → entry_at ino slots at ≡ Some entry →
    by_gate (live_in ino slots) ≡ entry ∷ rest → by_gate (live_in ino (shut at slots)) ≡ rest
shut-lowest ino at slots entry rest once here lowest =
    by_gate-rising (live_in ino (shut at slots)) rest
    (live-apart ino (shut at slots) (shut-once ino at slots once))
    (rises-from 0 (entry.0 + 1) (gates rest) (omega arith) all_rise.1) into back
  where
    all_rise : Rises 0 (gates (entry ∷ rest))
    all_rise = subst (λ (es : List (ℕ × Request)). Rises 0 (gates es)) lowest
        (rises-by_gate (live_in ino slots) (live-apart ino slots once))

    into : (e : ℕ × Request) → Has (live_in ino (shut at slots)) e → Has rest e
    into e among =
        let found = live-stands ino (shut at slots) e among in
        let stood = shut-stood ino at slots found.0 e found.1 in
        let among_all : Has (entry ∷ rest) e =
        subst (λ (es : List (ℕ × Request)). Has es e) lowest
        (by_gate-has (live_in ino slots) e (stands-live ino slots found.0 e stood.1)) in
        elim among_all [
          | inl same ↦ absurd (stood.0 (once found.0 at e entry stood.1 here
              (ap (λ (x : ℕ × Request). x.0) same)))
          | inr more ↦ more
        ]

    apart : (e : ℕ × Request) → Has rest e → (k : ℕ) → entry_at ino slots k ≡ Some e → k ≢ at
    apart e more k stands same =
        let two : entry_at ino slots at ≡ Some e =
        subst (λ (j : ℕ). entry_at ino slots j ≡ Some e) same stands in
        let one : e ≡ entry = cc in
        let above = at_least (entry.0 + 1) rest e all_rise.1 more in
        let gate : e.0 ≡ entry.0 = ap (λ (x : ℕ × Request). x.0) one in
        omega (arith, above, gate)

    back : (e : ℕ × Request) → Has rest e → Has (live_in ino (shut at slots)) e
    back e more =
        let among : Has (by_gate (live_in ino slots)) e =
        subst (λ (es : List (ℕ × Request)). Has es e) (sym lowest) (inr more) in
        let stood = live-stands ino slots e (has-by_gate (live_in ino slots) e among) in
        stands-live ino (shut at slots) stood.0 e
        (shut-elsewhere ino at slots stood.0 (apart e more stood.0 stood.1) ∙ stood.1)
