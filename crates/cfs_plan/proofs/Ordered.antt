-- The live entries of a survey are in strict order where no two have one inode number and gate.
use Rattle.std.proofs.Common.{◌≡◌, ◌≢◌, ◌⊎◌, ◌∙◌, ℕ, suc, zero, ◌+◌, ◌<◌, ◌≤◌, Bool, true, false}
use Rattle.std.proofs.Common.{Option, Some, None, List, [], ◌∷◌, get_or, length, arith, refl, sym}
use Rattle.std.proofs.Common.{ap, ap₂}
use Rattle.std.proofs.Common.{subst, if◌then◌else◌, inl, inr, eq-eqb}
use Rattle.std.specs.Prelude.{◌==◌, ◌&&◌, ◌||◌, nat_lt}
use Rattle.std.specs.List.{cons_option, filter_map, range_with_len}
use Rattle.std.proofs.lemmas.Bool.{cases_lt, eqb-true, lt-ltb}
use Rattle.std.proofs.lemmas.Bool.Decides.{nat_tests}
use Rattle.cfs_core.proofs.Legal.{both}
use Rattle.cfs_core.proofs.Order.{same_or_not}
use Rattle.cfs_dir.specs.declared.node.Node.{Node}
use Rattle.cfs_medium.proofs.Has.{Has}
use Rattle.cfs_slot.specs.Words.{gate_of, ino_of}
use Rattle.cfs_survey.specs.declared.live_entry.LiveEntry.{LiveEntry}
use Rattle.cfs_survey.specs.Live.{entry_in, in_order, is_before, live_entries, put_live}
use Rattle.cfs_survey.specs.Slots.{is_live_entry}
use Rattle.cfs_plan.proofs.Members.{filter_map-has, has-filter_map, has-range, range-has}
use Rattle.cfs_plan.proofs.Passed.{live-inside}

-- ---- members

pub put-has : (entry : LiveEntry) (xs : List LiveEntry) (x : LiveEntry) →
    Has (put_live entry xs) x → (x ≡ entry) ⊎ Has xs x
put-has entry [] x h = h
put-has entry (first ∷ rest) x h = split (is_before first entry) (put-has entry rest x) h
  where
    split : (b : Bool) → (Has (put_live entry rest) x → (x ≡ entry) ⊎ Has rest x) →
        Has (if b then first ∷ put_live entry rest else entry ∷ first ∷ rest) x →
        (x ≡ entry) ⊎ Has (first ∷ rest) x
    split true deeper h = elim h [
      | inl same ↦ inr (inl same)
      | inr more ↦ elim (deeper more) [
        | inl own ↦ inl own
        | inr later ↦ inr (inr later)
      ]
    ]
    split false deeper h = h

pub has-put : (entry : LiveEntry) (xs : List LiveEntry) (x : LiveEntry) →
    (x ≡ entry) ⊎ Has xs x → Has (put_live entry xs) x
has-put entry [] x h = h
has-put entry (first ∷ rest) x h =
    split (is_before first entry) (has-put entry rest x) h
  where
    split : (b : Bool) → ((x ≡ entry) ⊎ Has rest x → Has (put_live entry rest) x) →
        (x ≡ entry) ⊎ Has (first ∷ rest) x →
        Has (if b then first ∷ put_live entry rest else entry ∷ first ∷ rest) x
    split true deeper h = elim h [
      | inl own ↦ inr (deeper (inl own))
      | inr more ↦ elim more [
        | inl same ↦ inl same
        | inr later ↦ inr (deeper (inr later))
      ]
    ]
    split false deeper h = h

pub order-has : (xs : List LiveEntry) (x : LiveEntry) → Has (in_order xs) x → Has xs x
order-has [] x h = h
order-has (entry ∷ xs) x h = elim (put-has entry (in_order xs) x h) [
  | inl own ↦ inl own
  | inr more ↦ inr (order-has xs x more)
]

pub has-order : (xs : List LiveEntry) (x : LiveEntry) → Has xs x → Has (in_order xs) x
has-order [] x h = h
has-order (entry ∷ xs) x h = has-put entry (in_order xs) x (elim h [
  | inl own ↦ inl own
  | inr more ↦ inr (has-order xs x more)
])

-- ---- which comes before

not-less : (a b : ℕ) → b ≤ a → nat_lt a b ≡ false
not-less a b high = grind (arith, nat_tests)

is-less : (a b : ℕ) → nat_lt a b ≡ true → a < b
is-less a b is = grind (arith, nat_tests)

-- the lower inode number comes first, and of one inode the lower gate
pub record ComesBefore (a b : LiveEntry) : Type 0 where
  pub least : a.ino ≤ b.ino
  pub gates : a.ino ≡ b.ino → a.gate < b.gate

before-is : (a b : LiveEntry) → is_before a b ≡ true → ComesBefore a b
before-is a b is = elim (cases_lt a.ino b.ino) [
  | inl low ↦ record {
    least = omega (arith, low);
    gates = λ same. absurd (omega (arith, low, same));
  }
  | inr high ↦
      let first : nat_lt a.ino b.ino ≡ false = not-less a.ino b.ino high in
      let rest : ((a.ino == b.ino) && nat_lt a.gate b.gate) ≡ true =
      ap (λ c. c || ((a.ino == b.ino) && nat_lt a.gate b.gate)) (sym first) ∙ is in
      let parts = both _ _ rest in
      let same = eqb-true a.ino b.ino parts.0 in
      let less = is-less a.gate b.gate parts.1 in
      record {
        least = omega (arith, same);
        gates = λ _. less;
      }
]

before-not : (a b : LiveEntry) → is_before a b ≡ false → (a.ino ≡ b.ino → a.gate ≢ b.gate) →
    ComesBefore b a
before-not a b is apart =
    let high : b.ino ≤ a.ino = elim (cases_lt a.ino b.ino) [
      | inl low ↦
          let clash =
          sym is ∙ ap (λ c. c || ((a.ino == b.ino) && nat_lt a.gate b.gate))
          (lt-ltb a.ino b.ino low) in
          absurd (cc)
      | inr high ↦ high
    ] in
    record {
      least = high;
      gates = λ same.
          (elim (cases_lt a.gate b.gate) [
            | inl low ↦
                let clash =
                sym is ∙ ap₂ (λ c d. c || (d && nat_lt a.gate b.gate)) (not-less a.ino b.ino high)
                (eq-eqb a.ino b.ino (sym same))
                ∙ lt-ltb a.gate b.gate low in
                absurd (cc)
            | inr high ↦ elim (same_or_not a.gate b.gate) [
              | inl equal ↦ absurd (apart (sym same) equal)
              | inr differs ↦ omega (arith, high, differs)
            ]
          ]);
    }

-- ---- strict order

abbrev pub IsStrict : List LiveEntry → Type 0
IsStrict [] = Unit {0}
IsStrict (x ∷ xs) = ((y : LiveEntry) → Has xs y → ComesBefore x y) × IsStrict xs

-- the two have not both inode number and gate in common
abbrev pub IsApart : LiveEntry → LiveEntry → Type 0
IsApart a b = a.ino ≡ b.ino → a.gate ≢ b.gate

behind : (a b c : LiveEntry) → ComesBefore a b → ComesBefore b c → ComesBefore a c
behind a b c first second = record {
  least = omega (arith, first.least, second.least);
  gates = λ same.
      (let one : a.ino ≡ b.ino = omega (arith, same, first.least, second.least) in
      let two : b.ino ≡ c.ino = omega (arith, same, one) in
      omega (arith, first.gates one, second.gates two));
}

put-strict : (entry : LiveEntry) (xs : List LiveEntry) → IsStrict xs →
    ((x : LiveEntry) → Has xs x → IsApart x entry) → IsStrict (put_live entry xs)
put-strict entry [] strict apart = (λ y h. absurd h, tt)
put-strict entry (first ∷ rest) strict apart =
    split (is_before first entry) refl
    (put-strict entry rest strict.1 (λ x more. apart x (inr more)))
  where
    split : (b : Bool) → is_before first entry ≡ b → IsStrict (put_live entry rest) →
        IsStrict (if b then first ∷ put_live entry rest else entry ∷ first ∷ rest)
    split true is deeper = (
      λ y h. elim (put-has entry rest y h) [
        | inl own ↦ subst (ComesBefore first) (sym own) (before-is first entry is)
        | inr later ↦ strict.0 y later
      ],
      deeper,
    )
    split false is deeper =
        let here = before-not first entry is (apart first (inl refl)) in (
          λ y h. elim h [
            | inl same ↦ subst (ComesBefore entry) (sym same) here
            | inr later ↦ behind entry first y here (strict.0 y later)
          ],
          strict,
        )

-- ---- the entries of slots

-- an entry is what its slot tells
pub record IsTold (nodes : List Node) (slots : List (List ℕ)) (at : ℕ) (entry : LiveEntry) :
    Type 0 where
  pub live : is_live_entry nodes (get_or slots at []) ≡ true
  pub ino : entry.ino ≡ ino_of (get_or slots at [])
  pub gate : entry.gate ≡ gate_of (get_or slots at [])
  pub slot : entry.slot ≡ at

pub entry-told : (nodes : List Node) (slots : List (List ℕ)) (at : ℕ) (entry : LiveEntry) →
    entry_in nodes slots at ≡ Some entry → IsTold nodes slots at entry
entry-told nodes slots at entry told =
    split (is_live_entry nodes (get_or slots at [])) refl told
  where
    made : LiveEntry
    made = record {
      ino = ino_of (get_or slots at []);
      gate = gate_of (get_or slots at []);
      slot = at;
    }

    split : (b : Bool) → is_live_entry nodes (get_or slots at []) ≡ b →
        (if b then Some made else None) ≡ Some entry → IsTold nodes slots at entry
    split true is told =
        let same : made ≡ entry = cc in
        record {
          live = is;
          ino = sym (ap (λ (e : LiveEntry). e.ino) same);
          gate = sym (ap (λ (e : LiveEntry). e.gate) same);
          slot = sym (ap (λ (e : LiveEntry). e.slot) same);
        }
    split false is told = absurd (cc)

-- no two slots tell the same inode number and gate
abbrev pub AreApart : List Node → List (List ℕ) → Type 0
AreApart nodes slots =
    (low high : ℕ) (a b : LiveEntry) → low < high → entry_in nodes slots low ≡ Some a →
    entry_in nodes slots high ≡ Some b → IsApart b a

strict-from : (nodes : List Node) (slots : List (List ℕ)) → AreApart nodes slots → (n at : ℕ) →
    IsStrict (in_order (filter_map (entry_in nodes slots) (range_with_len at n)))
strict-from nodes slots apart zero at = tt
strict-from nodes slots apart (suc n) at =
    split (entry_in nodes slots at) refl (strict-from nodes slots apart n (at + 1))
  where
    rest : List LiveEntry
    rest = filter_map (entry_in nodes slots) (range_with_len (at + 1) n)

    split : (o : Option LiveEntry) → entry_in nodes slots at ≡ o → IsStrict (in_order rest) →
        IsStrict (in_order (cons_option o rest))
    split None is deeper = deeper
    split (Some entry) is deeper =
        put-strict entry (in_order rest) deeper (λ x h.
        (let from = filter_map-has (entry_in nodes slots) (range_with_len (at + 1) n) x
        (order-has rest x h) in
        let above = range-has (at + 1) n from.0 from.1.0 in
        apart at from.0 entry x (omega (arith, above.0)) is from.1.1))

pub live-strict : (nodes : List Node) (slots : List (List ℕ)) → AreApart nodes slots →
    IsStrict (in_order (live_entries nodes slots))
live-strict nodes slots apart = strict-from nodes slots apart (length slots) 0

-- each entry is told by a slot, and each slot's entry is among them
pub live-told : (nodes : List Node) (slots : List (List ℕ)) (entry : LiveEntry) →
    Has (in_order (live_entries nodes slots)) entry →
    (entry.slot < length slots) × IsTold nodes slots entry.slot entry
live-told nodes slots entry h =
    let from = filter_map-has (entry_in nodes slots) (range_with_len 0 (length slots)) entry
    (order-has (live_entries nodes slots) entry h) in
    let told = entry-told nodes slots from.0 entry from.1.1 in
    let inside = range-has 0 (length slots) from.0 from.1.0 in (
      omega (arith, told.slot, inside.1),
      subst (λ at. IsTold nodes slots at entry) (sym told.slot) told,
    )

pub live-among : (nodes : List Node) (slots : List (List ℕ)) (at : ℕ) →
    is_live_entry nodes (get_or slots at []) ≡ true →
    Has (in_order (live_entries nodes slots)) (record {
      ino = ino_of (get_or slots at []);
      gate = gate_of (get_or slots at []);
      slot = at;
    })
live-among nodes slots at live =
    let inside = live-inside nodes slots at live in
    has-order (live_entries nodes slots) _
    (has-filter_map (entry_in nodes slots) (range_with_len 0 (length slots)) at _
    (has-range 0 (length slots) at (omega arith) (omega (arith, inside)))
    (ap (λ (b : Bool). if b then Some record {
      ino = ino_of (get_or slots at []);
      gate = gate_of (get_or slots at []);
      slot = at;
    } else None) live))
