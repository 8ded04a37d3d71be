-- A list of all live entries, those of one file by ascending gate, is in the order of a replay.
use Rattle.std.proofs.Common.{◌≡◌, ◌≢◌, ◌∙◌, ◌==◌, inl, inr, ℕ, ◌+◌, ◌<◌, ◌≤◌, Bool, true, false}
use Rattle.std.proofs.Common.{if◌then◌else◌, Some, None, List, [], ◌∷◌, get_or, arith, refl, sym}
use Rattle.std.proofs.Common.{ap, subst}
use Rattle.std.specs.List.{Contains}
use Rattle.std.proofs.lemmas.Bool.Decides.{nat_tests}
use Rattle.cfs_file.specs.declared.request.Request.{Request}
use Rattle.cfs_core.specs.Good.{Rises}
use Rattle.cfs_core.proofs.Legal.{both, same_number}
use Rattle.cfs_core.proofs.Order.{same_or_not}
use Rattle.cfs_block.specs.BlockImages.{Content}
use Rattle.cfs_slot.specs.Words.{gate_of, ino_of, is_live, live_entry, request_of}
use Rattle.cfs_slot.specs.Tails.{tails_at}
use Rattle.cfs_medium.specs.Store.{by_gate, entry_at, live_in}
use Rattle.cfs_medium.proofs.Has.{Has, contains-had, has-contained}
use Rattle.cfs_medium.proofs.Slots.{live-apart, live-stands, stands-live}
use Rattle.cfs_medium.proofs.Sorted.{at_least, by_gate-has, gates, has-by_gate, rises-by_gate}
use Rattle.cfs_home.specs.Disks.{File, IsOnce, shut}
use Rattle.cfs_home.proofs.Slots.{shut-leaves, shut-once}
use Rattle.cfs_replay.specs.declared.pending.Pending.{Pending}
use Rattle.cfs_replay.specs.Entries.{AreInOrder, file_of}
use Rattle.cfs_replay.specs.Listed.{AreByGate, IsEntry}
use Rattle.cfs_replay.specs.Listed.{ListedEntriesAreInOrder, gate_in}

some-same : {X : Type 0} → {x y : X} → Some x ≡ Some y → x ≡ y
some-same same = cc

-- ---- one slot

-- a live entry is of the inode that its slot tells, and has its gate
live-tells : (ino : ℕ) (words : List ℕ) (tails : List (List ℕ)) (live : ℕ × Request) →
    live_entry ino words tails ≡ Some live → (ino_of words ≡ ino) × (live.0 ≡ gate_of words)
live-tells ino words tails live here = test (is_live ino words) refl
  where
    shown : (b : Bool) → is_live ino words ≡ b →
        live_entry ino words tails
        ≡ (if b then Some (gate_of words, request_of words tails) else None)
    shown b is =
        ap (λ (b : Bool). if b then Some (gate_of words, request_of words tails) else None) is

    test : (b : Bool) → is_live ino words ≡ b → (ino_of words ≡ ino) × (live.0 ≡ gate_of words)
    test true is = (
      same_number (ino_of words) ino (both _ _ is).1,
      ap (λ (e : ℕ × Request). e.0) (some-same (sym here ∙ shown true is)),
    )
    test false is = let none = shown false is in cc

one-ino : (first second : ℕ) (slots : List (List ℕ)) (at : ℕ) (a b : ℕ × Request) →
    entry_at first slots at ≡ Some a → entry_at second slots at ≡ Some b → first ≡ second
one-ino first second slots at a b here there =
    sym (live-tells first (get_or slots at []) (tails_at slots at) a here).0
    ∙ (live-tells second (get_or slots at []) (tails_at slots at) b there).0

-- ---- a slot is shut

pub still-stands : (ino at : ℕ) (slots : List (List ℕ)) (other : ℕ) → other ≢ at →
    entry_at ino (shut at slots) other ≡ entry_at ino slots other
still-stands ino at slots other differs =
    let test : (other == at) ≡ false = grind (arith, nat_tests) in
    shut-leaves ino at slots other
    ∙ ap (λ (b : Bool). if b then None else entry_at ino slots other) test

stood : (ino at : ℕ) (slots : List (List ℕ)) (other : ℕ) (live : ℕ × Request) →
    entry_at ino (shut at slots) other ≡ Some live →
    (other ≢ at) × (entry_at ino slots other ≡ Some live)
stood ino at slots other live stands = elim (same_or_not other at) [
  | inl same ↦
      let test : (other == at) ≡ true = grind (arith, nat_tests) in
      let none : entry_at ino (shut at slots) other ≡ None =
      shut-leaves ino at slots other
      ∙ ap (λ (b : Bool). if b then None else entry_at ino slots other) test in
      absurd (cc)
  | inr differs ↦ (differs, sym (still-stands ino at slots other differs) ∙ stands)
]

-- ---- the lowest one

none-sorted : (xs : List (ℕ × Request)) → ((e : ℕ × Request) → Has xs e → ⊥) → xs ≡ []
none-sorted [] none = refl
none-sorted (x ∷ xs) none = absurd (none x (inl refl))

lowest-first : (xs : List (ℕ × Request)) (live : ℕ × Request) → Rises 0 (gates xs) →
    Has xs live → ((e : ℕ × Request) → Has xs e → live.0 ≤ e.0) →
    (rest : List (ℕ × Request)) × (xs ≡ live ∷ rest)
lowest-first [] live rises has low = absurd has
lowest-first (x ∷ xs) live rises (inl same) low =
    (xs, ap (λ (e : ℕ × Request). e ∷ xs) (sym same))
lowest-first (x ∷ xs) live rises (inr more) low =
    let under = low x (inl refl) in
    let above = at_least (x.0 + 1) xs live rises.1 more in
    absurd (omega (arith, under, above))

-- ---- the list, by the gates of the slots as they were at first

record IsTold (files : List File) (slots : List (List ℕ)) (blocks : List Content) (gate : ℕ)
    (pending : Pending) : Type 0 where
  pub entry : IsEntry files slots blocks pending
  pub gated : entry.live.0 ≡ gate

abbrev AreTold : List File → List (List ℕ) → List Content → (Pending → ℕ) → List Pending → Type 0
AreTold files slots blocks gate entries =
    (pending : Pending) → Has entries pending →
    IsTold files slots blocks (gate pending) pending

abbrev Rising : (Pending → ℕ) → List Pending → Type 0
Rising gate [] = Unit {0}
Rising gate (pending ∷ rest) =
    ((other : Pending) → Has rest other → other.ino ≡ pending.ino → gate pending < gate other)
    × Rising gate rest

abbrev HasAll : List File → List (List ℕ) → List Pending → Type 0
HasAll files slots entries =
    (file : File) (at : ℕ) (live : ℕ × Request) → Contains files file →
    entry_at file.ino slots at ≡ Some live →
    (pending : Pending)
    × (Has entries pending × ((pending.ino ≡ file.ino) × (pending.slot ≡ at)))

in-order : (files : List File) (blocks : List Content) (gate : Pending → ℕ)
    (entries : List Pending) (slots : List (List ℕ)) →
    ((file : File) → Contains files file → IsOnce file.ino slots) →
    AreTold files slots blocks gate entries → HasAll files slots entries → Rising gate entries →
    AreInOrder files slots blocks entries
in-order files blocks gate [] slots once told all rising = λ file among.
    none-sorted (by_gate (live_in file.ino slots)) (λ e has.
    let stands = live-stands file.ino slots e (has-by_gate (live_in file.ino slots) e has) in
    absurd (all file stands.0 e among stands.1).1.0)
in-order files blocks gate (pending ∷ rest) slots once told all rising = (
  record {
    live = entry.live;
    rest = lowest.0;
    among = entry.among;
    here = entry.here;
    lowest = lowest.1;
    mapped = entry.mapped;
  },
  in-order files blocks gate rest (shut pending.slot slots)
      (λ file among. shut-once file.ino pending.slot slots (once file among)) told_later all_later
      rising.1,
)
  where
    first : IsTold files slots blocks (gate pending) pending
    first = told pending (inl refl)

    entry : IsEntry files slots blocks pending
    entry = first.entry

    -- another one of the file has a higher gate
    higher : (other : Pending) (e : ℕ × Request) → Has rest other → other.ino ≡ pending.ino →
        entry_at pending.ino slots other.slot ≡ Some e → entry.live.0 < e.0
    higher other e more own stands =
        let second = told other (inr more) in
        let there : entry_at pending.ino slots other.slot ≡ Some second.entry.live =
        subst (λ (ino : ℕ). entry_at ino slots other.slot ≡ Some second.entry.live) own
        second.entry.here in
        let same : second.entry.live.0 ≡ e.0 =
        ap (λ (x : ℕ × Request). x.0) (some-same (sym there ∙ stands)) in
        let above = rising.0 other more own in
        let low = first.gated in
        let high = second.gated in
        omega (arith, same, above, low, high)

    low : (e : ℕ × Request) → Has (by_gate (live_in pending.ino slots)) e → entry.live.0 ≤ e.0
    low e has =
        let stands =
        live-stands pending.ino slots e (has-by_gate (live_in pending.ino slots) e has) in
        let listed = all (file_of pending) stands.0 e entry.among stands.1 in
        let there : entry_at pending.ino slots listed.0.slot ≡ Some e =
        subst (λ (k : ℕ). entry_at pending.ino slots k ≡ Some e) (sym listed.1.1.1) stands.1 in
        elim listed.1.0 [
          | inl same ↦
              let here : entry_at pending.ino slots pending.slot ≡ Some e =
              subst (λ (p : Pending). entry_at pending.ino slots p.slot ≡ Some e) same there in
              let gate_is : entry.live.0 ≡ e.0 =
              ap (λ (x : ℕ × Request). x.0) (some-same (sym entry.here ∙ here)) in
              omega (arith, gate_is)
          | inr more ↦
              let above = higher listed.0 e more listed.1.1.0 there in omega (arith, above)
        ]

    lowest : (others : List (ℕ × Request))
        × (by_gate (live_in pending.ino slots) ≡ entry.live ∷ others)
    lowest = lowest-first (by_gate (live_in pending.ino slots)) entry.live
        (rises-by_gate (live_in pending.ino slots)
        (live-apart pending.ino slots (once (file_of pending) entry.among)))
        (by_gate-has (live_in pending.ino slots) entry.live
        (stands-live pending.ino slots pending.slot entry.live entry.here))
        low

    -- no later one stands in the same slot
    differs : (other : Pending) → Has rest other → other.slot ≢ pending.slot
    differs other more same =
        let second = told other (inr more) in
        let there : entry_at other.ino slots pending.slot ≡ Some second.entry.live =
        subst (λ (k : ℕ). entry_at other.ino slots k ≡ Some second.entry.live) same
        second.entry.here in
        let own =
        one-ino other.ino pending.ino slots pending.slot second.entry.live entry.live there
        entry.here in
        let here : entry_at pending.ino slots other.slot ≡ Some entry.live =
        subst (λ (k : ℕ). entry_at pending.ino slots k ≡ Some entry.live) (sym same) entry.here in
        let above = higher other entry.live more own here in
        omega (arith, above)

    told_later : AreTold files (shut pending.slot slots) blocks gate rest
    told_later other more =
        let second = told other (inr more) in
        record {
          entry = record {
            live = second.entry.live;
            among = second.entry.among;
            here =
                still-stands other.ino pending.slot slots other.slot (differs other more)
                ∙ second.entry.here;
            mapped = second.entry.mapped;
          };
          gated = second.gated;
        }

    all_later : HasAll files (shut pending.slot slots) rest
    all_later file at live among stands =
        let was = stood file.ino pending.slot slots at live stands in
        let listed = all file at live among was.1 in
        elim listed.1.0 [
          | inl same ↦
              absurd (was.0 (sym listed.1.1.1 ∙ ap (λ (p : Pending). p.slot) same))
          | inr more ↦ (listed.0, (more, listed.1.1))
        ]

-- ---- as it is stated

by-gate-rises : (slots : List (List ℕ)) (entries : List Pending) → AreByGate slots entries →
    Rising (gate_in slots) entries
by-gate-rises slots [] by = tt
by-gate-rises slots (pending ∷ rest) by = (
  λ other more own. by.0 other (contains-had rest other more) own,
  by-gate-rises slots rest by.1,
)

pub listed-in-order : ListedEntriesAreInOrder
listed-in-order files slots blocks entries once told all by =
    in-order files blocks (gate_in slots) entries slots once
    (λ pending has. let entry = told pending (contains-had entries pending has) in record {
      entry = entry;
      gated = (live-tells pending.ino (get_or slots pending.slot []) (tails_at slots pending.slot)
          entry.live entry.here).1;
    })
    (λ file at live among stands. let listed = all file at live among stands in
    (listed.0, (has-contained entries listed.0 listed.1.0, listed.1.1)))
    (by-gate-rises slots entries by)
