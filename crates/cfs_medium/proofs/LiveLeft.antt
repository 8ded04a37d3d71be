-- The live entries of what fits a core are those of its image, so its file is recovered.
use Rattle.std.proofs.Common.{◌≡◌, ◌⊎◌, inl, inr, ℕ, zero, suc, ◌+◌, ◌-◌, ◌<◌, ◌≤◌, ◌==◌, Bool, true, false, not, if◌then◌else◌, cond, Option, Some, None, List, [], ◌∷◌, ◌++◌, length, map, filter, drop, slice_get, arith, refl, sym, ap, subst, ◌∙◌}
use Rattle.std.specs.Option.{option_map}
use Rattle.std.specs.List.{filter_map, range_with_len}
use Rattle.std.proofs.lemmas.Bool.Decides.{nat_tests}
use Rattle.std.proofs.lemmas.List.FromFn.{get_or-map-range_with_len}
use Rattle.std.proofs.lemmas.Option.{slice_get_within}
use Rattle.cfs_file.specs.declared.entry.Entry.{Entry}
use Rattle.cfs_file.specs.declared.request.Request.{Request}
use Rattle.cfs_core.specs.declared.doubt.Doubt.{Doubt}
use Rattle.cfs_core.specs.declared.flag.Flag.TheVariants.{Off}
use Rattle.cfs_core.specs.declared.image.Image.{Image}
use Rattle.cfs_core.specs.declared.inode_core.Core.{Core}
use Rattle.cfs_core.specs.Good.{IsGood}
use Rattle.cfs_core.specs.Medium.{bit_at, is_open, live_entries, open_entries, placed, placed_doubt, placed_entry, stored}
use Rattle.cfs_core.specs.Words.{can_be, track}
use Rattle.cfs_core.proofs.Legal.{both, same_number}
use Rattle.cfs_slot.specs.Words.{gate_of, ino_of, is_live, live_entry, mark_of, request_of}
use Rattle.cfs_medium.specs.Depicts.{entries_of}
use Rattle.cfs_medium.specs.Laws.{FittingRemainsRecover, ShownWorldsRecover}
use Rattle.cfs_medium.specs.Shows.{HasShape, RemainsFit, Shows, SlotFits, doubted, entry_of, holding, is_doubt_open, is_gated, logged_at}
use Rattle.cfs_medium.specs.Store.{taken_through}
use Rattle.cfs_medium.specs.World.{MayRemain, Remains, World, head_words, live_at, live_below}
use Rattle.cfs_medium.proofs.Has.{Has}
use Rattle.cfs_medium.proofs.Left.{AllFit, equal_test, gate_at, gate_left, is_doubted, left, left-is, mark_at}
use Rattle.cfs_medium.proofs.Recovered.{rises-entries, taken_through-entries}
use Rattle.cfs_medium.proofs.Slots.{among-apart, among-stands, stands-among}
use Rattle.cfs_medium.proofs.Sorted.{by_gate-rising}
use Rattle.cfs_medium.proofs.StoredLeft.{stored-left}

some_same : {X : Type 0} → {x y : X} → Some x ≡ Some y → x ≡ y
some_same same = cc

-- ---- lists

has-left : {X : Type 0} → (xs ys : List X) (x : X) → Has xs x → Has (xs ++ ys) x
has-left [] ys x h = absurd h
has-left (first ∷ xs) ys x h = elim h [
  | inl is ↦ inl is
  | inr more ↦ inr (has-left xs ys x more)
]

has-right : {X : Type 0} → (xs ys : List X) (x : X) → Has ys x → Has (xs ++ ys) x
has-right [] ys x h = h
has-right (first ∷ xs) ys x h = inr (has-right xs ys x h)

has-parts : {X : Type 0} → (xs ys : List X) (x : X) → Has (xs ++ ys) x → Has xs x ⊎ Has ys x
has-parts [] ys x h = inr h
has-parts (first ∷ xs) ys x h = elim h [
  | inl is ↦ inl (inl is)
  | inr more ↦ elim (has-parts xs ys x more) [
    | inl one ↦ inl (inr one)
    | inr other ↦ inr other
  ]
]

has-map : {X Y : Type 0} → (f : X → Y) (xs : List X) (x : X) → Has xs x → Has (map f xs) (f x)
has-map f [] x h = absurd h
has-map f (first ∷ xs) x h = elim h [
  | inl is ↦ inl (ap f is)
  | inr more ↦ inr (has-map f xs x more)
]

has-mapped : {X Y : Type 0} → (f : X → Y) (xs : List X) (y : Y) → Has (map f xs) y →
    (x : X) × (Has xs x × (y ≡ f x))
has-mapped f [] y h = absurd h
has-mapped f (first ∷ xs) y h = elim h [
  | inl is ↦ (first, (inl refl, is))
  | inr more ↦ let rest = has-mapped f xs y more in (rest.0, (inr rest.1.0, rest.1.1))
]

filter-has : {X : Type 0} → (test : X → Bool) (first : X) (xs : List X) (x : X) →
    (Has xs x → Has (filter test xs) x) → Has (first ∷ xs) x → test x ≡ true → (b : Bool) →
    test first ≡ b → Has (cond (test first) (first ∷ filter test xs) (filter test xs)) x
filter-has test first xs x rest (inl same) pass true is = rw is (inl same)
filter-has test first xs x rest (inr more) pass true is = rw is (inr (rest more))
filter-has test first xs x rest (inl same) pass false is =
    let no : test x ≡ false = ap test same ∙ is in
    cc
filter-has test first xs x rest (inr more) pass false is = rw is (rest more)

has-filter : {X : Type 0} → (test : X → Bool) (xs : List X) (x : X) → Has xs x → test x ≡ true →
    Has (filter test xs) x
has-filter test [] x h pass = absurd h
has-filter test (first ∷ xs) x h pass =
    filter-has test first xs x (λ more. has-filter test xs x more pass) h pass (test first) refl

filtered-has : {X : Type 0} → (test : X → Bool) (first : X) (xs : List X) (x : X) →
    (Has (filter test xs) x → Has xs x × (test x ≡ true)) → (b : Bool) → test first ≡ b →
    Has (cond (test first) (first ∷ filter test xs) (filter test xs)) x →
    Has (first ∷ xs) x × (test x ≡ true)
filtered-has test first xs x rest true is among =
    let own : Has (first ∷ filter test xs) x = rw is at among in
    elim own [
      | inl same ↦ (inl same, ap test same ∙ is)
      | inr more ↦ let found = rest more in (inr found.0, found.1)
    ]
filtered-has test first xs x rest false is among =
    let own : Has (filter test xs) x = rw is at among in
    let found = rest own in
    (inr found.0, found.1)

has-filtered : {X : Type 0} → (test : X → Bool) (xs : List X) (x : X) → Has (filter test xs) x →
    Has xs x × (test x ≡ true)
has-filtered test [] x h = absurd h
has-filtered test (first ∷ xs) x h =
    filtered-has test first xs x (has-filtered test xs x) (test first) refl h

slice-has : {X : Type 0} → (xs : List X) (k : ℕ) (x : X) → slice_get xs k ≡ Some x → Has xs x
slice-has [] k x is = cc
slice-has (first ∷ xs) zero x is = inl (cc)
slice-has (first ∷ xs) (suc k) x is = inr (slice-has xs k x is)

has-slice : {X : Type 0} → (xs : List X) (x : X) → Has xs x → (k : ℕ) × (slice_get xs k ≡ Some x)
has-slice [] x h = absurd h
has-slice (first ∷ xs) x h = elim h [
  | inl is ↦ (0, ap (λ (y : _). Some y) (sym is))
  | inr more ↦ let rest = has-slice xs x more in (suc rest.0, rest.1)
]

-- ---- the bits of the image

gate-bit : (ino : ℕ) (core : Core) (remains : Remains) (k : ℕ) → k < length core.tracks →
    bit_at (left ino core remains).gates (k + 1) ≡ gate_at core remains k
gate-bit ino core remains k within =
    let some : (k + 1 == 0) ≡ false = grind (arith, nat_tests) in
    let same : k + 1 - 1 ≡ k = omega arith in
    rw (some, same)
    (get_or-map-range_with_len (gate_at core remains) 0 (length core.tracks) k k false within
    (omega arith))

mark-bit : (ino : ℕ) (core : Core) (remains : Remains) (k : ℕ) → k < length core.tracks →
    bit_at (left ino core remains).marks (k + 1) ≡ mark_at core remains k
mark-bit ino core remains k within =
    let some : (k + 1 == 0) ≡ false = grind (arith, nat_tests) in
    let same : k + 1 - 1 ≡ k = omega arith in
    rw (some, same)
    (get_or-map-range_with_len (mark_at core remains) 0 (length core.tracks) k k false within
    (omega arith))

-- ---- live slots

-- what a live slot is: open, not marked, and the inode's
pub record IsLiveAs (ino : ℕ) (words : List ℕ) (tails : List (List ℕ)) (e : ℕ × Request) : Type 0 where
  pub gated : is_gated words ≡ true
  pub unmarked : (mark_of words == 1) ≡ false
  pub own : ino_of words ≡ ino
  pub is : e ≡ (gate_of words, request_of words tails)

not_not : (b : Bool) → not b ≡ true → b ≡ false
not_not true h = cc
not_not false h = refl

live-as : (ino : ℕ) (words : List ℕ) (tails : List (List ℕ)) (e : ℕ × Request) →
    live_entry ino words tails ≡ Some e → IsLiveAs ino words tails e
live-as ino words tails e here = test (is_live ino words) refl
  where
    test : (b : Bool) → is_live ino words ≡ b → IsLiveAs ino words tails e
    test true is =
        let parts = both _ _ is in
        let front = both _ _ parts.0 in
        let shown : live_entry ino words tails ≡ Some (gate_of words, request_of words tails) =
        ap (λ (b : Bool). if b then Some (gate_of words, request_of words tails) else None) is in
        record {
          gated = front.0;
          unmarked = not_not (mark_of words == 1) front.1;
          own = same_number (ino_of words) ino parts.1;
          is = cc;
        }
    test false is =
        let shown : live_entry ino words tails ≡ None =
        ap (λ (b : Bool). if b then Some (gate_of words, request_of words tails) else None) is in
        cc

as-live : (ino : ℕ) (words : List ℕ) (tails : List (List ℕ)) → is_gated words ≡ true →
    (mark_of words == 1) ≡ false → ino_of words ≡ ino →
    live_entry ino words tails ≡ Some (gate_of words, request_of words tails)
as-live ino words tails gated unmarked own =
    let same : (ino_of words == ino) ≡ true = rw own (equal_test ino) in
    let live : is_live ino words ≡ true = rw (gated, unmarked, same) refl in
    ap (λ (b : Bool). if b then Some (gate_of words, request_of words tails) else None) live

-- ---- what is left live is an entry of the image

abbrev pair_of : Entry → ℕ × Request
pair_of e = (e.place, e.request)

abbrev live_of : Core → Option Doubt → Bool → Image → List Entry
live_of core doubt bit image =
    open_entries core.tracks image core.log ++ placed_doubt doubt bit

-- the entry of a place, by its index
entry-index : (log : List Entry) (place : ℕ) (entry : Entry) → entry_of log place ≡ Some entry →
    (k : ℕ) × ((place ≡ k + 1) × (slice_get log k ≡ Some entry))
entry-index log place entry is = test (place == 0) refl
  where
    test : (b : Bool) → (place == 0) ≡ b →
        (k : ℕ) × ((place ≡ k + 1) × (slice_get log k ≡ Some entry))
    test true zero_ =
        let none : entry_of log place ≡ None =
        ap (λ (b : Bool). if b then None else slice_get log (place - 1)) zero_ in
        cc
    test false some =
        let shown : entry_of log place ≡ slice_get log (place - 1) =
        ap (λ (b : Bool). if b then None else slice_get log (place - 1)) some in
        (place - 1, (grind (arith, nat_tests), sym shown ∙ is))

abbrev request_at : Core → ℕ → Option Request
request_at core place =
    option_map (λ e. placed (track core.tracks place).span e.request) (entry_of core.log place)

-- the entry whose request is known at a place
known-entry : (core : Core) (place : ℕ) (r : Request) → request_at core place ≡ Some r →
    (entry : Entry) × ((entry_of core.log place ≡ Some entry)
    × (placed (track core.tracks place).span entry.request ≡ r))
known-entry core place r is = by (entry_of core.log place) refl
  where
    by : (o : Option Entry) → entry_of core.log place ≡ o →
        (entry : Entry) × ((entry_of core.log place ≡ Some entry)
        × (placed (track core.tracks place).span entry.request ≡ r))
    by None none =
        let shown : request_at core place ≡ None =
        ap (option_map (λ (e : Entry). placed (track core.tracks place).span e.request)) none in
        cc
    by (Some entry) some =
        let shown : request_at core place ≡ Some (placed (track core.tracks place).span entry.request) =
        ap (option_map (λ (e : Entry). placed (track core.tracks place).span e.request)) some in
        (entry, (some, cc))

logged-has : (ino : ℕ) (core : Core) (remains : Remains) (doubt : Option Doubt) (bit : Bool)
    (place : ℕ) (e : ℕ × Request) → IsGood core → length core.tracks ≡ length core.log →
    is_doubted core.doubt place ≡ false →
    SlotFits ino place (logged_at core.log (track core.tracks place) place) (remains.slots place) →
    IsLiveAs ino (head_words (remains.slots place)) (drop 1 (remains.slots place)) e →
    Has (map pair_of (live_of core doubt bit (left ino core remains))) e
logged-has ino core remains doubt bit place e good tracks alone fits live =
    subst (λ p. Has (map pair_of (live_of core doubt bit (left ino core remains))) p) (sym pair)
    (has-map pair_of (live_of core doubt bit (left ino core remains))
    (placed_entry (track core.tracks entry.place).span entry)
    (has-left (open_entries core.tracks (left ino core remains) core.log) (placed_doubt doubt bit)
    (placed_entry (track core.tracks entry.place).span entry)
    (has-map (λ (x : Entry). placed_entry (track core.tracks x.place).span x)
    (filter (λ x. is_open (left ino core remains) x.place) core.log) entry
    (has-filter (λ x. is_open (left ino core remains) x.place) core.log entry
    (slice-has core.log k entry here) opens))))
  where
    known : (entry : Entry) × ((entry_of core.log place ≡ Some entry)
        × (placed (track core.tracks place).span entry.request
        ≡ request_of (head_words (remains.slots place)) (drop 1 (remains.slots place))))
    known = known-entry core place _ (fits.request live.gated)

    entry : Entry
    entry = known.0

    index : (k : ℕ) × ((place ≡ k + 1) × (slice_get core.log k ≡ Some entry))
    index = entry-index core.log place entry known.1.0

    k : ℕ
    k = index.0

    here : slice_get core.log k ≡ Some entry
    here = index.1.1

    place_is : entry.place ≡ place
    place_is = good.legal.places k entry here ∙ sym index.1.0

    within : k < length core.tracks
    within = omega (arith, tracks, slice_get_within core.log k entry here)

    gate : gate_at core remains k ≡ true
    gate =
        let free : is_doubted core.doubt (k + 1) ≡ false =
        subst (λ n. is_doubted core.doubt n ≡ false) index.1.0 alone in
        let gated : is_gated (head_words (remains.slots (k + 1))) ≡ true =
        subst (λ n. is_gated (head_words (remains.slots n)) ≡ true) index.1.0 live.gated in
        rw (free, gated) refl

    mark : mark_at core remains k ≡ false
    mark =
        let free : is_doubted core.doubt (k + 1) ≡ false =
        subst (λ n. is_doubted core.doubt n ≡ false) index.1.0 alone in
        let gated : is_gated (head_words (remains.slots (k + 1))) ≡ true =
        subst (λ n. is_gated (head_words (remains.slots n)) ≡ true) index.1.0 live.gated in
        let unmarked : (mark_of (head_words (remains.slots (k + 1))) == 1) ≡ false =
        subst (λ n. (mark_of (head_words (remains.slots n)) == 1) ≡ false) index.1.0 live.unmarked in
        rw (free, gated, unmarked) refl

    opens : is_open (left ino core remains) entry.place ≡ true
    opens =
        let at : entry.place ≡ k + 1 = place_is ∙ index.1.0 in
        let gate_is : bit_at (left ino core remains).gates (k + 1) ≡ true =
        gate-bit ino core remains k within ∙ gate in
        let mark_is : bit_at (left ino core remains).marks (k + 1) ≡ false =
        mark-bit ino core remains k within ∙ mark in
        subst (λ n. is_open (left ino core remains) n ≡ true) (sym at) (rw (gate_is, mark_is) refl)

    pair : e ≡ pair_of (placed_entry (track core.tracks entry.place).span entry)
    pair =
        let number : gate_of (head_words (remains.slots place)) ≡ place = fits.number live.gated in
        let asked : placed (track core.tracks entry.place).span entry.request
        ≡ request_of (head_words (remains.slots place)) (drop 1 (remains.slots place)) =
        ap (λ (n : ℕ). placed (track core.tracks n).span entry.request) place_is ∙ known.1.1 in
        live.is ∙ (ap (λ (n : ℕ). (
          n,
          request_of (head_words (remains.slots place))
              (drop 1 (remains.slots place)),
        )) (number ∙ sym place_is)
        ∙ ap (λ (r : Request). (entry.place, r)) (sym asked))

doubted-has : (ino : ℕ) (core : Core) (remains : Remains) (image : Image) (d : Doubt)
    (e : ℕ × Request) →
    SlotFits ino d.entry.place (doubted d) (remains.slots d.entry.place) →
    IsLiveAs ino (head_words (remains.slots d.entry.place)) (drop 1 (remains.slots d.entry.place)) e →
    Has (map pair_of (live_of core (Some d) (is_doubt_open (Some d) remains) image)) e
doubted-has ino core remains image d e fits live =
    let asked : placed d.span d.entry.request
    ≡ request_of (head_words (remains.slots d.entry.place)) (drop 1 (remains.slots d.entry.place)) =
    some_same (fits.request live.gated) in
    let pair : e ≡ pair_of (placed_entry d.span d.entry) =
    live.is
    ∙ (ap (λ (n : ℕ). (
      n,
      request_of (head_words (remains.slots d.entry.place))
          (drop 1 (remains.slots d.entry.place)),
    )) (fits.number live.gated)
    ∙ ap (λ (r : Request). (d.entry.place, r)) (sym asked)) in
    let opened : placed_doubt (Some d) (is_doubt_open (Some d) remains)
    ≡ placed_entry d.span d.entry ∷ [] =
    ap (λ (b : Bool). placed_doubt (Some d) b) live.gated in
    subst (λ p. Has (map pair_of (live_of core (Some d) (is_doubt_open (Some d) remains) image)) p)
    (sym pair)
    (has-map pair_of (live_of core (Some d) (is_doubt_open (Some d) remains) image)
    (placed_entry d.span d.entry)
    (has-right (open_entries core.tracks image core.log)
    (placed_doubt (Some d) (is_doubt_open (Some d) remains)) (placed_entry d.span d.entry)
    (rw opened (inl refl))))

-- what is live at a place
into-by : (ino : ℕ) (core : Core) (remains : Remains) (doubt : Option Doubt) → core.doubt ≡ doubt →
    (place : ℕ) (e : ℕ × Request) → IsGood core → length core.tracks ≡ length core.log →
    SlotFits ino place (holding core doubt place) (remains.slots place) →
    live_at ino remains place ≡ Some e →
    Has (map pair_of (live_of core doubt (is_doubt_open doubt remains) (left ino core remains))) e
into-by ino core remains None same place e good tracks fits here =
    let alone : is_doubted core.doubt place ≡ false = ap (λ (o : Option Doubt). is_doubted o place) same in
    logged-has ino core remains None false place e good tracks alone fits
    (live-as ino (head_words (remains.slots place)) (drop 1 (remains.slots place)) e here)
into-by ino core remains (Some d) same place e good tracks fits here =
    test (d.entry.place == place) refl
  where
    live : IsLiveAs ino (head_words (remains.slots place)) (drop 1 (remains.slots place)) e
    live = live-as ino (head_words (remains.slots place)) (drop 1 (remains.slots place)) e here

    test : (b : Bool) → (d.entry.place == place) ≡ b →
        Has (map pair_of (live_of core (Some d) (is_doubt_open (Some d) remains)
        (left ino core remains))) e
    test true is =
        let at : place ≡ d.entry.place = sym (same_number d.entry.place place is) in
        let own : SlotFits ino place (doubted d) (remains.slots place) = rw is at fits in
        doubted-has ino core remains (left ino core remains) d e
        (subst (λ n. SlotFits ino n (doubted d) (remains.slots n)) at own)
        (subst (λ n. IsLiveAs ino (head_words (remains.slots n)) (drop 1 (remains.slots n)) e) at live)
    test false is =
        let own : SlotFits ino place (logged_at core.log (track core.tracks place) place)
        (remains.slots place) = rw is at fits in
        let alone : is_doubted core.doubt place ≡ false =
        ap (λ (o : Option Doubt). is_doubted o place) same ∙ is in
        logged-has ino core remains (Some d) (is_doubt_open (Some d) remains) place e good tracks alone
        own live

-- ---- what is live in the image is left live

fits-logged : (ino : ℕ) (core : Core) (doubt : Option Doubt) (place : ℕ) (slots : List (List ℕ)) →
    is_doubted doubt place ≡ false → SlotFits ino place (holding core doubt place) slots →
    SlotFits ino place (logged_at core.log (track core.tracks place) place) slots
fits-logged ino core None place slots alone fits = fits
fits-logged ino core (Some d) place slots alone fits = rw alone at fits

-- what the bits of an open entry tell
gate-tells : (doubt : Option Doubt) (slots : List (List ℕ)) (place : ℕ) →
    gate_left doubt slots place ≡ true →
    (is_doubted doubt place ≡ false) × (is_gated (head_words slots) ≡ true)
gate-tells doubt slots place bit = test (is_doubted doubt place) refl
  where
    test : (b : Bool) → is_doubted doubt place ≡ b →
        (is_doubted doubt place ≡ false) × (is_gated (head_words slots) ≡ true)
    test true is =
        let shown : gate_left doubt slots place ≡ false =
        ap (λ (b : Bool). if b then false else is_gated (head_words slots)) is in
        cc
    test false is =
        let shown : gate_left doubt slots place ≡ is_gated (head_words slots) =
        ap (λ (b : Bool). if b then false else is_gated (head_words slots)) is in
        (is, sym shown ∙ bit)

opened-live : (ino n : ℕ) (core : Core) (remains : Remains) (entry : Entry) → IsGood core →
    length core.tracks ≡ length core.log → length core.log + 2 ≤ n → AllFit ino core remains →
    Has core.log entry → is_open (left ino core remains) entry.place ≡ true →
    Has (filter_map (live_at ino remains) (range_with_len 0 n))
    (pair_of (placed_entry (track core.tracks entry.place).span entry))
opened-live ino n core remains entry good tracks room fit logged opens =
    stands-among (live_at ino remains) n 0 (k + 1) _ (omega arith)
    (omega (arith, room, tracks, within)) stands
  where
    slot : (k : ℕ) × (slice_get core.log k ≡ Some entry)
    slot = has-slice core.log entry logged

    k : ℕ
    k = slot.0

    within : k < length core.tracks
    within = omega (arith, tracks, slice_get_within core.log k entry slot.1)

    place_is : entry.place ≡ k + 1
    place_is = good.legal.places k entry slot.1

    bits : (bit_at (left ino core remains).gates (k + 1) ≡ true)
        × (not (bit_at (left ino core remains).marks (k + 1)) ≡ true)
    bits = both _ _ (subst (λ p. is_open (left ino core remains) p ≡ true) place_is opens)

    tells : (is_doubted core.doubt (k + 1) ≡ false)
        × (is_gated (head_words (remains.slots (k + 1))) ≡ true)
    tells = gate-tells core.doubt (remains.slots (k + 1)) (k + 1)
        (sym (gate-bit ino core remains k within) ∙ bits.0)

    unmarked : (mark_of (head_words (remains.slots (k + 1))) == 1) ≡ false
    unmarked =
        let bit : mark_at core remains k ≡ false =
        sym (mark-bit ino core remains k within)
        ∙ not_not (bit_at (left ino core remains).marks (k + 1)) bits.1 in
        let own : mark_at core remains k ≡ (mark_of (head_words (remains.slots (k + 1))) == 1) =
        rw (tells.0, tells.1) refl in
        sym own ∙ bit

    fits : SlotFits ino (k + 1) (logged_at core.log (track core.tracks (k + 1)) (k + 1))
        (remains.slots (k + 1))
    fits = fits-logged ino core core.doubt (k + 1) (remains.slots (k + 1)) tells.0 (fit (k + 1))

    some : (k + 1 == 0) ≡ false
    some = grind (arith, nat_tests)

    entry_is : entry_of core.log (k + 1) ≡ Some entry
    entry_is =
        let same : k + 1 - 1 ≡ k = omega arith in
        rw (some, same) slot.1

    asked : placed (track core.tracks (k + 1)).span entry.request
        ≡ request_of (head_words (remains.slots (k + 1))) (drop 1 (remains.slots (k + 1)))
    asked = some_same
        (sym (ap (option_map (λ (e : Entry). placed (track core.tracks (k + 1)).span e.request)) entry_is)
        ∙ fits.request tells.1)

    stands : live_at ino remains (k + 1)
        ≡ Some (pair_of (placed_entry (track core.tracks entry.place).span entry))
    stands =
        as-live ino (head_words (remains.slots (k + 1))) (drop 1 (remains.slots (k + 1))) tells.1
        unmarked (fits.file tells.1)
        ∙ (ap (λ (p : ℕ). Some (
          p,
          request_of (head_words (remains.slots (k + 1)))
              (drop 1 (remains.slots (k + 1))),
        )) (fits.number tells.1 ∙ sym place_is)
        ∙ ap (λ (r : Request). Some (entry.place, r)) (sym asked
        ∙ ap (λ (p : ℕ). placed (track core.tracks p).span entry.request) (sym place_is)))

doubt-live : (ino n : ℕ) (core : Core) (remains : Remains) (d : Doubt) → d.entry.place + 1 ≤ n →
    SlotFits ino d.entry.place (doubted d) (remains.slots d.entry.place) →
    is_gated (head_words (remains.slots d.entry.place)) ≡ true →
    Has (filter_map (live_at ino remains) (range_with_len 0 n))
    (pair_of (placed_entry d.span d.entry))
doubt-live ino n core remains d room fits gated =
    stands-among (live_at ino remains) n 0 d.entry.place _ (omega arith) (omega (arith, room)) stands
  where
    off_false : (b : Bool) → can_be Off b ≡ true → b ≡ false
    off_false true h = cc
    off_false false h = refl

    unmarked : (mark_of (head_words (remains.slots d.entry.place)) == 1) ≡ false
    unmarked = off_false (mark_of (head_words (remains.slots d.entry.place)) == 1) (fits.mark gated)

    stands : live_at ino remains d.entry.place ≡ Some (pair_of (placed_entry d.span d.entry))
    stands =
        as-live ino (head_words (remains.slots d.entry.place)) (drop 1 (remains.slots d.entry.place))
        gated unmarked (fits.file gated)
        ∙ (ap (λ (p : ℕ). Some (
          p,
          request_of (head_words (remains.slots d.entry.place))
              (drop 1 (remains.slots d.entry.place)),
        )) (fits.number gated)
        ∙ ap (λ (r : Request). Some (d.entry.place, r)) (sym (some_same (fits.request gated))))

-- the request in doubt, where its gate was left open
back-doubt : (ino n : ℕ) (core : Core) (remains : Remains) (doubt : Option Doubt) →
    ((d : Doubt) → doubt ≡ Some d → d.entry.place + 1 ≤ n) →
    ((place : ℕ) → SlotFits ino place (holding core doubt place) (remains.slots place)) →
    (x : Entry) → Has (placed_doubt doubt (is_doubt_open doubt remains)) x →
    Has (filter_map (live_at ino remains) (range_with_len 0 n)) (pair_of x)
back-doubt ino n core remains None room fit x h = absurd h
back-doubt ino n core remains (Some d) room fit x h =
    test (is_gated (head_words (remains.slots d.entry.place))) refl
  where
    test : (b : Bool) → is_gated (head_words (remains.slots d.entry.place)) ≡ b →
        Has (filter_map (live_at ino remains) (range_with_len 0 n)) (pair_of x)
    test true is =
        let own : Has (placed_entry d.span d.entry ∷ []) x = rw is at h in
        let fits : SlotFits ino d.entry.place (doubted d) (remains.slots d.entry.place) =
        rw (equal_test d.entry.place) at (fit d.entry.place) in
        elim own [
          | inl same ↦ rw same (doubt-live ino n core remains d (room d refl) fits is)
          | inr none ↦ absurd none
        ]
    test false is =
        let own : Has [] x = rw is at h in
        absurd own

-- ---- the whole

live-left : (ino n : ℕ) (core : Core) (remains : Remains) → IsGood core → HasShape core →
    RemainsFit ino core remains → length core.log + 2 ≤ n →
    live_below ino remains n ≡ entries_of core (left ino core remains)
live-left ino n core remains good shape fits room =
    by_gate-rising (filter_map (live_at ino remains) (range_with_len 0 n))
    (entries_of core (left ino core remains)) (among-apart (live_at ino remains) n 0 once)
    (rises-entries 0 (live_entries core (left ino core remains))
    (good.rises (left ino core remains) (left-is ino core remains shape fits))) into back
  where
    number : (place : ℕ) (e : ℕ × Request) → live_at ino remains place ≡ Some e → e.0 ≡ place
    number place e here =
        let live = live-as ino (head_words (remains.slots place)) (drop 1 (remains.slots place)) e here in
        ap (λ (p : ℕ × Request). p.0) live.is ∙ (fits.slots place).number live.gated

    once : (first second : ℕ) (x y : ℕ × Request) → live_at ino remains first ≡ Some x →
        live_at ino remains second ≡ Some y → x.0 ≡ y.0 → first ≡ second
    once first second x y one two same =
        sym (number first x one) ∙ (same ∙ number second y two)

    into : (e : ℕ × Request) → Has (filter_map (live_at ino remains) (range_with_len 0 n)) e →
        Has (entries_of core (left ino core remains)) e
    into e h =
        let at = among-stands (live_at ino remains) n 0 e h in
        into-by ino core remains core.doubt refl at.0 e good shape.tracks (fits.slots at.0) at.1.1

    doubt_room : (d : Doubt) → core.doubt ≡ Some d → d.entry.place + 1 ≤ n
    doubt_room d is = omega (arith, room, (shape.doubt d is).to)

    back : (e : ℕ × Request) → Has (entries_of core (left ino core remains)) e →
        Has (filter_map (live_at ino remains) (range_with_len 0 n)) e
    back e h =
        let own = has-mapped pair_of (live_entries core (left ino core remains)) e h in
        rw own.1.1 (elim (has-parts (open_entries core.tracks (left ino core remains) core.log)
        (placed_doubt core.doubt (is_doubt_open core.doubt remains)) own.0 own.1.0) [
          | inl opened ↦
              let found = has-mapped (λ (x : Entry). placed_entry (track core.tracks x.place).span x)
              (filter (λ x. is_open (left ino core remains) x.place) core.log) own.0 opened in
              let kept = has-filtered (λ (x : Entry). is_open (left ino core remains) x.place) core.log
              found.0 found.1.0 in
              rw found.1.1 (opened-live ino n core remains found.0 good shape.tracks room fits.slots kept.0 kept.1)
          | inr doubt ↦ back-doubt ino n core remains core.doubt doubt_room fits.slots own.0 doubt
        ])

pub fitting-recovers : FittingRemainsRecover
fitting-recovers ino n core remains good shape fits room =
    ap (λ (f : List ℕ). taken_through f (live_below ino remains n))
    (stored-left ino core remains shape fits)
    ∙ (ap (taken_through (stored (left ino core remains)))
    (live-left ino n core remains good shape fits room)
    ∙ (taken_through-entries (stored (left ino core remains))
    (live_entries core (left ino core remains))
    ∙ good.recovers (left ino core remains) (left-is ino core remains shape fits)))

pub shown-fits : (ino : ℕ) (core : Core) (world : World) (remains : Remains) → Shows ino core world →
    MayRemain world remains → RemainsFit ino core remains
shown-fits ino core world remains shows may = record {
  size = shows.sizes remains.size may.size;
  slots = λ place. shows.slots place (remains.slots place) (may.slots place);
  blocks = λ block within. (shows.blocks block within).images (remains.blocks block)
      (may.blocks block);
}

pub shown-recovers : ShownWorldsRecover
shown-recovers ino n core world good shows room remains may =
    fitting-recovers ino n core remains good shows.shape (shown-fits ino core world remains shows may)
    room
