-- What a walk has passed stands before what comes.
use Rattle.std.proofs.Common.{◌≡◌, ◌∙◌, ◌+◌, ◌<◌, ◌≤◌, ◌&&◌, ◌||◌, ap, arith, drop, false, get_or}
use Rattle.std.proofs.Common.{inl, inr, length, List, [], ◌∷◌, max, min, None, Option, Some, refl}
use Rattle.std.proofs.Common.{set, suc, sym, true, zero, ℕ, Bool}
use Rattle.std.specs.Prelude.{is_none, nat_lt, option_map}
use Rattle.std.specs.List.{find, list_any, position, position_or_len}
use Rattle.std.proofs.lemmas.Bool.{cases_Bool, cases_lt}
use Rattle.std.proofs.lemmas.Bool.Decides.{nat_tests}
use Rattle.std.proofs.lemmas.List.{drop_more}
use Rattle.std.proofs.lemmas.List.Folds.{list_any_at}
use Rattle.cfs_file.specs.declared.span.Span.{Span}
use Rattle.cfs_file.specs.declared.span.Span.TheVariants.{Nothing, Range, From}
use Rattle.cfs_file.specs.Span.{meets}
use Rattle.cfs_core.proofs.Legal.{both}
use Rattle.cfs_tracker.specs.declared.passed.Passed.{Passed}
use Rattle.cfs_tracker.specs.declared.pending.Pending.{Pending}
use Rattle.cfs_tracker.specs.declared.reading.Reading.{Reading}
use Rattle.cfs_tracker.specs.View.{TrackerView}
use Rattle.cfs_tracker.specs.Dispatch.{ahead, is_ahead, is_read_ahead, is_waiting_doing, lesser}
use Rattle.cfs_tracker.specs.Dispatch.{read_place, step_behind, step_of}
use Rattle.cfs_tracker.specs.Passed.{IsOf, has_stretch, is_before, is_joinable, joined}
use Rattle.cfs_tracker.specs.Reads.{is_live_doing, place_of}
use Rattle.cfs_tracker.specs.Work.{takes_now}

-- ---- tests

less-test : (u v : ℕ) → u < v → nat_lt u v ≡ true
less-test u v less = grind (arith, nat_tests)

test-less : (u v : ℕ) → nat_lt u v ≡ true → u < v
test-less u v h = grind (arith, nat_tests)

or-right : (a b : Bool) → b ≡ true → (a || b) ≡ true
or-right true b h = refl
or-right false b h = h

either : (x y u v : ℕ) → (y ≤ x → u < v) → (nat_lt x y || nat_lt u v) ≡ true
either x y u v h = elim (cases_lt x y) [
  | inl less ↦ (let is : nat_lt x y ≡ true = less-test x y less in rw is refl)
  | inr le ↦ or-right (nat_lt x y) (nat_lt u v) (less-test u v (h le))
]

-- ---- stretches are joined

-- what overlaps two that are joined overlaps one of them
joined-of : (one other span : Span) → is_joinable one other ≡ true →
    meets (joined one other) span ≡ true → (meets one span || meets other span) ≡ true
joined-of Nothing other span join h = h
joined-of (Range from to) Nothing span join h = cc
joined-of (Range from to) (Range start end) Nothing join h = cc
joined-of (Range from to) (Range start end) (Range low high) join h =
    let apart = test-less (max from start) (min to end) join in
    let hit = test-less (max (min from start) low) (min (max to end) high) h in
    either (max from low) (min to high) (max start low) (min end high)
    (λ le. omega (arith, apart, hit, le))
joined-of (Range from to) (Range start end) (From low) join h =
    let apart = test-less (max from start) (min to end) join in
    let hit = test-less (max (min from start) low) (max to end) h in
    either (max from low) to (max start low) end (λ le. omega (arith, apart, hit, le))
joined-of (Range from to) (From start) Nothing join h = cc
joined-of (Range from to) (From start) (Range low high) join h =
    let apart = test-less (max from start) to join in
    let hit = test-less (max low (min from start)) high h in
    either (max from low) (min to high) (max low start) high
    (λ le. omega (arith, apart, hit, le))
joined-of (Range from to) (From start) (From low) join h =
    or-right (nat_lt (max from low) to) true refl
joined-of (From from) Nothing span join h = cc
joined-of (From from) (Range start end) Nothing join h = cc
joined-of (From from) (Range start end) (Range low high) join h =
    let apart = test-less (max start from) end join in
    let hit = test-less (max low (min from start)) high h in
    either (max low from) high (max start low) (min end high)
    (λ le. omega (arith, apart, hit, le))
joined-of (From from) (Range start end) (From low) join h = refl
joined-of (From from) (From start) Nothing join h = cc
joined-of (From from) (From start) (Range low high) join h =
    let hit = test-less (max low (min from start)) high h in
    either (max low from) high (max low start) high (λ le. omega (arith, hit, le))
joined-of (From from) (From start) (From low) join h = refl

any-joined : (stretches : List Span) (at : ℕ) (added span d : Span) → at < length stretches →
    is_joinable (get_or stretches at d) added ≡ true →
    has_stretch (set stretches at (joined (get_or stretches at d) added)) span ≡ true →
    (has_stretch stretches span || meets added span) ≡ true
any-joined [] at added span d less join h = absurd (omega arith)
any-joined (s ∷ ss) zero added span d less join h =
    elim (cases_Bool (meets (joined s added) span)) [
      | inl is ↦
          (elim (cases_Bool (meets s span)) [
            | inl own ↦ rw own refl
            | inr other ↦
                let one : (meets s span || meets added span) ≡ true =
                joined-of s added span join is in
                let it : (meets s span || meets added span) ≡ meets added span = rw other refl in
                or-right (has_stretch (s ∷ ss) span) (meets added span) (sym it ∙ one)
          ])
      | inr none ↦
          let it : has_stretch (joined s added ∷ ss) span ≡ has_stretch ss span = rw none refl in
          let rest : has_stretch ss span ≡ true = sym it ∙ h in
          (elim (cases_Bool (meets s span)) [
            | inl own ↦ rw own refl
            | inr other ↦ rw (other, rest) refl
          ])
    ]
any-joined (s ∷ ss) (suc at) added span d less join h = elim (cases_Bool (meets s span)) [
  | inl own ↦ rw own refl
  | inr other ↦
      let it : has_stretch (s ∷ set ss at (joined (get_or ss at d) added)) span
      ≡ has_stretch (set ss at (joined (get_or ss at d) added)) span = rw other refl in
      rw other (any-joined ss at added span d (omega arith) join (sym it ∙ h))
]

-- ---- the first that passes a test

passes-at : {X : Type 0} (test : X → Bool) (xs : List X) (d : X) (at : ℕ) →
    at ≡ position_or_len test xs → at < length xs → test (get_or xs at d) ≡ true
passes-at test [] d at same less = absurd (omega arith)
passes-at test (x ∷ xs) d zero same less = elim (cases_Bool (test x)) [
  | inl own ↦ own
  | inr other ↦
      let here : position_or_len test (x ∷ xs) ≡ 1 + position_or_len test xs = rw other refl in
      absurd (omega arith)
]
passes-at test (x ∷ xs) d (suc at) same less = elim (cases_Bool (test x)) [
  | inl own ↦
      let here : position_or_len test (x ∷ xs) ≡ 0 = rw own refl in
      absurd (omega arith)
  | inr other ↦
      let here : position_or_len test (x ∷ xs) ≡ 1 + position_or_len test xs = rw other refl in
      passes-at test xs d at (omega arith) (omega arith)
]

-- a stretch is added where the first stands that it may be joined with
pub added-at : (stretches : List Span) (at : ℕ) (added span d : Span) →
    position (λ s. is_joinable s added) stretches ≡ Some at →
    has_stretch (set stretches at (joined (get_or stretches at d) added)) span ≡ true →
    (has_stretch stretches span || meets added span) ≡ true
added-at stretches at added span d found h =
    let test : Span → Bool = λ s. is_joinable s added in
    let there : (at < length stretches) × (at ≡ position_or_len test stretches) =
    grind (arith, nat_tests) in
    any-joined stretches at added span d there.0 (passes-at test stretches d at there.1 there.0) h

-- ---- what is ahead

any-more : {X : Type 0} (test more : X → Bool) → ((x : X) → test x ≡ true → more x ≡ true) →
    (xs : List X) → list_any test xs ≡ true → list_any more xs ≡ true
any-more test more wide [] h = cc
any-more test more wide (x ∷ xs) h = elim (cases_Bool (test x)) [
  | inl is ↦ rw (wide x is) refl
  | inr none ↦
      let it : list_any test (x ∷ xs) ≡ list_any test xs = rw none refl in
      or-right (more x) (list_any more xs) (any-more test more wide xs (sym it ∙ h))
]

ahead-more : {S : Type 0} (low high : ℕ) (span : Span) (entry : Pending S) → low ≤ high →
    is_ahead low span entry ≡ true → is_ahead high span entry ≡ true
ahead-more low high span entry le h =
    let parts = both (nat_lt entry.place low) (is_live_doing entry.doing && meets entry.span span) h
    in
    let less = test-less entry.place low parts.0 in
    rw (less-test entry.place high (omega (arith, le, less)), parts.1) refl

-- The walk passes an entry: what was known is known yet, and the entry is ahead if it is live.
pub of-passed : {S : Type 0} (entries : List (Pending S)) (old new : Passed) (at : ℕ)
    (entry : Pending S) → at < length entries → entry ≡ get_or entries at entry →
    IsOf entries old → old.last ≤ new.last →
    (is_live_doing entry.doing ≡ true → entry.place ≤ new.last) →
    ((span : Span) → has_stretch new.stretches span ≡ true →
    (has_stretch old.stretches span || (is_live_doing entry.doing && meets entry.span span))
    ≡ true) →
    IsOf entries new
of-passed {S} entries old new at entry less same of rises last all = λ span h.
    elim (cases_Bool (has_stretch old.stretches span)) [
      | inl was ↦
          any-more (is_ahead (old.last + 1) span) (is_ahead (new.last + 1) span)
          (λ e. ahead-more (old.last + 1) (new.last + 1) span e (omega (arith, rises))) entries
          (of span was)
      | inr none ↦
          let it : (has_stretch old.stretches span
          || (is_live_doing entry.doing && meets entry.span span))
          ≡ (is_live_doing entry.doing && meets entry.span span) = rw none refl in
          let live = both (is_live_doing entry.doing) (meets entry.span span)
          (sym it ∙ all span h) in
          let low : entry.place ≤ new.last = last live.0 in
          let own : is_ahead (new.last + 1) span entry ≡ true =
          rw (less-test entry.place (new.last + 1) (omega (arith, low)), live.0, live.1) refl in
          list_any_at (is_ahead (new.last + 1) span) entries at entry less
          (ap (is_ahead (new.last + 1) span) (sym same) ∙ own)
    ]

any-found : {X : Type 0} (test : X → Bool) (xs : List X) → list_any test xs ≡ true →
    is_none (find test xs) ≡ false
any-found test [] h = cc
any-found test (x ∷ xs) h = elim (cases_Bool (test x)) [
  | inl is ↦ rw is refl
  | inr none ↦
      let it : list_any test (x ∷ xs) ≡ list_any test xs = rw none refl in
      rw none (any-found test xs (sym it ∙ h))
]

lesser-found : {S : Type 0} (one : Option (Pending S)) (other : Option ℕ) →
    is_none one ≡ false → is_none (lesser (place_of one) other) ≡ false
lesser-found None other h = cc
lesser-found (Some entry) None h = refl
lesser-found (Some entry) (Some place) h = refl

stuck-behind : {S D B : Type 0} (view : TrackerView S D B) (entry : Pending S)
    (blocked : Option ℕ) → is_none blocked ≡ false →
    takes_now (step_behind view entry blocked) ≡ false
stuck-behind view entry None h = cc
stuck-behind view entry (Some place) h = refl

-- no job may take an entry that a stretch stands before
pub stuck : {S D B : Type 0} (view : TrackerView S D B) (passed : Passed) (entry : Pending S) →
    IsOf view.entries passed → is_before passed entry ≡ true →
    takes_now (step_of view (Some entry)) ≡ false
stuck view passed entry of before =
    let parts = both (nat_lt passed.last entry.place) (has_stretch passed.stretches entry.span)
    before in
    let less = test-less passed.last entry.place parts.0 in
    let any = any-more (is_ahead (passed.last + 1) entry.span) (is_ahead entry.place entry.span)
    (λ e. ahead-more (passed.last + 1) entry.place entry.span e (omega (arith, less))) view.entries
    (of entry.span parts.1) in
    let found : is_none (ahead view entry) ≡ false =
    lesser-found (find (is_ahead entry.place entry.span) view.entries)
    (read_place (find (is_read_ahead entry.place entry.span) view.reads))
    (any-found (is_ahead entry.place entry.span) view.entries any) in
    elim (cases_Bool (is_waiting_doing entry.doing)) [
      | inl waits ↦ rw waits (stuck-behind view entry (ahead view entry) found)
      | inr other ↦ rw other refl
    ]

-- ---- a search, element by element

pub looks-on : {X : Type 0} (test : X → Bool) (xs : List X) (i : ℕ) (x : X) → i < length xs →
    x ≡ get_or xs i x → test x ≡ false → find test (drop i xs) ≡ find test (drop (i + 1) xs)
looks-on test xs i x less same none =
    let here : test (get_or xs i x) ≡ false = ap test (sym same) ∙ none in
    ap (find test) (drop_more xs i x less) ∙ rw here refl
