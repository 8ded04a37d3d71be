-- Every image recovers the file after the log, and then the request in doubt where its gate is
-- open.
use Rattle.std.proofs.Common.{◌≡◌, ◌⊎◌, inl, inr, ℕ, suc, zero, ◌+◌, ◌<◌, ◌≤◌, max, Bool, true, false, if◌then◌else◌, Option, Some, None, List, [], ◌∷◌, ◌++◌, length, take, filter, map, get_or, nat_lt, arith, refl, sym, ap, ◌∙◌, subst}
use Rattle.std.specs.List.{slice_get}
use Rattle.std.proofs.lemmas.Bool.{cases_lt, lt-ltb, ltb-true}
use Rattle.std.proofs.lemmas.List.{map-append, take_all}
use Rattle.std.proofs.lemmas.List.Elements.{filter-append}
use Rattle.cfs_file.specs.declared.entry.Entry.{Entry}
use Rattle.cfs_file.specs.declared.span.Span.{Span}
use Rattle.cfs_file.specs.declared.span.Span.TheVariants.{Nothing, Range, From}
use Rattle.cfs_file.specs.File.{effect}
use Rattle.cfs_file.specs.Log.{file_of}
use Rattle.cfs_file.specs.Span.{Holds, meets, span}
use Rattle.cfs_file.proofs.Logs.{file_of-append}
use Rattle.cfs_file.proofs.Spans.{meets-overlap, reaches_over-covers}
use Rattle.cfs_core.specs.declared.track.Track.{Track}
use Rattle.cfs_core.specs.declared.doubt.Doubt.{Doubt}
use Rattle.cfs_core.specs.declared.image.Image.{Image}
use Rattle.cfs_core.specs.declared.inode_core.Core.{Core}
use Rattle.cfs_core.specs.Words.{byte_at, is_live, is_off, payload, sized, track}
use Rattle.cfs_core.specs.Medium.{file, in_doubt, is_image, is_open, open_entries, placed, placed_doubt, placed_entry, recovered, stored}
use Rattle.cfs_core.specs.May.{is_change}
use Rattle.cfs_core.proofs.Apart.{AreApart, is_busy}
use Rattle.cfs_core.proofs.Images.{at-next, length-stored, live-opens, opens, opens-live, rests-read, size-allowed}
use Rattle.cfs_core.proofs.Kept.{Alters, IsChange, IsDoubtful, IsFree, IsKept, IsLast, IsLive, IsLogged, at, byte_of, decides, file_at, is_changing}
use Rattle.cfs_core.proofs.Legal.{or_right}
use Rattle.cfs_core.proofs.Registers.{IsFull, Settles, an-entry-at, change-effect, change-full, change-within, clash, file_at-all, file_at-last, find, find-decider, holds-or-not, longer-last, made, made-last, made-longer_last, made-longer_none, made-none, placed-effect, same-bits, settled, step, take-next, unsettled}

-- ---- spans

-- who has a later position decides whether the file has this one
holds-settles : (span : Span) (p q : ℕ) → p ≤ q → Holds span q → Settles span p
holds-settles Nothing p q up holds = absurd holds
holds-settles (Range from to) p q up holds =
    let test : nat_lt p to ≡ true = lt-ltb p to (omega arith) in (true, rw test refl)
holds-settles (From from) p q up holds = (nat_lt p from, refl)

settles-holds : (span : Span) (p : ℕ) → IsFull span → Settles span p →
    (q : ℕ) × ((p ≤ q) × Holds span q)
settles-holds Nothing p full settles = absurd full
settles-holds (Range from to) p full settles =
    let below : p < to = ltb-true p to (some_test (nat_lt p to) settles.0 settles.1) in
    let some : from < to = full in
    (max p from, (omega arith, (omega arith, omega arith)))
  where
    some_test : (test b : Bool) → (if test then Some true else None) ≡ Some b → test ≡ true
    some_test true b is = refl
    some_test false b is = cc
settles-holds (From from) p full settles = (max p from, (omega arith, omega arith))

-- two that decide it agree, or have a position in common from there on
differ : (a b : Span) (p : ℕ) (x y : Bool) → decides p a ≡ Some x → decides p b ≡ Some y →
    IsFull a → IsFull b → (x ≡ y) ⊎ ((q : ℕ) × ((p ≤ q) × (Holds a q × Holds b q)))
differ a b p true true first second full other = inl refl
differ a b p true false first second full other = inr (clash a b p first second full)
differ a b p false true first second full other =
    let c = clash b a p second first other in inr (c.0, (c.1.0, (c.1.1.1, c.1.1.0)))
differ a b p false false first second full other = inl refl

-- an entry that leaves the size as it is
pub left_zero : (span : Span) (bytes : List ℕ) (s p : ℕ) → sized s span ≡ s → Holds span p → s ≤ p →
    byte_at bytes span p ≡ 0
left_zero Nothing bytes s p same holds past = absurd holds
left_zero (Range from to) bytes s p same holds past = absurd (omega arith)
left_zero (From from) bytes s p same holds past = refl

left_long : (span : Span) (s p : ℕ) (b : Bool) → sized s span ≡ s → decides p span ≡ Some b →
    nat_lt p s ≡ b
left_long Nothing s p b same way = cc
left_long (Range from to) s p b same way = by (nat_lt p to) refl way
  where
    by : (test : Bool) → nat_lt p to ≡ test → (if test then Some true else None) ≡ Some b →
        nat_lt p s ≡ b
    by true is some =
        let below : p < to = ltb-true p to is in
        let on : b ≡ true = cc in
        lt-ltb p s (omega arith) ∙ sym on
    by false is some = cc
left_long (From from) s p b same way =
    let own : nat_lt p from ≡ b = cc in
    rw same at own

-- ---- live entries

pub live-or-not : (core : Core) (k : ℕ) → IsLive core k ⊎ (IsLive core k → ⊥)
live-or-not core k = test (is_live (at core k).state) refl
  where
    test : (b : Bool) → is_live (at core k).state ≡ b → IsLive core k ⊎ (IsLive core k → ⊥)
    test true is = inl is
    test false is = inr (λ live. cc)

pub both-or-not : {A B : Type 0} → A ⊎ (A → ⊥) → B ⊎ (B → ⊥) → (A × B) ⊎ ((A × B) → ⊥)
both-or-not (inl a) (inl b) = inl (a, b)
both-or-not (inl a) (inr out) = inr (λ h. out h.1)
both-or-not (inr out) b = inr (λ h. out h.0)

is-or-not : (b : Bool) → (b ≡ true) ⊎ ((b ≡ true) → ⊥)
is-or-not true = inl refl
is-or-not false = inr (λ h. cc)

pub live-within : (core : Core) → IsLogged core → (k : ℕ) → IsLive core k → k < length core.log
live-within core logged k live = change-within core k (logged.live_changes k live)

busy_applied : (t : Track) → t.applied ≡ true → is_busy t ≡ true
busy_applied t is = rw is (or_right _ true refl)

-- an applied entry shares no position with an earlier live one
apart-holds : (core : Core) → AreApart core → (i j p : ℕ) → i < j → IsLive core i →
    (at core j).applied ≡ true → Holds (at core i).span p → Holds (at core j).span p → ⊥
apart-holds core apart i j p less live applied first second =
    let none : meets (at core i).span (at core j).span ≡ false =
    apart i j less live (busy_applied (at core j) applied) in
    let some : meets (at core i).span (at core j).span ≡ true =
    (meets-overlap (at core i).span (at core j).span).1 (p, (first, second)) in
    cc

-- the last entry with a position of a live one
pub last-live : (core : Core) → IsKept core → (i p : ℕ) → IsLive core i → Holds (at core i).span p →
    (m : ℕ) × (IsLive core m × IsLast core (length core.log) p m)
last-live core kept i p live holds =
    kept.logged.order (length core.log) i p (inl refl) (live-within core kept.logged i live) live
    (kept.logged.live_changes i live, holds)

-- where a mark may be set, a later entry has each position
covered-later : (core : Core) → IsLogged core → (k p : ℕ) → is_off (at core k).mark ≡ false →
    Holds (at core k).span p →
    (by : ℕ) × ((k < by) × ((by < length core.log) × Alters core by p))
covered-later core logged k p marked holds =
    let by = logged.covered k marked in (
      by.0,
      (
        by.1.0,
        (
          change-within core by.0 by.1.1.0,
          (by.1.1.0, (reaches_over-covers (at core by.0).span (at core k).span).0 by.1.1.1 p holds),
        ),
      ),
    )

-- the log's part of the recovered file
abbrev pub found : Core → Image → List ℕ
found core image = made core (opens image) (stored image) (length core.log)

-- ---- bytes

-- the last entry with a position, if live and not applied, is open in every image
pub last-opens : (core : Core) → IsKept core → (image : Image) → is_image core image ≡ true →
    (p m : ℕ) → IsLive core m → IsLast core (length core.log) p m →
    (at core m).applied ≡ false → opens image m ≡ true
last-opens core kept image h p m live last idle = test (is_off (at core m).mark) refl
  where
    test : (b : Bool) → is_off (at core m).mark ≡ b → opens image m ≡ true
    test true unmarked = live-opens core image kept.sound h m live idle unmarked
    test false marked =
        let by = covered-later core kept.logged m p marked last.1.1 in
        absurd (last.2 by.0 by.1.0 by.1.1.0 by.1.1.1)

found-byte_live : (core : Core) → IsKept core → (image : Image) → is_image core image ≡ true →
    (p m : ℕ) → IsLive core m → IsLast core (length core.log) p m →
    get_or (found core image) p 0 ≡ byte_of core m p
found-byte_live core kept image h p m live last = test (at core m).applied refl
  where
    open_live : (k : ℕ) → opens image k ≡ true → IsLive core k
    open_live k opened = opens-live core image kept.sound h k opened

    open_change : (k : ℕ) → opens image k ≡ true → IsChange core k
    open_change k opened = kept.logged.live_changes k (open_live k opened)

    behind : (j : ℕ) → m < j → j < length core.log → opens image j ≡ true →
        Holds (at core j).span p → ⊥
    behind j low high opened holds = last.2 j low high (open_change j opened, holds)

    opened_byte : opens image m ≡ true → get_or (found core image) p 0 ≡ byte_of core m p
    opened_byte opened =
        made-last core kept.logged (opens image) open_change (stored image)
        (length core.log) p m last.0 opened last.1.1 behind

    has : (k : ℕ) →
        ((opens image k ≡ true) × Holds (at core k).span p)
        ⊎ (((opens image k ≡ true) × Holds (at core k).span p) → ⊥)
    has k = both-or-not (is-or-not (opens image k)) (holds-or-not (at core k).span p)

    test : (b : Bool) → (at core m).applied ≡ b → get_or (found core image) p 0 ≡ byte_of core m p
    test false idle = opened_byte (last-opens core kept image h p m live last idle)
    test true applied =
        elim (find (λ k. (opens image k ≡ true) × Holds (at core k).span p) has (length core.log)) [
          | inl some ↦ elim (cases_lt some.0 m) [
            | inl before ↦
                absurd (apart-holds core kept.apart some.0 m p before
                (open_live some.0 some.1.1.0.0) applied some.1.1.0.1 last.1.1)
            | inr up ↦ elim (cases_lt m some.0) [
              | inl later ↦ absurd (behind some.0 later some.1.0 some.1.1.0.0 some.1.1.0.1)
              | inr down ↦
                  let same : some.0 ≡ m = omega arith in
                  opened_byte (subst (λ (k : ℕ). opens image k ≡ true) same some.1.1.0.0)
            ]
          ]
          | inr none ↦
              made-none core kept.logged (opens image) open_change (stored image) (length core.log) p
              (λ j less opened holds. none j less (opened, holds))
              ∙ rests-read core image p (byte_of core m p) h
              (kept.stored_.applied_rests m p live applied last.1)
              (λ past. left_zero (at core m).span (payload (slice_get core.log m)) image.size p
              (kept.stored_.applied_size m image.size live applied (size-allowed core image h))
              last.1.1 past)
        ]

-- a position that no live entry has
pub stored-free : (core : Core) → IsKept core → (image : Image) → is_image core image ≡ true →
    (p : ℕ) → IsFree core (length core.log) p →
    get_or (stored image) p 0 ≡ get_or (file_at core (length core.log)) p 0
stored-free core kept image h p free =
    rests-read core image p (get_or (file_at core (length core.log)) p 0) h
    (kept.stored_.rests_free (length core.log) p (inl refl) free)
    (λ past. kept.stored_.zero_past (length core.log) image.size p (inl refl)
    (size-allowed core image h) past free)

found-byte : (core : Core) → IsKept core → (image : Image) → is_image core image ≡ true → (p : ℕ) →
    get_or (found core image) p 0 ≡ get_or (file_at core (length core.log)) p 0
found-byte core kept image h p =
    elim (find (λ k. IsLive core k × Holds (at core k).span p) has (length core.log)) [
      | inl some ↦
          let last = last-live core kept some.0 p some.1.1.0.0 some.1.1.0.1 in
          found-byte_live core kept image h p last.0 last.1.0 last.1.1
          ∙ sym (file_at-last core kept.logged kept.ordered (length core.log) p last.0
          (omega arith) last.1.1)
      | inr none ↦
          made-none core kept.logged (opens image)
          (λ k opened. kept.logged.live_changes k (opens-live core image kept.sound h k opened))
          (stored image) (length core.log) p
          (λ j less opened holds. none j less (opens-live core image kept.sound h j opened, holds))
          ∙ stored-free core kept image h p (λ i less live alters. none i less (live, alters.1))
    ]
  where
    has : (k : ℕ) →
        (IsLive core k × Holds (at core k).span p)
        ⊎ ((IsLive core k × Holds (at core k).span p) → ⊥)
    has k = both-or-not (live-or-not core k) (holds-or-not (at core k).span p)

-- ---- lengths

-- the last live entry that decides whether the file has the position
abbrev IsLastLive : Core → ℕ → ℕ → Bool → Type 0
IsLastLive core p l b =
    IsLive core l × (decides p (at core l).span ≡ Some b)
    × ((j : ℕ) → l < j → IsLive core j → Settles (at core j).span p → ⊥)

-- no later entry has a position of it from there on
no-later : (core : Core) → IsKept core → (p l : ℕ) (b : Bool) → IsLastLive core p l b → (q j : ℕ) →
    p ≤ q → Holds (at core l).span q → l < j → j < length core.log → Alters core j q → ⊥
no-later core kept p l b last q j up holds less within alters =
    let m = last-live core kept l q last.0 holds in
    elim (cases_lt m.0 j) [
      | inl before ↦ m.1.1.2 j before within alters
      | inr later ↦
          last.2 m.0 (omega arith) m.1.0 (holds-settles (at core m.0).span p q up m.1.1.1.1)
    ]

file-longer : (core : Core) → IsKept core → (p l : ℕ) (b : Bool) → IsLastLive core p l b →
    nat_lt p (length (file_at core (length core.log))) ≡ b
file-longer core kept p l b last = elim (find-decider core (length core.log) p) [
  | inl some ↦
      let longer =
      longer-last core kept.logged kept.ordered (length core.log) p some.0 some.1.0
      (omega arith) some.1.1 in
      elim (cases_lt some.0 l) [
        | inl before ↦
            absurd (none-some (decides p (at core l).span) b
            (some.1.1.3 l before (live-within core kept.logged l last.0)
            (kept.logged.live_changes l last.0)) last.1)
        | inr up ↦ elim (cases_lt l some.0) [
          | inl later ↦
              elim (differ (at core some.0).span (at core l).span p some.1.0 b some.1.1.2 last.1
              (change-full core kept.logged some.0 some.1.1.1)
              (change-full core kept.logged l (kept.logged.live_changes l last.0))) [
                | inl same ↦ longer ∙ same
                | inr q ↦
                    absurd (no-later core kept p l b last q.0 some.0 q.1.0 q.1.1.1 later some.1.1.0
                    (some.1.1.1, q.1.1.0))
              ]
          | inr down ↦
              let same : some.0 ≡ l = omega arith in
              let own : decides p (at core l).span ≡ Some some.1.0 =
              subst (λ (k : ℕ). decides p (at core k).span ≡ Some some.1.0) same some.1.1.2 in
              longer ∙ one_way (decides p (at core l).span) some.1.0 b own last.1
        ]
      ]
  | inr none ↦
      absurd (none-some (decides p (at core l).span) b
      (none l (live-within core kept.logged l last.0) (kept.logged.live_changes l last.0)) last.1)
]
  where
    none-some : (o : Option Bool) (x : Bool) → o ≡ None → o ≡ Some x → ⊥
    none-some o x first second = cc

    one_way : (o : Option Bool) (x y : Bool) → o ≡ Some x → o ≡ Some y → x ≡ y
    one_way o x y first second = cc

found-longer_live : (core : Core) → IsKept core → (image : Image) → is_image core image ≡ true →
    (p l : ℕ) (b : Bool) → IsLastLive core p l b →
    nat_lt p (length (found core image)) ≡ b
found-longer_live core kept image h p l b last =
    test (at core l).applied (is_off (at core l).mark) refl refl
  where
    open_live : (k : ℕ) → opens image k ≡ true → IsLive core k
    open_live k opened = opens-live core image kept.sound h k opened

    open_change : (k : ℕ) → opens image k ≡ true → IsChange core k
    open_change k opened = kept.logged.live_changes k (open_live k opened)

    full : IsFull (at core l).span
    full = change-full core kept.logged l (kept.logged.live_changes l last.0)

    opened_bit : opens image l ≡ true → nat_lt p (length (found core image)) ≡ b
    opened_bit opened =
        made-longer_last core kept.logged (opens image) open_change (stored image)
        (length core.log) p l b (live-within core kept.logged l last.0) opened last.1
        (λ j low high open_j settles. last.2 j low (open_live j open_j) settles)

    rules : (k : ℕ) →
        ((opens image k ≡ true) × Settles (at core k).span p)
        ⊎ (((opens image k ≡ true) × Settles (at core k).span p) → ⊥)
    rules k = both-or-not (is-or-not (opens image k)) (settled (decides p (at core k).span))

    applied_bit : (at core l).applied ≡ true → nat_lt p (length (found core image)) ≡ b
    applied_bit applied =
        elim (find (λ k. (opens image k ≡ true) × Settles (at core k).span p) rules
        (length core.log)) [
          | inl some ↦
              let bit =
              made-longer_last core kept.logged (opens image) open_change (stored image)
              (length core.log) p some.0 some.1.1.0.1.0 some.1.0 some.1.1.0.0 some.1.1.0.1.1
              (λ j low high open_j settles. some.1.1.1 j low high (open_j, settles)) in
              elim (cases_lt some.0 l) [
                | inl before ↦
                    elim (differ (at core some.0).span
                    (at core l).span p some.1.1.0.1.0 b some.1.1.0.1.1 last.1
                    (change-full core kept.logged some.0 (open_change some.0 some.1.1.0.0)) full) [
                      | inl same ↦ bit ∙ same
                      | inr q ↦
                          absurd (apart-holds core kept.apart some.0 l q.0 before
                          (open_live some.0 some.1.1.0.0) applied q.1.1.0 q.1.1.1)
                    ]
                | inr up ↦ elim (cases_lt l some.0) [
                  | inl later ↦
                      absurd (last.2 some.0 later (open_live some.0 some.1.1.0.0) some.1.1.0.1)
                  | inr down ↦
                      let same : some.0 ≡ l = omega arith in
                      opened_bit (subst (λ (k : ℕ). opens image k ≡ true) same some.1.1.0.0)
                ]
              ]
          | inr none ↦
              made-longer_none core kept.logged (opens image) open_change (stored image)
              (length core.log) p (λ j less opened settles. none j less (opened, settles))
              ∙ (ap (λ (n : ℕ). nat_lt p n) (length-stored image)
              ∙ left_long (at core l).span image.size p b
              (kept.stored_.applied_size l image.size last.0 applied (size-allowed core image h))
              last.1)
        ]

    test : (applied unmarked : Bool) → (at core l).applied ≡ applied →
        is_off (at core l).mark ≡ unmarked → nat_lt p (length (found core image)) ≡ b
    test true unmarked is mark = applied_bit is
    test false true is mark = opened_bit (live-opens core image kept.sound h l last.0 is mark)
    test false false is mark =
        let q = settles-holds (at core l).span p full (b, last.1) in
        let by = covered-later core kept.logged l q.0 mark q.1.1 in
        absurd (no-later core kept p l b last q.0 by.0 q.1.0 q.1.1 by.1.0 by.1.1.0 by.1.1.1)

found-longer : (core : Core) → IsKept core → (image : Image) → is_image core image ≡ true →
    (p : ℕ) →
    nat_lt p (length (found core image)) ≡ nat_lt p (length (file_at core (length core.log)))
found-longer core kept image h p =
    elim (find (λ k. IsLive core k × Settles (at core k).span p) rules (length core.log)) [
      | inl some ↦
          let last : IsLastLive core p some.0 some.1.1.0.1.0 = (
            some.1.1.0.0,
            some.1.1.0.1.1,
            λ j low live settles.
                some.1.1.1 j low (live-within core kept.logged j live) (live, settles),
          ) in
          found-longer_live core kept image h p some.0 some.1.1.0.1.0 last
          ∙ sym (file-longer core kept p some.0 some.1.1.0.1.0 last)
      | inr none ↦
          made-longer_none core kept.logged (opens image)
          (λ k opened. kept.logged.live_changes k (opens-live core image kept.sound h k opened))
          (stored image) (length core.log) p
          (λ j less opened settles. none j less (opens-live core image kept.sound h j opened, settles))
          ∙ (ap (λ (n : ℕ). nat_lt p n) (length-stored image)
          ∙ (kept.stored_.long image.size p (size-allowed core image h)
          (λ i live.
          unsettled (decides p (at core i).span)
          (λ settles. none i (live-within core kept.logged i live) (live, settles)))
          ∙ ap (λ (f : List ℕ). nat_lt p (length f)) (sym (file_at-all core))))
    ]
  where
    rules : (k : ℕ) →
        (IsLive core k × Settles (at core k).span p)
        ⊎ ((IsLive core k × Settles (at core k).span p) → ⊥)
    rules k = both-or-not (live-or-not core k) (settled (decides p (at core k).span))

pub found-file : (core : Core) → IsKept core → (image : Image) → is_image core image ≡ true →
    found core image ≡ file core
found-file core kept image h =
    same-bits (found core image) (file_at core (length core.log)) (found-byte core kept image h)
    (found-longer core kept image h) ∙ file_at-all core

-- ---- the recovered file

-- an entry as its slot holds it, where it is open
open-one : (core : Core) (image : Image) (k : ℕ) (entry : Entry) (size : ℕ) (f : List ℕ) →
    entry.place ≡ k + 1 → slice_get core.log k ≡ Some entry →
    (at core k).span ≡ span entry.request size →
    (opens image k ≡ true → is_change entry.request ≡ true) →
    file_of f (open_entries core.tracks image (entry ∷ []))
    ≡ (if opens image k then step core k f else f)
open-one core image k entry size f place is its change = test (opens image k) refl
  where
    its_track : track core.tracks entry.place ≡ at core k
    its_track = rw place (at-next core k)

    test : (b : Bool) → opens image k ≡ b →
        file_of f (open_entries core.tracks image (entry ∷ []))
        ≡ (if opens image k then step core k f else f)
    test true opened =
        let here : is_open image entry.place ≡ true = rw place opened in
        let left : file_of f (open_entries core.tracks image (entry ∷ []))
        ≡ effect f (placed (track core.tracks entry.place).span entry.request) = rw here refl in
        let does : effect f (placed (at core k).span entry.request) ≡ step core k f =
        rw (is, its) (placed-effect entry.request f size (change opened)) in
        let right : step core k f ≡ (if opens image k then step core k f else f) = rw opened refl in
        left ∙ (ap (λ (t : Track). effect f (placed t.span entry.request)) its_track
        ∙ (does ∙ right))
    test false closed =
        let here : is_open image entry.place ≡ false = rw place closed in
        let left : file_of f (open_entries core.tracks image (entry ∷ [])) ≡ f = rw here refl in
        let right : f ≡ (if opens image k then step core k f else f) = rw closed refl in
        left ∙ right

open-next : (tracks : List Track) (image : Image) (xs : List Entry) (entry : Entry) →
    open_entries tracks image (xs ++ entry ∷ []) ≡ open_entries tracks image xs
    ++ open_entries tracks image (entry ∷ [])
open-next tracks image xs entry =
    ap (map (λ (e : Entry). placed_entry (track tracks e.place).span e))
    (filter-append (λ (e : Entry). is_open image e.place) xs (entry ∷ []))
    ∙ map-append (λ (e : Entry). placed_entry (track tracks e.place).span e)
    (filter (λ e. is_open image e.place) xs) (filter (λ e. is_open image e.place) (entry ∷ []))

open-made : (core : Core) → IsKept core → (image : Image) → is_image core image ≡ true →
    (base : List ℕ) (v : ℕ) → v ≤ length core.log →
    file_of base (open_entries core.tracks image (take v core.log)) ≡ made core (opens image) base v
open-made core kept image h base zero within = refl
open-made core kept image h base (suc k) within =
    let entry = an-entry-at core.log k (omega arith) in
    let is : slice_get core.log k ≡ Some entry.0 = entry.1 in
    let old : file_of base (open_entries core.tracks image (take k core.log))
    ≡ made core (opens image) base k = open-made core kept image h base k (omega arith) in
    let one =
    open-one core image k entry.0 (length (file_at core k)) (made core (opens image) base k)
    (kept.legal.places k entry.0 is) is (kept.logged.spans k entry.0 is)
    (its_change entry.0 is) in
    let list : open_entries core.tracks image (take (suc k) core.log)
    ≡ open_entries core.tracks image (take k core.log)
    ++ open_entries core.tracks image (entry.0 ∷ []) =
    ap (open_entries core.tracks image) (take-next core.log k entry.0 is)
    ∙ open-next core.tracks image (take k core.log) entry.0 in
    ap (file_of base) list
    ∙ (file_of-append base (open_entries core.tracks image (take k core.log))
    (open_entries core.tracks image (entry.0 ∷ []))
    ∙ (ap (λ (f : List ℕ). file_of f (open_entries core.tracks image (entry.0 ∷ []))) old ∙ one))
  where
    its_change : (entry : Entry) → slice_get core.log k ≡ Some entry → opens image k ≡ true →
        is_change entry.request ≡ true
    its_change entry is opened =
        let change : is_changing (slice_get core.log k) ≡ true =
        kept.logged.live_changes k (opens-live core image kept.sound h k opened) in
        rw is at change

doubt-same : (core : Core) (o : Option Doubt) (gate : Bool) →
    ((doubt : Doubt) → o ≡ Some doubt → IsDoubtful core doubt) →
    file_of (file core) (placed_doubt o gate) ≡ file_of (file core) (in_doubt o gate)
doubt-same core None gate doubtful = refl
doubt-same core (Some doubt) false doubtful = refl
doubt-same core (Some doubt) true doubtful =
    let d = doubtful doubt refl in
    let its : doubt.span ≡ span doubt.entry.request (length (file core)) = d.span_is in
    let placed_so : effect (file core)
    (placed (span doubt.entry.request (length (file core))) doubt.entry.request)
    ≡ effect (file core) doubt.entry.request =
    placed-effect doubt.entry.request (file core) (length (file core)) d.change
    ∙ sym (change-effect doubt.entry.request (file core) d.change) in
    ap (λ (s : Span). effect (file core) (placed s doubt.entry.request)) its ∙ placed_so

pub recovers : (core : Core) → IsKept core → (image : Image) → is_image core image ≡ true →
    recovered core image ≡ file_of core.base (core.log ++ in_doubt core.doubt image.doubt)
recovers core kept image h =
    let all : take (length core.log) core.log ≡ core.log =
    take_all (length core.log) core.log (omega arith) in
    let opened : file_of (stored image) (open_entries core.tracks image core.log)
    ≡ found core image =
    ap (λ (l : List Entry). file_of (stored image) (open_entries core.tracks image l)) (sym all)
    ∙ open-made core kept image h (stored image) (length core.log) (omega arith) in
    let whole : file_of (stored image) (open_entries core.tracks image core.log) ≡ file core =
    opened ∙ found-file core kept image h in
    file_of-append (stored image) (open_entries core.tracks image core.log)
    (placed_doubt core.doubt image.doubt)
    ∙ (ap (λ (f : List ℕ). file_of f (placed_doubt core.doubt image.doubt)) whole
    ∙ (doubt-same core core.doubt image.doubt kept.logged.doubtful
    ∙ sym (file_of-append core.base core.log (in_doubt core.doubt image.doubt))))
