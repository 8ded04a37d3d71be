-- An entry that comes home keeps what is stored: retired, its bytes stand for the file's wherever
-- it was the last live one; put back, it stays live.
use Rattle.std.proofs.Common.{◌≡◌, ◌⊎◌, inl, inr, ℕ, ◌+◌, ◌-◌, ◌/◌, ◌<◌, ◌≤◌, ◌==◌, Bool, true, false, ◌&&◌, ◌||◌, if◌then◌else◌, Option, Some, None, List, [], ◌∷◌, ◌++◌, length, get_or, set, max, min, arith, refl, sym, ◌∙◌, get_or-set_other, nat_lt}
use Rattle.std.specs.List.{list_any, slice_get}
use Rattle.std.proofs.lemmas.Bool.{cases_lt, lt-ltb, ltb-true}
use Rattle.std.proofs.lemmas.Bool.Decides.{nat_tests}
use Rattle.std.proofs.lemmas.Grind.{get_or-set_at}
use Rattle.std.proofs.lemmas.List.{get_or_past}
use Rattle.cfs_file.specs.declared.span.Span.{Span}
use Rattle.cfs_file.specs.declared.span.Span.TheVariants.{Nothing, Range, From}
use Rattle.cfs_file.specs.declared.sizes.TheConstants.{LONGEST_FILE}
use Rattle.cfs_file.specs.Span.{Holds, meets}
use Rattle.cfs_file.specs.declared.sizes.TheConstants.{BLOCK_LEN}
use Rattle.cfs_core.specs.declared.flag.Flag.{Flag}
use Rattle.cfs_core.specs.declared.flag.Flag.TheVariants.{Off, On, Unsure}
use Rattle.cfs_core.specs.declared.track.Track.{Track}
use Rattle.cfs_core.specs.declared.event.End.{End}
use Rattle.cfs_core.specs.declared.event.End.TheVariants as ends
use Rattle.cfs_core.specs.declared.event.SizeEnd.{SizeEnd}
use Rattle.cfs_core.specs.declared.event.SizeEnd.TheVariants as sizes
use Rattle.cfs_core.specs.declared.inode_core.Core.{Core}
use Rattle.cfs_core.specs.Words.{blank, byte_at, end_of, is_live, is_off, is_on, is_out, is_through, is_unserved, payload, sized, start_of, track}
use Rattle.cfs_core.specs.Medium.{file, is_loose, is_size, rests, rests_as, stands}
use Rattle.cfs_core.specs.May.{ends_well, is_mapped, is_size_set, keep_all, keeps_gate, keeps_size, may_finish, stands_at}
use Rattle.cfs_core.specs.After.{finished, put_back, retired, with_track}
use Rattle.cfs_core.proofs.Alive.{out_lives}
use Rattle.cfs_core.proofs.Apart.{is_busy, out_busy}
use Rattle.cfs_core.proofs.Kept.{Alters, IsChange, IsFree, IsKept, IsLast, IsLive, IsStored, IsView, at, byte_of, decides, file_at}
use Rattle.cfs_core.proofs.Legal.{both, or_right, same_number}
use Rattle.cfs_core.proofs.Order.{in_range, same_or_not, some_place, track_is}
use Rattle.cfs_core.proofs.Registers.{IsFull, alters-or-not, change-full, change-within, clash, file_at-all, file_at-last, find-decider, if_none, longer-last}
use Rattle.cfs_core.proofs.StoredFrames.{IsStill, IsTamer, StayLive, at_put, in_tracks, no_clash, now_size, only_size, or_cases, still_altered, still_alters, still_byte, still_free, still_none, still_view, tamer_same, tamer_still}
use Rattle.cfs_core.proofs.StoredQuiet.{stored_more}
use Rattle.cfs_core.proofs.StoredTags.{mapped_at}
use Rattle.cfs_core.proofs.StoredWrites.{applied_busy, not_free}

-- ---- the size that an entry leaves

sized_past : (size : ℕ) (of : Span) (p : ℕ) → sized size of ≤ p → (Holds of p → ⊥) → size ≤ p
sized_past size Nothing p past out = past
sized_past size (Range from to) p past out = omega arith
sized_past size (From from) p past out = absurd (out past)

sized_byte : (bytes : List ℕ) (of : Span) (size p : ℕ) → sized size of ≤ p → Holds of p →
    byte_at bytes of p ≡ 0
sized_byte bytes Nothing size p past holds = refl
sized_byte bytes (Range from to) size p past holds = absurd (omega arith)
sized_byte bytes (From from) size p past holds = refl

sized_kept : (size : ℕ) (of : Span) (p : ℕ) → decides p of ≡ None →
    nat_lt p (sized size of) ≡ nat_lt p size
sized_kept size Nothing p none = refl
sized_kept size (Range from to) p none = reach (if_none (nat_lt p to) none)
  where
    reach : nat_lt p to ≡ false → nat_lt p (max size to) ≡ nat_lt p size
    reach past = elim (cases_lt p size) [
      | inl less ↦ lt-ltb p (max size to) (omega arith) ∙ sym (lt-ltb p size less)
      | inr up ↦ grind (arith, nat_tests)
    ]
sized_kept size (From from) p none = cc

sized_set : (size : ℕ) (of : Span) (p : ℕ) (b : Bool) → decides p of ≡ Some b →
    nat_lt p (sized size of) ≡ b
sized_set size Nothing p b is = cc
sized_set size (Range from to) p b is = reach (nat_lt p to) refl is
  where
    reach : (test : Bool) → nat_lt p to ≡ test → (if test then Some true else None) ≡ Some b →
        nat_lt p (max size to) ≡ b
    reach true below own =
        let less : p < to = ltb-true p to below in
        let on : true ≡ b = cc in
        lt-ltb p (max size to) (omega arith) ∙ on
    reach false below own = cc
sized_set size (From from) p b is = cc

sized_twice : (size : ℕ) (of : Span) → sized (sized size of) of ≡ sized size of
sized_twice size Nothing = refl
sized_twice size (Range from to) = omega arith
sized_twice size (From from) = refl

not_below : (a b : ℕ) → nat_lt a b ≡ false → b ≤ a
not_below a b h = grind (arith, nat_tests)

-- a size that one entry leaves as it is, and another without a position in common sets
sized_both : (size : ℕ) (a b : Span) → IsFull a → IsFull b → meets a b ≡ false →
    sized size b ≡ size → sized (sized size a) b ≡ sized size a
sized_both size Nothing b full_a full_b none is = is
sized_both size (Range from to) Nothing full_a full_b none is = refl
sized_both size (Range from to) (Range start end) full_a full_b none is = omega arith
sized_both size (Range from to) (From n) full_a full_b none is =
    let up : to ≤ max from n = not_below (max from n) to none in
    let some : from < to = full_a in
    omega arith
sized_both size (From n) Nothing full_a full_b none is = refl
sized_both size (From n) (Range from to) full_a full_b none is =
    let up : to ≤ max from n = not_below (max from n) to none in
    let some : from < to = full_b in
    omega arith
sized_both size (From n) (From m) full_a full_b none is = cc

held_decides : (of : Span) (p q : ℕ) → p ≤ q → Holds of q → decides p of ≡ None → ⊥
held_decides Nothing p q up holds none = holds
held_decides (Range from to) p q up holds none =
    let below : nat_lt p to ≡ true = lt-ltb p to (omega arith) in
    no_clash (nat_lt p to) below (if_none (nat_lt p to) none)
held_decides (From from) p q up holds none = some_none (nat_lt p from) none
  where
    some_none : (b : Bool) → Some b ≡ None → ⊥
    some_none b is = cc

-- ---- the bytes of an entry that stand

mapped_or_zero : (tags : List Flag) (loose : Bool) (stands_there : ℕ) (bytes : List ℕ) (of : Span)
    (p : ℕ) → is_mapped tags of ≡ true → Holds of p →
    (is_off (get_or tags (p / BLOCK_LEN) Off)
    || rests_as (get_or tags (p / BLOCK_LEN) Off) loose stands_there (byte_at bytes of p))
    ≡ true →
    rests_as (get_or tags (p / BLOCK_LEN) Off) loose stands_there (byte_at bytes of p) ≡ true
mapped_or_zero tags loose stands_there bytes Nothing p mapped holds h = absurd holds
mapped_or_zero tags loose stands_there bytes (Range from to) p mapped holds h =
    pick (get_or tags (p / BLOCK_LEN) Off) (mapped_at tags from to p mapped holds.0 holds.1) h
  where
    pick : (tag : Flag) → is_on tag ≡ true →
        (is_off tag || rests_as tag loose stands_there (byte_at bytes (Range from to) p)) ≡ true →
        rests_as tag loose stands_there (byte_at bytes (Range from to) p) ≡ true
    pick Off on is = cc
    pick On on is = is
    pick Unsure on is = cc
mapped_or_zero tags loose stands_there bytes (From from) p mapped holds h =
    pick (get_or tags (p / BLOCK_LEN) Off) h
  where
    pick : (tag : Flag) → (is_off tag || rests_as tag loose stands_there 0) ≡ true →
        rests_as tag loose stands_there 0 ≡ true
    pick Off is = refl
    pick On is = is
    pick Unsure is = is

-- a position of a span lies among its positions, or behind the end of the longest file
held_place : (of : Span) (p : ℕ) → Holds of p →
    ((start_of of ≤ p) × (p < start_of of + (end_of of - start_of of)))
    ⊎ ((LONGEST_FILE ≤ p) × ((bytes : List ℕ) → byte_at bytes of p ≡ 0))
held_place Nothing p holds = absurd holds
held_place (Range from to) p holds = inl (holds.0, omega arith)
held_place (From from) p holds = elim (cases_lt p LONGEST_FILE) [
  | inl within ↦ inl (holds, omega arith)
  | inr past ↦ inr (past, λ bytes. refl)
]

stood : (core : Core) → IsKept core → (k p : ℕ) → IsLive core k →
    stands core (payload (slice_get core.log k)) (at core k).span ≡ true →
    Holds (at core k).span p →
    rests core p (byte_of core k p) ≡ true
stood core kept k p live h holds = elim (held_place (at core k).span p holds) [
  | inl there ↦
      mapped_or_zero core.tags (is_loose core.loose p) (get_or core.bytes p 0)
      (payload (slice_get core.log k)) (at core k).span p (kept.logged.mapped k live) holds
      (in_range (λ q. is_off (get_or core.tags (q / BLOCK_LEN) Off)
      || rests core q (byte_at (payload (slice_get core.log k)) (at core k).span q))
      (start_of (at core k).span) (end_of (at core k).span - start_of
      (at core k).span) p h there.0 there.1)
  | inr behind ↦
      let tag : get_or core.tags (p / BLOCK_LEN) Off ≡ Off =
      get_or_past core.tags (p / BLOCK_LEN) Off (omega (arith, kept.blocks, behind.0)) in
      let byte : byte_at (payload (slice_get core.log k)) (at core k).span p ≡ 0 =
      behind.1 (payload (slice_get core.log k)) in
      rw (tag, byte) refl
]

-- ---- an entry that was out, and is home

-- the core with that track, size word and what else an image of the word may have
abbrev pub home : Core → ℕ → Track → ℕ → List ℕ → Core
home core place t size sizes = record (with_track core place t) { size = size; sizes = sizes }

record IsOut (core : Core) (k : ℕ) : Type 0 where
  pub kept : IsKept core
  pub out : is_out (at core k).state ≡ true
  pub live : IsLive core k
  pub busy : is_busy (at core k) ≡ true
  pub change : IsChange core k
  pub full : IsFull (at core k).span

is-out : (core : Core) (k : ℕ) → IsKept core → is_out (at core k).state ≡ true → IsOut core k
is-out core k kept out =
    let live : IsLive core k = out_lives (at core k).state out in
    let change : IsChange core k = kept.logged.live_changes k live in
    record {
      kept = kept;
      out = out;
      live = live;
      busy = out_busy (at core k) out;
      change = change;
      full = change-full core kept.logged k change;
    }

-- where it is free, the byte is 0 past the size that the entry sets
past_sized : (core : Core) (k : ℕ) → IsOut core k → (v p : ℕ) → IsView core v p →
    sized core.size (at core k).span ≤ p → IsFree core v p → get_or (file_at core v) p 0 ≡ 0
past_sized core k is v p view past free =
    is.kept.stored_.zero_past v core.size p view (now_size core)
    (sized_past core.size (at core k).span p past
    (λ holds. not_free core is.kept v p k view free is.busy is.live holds)) free

-- where no live entry decides it, the size that the entry sets has the positions of the file
long_sized : (core : Core) (k : ℕ) → IsOut core k → (p : ℕ) →
    ((i : ℕ) → IsLive core i → decides p (at core i).span ≡ None) →
    nat_lt p (sized core.size (at core k).span) ≡ nat_lt p (length (file core))
long_sized core k is p none =
    sized_kept core.size (at core k).span p (none k is.live)
    ∙ is.kept.stored_.long core.size p (now_size core) none

-- the size that the entry sets is one that an applied entry leaves as it is
fit_sized : (core : Core) (k : ℕ) → IsOut core k → (j : ℕ) → (j ≡ k → ⊥) → IsLive core j →
    (at core j).applied ≡ true →
    sized (sized core.size (at core k).span) (at core j).span ≡ sized core.size (at core k).span
fit_sized core k is j other live applied =
    sized_both core.size (at core k).span (at core j).span is.full
    (change-full core is.kept.logged j (is.kept.logged.live_changes j live)) apart
    (is.kept.stored_.applied_size j core.size live applied (now_size core))
  where
    turned : (a b : Span) → meets a b ≡ false → meets b a ≡ false
    turned Nothing Nothing h = refl
    turned Nothing (Range f t) h = refl
    turned Nothing (From f) h = refl
    turned (Range f t) Nothing h = refl
    turned (Range f t) (Range g u) h = turn f t g u h
      where
        turn : (a b c d : ℕ) → nat_lt (max a c) (min b d) ≡ false →
            nat_lt (max c a) (min d b) ≡ false
        turn a b c d less = grind (arith, nat_tests)
    turned (Range f t) (From g) h = h
    turned (From f) Nothing h = refl
    turned (From f) (Range g u) h = h
    turned (From f) (From g) h = cc

    apart : meets (at core k).span (at core j).span ≡ false
    apart = elim (cases_lt k j) [
      | inl less ↦ is.kept.apart k j less is.live (applied_busy (at core j) applied)
      | inr up ↦ elim (cases_lt j k) [
        | inl more ↦ turned (at core j).span (at core k).span (is.kept.apart j k more live is.busy)
        | inr down ↦ absurd (other (omega arith))
      ]
    ]

-- ---- put back

-- what the size word may have once the entry is put back, and what holds of an entry that is
-- applied then
record IsBack (core : Core) (place : ℕ) (t : Track) (size : ℕ) (sizes : List ℕ) : Type 0 where
  pub some : place ≡ 0 → ⊥
  pub out : is_out (track core.tracks place).state ≡ true
  pub span : t.span ≡ (track core.tracks place).span
  pub live : is_live t.state ≡ true
  pub unread : is_unserved t.state ≡ false
  pub sizes_are : (s : ℕ) → is_size (home core place t size sizes) s ≡ true →
      (s ≡ sized core.size (at core (place - 1)).span) ⊎ (is_size core s ≡ true)
  pub stand : t.applied ≡ true →
      stands core (payload (slice_get core.log (place - 1))) (at core (place - 1)).span ≡ true
  pub applied : t.applied ≡ true → ((at core (place - 1)).applied ≡ true)
      ⊎ ((s : ℕ) → is_size (home core place t size sizes) s ≡ true →
      sized s (at core (place - 1)).span ≡ s)

back_stored : (core : Core) (place : ℕ) (t : Track) (size : ℕ) (sizes : List ℕ) → IsKept core →
    IsBack core place t size sizes → IsStored (home core place t size sizes)
back_stored core place t size sizes kept back = record {
  short = kept.stored_.short;
  rests_free =
      λ v p view free.
      kept.stored_.rests_free v p (still_view core new still v p view)
      (still_free core new still stay v p free);
  zero_past = λ v s p view is past free.
      let old_view = still_view core new still v p view in
      let old_free = still_free core new still stay v p free in
      elim (back.sizes_are s is) [
        | inl set ↦ past_sized core k is_out_ v p old_view (omega arith) old_free
        | inr was ↦ kept.stored_.zero_past v s p old_view was past old_free
      ];
  long = λ s p is none.
      let old_none = still_none core new still stay p none in
      elim (back.sizes_are s is) [
        | inl set ↦ rw set (long_sized core k is_out_ p old_none)
        | inr was ↦ kept.stored_.long s p was old_none
      ];
  applied_rests = λ j p live applied alters.
      let old_live = still.lives j live in
      let old_alters = still_alters core new still j p alters in
      rw (still_byte core new still j p) (rested j p (same_or_not j k) old_live applied old_alters);
  applied_size =
      λ j s live applied is.
      rw (still.spans j) (fits j s (same_or_not j k) (still.lives j live) applied is);
}
  where
    new : Core
    new = home core place t size sizes

    k : ℕ
    k = place - 1

    was_at : track core.tracks place ≡ at core k
    was_at = track_is core.tracks place (place - 1) back.some refl

    is_out_ : IsOut core k
    is_out_ = is-out core k kept (rw was_at at back.out)

    still : IsStill core new
    still =
        tamer_still core new refl refl
        (at_put IsTamer core.tracks place t back.some tamer_same
        (record {
          span = back.span;
          unserved = λ h. absurd (no_clash (is_unserved t.state) h back.unread);
          lives =
              λ h. out_lives (track core.tracks place).state back.out;
        }))

    stay : StayLive core new
    stay = at_put (λ now was. is_live was.state ≡ true →
        is_live now.state ≡ true) core.tracks place t back.some (λ u h. h) (λ h. back.live)

    others : (j : ℕ) → (j ≡ k → ⊥) → at new j ≡ at core j
    others j other = get_or-set_other core.tracks (place - 1) j t blank other

    own : at new k ≡ t
    own = get_or-set_at core.tracks (place - 1) k t blank refl
        (in_tracks is_live core.tracks k refl is_out_.live)

    rested : (j p : ℕ) → (j ≡ k) ⊎ (j ≡ k → ⊥) → IsLive core j → (at new j).applied ≡ true →
        Alters core j p → rests core p (byte_of core j p) ≡ true
    rested j p (inl same) live applied alters =
        let on : t.applied ≡ true = rw (same, own) at applied in
        rw same (stood core kept k p is_out_.live (back.stand on) (rw same at alters.1))
    rested j p (inr other) live applied alters =
        let was : (at core j).applied ≡ true = rw (others j other) at applied in
        kept.stored_.applied_rests j p live was alters

    fits : (j s : ℕ) → (j ≡ k) ⊎ (j ≡ k → ⊥) → IsLive core j → (at new j).applied ≡ true →
        is_size new s ≡ true → sized s (at core j).span ≡ s
    fits j s (inl same) live applied is =
        let on : t.applied ≡ true = rw (same, own) at applied in
        elim (back.applied on) [
          | inl was ↦ elim (back.sizes_are s is) [
            | inl set ↦ rw (same, set) (sized_twice core.size (at core k).span)
            | inr old ↦ kept.stored_.applied_size j s live (rw same was) old
          ]
          | inr set ↦ rw same (set s is)
        ]
    fits j s (inr other) live applied is =
        let was : (at core j).applied ≡ true = rw (others j other) at applied in
        elim (back.sizes_are s is) [
          | inl set ↦ rw set (fit_sized core k is_out_ j other live was)
          | inr old ↦ kept.stored_.applied_size j s live was old
        ]

pub any_more : (s : ℕ) (xs : List ℕ) (x : ℕ) → list_any (λ y. s == y) (xs ++ x ∷ []) ≡ true →
    (s ≡ x) ⊎ (list_any (λ y. s == y) xs ≡ true)
any_more s [] x h =
    elim (or_cases (s == x) false h) [ inl same ↦ inl (same_number s x same) | inr none ↦ cc ]
any_more s (y ∷ ys) x h = elim (or_cases (s == y) (list_any (λ z. s == z) (ys ++ x ∷ [])) h) [
  | inl same ↦ inr (rw same refl)
  | inr rest ↦
      elim (any_more s ys x rest) [
        | inl last ↦ inl last
        | inr within ↦
            inr (or_right (s == y) (list_any (λ z. s == z) ys) within)
      ]
]

keeps : (of : Span) (s : ℕ) → keeps_size of s ≡ true → sized s of ≡ s
keeps of s h = sym (same_number s (sized s of) h)

keep_at : (of : Span) (sizes : List ℕ) (s : ℕ) → keep_all of sizes ≡ true →
    list_any (λ x. s == x) sizes ≡ true → sized s of ≡ s
keep_at of [] s all any = cc
keep_at of (x ∷ xs) s all any =
    let parts = both (keeps_size of x) (keep_all of xs) all in
    elim (or_cases (s == x) (list_any (λ y. s == y) xs) any) [
      | inl same ↦ let is : s ≡ x = same_number s x same in rw is (keeps of x parts.0)
      | inr rest ↦ keep_at of xs s parts.1 rest
    ]

-- each size that the word may have is one that the entry leaves as it is
kept_sizes : (core : Core) (of : Span) (s : ℕ) →
    (keeps_size of core.size && keep_all of core.sizes) ≡ true → is_size core s ≡ true →
    sized s of ≡ s
kept_sizes core of s all is =
    let parts = both (keeps_size of core.size) (keep_all of core.sizes) all in
    elim (or_cases (s == core.size) (list_any (λ x. s == x) core.sizes) is) [
      | inl same ↦
          let here : s ≡ core.size = same_number s core.size same in
          rw here (keeps of core.size parts.0)
      | inr rest ↦ keep_at of core.sizes s parts.1 rest
    ]

either_size : (core : Core) (n s : ℕ) →
    ((s == n) || list_any (λ x. s == x) (core.sizes ++ core.size ∷ [])) ≡ true →
    (s ≡ n) ⊎ (is_size core s ≡ true)
either_size core n s h =
    elim (or_cases (s == n) (list_any (λ x. s == x) (core.sizes ++ core.size ∷ [])) h) [
      | inl same ↦ inl (same_number s n same)
      | inr rest ↦ elim (any_more s core.sizes core.size rest) [
        | inl last ↦ inr (rw last (now_size core))
        | inr within ↦ inr (or_right (s == core.size) (list_any (λ x. s == x) core.sizes) within)
      ]
    ]

stands_here : (core : Core) (place : ℕ) → (place ≡ 0 → ⊥) → stands_at core place ≡ true →
    stands core (payload (slice_get core.log (place - 1))) (at core (place - 1)).span ≡ true
stands_here core place some h =
    let test : (place == 0) ≡ false = grind (arith, nat_tests) in
    let was_at : track core.tracks place ≡ at core (place - 1) =
    track_is core.tracks place (place - 1) some refl in
    rw (was_at, test) at h

back_applied : (core : Core) (place : ℕ) (size : SizeEnd) (gate : Flag) (applied : Bool) →
    (place ≡ 0 → ⊥) →
    ends_well core place (ends.Back size gate applied) ≡ true → applied ≡ true →
    (stands core (payload (slice_get core.log (place - 1))) (at core (place - 1)).span ≡ true)
    × (((at core (place - 1)).applied ≡ true)
    ⊎ (is_size_set core (at core (place - 1)).span size ≡ true))
back_applied core place size gate false some h on = cc
back_applied core place size gate true some h on =
    let was_at : track core.tracks place ≡ at core (place - 1) =
    track_is core.tracks place (place - 1) some refl in
    let open_gate = both (keeps_gate (track core.tracks place).gate gate) _ h in
    let parts =
    both (stands_at core place) ((track core.tracks place).applied
    || is_size_set core (track core.tracks place).span size) open_gate.1 in (
      stands_here core place some parts.0,
      elim (or_cases (track core.tracks place).applied
          (is_size_set core (track core.tracks place).span size) parts.1) [
            | inl was ↦ inl (rw was_at at was)
            | inr set ↦ inr (rw was_at at set)
          ],
    )

put_back_stored : (core : Core) (place : ℕ) (size : SizeEnd) (gate : Flag) (applied : Bool) →
    IsKept core → is_out (track core.tracks place).state ≡ true →
    ends_well core place (ends.Back size gate applied) ≡ true →
    IsStored (finished core place (track core.tracks place) (ends.Back size gate applied))
put_back_stored core place sizes.AsBefore gate applied kept out h =
    let some = some_place is_out refl core.tracks place out in
    back_stored core place (put_back
    (track core.tracks place) gate applied) core.size core.sizes kept (record {
      some = some;
      out = out;
      span = refl;
      live = refl;
      unread = refl;
      sizes_are = λ s is. inr is;
      stand = λ on. (back_applied core place sizes.AsBefore gate applied some h on).0;
      applied = λ on. elim (back_applied core place sizes.AsBefore gate applied some h on).1 [
        | inl was ↦ inl was
        | inr set ↦ inr (λ s is. kept_sizes core (at core (place - 1)).span s set is)
      ];
    })
put_back_stored core place sizes.Set gate applied kept out h =
    let some = some_place is_out refl core.tracks place out in
    let was_at : track core.tracks place ≡ at core (place - 1) =
    track_is core.tracks place (place - 1) some refl in
    let same : sized core.size (track core.tracks place).span
    ≡ sized core.size (at core (place - 1)).span = rw was_at refl in
    back_stored core place (put_back (track core.tracks place) gate applied)
    (sized core.size (track core.tracks place).span) [] kept (record {
      some = some;
      out = out;
      span = refl;
      live = refl;
      unread = refl;
      sizes_are =
          λ s is. inl (only_size s (sized core.size (track core.tracks place).span) is ∙ same);
      stand = λ on. (back_applied core place sizes.Set gate applied some h on).0;
      applied = λ on. inr (λ s is.
          let here : s ≡ sized core.size (at core (place - 1)).span =
          only_size s (sized core.size (track core.tracks place).span) is ∙ same in
          rw here (sized_twice core.size (at core (place - 1)).span));
    })
put_back_stored core place sizes.Either gate applied kept out h =
    let some = some_place is_out refl core.tracks place out in
    let was_at : track core.tracks place ≡ at core (place - 1) =
    track_is core.tracks place (place - 1) some refl in
    let same : sized core.size (track core.tracks place).span
    ≡ sized core.size (at core (place - 1)).span = rw was_at refl in
    back_stored core place (put_back (track core.tracks place) gate applied)
    (sized core.size (track core.tracks place).span) (core.sizes ++ core.size ∷ []) kept
    (record {
      some = some;
      out = out;
      span = refl;
      live = refl;
      unread = refl;
      sizes_are =
          λ s is. elim (either_size core (sized core.size (track core.tracks place).span) s is)
          [ inl here ↦ inl (here ∙ same) | inr was ↦ inr was ];
      stand = λ on. (back_applied core place sizes.Either gate applied some h on).0;
      applied = λ on. elim (back_applied core place sizes.Either gate applied some h on).1 [
        | inl was ↦ inl was
        | inr set ↦
            inr (λ s is.
            elim (either_size core (sized core.size (track core.tracks place).span) s is) [
              | inl here ↦
                  let now : s ≡ sized core.size (at core (place - 1)).span = here ∙ same in
                  rw now (sized_twice core.size (at core (place - 1)).span)
              | inr was ↦ kept_sizes core (at core (place - 1)).span s set was
            ])
      ];
    })

-- ---- retired

-- a live entry decides no position otherwise than a later one without a live entry behind both
same_way : (core : Core) (k : ℕ) → IsOut core k → (p m : ℕ) (b c : Bool) → k < m →
    m < length core.log → IsChange core m → decides p (at core k).span ≡ Some b →
    decides p (at core m).span ≡ Some c →
    ((i : ℕ) → (i ≡ k → ⊥) → IsLive core i → decides p (at core i).span ≡ None) → c ≡ b
same_way core k is p m b c after_k within change way own none = pick b c way own
  where
    shared : (q : ℕ) → p ≤ q → Holds (at core k).span q → Holds (at core m).span q → ⊥
    shared q up first second =
        let last =
        is.kept.logged.order (length core.log) k q (inl refl) (omega arith) is.live
        (is.change, first) in
        elim (cases_lt last.0 m) [
          | inl before ↦ last.1.1.2 m before within (change, second)
          | inr behind ↦
              held_decides (at core last.0).span p q up last.1.1.1.1
              (none last.0 (λ same. omega arith) last.1.0)
        ]

    pick : (x y : Bool) → decides p (at core k).span ≡ Some x →
        decides p (at core m).span ≡ Some y → y ≡ x
    pick true true first second = refl
    pick false false first second = refl
    pick true false first second =
        let q = clash (at core k).span (at core m).span p first second is.full in
        absurd (shared q.0 q.1.0 q.1.1.0 q.1.1.1)
    pick false true first second =
        let q = clash (at core m).span (at core k).span p second first
        (change-full core is.kept.logged m change) in
        absurd (shared q.0 q.1.0 q.1.1.1 q.1.1.0)

-- the length of the file is as the entry that was out decides it
long_decided : (core : Core) (k : ℕ) → IsOut core k → (p : ℕ) (b : Bool) →
    decides p (at core k).span ≡ Some b →
    ((i : ℕ) → (i ≡ k → ⊥) → IsLive core i → decides p (at core i).span ≡ None) →
    nat_lt p (length (file core)) ≡ b
long_decided core k is p b way none = elim (find-decider core (length core.log) p) [
  | inl found ↦
      let m = found.0 in
      let decider = found.1.1 in
      let long : nat_lt p (length (file_at core (length core.log))) ≡ found.1.0 =
      longer-last core is.kept.logged is.kept.ordered (length core.log) p m found.1.0
      (omega arith) decider in
      let whole : nat_lt p (length (file core)) ≡ found.1.0 = rw (file_at-all core) at long in
      elim (cases_lt k m) [
        | inl after_k ↦
            whole ∙ same_way core k is p m b found.1.0 after_k decider.0 decider.1 way decider.2
            none
        | inr up ↦ elim (cases_lt m k) [
          | inl before ↦
              absurd (some_none b (decides p (at core k).span) way
              (decider.3 k before within is.change))
          | inr down ↦
              let same : m ≡ k = omega arith in
              let own : decides p (at core k).span ≡ Some found.1.0 = rw same at decider.2 in
              let equal : found.1.0 ≡ b =
              one_some found.1.0 b (decides p (at core k).span) own way in
              whole ∙ equal
        ]
      ]
  | inr never ↦ absurd (some_none b (decides p (at core k).span) way (never k within is.change))
]
  where
    within : k < length core.log
    within = change-within core k is.change

    some_none : (x : Bool) (o : Option Bool) → o ≡ Some x → o ≡ None → ⊥
    some_none x o some_x none_o = cc

    one_some : (x y : Bool) (o : Option Bool) → o ≡ Some x → o ≡ Some y → x ≡ y
    one_some x y o first second = cc

retired_stored : (core : Core) (place : ℕ) → IsKept core →
    is_out (track core.tracks place).state ≡ true → stands_at core place ≡ true →
    IsStored (home core place (retired (track core.tracks place))
    (sized core.size (track core.tracks place).span) [])
retired_stored core place kept out all_stand = record {
  short = kept.stored_.short;
  rests_free = λ v p view free.
      let old_view = still_view core new still v p view in
      elim (freed v p old_view free) [
        | inl old_free ↦ kept.stored_.rests_free v p old_view old_free
        | inr last ↦
            rw (byte_is v p old_view last) (stood core kept k p is_out_.live stands_k last.1.1)
      ];
  zero_past = λ v s p view is past free.
      let old_view = still_view core new still v p view in
      let size = size_is s is in
      elim (freed v p old_view free) [
        | inl old_free ↦ past_sized core k is_out_ v p old_view (omega arith) old_free
        | inr last ↦
            byte_is v p old_view last
            ∙ sized_byte (payload (slice_get core.log k)) (at core k).span core.size p
            (omega arith) last.1.1
      ];
  long = λ s p is none.
      rw (size_is s is) (long p (none_other p none) (decides p (at core k).span) refl);
  applied_rests = λ j p live applied alters.
      let other = not_k j live in
      let was : (at core j).applied ≡ true = rw (others j other) at applied in
      rw (still_byte core new still j p)
      (kept.stored_.applied_rests j p (still.lives j live) was
      (still_alters core new still j p alters));
  applied_size = λ j s live applied is.
      let other = not_k j live in
      let was : (at core j).applied ≡ true = rw (others j other) at applied in
      rw (still.spans j, size_is s is) (fit_sized core k is_out_ j other (still.lives j live) was);
}
  where
    new : Core
    new = home core place (retired (track core.tracks place))
        (sized core.size (track core.tracks place).span) []

    k : ℕ
    k = place - 1

    some : place ≡ 0 → ⊥
    some = some_place is_out refl core.tracks place out

    was_at : track core.tracks place ≡ at core k
    was_at = track_is core.tracks place (place - 1) some refl

    is_out_ : IsOut core k
    is_out_ = is-out core k kept (rw was_at at out)

    stands_k : stands core (payload (slice_get core.log k)) (at core k).span ≡ true
    stands_k = stands_here core place some all_stand

    still : IsStill core new
    still =
        tamer_still core new refl refl
        (at_put IsTamer core.tracks place (retired (track core.tracks place)) some tamer_same
        (record { span = refl; unserved = λ h. cc; lives = λ h. cc }))

    others : (j : ℕ) → (j ≡ k → ⊥) → at new j ≡ at core j
    others j other =
        get_or-set_other core.tracks (place - 1) j (retired (track core.tracks place)) blank other

    own : at new k ≡ retired (track core.tracks place)
    own = get_or-set_at core.tracks (place - 1) k (retired (track core.tracks place)) blank refl
        (in_tracks is_live core.tracks k refl is_out_.live)

    not_k : (j : ℕ) → IsLive new j → j ≡ k → ⊥
    not_k j live same =
        let alive : is_live (retired (track core.tracks place)).state ≡ true =
        rw (same, own) at live in cc

    stays : (j : ℕ) → (j ≡ k → ⊥) → IsLive core j → IsLive new j
    stays j other live = rw (others j other) live

    size_is : (s : ℕ) → is_size new s ≡ true → s ≡ sized core.size (at core k).span
    size_is s is =
        let same : sized core.size (track core.tracks place).span
        ≡ sized core.size (at core k).span = rw was_at refl in
        only_size s (sized core.size (track core.tracks place).span) is ∙ same

    byte_is : (v p : ℕ) → IsView core v p → IsLast core v p k →
        get_or (file_at core v) p 0 ≡ byte_of core k p
    byte_is v p view last = file_at-last core kept.logged kept.ordered v p k (in_log view) last
      where
        in_log : IsView core v p → v ≤ length core.log
        in_log (inl end) = omega arith
        in_log (inr read) =
            let within = in_tracks is_unserved core.tracks v refl read.0 in let same =
            kept.ordered.same in omega arith

    -- a position that becomes free was free, or the entry was the last that had it
    freed : (v p : ℕ) → IsView core v p → IsFree new v p → IsFree core v p ⊎ IsLast core v p k
    freed v p view free = elim (cases_lt k v) [
      | inl before ↦ elim (alters-or-not core p k) [
        | inl alters ↦ last_of before (kept.logged.order v k p view before is_out_.live alters)
        | inr out_of ↦ inl (λ i less live alters. elim (same_or_not i k) [
          | inl same ↦ out_of (rw same at alters)
          | inr other ↦ free i less (stays i other live) (still_altered core new still i p alters)
        ])
      ]
      | inr up ↦
          inl (λ i less live alters.
          free i less (stays i (λ same. omega arith) live)
          (still_altered core new still i p alters))
    ]
      where
        last_of : k < v → (m : ℕ) × (IsLive core m × IsLast core v p m) →
            IsFree core v p ⊎ IsLast core v p k
        last_of before found = elim (same_or_not found.0 k) [
          | inl same ↦ inr (rw same at found.1.1)
          | inr other ↦
              absurd (free found.0 found.1.1.0 (stays found.0 other found.1.0)
              (still_altered core new still found.0 p found.1.1.1))
        ]

    none_other : (p : ℕ) → ((i : ℕ) → IsLive new i → decides p (at new i).span ≡ None) → (i : ℕ) →
        (i ≡ k → ⊥) → IsLive core i → decides p (at core i).span ≡ None
    none_other p none i other live = rw (still.spans i) at (none i (stays i other live))

    long : (p : ℕ) → ((i : ℕ) → (i ≡ k → ⊥) → IsLive core i → decides p (at core i).span ≡ None) →
        (o : Option Bool) → decides p (at core k).span ≡ o →
        nat_lt p (sized core.size (at core k).span) ≡ nat_lt p (length (file core))
    long p none None way =
        long_sized core k is_out_ p (λ i live.
        elim (same_or_not i k) [ inl same ↦ rw same way | inr other ↦ none i other live ])
    long p none (Some b) way =
        sized_set core.size (at core k).span p b way
        ∙ sym (long_decided core k is_out_ p b way none)

pub stored_finish : (core : Core) (place : ℕ) (end : End) → IsKept core →
    may_finish core place end ≡ true → IsStored (finished core place (track core.tracks place) end)
stored_finish core place ends.Retired kept h =
    let parts =
    both (is_out (track core.tracks place).state) (ends_well core place ends.Retired) h in
    retired_stored core place kept parts.0
    (both (is_through (track core.tracks place).state) (stands_at core place) parts.1).1
stored_finish core place ends.More kept h =
    stored_more core place kept.stored_
    (both (is_out (track core.tracks place).state) (ends_well core place ends.More) h).0
stored_finish core place (ends.Back size gate applied) kept h =
    let parts =
    both (is_out (track core.tracks place).state)
    (ends_well core place (ends.Back size gate applied)) h in
    put_back_stored core place size gate applied kept parts.0 parts.1
