-- How a lock begins and ends, and how passes are split and joined.
use Rattle.std.proofs.Common.{◌≡◌, ◌≢◌, ℕ, zero, suc, ◌+◌, ◌<◌, ◌≤◌, List, [], ◌∷◌, ◌++◌, Option, Some, length, length-append, set, sum_by, refl, sym, ap, ◌∙◌, subst, arith}
use Rattle.std.proofs.lemmas.Bool.Decides.{nat_tests}
use Rattle.std.proofs.lemmas.List.{append-nil}
use Rattle.std.proofs.lemmas.List.Elements.{All-append, All-cons, All-nil}
use Rattle.std.proofs.lemmas.List.Sums.{sum_by_push}
use Rattle.atomic_table.specs.Table as table
use Rattle.atomic_table.specs.Table.{Final, Joins, Seen, Splits, State}
use Rattle.atomic_table.proofs.Lists.{set_else}
use mathlib.Core.Option.{some, some-injective, some-ne-none}
use mathlib.Core.Logic.{dite}
use native.Mathlib.Decide.{ℕ_discrete}
use lib.ListN.{get_elem?}
use Rattle.cfs_lock.specs.declared.view.Stage.{Stage}
use Rattle.cfs_lock.specs.declared.view.Stage.TheVariants.{Idle, Waits, Holds, Done}
use Rattle.cfs_lock.specs.declared.view.View.{View}
use Rattle.cfs_lock.specs.Log.{BeginsWith, IsNewTo, Log, Part, entries_by}
use Rattle.cfs_lock.specs.Passes.{IsNewElse}
use Rattle.cfs_lock.specs.Rule.{Kept, Stands, busy, busy_at, has_ticket, holding, holding_at, home_of, keeps_number, places, ticket_at}
use Rattle.cfs_lock.specs.Stages.{stage_code}
use Rattle.cfs_lock.specs.Views.{Finds, IsOf, blank, cut_left, cut_right, joined, kept, next_number, opening, spent}
use Rattle.cfs_lock.proofs.Lists.{each_set, each_snoc, moved, one, two, under}
use Rattle.cfs_lock.proofs.Logs.{kept-append, kept-length}
use Rattle.cfs_lock.proofs.Steps.{found_there}

module _ {A : Type 0} (f : A → ℕ) where
  -- the sum after one element changes and one comes
  grown : (l : List A) (i : ℕ) (v w u : A) → get_elem? l i ≡ some v → sum_by f (set l i w ++ u ∷ []) + f v ≡ sum_by f l + f w + f u
  grown l i v w u at = omega (arith, sum_by_push f (set l i w) u, moved f l i v w at)

  grown_same : (l : List A) (i : ℕ) (v w u : A) → get_elem? l i ≡ some v → f w ≡ f v → f u ≡ 0 → sum_by f (set l i w ++ u ∷ []) ≡ sum_by f l
  grown_same l i v w u at p q = omega (arith, grown l i v w u at, p, q)

  -- the sum after one element takes in another
  merged : (l : List A) (i j : ℕ) (v w both u : A) → get_elem? l i ≡ some v → get_elem? (set l i both) j ≡ some w → f both ≡ f v + f w → f u ≡ 0 → sum_by f (set (set l i both) j u) ≡ sum_by f l
  merged l i j v w both u at at' p q = omega (arith, moved f l i v both at, moved f (set l i both) j w u at', p, q)

each_one : {A : Type 0} (P : A → Type 0) (v : A) → P v → (i : ℕ) (u : A) → get_elem? (v ∷ []) i ≡ some u → P u
each_one P v p zero u e = subst P (some-injective v u e) p
each_one P v p (suc i) u e = absurd (some-ne-none u (sym e))

holding_busy : {X : Type 0} (stage : Stage X) → holding_at stage ≤ busy_at stage
holding_busy Idle = omega arith
holding_busy (Waits t) = omega arith
holding_busy (Holds t x) = omega arith
holding_busy (Done t) = omega arith

module _ {X : Type 0} (log : X → Log) (part : X → ℕ → Part) where
  pub opens : (value : X) (passes count : ℕ) → 1 ≤ passes → passes < 4294967296 → IsNewTo log part passes value → count ≡ length (log value)
      → Kept log part (log value) passes (table.opening (0 ∷ 0 ∷ count ∷ []) (Some value ∷ []) (opening (log value) passes))
  opens value passes count some_pass low new is = record {
    drawn = 0;
    served = 0;
    next = 1;
    value = value;
    words = ap (λ (n : ℕ). 0 ∷ 0 ∷ n ∷ []) is;
    homes = refl;
    line = record { queue = refl; turns = λ t h h'. absurd (omega arith); past = λ t h. absurd (omega arith); coming = λ t h. refl };
    numbers = record {
      given = λ n h. grind (arith, nat_tests);
      fresh = λ n h. grind (arith, nat_tests);
      all_kept = refl;
      most = some_pass;
      narrow = low;
    };
    unused = record {
      entries = λ n h. refl;
      parts = λ n h h'. (new n h').1;
      clean = λ n h. (new n h).0;
    };
    each = each_one (Stands log part (log value) passes 0 1 value) (opening (log value) passes) (record {
      stage = tt;
      booked = omega arith;
      origin = λ _. (refl, refl);
      fronts = All-cons (λ front. BeginsWith (log value) front) (log value) [] ([], sym (append-nil (log value))) (All-nil (λ front. BeginsWith (log value) front));
      books = All-cons (IsOf log part value) (blank 0) [] (new 0 (omega arith)) (All-nil (IsOf log part value));
      follows = λ z. absurd (omega arith);
      leads = λ _. omega arith;
    });
  }

module _ {X : Type 0} (log : X → Log) (part : X → ℕ → Part) (base : Log) (bound : ℕ) where
  pub splits : (seat : ℕ) (v : View X) → 0 < v.left → Splits (Kept log part base bound) seat v (cut_left v) (cut_right v)
  splits seat v some_left s k at =
      let st = k.each seat v at in
      let first : keeps_number 0 v ≢ 0 = λ z. let e = st.follows z in omega arith in
      let lead : v.left + k.next ≡ bound = st.leads first in
      let booked : 0 < places v = omega (arith, kept-length 0 v.books, first) in
      let from = st.origin booked in
      let same_bound : v.bound ≡ bound = from.1 in
      let is : next_number v ≡ k.next = omega arith in
      let begun : 0 < k.next = grind (arith, k.numbers.fresh 0, one (keeps_number 0) s.views seat v at) in
      let w : View X = cut_left v in
      let u : View X = cut_right v in record {
        drawn = k.drawn;
        served = k.served;
        next = k.next + 1;
        value = k.value;
        words = k.words;
        homes = k.homes ∙ ap (λ n. home_of n k.value ∷ []) (sym (grown_same holding s.views seat v w u at refl refl));
        line = record {
          queue = omega (arith, grown_same busy s.views seat v w u at refl refl, k.line.queue);
          turns = λ t low high. grown_same (has_ticket t) s.views seat v w u at refl refl ∙ k.line.turns t low high;
          past = λ t low. grown_same (has_ticket t) s.views seat v w u at refl refl ∙ k.line.past t low;
          coming = λ t high. grown_same (has_ticket t) s.views seat v w u at refl refl ∙ k.line.coming t high;
        };
        numbers = record {
          given = λ n h.
              let m = grown (keeps_number n) s.views seat v w u at in
              let old : n < k.next → sum_by (keeps_number n) s.views ≡ 1 = k.numbers.given n in
              let new : k.next ≤ n → sum_by (keeps_number n) s.views ≡ 0 = k.numbers.fresh n in grind (arith, nat_tests);
          fresh = λ n h.
              let m = grown (keeps_number n) s.views seat v w u at in
              let new : sum_by (keeps_number n) s.views ≡ 0 = k.numbers.fresh n (omega arith) in grind (arith, nat_tests);
          all_kept = omega (arith, grown places s.views seat v w u at, k.numbers.all_kept);
          most = omega arith;
          narrow = k.numbers.narrow;
        };
        unused = record {
          entries = λ n h. k.unused.entries n (omega arith);
          parts = λ n h low. k.unused.parts n (omega arith) low;
          clean = k.unused.clean;
        };
        each = each_snoc (Stands log part base bound k.served (k.next + 1) k.value) (set s.views seat w) u
            (record {
              stage = tt;
              booked = omega arith;
              origin = λ _. from;
              fronts = st.fronts;
              books = All-cons (IsOf log part k.value) (blank (next_number v)) []
                  (k.unused.entries (next_number v) (omega arith) ∙ k.unused.clean (next_number v) (omega arith), k.unused.parts (next_number v) (omega arith) (omega arith))
                  (All-nil (IsOf log part k.value));
              follows = λ _. refl;
              leads = λ nz. absurd (nz (grind (arith, nat_tests)));
            })
            (each_set (Stands log part base bound k.served (k.next + 1) k.value) s.views seat w
            (record {
              stage = st.stage;
              booked = st.booked;
              origin = st.origin;
              fronts = st.fronts;
              books = st.books;
              follows = λ z. absurd (first z);
              leads = λ _. omega arith;
            })
            (λ j y n here.
            let us = k.each j y here in
            let other : keeps_number 0 y ≡ 0 = omega (arith, two (keeps_number 0) s.views seat j v y n at here, first, k.numbers.given 0 begun) in record {
              stage = us.stage;
              booked = us.booked;
              origin = us.origin;
              fronts = us.fronts;
              books = us.books;
              follows = us.follows;
              leads = λ nz. absurd (nz other);
            }));
      }

  pub joins : (seat : ℕ) (v : View X) (other : ℕ) (w : View X) → 0 < places v → w.stage ≡ Idle → Joins (Kept log part base bound) seat v other w (joined v w) spent
  joins seat v other w booked idle s k at apart at' =
      let both : View X = joined v w in
      let gone : View X = spent in
      let there : get_elem? s.views other ≡ some w = sym (set_else s.views seat other both apart) ∙ at' in
      let st = k.each seat v at in
      let us = k.each other w there in
      let merged_by : (f : View X → ℕ) → f both ≡ f v + f w → f gone ≡ 0 → sum_by f (set (set s.views seat both) other gone) ≡ sum_by f s.views = λ f p q. merged f s.views seat other v w both gone at at' p q in
      let same_holding = merged_by holding (omega (arith, ap holding_at idle)) refl in
      let keeps_both : (n : ℕ) → keeps_number n both ≡ keeps_number n v + keeps_number n w = λ n. kept-append n v.books w.books in
      let once : keeps_number 0 v + keeps_number 0 w ≤ 1 = grind (arith, two (keeps_number 0) s.views seat other v w apart at there, k.numbers.given 0, k.numbers.fresh 0) in record {
        drawn = k.drawn;
        served = k.served;
        next = k.next;
        value = k.value;
        words = k.words;
        homes = k.homes ∙ ap (λ n. home_of n k.value ∷ []) (sym same_holding);
        line = record {
          queue = omega (arith, merged_by busy (omega (arith, ap busy_at idle)) refl, k.line.queue);
          turns = λ t low high. merged_by (has_ticket t) (omega (arith, ap (ticket_at t) idle)) refl ∙ k.line.turns t low high;
          past = λ t low. merged_by (has_ticket t) (omega (arith, ap (ticket_at t) idle)) refl ∙ k.line.past t low;
          coming = λ t high. merged_by (has_ticket t) (omega (arith, ap (ticket_at t) idle)) refl ∙ k.line.coming t high;
        };
        numbers = record {
          given = λ n h. merged_by (keeps_number n) (keeps_both n) refl ∙ k.numbers.given n h;
          fresh = λ n h. merged_by (keeps_number n) (keeps_both n) refl ∙ k.numbers.fresh n h;
          all_kept = merged_by places (length-append v.books w.books) refl ∙ k.numbers.all_kept;
          most = k.numbers.most;
          narrow = k.numbers.narrow;
        };
        unused = k.unused;
        each = each_set (Stands log part base bound k.served k.next k.value) (set s.views seat both) other gone
            (record {
              stage = tt;
              booked = omega arith;
              origin = λ h. absurd (omega arith);
              fronts = All-nil (λ front. BeginsWith (log k.value) front);
              books = All-nil (IsOf log part k.value);
              follows = λ _. refl;
              leads = λ nz. absurd (nz refl);
            })
            (λ j y n here. each_set (Stands log part base bound k.served k.next k.value) s.views seat both
            (record {
              stage = st.stage;
              booked = omega (arith, length-append v.books w.books, st.booked);
              origin = λ _. st.origin booked;
              fronts = All-append (λ front. BeginsWith (log k.value) front) v.seen w.seen st.fronts us.fronts;
              books = All-append (IsOf log part k.value) v.books w.books st.books us.books;
              follows = λ z. omega (arith, st.follows (omega (arith, keeps_both 0, z)), us.follows (omega (arith, keeps_both 0, z)));
              leads = λ nz. dite (ℕ_discrete (keeps_number 0 v) 0)
                  (λ z. omega (arith, st.follows z, us.leads (λ z'. nz (keeps_both 0 ∙ omega arith))))
                  (λ some. omega (arith, st.leads some, us.follows (omega arith)));
            })
            (λ i x m at''. k.each i x at'') j y here);
      }

  -- where a pass keeps all numbers that were given, the value is at home and all else is as at the start
  pub closes : (s : State (Option X) (View X)) → Kept log part base bound s → (seat : ℕ) (v : View X) → get_elem? s.views seat ≡ some v → v.stage ≡ Idle → 0 < places v → v.bound ≤ places v + v.left
      → (value : X) × (get_elem? s.homes 0 ≡ some (some (Some value))) × Finds log part v value × IsNewElse log part v value × (places v + v.left ≡ v.bound)
  closes s k seat v at idle booked all =
      let st = k.each seat v at in
      let from = st.origin booked in
      let same_bound : v.bound ≡ bound = from.1 in
      let gone : View X = spent in
      let here : places v ≤ sum_by places s.views = one places s.views seat v at in
      let ends : (k.next ≡ places v) × (places v + v.left ≡ v.bound) = dite (ℕ_discrete (keeps_number 0 v) 0)
      (λ z. let e = st.follows z in (omega (arith, k.numbers.all_kept, k.numbers.most), omega (arith, k.numbers.all_kept, k.numbers.most)))
      (λ nz. let e = st.leads nz in (omega (arith, k.numbers.all_kept), omega (arith, k.numbers.all_kept))) in
      let others : sum_by places (set s.views seat gone) ≡ 0 = omega (arith, moved places s.views seat v gone at, k.numbers.all_kept, ends.0) in
      let less = under holding places (set s.views seat gone)
      (each_set (λ u. holding u ≤ places u) s.views seat gone (omega arith) (λ j u n at'. omega (arith, holding_busy u.stage, (k.each j u at').booked))) in
      let home : sum_by holding s.views ≡ 0 = omega (arith, moved holding s.views seat v gone at, ap holding_at idle, less, others) in
      let not_given : (n : ℕ) → kept n v.books ≡ 0 → k.next ≤ n = λ n z.
      let fewer = under (keeps_number n) places (set s.views seat gone) (λ j u at'. kept-length n u.books) in
      let m = moved (keeps_number n) s.views seat v gone at in
      let given : n < k.next → sum_by (keeps_number n) s.views ≡ 1 = k.numbers.given n in grind arith in (
        k.value,
        ap (λ hs. get_elem? hs 0) k.homes ∙ ap (λ n. some (home_of n k.value)) home,
        found_there log part base bound s k seat v at booked,
        record {
          entries = λ n z. k.unused.entries n (not_given n z) ∙ ap (entries_by n) (sym from.0);
          parts = λ n z h. k.unused.parts n (not_given n z) (omega arith);
        },
        ends.1,
      )

  -- what is taken out of a lock that was ended so
  pub ends : (seat : ℕ) (v : View X) (words : List ℕ) (slots : List (Option X)) (taken : Option X) → Final (Seen (Kept log part base bound) seat v) words slots → v.stage ≡ Idle → 0 < places v → v.bound ≤ places v + v.left
      → get_elem? slots 0 ≡ some taken → (value : X) × (taken ≡ Some value) × Finds log part v value × IsNewElse log part v value × (places v + v.left ≡ v.bound)
  ends seat v words slots taken last idle booked all is =
      let ended = closes last.0 last.1.0 seat v last.1.1 idle booked all in
      (ended.0, some-injective taken (Some ended.0) (sym is ∙ last.4 0 (Some ended.0) ended.1), ended.2, ended.3, ended.4)

-- a stage whose code is that of a pass outside
pub idle_of : {X : Type 0} (stage : Stage X) → stage_code stage ≡ 0 → stage ≡ Idle
idle_of Idle e = refl
idle_of (Waits t) e = absurd (omega arith)
idle_of (Holds t x) e = absurd (omega arith)
idle_of (Done t) e = absurd (omega arith)
