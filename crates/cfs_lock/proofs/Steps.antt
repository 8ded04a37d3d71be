-- Each step keeps the rule.
use Rattle.std.proofs.Common.{◌≡◌, ◌≢◌, ℕ, ◌+◌, ◌%◌, ◌^◌, ◌<◌, ◌≤◌, List, [], ◌∷◌, Option, Some, cond, eqb, length, set, slice_index, slice_set, sum_by, unwrap_or, refl, sym, ap, ap₂, ◌∙◌, subst, arith}
use Rattle.std.proofs.lemmas.Bool.Decides.{nat_tests}
use Rattle.std.proofs.lemmas.List.{append-nil}
use Rattle.std.proofs.lemmas.List.Elements.{All-cons, All-nil}
use Rattle.atomic_table.specs.Table.{Allows, Me, State, keeps, takes, gives}
use Rattle.atomic_table.proofs.Lists.{one_turn}
use mathlib.Core.Option.{some, none}
use mathlib.Core.Logic.{dite}
use native.Mathlib.Decide.{ℕ_discrete}
use lib.ListN.{get_elem?}
use Rattle.cfs_lock.specs.declared.view.Stage.{Stage}
use Rattle.cfs_lock.specs.declared.view.Stage.TheVariants.{Idle, Waits, Holds, Done}
use Rattle.cfs_lock.specs.declared.view.View.{View}
use Rattle.cfs_lock.specs.Log.{BeginsWith, Grows, Log, Part, entries_by}
use Rattle.cfs_lock.specs.Rule.{InLine, Kept, Numbered, StageIs, Stands, busy, busy_at, has_ticket, holding, holding_at, home_of, keeps_number, places, ticket_at, word_of}
use Rattle.cfs_lock.specs.Views.{Finds, at_stage, first_number, left_with}
use Rattle.cfs_lock.proofs.Lists.{each_set, moved, one, same_sum, two, under}
use Rattle.cfs_lock.proofs.Logs.{books_rewritten, books_stay, first_kept, front_grows, others_stay, rewritten-kept, rewritten-length}

own_ticket : (t : ℕ) → ◌≡◌ {A = ℕ} (cond (eqb t t) 1 0) 1
own_ticket t = grind (arith, nat_tests)

-- the value in the slot that was taken last, or another one
abbrev lying : {X : Type 0} → X → List (ℕ × Option X) → X
lying d [] = d
lying d (x ∷ xs) = unwrap_or x.1 d

module _ {X : Type 0} where
  -- a change of one stage leaves the numbers
  numbers_stay : (next bound : ℕ) (views : List (View X)) (seat : ℕ) (v : View X) (stage : Stage X) → get_elem? views seat ≡ some v
      → Numbered next bound views → Numbered next bound (set views seat (at_stage stage v))
  numbers_stay next bound views seat v stage at k = record {
    given = λ n h. same_sum (keeps_number n) views seat v (at_stage stage v) at refl ∙ k.given n h;
    fresh = λ n h. same_sum (keeps_number n) views seat v (at_stage stage v) at refl ∙ k.fresh n h;
    all_kept = same_sum places views seat v (at_stage stage v) at refl ∙ k.all_kept;
    most = k.most;
    narrow = k.narrow;
  }

  -- one more ticket is drawn
  line_drawn : (drawn served : ℕ) (views : List (View X)) (seat : ℕ) (v : View X) → get_elem? views seat ≡ some v → v.stage ≡ Idle
      → InLine drawn served views → InLine (drawn + 1) served (set views seat (at_stage (Waits drawn) v))
  line_drawn drawn served views seat v at idle k =
      let w : View X = at_stage (Waits drawn) v in
      let none_before : (t : ℕ) → has_ticket t v ≡ 0 = λ t. ap (ticket_at t) idle in record {
        queue = omega (arith, moved busy views seat v w at, ap busy_at idle, k.queue);
        turns = λ t low high.
            let m = moved (has_ticket t) views seat v w at in let z = none_before t in
            let old : t < drawn → sum_by (has_ticket t) views ≡ 1 = k.turns t low in
            let new : drawn ≤ t → sum_by (has_ticket t) views ≡ 0 = k.coming t in grind (arith, nat_tests);
        past = λ t low.
            let m = moved (has_ticket t) views seat v w at in let z = none_before t in
            let old = k.past t low in let q = k.queue in grind (arith, nat_tests);
        coming = λ t high.
            let m = moved (has_ticket t) views seat v w at in let z = none_before t in
            let old : drawn ≤ t → sum_by (has_ticket t) views ≡ 0 = k.coming t in grind (arith, nat_tests);
      }

-- what is found does not depend on the stage
pub finds_any : {X : Type 0} (log : X → Log) (part : X → ℕ → Part) (v : View X) (stage : Stage X) (x : X) → Finds log part (at_stage stage v) x → Finds log part v x
finds_any log part v stage x f = record { fronts = f.fronts; books = f.books; others = f.others }

module _ {X : Type 0} (log : X → Log) (part : X → ℕ → Part) (base : Log) (bound : ℕ) where
  -- a view at another stage stands as before
  restaged : (served now next : ℕ) (value : X) (v : View X) (stage : Stage X) → Stands log part base bound served next value v → StageIs now value stage → busy_at stage ≤ places v
      → Stands log part base bound now next value (at_stage stage v)
  restaged served now next value v stage k is booked = record {
    stage = is;
    booked = booked;
    origin = k.origin;
    fronts = k.fronts;
    books = k.books;
    follows = k.follows;
    leads = k.leads;
  }

  pub draws : (slots seat : ℕ) (v : View X) (carried : List (ℕ × Option X)) → v.stage ≡ Idle → 0 < places v
      → Allows (Kept log part base bound) slots seat (v, carried) 0 (λ n. (n + 1) % 2 ^ 64) (λ n m. (t : ℕ) × (n ≡ word_of t) × (m ≡ (at_stage (Waits t) v, carried)))
  draws slots seat v carried idle booked s k sized at fits =
      let w : View X = at_stage (Waits k.drawn) v in (
        w,
        keeps,
        tt,
        record {
          drawn = k.drawn + 1;
          served = k.served;
          next = k.next;
          value = k.value;
          words = ap (λ (ws : List ℕ). slice_set ws 0 ((slice_index ws 0 + 1) % 18446744073709551616)) k.words
              ∙ ap (λ (n : ℕ). n ∷ word_of k.served ∷ length (log k.value) ∷ []) (omega arith);
          homes = k.homes ∙ ap (λ n. home_of n k.value ∷ []) (sym (same_sum holding s.views seat v w at (sym (ap holding_at idle))));
          line = line_drawn k.drawn k.served s.views seat v at idle k.line;
          numbers = numbers_stay k.next bound s.views seat v (Waits k.drawn) at k.numbers;
          unused = k.unused;
          each = each_set (Stands log part base bound k.served k.next k.value) s.views seat w
              (restaged k.served k.served k.next k.value v (Waits k.drawn) (k.each seat v at) tt booked)
              (λ j u n here. k.each j u here);
        },
        (k.drawn, ap (λ (ws : List ℕ). slice_index ws 0) k.words, refl),
      )

module _ {X : Type 0} where
  holds_its_ticket : (served : ℕ) (value : X) (stage : Stage X) → StageIs served value stage → holding_at stage ≤ ticket_at served stage
  holds_its_ticket served value Idle h = omega arith
  holds_its_ticket served value (Waits t) h = omega arith
  holds_its_ticket served value (Holds t x) h = let e = h.0 in grind (arith, nat_tests)
  holds_its_ticket served value (Done t) h = omega arith

  -- who has not the ticket that is served has nothing to do with the next one
  waits_on : (served now : ℕ) (value after : X) (stage : Stage X) → StageIs served value stage → ticket_at served stage ≡ 0 → StageIs now after stage
  waits_on served now value after Idle h z = tt
  waits_on served now value after (Waits t) h z = tt
  waits_on served now value after (Holds t x) h z = let e = h.0 in absurd (grind (arith, nat_tests))
  waits_on served now value after (Done t) h z = absurd (grind (arith, nat_tests))

  -- a ticket that a view has was drawn and not served
  within : (drawn served t : ℕ) (views : List (View X)) (seat : ℕ) (v : View X) → get_elem? views seat ≡ some v → has_ticket t v ≡ 1 → InLine drawn served views → (served ≤ t) × (t < drawn)
  within drawn served t views seat v at has k =
      let past : t < served → sum_by (has_ticket t) views ≡ 0 = k.past t in
      let coming : drawn ≤ t → sum_by (has_ticket t) views ≡ 0 = k.coming t in
      let here : has_ticket t v ≤ sum_by (has_ticket t) views = one (has_ticket t) views seat v at in (grind arith, grind arith)

  -- a view with the same ticket leaves the line
  line_stays : (drawn served : ℕ) (views : List (View X)) (seat : ℕ) (v w : View X) → get_elem? views seat ≡ some v → busy w ≡ busy v → ((t : ℕ) → has_ticket t w ≡ has_ticket t v)
      → InLine drawn served views → InLine drawn served (set views seat w)
  line_stays drawn served views seat v w at b same k = record {
    queue = omega (arith, same_sum busy views seat v w at b, k.queue);
    turns = λ t low high. same_sum (has_ticket t) views seat v w at (same t) ∙ k.turns t low high;
    past = λ t low. same_sum (has_ticket t) views seat v w at (same t) ∙ k.past t low;
    coming = λ t high. same_sum (has_ticket t) views seat v w at (same t) ∙ k.coming t high;
  }

  -- the next ticket is served
  line_served : (drawn served : ℕ) (views : List (View X)) (seat : ℕ) (v : View X) → get_elem? views seat ≡ some v → v.stage ≡ Done served
      → InLine drawn served views → InLine drawn (served + 1) (set views seat (at_stage Idle v))
  line_served drawn served views seat v at done k =
      let w : View X = at_stage Idle v in
      let mine : (t : ℕ) → has_ticket t v ≡ cond (eqb served t) 1 0 = λ t. ap (ticket_at t) done in
      let in' = within drawn served served views seat v at (mine served ∙ own_ticket served) k in record {
        queue = omega (arith, moved busy views seat v w at, ap busy_at done, k.queue);
        turns = λ t low high.
            let m = moved (has_ticket t) views seat v w at in let z = mine t in
            let old : sum_by (has_ticket t) views ≡ 1 = k.turns t (omega arith) high in grind (arith, nat_tests);
        past = λ t low.
            let m = moved (has_ticket t) views seat v w at in let z = mine t in
            let old : t < served → sum_by (has_ticket t) views ≡ 0 = k.past t in
            let this : served ≤ t → sum_by (has_ticket t) views ≡ 1 = λ h. k.turns t h (omega arith) in grind (arith, nat_tests);
        coming = λ t high.
            let m = moved (has_ticket t) views seat v w at in
            let old : sum_by (has_ticket t) views ≡ 0 = k.coming t high in omega arith;
      }

module _ {X : Type 0} (log : X → Log) (part : X → ℕ → Part) (base : Log) (bound : ℕ) where
  -- fewer tickets are out than a word can tell apart
  line_short : (s : State (Option X) (View X)) → (k : Kept log part base bound s) → k.drawn < k.served + 18446744073709551616
  line_short s k =
      let all = under busy places s.views (λ i v at. (k.each i v at).booked) in
      omega (arith, all, k.line.queue, k.numbers.all_kept, k.numbers.most, k.numbers.narrow)

  -- while the ticket that is served waits, no view holds the value
  at_home : (s : State (Option X) (View X)) → (k : Kept log part base bound s) → (seat : ℕ) (v : View X) → get_elem? s.views seat ≡ some v → v.stage ≡ Waits k.served → sum_by holding s.views ≡ 0
  at_home s k seat v at waits =
      let w : View X = at_stage Idle v in
      let mine : has_ticket k.served v ≡ 1 = ap (ticket_at k.served) waits ∙ own_ticket k.served in
      let in' = within k.drawn k.served k.served s.views seat v at mine k.line in
      let total = k.line.turns k.served in'.0 in'.1 in
      let less = under holding (has_ticket k.served) (set s.views seat w)
      (each_set (λ u. holding u ≤ has_ticket k.served u) s.views seat w (omega arith) (λ j u n here. holds_its_ticket k.served k.value u.stage (k.each j u here).stage)) in
      omega (arith, moved holding s.views seat v w at, moved (has_ticket k.served) s.views seat v w at, ap holding_at waits, mine, total, less)

  -- what the value is to a view that waits
  pub found_there : (s : State (Option X) (View X)) → (k : Kept log part base bound s) → (seat : ℕ) (v : View X) → get_elem? s.views seat ≡ some v → 0 < places v → Finds log part v k.value
  found_there s k seat v at booked =
      let st = k.each seat v at in let from = st.origin booked in record {
        fronts = st.fronts;
        books = st.books;
        others = λ n h. let same = from.1 in k.unused.entries n (omega (arith, k.numbers.most)) ∙ ap (entries_by n) (sym from.0);
      }

  pub looks : (slots seat : ℕ) (v : View X) (carried : List (ℕ × Option X)) (ticket : ℕ) → v.stage ≡ Waits ticket
      → Allows (Kept log part base bound) slots seat (v, carried) 1 (λ n. n) (λ n m. (t : ℕ) → v.stage ≡ Waits t
      → (n ≡ word_of t → (x : X) × Finds log part v x × (m ≡ (at_stage (Holds t x) v, (0, Some x) ∷ carried))) × (n ≢ word_of t → m ≡ (v, carried)))
  looks slots seat v carried ticket waits s k sized at fits =
      let found : slice_index s.words 1 ≡ word_of k.served = ap (λ (ws : List ℕ). slice_index ws 1) k.words in
      let mine : has_ticket ticket v ≡ 1 = ap (ticket_at ticket) waits ∙ own_ticket ticket in
      let in' = within k.drawn k.served ticket s.views seat v at mine k.line in
      let booked : 0 < places v = omega (arith, (k.each seat v at).booked, ap busy_at waits) in
      let words = ap (λ (ws : List ℕ). slice_set ws 1 (slice_index ws 1)) k.words in
      let same : (t : ℕ) → v.stage ≡ Waits t → t ≡ ticket = λ t e. cc in
      dite (ℕ_discrete (word_of k.served) (word_of ticket))
      (λ e.
      let turn : k.served ≡ ticket = one_turn k.served ticket 18446744073709551616 in'.0 (omega (arith, line_short s k, in'.1)) e in
      let w : View X = at_stage (Holds ticket k.value) v in
      let home = at_home s k seat v at (waits ∙ ap Waits (sym turn)) in
      let out : sum_by holding (set s.views seat w) ≡ 1 = omega (arith, moved holding s.views seat v w at, ap holding_at waits, home) in (
        w,
        takes 0 (Some k.value),
        ap (λ hs. get_elem? hs 0) k.homes ∙ ap (λ n. some (home_of n k.value)) home,
        record {
          drawn = k.drawn;
          served = k.served;
          next = k.next;
          value = k.value;
          words = words;
          homes = ap (λ hs. slice_set hs 0 none) k.homes ∙ ap (λ n. home_of n k.value ∷ []) (sym out);
          line = line_stays k.drawn k.served s.views seat v w at (sym (ap busy_at waits)) (λ t. sym (ap (ticket_at t) waits)) k.line;
          numbers = numbers_stay k.next bound s.views seat v (Holds ticket k.value) at k.numbers;
          unused = k.unused;
          each = each_set (Stands log part base bound k.served k.next k.value) s.views seat w
              (restaged log part base bound k.served k.served k.next k.value v (Holds ticket k.value) (k.each seat v at) (sym turn, refl) booked)
              (λ j u n here. k.each j u here);
        },
        (λ t is. let t_is = same t is in (
          λ _. (k.value, found_there s k seat v at booked, ap (λ (z : ℕ). (at_stage (Holds z k.value) v, (0, Some k.value) ∷ carried)) (sym t_is)),
          λ other. absurd (other (found ∙ (e ∙ ap word_of (sym t_is)))),
        )),
      ))
      (λ ne. (
        v,
        keeps,
        tt,
        record {
          drawn = k.drawn;
          served = k.served;
          next = k.next;
          value = k.value;
          words = words;
          homes = k.homes ∙ ap (λ n. home_of n k.value ∷ []) (sym (same_sum holding s.views seat v v at refl));
          line = line_stays k.drawn k.served s.views seat v v at refl (λ t. refl) k.line;
          numbers = numbers_stay k.next bound s.views seat v v.stage at k.numbers;
          unused = k.unused;
          each = each_set (Stands log part base bound k.served k.next k.value) s.views seat v (k.each seat v at) (λ j u n here. k.each j u here);
        },
        (λ t is. let t_is = same t is in (λ e. absurd (ne (sym found ∙ (e ∙ ap word_of t_is))), λ _. refl)),
      ))

  pub serves : (slots seat : ℕ) (v : View X) (carried : List (ℕ × Option X)) (ticket : ℕ) → v.stage ≡ Done ticket
      → Allows (Kept log part base bound) slots seat (v, carried) 1 (λ n. (n + 1) % 2 ^ 64) (λ n m. m ≡ (at_stage Idle v, carried))
  serves slots seat v carried ticket done s k sized at fits =
      let w : View X = at_stage Idle v in
      let st = k.each seat v at in
      let turn : ticket ≡ k.served = subst (StageIs k.served k.value) done st.stage in
      let done' : v.stage ≡ Done k.served = done ∙ ap Done turn in
      let mine : has_ticket k.served v ≡ 1 = ap (ticket_at k.served) done' ∙ own_ticket k.served in
      let in' = within k.drawn k.served k.served s.views seat v at mine k.line in
      let total = k.line.turns k.served in'.0 in'.1 in (
        w,
        keeps,
        tt,
        record {
          drawn = k.drawn;
          served = k.served + 1;
          next = k.next;
          value = k.value;
          words = ap (λ (ws : List ℕ). slice_set ws 1 ((slice_index ws 1 + 1) % 18446744073709551616)) k.words
              ∙ ap (λ (n : ℕ). word_of k.drawn ∷ n ∷ length (log k.value) ∷ []) (omega arith);
          homes = k.homes ∙ ap (λ n. home_of n k.value ∷ []) (sym (same_sum holding s.views seat v w at (sym (ap holding_at done))));
          line = line_served k.drawn k.served s.views seat v at done' k.line;
          numbers = numbers_stay k.next bound s.views seat v Idle at k.numbers;
          unused = k.unused;
          each = each_set (Stands log part base bound (k.served + 1) k.next k.value) s.views seat w
              (restaged log part base bound k.served (k.served + 1) k.next k.value v Idle st tt (omega arith))
              (λ j u n here.
              let us = k.each j u here in
              let none : has_ticket k.served u ≡ 0 = omega (arith, two (has_ticket k.served) s.views seat j v u n at here, mine, total) in
              restaged log part base bound k.served (k.served + 1) k.next k.value u u.stage us (waits_on k.served (k.served + 1) k.value k.value u.stage us.stage none) us.booked);
        },
        refl,
      )

  -- another view stands as before beside a value that grew by a number that it has not
  outgrown : (served next number : ℕ) (x y : X) (u : View X) → Grows log part number x y → keeps_number number u ≡ 0 → StageIs served y u.stage → Stands log part base bound served next x u → Stands log part base bound served next y u
  outgrown served next number x y u g lacks is k = record {
    stage = is;
    booked = k.booked;
    origin = k.origin;
    fronts = λ i d lt. front_grows log part number x y g _ (k.fronts i d lt);
    books = books_stay log part number x y g u.books lacks k.books;
    follows = k.follows;
    leads = k.leads;
  }

  -- the view whose number made the entries knows them
  recorded : (served next ticket : ℕ) (x y : X) (v : View X) → Grows log part (first_number v.books) x y → keeps_number (first_number v.books) v ≤ 1 → 0 < places v → ticket ≡ served
      → Stands log part base bound served next x v → Stands log part base bound served next y (at_stage (Done ticket) (left_with log part y v))
  recorded served next ticket x y v g once booked turn k =
      let number : ℕ = first_number v.books in
      let own = entries_by number (log y) in
      let more : 0 < length v.books → 0 < length (left_with log part y v).books = λ h. subst (λ (n : ℕ). 0 < n) (sym (rewritten-length own (part y number) v.books)) h in
      let kept_same = rewritten-kept 0 own (part y number) v.books in record {
        stage = turn;
        booked = more booked;
        origin = λ _. k.origin booked;
        fronts = All-cons (λ front. BeginsWith (log y) front) (log y) [] ([], sym (append-nil (log y))) (All-nil (λ front. BeginsWith (log y) front));
        books = books_rewritten log part x y v.books g once k.books;
        follows = λ z. k.follows (sym kept_same ∙ z);
        leads = λ nz. k.leads (λ z. nz (kept_same ∙ z));
      }

  counts : (slots seat : ℕ) (v : View X) (ticket count : ℕ) (x y : X) → v.stage ≡ Holds ticket x → Grows log part (first_number v.books) x y → count ≡ length (log y)
      → Allows (Kept log part base bound) slots seat (v, (0, Some y) ∷ []) 2 (λ _. count) (λ n m. (t : ℕ) (before after : X) → v.stage ≡ Holds t before → ◌≡◌ {A = List (ℕ × Option X)} ((0, Some y) ∷ []) ((0, Some after) ∷ [])
      → m ≡ (at_stage (Done t) (left_with log part after v), []))
  counts slots seat v ticket count x y holds g is s k sized at fits =
      let w : View X = at_stage (Done ticket) (left_with log part y v) in
      let number : ℕ = first_number v.books in
      let st = k.each seat v at in
      let here = subst (StageIs k.served k.value) holds st.stage in
      let turn : ticket ≡ k.served = here.0 in
      let g' : Grows log part number k.value y = subst (λ z. Grows log part number z y) here.1 g in
      let booked : 0 < places v = omega (arith, st.booked, ap busy_at holds) in
      let has = first_kept v.books booked in
      let known : number < k.next = grind (arith, k.numbers.fresh number, one (keeps_number number) s.views seat v at) in
      let only = k.numbers.given number known in
      let mine : has_ticket k.served v ≡ 1 = ap (ticket_at k.served) holds ∙ subst (λ (t : ℕ). ◌≡◌ {A = ℕ} (cond (eqb t k.served) 1 0) 1) (sym turn) (own_ticket k.served) in
      let in' = within k.drawn k.served k.served s.views seat v at mine k.line in
      let total = k.line.turns k.served in'.0 in'.1 in
      let own = entries_by number (log y) in
      let same : (n : ℕ) → keeps_number n w ≡ keeps_number n v = λ n. rewritten-kept n own (part y number) v.books in
      let less = under holding (has_ticket k.served) s.views (λ j u there. holds_its_ticket k.served k.value u.stage (k.each j u there).stage) in
      let holding_none : sum_by holding (set s.views seat w) ≡ 0 = omega (arith, moved holding s.views seat v w at, ap holding_at holds, less, total) in (
        w,
        gives,
        tt,
        record {
          drawn = k.drawn;
          served = k.served;
          next = k.next;
          value = y;
          words = ap (λ (ws : List ℕ). slice_set ws 2 count) k.words ∙ ap (λ (n : ℕ). word_of k.drawn ∷ word_of k.served ∷ n ∷ []) is;
          homes = ap (λ hs. slice_set hs 0 (some (Some y))) k.homes ∙ ap (λ n. home_of n y ∷ []) (sym holding_none);
          line = line_stays k.drawn k.served s.views seat v w at (sym (ap busy_at holds)) (λ t. sym (ap (ticket_at t) holds)) k.line;
          numbers = record {
            given = λ n h. same_sum (keeps_number n) s.views seat v w at (same n) ∙ k.numbers.given n h;
            fresh = λ n h. same_sum (keeps_number n) s.views seat v w at (same n) ∙ k.numbers.fresh n h;
            all_kept = same_sum places s.views seat v w at (rewritten-length own (part y number) v.books) ∙ k.numbers.all_kept;
            most = k.numbers.most;
            narrow = k.numbers.narrow;
          };
          unused = record {
            entries = λ n h. others_stay log part number k.value y g' n (λ e. absurd (omega arith)) ∙ k.unused.entries n h;
            parts = λ n h low. g'.parts n (λ e. absurd (omega arith)) ∙ k.unused.parts n h low;
            clean = k.unused.clean;
          };
          each = each_set (Stands log part base bound k.served k.next y) s.views seat w
              (recorded k.served k.next ticket k.value y v g' (omega (arith, one (keeps_number number) s.views seat v at, only)) booked turn st)
              (λ j u n there.
              let us = k.each j u there in
              let other : keeps_number number u ≡ 0 = omega (arith, two (keeps_number number) s.views seat j v u n at there, has, only) in
              let idle : has_ticket k.served u ≡ 0 = omega (arith, two (has_ticket k.served) s.views seat j v u n at there, mine, total) in
              outgrown k.served k.next number k.value y u g' other (waits_on k.served k.served k.value y u.stage us.stage idle) us);
        },
        (λ t before after e e'.
            let same : ticket ≡ t = cc in let same' : y ≡ after = ap (lying y) e' in
            ap₂ (λ (a : ℕ) (b : X). (at_stage (Done a) (left_with log part b v), [])) same same'),
      )

  pub counts_out : (slots seat : ℕ) (m : Me (Option X) (View X)) (ticket count : ℕ) (x y : X) → m.0.stage ≡ Holds ticket x → m.1 ≡ (0, Some y) ∷ [] → Grows log part (first_number m.0.books) x y → count ≡ length (log y)
      → Allows (Kept log part base bound) slots seat m 2 (λ _. count) (λ n m'. (t : ℕ) (before after : X) → m.0.stage ≡ Holds t before → m.1 ≡ (0, Some after) ∷ [] → m' ≡ (at_stage (Done t) (left_with log part after m.0), []))
  counts_out slots seat m ticket count x y holds hand g is =
      subst
      (λ (c : List (ℕ × Option X)). Allows (Kept log part base bound) slots seat (m.0, c) 2 (λ _. count)
      (λ n m'. (t : ℕ) (before after : X) → m.0.stage ≡ Holds t before → c ≡ (0, Some after) ∷ [] → m' ≡ (at_stage (Done t) (left_with log part after m.0), [])))
      (sym hand) (counts slots seat m.0 ticket count x y holds g is)
