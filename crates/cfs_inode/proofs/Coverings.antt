-- All changes that one covers are marked.
use Rattle.std.proofs.Common.{◌≡◌, ◌∙◌, ◌⊎◌, ◌≤◌, ◌<◌, ◌+◌, ◌++◌, ◌&&◌, ap, arith, cond, filter}
use Rattle.std.proofs.Common.{inl, inr, List, [], ◌∷◌, length, map, Option, None, Some, refl, subst}
use Rattle.std.proofs.Common.{sym, true, false, ℕ, Bool}
use Rattle.std.specs.Prelude.{nat_lt}
use Rattle.std.specs.List.{find}
use Rattle.std.proofs.lemmas.Bool.{cases_Bool}
use Rattle.std.proofs.lemmas.Bool.Decides.{nat_tests}
use Rattle.std.proofs.lemmas.List.{length-append, map-append}
use Rattle.std.proofs.lemmas.List.Elements.{filter-append}
use Rattle.cfs_core.specs.declared.event.Event.{Event}
use Rattle.cfs_core.proofs.Legal.{both}
use Rattle.cfs_pmem.specs.declared.trace.Asked.{Asked}
use Rattle.cfs_tracker.specs.declared.doing.Doing.{Doing}
use Rattle.cfs_tracker.specs.declared.pending.Pending.{Pending}
use Rattle.cfs_tracker.specs.declared.reading.Reading.{Reading}
use Rattle.cfs_tracker.specs.Dispatch.{is_waiting_doing}
use Rattle.cfs_tracker.specs.Follows.{Rise}
use Rattle.cfs_tracker.specs.Reads.{place_of}
use Rattle.cfs_tracker.specs.Mark.{is_next_mark, marked_doing, may_cover, next_mark, next_mark_by}
use Rattle.cfs_tracker.specs.View.{TrackerView, doing, entry_at, entry_place, is_at, with_entry}
use Rattle.cfs_tracker.proofs.Entries.{above-find, at-with, found-place, found-test, rise-with}
use Rattle.cfs_tracker.proofs.Named.{later-there, named-marks}
use Rattle.cfs_inode.specs.declared.mark_answer.MarkAnswer.{MarkAnswer}
use Rattle.cfs_inode.specs.declared.mark_answer.MarkAnswer.TheVariants as marks
use Rattle.cfs_inode.specs.Covering.{MarksCovered, MarksEach, Try, covered_behind, covered_by}
use Rattle.cfs_inode.specs.Covering.{is_marked, places_tried, tried_events}
use Rattle.cfs_inode.specs.Makes.{CallMakes, Makes}
use Rattle.cfs_inode.specs.Marking.{MarkMakes, Marks, mark_events}
use Rattle.cfs_inode.specs.Stands.{Together}
use Rattle.cfs_inode.specs.View.{Held, Seens, StateView}
use Rattle.cfs_pmem.specs.Images.{Seen}
use Rattle.cfs_block.specs.BlockImages.{BlockStep}
use Rattle.cfs_inode.proofs.Composing.{makes-then}
use Rattle.cfs_inode.proofs.Resting.{rests}

-- ---- what one mark keeps

-- at most what the entry of the place is doing is another thing
pub record KeepsRest (place : ℕ) (old new : StateView) : Type 0 where
  pub ino : new.ino ≡ old.ino
  pub reads : new.tracker.reads ≡ old.tracker.reads
  pub entries : (new.tracker.entries ≡ old.tracker.entries)
      ⊎ ((now : Doing Held)
      × (new.tracker.entries ≡ with_entry place (doing now) old.tracker.entries))

pub mark-keeps : (obeys : Bool) (place : ℕ) (answer : MarkAnswer) (asked_old : List Asked)
    (old : StateView) (asked_new : List Asked) (new : StateView) →
    Marks obeys place answer asked_old old asked_new new → KeepsRest place old new
mark-keeps obeys place marks.Marked asked_old old asked_new new did = record {
  ino = ap (λ (s : StateView). s.ino) did.3.1;
  reads = ap (λ (s : StateView). s.tracker.reads) did.3.1;
  entries = inr (
    marked_doing (record did.0 { slots = did.1 }) true,
    ap (λ (s : StateView). s.tracker.entries) did.3.1,
  );
}
mark-keeps obeys place marks.Nothing asked_old old asked_new new did = record {
  ino = ap (λ (s : StateView). s.ino) did.1.1;
  reads = ap (λ (s : StateView). s.tracker.reads) did.1.1;
  entries = inl (ap (λ (s : StateView). s.tracker.entries) did.1.1);
}
mark-keeps obeys place marks.Failed asked_old old asked_new new did = record {
  ino = ap (λ (s : StateView). s.ino) did.3.1;
  reads = ap (λ (s : StateView). s.tracker.reads) did.3.1;
  entries = inr (
    marked_doing (record did.0 { slots = did.1 }) false,
    ap (λ (s : StateView). s.tracker.entries) did.3.1,
  );
}

-- ---- one more

pub each-more : (obeys : Bool) (tries : List Try) (try : Try) (asked_old : List Asked)
    (old : StateView) (asked : List Asked) (mid : StateView) (asked_new : List Asked)
    (new : StateView) → MarksEach obeys tries asked_old old asked mid →
    Marks obeys try.place try.answer asked mid asked_new new →
    MarksEach obeys (tries ++ try ∷ []) asked_old old asked_new new
each-more obeys [] try asked_old old asked mid asked_new new each mark = (
  asked_new,
  new,
  (
    subst (λ (a : List Asked). Marks obeys try.place try.answer a old asked_new new) each.0
        (subst (λ (s : StateView). Marks obeys try.place try.answer asked s asked_new new) each.1
        mark),
    (refl, refl),
  ),
)
each-more obeys (first ∷ tries) try asked_old old asked mid asked_new new each mark = (
  each.0,
  each.1,
  (
    each.2.0,
    each-more obeys tries try each.0 each.1 asked mid asked_new new each.2.1 mark,
  ),
)

no-more : {X : Type 0} (xs : List X) → xs ++ [] ≡ xs
no-more [] = refl
no-more (x ∷ xs) = ap (λ ys. x ∷ ys) (no-more xs)

append-both : {X : Type 0} (xs ys zs : List X) → (xs ++ ys) ++ zs ≡ xs ++ (ys ++ zs)
append-both [] ys zs = refl
append-both (x ∷ xs) ys zs = ap (λ es. x ∷ es) (append-both xs ys zs)

pub events-more : (by : ℕ) (tries : List Try) (try : Try) →
    tried_events by (tries ++ try ∷ [])
    ≡ tried_events by tries ++ mark_events try.place by try.answer
events-more by [] try = no-more (mark_events try.place by try.answer)
events-more by (first ∷ tries) try =
    ap (λ es. mark_events first.place by first.answer ++ es) (events-more by tries try)
    ∙ sym (append-both (mark_events first.place by first.answer) (tried_events by tries)
    (mark_events try.place by try.answer))

pub each-ino : (obeys : Bool) (tries : List Try) (asked_old : List Asked) (old : StateView)
    (asked_new : List Asked) (new : StateView) →
    MarksEach obeys tries asked_old old asked_new new → new.ino ≡ old.ino
each-ino obeys [] asked_old old asked_new new each = ap (λ (s : StateView). s.ino) each.1
each-ino obeys (try ∷ tries) asked_old old asked_new new each =
    each-ino obeys tries each.0 each.1 asked_new new each.2.1
    ∙ (mark-keeps obeys try.place try.answer asked_old old each.0 each.1 each.2.0).ino

-- what is named may be marked, so the marking of it is its event
pub named-makes : (place by after : ℕ) (answer : MarkAnswer) (asked_old : List Asked)
    (old : StateView) (asked_new : List Asked) (new : StateView) →
    next_mark old.tracker by after ≡ Some place →
    MarkMakes place by answer asked_old old asked_new new →
    CallMakes (mark_events place by answer) asked_old old asked_new new
named-makes place by after answer asked_old old asked_new new named makes =
    λ jobs core world together.
    makes (named-marks old.tracker core together.stands.follows by after place named) jobs core
    world together

-- a call behind a call of the same inode
pub call-then : (first second : List Event) (asked_old : List Asked) (old : StateView)
    (asked : List Asked) (mid : StateView) (asked_new : List Asked) (new : StateView) →
    mid.ino ≡ old.ino → CallMakes first asked_old old asked mid →
    CallMakes second asked mid asked_new new →
    CallMakes (first ++ second) asked_old old asked_new new
call-then first second asked_old old asked mid asked_new new same one two = λ jobs.
    makes-then old.ino (Together old jobs) (Together mid jobs) (Together new jobs) first second
    asked_old asked asked_new (one jobs)
    (subst (λ (n : ℕ). Makes n (Together mid jobs) second asked asked_new (Together new jobs)) same
    (two jobs))

pub marked-more : (tries : List Try) (try : Try) →
    length (filter (λ t. is_marked t.answer) (tries ++ try ∷ []))
    ≡ length (filter (λ t. is_marked t.answer) tries) + cond (is_marked try.answer) 1 0
marked-more tries try =
    ap length (filter-append (λ (t : Try). is_marked t.answer) tries (try ∷ []))
    ∙ (length-append (filter (λ t. is_marked t.answer) tries)
    (filter (λ t. is_marked t.answer) (try ∷ []))
    ∙ ap (λ n. length (filter (λ t. is_marked t.answer) tries) + n) (one (is_marked try.answer)))
  where
    one : (b : Bool) → length (cond b (try ∷ []) []) ≡ cond b 1 0
    one true = refl
    one false = refl

-- ---- what is named

pub record IsNamed (view : TrackerView Held Seens (Seen BlockStep)) (by after place : ℕ) : Type 0
  where
    pub later : Pending Held
    pub own : Pending Held
    pub there : entry_at view.entries by ≡ Some later
    pub found : find (is_next_mark view.reads later after) view.entries ≡ Some own
    pub at : own.place ≡ place
    pub above : after < place
    pub below : place < by

pub named-is : (view : TrackerView Held Seens (Seen BlockStep)) (by after place : ℕ) →
    next_mark view by after ≡ Some place → IsNamed view by after place
named-is view by after place h =
    let found = later-there view (entry_at view.entries by) after place h in
    let l = found.0 in
    let e = found.1 in
    let test = found-test (is_next_mark view.reads l after) view.entries e found.3 in
    let covers = may_cover view.reads l e in
    let one = both (nat_lt after e.place) (is_waiting_doing e.doing && covers) test in
    let two = both (is_waiting_doing e.doing) covers one.1 in
    let before : nat_lt e.place l.place ≡ true = (both (nat_lt e.place l.place) _ two.1).0 in
    let at_by : l.place ≡ by = found-place view.entries by l found.2 in
    let at : e.place ≡ place = found.4 in
    let low : nat_lt after e.place ≡ true = one.0 in
    record {
      later = l;
      own = e;
      there = found.2;
      found = found.3;
      at = at;
      above = grind (arith, nat_tests);
      below = grind (arith, nat_tests);
    }

-- ---- what is covered behind a place

-- behind a place that is less than all, it is no matter which
alike-behind : (reads : List Reading) (later : Pending Held) (one other low : ℕ)
    (es : List (Pending Held)) → one ≤ low → other ≤ low → Rise entry_place low es →
    filter (is_next_mark reads later one) es ≡ filter (is_next_mark reads later other) es
alike-behind reads later one other low [] a b rise = refl
alike-behind reads later one other low (e ∷ es) a b rise =
    let first : nat_lt one e.place ≡ true = (let up = rise.0 in grind (arith, nat_tests)) in
    let second : nat_lt other e.place ≡ true = (let up = rise.0 in grind (arith, nat_tests)) in
    let up : low < e.place = rise.0 in
    let rest = alike-behind reads later one other e.place es (omega arith) (omega arith) rise.1 in
    rw (first, second)
    (ap (λ ys. cond (is_waiting_doing e.doing && may_cover reads later e) (e ∷ ys) ys) rest)

first-behind : (reads : List Reading) (later : Pending Held) (after low : ℕ)
    (es : List (Pending Held)) (own : Pending Held) → Rise entry_place low es →
    find (is_next_mark reads later after) es ≡ Some own →
    filter (is_next_mark reads later after) es
    ≡ own ∷ filter (is_next_mark reads later own.place) es
first-behind reads later after low [] own rise found = cc
first-behind reads later after low (e ∷ es) own rise found =
    elim (cases_Bool (is_next_mark reads later after e)) [
      | inl hit ↦
          let it : find (is_next_mark reads later after) (e ∷ es) ≡ Some e = rw hit refl in
          let same : e ≡ own = (let somes : Some e ≡ Some own = sym it ∙ found in cc) in
          let low_ : nat_lt after e.place ≡ true =
          (both (nat_lt after e.place) (is_waiting_doing e.doing && may_cover reads later e)
          hit).0 in
          let less : after < e.place = grind (arith, nat_tests) in
          let self_ : nat_lt e.place e.place ≡ false = grind (arith, nat_tests) in
          let rest = alike-behind reads later after e.place e.place es (omega arith) (omega arith)
          rise.1 in
          let mine : filter (is_next_mark reads later e.place) (e ∷ es)
          ≡ filter (is_next_mark reads later e.place) es = rw self_ refl in
          let all : filter (is_next_mark reads later after) (e ∷ es)
          ≡ e ∷ filter (is_next_mark reads later e.place) (e ∷ es) =
          rw hit (ap (λ ys. e ∷ ys) (rest ∙ sym mine)) in
          subst (λ (x : Pending Held). filter (is_next_mark reads later after) (e ∷ es)
          ≡ x ∷ filter (is_next_mark reads later x.place) (e ∷ es)) same all
      | inr miss ↦
          let it : find (is_next_mark reads later after) es ≡ Some own =
          (let skip : find (is_next_mark reads later after) (e ∷ es)
          ≡ find (is_next_mark reads later after) es = rw miss refl in sym skip ∙ found) in
          let above : e.place < own.place =
          above-find entry_place (is_next_mark reads later after) e.place es own rise.1 it in
          let past : nat_lt own.place e.place ≡ false = grind (arith, nat_tests) in
          let mine : filter (is_next_mark reads later own.place) (e ∷ es)
          ≡ filter (is_next_mark reads later own.place) es = rw past refl in
          let here : filter (is_next_mark reads later after) (e ∷ es)
          ≡ filter (is_next_mark reads later after) es = rw miss refl in
          here ∙ (first-behind reads later after e.place es own rise.1 it
          ∙ ap (λ ys. own ∷ ys) (sym mine))
    ]

-- what the entry of a place does is no matter to what is covered behind it
redone-behind : (reads : List Reading) (later : Pending Held) (place : ℕ) (now : Doing Held)
    (es : List (Pending Held)) →
    map entry_place (filter (is_next_mark reads later place) (with_entry place (doing now) es))
    ≡ map entry_place (filter (is_next_mark reads later place) es)
redone-behind reads later place now [] = refl
redone-behind reads later place now (e ∷ es) = elim (cases_Bool (is_at place e)) [
  | inl own ↦
      let past : nat_lt place e.place ≡ false = grind (arith, nat_tests) in
      rw (own, past) refl
  | inr beside ↦
      let rest = redone-behind reads later place now es in
      rw beside
      (more (is_next_mark reads later place e)
      (filter (is_next_mark reads later place) (with_entry place (doing now) es))
      (filter (is_next_mark reads later place) es) rest)
]
  where
    more : (b : Bool) (xs ys : List (Pending Held)) → map entry_place xs ≡ map entry_place ys →
        map entry_place (cond b (e ∷ xs) xs) ≡ map entry_place (cond b (e ∷ ys) ys)
    more true xs ys same = ap (λ ps. e.place ∷ ps) same
    more false xs ys same = same

-- ---- one more is tried

-- how far the marks have come
pub record IsAt (old now : StateView) (by after : ℕ) (tries : List Try) : Type 0 where
  pub rise : Rise entry_place 0 now.tracker.entries
  pub all : places_tried tries
      ++ covered_behind now after (entry_at now.tracker.entries by) ≡ covered_by old by

none-behind : {X : Type 0} (test : X → Bool) (xs : List X) → find test xs ≡ None →
    filter test xs ≡ []
none-behind test [] h = refl
none-behind test (x ∷ xs) h = elim (cases_Bool (test x)) [
  | inl hit ↦ (let it : find test (x ∷ xs) ≡ Some x = rw hit refl in
      let clash : Some x ≡ None = sym it ∙ h in cc)
  | inr miss ↦ (let it : find test (x ∷ xs) ≡ find test xs = rw miss refl in
      rw miss (none-behind test xs (sym it ∙ h)))
]

behind-named : (now : StateView) (by after place : ℕ) (i : IsNamed now.tracker by after place) →
    Rise entry_place 0 now.tracker.entries →
    covered_behind now after (entry_at now.tracker.entries by)
    ≡ place ∷ covered_behind now place (Some i.later)
behind-named now by after place i rise =
    let es = now.tracker.entries in
    let reads = now.tracker.reads in
    ap (λ (o : Option (Pending Held)). covered_behind now after o) i.there
    ∙ (ap (λ ys. map entry_place ys) (first-behind reads i.later after 0 es i.own rise i.found)
    ∙ ap (λ (p : ℕ). p ∷ map entry_place (filter (is_next_mark reads i.later p) es)) i.at)

behind-kept : (now new : StateView) (by after place : ℕ) (i : IsNamed now.tracker by after place) →
    KeepsRest place now new →
    covered_behind new place (entry_at new.tracker.entries by)
    ≡ covered_behind now place (Some i.later)
behind-kept now new by after place i keeps = elim keeps.entries [
  | inl same ↦
      ap (λ es. covered_behind new place (entry_at es by)) same
      ∙ (ap (λ (o : Option (Pending Held)). covered_behind new place o) i.there
      ∙ (ap (λ es. map entry_place (filter (is_next_mark new.tracker.reads i.later place) es)) same
      ∙ ap (λ rs. map entry_place (filter (is_next_mark rs i.later place) now.tracker.entries))
      keeps.reads))
  | inr changed ↦
      let change = doing changed.0 in
      let there : entry_at new.tracker.entries by ≡ Some i.later =
      ap (λ es. entry_at es by) changed.1
      ∙ (at-with now.tracker.entries place by change (λ e. refl)
      (λ same. omega (arith, i.below, same)) ∙ i.there) in
      ap (λ (o : Option (Pending Held)). covered_behind new place o) there
      ∙ (ap (λ es. map entry_place (filter (is_next_mark new.tracker.reads i.later place) es))
      changed.1
      ∙ (ap (λ rs. map entry_place (filter (is_next_mark rs i.later place)
      (with_entry place change now.tracker.entries))) keeps.reads
      ∙ redone-behind now.tracker.reads i.later place changed.0 now.tracker.entries))
]

rise-kept : (place : ℕ) (now new : StateView) → KeepsRest place now new →
    Rise entry_place 0 now.tracker.entries → Rise entry_place 0 new.tracker.entries
rise-kept place now new keeps rise = elim keeps.entries [
  | inl same ↦ subst (λ es. Rise entry_place 0 es) (sym same) rise
  | inr changed ↦
      subst (λ es. Rise entry_place 0 es) (sym changed.1)
      (rise-with 0 now.tracker.entries place (doing changed.0) (λ e. refl) rise)
]

pub turned : (old now new : StateView) (by after : ℕ) (tries : List Try) (try : Try) →
    next_mark now.tracker by after ≡ Some try.place → KeepsRest try.place now new →
    IsAt old now by after tries → IsAt old new by try.place (tries ++ try ∷ [])
turned old now new by after tries try named keeps is =
    let i = named-is now.tracker by after try.place named in
    let ps = places_tried tries in
    let rest = covered_behind now try.place (Some i.later) in
    record {
      rise = rise-kept try.place now new keeps is.rise;
      all =
          ap (λ qs. qs ++ covered_behind new try.place (entry_at new.tracker.entries by))
          (map-append (λ (t : Try). t.place) tries (try ∷ []))
          ∙ (ap (λ qs. (ps ++ try.place ∷ []) ++ qs)
          (behind-kept now new by after try.place i keeps)
          ∙ (append-both ps (try.place ∷ []) rest
          ∙ (ap (λ qs. ps ++ qs) (sym (behind-named now by after try.place i is.rise))
          ∙ is.all)));
    }

ended-by : (now : StateView) (after : ℕ) (later : Option (Pending Held)) →
    next_mark_by now.tracker later after ≡ None → covered_behind now after later ≡ []
ended-by now after None h = refl
ended-by now after (Some later) h =
    ap (λ es. map entry_place es)
    (none-behind (is_next_mark now.tracker.reads later after) now.tracker.entries
    (none-found (find (is_next_mark now.tracker.reads later after) now.tracker.entries) h))
  where
    none-found : (found : Option (Pending Held)) → place_of found ≡ None → found ≡ None
    none-found None is = refl
    none-found (Some e) is = cc

pub ended : (old now : StateView) (by after : ℕ) (tries : List Try) →
    next_mark now.tracker by after ≡ None → IsAt old now by after tries →
    places_tried tries ≡ covered_by old by
ended old now by after tries none is =
    sym (no-more (places_tried tries))
    ∙ (ap (λ qs. places_tried tries ++ qs)
    (sym (ended-by now after (entry_at now.tracker.entries by) none)) ∙ is.all)

-- ---- the loop

-- what stands at the head of the loop: these marks were tried, the last one at `after`
pub record HasMarked (obeys : Bool) (by after count : ℕ) (asked_old : List Asked)
    (old : StateView) (asked_now : List Asked) (now : StateView) : Type 0 where
  pub tries : List Try
  pub each : MarksEach obeys tries asked_old old asked_now now
  pub at : Rise entry_place 0 old.tracker.entries → IsAt old now by after tries
  pub many : count ≡ length (filter (λ t. is_marked t.answer) tries)
  pub few : count ≤ after
  pub makes : CallMakes (tried_events by tries) asked_old old asked_now now

pub marked-none : (obeys : Bool) (by : ℕ) (asked : List Asked) (old : StateView) →
    HasMarked obeys by 0 0 asked old asked old
marked-none obeys by asked old = record {
  tries = [];
  each = (refl, refl);
  at = λ rise. record { rise = rise; all = refl };
  many = refl;
  few = omega arith;
  makes = rests old asked;
}

pub marked-next : (obeys : Bool) (by after count place : ℕ) (answer : MarkAnswer)
    (asked_old : List Asked) (old : StateView) (asked : List Asked) (now : StateView)
    (asked_new : List Asked) (new : StateView) →
    HasMarked obeys by after count asked_old old asked now →
    next_mark now.tracker by after ≡ Some place →
    Marks obeys place answer asked now asked_new new →
    MarkMakes place by answer asked now asked_new new →
    HasMarked obeys by place (count + cond (is_marked answer) 1 0) asked_old old asked_new new
marked-next obeys by after count place answer asked_old old asked now asked_new new has named mark
    makes =
    let try : Try = record { place = place; answer = answer } in
    let keeps = mark-keeps obeys place answer asked now asked_new new mark in
    let own = named-makes place by after answer asked now asked_new new named makes in
    let above = (named-is now.tracker by after place named).above in
    record {
      tries = has.tries ++ try ∷ [];
      each = each-more obeys has.tries try asked_old old asked now asked_new new has.each mark;
      at = λ rise. turned old now new by after has.tries try named keeps (has.at rise);
      many = ap (λ (n : ℕ). n + cond (is_marked answer) 1 0) has.many
          ∙ sym (marked-more has.tries try);
      few = omega (arith, has.few, above, at-most (is_marked answer));
      makes = subst (λ es. CallMakes es asked_old old asked_new new)
          (sym (events-more by has.tries try))
          (call-then (tried_events by has.tries) (mark_events place by answer) asked_old old asked
          now asked_new new (each-ino obeys has.tries asked_old old asked now has.each) has.makes
          own);
    }
  where
    at-most : (b : Bool) → cond b 1 0 ≤ 1
    at-most true = omega arith
    at-most false = omega arith

pub marked-all : (obeys : Bool) (by after count : ℕ) (asked_old : List Asked) (old : StateView)
    (asked_now : List Asked) (now : StateView) →
    HasMarked obeys by after count asked_old old asked_now now →
    next_mark now.tracker by after ≡ None →
    MarksCovered obeys by count asked_old old asked_now now
marked-all obeys by after count asked_old old asked_now now has none = record {
  tries = has.tries;
  each = has.each;
  all = λ rise. ended old now by after has.tries none (has.at rise);
  many = has.many;
  makes = has.makes;
}

pub at-most-one : (b : Bool) (n : ℕ) → n ≡ cond b 1 0 → n ≤ 1
at-most-one true n is = omega (arith, is)
at-most-one false n is = omega (arith, is)
