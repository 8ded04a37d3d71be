-- What is named as the next to be marked may be marked.
use Rattle.std.proofs.Common.{◌≡◌, ◌∙◌, ap, arith, ◌<◌, ◌&&◌, inl, inr, List, [], ◌∷◌, not, Option, None, Some, refl, sym, true, false, ℕ, Bool}
use Rattle.std.specs.Prelude.{nat_lt, option_map}
use Rattle.std.specs.List.{find, list_any}
use Rattle.std.proofs.lemmas.Bool.{cases_Bool}
use Rattle.std.proofs.lemmas.Bool.Decides.{nat_tests}
use Rattle.cfs_file.specs.Span.{reaches_over}
use Rattle.cfs_core.specs.declared.inode_core.Core.{Core}
use Rattle.cfs_core.proofs.Legal.{both}
use Rattle.cfs_tracker.specs.declared.doing.Doing.TheVariants.{Marking}
use Rattle.cfs_tracker.specs.declared.pending.Pending.{Pending}
use Rattle.cfs_tracker.specs.View.{TrackerView, doing, entry_at, entry_place, is_at, with_entry}
use Rattle.cfs_tracker.specs.Dispatch.{is_waiting_doing}
use Rattle.cfs_tracker.specs.Follows.{Follows, Rise}
use Rattle.cfs_tracker.specs.Mark.{NamedMayBeMarked, is_next_mark, is_read_between, may_cover, next_mark_by}
use Rattle.cfs_tracker.specs.Reads.{is_live_doing, place_of}
use Rattle.cfs_tracker.proofs.Entries.{above-find, at-with, found-place, found-test, here-with}

-- in a rising list, what is found by a test is found by its place
by-place : {S : Type 0} (test : Pending S → Bool) (low : ℕ) (es : List (Pending S))
    (e : Pending S) → Rise entry_place low es → find test es ≡ Some e →
    entry_at es e.place ≡ Some e
by-place test low [] e rise is = cc
by-place test low (x ∷ xs) e rise is = elim (cases_Bool (test x)) [
  | inl own ↦
      let it : find test (x ∷ xs) ≡ Some x = rw own refl in
      let same : x ≡ e = (let somes : Some x ≡ Some e = sym it ∙ is in cc) in
      let at : is_at e.place x ≡ true = (let eq : x.place ≡ e.place = ap entry_place same in
      grind (arith, nat_tests)) in
      rw at (ap Some same)
  | inr other ↦
      let rest : find test xs ≡ Some e =
      (let it : find test (x ∷ xs) ≡ find test xs = rw other refl in sym it ∙ is) in
      let above : x.place < e.place = above-find entry_place test x.place xs e rise.1 rest in
      let past : is_at e.place x ≡ false = grind (arith, nat_tests) in
      rw past (by-place test x.place xs e rise.1 rest)
]

pub later-there : {S D B : Type 0} (view : TrackerView S D B) (later : Option (Pending S))
    (after place : ℕ) → next_mark_by view later after ≡ Some place →
    (l : Pending S) × (e : Pending S) × (later ≡ Some l)
    × (find (is_next_mark view.reads l after) view.entries ≡ Some e) × (e.place ≡ place)
later-there view None after place h = cc
later-there {S} view (Some l) after place h =
    go (find (is_next_mark view.reads l after) view.entries) refl h
  where
    go : (found : Option (Pending S)) →
        find (is_next_mark view.reads l after) view.entries ≡ found →
        place_of found ≡ Some place →
        (k : Pending S) × (e : Pending S) × (Some l ≡ Some k)
        × (find (is_next_mark view.reads k after) view.entries ≡ Some e) × (e.place ≡ place)
    go None is named = cc
    go (Some e) is named = (l, e, refl, is, cc)

pub named-marks : {S D B : Type 0} (view : TrackerView S D B) (core : Core) →
    Follows view core → NamedMayBeMarked view
named-marks {S} view core follows by after place h =
    let both_ = later-there view (entry_at view.entries by) after place h in
    let l = both_.0 in
    let e = both_.1 in
    let test = found-test (is_next_mark view.reads l after) view.entries e both_.3 in
    let covers = may_cover view.reads l e in
    let one = both (nat_lt after e.place) (is_waiting_doing e.doing && covers) test in
    let two = both (is_waiting_doing e.doing) covers one.1 in
    let rest = is_live_doing l.doing
    && (reaches_over l.span e.span
    && not (list_any (is_read_between e.place l.place e.span) view.reads)) in
    let before : nat_lt e.place l.place ≡ true = (both (nat_lt e.place l.place) rest two.1).0 in
    let at_by : l.place ≡ by = found-place view.entries by l both_.2 in
    let less : place < by = (let at : e.place ≡ place = both_.4 in grind (arith, nat_tests)) in
    let own : entry_at view.entries place ≡ Some e =
    ap (entry_at view.entries) (sym both_.4)
    ∙ by-place (is_next_mark view.reads l after) 0 view.entries e follows.rise both_.3 in
    let here : entry_at (with_entry place (doing Marking) view.entries) place
    ≡ Some (doing Marking e) =
    here-with view.entries place (doing Marking) (λ x. refl) ∙ ap (option_map (doing Marking)) own in
    let there : entry_at (with_entry place (doing Marking) view.entries) by ≡ Some l =
    at-with view.entries place by (doing Marking) (λ x. refl) (λ same. omega arith) ∙ both_.2 in
    rw (there, here) two.1
