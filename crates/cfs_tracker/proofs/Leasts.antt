-- What is named first is the least.
use Rattle.std.proofs.Common.{◌≡◌, ◌∙◌, arith, ◌≤◌, inl, inr, List, [], ◌∷◌, Option, None, Some, refl, suc, sym, true, zero, ℕ, Bool}
use Rattle.std.specs.Prelude.{nat_le}
use Rattle.std.specs.List.{find, slice_get}
use Rattle.std.specs.Option.{option_or}
use Rattle.std.proofs.lemmas.Bool.{cases_Bool}
use Rattle.std.proofs.lemmas.Bool.Decides.{nat_tests}
use Rattle.cfs_core.specs.declared.inode_core.Core.{Core}
use Rattle.cfs_tracker.specs.declared.pending.Pending.{Pending}
use Rattle.cfs_tracker.specs.declared.reading.Reading.{Reading}
use Rattle.cfs_tracker.specs.View.{TrackerView, entry_place, reading_place}
use Rattle.cfs_tracker.specs.Dispatch.{is_ahead, is_read_ahead, lesser, read_place}
use Rattle.cfs_tracker.specs.Follows.{Follows, Rise}
use Rattle.cfs_tracker.specs.Least.{NoEntryIsLess, NoReadIsLess, NoneIsLessForReads}
use Rattle.cfs_tracker.specs.Reads.{has_needed, is_before, place_of}
use Rattle.cfs_tracker.proofs.Entries.{least}

none-passes : {X : Type 0} (test : X → Bool) (xs : List X) (y : X) (k : ℕ) →
    find test xs ≡ None → slice_get xs k ≡ Some y → test y ≡ true → ⊥
none-passes test [] y k none there passes = cc
none-passes test (x ∷ xs) y zero none there passes =
    let same : x ≡ y = (let somes : Some x ≡ Some y = there in cc) in
    let own : test x ≡ true = rw same passes in
    let it : find test (x ∷ xs) ≡ Some x = rw own refl in
    cc
none-passes test (x ∷ xs) y (suc k) none there passes = elim (cases_Bool (test x)) [
  | inl own ↦ (let it : find test (x ∷ xs) ≡ Some x = rw own refl in cc)
  | inr other ↦
      let rest : find test (x ∷ xs) ≡ find test xs = rw other refl in
      none-passes test xs y k (sym rest ∙ none) there passes
]

-- the lesser of two
less-first : (one other : Option ℕ) (p a : ℕ) → lesser one other ≡ Some p → one ≡ Some a → p ≤ a
less-first None other p a is own = cc
less-first (Some x) None p a is own =
    (let same : x ≡ p = cc in let it : x ≡ a = cc in omega arith)
less-first (Some x) (Some y) p a is own =
    (let it : x ≡ a = cc in
    elim (cases_Bool (nat_le x y)) [
      | inl le ↦
          let picked : lesser (Some x) (Some y) ≡ Some x = rw le refl in
          let same : Some x ≡ Some p = sym picked ∙ is in
          let eq : x ≡ p = cc in
          omega arith
      | inr gt ↦
          let picked : lesser (Some x) (Some y) ≡ Some y = rw gt refl in
          let same : Some y ≡ Some p = sym picked ∙ is in
          let eq : y ≡ p = cc in
          grind (arith, nat_tests)
    ])

less-other : (one other : Option ℕ) (p b : ℕ) → lesser one other ≡ Some p → other ≡ Some b → p ≤ b
less-other None (Some y) p b is own =
    (let same : y ≡ p = cc in let it : y ≡ b = cc in omega arith)
less-other None None p b is own = cc
less-other (Some x) None p b is own = cc
less-other (Some x) (Some y) p b is own =
    (let it : y ≡ b = cc in
    elim (cases_Bool (nat_le x y)) [
      | inl le ↦
          let picked : lesser (Some x) (Some y) ≡ Some x = rw le refl in
          let same : Some x ≡ Some p = sym picked ∙ is in
          let eq : x ≡ p = cc in
          grind (arith, nat_tests)
      | inr gt ↦
          let picked : lesser (Some x) (Some y) ≡ Some y = rw gt refl in
          let same : Some y ≡ Some p = sym picked ∙ is in
          let eq : y ≡ p = cc in
          omega arith
    ])

found-entry : {S : Type 0} (test : Pending S → Bool) (es : List (Pending S)) (other : Pending S)
    (k : ℕ) → Rise entry_place 0 es → slice_get es k ≡ Some other → test other ≡ true →
    (found : Option (Pending S)) → find test es ≡ found →
    (a : ℕ) × (place_of found ≡ Some a) × (a ≤ other.place)
found-entry test es other k rise there passes None is =
    absurd (none-passes test es other k is there passes)
found-entry test es other k rise there passes (Some x) is =
    (x.place, refl, least entry_place test 0 es x other k rise is there passes)

found-read : (test : Reading → Bool) (rs : List Reading) (other : Reading) (k : ℕ) →
    Rise reading_place 0 rs → slice_get rs k ≡ Some other → test other ≡ true →
    (found : Option Reading) → find test rs ≡ found →
    (a : ℕ) × (read_place found ≡ Some a) × (a ≤ other.place)
found-read test rs other k rise there passes None is =
    absurd (none-passes test rs other k is there passes)
found-read test rs other k rise there passes (Some x) is =
    (x.place, refl, least reading_place test 0 rs x other k rise is there passes)

pub no-entry-less : {S D B : Type 0} (view : TrackerView S D B) (core : Core) →
    Follows view core → NoEntryIsLess view
no-entry-less view core follows entry other named k is there passes =
    let test = is_ahead entry.place entry.span in
    let found = found-entry test view.entries other k follows.rise there passes
    (find test view.entries) refl in
    let le = less-first (place_of (find test view.entries))
    (read_place (find (is_read_ahead entry.place entry.span) view.reads)) named found.0 is
    found.1 in
    omega (arith, le, found.2)

pub no-read-less : {S D B : Type 0} (view : TrackerView S D B) (core : Core) →
    Follows view core → NoReadIsLess view
no-read-less view core follows entry other named k is there passes =
    let test = is_read_ahead entry.place entry.span in
    let found = found-read test view.reads other k follows.reads_rise there passes
    (find test view.reads) refl in
    let le = less-other (place_of (find (is_ahead entry.place entry.span) view.entries))
    (read_place (find test view.reads)) named found.0 is found.1 in
    omega (arith, le, found.2)

first-of : (one other : Option ℕ) (p a : ℕ) → option_or one other ≡ Some p → one ≡ Some a → p ≡ a
first-of None other p a is own = cc
first-of (Some x) other p a is own = (let same : x ≡ p = cc in let it : x ≡ a = cc in sym same ∙ it)

pub no-less-for-reads : {S D B : Type 0} (view : TrackerView S D B) (core : Core) →
    Follows view core → NoneIsLessForReads view
no-less-for-reads view core follows read other named k is there passes =
    let test = is_before read in
    let found = found-entry test view.entries other k follows.rise there passes
    (find test view.entries) refl in
    let same = first-of (place_of (find test view.entries))
    (place_of (find (λ e. has_needed read.span e.doing) view.entries)) named found.0 is found.1 in
    omega (arith, same, found.2)
