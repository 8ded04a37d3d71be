-- The journal of a store that passed its checks stands in its regions.
use Rattle.std.proofs.Common.{◌≡◌, ◌⊎◌, ◌∙◌, inl, inr, ℕ, ◌+◌, ◌-◌, ◌%◌, ◌^◌, ◌<◌, ◌≤◌}
use Rattle.std.proofs.Common.{List, [], length, get_or, None, refl, sym, ap, subst, arith}
use Rattle.std.proofs.lemmas.Bool.{cases_eq, cases_lt}
use Rattle.std.proofs.lemmas.Bool.Decides.{nat_tests}
use Rattle.std.proofs.lemmas.List.{get_or-map, length-map}
use Rattle.std.proofs.lemmas.Option.{get_or_from_slice_get, slice_get_within}
use Rattle.cfs_dir.specs.declared.change.Change.{Change}
use Rattle.cfs_image.specs.Checks.{damage_of}
use Rattle.cfs_pmem.specs.AllMoments.{AreDistinct}
use Rattle.cfs_pmem.specs.Images.{IsImage, Seen, WordStep, words_of}
use Rattle.cfs_pmem.specs.Objects.{all_devices, seen_at}
use Rattle.cfs_pmem.proofs.ImageLemmas.{now_is_image}
use Rattle.cfs_journal.specs.Records.{change_of, gate_of}
use Rattle.cfs_journal.specs.Standing.{IsNext, IsSpent, Standing, changes_above, place, walk}
use Rattle.cfs_journal.proofs.Walks.{some_change}
use Rattle.cfs_survey.specs.Journals.{bound_checks, gates_checks, home_checks, last_reached}
use Rattle.cfs_survey.proofs.FirstFaults.{holds_at, passed, sound_parts}
use Rattle.cfs_survey.proofs.WalkLemmas.{walk_at}
use Rattle.cfs_mount.specs.Words.{HoldWords}
use Rattle.cfs_mount.proofs.Walking.{walk_end, walk_few, walk_gate}
use Rattle.cfs_survey.specs.Faults.{checks_from}

-- what the two walks over all gates say of the gate at a position
record GateHolds (last position gate : ℕ) : Type 0 where
  bound : gate ≤ last
  home : (gate ≡ 0) ⊎ ((gate - 1) % 64 ≡ position)

gate_holds : (at last position : ℕ) (journal : List (List ℕ)) → position < 64 →
    damage_of (gates_checks at journal last) ≡ None →
    GateHolds last position (gate_of (get_or journal position []))
unfolding gates_checks
gate_holds at last position journal within sound =
    let both = sound_parts (checks_from (bound_checks at journal last) 0 64)
    (checks_from (home_checks at journal) 0 64) sound in
    let bound = holds_at (bound_checks at journal last) 0 64 position position (omega arith) within
    both.0 in
    let home = holds_at (home_checks at journal) 0 64 position position (omega arith) within
    both.1 in
    let gate : ℕ = gate_of (get_or journal position []) in
    record {
      bound = grind (arith, nat_tests, passed _ bound);
      home = elim (cases_eq gate 0) [
        | inl zero ↦ inl zero
        | inr opened ↦ inr (grind (arith, nat_tests, passed _ home, opened))
      ];
    }

-- a position that no record reached has is one of a spent record
spent_here : (through n k : ℕ) (image : List ℕ) → n ≤ k → k < 64 →
    GateHolds (through + n) ((through + k) % 64) (gate_of image) →
    IsSpent through ((through + k) % 64) image
spent_here through n k image above below holds = record {
  low = elim (cases_lt through (gate_of image)) [
    | inl over ↦ elim holds.home [
      | inl zero ↦ absurd (omega (arith, zero, over))
      | inr home ↦ absurd (omega (arith, over, home, holds.bound, above, below))
    ]
    | inr low ↦ omega (arith, low)
  ];
  placed = λ opened. elim holds.home [
    | inl zero ↦ absurd (opened zero)
    | inr home ↦ home
  ];
}

-- the journal's regions, which hold these words, hold the changes that a walk finds
pub checked-stands : (at through : ℕ) (journal : List (List ℕ)) (seens : List (Seen WordStep)) →
    length journal ≡ 64 → through < 2 ^ 63 →
    ((position : ℕ) → position < 64 → length (get_or journal position []) ≡ 16) →
    AreDistinct (all_devices seens) → HoldWords seens journal →
    damage_of (gates_checks at journal (last_reached through journal)) ≡ None →
    Standing through (changes_above through journal) None seens
checked-stands at through journal seens places low long distinct hold sound = record {
  size = hold.count ∙ places;
  few = omega (arith, changes_few, walk_few 64 through journal);
  low = low;
  room_for_doubt = λ some. absurd (some refl);
  words = λ position within.
      let now = hold.each position (omega (arith, within, places))
      (words_of (seen_at seens position)) (now_is_image (seen_at seens position).history) in
      ap (λ ws. length ws) now ∙ long position within;
  distinct = distinct;
  told_doubt = λ change is. absurd (cc);
  live = λ k change is image possible.
      let below : k < length (changes_above through journal) = slice_get_within
      (changes_above through journal) k change is in
      let within : k < n = omega (arith, below, changes_few) in
      let held : image ≡ get_or journal (place through k) [] = hold.each (place through k)
      (omega (arith, places)) image possible in
      let other : Change = some_change in
      let told : change_of (get_or (walk 64 through journal) k []) ≡ change =
      sym (get_or-map change_of (walk 64 through journal) k [] other within)
      ∙ get_or_from_slice_get (changes_above through journal) k change other is in
      record {
        gate = ap (λ ws. gate_of ws) held ∙ walk_gate 64 through journal k within;
        told = ap (λ ws. change_of ws) (held ∙ sym (walk_at 64 through journal k within)) ∙ told;
      };
  next = λ less image possible.
      let held : image ≡ get_or journal (place through n) [] = hold.each (place through n)
      (omega (arith, places)) image
      (subst (λ m. IsImage (seen_at seens (place through m)).history image) changes_few possible) in
      subst (λ m. IsNext through (through + m + 1) (place through m) None image) (sym changes_few)
      (record {
        opened = λ same. absurd (walk_end 64 through journal (omega (arith, less, changes_few))
            (ap (λ ws. gate_of ws) (sym held) ∙ same));
        shut = λ shut. spent_at n image (omega arith) (omega (arith, less, changes_few)) held;
      });
  spent = λ k above below image possible.
      spent_at k image (omega (arith, above, changes_few)) below
      (hold.each (place through k) (omega (arith, places)) image possible);
}
  where
    n : ℕ
    n = length (walk 64 through journal)

    changes_few : length (changes_above through journal) ≡ n
    changes_few = length-map (walk 64 through journal) change_of

    spent_at : (k : ℕ) (image : List ℕ) → n ≤ k → k < 64 →
        image ≡ get_or journal (place through k) [] → IsSpent through (place through k) image
    spent_at k image above below held =
        spent_here through n k image above below
        (subst (λ ws. GateHolds (through + n) (place through k) (gate_of ws)) (sym held)
        (gate_holds at (through + n) (place through k) journal (omega arith) sound))
