-- An entry whose mark an image has set is covered by a later one.
use Rattle.std.proofs.Common.{◌≡◌, inl, inr, ℕ, ◌+◌, ◌-◌, ◌<◌, true, false, length, get_or, arith, refl}
use Rattle.std.proofs.lemmas.Bool.{cases_lt}
use Rattle.std.proofs.lemmas.List.{get_or_past}
use Rattle.cfs_file.specs.Span.{reaches_over}
use Rattle.cfs_core.specs.declared.flag.Flag.{Flag}
use Rattle.cfs_core.specs.declared.flag.Flag.TheVariants.{Off, On, Unsure}
use Rattle.cfs_core.specs.declared.image.Image.{Image}
use Rattle.cfs_core.specs.declared.inode_core.Core.{Core}
use Rattle.cfs_core.specs.Words.{blank, can_be, is_off, track}
use Rattle.cfs_core.specs.Medium.{bit_at, is_image}
use Rattle.cfs_core.proofs.Alive.{some_bit}
use Rattle.cfs_core.proofs.Images.{at-next}
use Rattle.cfs_core.proofs.Kept.{IsLogged, at}
use Rattle.cfs_core.proofs.Order.{as_many_marks, mark_allowed, track_is}
use Rattle.cfs_core.proofs.StoredFrames.{no_clash}

set_unsure : (f : Flag) → can_be f true ≡ true → is_off f ≡ false
set_unsure Off can = cc
set_unsure On can = refl
set_unsure Unsure can = refl

pub marks-covered : (core : Core) (image : Image) → IsLogged core → is_image core image ≡ true →
    (place : ℕ) → bit_at image.marks place ≡ true →
    (by : ℕ) × ((place < by)
    × (reaches_over (track core.tracks by).span (track core.tracks place).span ≡ true))
marks-covered core image logged h place bit =
    let some = some_bit image.marks place bit in
    let at_place : track core.tracks place ≡ get_or core.tracks (place - 1) blank =
    track_is core.tracks place (place - 1) some.0 refl in
    elim (cases_lt (place - 1) (length core.tracks)) [
      | inl within ↦
          let by = logged.covered (place - 1)
          (set_unsure (at core (place - 1)).mark
          (rw some.1 at (mark_allowed core image (place - 1) h within))) in
          (by.0 + 1, (above some.0 by.0 by.1.0, rw (at-next core by.0, at_place) by.1.1.1))
      | inr past ↦
          let none : get_or image.marks (place - 1) false ≡ false =
          get_or_past image.marks (place - 1) false
          (omega (arith, as_many_marks core image h)) in
          absurd (no_clash (get_or image.marks (place - 1) false) some.1 none)
    ]
  where
    above : (place ≡ 0 → ⊥) → (by : ℕ) → place - 1 < by → place < by + 1
    above some by less = omega arith
