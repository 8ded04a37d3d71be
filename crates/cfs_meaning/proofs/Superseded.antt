-- The run of two writes of which the second covers the first, line by line.
use Rattle.std.proofs.Common.{false, Some, None, [], ◌∷◌, refl}
use Rattle.std.specs.Prelude.{Ok}
use Rattle.cfs_print.specs.declared.listed.Letter.TheVariants as letters
use Rattle.cfs_print.specs.declared.printed.Printed.TheVariants as answers
use Rattle.cfs_script.specs.declared.form.Form.TheVariants as forms
use Rattle.cfs_meaning.specs.Drive.{Drive}
use Rattle.cfs_meaning.specs.World.{World}
use Rattle.cfs_meaning.specs.Laws.{IsCalm}
use Rattle.cfs_meaning.specs.Example.{TheWritesAnswer, its_flags, new_world}
use Rattle.cfs_meaning.specs.Inode.{comes}
use Rattle.cfs_meaning.specs.Play.{does, goes_on, run_ends, steps_so}
use Rattle.cfs_meaning.specs.Ways.{changes, follows, gives, now, rests}
use Rattle.cfs_meaning.proofs.CalmSteps.{next-calm, prints, steps-calm, try-calm}

abbrev line-one : (drive : Drive) →
    (new : World) × does 1 (forms.Caller 1 10 10) (new_world 2 drive) (Ok None) new
line-one drive = (_, follows changes gives)

-- the file is made, and opened again
abbrev line-two : (drive : Drive) → IsCalm drive →
    (new : World) × does 2 (forms.Open 1 ((97 ∷ []) ∷ []) its_flags 420) (line-one drive).0
    (Ok (Some (answers.Opened 1 0 2))) new
line-two drive calm = (
  _,
  follows (follows now
      (follows (follows now (follows now (follows gives (follows
      (follows (follows now (follows gives (follows now (follows gives (follows (try-calm calm)
      (follows changes gives)))))) gives)
      (follows changes gives)))))
      (follows now (follows changes gives)))) gives,
)

abbrev line-three : (drive : Drive) (calm : IsCalm drive) →
    (new : World) × does 3 (forms.Open 1 ((97 ∷ []) ∷ []) (record its_flags { create = false }) 0)
    (line-two drive calm).0 (Ok (Some (answers.Opened 2 1 2))) new
line-three drive calm = (
  _,
  follows (follows now
      (follows (follows now (follows now (follows gives (follows gives (follows changes gives)))))
      (follows now (follows changes gives)))) gives,
)

-- a block is zeroed and tagged for the first write
abbrev line-four : (drive : Drive) (calm : IsCalm drive) →
    (new : World) × does 4 (forms.Pwrite 1 0 0 (97 ∷ 97 ∷ [])) (line-three drive calm).0
    (Ok (Some (answers.Wrote 2 1 0 2))) new
line-four drive calm =
    let one = next-calm _ _ calm in
    let two = next-calm _ _ one in
    let three = next-calm _ _ two in
    let four = next-calm _ _ three in (
      _,
      follows (follows now
          (follows (follows (follows now gives) (follows gives gives))
          (follows gives (follows gives
          (follows (follows (rests (follows changes (follows now gives))) gives)
          (follows (follows now (follows (steps-calm one) (follows now (follows gives (follows gives
          (follows (follows (steps-calm two) gives)
          (follows (follows now gives) (follows now (follows gives
          (follows (follows (follows now (follows changes (follows (try-calm three)
          (follows (comes refl) gives)))) gives)
          (follows (follows (try-calm four) (follows (comes refl) (follows changes gives)))
          (follows now (follows (gives) gives)))))))))))))
          (follows gives (follows now gives)))))))) gives,
    )

-- the second one needs no block, and marks the first one
abbrev line-five : (drive : Drive) (calm : IsCalm drive) →
    (new : World) × does 5 (forms.Pwrite 1 1 0 (98 ∷ 98 ∷ 98 ∷ [])) (line-four drive calm).0
    (Ok (Some (answers.Wrote 2 2 0 3))) new
line-five drive calm =
    let one = next-calm _ _ calm in
    let two = next-calm _ _ one in
    let three = next-calm _ _ two in
    let four = next-calm _ _ three in
    let five = next-calm _ _ four in
    let six = next-calm _ _ five in
    let seven = next-calm _ _ six in (
      _,
      follows (follows now
          (follows (follows (follows now gives) (follows gives gives))
          (follows gives (follows gives
          (follows (follows (rests (follows changes (follows now gives))) gives)
          (follows (follows now (follows (steps-calm five) (follows now (follows gives
          (follows gives
          (follows (gives)
          (follows (follows now gives) (follows now (follows gives
          (follows (gives)
          (follows (follows (try-calm six) (follows (comes refl) (follows changes gives)))
          (follows now
          (follows (follows (follows now (follows (try-calm seven) (comes refl))) gives)
          gives)))))))))))))
          (follows gives (follows now gives)))))))) gives,
    )

abbrev line-six : (drive : Drive) (calm : IsCalm drive) →
    does 6 (forms.Queue 1 0) (line-five drive calm).0
    (Ok (Some (answers.Queued (record { place = 1; letter = letters.Idle } ∷ []))))
    (line-five drive calm).0
line-six drive calm = follows (follows now (follows (follows now gives) (follows now gives))) gives

abbrev line-seven : (drive : Drive) (calm : IsCalm drive) →
    does 7 (forms.Queue 1 1) (line-five drive calm).0
    (Ok (Some (answers.Queued (record { place = 2; letter = letters.Waiting } ∷ []))))
    (line-five drive calm).0
line-seven drive calm =
    follows (follows now (follows (follows now gives) (follows now gives))) gives

pub the-writes-answer : TheWritesAnswer
the-writes-answer drive calm =
    let one = next-calm _ _ calm in
    let two = next-calm _ _ one in
    let three = next-calm _ _ two in
    let four = next-calm _ _ three in
    let five = next-calm _ _ four in
    let six = next-calm _ _ five in
    let seven = next-calm _ _ six in
    let eight = next-calm _ _ seven in (
      (line-five drive calm).0,
      goes_on (steps_so (Ok None) (line-one drive).1)
          (goes_on (prints one (line-two drive calm).1)
          (goes_on (prints one (line-three drive calm).1)
          (goes_on (prints five (line-four drive calm).1)
          (goes_on (prints eight (line-five drive calm).1)
          (goes_on (prints eight (line-six drive calm))
          (goes_on (prints eight (line-seven drive calm)) run_ends)))))),
    )
