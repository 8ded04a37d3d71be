-- The example's run, line by line.
use Rattle.std.proofs.Common.{true, false, Some, None, [], ◌∷◌, refl}
use Rattle.std.specs.Prelude.{Ok}
use Rattle.cfs_print.specs.declared.printed.Printed.TheVariants as answers
use Rattle.cfs_script.specs.declared.form.Form.TheVariants as forms
use Rattle.cfs_meaning.specs.Drive.{Drive}
use Rattle.cfs_meaning.specs.World.{Descriptor, World}
use Rattle.cfs_meaning.specs.Laws.{IsCalm}
use Rattle.cfs_meaning.specs.Example.{TheLinesAnswer, its_flags, new_world}
use Rattle.cfs_meaning.specs.Files.{clear_way, serve_helped, serves, works}
use Rattle.cfs_file.specs.declared.request.Request.TheVariants as requests
use Rattle.cfs_meaning.specs.Inode.{admit_read, apply, comes, dispatch, finish, run_job, serve}
use Rattle.cfs_meaning.specs.Play.{does, goes_on, run_ends, steps_so}
use Rattle.cfs_meaning.specs.Ways.{changes, counts, follows, gives, now, rests, well}
use Rattle.cfs_meaning.proofs.CalmSteps.{next-calm, prints, steps-calm, try-calm}

-- ---- the lines

abbrev line-one : (drive : Drive) →
    (new : World) × does 1 (forms.Caller 1 10 10) (new_world 1 drive) (Ok None) new
line-one drive = (_, follows changes gives)

abbrev line-two : (drive : Drive) → IsCalm drive →
    (new : World) × does 2 (forms.Open 1 ((97 ∷ []) ∷ []) its_flags 420) (line-one drive).0
    (Ok (Some (answers.Opened 1 0 2))) new
line-two drive calm = (
  _,
  follows (follows now
      -- the request is asked
      (follows (follows now (follows now (follows gives (follows
      -- its change is stored
      (follows (follows now (follows gives (follows now (follows gives (follows (try-calm calm)
      (follows changes gives)))))) gives)
      (follows changes gives)))))
      -- and it is opened
      (follows now (follows changes gives)))) gives,
)

abbrev line-three : (drive : Drive) (calm : IsCalm drive) →
    (new : World) × does 3 (forms.Pwrite 1 0 0 (104 ∷ 105 ∷ [])) (line-two drive calm).0
    (Ok (Some (answers.Wrote 2 1 0 2))) new
line-three drive calm =
    let one = next-calm _ _ calm in
    let two = next-calm _ _ one in
    let three = next-calm _ _ two in
    let four = next-calm _ _ three in (
      _,
      follows (follows now
          (follows (follows (follows now gives)
          (follows gives gives))
          (follows gives (follows gives
          (follows (follows (rests (follows changes (follows now gives))) gives)
          (follows (follows now (follows (steps-calm one) (follows now (follows gives (follows gives
          (follows (follows (steps-calm two) gives)
          (follows (follows now gives) (follows now (follows gives
          (follows (follows (follows now (follows changes (follows (try-calm three)
          (follows (comes refl) gives)))) gives)
          (follows (follows (try-calm four) (follows (comes refl) (follows changes gives)))
          (follows now (follows gives gives)))))))))))))
          (follows gives (follows now gives)))))))) gives,
    )

-- ---- the read, which first brings the write home

abbrev its_descriptor : Descriptor
its_descriptor = record {
  fd = 0;
  grant = record { number = 1; ino = 2; queue = 0; caller = 1; reads = true; writes = true };
  appends = false;
  position = 0;
  posted = [];
}

abbrev admitted : (drive : Drive) (calm : IsCalm drive) →
    (new : World) × admit_read its_descriptor 1 4 (requests.Read 0 4) (line-three drive calm).0
    (Ok 2) new
admitted drive calm = (_, follows now (follows (comes refl) (follows changes gives)))

abbrev dispatched : (drive : Drive) (calm : IsCalm drive) →
    (new : World) × dispatch 2 1 (admitted drive calm).0 (Ok tt) new
dispatched drive calm = (_, follows (comes refl) changes)

abbrev written : (drive : Drive) (calm : IsCalm drive) →
    (new : World) × apply 2 1 (dispatched drive calm).0 (Ok tt) new
written drive calm =
    let one = next-calm _ _ calm in
    let two = next-calm _ _ one in
    let three = next-calm _ _ two in
    let four = next-calm _ _ three in
    let five = next-calm _ _ four in
    let six = next-calm _ _ five in (
      _,
      follows now (follows now (follows (steps-calm five) (follows (try-calm six)
          (follows now (follows (comes refl) gives))))),
    )

abbrev flushed : (drive : Drive) (calm : IsCalm drive) →
    (new : World) × apply 2 1 (written drive calm).0 (Ok tt) new
flushed drive calm =
    let one = next-calm _ _ calm in
    let two = next-calm _ _ one in
    let three = next-calm _ _ two in
    let four = next-calm _ _ three in
    let five = next-calm _ _ four in
    let six = next-calm _ _ five in
    let seven = next-calm _ _ six in
    (_, follows now (follows now (follows (try-calm seven) (follows (comes refl) gives))))

abbrev finished : (drive : Drive) (calm : IsCalm drive) →
    (new : World) × finish 2 1 (flushed drive calm).0 (Ok false) new
finished drive calm =
    let one = next-calm _ _ calm in
    let two = next-calm _ _ one in
    let three = next-calm _ _ two in
    let four = next-calm _ _ three in
    let five = next-calm _ _ four in
    let six = next-calm _ _ five in
    let seven = next-calm _ _ six in
    let eight = next-calm _ _ seven in
    let nine = next-calm _ _ eight in
    let ten = next-calm _ _ nine in (
      _,
      follows now (follows (follows now
          (follows (follows (try-calm eight) (follows gives (follows (try-calm nine) gives)))
          (follows (follows now (try-calm ten)) (follows (comes refl) changes)))) gives),
    )

abbrev worked : (drive : Drive) (calm : IsCalm drive) →
    run_job 2 1 (admitted drive calm).0 (Ok false) (finished drive calm).0
worked drive calm =
    let there : World = (dispatched drive calm).0 in
    follows {mid = there} (dispatched drive calm).1
    (follows {mid = there} {a = there} now
    (follows {mid = (flushed drive calm).0} (well
    (follows {mid = (written drive calm).0} (written drive calm).1
    (follows {mid = (flushed drive calm).0} (flushed drive calm).1 gives)))
    (finished drive calm).1))

abbrev served : (drive : Drive) (calm : IsCalm drive) →
    (new : World) × serve 2 2 (finished drive calm).0 (Ok (104 ∷ 105 ∷ [])) new
served drive calm =
    let one = next-calm _ _ calm in
    let two = next-calm _ _ one in
    let three = next-calm _ _ two in
    let four = next-calm _ _ three in
    let five = next-calm _ _ four in
    let six = next-calm _ _ five in
    let seven = next-calm _ _ six in
    let eight = next-calm _ _ seven in
    let nine = next-calm _ _ eight in
    let ten = next-calm _ _ nine in
    let eleven = next-calm _ _ ten in
    (_, follows now (follows (steps-calm eleven) (follows (comes refl) gives)))

abbrev cleared : (drive : Drive) (calm : IsCalm drive) →
    clear_way 2 2 (admitted drive calm).0 (Ok true) (finished drive calm).0
cleared drive calm =
    follows {a = (admitted drive calm).0} now (follows (works refl (worked drive calm)) gives)

abbrev clear : (drive : Drive) (calm : IsCalm drive) →
    clear_way 2 2 (finished drive calm).0 (Ok false) (finished drive calm).0
clear drive calm = follows {a = (finished drive calm).0} now gives

abbrev helped : (drive : Drive) (calm : IsCalm drive) →
    serve_helped 2 2 (admitted drive calm).0 (Ok (104 ∷ 105 ∷ [])) (served drive calm).0
helped drive calm =
    well (follows {mid = (finished drive calm).0}
    (counts (cleared drive calm) (rests (clear drive calm))) (served drive calm).1)

abbrev line-four : (drive : Drive) (calm : IsCalm drive) →
    does 4 (forms.Pread 1 0 0 4) (line-three drive calm).0
    (Ok (Some (answers.Got 2 2 (104 ∷ 105 ∷ [])))) (served drive calm).0
line-four drive calm =
    follows (follows now
    (follows (follows (follows now gives) (follows gives gives))
    (follows (admitted drive calm).1
    (follows (serves (helped drive calm)) (follows now gives))))) gives

-- ---- the run

pub the-lines-answer : TheLinesAnswer
the-lines-answer drive calm =
    let one = next-calm _ _ calm in
    let two = next-calm _ _ one in
    let three = next-calm _ _ two in
    let four = next-calm _ _ three in
    let five = next-calm _ _ four in
    let six = next-calm _ _ five in
    let seven = next-calm _ _ six in
    let eight = next-calm _ _ seven in
    let nine = next-calm _ _ eight in
    let ten = next-calm _ _ nine in
    let eleven = next-calm _ _ ten in
    let twelve = next-calm _ _ eleven in (
      (served drive calm).0,
      goes_on (steps_so (Ok None) (line-one drive).1)
          (goes_on (prints one (line-two drive calm).1)
          (goes_on (prints five (line-three drive calm).1)
          (goes_on (prints twelve (line-four drive calm)) run_ends))),
    )
