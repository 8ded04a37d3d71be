-- The track of a place.
use Rattle.std.proofs.Common.{◌≡◌, ◌∙◌, ◌-◌, ◌<◌, get_or, length, List, refl, set, true, false, ℕ, Bool, subst}
use Rattle.std.proofs.lemmas.Grind.{get_or-set_at}
use Rattle.cfs_core.specs.declared.state.State.{State}
use Rattle.cfs_core.specs.declared.state.State.TheVariants.{Closed}
use Rattle.cfs_core.specs.declared.track.Track.{Track}
use Rattle.cfs_core.specs.Words.{blank, has_block, track}
use Rattle.cfs_core.proofs.Order.{some_place, track_is}
use Rattle.cfs_core.proofs.StoredFrames.{in_tracks}

pub track-here : (tracks : List Track) (place : ℕ) (t : Track) → (place ≡ 0 → ⊥) →
    place - 1 < length tracks → track (set tracks (place - 1) t) place ≡ t
track-here tracks place t some within =
    track_is (set tracks (place - 1) t) place (place - 1) some refl
    ∙ get_or-set_at tracks (place - 1) (place - 1) t blank refl within

-- where a state passes that of no request, the place is one of the log
pub in-log : (test : State → Bool) → test Closed ≡ false → (tracks : List Track) (place : ℕ) →
    test (track tracks place).state ≡ true → (place ≡ 0 → ⊥) × (place - 1 < length tracks)
in-log test none tracks place h =
    let some = some_place test none tracks place h in
    let here : test (get_or tracks (place - 1) blank).state ≡ true =
    subst (λ (t : Track). test t.state ≡ true) (track_is tracks place (place - 1) some refl) h in
    (some, in_tracks test tracks (place - 1) none here)

pub no-block : (s : State) (block : ℕ) → s ≡ Closed → has_block s block ≡ true → ⊥
no-block s block closed h = (let none : has_block s block ≡ false = rw closed refl in cc)
