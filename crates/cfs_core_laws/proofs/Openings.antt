-- A core whose image was opened: what holds of each of its tracks.
use Rattle.std.proofs.Common.{◌≡◌, ℕ, suc, zero, Bool, true, false, cond, Option, Some, None, List, [], ◌∷◌, ◌++◌, filter, map, get_or, refl}
use Rattle.cfs_file.specs.declared.entry.Entry.{Entry}
use Rattle.cfs_core.specs.declared.doubt.Doubt.{Doubt}
use Rattle.cfs_core.specs.declared.state.State.TheVariants.{Waiting}
use Rattle.cfs_core.specs.declared.track.Track.{Track}
use Rattle.cfs_core.specs.declared.image.Image.{Image}
use Rattle.cfs_core.specs.declared.inode_core.Core.{Core}
use Rattle.cfs_core.specs.Words.{blank, track}
use Rattle.cfs_core.specs.Medium.{is_open}
use Rattle.cfs_core.specs.Opened.{live_tracks, open_tracks, opened_doubt, opened_track}

-- each of the list is so
abbrev pub Each : (Track → Type 0) → List Track → Type 0
Each P [] = Unit {0}
Each P (t ∷ ts) = P t × Each P ts

pub each-append : (P : Track → Type 0) (ts us : List Track) → Each P ts → Each P us →
    Each P (ts ++ us)
each-append P [] us first second = second
each-append P (t ∷ ts) us first second = (first.0, each-append P ts us first.1 second)

pub each-at : (P : Track → Type 0) (ts : List Track) (k : ℕ) → Each P ts → P blank →
    P (get_or ts k blank)
each-at P [] k each none = none
each-at P (t ∷ ts) zero each none = each.0
each-at P (t ∷ ts) (suc k) each none = each-at P ts k each.1 none

each-open : (P : Track → Type 0) (tracks : List Track) (image : Image) (log : List Entry) →
    ((e : Entry) → is_open image e.place ≡ true → P (opened_track (track tracks e.place))) →
    Each P (open_tracks tracks image log)
each-open P tracks image [] holds = tt
each-open P tracks image (e ∷ es) holds = pick (is_open image e.place) (holds e)
    (each-open P tracks image es holds)
  where
    pick : (b : Bool) → (b ≡ true → P (opened_track (track tracks e.place))) →
        Each P (open_tracks tracks image es) →
        Each P (map (λ x. opened_track (track tracks x.place))
        (cond b (e ∷ filter (λ x. is_open image x.place) es)
        (filter (λ x. is_open image x.place) es)))
    pick true first rest = (first refl, rest)
    pick false first rest = rest

each-doubt : (P : Track → Type 0) (o : Option Doubt) (gate : Bool) →
    ((doubt : Doubt) → o ≡ Some doubt → gate ≡ true →
    P (opened_track (record blank { grant = doubt.grant; span = doubt.span }))) →
    Each P (opened_doubt o gate)
each-doubt P None gate holds = tt
each-doubt P (Some doubt) true holds = (holds doubt refl refl, tt)
each-doubt P (Some doubt) false holds = tt

-- the tracks of what is live in the image
pub each-live : (P : Track → Type 0) (core : Core) (image : Image) →
    ((place : ℕ) → is_open image place ≡ true → P (opened_track (track core.tracks place))) →
    ((doubt : Doubt) → core.doubt ≡ Some doubt → image.doubt ≡ true →
    P (opened_track (record blank { grant = doubt.grant; span = doubt.span }))) →
    Each P (live_tracks core image)
each-live P core image logged doubted =
    each-append P (open_tracks core.tracks image core.log) (opened_doubt core.doubt image.doubt)
    (each-open P core.tracks image core.log (λ e is. logged e.place is))
    (each-doubt P core.doubt image.doubt doubted)

-- it waits, and nothing of it is done
pub record IsNew (t : Track) : Type 0 where
  pub waits : t.state ≡ Waiting
  pub none : t.done ≡ None

pub opened-new : (core : Core) (image : Image) → Each IsNew (live_tracks core image)
opened-new core image = each-live IsNew core image
    (λ place is. record { waits = refl; none = refl })
    (λ doubt is gate. record { waits = refl; none = refl })
