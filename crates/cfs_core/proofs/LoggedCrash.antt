-- A crash and a mount keep the log's part of the invariant, and a fresh core has it.
use Rattle.std.proofs.Common.{◌≡◌, ◌⊎◌, inl, inr, ℕ, ◌<◌, Bool, true, false, Option, Some, None, List, [], length, map, get_or, arith, refl}
use Rattle.std.proofs.lemmas.Bool.{cases_lt}
use Rattle.std.proofs.lemmas.List.{get_or_past}
use Rattle.std.proofs.lemmas.List.FromFn.{get_or-map-range_with_len, length-map-range_with_len}
use Rattle.cfs_file.specs.declared.entry.Entry.{Entry}
use Rattle.cfs_core.specs.declared.flag.Flag.{Flag}
use Rattle.cfs_core.specs.declared.flag.Flag.TheVariants.{Off, On, Unsure}
use Rattle.cfs_core.specs.declared.track.Track.{Track}
use Rattle.cfs_core.specs.declared.doubt.Doubt.{Doubt}
use Rattle.cfs_core.specs.declared.stretch.Stretch.{Stretch}
use Rattle.cfs_core.specs.declared.image.Image.{Image}
use Rattle.cfs_core.specs.declared.inode_core.Core.{Core}
use Rattle.cfs_core.specs.Words.{blank, can_be, flag_of, is_off, is_on}
use Rattle.cfs_core.specs.Fresh.{IsFresh}
use Rattle.cfs_core.specs.Medium.{is_image}
use Rattle.cfs_core.specs.After.{crashed_to, mounted, sure_doubt, sure_track, sure_tracks}
use Rattle.cfs_core.proofs.Order.{mark_allowed}
use Rattle.cfs_core.proofs.Kept.{IsLogged, at}
use Rattle.cfs_core.proofs.Images.{tag-allowed}
use Rattle.cfs_core.proofs.LoggedFrames.{TracksFollow, logged_beside, logged_follows}
use Rattle.cfs_core.proofs.LoggedTags.{mapped_still}
use Rattle.cfs_core.proofs.StoredCrash.{sure_tag}

unsure_stays : (f : Flag) (b : Bool) → can_be f b ≡ true → is_off (flag_of b) ≡ false →
    is_off f ≡ false
unsure_stays Off true can off = cc
unsure_stays Off false can off = cc
unsure_stays On b can off = refl
unsure_stays Unsure b can off = refl

on_stays : (f : Flag) (b : Bool) → can_be f b ≡ true → is_on f ≡ true → is_on (flag_of b) ≡ true
on_stays Off b can on = cc
on_stays On true can on = refl
on_stays On false can on = cc
on_stays Unsure b can on = cc

-- what stands at an index of the tracks that a crash makes sure
pub sure_at : (core : Core) (image : Image) (k : ℕ) →
    ((k < length core.tracks)
    × (get_or (sure_tracks core.tracks image.gates image.marks) k blank
    ≡ sure_track (get_or core.tracks k blank) (get_or image.gates k false)
    (get_or image.marks k false)))
    ⊎ ((get_or (sure_tracks core.tracks image.gates image.marks) k blank ≡ blank)
    × (get_or core.tracks k blank ≡ blank))
sure_at core image k = elim (cases_lt k (length core.tracks)) [
  | inl within ↦
      inl (
        within,
        get_or-map-range_with_len
            (λ n. sure_track (get_or core.tracks n blank) (get_or image.gates n false)
            (get_or image.marks n false)) 0 (length core.tracks) k k blank within (omega arith),
      )
  | inr past ↦ inr (
    get_or_past (sure_tracks core.tracks image.gates image.marks) k blank
        (omega (
          arith,
          length-map-range_with_len
              (λ n. sure_track (get_or core.tracks n blank) (get_or image.gates n false)
              (get_or image.marks n false)) 0 (length core.tracks),
        )),
    get_or_past core.tracks k blank past,
  )
]

follows_crash : (core : Core) (image : Image) → IsLogged core → is_image core image ≡ true →
    TracksFollow core (sure_tracks core.tracks image.gates image.marks)
follows_crash core image old h = record {
  span = λ k.
      elim (sure_at core image k) [ inl now ↦ rw now.1 refl | inr none ↦ rw (none.0, none.1) refl ];
  live = λ k live.
      elim (sure_at core image k) [
        | inl now ↦ rw now.1 at live
        | inr none ↦
            rw none.1 (rw none.0 at live)
      ];
  asks = λ k asks.
      elim (sure_at core image k) [
        | inl now ↦ rw now.1 at asks
        | inr none ↦
            rw none.1 (rw none.0 at asks)
      ];
  busy = λ k busy.
      inl (elim (sure_at core image k) [
        | inl now ↦ rw now.1 at busy
        | inr none ↦
            rw none.1 (rw none.0 at busy)
      ]);
  idle = λ k block applied.
      elim (sure_at core image k) [
        | inl now ↦
            rw now.1 (old.idle k block (rw now.1 at applied))
        | inr none ↦ rw none.0 refl
      ];
  mark = λ k off. elim (sure_at core image k) [
    | inl now ↦
        old.covered k (unsure_stays (at core k).mark (get_or image.marks k false)
        (mark_allowed core image k h now.0) (rw now.1 at off))
    | inr none ↦ let own : is_off blank.mark ≡ false = rw none.0 at off in cc
  ];
  falls = λ k live.
      inl (elim (sure_at core image k) [
        | inl now ↦ rw now.1 live
        | inr none ↦
            rw none.0 (rw none.1 at live)
      ]);
}

-- a tag that is on is so in every image
pub tag_stays : (core : Core) (image : Image) (k : ℕ) → is_image core image ≡ true →
    is_on (get_or core.tags k Off) ≡ true →
    is_on (get_or (map (λ bit. flag_of bit) image.tags) k Off) ≡ true
tag_stays core image k h on =
    rw (sure_tag image.tags k) (on_stays (get_or core.tags k Off) (get_or image.tags k false)
    (tag-allowed core image k h) on)

sure_doubt_is : (o : Option Doubt) (gate : Bool) (d : Doubt) → sure_doubt o gate ≡ Some d →
    (old : Doubt) × ((o ≡ Some old) × (d ≡ record old { gate = flag_of gate }))
sure_doubt_is None gate d is = cc
sure_doubt_is (Some old) gate d is = (old, (refl, same old gate d is))
  where
    same : (e : Doubt) (g : Bool) (f : Doubt) → Some (record e { gate = flag_of g }) ≡ Some f →
        f ≡ record e { gate = flag_of g }
    same e g f eq = cc

pub logged_crash : (core : Core) (image : Image) → IsLogged core → is_image core image ≡ true →
    IsLogged (crashed_to core image)
logged_crash core image old h =
    let sure : IsLogged (record core { tracks = sure_tracks core.tracks image.gates image.marks }) =
    logged_follows core (sure_tracks core.tracks image.gates image.marks) old
    (follows_crash core image old h) in
    logged_beside (record core { tracks = sure_tracks core.tracks image.gates image.marks })
    (sure_doubt core.doubt image.doubt) image.size []
    (map (λ bit. flag_of bit) image.tags) image.bytes [] true sure
    (λ k live.
    mapped_still core.tags (map (λ bit. flag_of bit) image.tags) _
    (λ j low high on. tag_stays core image j h on) (sure.mapped k live))
    (λ d is.
    let was = sure_doubt_is core.doubt image.doubt d is in
    let before = old.doubtful was.0 was.1.0 in
    rw was.1.1 (record {
      change = before.change;
      span_is = before.span_is;
      mapped = mapped_still core.tags (map (λ bit. flag_of bit) image.tags) was.0.span
          (λ j low high on. tag_stays core image j h on) before.mapped;
      fits = before.fits;
    }))

-- nothing is logged or in doubt
logged_nothing : (base : List ℕ) (log : List Entry) (tracks : List Track) (doubt : Option Doubt)
    (size : ℕ) (sizes : List ℕ) (tags : List Flag) (bytes : List ℕ)
    (loose : List Stretch) (crashed : Bool) → log ≡ [] → tracks ≡ [] → doubt ≡ None →
    IsLogged (record {
      base = base;
      log = log;
      tracks = tracks;
      doubt = doubt;
      size = size;
      sizes = sizes;
      tags = tags;
      bytes = bytes;
      loose = loose;
      crashed = crashed;
    })
logged_nothing base log tracks doubt size sizes tags bytes loose crashed no_log no_tracks no_doubt =
    rw (no_log, no_tracks, no_doubt) (record {
      kinds = λ k entry is. cc;
      spans = λ k entry is. cc;
      live_changes = λ k live. cc;
      busy_changes = λ k busy. cc;
      queries = λ k asks. cc;
      idle = λ k block applied. cc;
      mapped = λ k live. cc;
      covered = λ k off. absurd (cc);
      order = λ v i p view less live alters. absurd (cc);
      clear = λ v k less asks busy. cc;
      doubtful = λ d is. absurd (cc);
    })

pub logged_mount : (core : Core) (found : List ℕ) → IsLogged (mounted core found)
logged_mount core found =
    logged_nothing found [] [] None (length found) [] core.tags found [] false refl refl refl

pub logged-fresh : (core : Core) → IsFresh core → IsLogged core
logged-fresh core fresh =
    logged_nothing core.base core.log core.tracks core.doubt core.size core.sizes core.tags
    core.bytes core.loose core.crashed fresh.log fresh.tracks fresh.doubt
