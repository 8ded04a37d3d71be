-- All that is kept, of each core that there is.
use Rattle.std.proofs.Common.{◌≡◌, ◌⊎◌, inl, inr, ℕ, Bool, true, false, Option, Some, None, List, [], ◌∷◌, map, refl, ◌∙◌, is_some}
use Rattle.std.specs.List.{list_all}
use Rattle.cfs_core.specs.declared.state.State.TheVariants.{Waiting}
use Rattle.cfs_core.specs.declared.track.Track.{Track}
use Rattle.cfs_core.specs.declared.image.Image.{Image}
use Rattle.cfs_core.specs.declared.event.Event.{Event}
use Rattle.cfs_core.specs.declared.event.Event.TheVariants as events
use Rattle.cfs_core.specs.declared.event.End.{End}
use Rattle.cfs_core.specs.declared.event.End.TheVariants as ends
use Rattle.cfs_core.specs.declared.event.SizeEnd.TheVariants as sizes
use Rattle.cfs_core.specs.declared.inode_core.Core.{Core}
use Rattle.cfs_core.specs.After.{after}
use Rattle.cfs_core.specs.Fresh.{IsFresh, is_sure}
use Rattle.cfs_core.specs.May.{is_in_phase, may}
use Rattle.cfs_core.specs.Medium.{is_image}
use Rattle.cfs_core.specs.Opened.{live_tracks, opened}
use Rattle.cfs_core.specs.Run.{IsRun, after_all}
use Rattle.cfs_core.specs.Words.{blank, flag_of, has_block, is_noop}
use Rattle.cfs_core.proofs.Apart.{not_true}
use Rattle.cfs_core.proofs.Freshly.{kept-fresh, size-fresh}
use Rattle.cfs_core.proofs.Images.{size-allowed}
use Rattle.cfs_core.proofs.Kept.{IsKept, at}
use Rattle.cfs_core.proofs.KeptRuns.{kept-after}
use Rattle.cfs_core.proofs.Opened.{opened-waits}
use Rattle.cfs_core.proofs.Openings.{waiting-kept}
use Rattle.cfs_core.proofs.SizesFit.{SizesFit, fit-after}
use Rattle.cfs_core.proofs.StoredFrames.{no_clash, only_size}
use Rattle.cfs_core_laws.specs.Reached.{IsReached, begins, comes, opens}
use Rattle.cfs_core_laws.proofs.Along.{case-of, phase-of}
use Rattle.cfs_core_laws.proofs.Begun.{is_begun}
use Rattle.cfs_core_laws.proofs.Blanks.{left-zero}
use Rattle.cfs_core_laws.proofs.Doubts.{IsDoubted, doubted-after, doubted-fresh}
use Rattle.cfs_core_laws.proofs.Lent.{AreLentOnce, once-after, once-fresh}
use Rattle.cfs_core_laws.proofs.Loose.{AreWithin, within-after, within-fresh}
use Rattle.cfs_core_laws.proofs.Noops.{AreIdle, idle-after, idle-fresh}
use Rattle.cfs_core_laws.proofs.Openings.{Each, IsNew, each-at, opened-new}
use Rattle.cfs_core_laws.proofs.Sorted.{AreSorted, sorted-after, sorted-fresh}
use Rattle.cfs_core_laws.proofs.Through.{IsInWork, dead, unbegun, work-after, work-fresh}

-- ---- after a crash each tag is known

abbrev pub AreSure : Core → Type 0
AreSure core = core.crashed ≡ true → list_all is_sure core.tags ≡ true

pub sure-map : (bits : List Bool) → list_all is_sure (map (λ bit. flag_of bit) bits) ≡ true
sure-map [] = refl
sure-map (true ∷ bits) = sure-map bits
sure-map (false ∷ bits) = sure-map bits

-- a core that did not crash
up-sure : (core : Core) → core.crashed ≡ false → AreSure core
up-sure core up down = absurd (no_clash core.crashed down up)

finish-up : (core : Core) (place : ℕ) (end : End) →
    (after core (events.Finish place end)).crashed ≡ core.crashed
finish-up core place ends.Retired = refl
finish-up core place ends.More = refl
finish-up core place (ends.Back sizes.AsBefore gate applied) = refl
finish-up core place (ends.Back sizes.Set gate applied) = refl
finish-up core place (ends.Back sizes.Either gate applied) = refl

sure-after : (core : Core) (event : Event) → is_in_phase core.crashed event ≡ true →
    AreSure (after core event)
sure-after core (events.Tag block kept) h =
    λ down. absurd (no_clash core.crashed down (not_true core.crashed h))
sure-after core (events.Admit entry grant true) h =
    λ down. absurd (no_clash core.crashed down (not_true core.crashed h))
sure-after core (events.Admit entry grant false) h =
    λ down. absurd (no_clash core.crashed down (not_true core.crashed h))
sure-after core (events.AdmitRead entry) h =
    λ down. absurd (no_clash core.crashed down (not_true core.crashed h))
sure-after core (events.Serve place answer) h =
    λ down. absurd (no_clash core.crashed down (not_true core.crashed h))
sure-after core (events.Mark place by kept) h =
    λ down. absurd (no_clash core.crashed down (not_true core.crashed h))
sure-after core (events.Dispatch place) h =
    λ down. absurd (no_clash core.crashed down (not_true core.crashed h))
sure-after core (events.BlockWrite place block None) h =
    λ down. absurd (no_clash core.crashed down (not_true core.crashed h))
sure-after core (events.BlockWrite place block (Some left)) h =
    λ down. absurd (no_clash core.crashed down (not_true core.crashed h))
sure-after core (events.Flush place block true) h =
    λ down. absurd (no_clash core.crashed down (not_true core.crashed h))
sure-after core (events.Flush place block false) h =
    λ down. absurd (no_clash core.crashed down (not_true core.crashed h))
sure-after core (events.Finish place end) h = up-sure (after core (events.Finish place end))
    (finish-up core place end ∙ not_true core.crashed h)
sure-after core (events.Skip place) h =
    λ down. absurd (no_clash core.crashed down (not_true core.crashed h))
sure-after core (events.Trim block kept) h =
    λ down. absurd (no_clash core.crashed down (not_true core.crashed h))
sure-after core events.Settle h =
    λ down. absurd (no_clash core.crashed down (not_true core.crashed h))
sure-after core (events.Crash image) h = λ down. sure-map image.tags
sure-after core events.Mount h = λ down. cc

-- ---- the whole

pub record IsWhole (core : Core) : Type 0 where
  pub kept : IsKept core
  pub fit : SizesFit core
  pub doubted : IsDoubted core
  pub sure : AreSure core
  pub idle : AreIdle core
  pub once : AreLentOnce core
  pub sorted : AreSorted core
  pub within_ : AreWithin core
  pub work : IsInWork core

whole-after : (core : Core) (event : Event) → IsWhole core → may core event ≡ true →
    IsWhole (after core event)
whole-after core event is h = record {
  kept = kept-after core event is.kept (case-of core event h);
  fit = fit-after core event is.kept is.fit (case-of core event h);
  doubted = doubted-after core event is.kept is.doubted h;
  sure = sure-after core event (phase-of core event h);
  idle = idle-after core event is.idle (case-of core event h);
  once = once-after core event is.kept is.once h;
  sorted = sorted-after core event is.sorted;
  within_ = within-after core event is.kept is.work.blocks.0 is.within_ (case-of core event h);
  work = work-after core event is.kept is.work h;
}

whole-fresh : (core : Core) → IsFresh core → IsWhole core
whole-fresh core fresh = record {
  kept = kept-fresh core fresh;
  fit = λ s is. rw (size-fresh core fresh s is) fresh.fits;
  doubted = doubted-fresh core fresh;
  sure = up-sure core fresh.up;
  idle = idle-fresh core fresh;
  once = once-fresh core fresh;
  sorted = sorted-fresh core fresh;
  within_ = within-fresh core fresh;
  work = work-fresh core fresh;
}

-- ---- an image that is opened

-- a track of the opened core waits, or there is none
new-or-none : (core : Core) (image : Image) (k : ℕ) →
    IsNew (at (opened core image) k) ⊎ (at (opened core image) k ≡ blank)
new-or-none core image k = each-at (λ t. IsNew t ⊎ (t ≡ blank)) (live_tracks core image) k
    (weaken (live_tracks core image) (opened-new core image)) (inr refl)
  where
    weaken : (ts : List Track) → Each IsNew ts → Each (λ t. IsNew t ⊎ (t ≡ blank)) ts
    weaken [] each = tt
    weaken (t ∷ ts) each = (inl each.0, weaken ts each.1)

no-block : (core : Core) (image : Image) (k block : ℕ) →
    has_block (at (opened core image) k).state block ≡ true → ⊥
no-block core image k block h = elim (new-or-none core image k) [
  | inl new ↦ let own : has_block Waiting block ≡ true = rw new.waits at h in cc
  | inr none ↦ let own : has_block blank.state block ≡ true = rw none at h in cc
]

not-begun : (core : Core) (image : Image) (k : ℕ) → is_begun (at (opened core image) k) ≡ true → ⊥
not-begun core image k h = elim (new-or-none core image k) [
  | inl new ↦ by (at (opened core image) k).done new.none h
  | inr none ↦ let own : is_begun blank ≡ true = rw none at h in cc
]
  where
    by : (o : Option ℕ) → o ≡ None → is_some o ≡ true → ⊥
    by None is some = cc
    by (Some n) is some = cc

whole-opened : (core : Core) (image : Image) → IsWhole core → is_image core image ≡ true →
    IsWhole (opened core image)
whole-opened core image is h = record {
  kept = waiting-kept (opened core image) (opened-waits core is.kept is.fit image h);
  fit = λ s size. let same = only_size s image.size size in
      rw same (is.fit image.size (size-allowed core image h));
  doubted = λ doubt some. cc;
  sure = λ down. cc;
  idle = λ up k. elim (new-or-none core image k) [
    | inl new ↦ λ noop. let own : is_noop Waiting ≡ true = rw new.waits at noop in cc
    | inr none ↦ rw none (λ noop. cc)
  ];
  once = λ i j block first second. absurd (no-block core image i block first);
  sorted = λ k. elim (new-or-none core image k) [
    | inl new ↦ rw new.waits refl
    | inr none ↦ rw none refl
  ];
  within_ = refl;
  work = record {
    blocks = (
      λ k block has_it. absurd (no-block core image k block has_it),
      record {
        long = refl;
        blanks = λ block off. record
            { calm = refl; zeros = left-zero core image is.kept is.work.blocks.1 h block off };
      },
    );
    begun = λ i j less live begun. absurd (not-begun core image j begun);
    worked = λ up k. elim (new-or-none core image k) [
      | inl new ↦ unbegun (opened core image) k (at (opened core image) k) new.waits new.none
      | inr none ↦ rw none (dead (opened core image) k blank refl)
    ];
  };
}

pub whole : {core : Core} → IsReached core → IsWhole core
whole (begins core fresh) = whole-fresh core fresh
whole (comes core event reached h) = whole-after core event (whole reached) h
whole (opens core image reached h) = whole-opened core image (whole reached) h

pub run-reached : (core : Core) (list : List Event) → IsReached core → IsRun core list →
    IsReached (after_all core list)
run-reached core [] reached run = reached
run-reached core (event ∷ list) reached run = run-reached (after core event) list
    (comes core event reached run.0) run.1
