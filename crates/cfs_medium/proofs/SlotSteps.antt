-- Steps on the slots at one number: what is left at each moment, and what the world shows behind them.
use Rattle.std.proofs.Common.{◌≡◌, inl, inr, ℕ, false, List, [], ◌∷◌, refl, sym, subst, ◌∙◌}
use Rattle.std.proofs.Math.ListN.{set}
use Rattle.cfs_core.specs.declared.flag.Flag.TheVariants.{Unsure}
use Rattle.cfs_core.specs.declared.inode_core.Core.{Core}
use Rattle.cfs_core.proofs.Order.{same_or_not}
use Rattle.cfs_pmem.specs.Images.{Seen, WordStep, IsImage, IsSetFrom}
use Rattle.cfs_pmem.specs.Objects.{IsEachImage}
use Rattle.cfs_pmem.proofs.MomentLemmas.{at_end}
use Rattle.cfs_medium.specs.Differs.{DiffersAt}
use Rattle.cfs_medium.specs.Laws.{GatesMayClose, HeadsMayBeSet, ShutSlotsShow}
use Rattle.cfs_medium.specs.Shows.{HasShape, Recovers, RemainsFit, Shows, SlotFits, SlotsShown, holding, is_gated}
use Rattle.cfs_medium.specs.World.{MayRemain, Remains, World, head_words}
use Rattle.cfs_medium.specs.WorldCalls.{WorldMoments, with_slots}
use Rattle.cfs_medium.proofs.LiveLeft.{fitting-recovers}
use Rattle.cfs_medium.proofs.Worlds.{at_other, at_place, head_moments, same_world}

-- What is left fits the other core, where the slots at the number do.
beside-fits : (ino place : ℕ) (core now : Core) (world : World) (seens : List (Seen WordStep))
    (remains : Remains) → Shows ino core world → DiffersAt place core now →
    MayRemain (with_slots place seens world) remains →
    SlotFits ino place (holding now now.doubt place) (remains.slots place) →
    RemainsFit ino now remains
beside-fits ino place core now world seens remains shows differs may fits = record {
  size = rw (differs.size, differs.sizes) (shows.sizes remains.size may.size);
  slots = slot;
  blocks = λ block within. rw (differs.tags, differs.loose, differs.bytes)
      ((shows.blocks block within).images (remains.blocks block) (may.blocks block));
}
  where
    slot : (at : ℕ) → SlotFits ino at (holding now now.doubt at) (remains.slots at)
    slot at = elim (same_or_not at place) [
      | inl same ↦
          subst (λ p. SlotFits ino p (holding now now.doubt p) (remains.slots p)) (sym same) fits
      | inr other ↦
          let left : IsEachImage IsImage (world.slots at) (remains.slots at) =
          subst (λ s. IsEachImage IsImage s (remains.slots at))
          (at_other at place seens (world.slots at) other) (may.slots at) in
          rw (differs.held at other) (shows.slots at (remains.slots at) left)
    ]

-- The world with these slots shows the other core, where they do.
pub slots_show : (ino place : ℕ) (core now : Core) (world : World) (seens : List (Seen WordStep)) →
    Shows ino core world → DiffersAt place core now → HasShape now →
    SlotsShown ino place (holding now now.doubt place) seens →
    Shows ino now (with_slots place seens world)
slots_show ino place core now world seens shows differs shape shown = record {
  shape = shape;
  sizes = λ words image. rw (differs.size, differs.sizes) (shows.sizes words image);
  size_now = shows.size_now ∙ sym differs.size;
  slots = slot;
  blocks = λ block within. rw (differs.tags, differs.loose, differs.bytes)
      (shows.blocks block within);
}
  where
    slot : (at : ℕ) →
        SlotsShown ino at (holding now now.doubt at) ((with_slots place seens world).slots at)
    slot at = elim (same_or_not at place) [
      | inl same ↦
          subst (λ p. SlotsShown ino p (holding now now.doubt p)
          ((with_slots place seens world).slots p)) (sym same)
          (rw (at_place place seens (world.slots place)) shown)
      | inr other ↦
          rw (differs.held at other, at_other at place seens (world.slots at) other) (shows.slots at)
    ]

-- images of a head and its tails, by the head's
parts : (head : Seen WordStep) (tails : List (Seen WordStep)) (P : List ℕ → Type 0)
    (F : List (List ℕ) → Type 0) (slots : List (List ℕ)) →
    ((image : List ℕ) → IsImage head.history image → P image) →
    ((image : List ℕ) (rest : List (List ℕ)) → P image → IsEachImage IsImage tails rest →
    F (image ∷ rest)) →
    IsEachImage IsImage (head ∷ tails) slots → F slots
parts head tails P F [] each fits h = absurd h
parts head tails P F (image ∷ rest) each fits h = fits image rest (each image h.0) h.1

pub heads-set : HeadsMayBeSet
heads-set ino n place at word core now world head new tails asked_old asked_new shows here differs
    good shape room fits moments = (
      subst (λ w. WorldMoments (Recovers ino n now) asked_old w asked_new
          (with_slots place (new ∷ tails) world)) (same_world place (head ∷ tails) world here)
          (head_moments place tails world (IsSetFrom head at word) (Recovers ino n now) gives moments),
      slots_show ino place core now world (new ∷ tails) shows differs shape shown,
    )
  where
    gives : (seen : Seen WordStep) →
        ((image : List ℕ) → IsImage seen.history image → IsSetFrom head at word image) →
        (remains : Remains) → MayRemain (with_slots place (seen ∷ tails) world) remains →
        Recovers ino n now remains
    gives seen each remains may =
        let left : IsEachImage IsImage (seen ∷ tails) (remains.slots place) =
        subst (λ s. IsEachImage IsImage s (remains.slots place))
        (at_place place (seen ∷ tails) (world.slots place)) (may.slots place) in
        fitting-recovers ino n now remains good shape
        (beside-fits ino place core now world (seen ∷ tails) remains shows differs may
        (parts seen tails (IsSetFrom head at word)
        (λ slots. SlotFits ino place (holding now now.doubt place) slots) (remains.slots place) each
        fits left)) room

    shown : SlotsShown ino place (holding now now.doubt place) (new ∷ tails)
    shown slots images =
        parts new tails (IsSetFrom head at word)
        (λ s. SlotFits ino place (holding now now.doubt place) s) slots
        (at_end moments) fits images

pub shut-show : ShutSlotsShow
shut-show ino place core now world shows shut differs shape off =
    subst (λ w. Shows ino now w) (same_world place (world.slots place) world refl)
    (slots_show ino place core now world (world.slots place) shows differs shape shown)
  where
    shown : SlotsShown ino place (holding now now.doubt place) (world.slots place)
    shown slots images =
        let closed : is_gated (head_words slots) ≡ false = shut slots images in
        record {
          gate = rw (off, closed) refl;
          number = λ gated. cc;
          mark = λ gated. cc;
          file = λ gated. cc;
          request = λ gated. cc;
        }

pub differs-none : (place : ℕ) (core : Core) → DiffersAt place core core
differs-none place core = record {
  size = refl;
  sizes = refl;
  tags = refl;
  loose = refl;
  bytes = refl;
  held = λ at other. refl;
}

-- A gate that may be open or closed may be closed.
closing-fits : (ino place : ℕ) (core : Core) (world : World) (head : Seen WordStep)
    (tails : List (Seen WordStep)) → Shows ino core world → world.slots place ≡ head ∷ tails →
    (holding core core.doubt place).gate ≡ Unsure → (image : List ℕ) (rest : List (List ℕ)) →
    IsSetFrom head 0 0 image → IsEachImage IsImage tails rest →
    SlotFits ino place (holding core core.doubt place) (image ∷ rest)
closing-fits ino place core world head tails shows here unsure image rest set_ images =
    elim set_.same [
      | inl same ↦
          let old : IsEachImage IsImage (world.slots place) (image ∷ rest) =
          rw here (rw same set_.possible, images) in
          shows.slots place (image ∷ rest) old
      | inr closed ↦
          let shut : is_gated (head_words (image ∷ rest)) ≡ false =
          rw closed (set_gate set_.first) in
          record {
            gate = rw unsure refl;
            number = λ gated. cc;
            mark = λ gated. cc;
            file = λ gated. cc;
            request = λ gated. cc;
          }
    ]
  where
    set_gate : (words : List ℕ) → is_gated (set words 0 0) ≡ false
    set_gate [] = refl
    set_gate (word ∷ words) = refl

pub gates-close : GatesMayClose
gates-close ino n place core world head new tails asked_old asked_new shows here good room unsure
    moments =
    heads-set ino n place 0 0 core core world head new tails asked_old asked_new shows here
    (differs-none place core) good shows.shape room
    (closing-fits ino place core world head tails shows here unsure) moments
