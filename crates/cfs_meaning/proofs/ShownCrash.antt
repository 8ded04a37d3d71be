-- A crash leaves less than could be left before.
use Rattle.std.proofs.Common.{◌≡◌, ℕ, zero, suc, ◌+◌, ◌%◌, ◌<◌, Bool, true, false, ◌&&◌, Option}
use Rattle.std.proofs.Common.{Some, None, List, [], ◌∷◌, length, map, take, get_or, inl, inr, refl}
use Rattle.std.proofs.Common.{sym, ap, ◌∙◌, subst, arith, ⊎_elim}
use Rattle.std.specs.Prelude.{Result, nat_le, nat_lt}
use Rattle.std.specs.List.{All}
use Rattle.std.specs.Option.{option_map}
use Rattle.std.proofs.lemmas.Bool.{and_parts, cases_lt, leb-true, ltb-true, or_cases}
use Rattle.std.proofs.lemmas.List.{get_or-take, get_or_past, length-take}
use Rattle.cfs_pmem.specs.declared.pick.Pick.{Pick}
use Rattle.cfs_pmem.specs.declared.pick.Pick.TheVariants.{Drawn, Durable, Present}
use Rattle.cfs_pmem.specs.Draws.{after_byte, after_word, byte_left, draw_of, pick_of, words_left}
use Rattle.cfs_pmem.specs.Images.{IsImage, Seen, WordStep, words_kept, words_of}
use Rattle.cfs_pmem.specs.Objects.{IsEachImage}
use Rattle.cfs_pmem.proofs.Crashes.{each_left_at, left_word, length-each_left}
use Rattle.cfs_pmem.proofs.ImageLemmas as regions
use Rattle.cfs_pmem.proofs.MemRegions as memory
use Rattle.cfs_block.specs.BlockImages.{BlockStep, Content, IsBlockImage, MayHaveByte, MayHaveTag}
use Rattle.cfs_block.specs.BlockImages.{content_kept, content_now, flushed, ranged, stalled, tagged}
use Rattle.cfs_block.specs.Written.{block_left, is_written}
use Rattle.cfs_block.proofs.BlockLemmas.{byte_kept, byte_now, only_kept, tag_kept, tag_now}
use Rattle.cfs_image.specs.Crash.{after_block_of, after_region, after_regions, all_left}
use Rattle.cfs_image.specs.Crash.{block_left_of, blocks_left, region_left, regions_left}
use Rattle.cfs_medium.specs.World.{IsImageAt, MayRemain, Remains}
use Rattle.cfs_meaning.specs.Drive.{Drive, block_at, region_at}
use Rattle.cfs_meaning.specs.World.{File, World, block_of, devices_of, held_at}
use Rattle.cfs_meaning.specs.Steps.{size_word}
use Rattle.cfs_print.specs.declared.printed.Printed.{Printed}
use Rattle.cfs_script.specs.declared.form.Form.TheVariants as forms
use Rattle.cfs_meaning.specs.Play.{crash_in, crashed, does}
use Rattle.cfs_meaning.specs.Ways.{Halt, changes, ends, follows, gives}
use Rattle.cfs_meaning.specs.Devices.{CrashesLeaveLess, IsEven, IsEvenBlock, IsEvenRegion}
use Rattle.cfs_meaning.specs.Devices.{IsTreeShown, devices_of_file}

-- ---- one object

-- a byte that was written may be anything
anything : (history : List BlockStep) (k v : ℕ) → is_written history k ≡ true → v < 256 →
    MayHaveByte history k v
anything [] k v is small = absurd (cc)
anything (ranged from len content ∷ before) k v is small =
    elim (or_cases (nat_le from k && nat_lt k (from + len)) (is_written before k) is)
    as (λ _. MayHaveByte (ranged from len content ∷ before) k v) [
      | inl here ↦
          let parts = and_parts (nat_le from k) (nat_lt k (from + len)) here in
          inr (inl (leb-true from k parts.0, ltb-true k (from + len) parts.1, small))
      | inr earlier ↦ inr (inr (anything before k v earlier small))
    ]
anything (tagged asked content ∷ before) k v is small = inr (anything before k v is small)
anything (flushed content ∷ before) k v is small = absurd (cc)
anything (stalled content ∷ before) k v is small = inr (anything before k v is small)

byte-possible : (history : List BlockStep) (k : ℕ) (written : Bool) (pick : Pick)
    (durable present : ℕ) → is_written history k ≡ written → MayHaveByte history k durable →
    MayHaveByte history k present →
    MayHaveByte history k (byte_left written pick durable present)
byte-possible history k written Durable durable present is d p = d
byte-possible history k written Present durable present is d p = p
byte-possible history k true (Drawn state) durable present is d p =
    anything history k (draw_of state % 256) is (omega arith)
byte-possible history k false (Drawn state) durable present is d p = p

pub block-left : (seen : Seen BlockStep) (pick : Pick) → IsEvenBlock seen →
    IsBlockImage seen.history (block_left pick seen.history)
block-left seen pick even =
    let same : length (content_kept seen.history).bytes ≡ length (content_now seen.history).bytes =
    even.0 ∙ sym even.1 in
    let after : Pick =
    after_word pick (content_kept seen.history).tag (content_now seen.history).tag in
    let left : ℕ → Pick → ℕ → ℕ → ℕ = λ k. byte_left (is_written seen.history k) in
    let next : ℕ → Pick → ℕ → ℕ → Pick = λ k. after_byte (is_written seen.history k) in
    let size = length-each_left left next after 0 (content_kept seen.history).bytes
    (content_now seen.history).bytes same in
    let some : 0 < length (content_now seen.history).bytes =
    (let is = even.1 in omega (arith, is)) in
    let was : 0 < length (content_kept seen.history).bytes =
    (let is = even.0 in omega (arith, is)) in
    record {
      size = size;
      bytes = λ k low.
          let within : k < length (content_now seen.history).bytes = omega (arith, low, size) in
          let there = each_left_at left next after 0 (content_kept seen.history).bytes
          (content_now seen.history).bytes k same within in
          let at : 0 + k ≡ k = omega arith in
          subst (λ v. MayHaveByte seen.history k v) (sym there.1)
          (subst (λ n. MayHaveByte seen.history k (byte_left (is_written seen.history n) there.0
          (get_or (content_kept seen.history).bytes k 0)
          (get_or (content_now seen.history).bytes k 0))) (sym at)
          (byte-possible seen.history k (is_written seen.history k) there.0
          (get_or (content_kept seen.history).bytes k 0)
          (get_or (content_now seen.history).bytes k 0) refl
          (byte_kept seen.history k (omega (arith, within, same)))
          (byte_now seen.history k within)));
      tag = ⊎_elim
          (λ e. subst (λ t. MayHaveTag seen.history t) (sym e) (tag_kept seen.history was))
          (λ e. subst (λ t. MayHaveTag seen.history t) (sym e) (tag_now seen.history some))
          (left_word pick (content_kept seen.history).tag (content_now seen.history).tag);
    }

-- what a crash may leave of an object behind a crash, it may leave of the object before it
region-less : (pick : Pick) (seen : Seen WordStep) → IsEvenRegion seen → (image : List ℕ) →
    IsImage (region_left pick seen).history image → IsImage seen.history image
region-less pick seen even image h =
    subst (IsImage seen.history)
    (sym (regions.only_kept (words_left pick (words_kept seen.history) (words_of seen)) [] image h))
    (memory.left_is_image seen.history pick even)

block-less : (pick : Pick) (seen : Seen BlockStep) → IsEvenBlock seen → (image : Content) →
    IsBlockImage (block_left_of pick seen).history image → IsBlockImage seen.history image
block-less pick seen even image h =
    subst (IsBlockImage seen.history)
    (sym (only_kept (block_left pick seen.history) [] image h)) (block-left seen pick even)

-- ---- lists of objects

pub left-at : {Form : Type 0} (left : Pick → Seen Form → Seen Form) (next : Pick → Seen Form → Pick)
    (pick : Pick) (seens : List (Seen Form)) (r : ℕ) (d : Seen Form) → r < length seens →
    (p : Pick) × (get_or (all_left left next pick seens) r d ≡ left p (get_or seens r d))
left-at left next pick [] r d low = absurd (omega arith)
left-at left next pick (seen ∷ rest) zero d low = (pick, refl)
left-at left next pick (seen ∷ rest) (suc r) d low =
    left-at left next (next pick seen) rest r d (omega arith)

pub left-length : {Form : Type 0} (left : Pick → Seen Form → Seen Form)
    (next : Pick → Seen Form → Pick) (pick : Pick) (seens : List (Seen Form)) →
    length (all_left left next pick seens) ≡ length seens
left-length left next pick [] = refl
left-length left next pick (seen ∷ rest) =
    ap (λ n. suc n) (left-length left next (next pick seen) rest)

region-at-less : (k : ℕ) (drive : Drive) (r : ℕ) → IsEven drive → (image : List ℕ) →
    IsImage (region_at (crashed k drive) r).history image →
    IsImage (region_at drive r).history image
region-at-less k drive r even image h = elim (cases_lt r (length drive.regions)) [
  | inl low ↦
      let there = left-at region_left after_region (pick_of k) drive.regions r _ low in
      region-less there.0 (region_at drive r) (even.regions r _ low) image
      (subst (λ (s : Seen WordStep). IsImage s.history image) there.1 h)
  | inr past ↦
      let size = left-length region_left after_region (pick_of k) drive.regions in
      subst (λ (s : Seen WordStep). IsImage s.history image)
      (get_or_past (regions_left (pick_of k) drive.regions) r _ (omega (arith, past, size))
      ∙ sym (get_or_past drive.regions r _ past)) h
]

block-at-less : (k : ℕ) (drive : Drive) (b : ℕ) → IsEven drive → (image : Content) →
    IsBlockImage (block_at (crashed k drive) b).history image →
    IsBlockImage (block_at drive b).history image
block-at-less k drive b even image h = elim (cases_lt b (length drive.blocks)) [
  | inl low ↦
      let there = left-at block_left_of after_block_of (after_regions (pick_of k) drive.regions)
      drive.blocks b _ low in
      block-less there.0 (block_at drive b) (even.blocks b _ low) image
      (subst (λ (s : Seen BlockStep). IsBlockImage s.history image) there.1 h)
  | inr past ↦
      let size = left-length block_left_of after_block_of
      (after_regions (pick_of k) drive.regions) drive.blocks in
      subst (λ (s : Seen BlockStep). IsBlockImage s.history image)
      (get_or_past (blocks_left (after_regions (pick_of k) drive.regions) drive.blocks) b _
      (omega (arith, past, size)) ∙ sym (get_or_past drive.blocks b _ past)) h
]

slots-less : (k : ℕ) (drive : Drive) (places : List ℕ) → IsEven drive →
    (images : List (List ℕ)) →
    IsEachImage IsImage (map (region_at (crashed k drive)) places) images →
    IsEachImage IsImage (map (region_at drive) places) images
slots-less k drive [] even [] h = h
slots-less k drive [] even (image ∷ images) h = h
slots-less k drive (place ∷ places) even [] h = h
slots-less k drive (place ∷ places) even (image ∷ images) h =
    (region-at-less k drive place even image h.0, slots-less k drive places even images h.1)

block-of-less : (k : ℕ) (drive : Drive) (o : Option ℕ) → IsEven drive → (content : Content) →
    IsImageAt (option_map (block_at (crashed k drive)) o) content →
    IsImageAt (option_map (block_at drive) o) content
block-of-less k drive None even content h = h
block-of-less k drive (Some b) even content h = block-at-less k drive b even content h

remains-less : (k : ℕ) (drive : Drive) (f : File) (remains : Remains) → IsEven drive →
    MayRemain (devices_of_file (crashed k drive) f) remains →
    MayRemain (devices_of_file drive f) remains
remains-less k drive f remains even h = record {
  size = region-at-less k drive (size_word f.rec) even remains.size h.size;
  slots = λ gate. slots-less k drive (devices_of (held_at f gate)) even (remains.slots gate)
      (h.slots gate);
  blocks = λ j. block-of-less k drive (block_of f j) even (remains.blocks j) (h.blocks j);
}

pub crashes-leave-less : CrashesLeaveLess
crashes-leave-less k drive f even recovers up remains h =
    recovers up remains (remains-less k drive f remains even h)

-- ---- the tree

-- of regions of which one after another was left by a crash
regions-less : (pick : Pick) (seens : List (Seen WordStep)) → All IsEvenRegion seens →
    (images : List (List ℕ)) → IsEachImage IsImage (regions_left pick seens) images →
    IsEachImage IsImage seens images
regions-less pick [] even [] h = h
regions-less pick [] even (image ∷ images) h = h
regions-less pick (seen ∷ rest) even [] h = h
regions-less pick (seen ∷ rest) even (image ∷ images) h = (
  region-less pick seen (even 0 seen (omega arith)) image h.0,
  regions-less (after_region pick seen) rest (λ k d low. even (suc k) d (omega (arith, low))) images
      h.1,
)

take-left : (n : ℕ) (pick : Pick) (seens : List (Seen WordStep)) →
    take n (regions_left pick seens) ≡ regions_left pick (take n seens)
take-left zero pick [] = refl
take-left zero pick (seen ∷ rest) = refl
take-left (suc n) pick [] = refl
take-left (suc n) pick (seen ∷ rest) =
    ap (λ l. region_left pick seen ∷ l) (take-left n (after_region pick seen) rest)

take-even : (n : ℕ) (seens : List (Seen WordStep)) → All IsEvenRegion seens →
    All IsEvenRegion (take n seens)
take-even n seens even = λ k d low.
    let short = length-take n seens in
    subst IsEvenRegion (sym (get_or-take n seens k d (omega (arith, short, low))))
    (even k d (omega (arith, short, low)))

pub tree-less : (k : ℕ) (world : World) → IsEven world.drive → IsTreeShown world →
    IsTreeShown (crash_in k world)
tree-less k world even tree images h =
    tree images (regions-less (pick_of k) (take 67 world.drive.regions)
    (take-even 67 world.drive.regions even.regions) images
    (subst (λ seens. IsEachImage IsImage seens images)
    (take-left 67 (pick_of k) world.drive.regions) h))

-- ---- the line of a crash

pub crash-ends : (line k : ℕ) (old : World) (end : Result (Option Printed) Halt) (new : World) →
    does line (forms.Crash k) old end new → new ≡ crash_in k old
crash-ends line k old end new (ends (ends way)) = elim way [ ]
crash-ends line k old end new (ends (follows changes way)) = elim way [ ]
crash-ends line k old end new (follows (follows changes gives) gives) = refl
