-- A call on one of several regions and blocks.
use Rattle.std.proofs.Common.{ℕ, Bool, true, Result, Ok, Err, is_err, OnOk, OnErr, ◌<◌, ◌≡◌, ◌∙◌, List, [], ◌∷◌, length, inl, inr, refl, sym, ap, subst, arith}
use Rattle.std.proofs.Math.ListN.{set}
use Rattle.std.proofs.lemmas.List.{set-get_or}
use Rattle.cfs_pmem.specs.declared.trace.Asked.{Asked}
use Rattle.cfs_pmem.specs.Asks.{AreStepsOn}
use Rattle.cfs_pmem.specs.Images.{Seen, WordStep, devices_of, stepped, IsImage, IsSetFrom}
use Rattle.cfs_pmem.specs.Moments.{Moments}
use Rattle.cfs_pmem.specs.AllMoments.{AreDistinct}
use Rattle.cfs_pmem.specs.Objects.{seen_at, IsEachImage, IsImageBut}
use Rattle.cfs_pmem.proofs.AllMomentLemmas.{Fits, among, all_weaker}
use Rattle.cfs_pmem.proofs.ObjectLemmas.{each_but, called_on}
use Rattle.cfs_block.specs.BlockImages.{BlockStep, Content, content_of, with_tag, IsBlockImage, IsSureBlock, IsTaggedFrom}
use Rattle.cfs_block.specs.Devices.{Devices, numbers_of, DeviceImages, AreImagesOf, IsDeviceCall, DeviceMoments, AreImagesButRegion, AreImagesButBlock, pair_of, IsTagThenWord, TagsThenSets}
use Rattle.cfs_block.specs.BlockOps.{SetsTag}
use Rattle.cfs_pmem.specs.WordOps.{SetsWord}

pub one_region : {P : List ℕ → Type 0} (devices : Devices) (place : ℕ) {asked_old asked_new : List Asked} {new : Seen WordStep}
    → place < length devices.regions → AreDistinct (numbers_of devices) → Moments IsImage P asked_old (seen_at devices.regions place) asked_new new
    → DeviceMoments (AreImagesButRegion P place devices) asked_old devices asked_new record { regions = set devices.regions place new; blocks = devices.blocks }
one_region {P} devices place {asked_old} {asked_new} {new} l distinct m =
    let put : Seen WordStep → Devices = λ seen. record { regions = set devices.regions place seen; blocks = devices.blocks } in
    let same : put (seen_at devices.regions place) ≡ devices =
    ap (λ regions. record { regions = regions; blocks = devices.blocks }) (set-get_or devices.regions place record { device = 0; also = []; history = [] }) in
    let fits : Fits IsImage AreImagesOf IsDeviceCall P (AreImagesButRegion P place devices) (devices_of (seen_at devices.regions place)) put = record {
      tick = λ step asked seen d some own. inl (called_on devices.regions place l asked seen (stepped step seen) (inr (step, refl)) some (subst (λ ns. AreStepsOn ns asked) (sym d) own), refl);
      look = λ asked seen d some own. inl (called_on devices.regions place l asked seen seen (inl refl) some (subst (λ ns. AreStepsOn ns asked) (sym d) own), refl);
      gives = λ seen all images h. record { words = each_but IsImage P place devices.regions seen images.words l all h.words; contents = h.contents };
    } in
    subst (λ world. DeviceMoments (AreImagesButRegion P place devices) asked_old world asked_new (put new)) same
    (among {put = put} (subst (λ world. AreDistinct (numbers_of world)) (sym same) distinct) fits m)

pub one_block : {P : Content → Type 0} (devices : Devices) (place : ℕ) {asked_old asked_new : List Asked} {new : Seen BlockStep}
    → place < length devices.blocks → AreDistinct (numbers_of devices) → Moments IsBlockImage P asked_old (seen_at devices.blocks place) asked_new new
    → DeviceMoments (AreImagesButBlock P place devices) asked_old devices asked_new record { regions = devices.regions; blocks = set devices.blocks place new }
one_block {P} devices place {asked_old} {asked_new} {new} l distinct m =
    let put : Seen BlockStep → Devices = λ seen. record { regions = devices.regions; blocks = set devices.blocks place seen } in
    let same : put (seen_at devices.blocks place) ≡ devices =
    ap (λ blocks. record { regions = devices.regions; blocks = blocks }) (set-get_or devices.blocks place record { device = 0; also = []; history = [] }) in
    let fits : Fits IsBlockImage AreImagesOf IsDeviceCall P (AreImagesButBlock P place devices) (devices_of (seen_at devices.blocks place)) put = record {
      tick = λ step asked seen d some own. inr (called_on devices.blocks place l asked seen (stepped step seen) (inr (step, refl)) some (subst (λ ns. AreStepsOn ns asked) (sym d) own), refl);
      look = λ asked seen d some own. inr (called_on devices.blocks place l asked seen seen (inl refl) some (subst (λ ns. AreStepsOn ns asked) (sym d) own), refl);
      gives = λ seen all images h. record { words = h.words; contents = each_but IsBlockImage P place devices.blocks seen images.contents l all h.contents };
    } in
    subst (λ world. DeviceMoments (AreImagesButBlock P place devices) asked_old world asked_new (put new)) same
    (among {put = put} (subst (λ world. AreDistinct (numbers_of world)) (sym same) distinct) fits m)

-- One region and one block: first the tag is set, and then a word.

the_image : {Form Image : Type 0} (IsImage : List Form → Image → Type 0) (seen : Seen Form) (images : List Image) → IsEachImage IsImage (seen ∷ []) images
    → (image : Image) × (images ≡ image ∷ []) × IsImage seen.history image
the_image IsImage seen [] h = absurd h
the_image IsImage seen (image ∷ []) h = (image, refl, h.0)
the_image IsImage seen (image ∷ (other ∷ rest)) h = absurd h.1

the_one_but : {Form Image : Type 0} (IsImage : List Form → Image → Type 0) (P : Image → Type 0) (seen : Seen Form) (images : List Image) → IsImageBut IsImage P 0 (seen ∷ []) images
    → (image : Image) × (images ≡ image ∷ []) × P image
the_one_but IsImage P seen [] h = absurd h
the_one_but IsImage P seen (image ∷ []) h = (image, refl, h.0)
the_one_but IsImage P seen (image ∷ (other ∷ rest)) h = absurd h.1

both_are : (images : DeviceImages) {words : List ℕ} {content : Content} → images.words ≡ words ∷ [] → images.contents ≡ content ∷ [] → images ≡ record { words = words ∷ []; contents = content ∷ [] }
both_are images {words} {content} w c = ap (λ ws. record { words = ws; contents = images.contents }) w ∙ ap (λ cs. record { words = words ∷ []; contents = cs }) c

pub tag_comes_first : {region : Seen WordStep} {block now : Seen BlockStep} {tag : ℕ} {asked_old asked_new : List Asked} (at word : ℕ) → AreDistinct (numbers_of (pair_of region block))
    → Moments IsBlockImage (IsTaggedFrom block tag) asked_old block asked_new now
    → DeviceMoments (IsTagThenWord region block tag at word) asked_old (pair_of region block) asked_new (pair_of region now)
tag_comes_first {region} {block} {now} {tag} {asked_old} {asked_new} at word distinct m =
    all_weaker
    (λ images h.
    let ws = the_image IsImage region images.words h.words in
    let content = the_one_but IsBlockImage (IsTaggedFrom block tag) block images.contents h.contents in
    record { words = ws.0; content = content.0; is = both_are images ws.1 content.1; order = inl (ws.2, content.2) })
    (one_block {P = IsTaggedFrom block tag} (pair_of region block) 0 {new = now} (omega arith) distinct m)

pub word_comes_second : {region after : Seen WordStep} {block now : Seen BlockStep} {at word : ℕ} {asked_old asked_new : List Asked} (tag : ℕ) → AreDistinct (numbers_of (pair_of region block))
    → devices_of now ≡ devices_of block → IsSureBlock now → content_of now ≡ with_tag tag (content_of block)
    → Moments IsImage (IsSetFrom region at word) asked_old region asked_new after
    → DeviceMoments (IsTagThenWord region block tag at word) asked_old (pair_of region now) asked_new (pair_of after now)
word_comes_second {region} {after} {block} {now} {at} {word} {asked_old} {asked_new} tag distinct same sure is m =
    all_weaker
    (λ images h.
    let ws = the_one_but IsImage (IsSetFrom region at word) region images.words h.words in
    let content = the_image IsBlockImage now images.contents h.contents in
    record { words = ws.0; content = content.0; is = both_are images ws.1 content.1; order = inr (ws.2, sure content.0 content.2 ∙ is) })
    (one_region {P = IsSetFrom region at word} (pair_of region now) 0 {new = after} (omega arith) (subst (λ ns. AreDistinct (devices_of region ∷ (ns ∷ []))) (sym same) distinct) m)

pub tag_failed : {T E : Type 0} {obeys_block keeps obeys_region : Bool} {tag at word : ℕ} {tagged result : Result T E} {asked_old asked_new : List Asked} {block now : Seen BlockStep} (region : Seen WordStep) (e f : E)
    → tagged ≡ Err e → result ≡ Err f → SetsTag obeys_block keeps tag tagged asked_old block asked_new now
    → TagsThenSets obeys_block keeps obeys_region tag at word result asked_old block region asked_new now region
tag_failed {T} {E} {obeys_block} {keeps} {obeys_region} {tag} {at} {word} {tagged} {result} {asked_old} {asked_new} {block} {now} region e f is fails set = record {
  tagged = tagged;
  between = asked_new;
  first = set;
  second = subst (λ r. OnOk r (SetsWord obeys_region at word result asked_new region asked_new region)) (sym is) tt;
  stopped = subst (λ r. OnErr r ((is_err result ≡ true) × (asked_new ≡ asked_new) × (region ≡ region))) (sym is) (ap (λ r. is_err r) fails, refl, refl);
}

pub tag_stood : {T E : Type 0} {obeys_block keeps obeys_region : Bool} {tag at word : ℕ} {tagged result : Result T E} {asked_old asked_mid asked_new : List Asked} {block now : Seen BlockStep} {region after : Seen WordStep} (t : T)
    → tagged ≡ Ok t → SetsTag obeys_block keeps tag tagged asked_old block asked_mid now → SetsWord obeys_region at word result asked_mid region asked_new after
    → TagsThenSets obeys_block keeps obeys_region tag at word result asked_old block region asked_new now after
tag_stood {T} {E} {obeys_block} {keeps} {obeys_region} {tag} {at} {word} {tagged} {result} {asked_old} {asked_mid} {asked_new} {block} {now} {region} {after} t is set sets = record {
  tagged = tagged;
  between = asked_mid;
  first = set;
  second = subst (λ r. OnOk r (SetsWord obeys_region at word result asked_mid region asked_new after)) (sym is) sets;
  stopped = subst (λ r. OnErr r ((is_err result ≡ true) × (asked_new ≡ asked_mid) × (after ≡ region))) (sym is) tt;
}
