-- Images of a block after each kind of writing step, and moments step by step.
use Rattle.std.proofs.Common.{ℕ, ◌+◌, ◌-◌, ◌<◌, ◌≤◌, ◌≡◌, ◌⊎◌, ◌∙◌, List, [], ◌∷◌, ◌++◌, length, get_or, take, drop, inl, inr, refl, sym, ap, subst, arith, ⊎_elim, ext_get_or}
use Rattle.std.proofs.lemmas.List.{length-take-le, length-drop, get_or-take, get_or-drop, drop_all, append-nil, length-replicate}
use Rattle.std.proofs.Math.ListN.{replicate}
use Rattle.std.proofs.lemmas.Bool.{cases_lt}
use Rattle.cfs_pmem.specs.Images.{Seen, patched}
use Rattle.cfs_pmem.proofs.Patches.{length-patched, patched_below, patched_inside, patched_above}
use Rattle.cfs_block.specs.BlockImages.{Content, BlockStep, ranged, tagged, flushed, stalled, content_now, content_kept, content_of, with_bytes, with_tag, wrote, retagged, kept, unflushed, IsTorn, IsHalfTagged, MayHaveByte, MayHaveTag, IsBlockImage, AllBlockImages, IsSureBlock, IsRangedFrom, IsTaggedFrom, IsUntagged, IsZero, zeros, began}

-- What is read is always an image.

pub byte_now : (history : List BlockStep) (k : ℕ) → k < length (content_now history).bytes → MayHaveByte history k (get_or (content_now history).bytes k 0)
byte_now [] k l = absurd (omega arith)
byte_now (ranged from len content ∷ before) k l = inl refl
byte_now (tagged asked content ∷ before) k l = inl refl
byte_now (flushed content ∷ before) k l = refl
byte_now (stalled content ∷ before) k l = inl refl

-- (a history has begun where the block has any bytes)
pub tag_now : (history : List BlockStep) → 0 < length (content_now history).bytes → MayHaveTag history (content_now history).tag
tag_now [] l = absurd (omega arith)
tag_now (ranged from len content ∷ before) l = inl refl
tag_now (tagged asked content ∷ before) l = inl refl
tag_now (flushed content ∷ before) l = refl
tag_now (stalled content ∷ before) l = inl refl

pub now_is_image : (history : List BlockStep) → 0 < length (content_now history).bytes → IsBlockImage history (content_now history)
now_is_image history l = record { size = refl; bytes = λ k lk. byte_now history k lk; tag = tag_now history l }

-- So is what stood at the newest flush, byte by byte.

pub byte_kept : (history : List BlockStep) (k : ℕ) → k < length (content_kept history).bytes → MayHaveByte history k (get_or (content_kept history).bytes k 0)
byte_kept [] k l = absurd (omega arith)
byte_kept (ranged from len content ∷ before) k l = inr (inr (byte_kept before k l))
byte_kept (tagged asked content ∷ before) k l = inr (byte_kept before k l)
byte_kept (flushed content ∷ before) k l = refl
byte_kept (stalled content ∷ before) k l = inr (byte_kept before k l)

pub tag_kept : (history : List BlockStep) → 0 < length (content_kept history).bytes → MayHaveTag history (content_kept history).tag
tag_kept [] l = absurd (omega arith)
tag_kept (ranged from len content ∷ before) l = inr (tag_kept before l)
tag_kept (tagged asked content ∷ before) l = inr (inr (tag_kept before l))
tag_kept (flushed content ∷ before) l = refl
tag_kept (stalled content ∷ before) l = inr (tag_kept before l)

-- after a flush the content now is the only image
pub only_kept : (content : Content) (before : List BlockStep) (image : Content) → IsBlockImage (flushed content ∷ before) image → image ≡ content
only_kept content before image h =
    let bytes : image.bytes ≡ content.bytes = ext_get_or 0 image.bytes content.bytes h.size h.bytes in
    ap (λ t. record { tag = t; bytes = image.bytes }) h.tag ∙ ap (λ bs. record { tag = content.tag; bytes = bs }) bytes

pub sure_kept : (old : Seen BlockStep) {new : Seen BlockStep} → new ≡ kept old → IsSureBlock new
sure_kept old {new} e = subst (λ s. IsSureBlock s) (sym e) (λ image h. only_kept (content_of old) old.history image h)

pub all_kept : (P : Content → Type 0) (old : Seen BlockStep) {new : Seen BlockStep} → new ≡ kept old → P (content_of old) → AllBlockImages new P
all_kept P old {new} e now =
    subst (λ s. AllBlockImages s P) (sym e) (λ image h. subst (λ c. P c) (sym (only_kept (content_of old) old.history image h)) now)

-- A step that is no flush leaves an image of before, but for its range or its tag.

-- a byte outside the range is one that was possible before
byte_outside : (history : List BlockStep) (from len : ℕ) (left : List ℕ) (k v : ℕ) → length left ≡ len → from + len ≤ length (content_now history).bytes
    → k < length (content_now history).bytes → (k < from) ⊎ (from + len ≤ k)
    → MayHaveByte (ranged from len (with_bytes from left (content_now history)) ∷ history) k v → MayHaveByte history k v
byte_outside history from len left k v size fits lk out h =
    let now : List ℕ = (content_now history).bytes in
    let same : get_or (patched now from left) k 0 ≡ get_or now k 0 =
    elim out as (λ _. get_or (patched now from left) k 0 ≡ get_or now k 0) [
      | inl below ↦ patched_below now from left k (omega arith) below
      | inr above ↦ patched_above now from left k (omega arith) (omega arith)
    ] in
    elim h as (λ _. MayHaveByte history k v) [
      | inl e ↦ subst (λ b. MayHaveByte history k b) (sym (e ∙ same)) (byte_now history k lk)
      | inr rest ↦ elim rest as (λ _. MayHaveByte history k v) [
        | inl within ↦ elim out as (λ _. MayHaveByte history k v) [ inl below ↦ absurd (omega (arith, within.0)) | inr above ↦ absurd (omega (arith, within.1)) ]
        | inr before ↦ before
      ]
    ]

pub image_ranged : (seen : Seen BlockStep) (from len : ℕ) (left : List ℕ) → length left ≡ len → from + len ≤ length (content_of seen).bytes → 0 < length (content_of seen).bytes
    → (image : Content) → IsBlockImage (ranged from len (with_bytes from left (content_of seen)) ∷ seen.history) image → IsRangedFrom seen from len image
image_ranged seen from len left size fits some image h =
    let now : List ℕ = (content_of seen).bytes in
    let sized : length image.bytes ≡ length now = h.size ∙ length-patched now from left (omega arith) in
    -- the range holds what it held, and the rest is the image's
    let held : List ℕ = take len (drop from now) in
    let held_size : length held ≡ len = length-take-le len (drop from now) (omega (arith, length-drop from now)) in
    let bytes : List ℕ = patched image.bytes from held in
    let bytes_size : length bytes ≡ length image.bytes = length-patched image.bytes from held (omega arith) in
    record {
      first = record { tag = image.tag; bytes = bytes };
      possible = record {
        size = bytes_size ∙ sized;
        bytes = λ k l. elim (cases_lt k from) as (λ _. MayHaveByte seen.history k (get_or bytes k 0)) [
          | inl below ↦
              subst (λ v. MayHaveByte seen.history k v) (sym (patched_below image.bytes from held k (omega arith) below))
              (byte_outside seen.history from len left k (get_or image.bytes k 0) size fits (omega arith) (inl below) (h.bytes k (omega arith)))
          | inr from_on ↦ elim (cases_lt k (from + len)) as (λ _. MayHaveByte seen.history k (get_or bytes k 0)) [
            | inl inside ↦
                let i : ℕ = k - from in
                let is : from + i ≡ k = omega arith in
                let here : get_or bytes k 0 ≡ get_or now k 0 =
                ap (λ n. get_or bytes n 0) (sym is) ∙ patched_inside image.bytes from held i (omega arith) (omega arith)
                ∙ get_or-take len (drop from now) i 0 (omega arith) ∙ get_or-drop from now i 0 ∙ ap (λ n. get_or now n 0) is in
                subst (λ v. MayHaveByte seen.history k v) (sym here) (byte_now seen.history k (omega arith))
            | inr above ↦
                subst (λ v. MayHaveByte seen.history k v) (sym (patched_above image.bytes from held k (omega arith) (omega arith)))
                (byte_outside seen.history from len left k (get_or image.bytes k 0) size fits (omega arith) (inr above) (h.bytes k (omega arith)))
          ]
        ];
        tag = elim h.tag as (λ _. MayHaveTag seen.history image.tag) [
          | inl e ↦ subst (λ t. MayHaveTag seen.history t) (sym e) (tag_now seen.history some)
          | inr before ↦ before
        ];
      };
      within = record {
        tag = refl;
        size = sym bytes_size;
        outside = λ k out. elim out as (λ _. get_or image.bytes k 0 ≡ get_or bytes k 0) [
          | inl below ↦ sym (patched_below image.bytes from held k (omega arith) below)
          | inr above ↦ sym (patched_above image.bytes from held k (omega arith) (omega arith))
        ];
      };
    }

-- a tag that was asked for, whichever stands
pub image_tagged : (seen : Seen BlockStep) (tag : ℕ) (now : ℕ) → (now ≡ tag) ⊎ (now ≡ (content_of seen).tag) → 0 < length (content_of seen).bytes
    → (image : Content) → IsBlockImage (tagged tag (with_tag now (content_of seen)) ∷ seen.history) image → IsTaggedFrom seen tag image
image_tagged seen tag now stands some image h =
    let bytes : (k : ℕ) → k < length image.bytes → MayHaveByte seen.history k (get_or image.bytes k 0) =
    λ k l. elim (h.bytes k l) as (λ _. MayHaveByte seen.history k (get_or image.bytes k 0)) [
      | inl e ↦ subst (λ v. MayHaveByte seen.history k v) (sym e) (byte_now seen.history k (omega (arith, h.size)))
      | inr before ↦ before
    ] in
    let old : MayHaveTag seen.history image.tag → IsTaggedFrom seen tag image =
    λ t. record { first = image; possible = record { size = h.size; bytes = bytes; tag = t }; same = inl refl } in
    let new : image.tag ≡ tag → IsTaggedFrom seen tag image =
    λ e. record {
      first = with_tag (content_of seen).tag image;
      possible = record { size = h.size; bytes = bytes; tag = tag_now seen.history some };
      same = inr (ap (λ t. with_tag t image) e);
    } in
    elim h.tag as (λ _. IsTaggedFrom seen tag image) [
      | inl e ↦ elim stands as (λ _. IsTaggedFrom seen tag image) [
        | inl asked ↦ new (e ∙ asked)
        | inr was ↦ old (subst (λ t. MayHaveTag seen.history t) (sym (e ∙ was)) (tag_now seen.history some))
      ]
      | inr rest ↦ elim rest as (λ _. IsTaggedFrom seen tag image) [ inl asked ↦ new asked | inr before ↦ old before ]
    ]

-- a flush that failed adds no image
pub image_unflushed : (history : List BlockStep) → 0 < length (content_now history).bytes → (image : Content) → IsBlockImage (stalled (content_now history) ∷ history) image → IsBlockImage history image
image_unflushed history some image h = record {
  size = h.size;
  bytes = λ k l. elim (h.bytes k l) as (λ _. MayHaveByte history k (get_or image.bytes k 0)) [
    | inl e ↦ subst (λ v. MayHaveByte history k v) (sym e) (byte_now history k (omega (arith, h.size)))
    | inr before ↦ before
  ];
  tag = elim h.tag as (λ _. MayHaveTag history image.tag) [
    | inl e ↦ subst (λ t. MayHaveTag history t) (sym e) (tag_now history some)
    | inr before ↦ before
  ];
}

-- What holds of each image, after each kind of step.

pub all_wrote : (old : Seen BlockStep) {new : Seen BlockStep} (from : ℕ) (bytes : List ℕ) → from + length bytes ≤ length (content_of old).bytes → 0 < length (content_of old).bytes
    → new ≡ wrote from bytes old → AllBlockImages new (IsRangedFrom old from (length bytes))
all_wrote old {new} from bytes fits some e =
    subst (λ s. AllBlockImages s (IsRangedFrom old from (length bytes))) (sym e) (λ image h. image_ranged old from (length bytes) bytes refl fits some image h)

pub all_torn : (old : Seen BlockStep) {new : Seen BlockStep} (from len : ℕ) → from + len ≤ length (content_of old).bytes → 0 < length (content_of old).bytes
    → IsTorn from len old new → AllBlockImages new (IsRangedFrom old from len)
all_torn old {new} from len fits some torn =
    subst (λ s. AllBlockImages s (IsRangedFrom old from len)) (sym torn.is) (λ image h. image_ranged old from len torn.left torn.size fits some image h)

pub all_retagged : (old : Seen BlockStep) {new : Seen BlockStep} (tag : ℕ) → 0 < length (content_of old).bytes → new ≡ retagged tag old → AllBlockImages new (IsTaggedFrom old tag)
all_retagged old {new} tag some e =
    subst (λ s. AllBlockImages s (IsTaggedFrom old tag)) (sym e) (λ image h. image_tagged old tag tag (inl refl) some image h)

pub all_half_tagged : (old : Seen BlockStep) {new : Seen BlockStep} (tag : ℕ) → 0 < length (content_of old).bytes → IsHalfTagged tag old new → AllBlockImages new (IsTaggedFrom old tag)
all_half_tagged old {new} tag some half =
    elim half as (λ _. AllBlockImages new (IsTaggedFrom old tag)) [
      | inl e ↦ subst (λ s. AllBlockImages s (IsTaggedFrom old tag)) (sym e) (λ image h. image_tagged old tag (content_of old).tag (inr refl) some image h)
      | inr e ↦ all_retagged old tag some e
    ]

pub all_unflushed : (P : Content → Type 0) (old : Seen BlockStep) {new : Seen BlockStep} → 0 < length (content_of old).bytes → new ≡ unflushed old → AllBlockImages old P → AllBlockImages new P
all_unflushed P old {new} some e all = subst (λ s. AllBlockImages s P) (sym e) (λ image h. all image (image_unflushed old.history some image h))

-- a write over any bytes leaves the block untagged
pub untagged_ranged : (old new : Seen BlockStep) (from len : ℕ) → AllBlockImages new (IsRangedFrom old from len) → AllBlockImages old IsUntagged → AllBlockImages new IsUntagged
untagged_ranged old new from len ranged_from none = λ image h. let was = ranged_from image h in was.within.tag ∙ none was.first was.possible

-- a block that is untagged as it stands, where nothing else is possible
pub untagged_sure : (seen : Seen BlockStep) → IsSureBlock seen → (content_of seen).tag ≡ 0 → AllBlockImages seen IsUntagged
untagged_sure seen sure none = λ image h. ap (λ c. c.tag) (sure image h) ∙ none

pub sure_began : (device : ℕ) (content : Content) → IsSureBlock (began device content)
sure_began device content = λ image h. only_kept content [] image h

none-taken : (bytes : List ℕ) → take 0 bytes ≡ []
none-taken [] = refl
none-taken (first ∷ bytes) = refl

pub zeros-are : zeros ≡ replicate 4096 0
unfolding zeros
zeros-are = refl

pub length-zeros : length zeros ≡ 4096
length-zeros = ap (λ (xs : List ℕ). length xs) zeros-are ∙ length-replicate {A = ℕ} 4096 0

-- a block that was written over whole with zeros, and flushed, while it was untagged
pub zeroed : (old mid : Seen BlockStep) {new : Seen BlockStep} → length (content_of old).bytes ≡ 4096 → (content_of old).tag ≡ 0
    → mid ≡ wrote 0 zeros old → new ≡ kept mid → AllBlockImages new IsZero
zeroed old mid {new} full none w k =
    let size : length zeros ≡ 4096 = length-zeros in
    let all : patched (content_of old).bytes 0 zeros ≡ zeros =
    ap (λ xs. xs ++ (zeros ++ drop (0 + length zeros) (content_of old).bytes)) (none-taken (content_of old).bytes)
    ∙ ap (λ xs. zeros ++ xs) (drop_all (0 + length zeros) (content_of old).bytes (omega (arith, size, full))) ∙ append-nil zeros in
    let is : IsZero (content_of mid) =
    ap (λ (s : Seen BlockStep). content_of s) w ∙ ap (λ t. record { tag = t; bytes = patched (content_of old).bytes 0 zeros }) none ∙ ap (λ bs. record { tag = 0; bytes = bs }) all in
    all_kept (λ image. IsZero image) mid k is

-- an image of the block is one from before
pub tagged_from_same : (old : Seen BlockStep) (tag : ℕ) → AllBlockImages old (IsTaggedFrom old tag)
tagged_from_same old tag = λ image h. record { first = image; possible = h; same = inl refl }

-- and stays one, or one with the tag, under that tag
pub tagged_again : (old : Seen BlockStep) (tag : ℕ) (image : Content) → IsTaggedFrom old tag image → IsTaggedFrom old tag (with_tag tag image)
tagged_again old tag image h = record {
  first = h.first;
  possible = h.possible;
  same = inr (⊎_elim (λ e. ap (λ c. with_tag tag c) e) (λ e. ap (λ c. with_tag tag c) e) h.same);
}

pub untagged_began : {seen : Seen BlockStep} {content : Content} (device : ℕ) → seen ≡ began device content → content.tag ≡ 0 → AllBlockImages seen IsUntagged
untagged_began {seen} {content} device e none =
    subst (λ s. AllBlockImages s IsUntagged) (sym e) (λ image h. ap (λ c. c.tag) (sure_began device content image h) ∙ none)
