-- What a block holds, and what a crash may leave of it, as definitions over the history of its
-- writing steps.
use Rattle.std.specs.Prelude.{ℕ, ◌+◌, ◌<◌, ◌≤◌, ◌≡◌, ◌⊎◌, Bool, IsTrue, List, [], ◌∷◌, length}
use Rattle.std.proofs.Math.ListN.{get_or, replicate}
use Rattle.cfs_pmem.specs.Images.{Seen, stepped, patched}

-- a tag word and 4096 bytes
pub record Content : Type 0 where
  pub tag : ℕ
  pub bytes : List ℕ

-- One writing step, with the content after it.
pub data BlockStep : Type 0 where
  -- a write of so many bytes from a place on, also one that failed
  ranged : ℕ → ℕ → Content → BlockStep
  -- a tag that was asked for, also where that failed
  tagged : ℕ → Content → BlockStep
  -- a flush that succeeded, and one that failed
  flushed : Content → BlockStep
  stalled : Content → BlockStep

-- the content after the newest step, which is what is read
abbrev pub content_now : List BlockStep → Content
content_now [] = record { tag = 0; bytes = [] }
content_now (ranged from len content ∷ before) = content
content_now (tagged asked content ∷ before) = content
content_now (flushed content ∷ before) = content
content_now (stalled content ∷ before) = content

-- the content at the newest flush that succeeded
abbrev pub content_kept : List BlockStep → Content
content_kept [] = record { tag = 0; bytes = [] }
content_kept (ranged from len content ∷ before) = content_kept before
content_kept (tagged asked content ∷ before) = content_kept before
content_kept (flushed content ∷ before) = content
content_kept (stalled content ∷ before) = content_kept before

abbrev pub content_of : Seen BlockStep → Content
content_of seen = content_now seen.history

-- a block that came with this content, which is all that a crash may leave
abbrev pub began : ℕ → Content → Seen BlockStep
began device content = record { device = device; also = []; history = flushed content ∷ [] }

abbrev pub with_bytes : ℕ → List ℕ → Content → Content
with_bytes from new content = record { tag = content.tag; bytes = patched content.bytes from new }

abbrev pub with_tag : ℕ → Content → Content
with_tag tag content = record { tag = tag; bytes = content.bytes }

-- the block after each kind of step that succeeded
abbrev pub wrote : ℕ → List ℕ → Seen BlockStep → Seen BlockStep
wrote from new seen =
    stepped (ranged from (length new) (with_bytes from new (content_of seen))) seen

abbrev pub retagged : ℕ → Seen BlockStep → Seen BlockStep
retagged tag seen = stepped (tagged tag (with_tag tag (content_of seen))) seen

abbrev pub kept : Seen BlockStep → Seen BlockStep
kept seen = stepped (flushed (content_of seen)) seen

-- after a write, a tag and a flush that failed, where all that is read is as it was
abbrev pub unwritten : ℕ → ℕ → Seen BlockStep → Seen BlockStep
unwritten from len seen = stepped (ranged from len (content_of seen)) seen

abbrev pub unretagged : ℕ → Seen BlockStep → Seen BlockStep
unretagged tag seen = stepped (tagged tag (content_of seen)) seen

abbrev pub unflushed : Seen BlockStep → Seen BlockStep
unflushed seen = stepped (stalled (content_of seen)) seen

-- A write that failed: some bytes stand in its range, and all else is as it was.
pub record IsTorn (from len : ℕ) (old new : Seen BlockStep) : Type 0 where
  pub left : List ℕ
  pub size : length left ≡ len
  pub is : new ≡ stepped (ranged from len (with_bytes from left (content_of old))) old

-- a tag that was asked for in vain: the old one stands, or the new one
abbrev pub IsHalfTagged : ℕ → Seen BlockStep → Seen BlockStep → Type 0
IsHalfTagged tag old new = (new ≡ unretagged tag old) ⊎ (new ≡ retagged tag old)

-- A write, and a tag, that failed, of a block that leaves all that is read as it was, or of one
-- that may not.
pub record WriteFails (keeps_refused : Bool) (from len : ℕ)
    (old new : Seen BlockStep) : Type 0 where
  pub torn : IsTorn from len old new
  pub kept : IsTrue keeps_refused → new ≡ unwritten from len old

pub record TagFails (keeps_refused : Bool) (tag : ℕ) (old new : Seen BlockStep) : Type 0 where
  pub half : IsHalfTagged tag old new
  pub kept : IsTrue keeps_refused → new ≡ unretagged tag old

-- byte k may be v: since the newest flush that succeeded it was v, or it was in a range that was
-- written, which may hold anything
abbrev pub MayHaveByte : List BlockStep → ℕ → ℕ → Type 0
MayHaveByte [] k v = ⊥
MayHaveByte (ranged from len content ∷ before) k v =
    (v ≡ get_or content.bytes k 0) ⊎
    (((from ≤ k) × (k < from + len) × (v < 256)) ⊎ MayHaveByte before k v)
MayHaveByte (tagged asked content ∷ before) k v =
    (v ≡ get_or content.bytes k 0) ⊎ MayHaveByte before k v
MayHaveByte (flushed content ∷ before) k v = v ≡ get_or content.bytes k 0
MayHaveByte (stalled content ∷ before) k v = (v ≡ get_or content.bytes k 0) ⊎ MayHaveByte before k v

-- the tag may be this one: since the newest flush that succeeded it was, or was asked for
abbrev pub MayHaveTag : List BlockStep → ℕ → Type 0
MayHaveTag [] tag = ⊥
MayHaveTag (ranged from len content ∷ before) tag = (tag ≡ content.tag) ⊎ MayHaveTag before tag
MayHaveTag (tagged asked content ∷ before) tag =
    (tag ≡ content.tag) ⊎ ((tag ≡ asked) ⊎ MayHaveTag before tag)
MayHaveTag (flushed content ∷ before) tag = tag ≡ content.tag
MayHaveTag (stalled content ∷ before) tag = (tag ≡ content.tag) ⊎ MayHaveTag before tag

-- What a crash may leave: a tag that it may have, and in each byte, by itself, a value that it may
-- have.
pub record IsBlockImage (history : List BlockStep) (image : Content) : Type 0 where
  pub size : length image.bytes ≡ length (content_now history).bytes
  pub bytes : (k : ℕ) → k < length image.bytes → MayHaveByte history k (get_or image.bytes k 0)
  pub tag : MayHaveTag history image.tag

-- P holds of each image
abbrev pub AllBlockImages : Seen BlockStep → (Content → Type 0) → Type 0
AllBlockImages seen P = (image : Content) → IsBlockImage seen.history image → P image

-- the content now is the only image
abbrev pub IsSureBlock : Seen BlockStep → Type 0
IsSureBlock seen = AllBlockImages seen (λ image. image ≡ content_of seen)

-- the two have the same tag, and the same bytes outside the range
pub record DiffersWithin (from len : ℕ) (first image : Content) : Type 0 where
  pub tag : image.tag ≡ first.tag
  pub size : length image.bytes ≡ length first.bytes
  pub outside : (k : ℕ) → (k < from) ⊎ (from + len ≤ k)
      → get_or image.bytes k 0 ≡ get_or first.bytes k 0

-- an image of that block, with any bytes in the range
pub record IsRangedFrom (seen : Seen BlockStep) (from len : ℕ) (image : Content) : Type 0 where
  pub first : Content
  pub possible : IsBlockImage seen.history first
  pub within : DiffersWithin from len first image

-- an image of that block, or one with this tag
pub record IsTaggedFrom (seen : Seen BlockStep) (tag : ℕ) (image : Content) : Type 0 where
  pub first : Content
  pub possible : IsBlockImage seen.history first
  pub same : (image ≡ first) ⊎ (image ≡ with_tag tag first)

-- no file has the block
abbrev pub IsUntagged : Content → Type 0
IsUntagged content = content.tag ≡ 0

-- the bytes of a block that holds zeros
unfoldable pub zeros : List ℕ
zeros = replicate 4096 0

abbrev pub IsZero : Content → Type 0
IsZero content = content ≡ record { tag = 0; bytes = zeros }
