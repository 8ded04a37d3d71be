-- One more call of a block: at each moment each image still has P.
use Rattle.std.proofs.Common.{ℕ, ◌+◌, ◌≤◌, ◌≡◌, List, length, sym, subst, arith, inl, inr, ⊎_elim}
use Rattle.cfs_pmem.specs.declared.trace.Asked.{Asked}
use Rattle.cfs_pmem.specs.Asks.{AsksSome}
use Rattle.cfs_pmem.specs.Images.{Seen, devices_of}
use Rattle.cfs_pmem.specs.Moments.{Moments}
use Rattle.cfs_pmem.proofs.MomentLemmas.{extended, at_end}
use Rattle.cfs_block.specs.BlockImages.{Content, BlockStep, content_of, with_tag, wrote, retagged, kept, unflushed, IsTorn, IsHalfTagged, DiffersWithin, IsBlockImage}
use Rattle.cfs_block.proofs.BlockLemmas.{all_wrote, all_torn, all_retagged, all_half_tagged, all_kept, all_unflushed, now_is_image}

-- a write, and one that failed: P stays whatever the bytes in the range are
pub on_write : {P : Content → Type 0} {asked_old asked_mid asked_new : List Asked} {old mid new : Seen BlockStep} (from : ℕ) (bytes : List ℕ)
    → length (content_of mid).bytes ≡ 4096 → from + length bytes ≤ 4096
    → Moments IsBlockImage P asked_old old asked_mid mid → new ≡ wrote from bytes mid → AsksSome (devices_of mid) asked_mid asked_new
    → ((first image : Content) → P first → DiffersWithin from (length bytes) first image → P image) → Moments IsBlockImage P asked_old old asked_new new
on_write {P} {asked_old} {asked_mid} {asked_new} {old} {mid} from bytes full fits m e asks stays =
    extended _ m e asks
    (λ image h. let was = all_wrote mid from bytes (omega arith) (omega arith) e image h in stays was.first image (at_end m was.first was.possible) was.within)

pub on_torn : {P : Content → Type 0} {asked_old asked_mid asked_new : List Asked} {old mid new : Seen BlockStep} (from len : ℕ)
    → length (content_of mid).bytes ≡ 4096 → from + len ≤ 4096
    → Moments IsBlockImage P asked_old old asked_mid mid → IsTorn from len mid new → AsksSome (devices_of mid) asked_mid asked_new
    → ((first image : Content) → P first → DiffersWithin from len first image → P image) → Moments IsBlockImage P asked_old old asked_new new
on_torn {P} {asked_old} {asked_mid} {asked_new} {old} {mid} from len full fits m torn asks stays =
    extended _ m torn.is asks
    (λ image h. let was = all_torn mid from len (omega arith) (omega arith) torn image h in stays was.first image (at_end m was.first was.possible) was.within)

-- a tag, and one that failed: P stays under that tag
pub on_tag : {P : Content → Type 0} {asked_old asked_mid asked_new : List Asked} {old mid new : Seen BlockStep} (tag : ℕ) → length (content_of mid).bytes ≡ 4096
    → Moments IsBlockImage P asked_old old asked_mid mid → new ≡ retagged tag mid → AsksSome (devices_of mid) asked_mid asked_new
    → ((image : Content) → P image → P (with_tag tag image)) → Moments IsBlockImage P asked_old old asked_new new
on_tag {P} {asked_old} {asked_mid} {asked_new} {old} {mid} tag full m e asks stays =
    extended _ m e asks
    (λ image h. let was = all_retagged mid tag (omega arith) e image h in
    ⊎_elim
    (λ same. subst (λ c. P c) (sym same) (at_end m was.first was.possible))
    (λ same. subst (λ c. P c) (sym same) (stays was.first (at_end m was.first was.possible)))
    was.same)

pub on_half_tag : {P : Content → Type 0} {asked_old asked_mid asked_new : List Asked} {old mid new : Seen BlockStep} (tag : ℕ) → length (content_of mid).bytes ≡ 4096
    → Moments IsBlockImage P asked_old old asked_mid mid → IsHalfTagged tag mid new → AsksSome (devices_of mid) asked_mid asked_new
    → ((image : Content) → P image → P (with_tag tag image)) → Moments IsBlockImage P asked_old old asked_new new
on_half_tag {P} {asked_old} {asked_mid} {asked_new} {old} {mid} {new} tag full m half asks stays =
    let all : (image : Content) → IsBlockImage new.history image → P image =
    λ image h. let was = all_half_tagged mid tag (omega arith) half image h in
    ⊎_elim
    (λ same. subst (λ c. P c) (sym same) (at_end m was.first was.possible))
    (λ same. subst (λ c. P c) (sym same) (stays was.first (at_end m was.first was.possible)))
    was.same in
    elim half as (λ _. Moments IsBlockImage P asked_old old asked_new new) [
      | inl e ↦ extended _ m e asks all
      | inr e ↦ extended _ m e asks all
    ]

-- a flush, and one that failed
pub on_flush : {P : Content → Type 0} {asked_old asked_mid asked_new : List Asked} {old mid new : Seen BlockStep} → length (content_of mid).bytes ≡ 4096
    → Moments IsBlockImage P asked_old old asked_mid mid → new ≡ kept mid → AsksSome (devices_of mid) asked_mid asked_new → Moments IsBlockImage P asked_old old asked_new new
on_flush {P} {asked_old} {asked_mid} {asked_new} {old} {mid} full m e asks =
    extended _ m e asks (all_kept P mid e (at_end m (content_of mid) (now_is_image mid.history (omega arith))))

pub on_stall : {P : Content → Type 0} {asked_old asked_mid asked_new : List Asked} {old mid new : Seen BlockStep} → length (content_of mid).bytes ≡ 4096
    → Moments IsBlockImage P asked_old old asked_mid mid → new ≡ unflushed mid → AsksSome (devices_of mid) asked_mid asked_new → Moments IsBlockImage P asked_old old asked_new new
on_stall {P} {asked_old} {asked_mid} {asked_new} {old} {mid} full m e asks = extended _ m e asks (all_unflushed P mid (omega arith) e (at_end m))
