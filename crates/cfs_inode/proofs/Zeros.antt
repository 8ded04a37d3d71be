-- Blocks that hold zeros in every image.
use Rattle.std.proofs.Common.{◌≡◌, ◌∙◌, ◌⊎◌, ◌<◌, ◌+◌, ◌*◌, ◌/◌, ap, arith, get_or, inl, inr}
use Rattle.std.proofs.Common.{Option, Some, refl, replicate, subst, sym, true, false, zero, suc, ℕ}
use Rattle.std.proofs.Common.{Bool}
use Rattle.cfs_file.specs.declared.sizes.TheConstants.{BLOCK_LEN, FILE_BLOCKS}
use Rattle.cfs_core.specs.declared.event.Event.TheVariants as events
use Rattle.cfs_core.specs.declared.flag.Flag.{Flag}
use Rattle.cfs_core.specs.declared.flag.Flag.TheVariants.{Off, On, Unsure}
use Rattle.cfs_core.specs.declared.inode_core.Core.{Core}
use Rattle.cfs_core.specs.Words.{can_be, is_on}
use Rattle.cfs_core.specs.May.{is_written}
use Rattle.cfs_core.specs.After.{after}
use Rattle.cfs_core.proofs.Legal.{same_number}
use Rattle.cfs_core_laws.specs.Reached.{IsReached}
use Rattle.cfs_core_laws.proofs.Blanks.{calm-at}
use Rattle.cfs_core_laws.proofs.Whole.{whole}
use Rattle.cfs_pmem.specs.Images.{Seen}
use Rattle.cfs_block.specs.BlockImages.{AllBlockImages, BlockStep, Content, IsTaggedFrom, IsZero}
use Rattle.cfs_block.specs.BlockImages.{zeros}
use Rattle.cfs_medium.specs.BlockEvents.{IsBlank}
use Rattle.cfs_medium.specs.Shows.{Shows, is_for}
use Rattle.cfs_medium.specs.Store.{tag_of}
use Rattle.cfs_medium.specs.World.{IsImageAt, World}

-- an image of zeros stays one where a tag is tried
pub blank-tried : (other tag : ℕ) (seen : Seen BlockStep) (content : Content) →
    (tag ≡ 0) ⊎ (tag ≡ other) → AllBlockImages seen (IsBlank other) →
    IsTaggedFrom seen tag content → IsBlank other content
blank-tried other tag seen content is blank from = elim from.same [
  | inl same ↦ subst (λ c. IsBlank other c) (sym same) (blank from.first from.possible)
  | inr changed ↦
      subst (λ c. IsBlank other c) (sym changed)
      (record { tag_is = is; zeros = (blank from.first from.possible).zeros })
]

zero-at : (n k : ℕ) → ◌≡◌ {A = ℕ} (get_or (replicate n 0) k 0) 0
zero-at zero k = refl
zero-at (suc n) zero = refl
zero-at (suc n) (suc k) = zero-at n k

zeros-at : (k : ℕ) → get_or zeros k 0 ≡ 0
unfolding zeros
zeros-at k = zero-at 4096 k

-- a block of zeros may have any tag tried
pub zero-blank : (tag : ℕ) (seen : Seen BlockStep) → AllBlockImages seen IsZero →
    AllBlockImages seen (IsBlank tag)
zero-blank tag seen zero_ content image = record {
  tag_is = inl (ap (λ (c : Content). c.tag) (zero_ content image));
  zeros = λ k less.
      ap (λ (c : Content). get_or c.bytes k 0) (zero_ content image) ∙ zeros-at k;
}

on-is : (flag : Flag) (bit : Bool) → flag ≡ On → can_be flag bit ≡ true → bit ≡ true
on-is flag bit on can = (let same : can_be flag bit ≡ bit = rw on refl in sym same ∙ can)

-- What a core that may trim a block knows of it: nothing is loose there, and its bytes are 0.
pub past-blank : (ino block : ℕ) (core : Core) (world : World) (seen : Seen BlockStep) →
    IsReached core → IsReached (after core (events.Trim block false)) →
    get_or (after core (events.Trim block false)).tags block Off ≡ Unsure →
    get_or core.tags block Off ≡ On → block < FILE_BLOCKS → Shows ino core world →
    world.blocks block ≡ Some seen → AllBlockImages seen (IsBlank (tag_of ino block))
past-blank ino block core world seen reached tried unsure on less shows here content image =
    let off : is_on (get_or (after core (events.Trim block false)).tags block Off) ≡ false =
    rw unsure refl in
    let own = (whole tried).work.blocks.1.blanks block off in
    let at : IsImageAt (world.blocks block) content =
    subst (λ (o : Option (Seen BlockStep)). IsImageAt o content) (sym here) image in
    let fits = (shows.blocks block less).images content at in
    let mine : is_for ino block content ≡ true =
    on-is (get_or core.tags block Off) (is_for ino block content) on fits.tag_is in
    record {
      tag_is = inr (same_number content.tag (tag_of ino block) mine);
      zeros = λ k inside.
          let place : (BLOCK_LEN * block + k) / BLOCK_LEN ≡ block = omega arith in
          let calm : is_written core.loose ((BLOCK_LEN * block + k) / BLOCK_LEN) ≡ false =
          ap (λ (b : ℕ). is_written core.loose b) place ∙ own.calm in
          fits.bytes_are mine k inside
          (calm-at core.loose (BLOCK_LEN * block + k) (whole reached).kept.stored_.short calm)
          ∙ own.zeros (BLOCK_LEN * block + k) place;
    }
