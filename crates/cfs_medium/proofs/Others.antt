-- What stands in the blocks of other inodes is no matter.
use Rattle.std.proofs.Common.{◌≡◌, ◌≢◌, inl, inr, ℕ, ◌/◌, ◌%◌, ◌<◌, ◌==◌, nat_lt, Bool, false, if◌then◌else◌, Option, None, List, [], set, arith, sym, ap, ◌∙◌}
use Rattle.std.specs.List.{find, range_with_len}
use Rattle.std.proofs.lemmas.Bool.{cases_lt}
use Rattle.std.proofs.lemmas.Bool.Decides.{nat_tests}
use Rattle.std.proofs.lemmas.List.Folds.{find_past}
use Rattle.cfs_file.specs.declared.sizes.TheConstants.{BLOCK_LEN, FILE_BLOCKS}
use Rattle.cfs_block.specs.BlockImages.{Content}
use Rattle.cfs_medium.specs.Store.{byte_in, byte_of, tag_of}
use Rattle.cfs_medium.specs.Depicts.{content_at}
use Rattle.cfs_medium.specs.Laws.{BlocksOfOthersStay, IsOfOthers, TagsAreApart}
use Rattle.cfs_medium.proofs.Blocks.{map-same}

byte-stays : (ino at : ℕ) (blocks : List Content) (content : Content) → IsOfOthers ino (content_at blocks at).tag → IsOfOthers ino content.tag →
    (p : ℕ) → byte_in ino (set blocks at content) p ≡ byte_in ino blocks p
byte-stays ino at blocks content old new p = elim (cases_lt (p / BLOCK_LEN) FILE_BLOCKS) [
  | inl within ↦
      let was : ((content_at blocks at).tag == tag_of ino (p / BLOCK_LEN)) ≡ false = unlike (content_at blocks at).tag old within in
      let is : (content.tag == tag_of ino (p / BLOCK_LEN)) ≡ false = unlike content.tag new within in
      ap (λ (o : Option Content). byte_of (if nat_lt (p / BLOCK_LEN) FILE_BLOCKS then o else None) (p % BLOCK_LEN))
      (find_past (λ c. c.tag == tag_of ino (p / BLOCK_LEN)) blocks at content (record { tag = 0; bytes = [] }) was is)
  | inr past ↦
      let test : nat_lt (p / BLOCK_LEN) FILE_BLOCKS ≡ false = grind (arith, nat_tests) in
      none (set blocks at content) test ∙ sym (none blocks test)
]
  where
    unlike : (tag : ℕ) → IsOfOthers ino tag → p / BLOCK_LEN < FILE_BLOCKS → (tag == tag_of ino (p / BLOCK_LEN)) ≡ false
    unlike tag others within = let differs : tag ≢ tag_of ino (p / BLOCK_LEN) = others (p / BLOCK_LEN) within in grind (arith, nat_tests)

    none : (list : List Content) → nat_lt (p / BLOCK_LEN) FILE_BLOCKS ≡ false → byte_in ino list p ≡ 0
    none list test = ap (λ (b : Bool). byte_of (if b then find (λ c. c.tag == tag_of ino (p / BLOCK_LEN)) list else None) (p % BLOCK_LEN)) test

pub blocks-stay : BlocksOfOthersStay
blocks-stay ino at store content old new =
    map-same (λ p. byte_in ino (set store.blocks at content) p) (λ p. byte_in ino store.blocks p)
    (byte-stays ino at store.blocks content old new) (range_with_len 0 store.size)

pub tags-apart : TagsAreApart
tags-apart ino = (λ block within is. omega (arith, is), λ other block differs within own below is. differs (same other own block below within is))
  where
    same : (other own block : ℕ) → own < FILE_BLOCKS → block < FILE_BLOCKS → tag_of other block ≡ tag_of ino own → other ≡ ino
    same other own block below within is = omega (arith, is, below, within)
