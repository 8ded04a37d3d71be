-- A store that has nothing of an inode depicts the core of an empty file.
use Rattle.std.proofs.Common.{◌≡◌, ℕ, suc, zero, ◌==◌, ◌||◌, Bool, true, false, Some, None, List, [], ◌∷◌, length, get_or, arith, refl, sym, ◌∙◌}
use Rattle.std.specs.List.{Contains, list_all}
use Rattle.std.proofs.lemmas.Bool.Decides.{nat_tests}
use Rattle.cfs_file.specs.declared.request.Request.{Request}
use Rattle.cfs_core.specs.declared.flag.Flag.{Flag}
use Rattle.cfs_core.specs.declared.flag.Flag.TheVariants.{Off, On, Unsure}
use Rattle.cfs_core.specs.declared.image.Image.{Image}
use Rattle.cfs_core.specs.declared.inode_core.Core.{Core}
use Rattle.cfs_core.specs.Fresh.{IsEmpty}
use Rattle.cfs_core.specs.Medium.{allow_bits, is_image}
use Rattle.cfs_core.specs.Words.{can_be, is_off}
use Rattle.cfs_core.proofs.Images.{size-allowed, tag-allowed, tags_of_image}
use Rattle.cfs_core.proofs.Legal.{both}
use Rattle.cfs_medium.specs.Store.{entry_at}
use Rattle.cfs_medium.specs.Depicts.{entries_of}
use Rattle.cfs_medium.specs.Laws.{EmptyStoresDepict}
use Rattle.cfs_medium.proofs.Has.{has-contained}

all-off : (flags : List Flag) → list_all is_off flags ≡ true → (k : ℕ) → get_or flags k Off ≡ Off
all-off [] h k = refl
all-off (Off ∷ flags) h zero = refl
all-off (Off ∷ flags) h (suc k) = all-off flags h k
all-off (On ∷ flags) h k = cc
all-off (Unsure ∷ flags) h k = cc

unset : (bit : Bool) → can_be Off bit ≡ true → bit ≡ false
unset true h = cc
unset false h = refl

no_tag : (core : Core) (image : Image) → IsEmpty core → is_image core image ≡ true → (k : ℕ) → get_or image.tags k false ≡ false
no_tag core image empty is k =
    let off : get_or core.tags k Off ≡ Off = all-off core.tags empty.tags k in
    let allowed : can_be Off (get_or image.tags k false) ≡ true = rw off at (tag-allowed core image k is) in
    unset (get_or image.tags k false) allowed

no_size : (core : Core) (image : Image) → IsEmpty core → is_image core image ≡ true → image.size ≡ 0
no_size core image empty is =
    let own : ((image.size == core.size) || false) ≡ true = rw empty.sizes at (size-allowed core image is) in
    same image.size core.size own ∙ empty.size
  where
    same : (a b : ℕ) → ((a == b) || false) ≡ true → a ≡ b
    same a b h = grind (arith, nat_tests)

no_entry : (core : Core) (image : Image) → IsEmpty core → entries_of core image ≡ []
no_entry core image empty = rw (empty.log, empty.doubt) refl

pub empty-depicts : EmptyStoresDepict
empty-depicts ino store core image empty is size slots blocks = record {
  size_is = size ∙ sym (no_size core image empty is);
  tags_are =
      let parts = both (length image.tags == length core.tags) (allow_bits core.tags image.tags) (tags_of_image core image is) in
      let same : length image.tags ≡ length core.tags = grind (arith, nat_tests) in
      same ∙ empty.blocks;
  tagged = λ block within bit. absurd (is_unset block bit);
  is_set = λ at block within for_it. absurd (blocks at block within for_it);
  alone = λ first second block within for_it too. absurd (blocks first block within for_it);
  bytes_are = λ at block k within for_it below. absurd (blocks at block within for_it);
  live = λ at entry stands. absurd (is_none at entry stands);
  held = λ entry among. absurd (is_nothing entry among);
  once = λ first second entry stands too. absurd (is_none first entry stands);
}
  where
    is_unset : (block : ℕ) → get_or image.tags block false ≡ true → ⊥
    is_unset block bit = let other : get_or image.tags block false ≡ false = no_tag core image empty is block in cc

    is_none : (at : ℕ) (entry : ℕ × Request) → entry_at ino store.slots at ≡ Some entry → ⊥
    is_none at entry stands = let none : entry_at ino store.slots at ≡ None = slots at in cc

    is_nothing : (entry : ℕ × Request) → Contains (entries_of core image) entry → ⊥
    is_nothing entry among = let nothing : Contains [] entry = rw (no_entry core image empty) at among in has-contained [] entry nothing
