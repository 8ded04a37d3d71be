-- Where a crash leaves one disk alone, it leaves each block as it reads.
use Rattle.std.proofs.Common.{ℕ, zero, suc, ◌≡◌, ◌∙◌, List, [], ◌∷◌, map}
use Rattle.std.proofs.Common.{set, sym, ap, arith}
use Rattle.std.proofs.lemmas.List.{get_or-set_same, length-map}
use Rattle.cfs_pmem.specs.Images.{Seen, WordStep, IsImage, words_of}
use Rattle.cfs_pmem.specs.Objects.{IsEachImage, seen_at}
use Rattle.cfs_pmem.proofs.ImageLemmas as words_lemmas
use Rattle.cfs_block.specs.BlockImages.{BlockStep, Content, IsBlockImage, content_of}
use Rattle.cfs_block.proofs.BlockLemmas as block_lemmas
use Rattle.cfs_home.specs.Calls.{HaveBlocksOf}
use Rattle.cfs_home.specs.Disks.{Disk}
use Rattle.cfs_medium.specs.Depicts.{content_at}
use Rattle.cfs_recover.specs.Held.{AreFull}
use Rattle.cfs_recover.specs.Sure.{AreSure}
use Rattle.cfs_recover.proofs.Held.{contents-at}

-- what reads now is an image

pub words-now : (regions : List (Seen WordStep)) →
    IsEachImage IsImage regions (map words_of regions)
words-now [] = tt
words-now (region ∷ regions) = (words_lemmas.now_is_image region.history, words-now regions)

pub contents-now : (blocks : List (Seen BlockStep)) → AreFull blocks →
    IsEachImage IsBlockImage blocks (map content_of blocks)
contents-now [] full = tt
contents-now (block ∷ blocks) full = (
  block_lemmas.now_is_image block.history (let own = full 0 (omega arith) in omega (arith, own)),
  contents-now blocks (λ k less. full (suc k) (omega arith)),
)

-- another image of one of them
each-set : {Form Image : Type 0} (IsImage_ : List Form → Image → Type 0)
    (olds : List (Seen Form)) (images : List Image) (k : ℕ) (image : Image) →
    IsEachImage IsImage_ olds images → IsImage_ (seen_at olds k).history image →
    IsEachImage IsImage_ olds (set images k image)
each-set IsImage_ [] [] k image each is = tt
each-set IsImage_ [] (first ∷ images) k image each is = absurd each
each-set IsImage_ (old ∷ olds) [] k image each is = absurd each
each-set IsImage_ (old ∷ olds) (first ∷ images) zero image each is = (is, each.1)
each-set IsImage_ (old ∷ olds) (first ∷ images) (suc k) image each is =
    (each.0, each-set IsImage_ olds images k image each.1 is)

pub have-read : (disk : Disk) (blocks : List (Seen BlockStep)) → AreFull blocks →
    HaveBlocksOf disk blocks → map content_of blocks ≡ disk.blocks
have-read disk blocks full have = have (map content_of blocks) (contents-now blocks full)

pub have-sure : (disk : Disk) (blocks : List (Seen BlockStep)) → AreFull blocks →
    HaveBlocksOf disk blocks → AreSure blocks
have-sure disk blocks full have k less image is =
    sym (get_or-set_same (map content_of blocks) k image (record { tag = 0; bytes = [] })
    (omega (arith, less, length-map blocks content_of)))
    ∙ (ap (λ (contents : List Content). content_at contents k)
    (have (set (map content_of blocks) k image)
    (each-set IsBlockImage blocks (map content_of blocks) k image (contents-now blocks full) is)
    ∙ sym (have-read disk blocks full have))
    ∙ contents-at blocks k)
