-- The devices of an image that was read, and the image of what devices hold.
use Rattle.std.proofs.Common.{◌≡◌, ◌∙◌, ℕ, suc, ◌+◌, List, [], ◌∷◌, length, map, get_or, drop, refl, sym, ap, arith}
use Rattle.std.specs.Prelude.{Result, Ok, Err, IfOk}
use Rattle.std.specs.List.{All, enumerate_from, range_with_len}
use Rattle.std.proofs.lemmas.List.{length-map}
use Rattle.std.proofs.lemmas.Simd.{map-map}
use Rattle.cfs_pmem.specs.declared.trace.Asked.{Asked}
use Rattle.cfs_pmem.specs.Images as regions
use Rattle.cfs_pmem.specs.Images.{MemoryRegion, Seen, WordStep, words_of}
use Rattle.cfs_block.specs.BlockImages as blocks
use Rattle.cfs_block.specs.BlockImages.{content_of}
use Rattle.cfs_block.specs.MemoryBlocks.{seen_of}
use Rattle.cfs_block.specs.declared.mem_block.MemBlock.{MemBlock}
use Rattle.cfs_image.specs.Image.{IsNewBlock, IsNewRegion, contents_in, image_of, words_in}
use Rattle.cfs_image.specs.Store.{IsStore}
use Rattle.cfs_meaning.specs.Real.{drive_of}
use Rattle.cfs_meaning.specs.Scripts.{loaded, saved}

pub if-both : {T E : Type 0} (result : Result T E) (P Q S : T → Type 0) →
    ((t : T) → P t → Q t → S t) → IfOk result P → IfOk result Q → IfOk result S
if-both (Ok t) P Q S give p q = give t p q
if-both (Err error) P Q S give p q = tt

pub if-one : {T E : Type 0} (result : Result T E) (P S : T → Type 0) → ((t : T) → P t → S t) →
    IfOk result P → IfOk result S
if-one (Ok t) P S give p = give t p
if-one (Err error) P S give p = tt

first-of : {X : Type 0} (P : X → Type 0) (x : X) (xs : List X) → All P (x ∷ xs) → P x
first-of P x xs all = all 0 x (omega arith)

rest-of : {X : Type 0} (P : X → Type 0) (x : X) (xs : List X) → All P (x ∷ xs) → All P xs
rest-of P x xs all = λ k d low. all (suc k) d (omega (arith, low))

-- objects that came as they are, with the numbers from one on
all-began : {Form X Y : Type 0} (see : X → Seen Form) (holds : X → Y) (began : ℕ → Y → Seen Form)
    (xs : List X) (n : ℕ) → All (λ x. see x ≡ began (see x).device (holds x)) xs →
    map (λ x. (see x).device) xs ≡ range_with_len n (length xs) →
    map see xs ≡ map (λ w. began w.0 w.1) (enumerate_from n (map holds xs))
all-began see holds began [] n new numbers = refl
all-began see holds began (x ∷ xs) n new numbers =
    let number : (see x).device ≡ n = ap (λ l. get_or l 0 0) numbers in
    let here : see x ≡ began n (holds x) =
    first-of (λ y. see y ≡ began (see y).device (holds y)) x xs new
    ∙ ap (λ k. began k (holds x)) number in
    ap (λ s. s ∷ map see xs) here
    ∙ ap (λ l. began n (holds x) ∷ l)
    (all-began see holds began xs (n + 1)
    (rest-of (λ y. see y ≡ began (see y).device (holds y)) x xs new)
    (ap (λ l. drop 1 l) numbers))

-- the devices of objects that have the numbers from one on
numbered : {Form X : Type 0} (see : X → Seen Form) (xs : List X) (n : ℕ) →
    map (λ (s : Seen Form). s.device) (map see xs) ≡ range_with_len n (length (map see xs)) →
    map (λ x. (see x).device) xs ≡ range_with_len n (length xs)
numbered see xs n is =
    sym (map-map (λ s. s.device) see xs) ∙ is
    ∙ ap (λ k. range_with_len n k) (length-map xs see)

pub loaded-so : (rs : List MemoryRegion) (bs : List MemBlock) (numbers : List ℕ) →
    All IsNewRegion rs → All IsNewBlock bs →
    IsStore (map (λ (r : MemoryRegion). r.seen) rs) (map seen_of bs) numbers →
    drive_of [] rs bs ≡ loaded (words_in rs) (contents_in bs)
loaded-so rs bs numbers new_regions new_blocks store =
    ap (λ l. record { asked = []; regions = l; blocks = map seen_of bs })
    (all-began (λ (r : MemoryRegion). r.seen) (λ (r : MemoryRegion). words_of r.seen) regions.began
    rs 0 (λ k d low. ap (λ (r : MemoryRegion). r.seen) (new_regions k d low))
    (numbered (λ (r : MemoryRegion). r.seen) rs 0 store.devices))
    ∙ ap (λ l. record { asked = []; regions = its_regions; blocks = l })
    (all-began seen_of (λ b. content_of (seen_of b)) blocks.began bs (length (words_in rs))
    (λ k d low. (new_blocks k d low).0)
    (numbered seen_of bs (length (words_in rs))
    (store.block_devices ∙ ap (λ k. range_with_len k (length (map seen_of bs))) lengths)))
  where
    its_regions : List (Seen WordStep)
    its_regions = map (λ w. regions.began w.0 w.1) (enumerate_from 0 (words_in rs))

    lengths : length (map (λ (r : MemoryRegion). r.seen) rs) ≡ length (words_in rs)
    lengths =
        length-map rs (λ (r : MemoryRegion). r.seen)
        ∙ sym (length-map rs (λ (r : MemoryRegion). words_of r.seen))

pub saved-so : (asked : List Asked) (rs : List MemoryRegion) (bs : List MemBlock) →
    image_of (words_in rs) (contents_in bs) ≡ saved (drive_of asked rs bs)
saved-so asked rs bs =
    ap (λ w. image_of w (contents_in bs))
    (sym (map-map words_of (λ (r : MemoryRegion). r.seen) rs))
    ∙ ap (image_of (map words_of (map (λ (r : MemoryRegion). r.seen) rs)))
    (sym (map-map content_of seen_of bs))
