-- Blocks divided among records, and the blocks that a loaded state holds.
use Rattle.std.proofs.Common.{◌≡◌, ◌∙◌, ℕ, zero, suc, ◌+◌, ◌/◌, ◌<◌, ◌≤◌, inl, inr, Bool, true, false}
use Rattle.std.proofs.Common.{cond, nat_eq, Some, None, List, [], ◌∷◌, ◌++◌, length, map}
use Rattle.std.proofs.Common.{set, replicate, arith, refl, sym, ap, subst, if◌then◌else◌}
use Rattle.std.specs.Prelude.{filter}
use Rattle.std.specs.HashMap.{get}
use Rattle.std.specs.List.{All, flat_map, range_with_len}
use Rattle.std.specs.List.Sorted.{IsPermutation}
use Rattle.std.proofs.lemmas.Bool.{cases_Bool}
use Rattle.std.proofs.lemmas.List.{append-nil, get_or-set_other, length-replicate, length-set}
use Rattle.std.proofs.lemmas.List.Concat.{flat_map-cons}
use Rattle.std.proofs.lemmas.List.Elements.{All-head, All-tail}
use Rattle.std.proofs.lemmas.List.Sorted.{IsPermutation-append_right, IsPermutation-cons}
use Rattle.std.proofs.lemmas.List.Sorted.{IsPermutation-refl, IsPermutation-sym}
use Rattle.std.proofs.lemmas.List.Sorted.{IsPermutation-trans}
use Rattle.cfs_file.specs.declared.sizes.TheConstants.{FILE_BLOCKS}
use Rattle.cfs_pmem.specs.Images.{Seen, WordStep}
use Rattle.cfs_pmem.specs.Objects.{seen_at}
use Rattle.cfs_block.specs.BlockImages.{BlockStep, IsSureBlock, content_of}
use Rattle.cfs_gather.specs.Seens.{block_of_cell, blocks_in_active, seens_in_active}
use Rattle.cfs_home.specs.Disks.{File}
use Rattle.cfs_inode.specs.New.{AreMapped, MappedSeen, with_homes}
use Rattle.cfs_survey.specs.Mapped.{BlockMap}
use Rattle.cfs_tracker.specs.declared.cell.Cell.{Cell}
use Rattle.cfs_tracker.specs.declared.cell.Cell.TheVariants as kinds
use Rattle.cfs_tracker.specs.Cells.{cell_at}
use Rattle.cfs_states.specs.Shares.{AreBelow, IsKnown, is_at, record_of}
use Rattle.cfs_states.specs.Stored.{is_free, loaded_view, mapped_in}
use Rattle.cfs_states.proofs.Handed.{is-none, is-other, is-own}
use Rattle.cfs_states.proofs.Mapped.{in-mapped}
use Rattle.cfs_states.proofs.Ranges.{flat_map-agree, flat_map-more, moved-front, same-order}

abbrev Block : Type 0
Block = Seen BlockStep

-- ---- each block belongs to one record, or is free

filter-yes : {X : Type 0} (p : X → Bool) (x : X) (xs : List X) → p x ≡ true →
    filter p (x ∷ xs) ≡ x ∷ filter p xs
filter-yes {X} p x xs is = ap (λ (b : Bool). cond b (x ∷ filter p xs) (filter p xs)) is

filter-no : {X : Type 0} (p : X → Bool) (x : X) (xs : List X) → p x ≡ false →
    filter p (x ∷ xs) ≡ filter p xs
filter-no {X} p x xs is = ap (λ (b : Bool). cond b (x ∷ filter p xs) (filter p xs)) is

free-none : (records : BlockMap) (x : Block) → is_free x ≡ true → record_of records x ≡ None
free-none records x free =
    ap (λ (b : Bool). if b then None else get nat_eq records ((content_of x).tag / 65536)) free

some-not-free : (records : BlockMap) (x : Block) (k : ℕ) → record_of records x ≡ Some k →
    is_free x ≡ false
some-not-free records x k is = elim (cases_Bool (is_free x)) [
  | inl free ↦ absurd (let none = free-none records x free in cc)
  | inr other ↦ other
]

record-below : (records : BlockMap) (count : ℕ) (x : Block) (k : ℕ) → AreBelow count records →
    record_of records x ≡ Some k → k < count
record-below records count x k below is =
    below ((content_of x).tag / 65536) k
    (sym (ap (λ (b : Bool). if b then None else get nat_eq records ((content_of x).tag / 65536))
    (some-not-free records x k is)) ∙ is)

pub divided : (records : BlockMap) (count : ℕ) (blocks : List Block) → AreBelow count records →
    All (IsKnown records) blocks →
    IsPermutation blocks (filter is_free blocks
    ++ flat_map (λ k. filter (is_at records k) blocks) (range_with_len 0 count))
divided records count [] below known =
    same-order _ _ (sym (nothing 0 count))
  where
    nothing : (a n : ℕ) →
        flat_map (λ k. filter (is_at records k) []) (range_with_len a n) ≡ []
    nothing a zero = refl
    nothing a (suc n) =
        flat_map-cons (λ k. filter (is_at records k) []) a (range_with_len (a + 1) n)
        ∙ nothing (a + 1) n
divided records count (x ∷ xs) below known =
    elim (All-head (IsKnown records) x xs known).record_is [
      | inl free ↦
          subst (λ (l : List Block). IsPermutation (x ∷ xs) (l ++ all (x ∷ xs)))
          (sym (filter-yes is_free x xs free))
          (IsPermutation-cons x xs (filter is_free xs ++ all (x ∷ xs))
          (IsPermutation-trans _ _ _
          (divided records count xs below (All-tail (IsKnown records) x xs known))
          (IsPermutation-append_right (filter is_free xs) (all xs) (all (x ∷ xs))
          (flat_map-agree (λ k. filter (is_at records k) xs)
          (λ k. filter (is_at records k) (x ∷ xs)) 0 count
          (λ k low high. same-order _ _
          (sym (filter-no (is_at records k) x xs
          (is-none records k x (free-none records x free)))))))))
      | inr own ↦
          subst (λ (l : List Block). IsPermutation (x ∷ xs) (l ++ all (x ∷ xs)))
          (sym (filter-no is_free x xs (some-not-free records x own.0 own.1)))
          (IsPermutation-trans _ _ _
          (IsPermutation-cons x xs (filter is_free xs ++ all xs)
          (divided records count xs below (All-tail (IsKnown records) x xs known)))
          (back (filter is_free xs) (all (x ∷ xs)) (all xs) x
          (flat_map-more (λ k. filter (is_at records k) (x ∷ xs))
          (λ k. filter (is_at records k) xs) own.0 x 0 count (omega arith)
          (let less = record-below records count x own.0 below own.1 in omega arith)
          (filter-yes (is_at records own.0) x xs (is-own records own.0 own.0 x own.1 refl))
          (λ k differs. filter-no (is_at records k) x xs
          (is-other records k own.0 x own.1 (λ same. differs (sym same)))))))
    ]
  where
    all : List Block → List Block
    all list = flat_map (λ k. filter (is_at records k) list) (range_with_len 0 count)

    back : (front longer shorter : List Block) (x : Block) → IsPermutation longer (x ∷ shorter) →
        IsPermutation (x ∷ (front ++ shorter)) (front ++ longer)
    back front longer shorter x same =
        IsPermutation-sym _ _ (moved-front front longer shorter x same)

-- ---- the cells of a stored file

abbrev Cells : Type 0
Cells = List (Cell Block)

-- a hole is filled
filled : (cells : Cells) (at : ℕ) (block : Block) → at < length cells →
    cell_at cells at ≡ kinds.Hole →
    IsPermutation (flat_map block_of_cell (set cells at (kinds.Home block)))
    (block ∷ flat_map block_of_cell cells)
filled [] at block less hole = absurd (omega arith)
filled (cell ∷ cells) zero block less hole =
    same-order _ _ (flat_map-cons block_of_cell (kinds.Home block) cells
    ∙ ap (λ (l : List Block). block ∷ l)
    (sym (flat_map-cons block_of_cell cell cells
    ∙ ap (λ (c : Cell Block). block_of_cell c ++ flat_map block_of_cell cells) hole)))
filled (cell ∷ cells) (suc at) block less hole =
    subst (λ (l : List Block). IsPermutation l (block ∷ flat_map block_of_cell (cell ∷ cells)))
    (sym (flat_map-cons block_of_cell cell (set cells at (kinds.Home block))))
    (subst (λ (l : List Block).
    IsPermutation (block_of_cell cell ++ flat_map block_of_cell (set cells at (kinds.Home block)))
    (block ∷ l)) (sym (flat_map-cons block_of_cell cell cells))
    (moved-front (block_of_cell cell) _ _ block (filled cells at block (omega arith) hole)))

homes-hold : (ino low : ℕ) (blocks : List MappedSeen) (cells : Cells) → AreMapped ino low blocks →
    length cells ≡ FILE_BLOCKS → ((k : ℕ) → low ≤ k → cell_at cells k ≡ kinds.Hole) →
    IsPermutation (flat_map block_of_cell (with_homes blocks cells))
    (map (λ mapped. mapped.block) blocks ++ flat_map block_of_cell cells)
homes-hold ino low [] cells are long holes = IsPermutation-refl _
homes-hold ino low (mapped ∷ rest) cells are long holes =
    IsPermutation-trans _ _ _
    (homes-hold ino (mapped.at + 1) rest (set cells mapped.at (kinds.Home mapped.block)) are.1
    (length-set cells mapped.at (kinds.Home mapped.block) ∙ long)
    (λ k above. get_or-set_other cells mapped.at k (kinds.Home mapped.block) kinds.Hole
    (λ same. absurd (omega arith))
    ∙ holes k (let low_at = are.0.above in omega arith)))
    (moved-front (map (λ m. m.block) rest) _ _ mapped.block
    (filled cells mapped.at mapped.block (let within = are.0.within in omega (arith, long))
    (holes mapped.at are.0.above)))

holes-flat : (n : ℕ) → flat_map block_of_cell (replicate n kinds.Hole) ≡ []
holes-flat zero = refl
holes-flat (suc n) =
    flat_map-cons block_of_cell kinds.Hole (replicate n kinds.Hole) ∙ holes-flat n

holes-at : (n k : ℕ) → cell_at {B = Block} (replicate n kinds.Hole) k ≡ kinds.Hole
holes-at zero k = refl
holes-at (suc n) zero = refl
holes-at (suc n) (suc k) = holes-at n k

homes-flat : (n ino : ℕ) (blocks : List MappedSeen) → n ≡ FILE_BLOCKS → AreMapped ino 0 blocks →
    IsPermutation (flat_map block_of_cell (with_homes blocks (replicate n kinds.Hole)))
    (map (λ mapped. mapped.block) blocks)
homes-flat n ino blocks all are =
    subst (λ (l : List Block).
    IsPermutation (flat_map block_of_cell (with_homes blocks (replicate n kinds.Hole))) l)
    (ap (λ (l : List Block). map (λ mapped. mapped.block) blocks ++ l) (holes-flat n)
    ∙ append-nil (map (λ mapped. mapped.block) blocks))
    (homes-hold ino 0 blocks (replicate n kinds.Hole) are
    (length-replicate n kinds.Hole ∙ all) (λ k low. holes-at n k))

pub active-blocks : (sizes : List (Seen WordStep)) (blocks : List Block) (file : File) →
    All IsSureBlock blocks →
    IsPermutation (blocks_in_active (loaded_view sizes blocks file))
    (map (λ mapped. mapped.block) (mapped_in file.ino blocks))
active-blocks sizes blocks file sure =
    subst (λ (l : List Block). IsPermutation l (map (λ mapped. mapped.block)
    (mapped_in file.ino blocks)))
    (sym (append-nil (flat_map block_of_cell
    (with_homes (mapped_in file.ino blocks) (replicate FILE_BLOCKS kinds.Hole)))))
    (homes-flat FILE_BLOCKS file.ino (mapped_in file.ino blocks) refl
    (in-mapped file.ino blocks sure))

pub active-seens : (sizes : List (Seen WordStep)) (blocks : List Block) (file : File) →
    seens_in_active (loaded_view sizes blocks file) ≡ seen_at sizes file.node ∷ []
active-seens sizes blocks file = refl
