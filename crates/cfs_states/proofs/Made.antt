-- What the calls come to.
use Rattle.std.proofs.Common.{◌≡◌, ◌∙◌, ◌≤◌, Bool, true, false, cond, Option}
use Rattle.std.proofs.Common.{List, [], ◌∷◌, ◌++◌, length, map, arith, refl, sym, ap, subst}
use Rattle.std.specs.Prelude.{filter}
use Rattle.std.specs.List.{All, cons_option, filter_map, flat_map, range_with_len}
use Rattle.std.specs.List.Sorted.{IsPermutation}
use Rattle.std.proofs.lemmas.List.{get_or-map, length-map}
use Rattle.std.proofs.lemmas.List.Elements.{All-weaker}
use Rattle.std.proofs.lemmas.List.Sorted.{IsPermutation-append_left, IsPermutation-map}
use Rattle.std.proofs.lemmas.List.Sorted.{IsPermutation-trans}
use Rattle.cfs_pmem.specs.Images.{Seen, WordStep}
use Rattle.cfs_block.specs.BlockImages.{BlockStep, content_of}
use Rattle.cfs_gather.specs.Seens.{blocks_in_active, seens_in_active}
use Rattle.cfs_home.specs.Disks.{File}
use Rattle.cfs_active.specs.View.{ActiveView}
use Rattle.cfs_plan.specs.Files.{IsRecordMap}
use Rattle.cfs_survey.specs.Mapped.{BlockMap}
use Rattle.cfs_states.specs.Begins.{begun}
use Rattle.cfs_states.specs.Parts.{present}
use Rattle.cfs_states.specs.Shares.{IsKnown, ShareView}
use Rattle.cfs_states.specs.Stored.{AreStored, IsTagAmong, is_free, region_at, state_at}
use Rattle.cfs_states.proofs.Begins.{begun-long}
use Rattle.cfs_states.proofs.Known.{is-known}
use Rattle.cfs_states.proofs.Whole.{all-blocks, all-sizes}

abbrev Block : Type 0
Block = Seen BlockStep

pub all-back : {X Y : Type 0} (P : Y → Type 0) (f : X → Y) (xs : List X) → All P (map f xs) →
    All (λ x. P (f x)) xs
all-back P f xs all k d less =
    subst P (get_or-map f xs k d (f d) less)
    (all k (f d) (omega (arith, less, length-map xs f)))

pub all-known : {B : Type 0} (see : B → Block) (files : List File) (sizes : List (Seen WordStep))
    (records : BlockMap) (blocks : List B) → AreStored files sizes (map see blocks) →
    IsRecordMap files records → All (λ block. IsKnown records (see block)) blocks
all-known see files sizes records blocks stored maps =
    all-back (IsKnown records) see blocks
    (All-weaker (λ seen. IsTagAmong files (content_of seen).tag) (IsKnown records)
    (λ seen tag. is-known files records seen stored.are maps tag) (map see blocks) stored.tags)

-- as many records as size regions
pub as-many : {S R : Type 0} (view : S → ShareView) (see : R → Seen WordStep) (files : List File)
    (shares : List S) (sizes : List R) → map view shares ≡ begun files 0 (map see sizes) →
    length shares ≡ length (map see sizes)
as-many view see files shares sizes is =
    sym (length-map shares view) ∙ ap length is ∙ begun-long files 0 (map see sizes)

one-or-none : {X : Type 0} (b : Bool) (x : X) (kept xs : List X) → length kept ≤ length xs →
    length (cond b (x ∷ kept) kept) ≤ length (x ∷ xs)
one-or-none true x kept xs short = omega arith
one-or-none false x kept xs short = omega arith

filter-short : {X : Type 0} (p : X → Bool) (xs : List X) → length (filter p xs) ≤ length xs
filter-short p [] = omega arith
filter-short p (x ∷ xs) = one-or-none (p x) x (filter p xs) xs (filter-short p xs)

-- no more blocks are free than there are
pub few-free : {F B : Type 0} (view : F → B) (free : B → Bool) (frees : List F) (blocks : List B)
    (before : List B) → map view frees ≡ before ++ filter free blocks → before ≡ [] →
    length frees ≤ length blocks
few-free {F} {B} view free frees blocks before is none =
    let all : map view frees ≡ filter free blocks =
    is ∙ ap (λ (l : List B). l ++ filter free blocks) none in
    omega (
      arith,
      length-map frees view,
      ap length all,
      filter-short free blocks,
    )

filter-seen : {B : Type 0} (see : B → Block) (blocks : List B) →
    filter is_free (map see blocks) ≡ map see (filter (λ b. is_free (see b)) blocks)
filter-seen see [] = refl
filter-seen {B} see (x ∷ xs) =
    ap (λ (l : List Block). cond (is_free (see x)) (see x ∷ l) l) (filter-seen see xs)
    ∙ chosen (is_free (see x)) x (filter (λ b. is_free (see b)) xs)
  where
    chosen : (b : Bool) (x : B) (l : List B) →
        cond b (see x ∷ map see l) (map see l) ≡ map see (cond b (x ∷ l) l)
    chosen true x l = refl
    chosen false x l = refl

map-seen : {F B : Type 0} (see : B → Block) (view : F → B) (frees : List F) →
    map see (map view frees) ≡ map (λ f. see (view f)) frees
map-seen see view [] = refl
map-seen see view (f ∷ fs) = ap (λ (l : List Block). see (view f) ∷ l) (map-seen see view fs)

-- the free blocks as they are seen
pub free-seen : {F B : Type 0} (see : B → Block) (view : F → B) (blocks : List B)
    (frees : List F) → IsPermutation (filter (λ b. is_free (see b)) blocks) (map view frees) →
    IsPermutation (filter is_free (map see blocks)) (map (λ f. see (view f)) frees)
free-seen see view blocks frees same =
    subst (λ (l : List Block). IsPermutation l (map (λ f. see (view f)) frees))
    (sym (filter-seen see blocks))
    (subst (λ (l : List Block). IsPermutation (map see (filter (λ b. is_free (see b)) blocks)) l)
    (map-seen see view frees) (IsPermutation-map see _ _ same))

-- ---- those that are there

present-of : {X Y : Type 0} (f : X → Option Y) (xs : List X) →
    filter_map f xs ≡ present (map f xs)
present-of f [] = refl
present-of {X} {Y} f (x ∷ xs) = ap (λ (l : List Y). cons_option (f x) l) (present-of f xs)

pub present-regions : (files : List File) (sizes : List (Seen WordStep)) (blocks : List Block)
    (regions : List (Option (Seen WordStep))) (states : List (Option ActiveView)) →
    regions ≡ map (region_at files sizes) (range_with_len 0 (length sizes)) →
    states ≡ map (state_at files sizes blocks) (range_with_len 0 (length sizes)) →
    IsPermutation sizes (present regions ++ flat_map seens_in_active (present states))
present-regions files sizes blocks regions states regions_are states_are =
    subst (λ (l : List (Seen WordStep)). IsPermutation sizes l)
    (ap (λ (l : List (Seen WordStep)). l ++ flat_map seens_in_active
    (filter_map (state_at files sizes blocks) (range_with_len 0 (length sizes))))
    (present-of (region_at files sizes) (range_with_len 0 (length sizes))
    ∙ ap present (sym regions_are))
    ∙ ap (λ (l : List ActiveView). present regions ++ flat_map seens_in_active l)
    (present-of (state_at files sizes blocks) (range_with_len 0 (length sizes))
    ∙ ap present (sym states_are)))
    (all-sizes files sizes blocks)

pub present-blocks : (files : List File) (sizes : List (Seen WordStep)) (blocks : List Block)
    (records : BlockMap) (free : List Block) (states : List (Option ActiveView)) →
    AreStored files sizes blocks → IsRecordMap files records →
    IsPermutation (filter is_free blocks) free →
    states ≡ map (state_at files sizes blocks) (range_with_len 0 (length sizes)) →
    IsPermutation blocks (free ++ flat_map blocks_in_active (present states))
present-blocks files sizes blocks records free states stored maps same states_are =
    IsPermutation-trans _ _ _ (all-blocks files sizes blocks records stored maps)
    (subst (λ (l : List ActiveView).
    IsPermutation (filter is_free blocks ++ flat_map blocks_in_active
    (filter_map (state_at files sizes blocks) (range_with_len 0 (length sizes))))
    (free ++ flat_map blocks_in_active l))
    (present-of (state_at files sizes blocks) (range_with_len 0 (length sizes))
    ∙ ap present (sym states_are))
    (IsPermutation-append_left _ (filter is_free blocks) free same))
