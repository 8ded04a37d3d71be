-- The blocks of a file in ascending order, and states that are made one after another.
use Rattle.std.proofs.Common.{◌≡◌, ◌∙◌, ℕ, ◌+◌, Option, List, [], ◌∷◌, ◌++◌}
use Rattle.std.proofs.Common.{length, map, get_or, arith, sym, ap, subst}
use Rattle.std.specs.List.Sorted.{IsNonDecreasingBy, IsPermutation}
use Rattle.std.proofs.lemmas.List.{get_or-map, length-map, map-append}
use Rattle.std.proofs.lemmas.List.Sorted.{IsPermutation-map, IsPermutation-trans}
use Rattle.cfs_block.specs.declared.mem_block.MemBlock.{MemBlock}
use Rattle.cfs_block.specs.MemoryBlocks.{seen_of}
use Rattle.cfs_inode.specs.declared.mapped.Mapped.{Mapped}
use Rattle.cfs_pmem.specs.Images.{Seen, WordStep, words_of}
use Rattle.cfs_inode.specs.New.{AreMapped, MappedSeen, stored_state, told_mapped}
use Rattle.cfs_active.specs.Loads.{IsLoadable}
use Rattle.cfs_active.specs.View.{ActiveView}
use Rattle.cfs_states.specs.Loads.{AreOrders, states_by}
use Rattle.cfs_states.specs.Shares.{IsOrderOf, IsOrderOfShare, ShareView, loaded_as, region_of, state_of}
use Rattle.cfs_states.proofs.Ascending.{Ascends, sorted-same}

abbrev number : MappedSeen → ℕ
number mapped = mapped.at

-- ---- sorted blocks

mapped-ascends : (ino low : ℕ) (blocks : List MappedSeen) → AreMapped ino low blocks →
    Ascends number low blocks
mapped-ascends ino low [] are = tt
mapped-ascends ino low (mapped ∷ rest) are =
    (are.0.above, mapped-ascends ino (mapped.at + 1) rest are.1)

sorted-told : {X Y : Type 0} (f : X → Y) (n : Y → ℕ) (xs : List X) →
    IsNonDecreasingBy (λ x. n (f x)) xs → IsNonDecreasingBy n (map f xs)
sorted-told f n [] sorted i j d order less = absurd (omega (arith, less))
sorted-told f n (x ∷ xs) sorted i j d order less =
    let long : length (map f (x ∷ xs)) ≡ length (x ∷ xs) = length-map (x ∷ xs) f in
    omega (
      arith,
      sorted i j x order (omega arith),
      ap n (get_or-map f (x ∷ xs) i x d (omega arith)),
      ap n (get_or-map f (x ∷ xs) j x d (omega arith)),
    )

-- once they are sorted they are in the order of their numbers
pub in-order : (ino : ℕ) (old new : List (Mapped MemBlock)) (ordered : List MappedSeen) →
    IsPermutation old new → IsNonDecreasingBy (λ mapped. mapped.at) new →
    IsOrderOf ino (map (told_mapped seen_of) old) ordered →
    map (told_mapped seen_of) new ≡ ordered
in-order ino old new ordered same sorted is =
    sorted-same number 0 ordered (map (told_mapped seen_of) new) (mapped-ascends ino 0 ordered is.0)
    (IsPermutation-trans _ _ _ is.1 (IsPermutation-map (told_mapped seen_of) old new same))
    (sorted-told (told_mapped seen_of) number new sorted)

-- ---- one more record

pub orders-more : (node : ℕ) (shares : List ShareView) (share : ShareView)
    (ordered : ℕ → List MappedSeen) → AreOrders node (shares ++ share ∷ []) ordered →
    AreOrders node shares ordered × IsOrderOfShare share (ordered (node + length shares))
orders-more node [] share ordered are = (
  tt,
  subst (λ (k : ℕ).
      IsOrderOfShare share (ordered k)) (omega arith) are.0,
)
orders-more node (first ∷ shares) share ordered are =
    let later = orders-more (node + 1) shares share ordered are.1 in (
      (are.0, later.0),
      subst (λ (k : ℕ). IsOrderOfShare share (ordered k)) (omega arith) later.1,
    )

pub states-more : (node : ℕ) (shares : List ShareView) (share : ShareView)
    (ordered : ℕ → List MappedSeen) →
    states_by node (shares ++ share ∷ []) ordered
    ≡ states_by node shares ordered ++ state_of share (ordered (node + length shares)) ∷ []
states-more node [] share ordered =
    ap (λ (k : ℕ). state_of share (ordered k) ∷ []) (omega arith)
states-more node (first ∷ shares) share ordered =
    ap (λ (l : List (Option ActiveView)). state_of first (ordered node) ∷ l)
    (states-more (node + 1) shares share ordered
    ∙ ap (λ (k : ℕ). states_by (node + 1) shares ordered ++ state_of share (ordered k) ∷ [])
    (omega arith))

-- ---- one file

pub loadable-as : (size : Seen WordStep) (words : List ℕ) (blocks ordered : List MappedSeen) →
    words ≡ words_of size → blocks ≡ ordered →
    IsLoadable (get_or (words_of size) 0 0) ordered → IsLoadable (get_or words 0 0) blocks
loadable-as size words blocks ordered read same file =
    subst (λ (ws : List ℕ). IsLoadable (get_or ws 0 0) blocks) (sym read)
    (subst (λ (l : List MappedSeen). IsLoadable (get_or (words_of size) 0 0) l) (sym same) file)

pub loaded-same : (ino : ℕ) (size : Seen WordStep) (words : List ℕ)
    (blocks ordered : List MappedSeen) (view : ActiveView) →
    view ≡ record { state = stored_state ino size (get_or words 0 0) blocks; jobs = [] } →
    words ≡ words_of size → blocks ≡ ordered → view ≡ loaded_as size ordered ino
loaded-same ino size words blocks ordered view is read same =
    is ∙ (ap (λ (ws : List ℕ). as-view (get_or ws 0 0) blocks) read
    ∙ ap (λ (l : List MappedSeen). as-view (get_or (words_of size) 0 0) l) same)
  where
    as-view : ℕ → List MappedSeen → ActiveView
    as-view word l = record { state = stored_state ino size word l; jobs = [] }

-- ---- one more was loaded

pub loaded-more : {S : Type 0} (view : S → ShareView) (yielded : List S) (share : S)
    (now new : List (Option ActiveView)) (ordered : ℕ → List MappedSeen) →
    AreOrders 0 (map view (yielded ++ share ∷ [])) ordered →
    (AreOrders 0 (map view yielded) ordered → now ≡ states_by 0 (map view yielded) ordered) →
    ((own : List MappedSeen) → IsOrderOfShare (view share) own →
    new ≡ now ++ state_of (view share) own ∷ []) →
    new ≡ states_by 0 (map view (yielded ++ share ∷ [])) ordered
loaded-more view yielded share now new ordered are was is =
    let split : map view (yielded ++ share ∷ []) ≡ map view yielded ++ view share ∷ [] =
    map-append view yielded (share ∷ []) in
    let parts = orders-more 0 (map view yielded) (view share) ordered
    (subst (λ (l : List ShareView). AreOrders 0 l ordered) split are) in
    is (ordered (0 + length (map view yielded))) parts.1
    ∙ ap (λ (l : List (Option ActiveView)).
    l ++ state_of (view share) (ordered (0 + length (map view yielded))) ∷ []) (was parts.0)
    ∙ sym (states-more 0 (map view yielded) (view share) ordered)
    ∙ ap (λ (l : List ShareView). states_by 0 l ordered) (sym split)

pub regions-more : {S : Type 0} (view : S → ShareView) (yielded : List S) (share : S)
    (now new : List (Option (Seen WordStep))) → now ≡ map region_of (map view yielded) →
    new ≡ now ++ region_of (view share) ∷ [] →
    new ≡ map region_of (map view (yielded ++ share ∷ []))
regions-more view yielded share now new was is =
    is ∙ ap (λ (l : List (Option (Seen WordStep))). l ++ region_of (view share) ∷ []) was
    ∙ sym (map-append region_of (map view yielded) (view share ∷ []))
    ∙ ap (map region_of) (sym (map-append view yielded (share ∷ [])))
