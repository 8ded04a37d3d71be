-- The states of all files, the other size regions and the free blocks are the whole store.
use Rattle.std.proofs.Common.{◌≡◌, ◌∙◌, ℕ, zero, suc, ◌+◌, ◌<◌, Option, Some, None}
use Rattle.std.proofs.Common.{List, [], ◌∷◌, ◌++◌, length, map, get_or, arith, refl, sym, ap, subst}
use Rattle.std.specs.Prelude.{filter}
use Rattle.std.specs.List.{All, Contains, cons_option, filter_map, flat_map, range_with_len}
use Rattle.std.specs.List.Sorted.{IsPermutation}
use Rattle.std.specs.Option.{option_map, option_map_or}
use Rattle.std.proofs.lemmas.List.Concat.{flat_map-cons}
use Rattle.std.proofs.lemmas.List.Elements.{All-contains}
use Rattle.std.proofs.lemmas.List.FromFn.{fill_by_all, length-map-range_with_len}
use Rattle.std.proofs.lemmas.List.FromFn.{get_or-map-range_with_len}
use Rattle.std.proofs.lemmas.List.Sorted.{IsPermutation-append_right, IsPermutation-cons}
use Rattle.std.proofs.lemmas.List.Sorted.{IsPermutation-map, IsPermutation-middle}
use Rattle.std.proofs.lemmas.List.Sorted.{IsPermutation-refl, IsPermutation-sym}
use Rattle.std.proofs.lemmas.List.Sorted.{IsPermutation-trans}
use Rattle.cfs_pmem.specs.Images.{Seen, WordStep}
use Rattle.cfs_pmem.specs.Objects.{seen_at}
use Rattle.cfs_block.specs.BlockImages.{BlockStep}
use Rattle.cfs_gather.specs.Seens.{blocks_in_active, seens_in_active}
use Rattle.cfs_home.specs.Disks.{File}
use Rattle.cfs_inode.specs.New.{MappedSeen}
use Rattle.cfs_active.specs.View.{ActiveView}
use Rattle.cfs_plan.specs.Files.{IsRecordMap}
use Rattle.cfs_survey.specs.Mapped.{BlockMap}
use Rattle.cfs_states.specs.Begins.{begun}
use Rattle.cfs_states.specs.Loads.{AreOrders, states_by}
use Rattle.cfs_states.specs.Shares.{CanLoadOf, CanLoadShare, IsOrderIn}
use Rattle.cfs_states.specs.Shares.{ShareView, handed, is_at, mapped_of, region_of, share_at}
use Rattle.cfs_states.specs.Shares.{is_of, loaded_as, with_mapped}
use Rattle.cfs_states.specs.Stored.{AreStored, file_at, is_free, loaded_view, mapped_in, none_or}
use Rattle.cfs_states.specs.Stored.{region_at, state_at}
use Rattle.cfs_states.proofs.Begins.{begun-range, begun_at}
use Rattle.cfs_states.proofs.Divided.{active-blocks, active-seens, divided}
use Rattle.cfs_states.proofs.Handed.{handed-range}
use Rattle.cfs_states.proofs.Known.{are-below, at-file, at-nothing, at-same, is-known, share-same}
use Rattle.cfs_states.proofs.Known.{tags-below}
use Rattle.cfs_states.proofs.Loaded.{stored-core}
use Rattle.cfs_states.proofs.Mapped.{in-mapped, in-share}
use Rattle.cfs_states.proofs.Ranges.{flat_map-agree, same-order}

abbrev Block : Type 0
Block = Seen BlockStep

abbrev Sizes : Type 0
Sizes = List (Seen WordStep)

-- ---- the records once all blocks are handed out

abbrev full_at : List File → Sizes → List Block → BlockMap → ℕ → ShareView
full_at files sizes blocks records node =
    with_mapped (share_at records node blocks) (begun_at files sizes node)

pub full-shares : (files : List File) (sizes : Sizes) (blocks : List Block) (records : BlockMap) →
    handed records blocks 0 (begun files 0 sizes)
    ≡ map (full_at files sizes blocks records) (range_with_len 0 (length sizes))
full-shares files sizes blocks records =
    ap (handed records blocks 0) (begun-range files sizes)
    ∙ handed-range records blocks (begun_at files sizes) 0 (length sizes)

-- the blocks of the record's file, ascending
abbrev pub ordered_at : List File → List Block → ℕ → List MappedSeen
ordered_at files blocks node = option_map_or (λ file. mapped_in file.ino blocks) (file_at files node) []

module _ (files : List File) (sizes : Sizes) (blocks : List Block) (records : BlockMap)
    (stored : AreStored files sizes blocks) (maps : IsRecordMap files records) where
  -- ---- one record

  share-order : (file : File) → Contains files file →
      IsPermutation (mapped_in file.ino blocks) (share_at records file.node blocks)
  share-order file among =
      subst (λ (l : List MappedSeen). IsPermutation (mapped_in file.ino blocks) l)
      (sym (share-same files file records blocks stored.are maps among stored.tags))
      (in-share file.ino blocks (tags-below files blocks stored.tags) stored.once)

  can-load-file : (node : ℕ) (o : Option File) → file_at files node ≡ o →
      CanLoadOf (option_map (λ file. file.ino) o) (seen_at sizes node)
      (share_at records node blocks)
  can-load-file node None is = tt
  can-load-file node (Some file) is =
      let facts = at-file files node file is in
      let here : file.node ≡ node = facts.1 in
      subst (λ (n : ℕ). CanLoadOf (Some file.ino) (seen_at sizes n) (share_at records n blocks)) here
      (record {
        number = All-contains (λ f. f.ino < 4294967296) files file stored.numbers facts.0;
        sized = stored.words file.node _
            (All-contains (λ f. f.node < length sizes) files file stored.records facts.0);
        sure = stored.sure file.node _
            (All-contains (λ f. f.node < length sizes) files file stored.records facts.0);
        ordered = mapped_in file.ino blocks;
        is = (in-mapped file.ino blocks stored.sure_blocks, share-order file facts.0);
        file = let core = stored-core files file sizes blocks stored facts.0 in
            ∣ (core.0, core.1.has) ∣₁;
      })

  can-load : (node : ℕ) → CanLoadShare (full_at files sizes blocks records node)
  can-load node = can-load-file node (file_at files node) refl

  ordered-file : (node : ℕ) (o : Option File) → file_at files node ≡ o →
      IsOrderIn (option_map (λ file. file.ino) o) (share_at records node blocks)
      (option_map_or (λ file. mapped_in file.ino blocks) o [])
  ordered-file node None is = tt
  ordered-file node (Some file) is =
      let facts = at-file files node file is in
      subst (λ (n : ℕ). IsOrderIn (Some file.ino) (share_at records n blocks)
      (mapped_in file.ino blocks)) facts.1
      (in-mapped file.ino blocks stored.sure_blocks, share-order file facts.0)

  state-file : (node : ℕ) (o : Option File) → file_at files node ≡ o →
      option_map (loaded_as (seen_at sizes node)
      (option_map_or (λ file. mapped_in file.ino blocks) o [])) (option_map (λ file. file.ino) o)
      ≡ option_map (loaded_view sizes blocks) o
  state-file node None is = refl
  state-file node (Some file) is =
      ap (λ (n : ℕ). Some (loaded_as (seen_at sizes n) (mapped_in file.ino blocks) file.ino))
      (sym (at-file files node file is).1)

  region-file : (node : ℕ) (o : Option File) →
      none_or (seen_at sizes node) (option_map (λ file. file.ino) o)
      ≡ none_or (seen_at sizes node) o
  region-file node None = refl
  region-file node (Some file) = refl

  -- ---- all records

  orders-range : (a n : ℕ) →
      AreOrders a (map (full_at files sizes blocks records) (range_with_len a n))
      (ordered_at files blocks)
  orders-range a zero = tt
  orders-range a (suc n) =
      (ordered-file a (file_at files a) refl, orders-range (a + 1) n)

  states-range : (a n : ℕ) →
      states_by a (map (full_at files sizes blocks records) (range_with_len a n))
      (ordered_at files blocks)
      ≡ map (state_at files sizes blocks) (range_with_len a n)
  states-range a zero = refl
  states-range a (suc n) =
      ap (λ (state : Option ActiveView). state
      ∷ states_by (a + 1) (map (full_at files sizes blocks records) (range_with_len (a + 1) n))
      (ordered_at files blocks)) (state-file a (file_at files a) refl)
      ∙ ap (λ (l : List (Option ActiveView)). state_at files sizes blocks a ∷ l)
      (states-range (a + 1) n)

  regions-range : (a n : ℕ) →
      map region_of (map (full_at files sizes blocks records) (range_with_len a n))
      ≡ map (region_at files sizes) (range_with_len a n)
  regions-range a zero = refl
  regions-range a (suc n) =
      ap (λ (size : Option (Seen WordStep)). size
      ∷ map region_of (map (full_at files sizes blocks records) (range_with_len (a + 1) n)))
      (region-file a (file_at files a))
      ∙ ap (λ (l : List (Option (Seen WordStep))). region_at files sizes a ∷ l)
      (regions-range (a + 1) n)

  pub all-load : (shares : List ShareView) → shares ≡ handed records blocks 0 (begun files 0 sizes) →
      All CanLoadShare shares
  all-load shares is =
      subst (All CanLoadShare) (sym (is ∙ full-shares files sizes blocks records))
      (λ k d less.
      subst CanLoadShare
      (sym (get_or-map-range_with_len (full_at files sizes blocks records) 0 (length sizes) k k d
      (let long = length-map-range_with_len (full_at files sizes blocks records) 0 (length sizes) in
      omega arith) (omega arith)))
      (can-load k))

  pub all-orders : (shares : List ShareView) →
      shares ≡ handed records blocks 0 (begun files 0 sizes) →
      AreOrders 0 shares (ordered_at files blocks)
  all-orders shares is =
      subst (λ (l : List ShareView). AreOrders 0 l (ordered_at files blocks))
      (sym (is ∙ full-shares files sizes blocks records)) (orders-range 0 (length sizes))

  pub all-states : (shares : List ShareView) →
      shares ≡ handed records blocks 0 (begun files 0 sizes) →
      states_by 0 shares (ordered_at files blocks)
      ≡ map (state_at files sizes blocks) (range_with_len 0 (length sizes))
  all-states shares is =
      ap (λ (l : List ShareView). states_by 0 l (ordered_at files blocks))
      (is ∙ full-shares files sizes blocks records)
      ∙ states-range 0 (length sizes)

  pub all-regions : (shares : List ShareView) →
      shares ≡ handed records blocks 0 (begun files 0 sizes) →
      map region_of shares ≡ map (region_at files sizes) (range_with_len 0 (length sizes))
  all-regions shares is =
      ap (map region_of) (is ∙ full-shares files sizes blocks records)
      ∙ regions-range 0 (length sizes)

  -- ---- each block once

  abbrev held_in : Option ActiveView → List Block
  held_in o = option_map_or blocks_in_active o []

  map-block : (xs : List Block) → map (λ mapped. mapped.block) (map mapped_of xs) ≡ xs
  map-block [] = refl
  map-block (x ∷ xs) = ap (λ (l : List Block). x ∷ l) (map-block xs)

  held-file : (node : ℕ) (o : Option File) → file_at files node ≡ o →
      IsPermutation (filter (is_at records node) blocks)
      (held_in (option_map (loaded_view sizes blocks) o))
  held-file node None is =
      same-order _ _ (at-nothing files records node blocks maps stored.are is)
  held-file node (Some file) is =
      let facts = at-file files node file is in
      subst (λ (n : ℕ). IsPermutation (filter (is_at records n) blocks)
      (blocks_in_active (loaded_view sizes blocks file))) facts.1
      (IsPermutation-sym _ _ (IsPermutation-trans _ _ _
      (active-blocks sizes blocks file stored.sure_blocks)
      (subst (λ (l : List Block).
      IsPermutation (map (λ mapped. mapped.block) (mapped_in file.ino blocks)) l)
      (map-block (filter (is_of file.ino) blocks)
      ∙ sym (at-same files file records blocks stored.are maps facts.0 stored.tags))
      (IsPermutation-map (λ mapped. mapped.block) _ _
      (in-share file.ino blocks (tags-below files blocks stored.tags) stored.once)))))

  flat-held : (a n : ℕ) →
      flat_map (λ k. held_in (state_at files sizes blocks k)) (range_with_len a n)
      ≡ flat_map blocks_in_active (filter_map (state_at files sizes blocks) (range_with_len a n))
  flat-held a zero = refl
  flat-held a (suc n) =
      flat_map-cons (λ k. held_in (state_at files sizes blocks k)) a (range_with_len (a + 1) n)
      ∙ ap (λ (l : List Block). held_in (state_at files sizes blocks a) ++ l) (flat-held (a + 1) n)
      ∙ one (state_at files sizes blocks a)
      (filter_map (state_at files sizes blocks) (range_with_len (a + 1) n))
    where
      one : (o : Option ActiveView) (rest : List ActiveView) →
          option_map_or blocks_in_active o [] ++ flat_map blocks_in_active rest
          ≡ flat_map blocks_in_active (cons_option o rest)
      one None rest = refl
      one (Some state) rest = sym (flat_map-cons blocks_in_active state rest)

  pub all-blocks : IsPermutation blocks (filter is_free blocks
      ++ flat_map blocks_in_active
      (filter_map (state_at files sizes blocks) (range_with_len 0 (length sizes))))
  all-blocks =
      IsPermutation-trans _ _ _
      (divided records (length sizes) blocks
      (are-below files (length sizes) records maps stored.records)
      (λ k d less. is-known files records (get_or blocks k d) stored.are maps
      (stored.tags k d less)))
      (subst (λ (l : List Block). IsPermutation (filter is_free blocks
      ++ flat_map (λ k. filter (is_at records k) blocks) (range_with_len 0 (length sizes)))
      (filter is_free blocks ++ l)) (flat-held 0 (length sizes))
      (IsPermutation-append_right (filter is_free blocks) _ _
      (flat_map-agree (λ k. filter (is_at records k) blocks)
      (λ k. held_in (state_at files sizes blocks k)) 0 (length sizes)
      (λ k low high. held-file k (file_at files k) refl))))

-- ---- each size region once

module _ (files : List File) (sizes : Sizes) (blocks : List Block) where
  one-size : (node : ℕ) (o : Option File) (regions : Sizes) (states : List ActiveView)
      (rest : Sizes) → ((file : File) → o ≡ Some file → file.node ≡ node) →
      IsPermutation rest (regions ++ flat_map seens_in_active states) →
      IsPermutation (seen_at sizes node ∷ rest)
      (cons_option (none_or (seen_at sizes node) o) regions
      ++ flat_map seens_in_active (cons_option (option_map (loaded_view sizes blocks) o) states))
  one-size node None regions states rest here same =
      IsPermutation-cons (seen_at sizes node) rest _ same
  one-size node (Some file) regions states rest here same =
      subst (λ (l : Sizes). IsPermutation (seen_at sizes node ∷ rest) (regions ++ l))
      (sym (flat_map-cons seens_in_active (loaded_view sizes blocks file) states
      ∙ ap (λ (l : Sizes). l ++ flat_map seens_in_active states)
      (active-seens sizes blocks file
      ∙ ap (λ (n : ℕ). seen_at sizes n ∷ []) (here file refl))))
      (IsPermutation-trans _ _ _ (IsPermutation-cons (seen_at sizes node) rest _ same)
      (IsPermutation-sym _ _ (IsPermutation-middle regions (seen_at sizes node)
      (flat_map seens_in_active states))))

  sizes-range : (a n : ℕ) →
      IsPermutation (map (seen_at sizes) (range_with_len a n))
      (filter_map (region_at files sizes) (range_with_len a n)
      ++ flat_map seens_in_active
      (filter_map (state_at files sizes blocks) (range_with_len a n)))
  sizes-range a zero = IsPermutation-refl []
  sizes-range a (suc n) =
      one-size a (file_at files a) _ _ _ (λ file is. (at-file files a file is).1)
      (sizes-range (a + 1) n)

  each-size : map (seen_at sizes) (range_with_len 0 (length sizes)) ≡ sizes
  each-size =
      sym (fill_by_all (seen_at sizes) sizes (length sizes)
      (record { device = 0; also = []; history = [] }) refl (λ k less. refl))

  pub all-sizes : IsPermutation sizes
      (filter_map (region_at files sizes) (range_with_len 0 (length sizes))
      ++ flat_map seens_in_active
      (filter_map (state_at files sizes blocks) (range_with_len 0 (length sizes))))
  all-sizes =
      subst (λ (l : Sizes). IsPermutation l
      (filter_map (region_at files sizes) (range_with_len 0 (length sizes))
      ++ flat_map seens_in_active
      (filter_map (state_at files sizes blocks) (range_with_len 0 (length sizes)))))
      each-size (sizes-range 0 (length sizes))
