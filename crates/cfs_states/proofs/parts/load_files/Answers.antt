use Rattle.std.proofs.Common.{◌∙◌, ◌++◌, ap, arith, length, map, subst, sym, List, ℕ}
use Rattle.std.specs.Prelude.{filter}
use Rattle.std.specs.List.{range_with_len}
use Rattle.std.specs.List.Sorted.{IsPermutation}
use Rattle.std.proofs.lemmas.List.{length-map}
use Rattle.cfs_block.specs.BlockImages.{IsSureBlock}
use Rattle.cfs_block.specs.declared.mem_block.MemBlock.{MemBlock}
use Rattle.cfs_block.specs.MemoryBlocks.{seen_of}
use Rattle.cfs_active.specs.Memory.{words_seen}
use Rattle.cfs_plan.specs.Files.{files_of}
use Rattle.cfs_states.specs.Shares.{AreBelow, CanLoadShare, ShareView, free_in, handed, share_view}
use Rattle.cfs_states.specs.Shares.{views_of}
use Rattle.cfs_states.specs.Stored.{is_free_block, region_at, state_at}
use Rattle.cfs_states.proofs.Known.{are-below}
use Rattle.cfs_states.proofs.Made.{all-back, all-known, as-many, few-free, free-seen}
use Rattle.cfs_states.proofs.Made.{present-blocks, present-regions}
use Rattle.cfs_states.proofs.Whole.{all-load, all-orders, all-regions, all-states, ordered_at}
use Rattle.cfs_states.proofs.parts.load_files.Goals as goal

pub hand_out_all-requires-clause-sure : goal.hand_out_all-requires-clause-sure
hand_out_all-requires-clause-sure c =
    all-back IsSureBlock seen_of c.args.blocks.items c.requires.stored.sure_blocks

pub hand_out_all-requires-clause-known : goal.hand_out_all-requires-clause-known
hand_out_all-requires-clause-known c =
    all-known seen_of (files_of c.args.nodes.now) (map words_seen c.args.sizes.items)
    c.in_ok-records.records c.args.blocks.items c.requires.stored c.in_ok-records.ensures

pub hand_out_all-requires-clause-records : goal.hand_out_all-requires-clause-records
hand_out_all-requires-clause-records c =
    subst (λ (n : ℕ). AreBelow n c.in_ok-records.records)
    (sym (as-many share_view words_seen (files_of c.args.nodes.now)
    c.in_ok-shares.shares.of_records.items c.args.sizes.items c.in_ok-shares.ensures.shares))
    (are-below (files_of c.args.nodes.now) (length (map words_seen c.args.sizes.items))
    c.in_ok-records.records c.in_ok-records.ensures c.requires.stored.records)

pub free_pool-requires : goal.free_pool-requires
free_pool-requires c =
    let few = few-free (λ free. free.block) is_free_block c.hand_out_all.new.self.free.items
    c.args.blocks.items (free_in c.in_ok-shares.shares) c.in_ok-hand_out_all.ensures.free
    c.in_ok-shares.ensures.free in
    omega (
      arith,
      few,
      c.hand_out_all.new.self.free.ok.0,
      c.args.blocks.ok.0,
      c.len-room.ensures,
    )

pub load_all-requires : goal.load_all-requires
load_all-requires c =
    let files = files_of c.args.nodes.now in
    let sizes = map words_seen c.args.sizes.items in
    let blocks = map seen_of c.args.blocks.items in
    all-back CanLoadShare share_view c.hand_out_all.new.self.of_records.items
    (all-load files sizes blocks c.in_ok-records.records c.requires.stored
    c.in_ok-records.ensures (views_of c.hand_out_all.new.self)
    (c.in_ok-hand_out_all.ensures.shares
    ∙ ap (λ (l : List ShareView). handed c.in_ok-records.records blocks 0 l)
    c.in_ok-shares.ensures.shares))

pub returns-clause-states : goal.returns-clause-states
returns-clause-states c =
    let files = files_of c.args.nodes.now in
    let sizes = map words_seen c.args.sizes.items in
    let blocks = map seen_of c.args.blocks.items in
    let shares = views_of c.hand_out_all.new.self in
    let are = c.in_ok-hand_out_all.ensures.shares
    ∙ ap (λ (l : List ShareView). handed c.in_ok-records.records blocks 0 l)
    c.in_ok-shares.ensures.shares in
    c.in_ok-states.ensures.states (ordered_at files blocks)
    (all-orders files sizes blocks c.in_ok-records.records c.requires.stored
    c.in_ok-records.ensures shares are)
    ∙ all-states files sizes blocks c.in_ok-records.records c.requires.stored
    c.in_ok-records.ensures shares are
    ∙ ap (λ (n : ℕ). map (state_at files sizes blocks) (range_with_len 0 n))
    (length-map c.args.sizes.items words_seen)

pub returns-clause-sizes : goal.returns-clause-sizes
returns-clause-sizes c =
    let files = files_of c.args.nodes.now in
    let sizes = map words_seen c.args.sizes.items in
    let blocks = map seen_of c.args.blocks.items in
    c.in_ok-states.ensures.sizes
    ∙ all-regions files sizes blocks c.in_ok-records.records c.requires.stored
    c.in_ok-records.ensures (views_of c.hand_out_all.new.self)
    (c.in_ok-hand_out_all.ensures.shares
    ∙ ap (λ (l : List ShareView). handed c.in_ok-records.records blocks 0 l)
    c.in_ok-shares.ensures.shares)
    ∙ ap (λ (n : ℕ). map (region_at files sizes) (range_with_len 0 n))
    (length-map c.args.sizes.items words_seen)

pub returns-clause-all_regions : goal.returns-clause-all_regions
returns-clause-all_regions c =
    let files = files_of c.args.nodes.now in
    let sizes = map words_seen c.args.sizes.items in
    let blocks = map seen_of c.args.blocks.items in
    let long = sym (length-map c.args.sizes.items words_seen) in
    present-regions files sizes blocks _ _
    (returns-clause-sizes c
    ∙ ap (λ (n : ℕ). map (region_at files sizes) (range_with_len 0 n)) long)
    (returns-clause-states c
    ∙ ap (λ (n : ℕ). map (state_at files sizes blocks) (range_with_len 0 n)) long)

pub returns-clause-free : goal.returns-clause-free
returns-clause-free c =
    subst (λ (l : List MemBlock). IsPermutation l (map (λ one. one.block) c.in_ok-pool.pool.free))
    (c.in_ok-hand_out_all.ensures.free
    ∙ ap (λ (l : List MemBlock). l ++ filter is_free_block c.args.blocks.items)
    c.in_ok-shares.ensures.free)
    c.in_ok-pool.ensures.free

pub returns-clause-all_blocks : goal.returns-clause-all_blocks
returns-clause-all_blocks c =
    let files = files_of c.args.nodes.now in
    let sizes = map words_seen c.args.sizes.items in
    let blocks = map seen_of c.args.blocks.items in
    present-blocks files sizes blocks c.in_ok-records.records _ _ c.requires.stored
    c.in_ok-records.ensures
    (free-seen seen_of (λ one. one.block) c.args.blocks.items c.in_ok-pool.pool.free
    (returns-clause-free c))
    (returns-clause-states c
    ∙ ap (λ (n : ℕ). map (state_at files sizes blocks) (range_with_len 0 n))
    (sym (length-map c.args.sizes.items words_seen)))
