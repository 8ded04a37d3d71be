-- A flush of a block that a job wrote.
use Rattle.std.proofs.Common.{◌≡◌, ◌≢◌, ◌⊎◌, inl, inr, ℕ, ◌+◌, ◌-◌, ◌*◌, ◌/◌, ◌<◌, ◌≤◌, ◌==◌, ◌||◌, ◌&&◌, not, Bool, true, false, Ok, Err, OnOk, OnErr, Some, List, [], ◌∷◌, length, get_or, nat_le, nat_lt, arith, refl, sym, ap, subst, ◌∙◌}
use Rattle.std.specs.Prelude.{filter}
use Rattle.std.specs.List.{list_all, list_any}
use Rattle.std.proofs.lemmas.Bool.{cases_Bool}
use Rattle.std.proofs.lemmas.Bool.Decides.{nat_tests}
use Rattle.std.proofs.lemmas.List.{length-set}
use Rattle.cfs_file.specs.declared.sizes.TheConstants.{BLOCK_LEN, FILE_BLOCKS}
use Rattle.cfs_core.specs.declared.event.Event.TheVariants as events
use Rattle.cfs_core.specs.declared.flag.Flag.TheVariants.{Off}
use Rattle.cfs_core.specs.declared.inode_core.Core.{Core}
use Rattle.cfs_core.specs.declared.state.State.{State}
use Rattle.cfs_core.specs.declared.stretch.Stretch.{Stretch}
use Rattle.cfs_core.specs.declared.track.Track.{Track}
use Rattle.cfs_core.specs.After.{after, with_state, with_track}
use Rattle.cfs_core.specs.Jobs.{state_flushed}
use Rattle.cfs_core.specs.May.{in_block, is_in_phase, may_flush}
use Rattle.cfs_core.specs.Medium.{is_loose}
use Rattle.cfs_core.specs.Words.{has_block, track}
use Rattle.cfs_core.proofs.Legal.{both}
use Rattle.cfs_core.proofs.Marks.{track_beside}
use Rattle.cfs_core.proofs.Order.{same_or_not, some_place}
use Rattle.cfs_pmem.specs.Images.{Seen}
use Rattle.cfs_block.specs.BlockImages.{BlockStep, Content, IsBlockImage, content_of}
use Rattle.cfs_block.proofs.BlockLemmas.{now_is_image, sure_kept}
use Rattle.cfs_medium.specs.BlockCalls.{DiffersIn, flushing}
use Rattle.cfs_medium.specs.BlockEvents.{Flushes, FlushesShow, StayInBlocks}
use Rattle.cfs_medium.specs.Shows.{BlockFits, BlockShown, HasShape, ReadsAs, Recovers, Shows, holding, is_for, logged_at}
use Rattle.cfs_medium.specs.SlotEvents.{Answer}
use Rattle.cfs_medium.specs.WorldCalls.{WorldMoments, with_block}
use Rattle.cfs_medium.proofs.BlockSteps.{block_shows, blocks-change, same_core}
use Rattle.cfs_medium.proofs.QuietEvents.{track-gate, track-known}
use Rattle.cfs_medium.proofs.SlotEvents.{holding-same, within_place}

-- ---- the loose stretches of the other blocks

covers : Stretch → ℕ → Bool
covers s position = nat_le s.from position && nat_lt position s.to

-- a stretch of a block covers no position of another
not_covered : (s : Stretch) (block position : ℕ) → in_block block s ≡ true →
    nat_le s.to (BLOCK_LEN * (s.from / BLOCK_LEN) + BLOCK_LEN) ≡ true → position / BLOCK_LEN ≢ block →
    (nat_le s.from position && nat_lt position s.to) ≡ false
not_covered s block position mine ends other = elim (cases_Bool (nat_le s.from position && nat_lt position s.to)) [
  | inl inside ↦
      let low : s.from ≤ position = let t = (both (nat_le s.from position) (nat_lt position s.to) inside).0 in grind (arith, nat_tests) in
      let high : position < s.to = let t = (both (nat_le s.from position) (nat_lt position s.to) inside).1 in grind (arith, nat_tests) in
      let last : s.to ≤ BLOCK_LEN * (s.from / BLOCK_LEN) + BLOCK_LEN = grind (arith, nat_tests) in
      let at : s.from / BLOCK_LEN ≡ block = grind (arith, nat_tests) in
      absurd (other (omega (arith, low, high, last, at)))
  | inr outside ↦ outside
]

pub loose_left : (loose : List Stretch) (block position : ℕ) → StayInBlocks loose → position / BLOCK_LEN ≢ block →
    is_loose (filter (λ s. not (in_block block s)) loose) position ≡ is_loose loose position
loose_left [] block position stay other = refl
loose_left (s ∷ rest) block position stay other =
    let parts = both (nat_le s.to (BLOCK_LEN * (s.from / BLOCK_LEN) + BLOCK_LEN)) _ stay in
    let deeper = loose_left rest block position parts.1 other in
    elim (cases_Bool (in_block block s)) [
      | inl mine ↦ rw (mine, not_covered s block position mine parts.0 other) deeper
      | inr not_mine ↦ rw (not_mine, deeper) refl
    ]

-- what is loose still was so before
pub loose_before : (loose : List Stretch) (block position : ℕ) →
    is_loose (filter (λ s. not (in_block block s)) loose) position ≡ true → is_loose loose position ≡ true
loose_before [] block position h = h
loose_before (s ∷ rest) block position h = elim (cases_Bool (nat_le s.from position && nat_lt position s.to)) [
  | inl inside ↦ rw inside refl
  | inr outside ↦ elim (cases_Bool (in_block block s)) [
    | inl mine ↦ rw outside (loose_before rest block position (rw mine at h))
    | inr not_mine ↦ rw outside (loose_before rest block position (rw (not_mine, outside) at h))
  ]
]

-- ---- flushes

abbrev flushed_track : Core → ℕ → ℕ → Track
flushed_track core place block =
    record (track core.tracks place) { state = state_flushed block (track core.tracks place).state }

abbrev flushed_core : Core → ℕ → ℕ → Core
flushed_core core place block = after core (events.Flush place block true)

flush-differs : (core : Core) (place block : ℕ) → (place ≡ 0 → ⊥) → place ≤ length core.tracks → StayInBlocks core.loose →
    DiffersIn block core (flushed_core core place block)
flush-differs core place block some within stay = record {
  size = refl;
  sizes = refl;
  held = λ at. holding-same core (flushed_core core place block) core.doubt at
      (track-known core place at (flushed_track core place block) some within refl refl refl);
  tags = λ at other. refl;
  loose = λ position other. loose_left core.loose block position stay other;
  bytes = λ position other. refl;
}

flush-shape : (core : Core) (place block : ℕ) → (place ≡ 0 → ⊥) → place ≤ length core.tracks → HasShape core →
    HasShape (flushed_core core place block)
flush-shape core place block some within shape = record {
  tags = shape.tags;
  tracks = length-set core.tracks (place - 1) (flushed_track core place block) ∙ shape.tracks;
  doubt = λ d is.
      let fits = shape.doubt d is in
      record {
        from = fits.from;
        to = fits.to;
        apart = track-gate core place d.entry.place (flushed_track core place block) some within refl refl refl ∙ fits.apart;
      };
  loose = λ position is. shape.loose position (loose_before core.loose block position is);
}

pub flushes-show : FlushesShow
flushes-show ino n place block core world seen new result asked_old asked_new good shows stay allowed room here sets = record {
  moments = all.0;
  ok = ended result sets;
  err = failed result;
}
  where
    flushes : may_flush core place block ≡ true
    flushes = (both (is_in_phase core.crashed (events.Flush place block true)) (may_flush core place block) allowed).1

    below : block < FILE_BLOCKS
    below = let test : nat_lt block FILE_BLOCKS ≡ true = (both (nat_lt block FILE_BLOCKS) _ flushes).0 in
        grind (arith, nat_tests)

    place_is : (place ≡ 0 → ⊥) × (place ≤ length core.tracks)
    place_is =
        let has : has_block (track core.tracks place).state block ≡ true = (both (nat_lt block FILE_BLOCKS) _ flushes).1 in
        let some : place ≡ 0 → ⊥ = some_place (λ s. has_block s block) refl core.tracks place has in
        (some, within_place (λ s. has_block s block) refl core.tracks place some has)

    old : BlockShown ino block (get_or core.tags block Off) core.loose core.bytes (Some seen)
    old = subst (λ o. BlockShown ino block (get_or core.tags block Off) core.loose core.bytes o) here
        (shows.blocks block below)

    content : (result : Answer) → Flushes result asked_old seen asked_new new → content_of new ≡ content_of seen
    content (Ok value) sets = ap (λ (s : Seen BlockStep). content_of s) sets.ok
    content (Err e) sets = ap (λ (s : Seen BlockStep). content_of s) sets.err

    reads : ReadsAs ino block core.bytes (Some new)
    reads set k inside =
        let same : content_of new ≡ content_of seen = content result sets in
        ap (λ (c : Content). get_or c.bytes k 0) same
        ∙ old.reads (sym (ap (λ (c : Content). is_for ino block c) same) ∙ set) k inside

    all : WorldMoments (Recovers ino n core) asked_old world asked_new (with_block block (Some new) world)
        × Shows ino core (with_block block (Some new) world)
    all = blocks-change ino n block flushing core core world seen new asked_old asked_new shows here
        (same_core block core) good shows.shape room (λ content may_be. old.images content may_be) reads
        sets.moments

    failed : (result : Answer) → OnErr result (Shows ino core (with_block block (Some new) world))
    failed (Ok value) = tt
    failed (Err e) = all.1

    -- the only image is what is read, and that are the core's bytes
    durable : (c : Content) → c ≡ content_of seen →
        BlockFits ino block (get_or core.tags block Off) (flushed_core core place block).loose core.bytes c
    durable c same =
        let first = old.images (content_of seen) (now_is_image seen.history sets.full) in
        rw same (record {
          tag_is = first.tag_is;
          free = first.free;
          bytes_are = λ set k inside firm. old.reads set k inside;
        })

    ended : (result : Answer) → Flushes result asked_old seen asked_new new →
        OnOk result (Shows ino (flushed_core core place block) (with_block block (Some new) world))
    ended (Err e) sets = tt
    ended (Ok value) sets =
        block_shows ino block core (flushed_core core place block) world (Some new) shows
        (flush-differs core place block place_is.0 place_is.1 stay)
        (flush-shape core place block place_is.0 place_is.1 shows.shape)
        (record {
          images = λ c image. durable c (sure_kept seen sets.ok c image ∙ ap (λ (s : Seen BlockStep). content_of s) sets.ok);
          reads = reads;
        })
