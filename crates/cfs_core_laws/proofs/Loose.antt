-- Stretches end no later than the bytes that read.
use Rattle.std.proofs.Common.{◌≡◌, ℕ, ◌+◌, ◌-◌, ◌*◌, ◌≤◌, ◌==◌, Bool, true, false, not, cond, max, min, Some, None, List, [], ◌∷◌, ◌++◌, filter, length, drop, arith, refl, nat_le, length-take, length-drop}
use Rattle.std.specs.List.{list_all, slice_get}
use Rattle.std.proofs.lemmas.Bool.Decides.{nat_tests}
use Rattle.std.proofs.lemmas.List.{length-replicate}
use Rattle.cfs_file.specs.File.{put}
use Rattle.cfs_file.specs.declared.sizes.TheConstants.{BLOCK_LEN}
use Rattle.cfs_file.specs.declared.span.Span.{Span}
use Rattle.cfs_file.specs.declared.span.Span.TheVariants.{Nothing, Range, From}
use Rattle.cfs_core.specs.declared.stretch.Stretch.{Stretch}
use Rattle.cfs_core.specs.declared.event.Event.{Event}
use Rattle.cfs_core.specs.declared.event.Event.TheVariants as events
use Rattle.cfs_core.specs.declared.event.End.TheVariants as ends
use Rattle.cfs_core.specs.declared.event.SizeEnd.TheVariants as sizes
use Rattle.cfs_core.specs.declared.inode_core.Core.{Core}
use Rattle.cfs_core.specs.Fresh.{IsFresh}
use Rattle.cfs_core.specs.Words.{end_in, has_block, is_live, payload, payload_at, piece_in, start_in, track}
use Rattle.cfs_core.specs.May.{case, in_block, may_flush}
use Rattle.cfs_core.specs.After.{after, written}
use Rattle.cfs_core.proofs.Alive.{block_lives}
use Rattle.cfs_core.proofs.Kept.{IsKept, at}
use Rattle.cfs_core.proofs.Legal.{and_all, both}
use Rattle.cfs_core.proofs.Order.{some_place, track_is, writes}
use Rattle.cfs_core.proofs.Registers.{IsShaped, change-shaped}
use Rattle.cfs_core.proofs.Sizes.{length-put}
use Rattle.cfs_core_laws.specs.Laws.{ends_within}
use Rattle.cfs_core_laws.proofs.Blanks.{IsPart, is-part, part-at}
use Rattle.cfs_core_laws.proofs.Through.{payload-at}
use Rattle.cfs_core_laws.proofs.Untagged.{AreWanted}

abbrev pub AreWithin : Core → Type 0
AreWithin core = list_all (ends_within (length core.bytes)) core.loose ≡ true

-- more bytes, and one stretch more
more-bytes : (loose : List Stretch) (few many : ℕ) → few ≤ many →
    list_all (ends_within few) loose ≡ true → list_all (ends_within many) loose ≡ true
more-bytes [] few many le h = refl
more-bytes (s ∷ ss) few many le h =
    let parts = both (ends_within few s) (list_all (ends_within few) ss) h in
    and_all (ends_within many s) (list_all (ends_within many) ss) (wider parts.0)
    (more-bytes ss few many le parts.1)
  where
    wider : nat_le s.to few ≡ true → nat_le s.to many ≡ true
    wider is = grind (arith, nat_tests)

one-more : (loose : List Stretch) (s : Stretch) (many : ℕ) →
    list_all (ends_within many) loose ≡ true → s.to ≤ many →
    list_all (ends_within many) (loose ++ s ∷ []) ≡ true
one-more [] s many h ends_ = and_all (ends_within many s) true (test s.to many ends_) refl
  where
    test : (a b : ℕ) → a ≤ b → nat_le a b ≡ true
    test a b le = grind (arith, nat_tests)
one-more (x ∷ xs) s many h ends_ =
    let parts = both (ends_within many x) (list_all (ends_within many) xs) h in
    and_all (ends_within many x) (list_all (ends_within many) (xs ++ s ∷ [])) parts.0
    (one-more xs s many parts.1 ends_)

within-filtered : (loose : List Stretch) (keeps : Stretch → Bool) (many : ℕ) →
    list_all (ends_within many) loose ≡ true →
    list_all (ends_within many) (filter keeps loose) ≡ true
within-filtered [] keeps many h = h
within-filtered (s ∷ ss) keeps many h =
    let parts = both (ends_within many s) (list_all (ends_within many) ss) h in
    pick (keeps s) parts.0 (within-filtered ss keeps many parts.1)
  where
    pick : (b : Bool) → ends_within many s ≡ true →
        list_all (ends_within many) (filter keeps ss) ≡ true →
        list_all (ends_within many) (cond b (s ∷ filter keeps ss) (filter keeps ss)) ≡ true
    pick true one rest = and_all (ends_within many s)
        (list_all (ends_within many) (filter keeps ss)) one rest
    pick false one rest = rest

-- a piece has a byte for each of its positions
piece-long : (bytes : List ℕ) (span : Span) (block : ℕ) → IsShaped bytes span → IsPart span block →
    end_in span block ≤ start_in span block + length (piece_in bytes span block)
piece-long bytes Nothing block shaped part = absurd shaped
piece-long bytes (Range from to) block shaped part =
    let start : ℕ = max from (BLOCK_LEN * block) in
    let end : ℕ = min to (BLOCK_LEN * block + BLOCK_LEN) in
    let taken : length (piece_in bytes (Range from to) block) ≡
    min (end - start) (length (drop (start - from) bytes)) =
    length-take (end - start) (drop (start - from) bytes) in
    let dropped : length (drop (start - from) bytes) ≡ length bytes - (start - from) =
    length-drop (start - from) bytes in
    omega arith
piece-long bytes (From from) block shaped part =
    let start : ℕ = max from (BLOCK_LEN * block) in
    let lasts : length (piece_in bytes (From from) block) ≡
    BLOCK_LEN * block + BLOCK_LEN - start =
    length-replicate {A = ℕ} (BLOCK_LEN * block + BLOCK_LEN - start) 0 in
    omega arith

within-written : (core : Core) (place block : ℕ) (bytes : List ℕ) (ok : Bool) → AreWithin core →
    end_in (track core.tracks place).span block ≤ start_in (track core.tracks place).span block +
    length bytes →
    AreWithin (written core place block bytes ok)
within-written core place block bytes ok all long =
    let start : ℕ = start_in (track core.tracks place).span block in
    let end : ℕ = end_in (track core.tracks place).span block in
    let many : length (put core.bytes start bytes) ≡ max (length core.bytes)
    (start + length bytes) =
    length-put core.bytes start bytes in
    one-more core.loose (record { from = start; to = end }) (length (put core.bytes start bytes))
    (more-bytes core.loose (length core.bytes) (length (put core.bytes start bytes)) (omega arith)
    all)
    (omega arith)

whole-piece : (core : Core) (place block : ℕ) → IsKept core → AreWanted core →
    has_block (track core.tracks place).state block ≡ true →
    end_in (track core.tracks place).span block ≤ start_in (track core.tracks place).span block
    + length (piece_in (payload_at core.log place) (track core.tracks place).span block)
whole-piece core place block kept wanted h =
    let some = some_place (λ s. has_block s block) refl core.tracks place h in
    let here : track core.tracks place ≡ at core (place - 1) =
    track_is core.tracks place (place - 1) some refl in
    let live : is_live (at core (place - 1)).state ≡ true =
    rw here at (block_lives (track core.tracks place).state block h) in
    let shaped : IsShaped (payload (slice_get core.log (place - 1)))
    (track core.tracks place).span =
    rw here (change-shaped core kept.logged (place - 1) (kept.logged.live_changes (place - 1) live))
    in
    let want = part-at core place block wanted h in
    rw (payload-at core place some)
    (piece-long (payload (slice_get core.log (place - 1))) (track core.tracks place).span block
    shaped
    (is-part (track core.tracks place).span block want.meeting))

pub within-after : (core : Core) (event : Event) → IsKept core → AreWanted core → AreWithin core →
    case core event ≡ true → AreWithin (after core event)
within-after core (events.Tag block kept) k w all h = all
within-after core (events.Admit entry grant true) k w all h = all
within-after core (events.Admit entry grant false) k w all h = all
within-after core (events.AdmitRead entry) k w all h = all
within-after core (events.Serve place answer) k w all h = all
within-after core (events.Mark place by kept) k w all h = all
within-after core (events.Dispatch place) k w all h = all
within-after core (events.BlockWrite place block None) k w all h =
    within-written core place block
    (piece_in (payload_at core.log place) (track core.tracks place).span block) true all
    (whole-piece core place block k w (writes core place block None h))
within-after core (events.BlockWrite place block (Some left)) k w all h =
    let parts = both (may_flush core place block)
    (length left == end_in (track core.tracks place).span block - start_in
    (track core.tracks place).span block) h in
    within-written core place block left false all
    (long (length left) (end_in (track core.tracks place).span block)
    (start_in (track core.tracks place).span block) parts.1)
  where
    long : (a b c : ℕ) → (a == b - c) ≡ true → b ≤ c + a
    long a b c same = grind (arith, nat_tests)
within-after core (events.Flush place block true) k w all h =
    within-filtered core.loose (λ s. not (in_block block s)) (length core.bytes) all
within-after core (events.Flush place block false) k w all h = all
within-after core (events.Finish place ends.Retired) k w all h = all
within-after core (events.Finish place ends.More) k w all h = all
within-after core (events.Finish place (ends.Back sizes.AsBefore gate applied)) k w all h = all
within-after core (events.Finish place (ends.Back sizes.Set gate applied)) k w all h = all
within-after core (events.Finish place (ends.Back sizes.Either gate applied)) k w all h = all
within-after core (events.Skip place) k w all h = all
within-after core (events.Trim block kept) k w all h = all
within-after core events.Settle k w all h = all
within-after core (events.Crash image) k w all h = refl
within-after core events.Mount k w all h = refl

pub within-fresh : (core : Core) → IsFresh core → AreWithin core
within-fresh core fresh = rw fresh.loose refl
