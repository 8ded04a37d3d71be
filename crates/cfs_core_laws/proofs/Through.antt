-- What a job has written and flushed stands in every image.
use Rattle.std.proofs.Common.{◌≡◌, ◌⊎◌, inl, inr, ℕ, suc, zero, ◌+◌, ◌-◌, ◌*◌, ◌/◌, ◌<◌, ◌≤◌, ◌==◌, Bool, true, false, ◌&&◌, ◌||◌, not, cond, if◌then◌else◌, Option, Some, None, List, [], ◌∷◌, ◌++◌, filter, length, get_or, set, arith, refl, sym, ap, ◌∙◌, get_or-set_other, nat_lt, nat_le, length-append, is_none}
use Rattle.std.specs.List.{list_all, slice_get}
use Rattle.std.proofs.lemmas.Bool.{cases_lt}
use Rattle.std.proofs.lemmas.Bool.Decides.{nat_tests}
use Rattle.std.proofs.lemmas.Grind.{get_or-set_at}
use Rattle.std.proofs.lemmas.List.{get_or_append_left, get_or-append_right, get_or_past}
use Rattle.cfs_file.specs.declared.sizes.TheConstants.{BLOCK_LEN, FILE_BLOCKS}
use Rattle.cfs_file.specs.declared.entry.Entry.{Entry}
use Rattle.cfs_file.specs.declared.span.Span.{Span}
use Rattle.cfs_file.specs.declared.span.Span.TheVariants.{Nothing, Range, From}
use Rattle.cfs_file.specs.File.{put}
use Rattle.cfs_file.specs.Span.{Holds, meets}
use Rattle.cfs_file.proofs.Spans.{meets-overlap}
use Rattle.cfs_core.specs.declared.flag.Flag.{Flag}
use Rattle.cfs_core.specs.declared.flag.Flag.TheVariants.{Off, On, Unsure}
use Rattle.cfs_core.specs.declared.stretch.Stretch.{Stretch}
use Rattle.cfs_core.specs.declared.state.State.{State}
use Rattle.cfs_core.specs.declared.state.State.TheVariants.{Waiting, Out, Noop, Unserved, Closed}
use Rattle.cfs_core.specs.declared.track.Track.{Track}
use Rattle.cfs_core.specs.declared.event.Event.{Event}
use Rattle.cfs_core.specs.declared.event.Event.TheVariants as events
use Rattle.cfs_core.specs.declared.event.End.{End}
use Rattle.cfs_core.specs.declared.event.End.TheVariants as ends
use Rattle.cfs_core.specs.declared.event.SizeEnd.{SizeEnd}
use Rattle.cfs_core.specs.declared.event.SizeEnd.TheVariants as sizes
use Rattle.cfs_core.specs.declared.inode_core.Core.{Core}
use Rattle.cfs_core.specs.Fresh.{IsFresh}
use Rattle.cfs_core.specs.Words.{blank, block_span, byte_at, end_in, end_of, has_block, is_live, is_off, is_on, is_out, is_through, is_waiting, payload, payload_at, piece_in, start_in, start_of, track}
use Rattle.cfs_core.specs.Jobs.{done_after, is_above, is_wanted, next_block, next_job, state_flushed, state_written}
use Rattle.cfs_core.specs.Medium.{is_loose, rests, rests_as}
use Rattle.cfs_core.specs.May.{case, ends_well, in_block, is_mapped, is_written, keeps_gate, may, may_dispatch, may_flush, stands_at}
use Rattle.cfs_core.specs.After.{after, flushed, logged, more_to_come, put_back, retired, with_tag, with_track, written}
use Rattle.cfs_core.proofs.Apart.{block_out, not_true, out_busy, out_live, seen, waiting_live}
use Rattle.cfs_core.proofs.Images.{all_in_range}
use Rattle.cfs_core.proofs.Kept.{IsKept, at, is_short}
use Rattle.cfs_core.proofs.Legal.{both}
use Rattle.cfs_core.proofs.Order.{first_of_and, same_or_not, some_place, track_is, writes}
use Rattle.cfs_core.proofs.Registers.{IsShaped, byte_beside, byte_written, change-shaped}
use Rattle.cfs_core.proofs.StoredFrames.{no_clash, same_test}
use Rattle.cfs_core.proofs.StoredTags.{mapped_at}
use Rattle.cfs_core.proofs.StoredWrites.{loose_filtered, not_shared, piece_fits, rests_fewer}
use Rattle.cfs_core_laws.proofs.Along.{case-of}
use Rattle.cfs_core_laws.proofs.Begun.{AreBegunApart, begun-after, begun-fresh, is_begun}
use Rattle.cfs_core_laws.proofs.Blanks.{AreInBlocks, IsBlank, blocks-after, blocks-fresh, bool-cases, calm-at, is-part, part-at, tag-blank}
use Rattle.cfs_core_laws.proofs.Finds.{find-none, is-below, wanted-by}
use Rattle.cfs_core_laws.proofs.Jobs.{back-below, begins-undone, begins-unput, failed-unput, flushed-other, flushed-put, flushed-was_put, is_put, is_undone, last-flushed, last-written, piece-at, put-out, through-done, written-other, written-undone}
use Rattle.cfs_core_laws.proofs.Untagged.{AreWanted}

-- ---- of one track, at an index

-- what its job wrote reads as its bytes
abbrev pub IsWrittenBy : Core → ℕ → Track → Type 0
IsWrittenBy core k t =
    (p : ℕ) → is_live t.state ≡ true → Holds t.span p → is_put t.state (p / BLOCK_LEN) ≡ true →
    get_or core.bytes p 0 ≡ byte_at (payload (slice_get core.log k)) t.span p

-- in mapped blocks up to the last that its job has, but for those that this has still to do, its
-- bytes stand in every image
abbrev pub IsRestedBy : Core → ℕ → Track → Type 0
IsRestedBy core k t =
    (p : ℕ) → is_live t.state ≡ true → t.applied ≡ false → Holds t.span p →
    is_on (get_or core.tags (p / BLOCK_LEN) Off) ≡ true →
    is_above (done_after t.done t.state) (p / BLOCK_LEN) ≡ false →
    is_undone t.state (p / BLOCK_LEN) ≡ false →
    rests core p (byte_at (payload (slice_get core.log k)) t.span p) ≡ true

pub record IsWorkedBy (core : Core) (k : ℕ) (t : Track) : Type 0 where
  pub written_ : IsWrittenBy core k t
  pub rested_ : IsRestedBy core k t

abbrev pub AreWorked : Core → Type 0
AreWorked core = core.crashed ≡ false → (k : ℕ) → IsWorkedBy core k (at core k)

-- a track that is not live
pub dead : (core : Core) (k : ℕ) (t : Track) → is_live t.state ≡ false → IsWorkedBy core k t
dead core k t none = record {
  written_ = λ p live holds put_. absurd (no_clash (is_live t.state) live none);
  rested_ = λ p live idle holds on below done. absurd (no_clash (is_live t.state) live none);
}

-- one that waits, and of which no block was done
pub unbegun : (core : Core) (k : ℕ) (t : Track) → t.state ≡ Waiting → t.done ≡ None →
    IsWorkedBy core k t
unbegun core k t waits none = record {
  written_ = λ p live holds put_. let own : is_put Waiting (p / BLOCK_LEN) ≡ true =
      rw waits at put_ in cc;
  rested_ = λ p live idle holds on below done_. let own : is_above (done_after None Waiting)
      (p / BLOCK_LEN) ≡ false = rw (waits, none) at below in cc;
}

-- one track is put
put_worked : (core : Core) (place : ℕ) (t : Track) → IsWorkedBy core (place - 1) t →
    ((k : ℕ) → IsWorkedBy core k (at core k)) → (k : ℕ) →
    IsWorkedBy core k (at (with_track core place t) k)
put_worked core place t own all k = elim (seen core.tracks place t k) [
  | inl here ↦ rw (here.1, here.0) own
  | inr kept ↦ rw kept (all k)
]

-- ---- positions and blocks

-- no stretch of the block is left
filtered-calm : (loose : List Stretch) (block : ℕ) →
    is_written (filter (λ s. not (in_block block s)) loose) block ≡ false
filtered-calm [] block = refl
filtered-calm (s ∷ ss) block = pick (in_block block s) refl (filtered-calm ss block)
  where
    pick : (b : Bool) → in_block block s ≡ b →
        is_written (filter (λ x. not (in_block block x)) ss) block ≡ false →
        is_written
        (cond (not b) (s ∷ filter (λ x. not (in_block block x)) ss)
        (filter (λ x. not (in_block block x)) ss)) block ≡ false
    pick true is rest = rest
    pick false is rest = rw (is, rest) refl

-- outside its mapped blocks a live entry leaves zeros: it is a truncate
pub unmapped-zero : (core : Core) → IsKept core → (k p : ℕ) → is_live (at core k).state ≡ true →
    Holds (at core k).span p → is_on (get_or core.tags (p / BLOCK_LEN) Off) ≡ false →
    byte_at (payload (slice_get core.log k)) (at core k).span p ≡ 0
unmapped-zero core kept k p live holds off = by (at core k).span holds (kept.logged.mapped k live)
  where
    by : (span : Span) → Holds span p → is_mapped core.tags span ≡ true →
        byte_at (payload (slice_get core.log k)) span p ≡ 0
    by Nothing h mapped = refl
    by (Range from to) h mapped =
        absurd (no_clash (is_on (get_or core.tags (p / BLOCK_LEN) Off))
        (mapped_at core.tags from to p mapped h.0 h.1) off)
    by (From from) h mapped = refl

-- ---- a tag

set_on : (tags : List Flag) (block other : ℕ) (flag : Flag) → (other ≡ block → ⊥) →
    get_or (set tags block flag) other Off ≡ get_or tags other Off
set_on tags block other flag apart = get_or-set_other tags block other flag Off apart

-- a tag that is set to `flag` in a blank block; or to one that is not on
tag_worked : (core : Core) (block : ℕ) (flag : Flag) → IsKept core → block < length core.tags →
    (is_on flag ≡ true → (is_on (get_or core.tags block Off) ≡ false) × IsBlank core block) →
    (k : ℕ) → IsWorkedBy core k (at core k) → IsWorkedBy (with_tag core block flag) k (at core k)
tag_worked core block flag kept within new k was = record {
  written_ = was.written_;
  rested_ = λ p live idle holds on below done_. elim (same_or_not (p / BLOCK_LEN) block) [
    | inl here ↦
        let now : get_or (set core.tags block flag) (p / BLOCK_LEN) Off ≡ flag =
        get_or-set_at core.tags block (p / BLOCK_LEN) flag Off here within in
        let flag_on : is_on flag ≡ true = rw now at on in
        let own = new flag_on in
        let off : is_on (get_or core.tags (p / BLOCK_LEN) Off) ≡ false = rw here own.0 in
        let byte_is = unmapped-zero core kept k p live holds off in
        let zero_is : get_or core.bytes p 0 ≡ 0 = own.1.zeros p here in
        let calm : is_loose core.loose p ≡ false = calm-at core.loose p kept.stored_.short
        (rw here own.1.calm) in
        rw (now, byte_is, zero_is, calm) (rests-on flag flag_on)
    | inr apart ↦
        let same : get_or (set core.tags block flag) (p / BLOCK_LEN) Off ≡ get_or core.tags
        (p / BLOCK_LEN) Off = set_on core.tags block (p / BLOCK_LEN) flag apart in
        rw same (was.rested_ p live idle holds (rw same at on) below done_)
  ];
}
  where
    rests-on : (f : Flag) → is_on f ≡ true → rests_as f false 0 0 ≡ true
    rests-on Off h = cc
    rests-on On h = refl
    rests-on Unsure h = cc

-- ---- an entry is logged

snoc-at : {X : Type 0} (xs : List X) (x : X) (k : ℕ) → k < length xs →
    slice_get (xs ++ x ∷ []) k ≡ slice_get xs k
snoc-at [] x k less = absurd (omega arith)
snoc-at (y ∷ ys) x zero less = refl
snoc-at (y ∷ ys) x (suc k) less = snoc-at ys x k (omega arith)

-- the same medium, and the entry as it was
moved : (core : Core) (entry : Entry) (t u : Track) (k : ℕ) → k < length core.log →
    IsWorkedBy core k u → IsWorkedBy (logged core entry t) k u
moved core entry t u k less was =
    let same : slice_get (core.log ++ entry ∷ []) k ≡ slice_get core.log k =
    snoc-at core.log entry k less in
    record {
      written_ = λ p live holds put_. rw same (was.written_ p live holds put_);
      rested_ = λ p live idle holds on below done_. rw same
          (was.rested_ p live idle holds on below done_);
    }

push_worked : (core : Core) (entry : Entry) (t : Track) → length core.tracks ≡ length core.log →
    ((k : ℕ) → IsWorkedBy (logged core entry t) k t) → ((k : ℕ) → IsWorkedBy core k (at core k)) →
    (k : ℕ) → IsWorkedBy (logged core entry t) k (at (logged core entry t) k)
push_worked core entry t many new all k = elim (cases_lt k (length core.tracks)) [
  | inl within ↦
      let old : get_or (core.tracks ++ t ∷ []) k blank ≡ get_or core.tracks k blank =
      get_or_append_left core.tracks (t ∷ []) blank k within in
      rw old (moved core entry t (at core k) k (omega arith) (all k))
  | inr past ↦ elim (same_or_not k (length core.tracks)) [
    | inl last ↦
        let now : get_or (core.tracks ++ t ∷ []) k blank ≡ get_or (t ∷ []) (k - length core.tracks)
        blank = get_or-append_right core.tracks (t ∷ []) (length core.tracks) k blank refl past
        in
        let first : k - length core.tracks ≡ 0 = omega arith in
        rw (now, first) (new k)
    | inr beyond ↦
        let none : get_or (core.tracks ++ t ∷ []) k blank ≡ blank =
        get_or_past (core.tracks ++ t ∷ []) k blank
        (omega (arith, length-append core.tracks (t ∷ []))) in
        rw none (dead (logged core entry t) k blank refl)
  ]
]

-- ---- a write

-- two live entries of which one is out, and the other has done something, have no position in common
alone : (core : Core) → IsKept core → AreBegunApart core → (j k p : ℕ) → (k ≡ j → ⊥) →
    is_out (at core j).state ≡ true → Holds (at core j).span p → is_live (at core k).state ≡ true →
    Holds (at core k).span p → is_above (done_after (at core k).done (at core k).state)
    (p / BLOCK_LEN) ≡ false → ⊥
alone core kept begun j k p apart out holds_j live holds below =
    by (at core k).state refl (at core k).done refl
  where
    meet : meets (at core j).span (at core k).span ≡ true
    meet = (meets-overlap (at core j).span (at core k).span).1 (p, (holds_j, holds))

    turned : meets (at core k).span (at core j).span ≡ true
    turned = (meets-overlap (at core k).span (at core j).span).1 (p, (holds, holds_j))

    by : (s : State) → (at core k).state ≡ s → (last : Option ℕ) → (at core k).done ≡ last → ⊥
    by Waiting is None none = let own : is_above (done_after None Waiting) (p / BLOCK_LEN) ≡ false =
        rw (is, none) at below in cc
    by Waiting is (Some last) some = elim (cases_lt k j) [
      | inl less ↦ no_clash (meets (at core k).span (at core j).span) turned
          (kept.apart k j less live (out_busy (at core j) out))
      | inr up ↦
          let began : is_begun (at core k) ≡ true = rw some refl in
          no_clash (meets (at core j).span (at core k).span) meet
          (begun j k (omega arith) (out_live (at core j).state out) began)
    ]
    by (Out job) is last some =
        let its_out : is_out (at core k).state ≡ true = rw is refl in
        not_shared core kept k j p apart (out_busy (at core k) its_out) live holds
        (out_busy (at core j) out) (out_live (at core j).state out) holds_j
    by Noop is last some = let own : is_live Noop ≡ true = rw is at live in cc
    by Unserved is last some = let own : is_live Unserved ≡ true = rw is at live in cc
    by Closed is last some = let own : is_live Closed ≡ true = rw is at live in cc

-- a written position is one of the job's own
record Stays (core : Core) (place block : ℕ) (bytes : List ℕ) (ok : Bool) (p : ℕ) : Type 0 where
  byte : get_or (written core place block bytes ok).bytes p 0 ≡ get_or core.bytes p 0
  rest : (b : ℕ) → rests core p b ≡ true → rests (written core place block bytes ok) p b ≡ true

loose-more : (loose : List Stretch) (s : Stretch) (p : ℕ) →
    ((nat_le s.from p && nat_lt p s.to) ≡ true → ⊥) → is_loose (loose ++ s ∷ []) p ≡ true →
    is_loose loose p ≡ true
loose-more [] s p out h = absurd (out (one (nat_le s.from p && nat_lt p s.to) h))
  where
    one : (b : Bool) → (b || false) ≡ true → b ≡ true
    one true is = refl
    one false is = is
loose-more (x ∷ xs) s p out h = pick (nat_le x.from p && nat_lt p x.to) (loose-more xs s p out) h
  where
    pick : (b : Bool) → (is_loose (xs ++ s ∷ []) p ≡ true → is_loose xs p ≡ true) →
        (b || is_loose (xs ++ s ∷ []) p) ≡ true → (b || is_loose xs p) ≡ true
    pick true rest is = refl
    pick false rest is = rest is

outside : (core : Core) (place block : ℕ) (bytes : List ℕ) (ok : Bool) (p : ℕ) →
    length bytes ≤ end_in (track core.tracks place).span block - start_in
    (track core.tracks place).span block →
    (p < start_in (track core.tracks place).span block) ⊎
    (end_in (track core.tracks place).span block ≤ p) → Stays core place block bytes ok p
outside core place block bytes ok p fits side = record {
  byte = same;
  rest = λ b is.
      let own = rests_fewer (get_or core.tags (p / BLOCK_LEN) Off) (is_loose core.loose p)
      (is_loose
      (core.loose ++ record {
        from = start_in (track core.tracks place).span block;
        to =
            end_in (track core.tracks place).span block;
      } ∷ []) p)
      (get_or core.bytes p 0) b
      (loose-more core.loose
      (record {
        from = start_in (track core.tracks place).span block;
        to =
            end_in (track core.tracks place).span block;
      }) p none) is in
      rw same own;
}
  where
    from : ℕ
    from = start_in (track core.tracks place).span block

    to : ℕ
    to = end_in (track core.tracks place).span block

    beside : (p < from) ⊎ (to ≤ p) → (p < from) ⊎ (from + length bytes ≤ p)
    beside (inl before) = inl before
    beside (inr past) =
        elim (cases_lt p from) [ inl before ↦ inl before | inr up ↦ inr (omega arith) ]

    same : get_or (put core.bytes from bytes) p 0 ≡ get_or core.bytes p 0
    same = byte_beside core.bytes bytes from p (beside side)

    none : (nat_le from p && nat_lt p to) ≡ true → ⊥
    none inside =
        let parts = both (nat_le from p) (nat_lt p to) inside in
        let low : from ≤ p = grind (arith, nat_tests) in
        let high : p < to = grind (arith, nat_tests) in
        elim side [ inl before ↦ omega arith | inr past ↦ omega arith ]

part-holds : (s : Span) (block p : ℕ) → start_in s block ≤ p → p < end_in s block → Holds s p
part-holds Nothing block p low high = absurd (omega arith)
part-holds (Range from to) block p low high = (omega arith, omega arith)
part-holds (From from) block p low high = omega arith

-- a position is outside of what is written, or the job's entry has it
side-of : (core : Core) (place block p : ℕ) →
    ((p < start_in (track core.tracks place).span block) ⊎
    (end_in (track core.tracks place).span block ≤ p)) ⊎ Holds (track core.tracks place).span p
side-of core place block p = elim (cases_lt p (start_in (track core.tracks place).span block)) [
  | inl before ↦ inl (inl before)
  | inr up ↦ elim (cases_lt p (end_in (track core.tracks place).span block)) [
    | inl within ↦ inr (part-holds (track core.tracks place).span block p up within)
    | inr past ↦ inl (inr past)
  ]
]

record Writing (core : Core) (place block : ℕ) (bytes : List ℕ) (ok : Bool) : Type 0 where
  kept : IsKept core
  begun : AreBegunApart core
  wanted : AreWanted core
  has_it : has_block (track core.tracks place).state block ≡ true
  fits : length bytes ≤ end_in (track core.tracks place).span block - start_in
      (track core.tracks place).span block
  whole : ok ≡ true → bytes ≡ piece_in (payload_at core.log place) (track core.tracks place).span
      block

-- other blocks stay
elsewhere : (core : Core) (place block : ℕ) (bytes : List ℕ) (ok : Bool) →
    Writing core place block bytes ok → (p : ℕ) → (p / BLOCK_LEN ≡ block → ⊥) →
    Stays core place block bytes ok p
elsewhere core place block bytes ok w p there =
    let want = part-at core place block w.wanted w.has_it in
    let part = is-part (track core.tracks place).span block want.meeting in
    let low : BLOCK_LEN * block ≤ start_in (track core.tracks place).span block = part.low in
    let high : end_in (track core.tracks place).span block ≤ BLOCK_LEN * block + BLOCK_LEN =
    part.high in
    elim (cases_lt p (start_in (track core.tracks place).span block)) [
      | inl before ↦ outside core place block bytes ok p w.fits (inl before)
      | inr up ↦ elim (cases_lt p (end_in (track core.tracks place).span block)) [
        | inl within ↦ absurd (there (omega arith))
        | inr past ↦ outside core place block bytes ok p w.fits (inr past)
      ]
    ]

pub payload-at : (core : Core) (place : ℕ) → (place ≡ 0 → ⊥) →
    payload_at core.log place ≡ payload (slice_get core.log (place - 1))
payload-at core place some = let test : (place == 0) ≡ false = not_zero place some in rw test refl
  where
    not_zero : (n : ℕ) → (n ≡ 0 → ⊥) → (n == 0) ≡ false
    not_zero n is = grind (arith, nat_tests)

write_own : (core : Core) (place block : ℕ) (bytes : List ℕ) (ok : Bool) →
    Writing core place block bytes ok → IsWorkedBy core (place - 1) (at core (place - 1)) →
    IsWorkedBy (written core place block bytes ok) (place - 1)
    (record (track core.tracks place)
    { state = state_written block ok (track core.tracks place).state })
write_own core place block bytes ok w was = record {
  written_ = λ p live holds put_. elim (same_or_not (p / BLOCK_LEN) block) [
    | inl here ↦ own p holds here (ok-is ok (rw here at put_))
    | inr there ↦
        let old : is_put (track core.tracks place).state (p / BLOCK_LEN) ≡ true =
        sym (written-other (track core.tracks place).state block ok (p / BLOCK_LEN) there).1
        ∙ put_ in
        (elsewhere core place block bytes ok w p there).byte ∙ was_written p live_then holds old
  ];
  rested_ = λ p live idle holds on below done_. elim (same_or_not (p / BLOCK_LEN) block) [
    | inl here ↦ absurd
        (no_clash (is_undone (state_written block ok (track core.tracks place).state) block)
        (written-undone (track core.tracks place).state block ok w.has_it) (rw here at done_))
    | inr there ↦
        let undone : is_undone (track core.tracks place).state (p / BLOCK_LEN) ≡ false =
        sym (written-other (track core.tracks place).state block ok (p / BLOCK_LEN) there).0
        ∙ done_ in
        let last : is_above
        (done_after (track core.tracks place).done (track core.tracks place).state)
        (p / BLOCK_LEN) ≡ false =
        rw (last-written (track core.tracks place).done (track core.tracks place).state block
        ok) at below in
        (elsewhere core place block bytes ok w p there).rest _
        (was_rested p live_then idle holds on last undone)
  ];
}
  where
    some : place ≡ 0 → ⊥
    some = some_place (λ s. has_block s block) refl core.tracks place w.has_it

    here_is : track core.tracks place ≡ at core (place - 1)
    here_is = track_is core.tracks place (place - 1) some refl

    live_then : is_live (track core.tracks place).state ≡ true
    live_then = out_live (track core.tracks place).state
        (block_out (track core.tracks place).state block w.has_it)

    was_written : IsWrittenBy core (place - 1) (track core.tracks place)
    was_written = rw here_is was.written_

    was_rested : IsRestedBy core (place - 1) (track core.tracks place)
    was_rested = rw here_is was.rested_

    ok-is : (o : Bool) → is_put (state_written block o (track core.tracks place).state) block ≡ true
        → o ≡ true
    ok-is true h = refl
    ok-is false h =
        absurd (no_clash (is_put (state_written block false (track core.tracks place).state) block)
        h (failed-unput (track core.tracks place).state block))

    own : (p : ℕ) → Holds (track core.tracks place).span p → p / BLOCK_LEN ≡ block → ok ≡ true →
        get_or (put core.bytes (start_in (track core.tracks place).span block) bytes) p 0 ≡ byte_at
        (payload (slice_get core.log (place - 1))) (track core.tracks place).span p
    own p holds here whole =
        let change = w.kept.logged.live_changes (place - 1) (rw here_is at live_then) in
        let shaped : IsShaped (payload (slice_get core.log (place - 1)))
        (track core.tracks place).span =
        rw here_is (change-shaped core w.kept.logged (place - 1) change) in
        let bytes_are : bytes ≡ piece_in (payload (slice_get core.log (place - 1)))
        (track core.tracks place).span block = w.whole whole
        ∙ ap (λ (b : List ℕ). piece_in b (track core.tracks place).span block)
        (payload-at core place some) in
        let piece = piece-at (payload (slice_get core.log (place - 1)))
        (track core.tracks place).span block p shaped holds here in
        rw bytes_are
        (byte_written core.bytes
        (piece_in (payload (slice_get core.log (place - 1))) (track core.tracks place).span
        block) (start_in (track core.tracks place).span block) p piece.low piece.high
        ∙ piece.byte)

write_other : (core : Core) (place block : ℕ) (bytes : List ℕ) (ok : Bool) →
    Writing core place block bytes ok → (k : ℕ) → (k ≡ place - 1 → ⊥) →
    IsWorkedBy core k (at core k) →
    IsWorkedBy (written core place block bytes ok) k (at core k)
write_other core place block bytes ok w k apart was = record {
  written_ = λ p live holds put_. elim (side-of core place block p) [
    | inl side ↦ (outside core place block bytes ok p w.fits side).byte ∙ was.written_ p live holds
        put_
    | inr shared ↦ absurd
        (not_shared core w.kept k (place - 1) p apart
        (out_busy (at core k) (put-out (at core k).state (p / BLOCK_LEN) put_)) live holds
        (out_busy (at core (place - 1)) its_out) (out_live (at core (place - 1)).state its_out)
        (rw here_is at shared))
  ];
  rested_ = λ p live idle holds on below done_. elim (side-of core place block p) [
    | inl side ↦ (outside core place block bytes ok p w.fits side).rest _
        (was.rested_ p live idle holds on below done_)
    | inr shared ↦ absurd
        (alone core w.kept w.begun (place - 1) k p apart its_out (rw here_is at shared) live holds
        below)
  ];
}
  where
    here_is : track core.tracks place ≡ at core (place - 1)
    here_is = track_is core.tracks place (place - 1)
        (some_place (λ s. has_block s block) refl core.tracks place w.has_it) refl

    its_out : is_out (at core (place - 1)).state ≡ true
    its_out = rw here_is at (block_out (track core.tracks place).state block w.has_it)

write_worked : (core : Core) (place block : ℕ) (bytes : List ℕ) (ok : Bool) →
    Writing core place block bytes ok → ((k : ℕ) → IsWorkedBy core k (at core k)) →
    (k : ℕ) →
    IsWorkedBy (written core place block bytes ok) k (at (written core place block bytes ok) k)
write_worked core place block bytes ok w all k = elim (same_or_not k (place - 1)) [
  | inl same ↦ elim (cases_lt (place - 1) (length core.tracks)) [
    | inl within ↦
        let t : Track = record (track core.tracks place)
        { state = state_written block ok (track core.tracks place).state } in
        let now : get_or (set core.tracks (place - 1) t) k blank ≡ t =
        get_or-set_at core.tracks (place - 1) k t blank same within in
        rw (now, same) (write_own core place block bytes ok w (all (place - 1)))
    | inr past ↦
        let some = some_place (λ s. has_block s block) refl core.tracks place w.has_it in
        let none : at core (place - 1) ≡ blank = get_or_past core.tracks (place - 1) blank past in
        let own : has_block blank.state block ≡ true =
        rw (track_is core.tracks place (place - 1) some refl, none) at w.has_it in
        cc
  ]
  | inr apart ↦
      let t : Track = record (track core.tracks place)
      { state = state_written block ok (track core.tracks place).state } in
      let kept : get_or (set core.tracks (place - 1) t) k blank ≡ get_or core.tracks k blank =
      get_or-set_other core.tracks (place - 1) k t blank apart in
      rw kept (write_other core place block bytes ok w k apart (all k))
]

-- ---- a flush

flush_rests : (core : Core) (place block p b : ℕ) → rests core p b ≡ true →
    rests (flushed core place block true) p b ≡ true
flush_rests core place block p b is =
    rests_fewer (get_or core.tags (p / BLOCK_LEN) Off) (is_loose core.loose p)
    (is_loose (filter (λ s. not (in_block block s)) core.loose) p) (get_or core.bytes p 0) b
    (loose_filtered core.loose (λ s. not (in_block block s)) p) is

short-filtered : (loose : List Stretch) (test : Stretch → Bool) → list_all is_short loose ≡ true →
    list_all is_short (filter test loose) ≡ true
short-filtered [] test h = h
short-filtered (s ∷ ss) test h =
    let parts = both (is_short s) (list_all is_short ss) h in
    pick (test s) parts.0 (short-filtered ss test parts.1)
  where
    pick : (b : Bool) → is_short s ≡ true → list_all is_short (filter test ss) ≡ true →
        list_all is_short (cond b (s ∷ filter test ss) (filter test ss)) ≡ true
    pick true one rest = rw one rest
    pick false one rest = rest

flush_own : (core : Core) (place block : ℕ) → IsKept core →
    has_block (track core.tracks place).state block ≡ true →
    IsWorkedBy core (place - 1) (at core (place - 1)) →
    IsWorkedBy (flushed core place block true) (place - 1)
    (record (track core.tracks place)
    { state = state_flushed block (track core.tracks place).state })
flush_own core place block kept has_it was = record {
  written_ = λ p live holds put_. was_written p live_then holds
      (sym (flushed-put (track core.tracks place).state block (p / BLOCK_LEN)) ∙ put_);
  rested_ = λ p live idle holds on below done_. elim (same_or_not (p / BLOCK_LEN) block) [
    | inl here ↦
        let put_ : is_put (track core.tracks place).state (p / BLOCK_LEN) ≡ true =
        rw here (flushed-was_put (track core.tracks place).state block has_it
        (rw here at done_)) in
        let byte_is = was_written p live_then holds put_ in
        let calm : is_loose (filter (λ s. not (in_block block s)) core.loose) p ≡ false =
        calm-at (filter (λ s. not (in_block block s)) core.loose) p
        (short-filtered core.loose (λ s. not (in_block block s)) kept.stored_.short)
        (rw here (filtered-calm core.loose block)) in
        rw (calm, byte_is) (rests-on (get_or core.tags (p / BLOCK_LEN) Off) _ on)
    | inr there ↦
        let undone : is_undone (track core.tracks place).state (p / BLOCK_LEN) ≡ false =
        sym (flushed-other (track core.tracks place).state block (p / BLOCK_LEN) there)
        ∙ done_ in
        let last : is_above
        (done_after (track core.tracks place).done (track core.tracks place).state)
        (p / BLOCK_LEN) ≡ false =
        rw (last-flushed (track core.tracks place).done (track core.tracks place).state block)
        at below in
        flush_rests core place block p _ (was_rested p live_then idle holds on last undone)
  ];
}
  where
    here_is : track core.tracks place ≡ at core (place - 1)
    here_is = track_is core.tracks place (place - 1)
        (some_place (λ s. has_block s block) refl core.tracks place has_it) refl

    live_then : is_live (track core.tracks place).state ≡ true
    live_then = out_live (track core.tracks place).state
        (block_out (track core.tracks place).state block has_it)

    was_written : IsWrittenBy core (place - 1) (track core.tracks place)
    was_written = rw here_is was.written_

    was_rested : IsRestedBy core (place - 1) (track core.tracks place)
    was_rested = rw here_is was.rested_

    rests-on : (f : Flag) (b : ℕ) → is_on f ≡ true → rests_as f false b b ≡ true
    rests-on Off b h = cc
    rests-on On b h = same_test b b refl
    rests-on Unsure b h = cc

flush_worked : (core : Core) (place block : ℕ) → IsKept core →
    has_block (track core.tracks place).state block ≡ true →
    ((k : ℕ) → IsWorkedBy core k (at core k)) →
    (k : ℕ) → IsWorkedBy (flushed core place block true) k (at (flushed core place block true) k)
flush_worked core place block kept has_it all k =
    elim (seen core.tracks place
    (record (track core.tracks place)
    { state = state_flushed block (track core.tracks place).state }) k) [
      | inl here ↦ rw (here.1, here.0) (flush_own core place block kept has_it (all (place - 1)))
      | inr same ↦ rw same (record {
        written_ = (all k).written_;
        rested_ = λ p live idle holds on below done_. flush_rests core place block p _
            ((all k).rested_ p live idle holds on below done_);
      })
    ]

-- ---- a job begins and ends

dispatch_own : (core : Core) (place : ℕ) → IsKept core → may_dispatch core place ≡ true →
    IsWorkedBy core (place - 1) (at core (place - 1)) →
    IsWorkedBy core (place - 1)
    (record (track core.tracks place)
    { state = Out (next_job core.tags (track core.tracks place)) })
dispatch_own core place kept h was = record {
  written_ = λ p live holds put_. absurd
      (no_clash (is_put (Out (next_job core.tags (track core.tracks place))) (p / BLOCK_LEN)) put_
      (begins-unput core.tags (track core.tracks place) (p / BLOCK_LEN)));
  rested_ = λ p live idle holds on below done_. was_rested p
      (waiting_live (track core.tracks place).state waits) idle holds on
      (rw state_is (old p idle holds on below done_)) (rw state_is refl);
}
  where
    waits : is_waiting (track core.tracks place).state ≡ true
    waits = first_of_and (is_waiting (track core.tracks place).state) _ h

    here_is : track core.tracks place ≡ at core (place - 1)
    here_is = track_is core.tracks place (place - 1)
        (some_place is_waiting refl core.tracks place waits) refl

    was_rested : IsRestedBy core (place - 1) (track core.tracks place)
    was_rested = rw here_is was.rested_

    waiting_is : (s : State) → is_waiting s ≡ true → s ≡ Waiting
    waiting_is Waiting is = refl
    waiting_is (Out job) is = cc
    waiting_is Noop is = cc
    waiting_is Unserved is = cc
    waiting_is Closed is = cc

    state_is : (track core.tracks place).state ≡ Waiting
    state_is = waiting_is (track core.tracks place).state waits

    old : (p : ℕ) → (track core.tracks place).applied ≡ false →
        Holds (track core.tracks place).span p →
        is_on (get_or core.tags (p / BLOCK_LEN) Off) ≡ true →
        is_above (done_after (track core.tracks place).done
        (Out (next_job core.tags (track core.tracks place)))) (p / BLOCK_LEN) ≡ false →
        is_undone (Out (next_job core.tags (track core.tracks place))) (p / BLOCK_LEN) ≡ false →
        is_above (track core.tracks place).done (p / BLOCK_LEN) ≡ false
    old p idle holds on below done_ =
        elim (bool-cases (is_above (track core.tracks place).done (p / BLOCK_LEN))) [
          | inl above ↦
              let within : p / BLOCK_LEN < length core.tags =
              tagged-within core.tags (p / BLOCK_LEN) on
              in
              let file : nat_lt (p / BLOCK_LEN) FILE_BLOCKS ≡ true =
              less (p / BLOCK_LEN) FILE_BLOCKS
              (omega (arith, kept.blocks)) in
              let meeting : meets (track core.tracks place).span (block_span (p / BLOCK_LEN))
              ≡ true =
              (meets-overlap (track core.tracks place).span (block_span (p / BLOCK_LEN))).1
              (p, (holds, (omega arith, omega arith))) in
              let wanted = wanted-by core.tags (track core.tracks place)
              (track core.tracks place).done
              (p / BLOCK_LEN)
              (record { file = file; above = above; mapped = on; meeting = meeting }) in
              absurd (no_clash
              (is_undone (Out (next_job core.tags (track core.tracks place))) (p / BLOCK_LEN))
              (begins-undone core.tags (track core.tracks place) (p / BLOCK_LEN) idle wanted within
              below) done_)
          | inr not_above ↦ not_above
        ]
      where
        less : (a b : ℕ) → a < b → nat_lt a b ≡ true
        less a b is = grind (arith, nat_tests)

        tagged-within : (tags : List Flag) (b : ℕ) → is_on (get_or tags b Off) ≡ true →
            b < length tags
        tagged-within tags b is = elim (cases_lt b (length tags)) [
          | inl within ↦ within
          | inr past ↦ let none : get_or tags b Off ≡ Off = get_or_past tags b Off past in
              let own : is_on Off ≡ true = rw none at is in cc
        ]

more_own : (core : Core) (place : ℕ) → is_through (track core.tracks place).state ≡ true →
    is_out (track core.tracks place).state ≡ true →
    IsWorkedBy core (place - 1) (at core (place - 1)) →
    IsWorkedBy core (place - 1) (more_to_come (track core.tracks place))
more_own core place through out was = record {
  written_ = λ p live holds put_. cc;
  rested_ = λ p live idle holds on below done_.
      was_rested p (out_live (track core.tracks place).state out) idle holds on below
      (through-done (track core.tracks place).state (p / BLOCK_LEN) through);
}
  where
    here_is : track core.tracks place ≡ at core (place - 1)
    here_is = track_is core.tracks place (place - 1) (some_place is_out refl core.tracks place out)
        refl

    was_rested : IsRestedBy core (place - 1) (track core.tracks place)
    was_rested = rw here_is was.rested_

back_own : (core : Core) (place : ℕ) (size : SizeEnd) (gate : Flag) (applied : Bool) →
    AreWanted core → is_out (track core.tracks place).state ≡ true →
    ends_well core place (ends.Back size gate applied) ≡ true →
    IsWorkedBy core (place - 1) (at core (place - 1)) →
    IsWorkedBy core (place - 1) (put_back (track core.tracks place) gate applied)
back_own core place size gate true wanted out h was = record {
  written_ = λ p live holds put_. cc;
  rested_ = λ p live idle holds on below done_. cc;
}
back_own core place size gate false wanted out h was = record {
  written_ = λ p live holds put_. cc;
  rested_ = λ p live idle holds on below done_.
      let parts = back-below (track core.tracks place).done (track core.tracks place).state
      (p / BLOCK_LEN) (λ n is. (part-at core place n wanted is).above) below in
      was_rested p (out_live (track core.tracks place).state out) not_applied holds on parts.0
      parts.1;
}
  where
    here_is : track core.tracks place ≡ at core (place - 1)
    here_is = track_is core.tracks place (place - 1) (some_place is_out refl core.tracks place out)
        refl

    was_rested : IsRestedBy core (place - 1) (track core.tracks place)
    was_rested = rw here_is was.rested_

    not_applied : (track core.tracks place).applied ≡ false
    not_applied =
        let gate_kept = both (keeps_gate (track core.tracks place).gate gate) _ h in
        not_true (track core.tracks place).applied
        (both (not (track core.tracks place).applied) (is_on gate) gate_kept.1).0

-- ---- each event

pub record IsInWork (core : Core) : Type 0 where
  pub blocks : AreInBlocks core
  pub begun : AreBegunApart core
  pub worked : AreWorked core

marked_own : (core : Core) (place : ℕ) (mark : Flag) →
    is_waiting (track core.tracks place).state ≡ true →
    IsWorkedBy core (place - 1) (at core (place - 1)) →
    IsWorkedBy core (place - 1) (record (track core.tracks place) { mark = mark })
marked_own core place mark waits was =
    record { written_ = was_here.written_; rested_ = was_here.rested_ }
  where
    here_is : track core.tracks place ≡ at core (place - 1)
    here_is = track_is core.tracks place (place - 1)
        (some_place is_waiting refl core.tracks place waits) refl

    was_here : IsWorkedBy core (place - 1) (track core.tracks place)
    was_here = rw here_is was

trim_flag : (kept : Bool) → is_on (if kept then Off else Unsure) ≡ false
trim_flag true = refl
trim_flag false = refl

finish_worked : (core : Core) (place : ℕ) (end : End) → AreWanted core →
    case core (events.Finish place end) ≡ true → ((k : ℕ) → IsWorkedBy core k (at core k)) →
    (k : ℕ) →
    IsWorkedBy (after core (events.Finish place end)) k
    (at (after core (events.Finish place end)) k)
finish_worked core place end wanted h all = by end h
  where
    by : (e : End) → case core (events.Finish place e) ≡ true → (k : ℕ) →
        IsWorkedBy (after core (events.Finish place e)) k
        (at (after core (events.Finish place e)) k)
    by ends.Retired is k = let now = put_worked core place (retired (track core.tracks place))
        (dead core (place - 1) (retired (track core.tracks place)) refl) all k in
        record { written_ = now.written_; rested_ = now.rested_ }
    by ends.More is k =
        let parts = both (is_out (track core.tracks place).state) (ends_well core place ends.More)
        is in
        let now = put_worked core place (more_to_come (track core.tracks place))
        (more_own core place parts.1 parts.0 (all (place - 1))) all k in
        record { written_ = now.written_; rested_ = now.rested_ }
    by (ends.Back sizes.AsBefore gate applied) is k =
        let parts = both (is_out (track core.tracks place).state)
        (ends_well core place (ends.Back sizes.AsBefore gate applied)) is in
        let now = put_worked core place (put_back (track core.tracks place) gate applied)
        (back_own core place sizes.AsBefore gate applied wanted parts.0 parts.1
        (all (place - 1))) all k in record { written_ = now.written_; rested_ = now.rested_ }
    by (ends.Back sizes.Set gate applied) is k =
        let parts = both (is_out (track core.tracks place).state)
        (ends_well core place (ends.Back sizes.Set gate applied)) is in
        let now = put_worked core place (put_back (track core.tracks place) gate applied)
        (back_own core place sizes.Set gate applied wanted parts.0 parts.1 (all (place - 1)))
        all k in record { written_ = now.written_; rested_ = now.rested_ }
    by (ends.Back sizes.Either gate applied) is k =
        let parts = both (is_out (track core.tracks place).state)
        (ends_well core place (ends.Back sizes.Either gate applied)) is in
        let now = put_worked core place (put_back (track core.tracks place) gate applied)
        (back_own core place sizes.Either gate applied wanted parts.0 parts.1 (all (place - 1)))
        all k in record { written_ = now.written_; rested_ = now.rested_ }

finish_up : (core : Core) (place : ℕ) (end : End) →
    (after core (events.Finish place end)).crashed ≡ core.crashed
finish_up core place ends.Retired = refl
finish_up core place ends.More = refl
finish_up core place (ends.Back sizes.AsBefore gate applied) = refl
finish_up core place (ends.Back sizes.Set gate applied) = refl
finish_up core place (ends.Back sizes.Either gate applied) = refl

worked-after : (core : Core) (event : Event) → IsKept core → IsInWork core →
    case core event ≡ true → AreWorked (after core event)
worked-after core (events.Tag block kept) is work h = λ up k.
    let a = both (nat_lt block FILE_BLOCKS) _ h in
    let b = both (nat_lt block (length core.tags)) _ a.1 in
    let c = both (not (is_on (get_or core.tags block Off))) _ b.1 in
    tag_worked core block (if kept then On else Unsure) is (is-below block (length core.tags) b.0)
    (λ on. (not_true _ c.0, tag-blank core block h)) k (work.worked up k)
worked-after core (events.Admit entry grant true) is work h = λ up. push_worked core entry _
    is.ordered.same (λ k. unbegun _ k _ refl refl) (work.worked up)
worked-after core (events.Admit entry grant false) is work h =
    λ up k. record { written_ = (work.worked up k).written_; rested_ = (work.worked up k).rested_ }
worked-after core (events.AdmitRead entry) is work h = λ up. push_worked core entry _
    is.ordered.same (λ k. dead _ k _ refl) (work.worked up)
worked-after core (events.Serve place answer) is work h = λ up k.
    let all = put_worked core place (record (track core.tracks place) { state = Closed })
    (dead core (place - 1) _ refl) (work.worked up) k in
    record { written_ = all.written_; rested_ = all.rested_ }
worked-after core (events.Mark place by true) is work h = λ up k.
    let all =
    put_worked core place _
    (dead core (place - 1)
    (record (track core.tracks place) { state = Noop; gate = Unsure; mark = On }) refl)
    (work.worked up) k in
    record { written_ = all.written_; rested_ = all.rested_ }
worked-after core (events.Mark place by false) is work h = λ up k.
    let waits = first_of_and (is_waiting (track core.tracks place).state) _ h in
    let all =
    put_worked core place _ (marked_own core place Unsure waits (work.worked up (place - 1)))
    (work.worked up) k in
    record { written_ = all.written_; rested_ = all.rested_ }
worked-after core (events.Dispatch place) is work h = λ up k.
    let all = put_worked core place _ (dispatch_own core place is h (work.worked up (place - 1)))
    (work.worked up) k in
    record { written_ = all.written_; rested_ = all.rested_ }
worked-after core (events.BlockWrite place block None) is work h = λ up.
    write_worked core place block
    (piece_in (payload_at core.log place) (track core.tracks place).span block) true (record {
      kept = is;
      begun = work.begun;
      wanted = work.blocks.0;
      has_it = writes core place block None h;
      fits = piece_fits (payload_at core.log place) (track core.tracks place).span block;
      whole = λ ok. refl;
    }) (work.worked up)
worked-after core (events.BlockWrite place block (Some left)) is work h = λ up.
    let parts = both (may_flush core place block)
    (length left == end_in (track core.tracks place).span block - start_in
    (track core.tracks place).span block) h in
    write_worked core place block left false (record {
      kept = is;
      begun = work.begun;
      wanted = work.blocks.0;
      has_it = writes core place block (Some left) h;
      fits = same_length (length left)
          (end_in (track core.tracks place).span block - start_in (track core.tracks place).span
          block) parts.1;
      whole = λ ok. cc;
    }) (work.worked up)
  where
    same_length : (a b : ℕ) → (a == b) ≡ true → a ≤ b
    same_length a b same = grind (arith, nat_tests)
worked-after core (events.Flush place block true) is work h = λ up.
    flush_worked core place block is
    (both (nat_lt block FILE_BLOCKS) (has_block (track core.tracks place).state block) h).1
    (work.worked up)
worked-after core (events.Flush place block false) is work h = work.worked
worked-after core (events.Finish place end) is work h = λ up. finish_worked core place end
    work.blocks.0 h (work.worked (sym (finish_up core place end) ∙ up))
worked-after core (events.Skip place) is work h = λ up k.
    let all = put_worked core place (retired (track core.tracks place))
    (dead core (place - 1) (retired (track core.tracks place)) refl) (work.worked up) k in
    record { written_ = all.written_; rested_ = all.rested_ }
worked-after core (events.Trim block kept) is work h = λ up k.
    let a = both (nat_lt block FILE_BLOCKS) _ h in
    let less : block < FILE_BLOCKS = is-below block FILE_BLOCKS a.0 in
    tag_worked core block (if kept then Off else Unsure) is (omega (arith, is.blocks))
    (λ on. absurd (no_clash (is_on (if kept then Off else Unsure)) on (trim_flag kept))) k
    (work.worked up k)
worked-after core events.Settle is work h =
    λ up k. record { written_ = (work.worked up k).written_; rested_ = (work.worked up k).rested_ }
worked-after core (events.Crash image) is work h = λ up. cc
worked-after core events.Mount is work h = λ up k. dead _ k blank refl

pub work-after : (core : Core) (event : Event) → IsKept core → IsInWork core →
    may core event ≡ true → IsInWork (after core event)
work-after core event kept work h = record {
  blocks = blocks-after core event kept work.blocks h;
  begun = begun-after core event kept work.begun (case-of core event h);
  worked = worked-after core event kept work (case-of core event h);
}

pub work-fresh : (core : Core) → IsFresh core → IsInWork core
work-fresh core fresh = record {
  blocks = blocks-fresh core fresh;
  begun = begun-fresh core fresh;
  worked = λ up k. none k;
}
  where
    none : (k : ℕ) → IsWorkedBy core k (at core k)
    none k = let empty : at core k ≡ blank = rw fresh.tracks refl in
        rw empty (dead core k blank refl)

-- ---- where a job is through

-- nothing is left to write, or the entry is applied
abbrev pub is_last : Core → ℕ → Bool
is_last core place =
    (track core.tracks place).applied
    || is_none
    (next_block core.tags (track core.tracks place)
    (done_after (track core.tracks place).done (track core.tracks place).state))

through-out : (s : State) → is_through s ≡ true → is_out s ≡ true
through-out Waiting h = cc
through-out (Out job) h = refl
through-out Noop h = cc
through-out Unserved h = cc
through-out Closed h = cc

positions-hold : (span : Span) (p : ℕ) → start_of span ≤ p →
    p < start_of span + (end_of span - start_of span) → Holds span p
positions-hold Nothing p low high = absurd (omega arith)
positions-hold (Range from to) p low high = (omega arith, omega arith)
positions-hold (From from) p low high = low

pub through-stands : (core : Core) → IsKept core → IsInWork core → core.crashed ≡ false →
    (place : ℕ) → is_through (track core.tracks place).state ≡ true → is_last core place ≡ true →
    stands_at core place ≡ true
through-stands core kept work up place through last =
    rw (payload-at core place some)
    (all_in_range (λ p. is_off (get_or core.tags (p / BLOCK_LEN) Off) || rests core p
    (byte_at (payload (slice_get core.log (place - 1))) (track core.tracks place).span p))
    (start_of (track core.tracks place).span)
    (end_of (track core.tracks place).span - start_of (track core.tracks place).span)
    (λ p low high. each p (positions-hold (track core.tracks place).span p low high)))
  where
    out : is_out (track core.tracks place).state ≡ true
    out = through-out (track core.tracks place).state through

    some : place ≡ 0 → ⊥
    some = some_place is_out refl core.tracks place out

    here_is : track core.tracks place ≡ at core (place - 1)
    here_is = track_is core.tracks place (place - 1) some refl

    live : is_live (at core (place - 1)).state ≡ true
    live = rw here_is at (out_live (track core.tracks place).state out)

    own : IsRestedBy core (place - 1) (track core.tracks place)
    own = rw here_is (work.worked up (place - 1)).rested_

    none-left : (p : ℕ) → (track core.tracks place).applied ≡ false →
        Holds (track core.tracks place).span p →
        is_on (get_or core.tags (p / BLOCK_LEN) Off) ≡ true →
        is_above (done_after (track core.tracks place).done (track core.tracks place).state)
        (p / BLOCK_LEN) ≡ false
    none-left p idle holds on =
        let nothing : is_none
        (next_block core.tags (track core.tracks place)
        (done_after (track core.tracks place).done (track core.tracks place).state)) ≡ true =
        rw idle at last in
        let within : p / BLOCK_LEN < length core.tags = tagged-within core.tags (p / BLOCK_LEN) on
        in
        let file : nat_lt (p / BLOCK_LEN) FILE_BLOCKS ≡ true = less (p / BLOCK_LEN) FILE_BLOCKS
        (omega (arith, kept.blocks)) in
        let meeting : meets (track core.tracks place).span (block_span (p / BLOCK_LEN)) ≡ true =
        (meets-overlap (track core.tracks place).span (block_span (p / BLOCK_LEN))).1
        (p, (holds, (omega arith, omega arith))) in
        elim (bool-cases
        (is_above (done_after (track core.tracks place).done (track core.tracks place).state)
        (p / BLOCK_LEN))) [
          | inl above ↦ absurd
              (no_clash
              (is_wanted core.tags (track core.tracks place)
              (done_after (track core.tracks place).done (track core.tracks place).state)
              (p / BLOCK_LEN))
              (wanted-by core.tags (track core.tracks place)
              (done_after (track core.tracks place).done (track core.tracks place).state)
              (p / BLOCK_LEN)
              (record { file = file; above = above; mapped = on; meeting = meeting }))
              (find-none
              (is_wanted core.tags (track core.tracks place)
              (done_after (track core.tracks place).done (track core.tracks place).state)) 0
              (length core.tags) (p / BLOCK_LEN)
              (none-is _ nothing) (omega arith) (omega arith)))
          | inr below ↦ below
        ]
      where
        none-is : (o : Option ℕ) → is_none o ≡ true → o ≡ None
        none-is None is = refl
        none-is (Some n) is = cc

        less : (a b : ℕ) → a < b → nat_lt a b ≡ true
        less a b is = grind (arith, nat_tests)

        tagged-within : (tags : List Flag) (b : ℕ) → is_on (get_or tags b Off) ≡ true →
            b < length tags
        tagged-within tags b is = elim (cases_lt b (length tags)) [
          | inl within ↦ within
          | inr past ↦ let none : get_or tags b Off ≡ Off = get_or_past tags b Off past in
              let own_off : is_on Off ≡ true = rw none at is in cc
        ]

    mapped : (p : ℕ) → Holds (track core.tracks place).span p →
        is_on (get_or core.tags (p / BLOCK_LEN) Off) ≡ true →
        rests core p
        (byte_at (payload (slice_get core.log (place - 1))) (track core.tracks place).span p)
        ≡ true
    mapped p holds on = elim (bool-cases (track core.tracks place).applied) [
      | inl applied ↦
          let there : (at core (place - 1)).applied ≡ true = rw here_is at applied in
          let held : Holds (at core (place - 1)).span p = rw here_is at holds in
          rw here_is
          (kept.stored_.applied_rests (place - 1) p live there
          (kept.logged.live_changes (place - 1) live, held))
      | inr idle ↦ own p (out_live (track core.tracks place).state out) idle holds on
          (none-left p idle holds on)
          (through-done (track core.tracks place).state (p / BLOCK_LEN) through)
    ]

    each : (p : ℕ) → Holds (track core.tracks place).span p →
        (is_off (get_or core.tags (p / BLOCK_LEN) Off) || rests core p
        (byte_at (payload (slice_get core.log (place - 1))) (track core.tracks place).span p))
        ≡ true
    each p holds = by (get_or core.tags (p / BLOCK_LEN) Off) refl
      where
        by : (f : Flag) → get_or core.tags (p / BLOCK_LEN) Off ≡ f →
            (is_off f || rests core p
            (byte_at (payload (slice_get core.log (place - 1))) (track core.tracks place).span
            p)) ≡ true
        by Off is = refl
        by On is = mapped p holds (rw is refl)
        by Unsure is =
            let off : is_on (get_or core.tags (p / BLOCK_LEN) Off) ≡ false = rw is refl in
            let blank_there = work.blocks.1.blanks (p / BLOCK_LEN) off in
            let held : Holds (at core (place - 1)).span p = rw here_is at holds in
            let zero_byte : byte_at (payload (slice_get core.log (place - 1)))
            (track core.tracks place).span p ≡ 0 =
            rw here_is (unmapped-zero core kept (place - 1) p live held off) in
            let zero_there : get_or core.bytes p 0 ≡ 0 = blank_there.zeros p refl in
            let calm : is_loose core.loose p ≡ false = calm-at core.loose p kept.stored_.short
            blank_there.calm in
            rw (is, zero_byte, zero_there, calm) refl

pub may-retire : (core : Core) → IsKept core → IsInWork core → core.crashed ≡ false → (place : ℕ) →
    is_through (track core.tracks place).state ≡ true → is_last core place ≡ true →
    may core (events.Finish place ends.Retired) ≡ true
may-retire core kept work up place through last =
    let stand = through-stands core kept work up place through last in
    let out = through-out (track core.tracks place).state through in
    rw (up, out, through, stand) refl
