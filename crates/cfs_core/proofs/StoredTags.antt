-- The tags of blocks that are mapped and freed keep what is stored: such a block is zero in every
-- image.
use Rattle.std.proofs.Common.{◌≡◌, ◌⊎◌, inl, inr, ℕ, suc, zero, ◌+◌, ◌-◌, ◌*◌, ◌/◌, ◌<◌, ◌≤◌, ◌==◌, Bool, true, false, ◌&&◌, ◌||◌, not, if◌then◌else◌, List, [], ◌∷◌, length, take, drop, get_or, set, arith, refl, sym, ap, ◌∙◌, length-drop, length-take, get_or-set_other, nat_lt, nat_le}
use Rattle.std.specs.List.{list_all}
use Rattle.std.proofs.lemmas.Bool.{cases_lt}
use Rattle.std.proofs.lemmas.Bool.Decides.{nat_tests}
use Rattle.std.proofs.lemmas.Grind.{get_or-set_at}
use Rattle.std.proofs.lemmas.List.{get_or-drop, get_or-take, get_or_past}
use Rattle.cfs_file.specs.declared.span.Span.TheVariants.{Range}
use Rattle.cfs_file.specs.Span.{meets}
use Rattle.cfs_file.specs.declared.sizes.TheConstants.{BLOCK_LEN, FILE_BLOCKS}
use Rattle.cfs_core.specs.declared.flag.Flag.{Flag}
use Rattle.cfs_core.specs.declared.flag.Flag.TheVariants.{Off, On, Unsure}
use Rattle.cfs_core.specs.declared.stretch.Stretch.{Stretch}
use Rattle.cfs_core.specs.declared.inode_core.Core.{Core}
use Rattle.cfs_core.specs.Words.{block_span, is_live, is_lent, is_off, is_on}
use Rattle.cfs_core.specs.Medium.{is_loose, rests, rests_as}
use Rattle.cfs_core.specs.May.{doubt_meets, has_live_in, in_block, is_mapped, is_written, is_zero_block, may_tag, may_trim}
use Rattle.cfs_core.specs.After.{with_tag}
use Rattle.cfs_core.proofs.Apart.{any_none, live_only, not_true}
use Rattle.cfs_core.proofs.Kept.{IsKept, IsLive, IsStored, at, byte_of, file_at, is_short}
use Rattle.cfs_core.proofs.Legal.{both, or_right, same_number}
use Rattle.cfs_core.proofs.Order.{in_range, same_or_not}
use Rattle.cfs_core.proofs.StoredFrames.{in_tracks, no_clash, now_size, quiet_follows, quiet_same, same_test, stored-follows}
use Rattle.cfs_core.proofs.StoredWrites.{meet_at}

true_or_false : (b : Bool) → (b ≡ true) ⊎ (b ≡ false)
true_or_false true = inl refl
true_or_false false = inr refl

-- what is loose lies in a block that was written
loose_written : (loose : List Stretch) (p : ℕ) → list_all is_short loose ≡ true →
    is_loose loose p ≡ true → is_written loose (p / BLOCK_LEN) ≡ true
loose_written [] p short h = h
loose_written (s ∷ ss) p short h =
    let parts = both (is_short s) (list_all is_short ss) short in
    pick (nat_le s.from p && nat_lt p s.to) (λ inside. here inside parts.0)
    (loose_written ss p parts.1) h
  where
    here : (nat_le s.from p && nat_lt p s.to) ≡ true → is_short s ≡ true →
        in_block (p / BLOCK_LEN) s ≡ true
    here inside fits =
        let ends = both (nat_le s.from p) (nat_lt p s.to) inside in
        let low : s.from ≤ p = grind (arith, nat_tests) in
        let high : p < s.to = grind (arith, nat_tests) in
        let top : s.to ≤ BLOCK_LEN * (s.from / BLOCK_LEN) + BLOCK_LEN = grind (arith, nat_tests) in
        same_test (s.from / BLOCK_LEN) (p / BLOCK_LEN) (omega arith)

    pick : (b : Bool) → (b ≡ true → in_block (p / BLOCK_LEN) s ≡ true) →
        (is_loose ss p ≡ true → is_written ss (p / BLOCK_LEN) ≡ true) →
        (b || is_loose ss p) ≡ true → is_written (s ∷ ss) (p / BLOCK_LEN) ≡ true
    pick true first rest is =
        let own : in_block (p / BLOCK_LEN) s ≡ true = first refl in rw own refl
    pick false first rest is =
        or_right (in_block (p / BLOCK_LEN) s) (is_written ss (p / BLOCK_LEN)) (rest is)

all_at : (test : ℕ → Bool) (bytes : List ℕ) (i : ℕ) → list_all test bytes ≡ true →
    i < length bytes → test (get_or bytes i 0) ≡ true
all_at test [] i h less = absurd (omega arith)
all_at test (b ∷ bs) zero h less = (both (test b) (list_all test bs) h).0
all_at test (b ∷ bs) (suc i) h less =
    all_at test bs i (both (test b) (list_all test bs) h).1 (omega arith)

-- a part of zeros
zero_part : (bytes : List ℕ) (from n p : ℕ) →
    list_all (λ b. b == 0) (take n (drop from bytes)) ≡ true → from ≤ p → p < from + n →
    get_or bytes p 0 ≡ 0
zero_part bytes from n p h low high = elim (cases_lt p (length bytes)) [
  | inl within ↦
      let i : ℕ = p - from in
      let place : from + i ≡ p = omega arith in
      let inside : i < length (take n (drop from bytes)) =
      omega (arith, length-take n (drop from bytes), length-drop from bytes) in
      let first : get_or (take n (drop from bytes)) i 0 ≡ get_or (drop from bytes) i 0 =
      get_or-take n (drop from bytes) i 0 (omega arith) in
      let then_ : get_or (drop from bytes) i 0 ≡ get_or bytes p 0 =
      get_or-drop from bytes i 0 ∙ ap (λ (k : ℕ). get_or bytes k 0) place in
      sym (first ∙ then_)
      ∙ same_number (get_or (take n (drop from bytes)) i 0) 0
      (all_at (λ b. b == 0) (take n (drop from bytes)) i h inside)
  | inr past ↦ get_or_past bytes p 0 past
]

-- the blocks of a write that is mapped are tagged
pub mapped_at : (tags : List Flag) (from to p : ℕ) → is_mapped tags (Range from to) ≡ true →
    from ≤ p → p < to → is_on (get_or tags (p / BLOCK_LEN) Off) ≡ true
mapped_at tags from to p h low high =
    in_range (λ k. is_on (get_or tags k Off)) (from / BLOCK_LEN)
    ((to - 1) / BLOCK_LEN + 1 - from / BLOCK_LEN) (p / BLOCK_LEN) h (omega arith) (omega arith)

-- ---- a tag is set

zero_byte : (tag : Flag) (loose : Bool) (stands byte : ℕ) → is_on tag ≡ false →
    rests_as tag loose stands byte ≡ true → byte ≡ 0
zero_byte Off loose stands byte off h = same_number byte 0 h
zero_byte On loose stands byte off h = cc
zero_byte Unsure loose stands byte off h =
    same_number byte 0 (both (stands == byte) (byte == 0)
    (both (not loose) ((stands == byte) && (byte == 0)) h).1).1

zero_rests : (tag : Flag) → rests_as tag false 0 0 ≡ true
zero_rests Off = refl
zero_rests On = refl
zero_rests Unsure = refl

tag_rests : (core : Core) (block : ℕ) (flag : Flag) (p byte : ℕ) →
    list_all is_short core.loose ≡ true → may_tag core block ≡ true → rests core p byte ≡ true →
    rests (with_tag core block flag) p byte ≡ true
tag_rests core block flag p byte short h is = elim (same_or_not (p / BLOCK_LEN) block) [
  | inl here ↦
      let a = both (nat_lt block FILE_BLOCKS)
      (nat_lt block (length core.tags)
      && (not (is_on (get_or core.tags block Off)) && is_zero_block core block)) h in
      let b = both (nat_lt block (length core.tags))
      (not (is_on (get_or core.tags block Off)) && is_zero_block core block) a.1 in
      let c = both (not (is_on (get_or core.tags block Off))) (is_zero_block core block) b.1 in
      let d = both (not (is_written core.loose block))
      (list_all (λ x. x == 0) (take BLOCK_LEN (drop (BLOCK_LEN * block) core.bytes))) c.1 in
      let now : get_or (set core.tags block flag) (p / BLOCK_LEN) Off ≡ flag =
      get_or-set_at core.tags block (p / BLOCK_LEN) flag Off here (below b.0) in
      let not_on : is_on (get_or core.tags (p / BLOCK_LEN) Off) ≡ false =
      rw here (not_true (is_on (get_or core.tags block Off)) c.0) in
      let byte_is : byte ≡ 0 =
      zero_byte (get_or core.tags (p / BLOCK_LEN) Off) (is_loose core.loose p)
      (get_or core.bytes p 0) byte not_on is in
      let stands_is : get_or core.bytes p 0 ≡ 0 =
      zero_part core.bytes (BLOCK_LEN * block) BLOCK_LEN p d.1 (omega arith) (omega arith) in
      let still : is_loose core.loose p ≡ false =
      calm (not_true (is_written core.loose block) d.0) here in
      rw (now, still, stands_is, byte_is) (zero_rests flag)
  | inr other ↦
      let now : get_or (set core.tags block flag) (p / BLOCK_LEN) Off
      ≡ get_or core.tags (p / BLOCK_LEN) Off =
      get_or-set_other core.tags block (p / BLOCK_LEN) flag Off other in
      rw now is
]
  where
    below : nat_lt block (length core.tags) ≡ true → block < length core.tags
    below test = grind (arith, nat_tests)

    calm : is_written core.loose block ≡ false → p / BLOCK_LEN ≡ block →
        is_loose core.loose p ≡ false
    calm none here = elim (true_or_false (is_loose core.loose p)) [
      | inl loose ↦
          let own : is_written core.loose block ≡ true =
          rw here at (loose_written core.loose p short loose) in
          absurd (no_clash (is_written core.loose block) own none)
      | inr calm_there ↦ calm_there
    ]

pub stored_tag : (core : Core) (block : ℕ) (flag : Flag) → IsKept core → may_tag core block ≡ true →
    IsStored (with_tag core block flag)
stored_tag core block flag kept h =
    stored-follows core (with_tag core block flag)
    (quiet_follows core (with_tag core block flag) refl refl (λ k. quiet_same (at core k)) (record {
      free = λ w p view free is.
          tag_rests core block flag p (get_or (file_at core w) p 0) kept.stored_.short h is;
      sizes = λ s is. is;
      applied =
          λ k p live applied alters is.
          tag_rests core block flag p (byte_of core k p) kept.stored_.short h is;
    }))
    kept.stored_.short kept.stored_

-- ---- a tag is cleared

still_zero : (tag : Flag) (loose : Bool) (stands : ℕ) → is_off tag ≡ false →
    rests_as tag loose stands 0 ≡ true → rests_as Unsure loose stands 0 ≡ true
still_zero Off loose stands on h = cc
still_zero On true stands on h = cc
still_zero On false stands on h = rw h refl
still_zero Unsure loose stands on h = h

-- what rests as 0 goes on to rest
trim_zero : (core : Core) (block : ℕ) (kept : Bool) (p : ℕ) → block < length core.tags →
    is_off (get_or core.tags block Off) ≡ false → p / BLOCK_LEN ≡ block → rests core p 0 ≡ true →
    rests (with_tag core block (if kept then Off else Unsure)) p 0 ≡ true
trim_zero core block true p within on here is =
    let now : get_or (set core.tags block Off) (p / BLOCK_LEN) Off ≡ Off =
    get_or-set_at core.tags block (p / BLOCK_LEN) Off Off here within in
    rw now refl
trim_zero core block false p within on here is =
    let now : get_or (set core.tags block Unsure) (p / BLOCK_LEN) Off ≡ Unsure =
    get_or-set_at core.tags block (p / BLOCK_LEN) Unsure Off here within in
    let tagged : is_off (get_or core.tags (p / BLOCK_LEN) Off) ≡ false = rw here on in
    rw now (still_zero (get_or core.tags (p / BLOCK_LEN) Off) (is_loose core.loose p)
    (get_or core.bytes p 0) tagged is)

trim_rests : (core : Core) (block : ℕ) (kept : Bool) (p byte : ℕ) → block < length core.tags →
    is_off (get_or core.tags block Off) ≡ false → (p / BLOCK_LEN ≡ block → byte ≡ 0) →
    rests core p byte ≡ true →
    rests (with_tag core block (if kept then Off else Unsure)) p byte ≡ true
trim_rests core block kept p byte within on is_zero is = elim (same_or_not (p / BLOCK_LEN) block) [
  | inl here ↦
      let byte_is : byte ≡ 0 = is_zero here in
      let was : rests core p 0 ≡ true = rw byte_is at is in
      rw byte_is (trim_zero core block kept p within on here was)
  | inr other ↦
      let now : get_or (set core.tags block (if kept then Off else Unsure)) (p / BLOCK_LEN) Off
      ≡ get_or core.tags (p / BLOCK_LEN) Off =
      get_or-set_other core.tags block (p / BLOCK_LEN) (if kept then Off else Unsure) Off other in
      rw now is
]

pub stored_trim : (core : Core) (block : ℕ) (kept : Bool) → IsKept core →
    may_trim core block ≡ true → IsStored (with_tag core block (if kept then Off else Unsure))
stored_trim core block kept is_kept h =
    let a = both (nat_lt block FILE_BLOCKS)
    (not (is_off (get_or core.tags block Off))
    && (nat_le core.size (BLOCK_LEN * block)
    && (not (is_lent core.tracks block)
    && (not (has_live_in core.tracks (block_span block))
    && not (doubt_meets core.doubt (block_span block)))))) h in
    let b = both (not (is_off (get_or core.tags block Off)))
    (nat_le core.size (BLOCK_LEN * block)
    && (not (is_lent core.tracks block)
    && (not (has_live_in core.tracks (block_span block))
    && not (doubt_meets core.doubt (block_span block))))) a.1 in
    let c = both (nat_le core.size (BLOCK_LEN * block))
    (not (is_lent core.tracks block)
    && (not (has_live_in core.tracks (block_span block))
    && not (doubt_meets core.doubt (block_span block)))) b.1 in
    let d = both (not (is_lent core.tracks block))
    (not (has_live_in core.tracks (block_span block))
    && not (doubt_meets core.doubt (block_span block))) c.1 in
    let e = both (not (has_live_in core.tracks (block_span block)))
    (not (doubt_meets core.doubt (block_span block))) d.1 in
    let on = not_true (is_off (get_or core.tags block Off)) b.0 in
    let within = below a.0 in
    let size = at_most c.0 in
    let none = not_true (has_live_in core.tracks (block_span block)) e.0 in
    stored-follows core (with_tag core block (if kept then Off else Unsure))
    (quiet_follows core (with_tag core block (if kept then Off else Unsure)) refl refl
    (λ k. quiet_same (at core k)) (record {
      free = λ w p view free is.
          trim_rests core block kept p (get_or (file_at core w) p 0) within on
          (λ here. is_kept.stored_.zero_past w core.size p view (now_size core) (omega arith) free)
          is;
      sizes = λ s is. is;
      applied = λ k p live applied alters is.
          trim_rests core block kept p (byte_of core k p) within on
          (λ here. absurd (meet_at (at core k).span (block_span block) p alters.1
          (omega arith, omega arith) (apart k none live))) is;
    }))
    is_kept.stored_.short is_kept.stored_
  where
    below : nat_lt block FILE_BLOCKS ≡ true → block < length core.tags
    below test =
        let less : block < FILE_BLOCKS = grind (arith, nat_tests) in omega (arith, is_kept.blocks)

    at_most : nat_le core.size (BLOCK_LEN * block) ≡ true → core.size ≤ BLOCK_LEN * block
    at_most test = grind (arith, nat_tests)

    apart : (k : ℕ) → has_live_in core.tracks (block_span block) ≡ false → IsLive core k →
        meets (at core k).span (block_span block) ≡ false
    apart k none live =
        live_only (is_live (at core k).state) (meets (at core k).span (block_span block))
        (any_none (λ t. is_live t.state && meets t.span (block_span block)) core.tracks k none
        (in_tracks is_live core.tracks k refl live)) live
