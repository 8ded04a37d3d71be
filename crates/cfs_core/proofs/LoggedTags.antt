-- The blocks of what is live or in doubt stay mapped.
use Rattle.std.proofs.Common.{◌≡◌, ◌⊎◌, inl, inr, ℕ, ◌+◌, ◌-◌, ◌*◌, ◌<◌, ◌≤◌, true, false, ◌&&◌, not, Some, List, length, max, min, get_or, set, arith, nat_le, nat_lt, get_or-set_other}
use Rattle.std.proofs.lemmas.Bool.{cases_lt, lt-ltb}
use Rattle.std.proofs.lemmas.List.{get_or_past}
use Rattle.cfs_file.specs.declared.span.Span.{Span}
use Rattle.cfs_file.specs.declared.span.Span.TheVariants.{Nothing, Range, From}
use Rattle.cfs_file.specs.Span.{meets, span}
use Rattle.cfs_file.specs.declared.sizes.TheConstants.{BLOCK_LEN, FILE_BLOCKS}
use Rattle.cfs_core.specs.declared.flag.Flag.{Flag}
use Rattle.cfs_core.specs.declared.flag.Flag.TheVariants.{Off}
use Rattle.cfs_core.specs.declared.doubt.Doubt.{Doubt}
use Rattle.cfs_core.specs.declared.inode_core.Core.{Core}
use Rattle.cfs_core.specs.Words.{blank, block_span, end_needed, first_needed, is_lent, is_live, is_off, is_on, payload_of}
use Rattle.cfs_core.specs.Medium.{file}
use Rattle.cfs_core.specs.May.{doubt_meets, has_live_in, is_mapped, may_tag, may_trim}
use Rattle.cfs_core.specs.After.{with_tag}
use Rattle.cfs_core.proofs.Legal.{both}
use Rattle.cfs_core.proofs.Order.{in_range, same_or_not}
use Rattle.cfs_core.proofs.Apart.{any_none, live_only, not_true}
use Rattle.cfs_core.proofs.Kept.{IsDoubtful, IsLive, IsLogged, at}
use Rattle.cfs_core.proofs.Registers.{IsFull, change-full, shaped-full, shaped-request}
use Rattle.cfs_core.proofs.Images.{all_in_range}
use Rattle.cfs_core.proofs.StoredFrames.{no_clash}
use Rattle.cfs_core.proofs.LoggedFrames.{logged_beside}

-- what is mapped stays so where each needed tag that is on stays on
pub mapped_still : (tags other : List Flag) (s : Span) →
    ((k : ℕ) → first_needed s ≤ k → k < first_needed s + (end_needed s - first_needed s) →
    is_on (get_or tags k Off) ≡ true → is_on (get_or other k Off) ≡ true) →
    is_mapped tags s ≡ true → is_mapped other s ≡ true
mapped_still tags other s stays mapped =
    all_in_range (λ k. is_on (get_or other k Off)) (first_needed s) (end_needed s - first_needed s)
    (λ k low high.
    stays k low high (in_range (λ j. is_on (get_or tags j Off)) (first_needed s)
    (end_needed s - first_needed s) k mapped low high))

-- a block that a span needs overlaps it
needed-meets : (s : Span) (block : ℕ) → IsFull s → first_needed s ≤ block →
    block < first_needed s + (end_needed s - first_needed s) →
    meets s (block_span block) ≡ true
needed-meets Nothing block full low high = absurd full
needed-meets (Range from to) block full low high =
    lt-ltb (max from (BLOCK_LEN * block)) (min to (BLOCK_LEN * block + BLOCK_LEN)) (omega arith)
needed-meets (From from) block full low high = absurd (omega arith)

-- ---- tag and trim

-- the tag of a block is put, where no span that counts needs the block or its tag was not on
tag_put : (core : Core) (block : ℕ) (flag : Flag) → IsLogged core →
    ((s : Span) → IsFull s →
    (meets s (block_span block) ≡ true → ⊥) ⊎ (is_on (get_or core.tags block Off) ≡ false) →
    is_mapped core.tags s ≡ true →
    is_mapped (set core.tags block flag) s ≡ true)
tag_put core block flag logged s full apart mapped =
    mapped_still core.tags (set core.tags block flag) s
    (λ k low high on. stays k low high on) mapped
  where
    stays : (k : ℕ) → first_needed s ≤ k → k < first_needed s + (end_needed s - first_needed s) →
        is_on (get_or core.tags k Off) ≡ true →
        is_on (get_or (set core.tags block flag) k Off) ≡ true
    stays k low high on = elim (same_or_not k block) [
      | inl same ↦ absurd (elim apart [
        | inl none ↦ none (needed-meets s block full (rw same at low) (rw same at high))
        | inr off ↦ no_clash (is_on (get_or core.tags block Off)) (rw same at on) off
      ])
      | inr other ↦ rw (get_or-set_other core.tags block k flag Off other) on
    ]

doubt-full : (core : Core) (d : Doubt) → IsDoubtful core d → IsFull d.span
doubt-full core d is =
    rw is.span_is (shaped-full (payload_of d.entry.request)
    (span d.entry.request (length (file core)))
    (shaped-request d.entry.request (length (file core)) is.change))

logged_tag_put : (core : Core) (block : ℕ) (flag : Flag) → IsLogged core →
    ((k : ℕ) → IsLive core k →
    (meets (at core k).span (block_span block) ≡ true → ⊥)
    ⊎ (is_on (get_or core.tags block Off) ≡ false)) →
    ((d : Doubt) → core.doubt ≡ Some d →
    (meets d.span (block_span block) ≡ true → ⊥) ⊎ (is_on (get_or core.tags block Off) ≡ false)) →
    IsLogged (with_tag core block flag)
logged_tag_put core block flag logged live doubt =
    logged_beside core core.doubt core.size core.sizes
    (set core.tags block flag) core.bytes core.loose core.crashed logged
    (λ k is. tag_put core block flag logged (at core k).span
    (change-full core logged k (logged.live_changes k is)) (live k is) (logged.mapped k is))
    (λ d is.
    let old = logged.doubtful d is in
    record {
      change = old.change;
      span_is = old.span_is;
      mapped = tag_put core block flag logged d.span (doubt-full core d old)
          (doubt d is) old.mapped;
      fits = old.fits;
    })

pub logged_tag : (core : Core) (block : ℕ) (flag : Flag) → IsLogged core →
    may_tag core block ≡ true → IsLogged (with_tag core block flag)
logged_tag core block flag logged h =
    let within = both (nat_lt block FILE_BLOCKS) _ h in
    let tags = both (nat_lt block (length core.tags)) _ within.1 in
    let off =
    not_true (is_on (get_or core.tags block Off))
    (both (not (is_on (get_or core.tags block Off))) _ tags.1).0 in
    logged_tag_put core block flag logged (λ k live. inr off) (λ d is. inr off)

pub logged_trim : (core : Core) (block : ℕ) (flag : Flag) → IsLogged core →
    may_trim core block ≡ true → IsLogged (with_tag core block flag)
logged_trim core block flag logged h =
    let marked = both (nat_lt block FILE_BLOCKS) _ h in
    let behind = both (not (is_off (get_or core.tags block Off))) _ marked.1 in
    let home = both (nat_le core.size (BLOCK_LEN * block)) _ behind.1 in
    let unmet_all = both (not (is_lent core.tracks block)) _ home.1 in
    let free =
    both (not (has_live_in core.tracks (block_span block)))
    (not (doubt_meets core.doubt (block_span block))) unmet_all.1 in
    logged_tag_put core block flag logged
    (λ k live.
    inl (λ met.
    no_clash (meets (at core k).span (block_span block)) met
    (unmet k live (not_true (has_live_in core.tracks (block_span block)) free.0))))
    (λ d is. inl (λ met.
    no_clash (meets d.span (block_span block)) met
    (rw is at (not_true (doubt_meets core.doubt (block_span block)) free.1))))
  where
    unmet : (k : ℕ) → IsLive core k → has_live_in core.tracks (block_span block) ≡ false →
        meets (at core k).span (block_span block) ≡ false
    unmet k live none = elim (cases_lt k (length core.tracks)) [
      | inl within ↦
          live_only (is_live (at core k).state) (meets (at core k).span (block_span block))
          (any_none (λ t. is_live t.state
          && meets t.span (block_span block)) core.tracks k none within) live
      | inr past ↦
          let empty : get_or core.tracks k blank ≡ blank = get_or_past core.tracks k blank past in
          let own : is_live blank.state ≡ true = rw empty at live in
          cc
    ]
