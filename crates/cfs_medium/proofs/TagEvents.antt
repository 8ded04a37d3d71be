-- A block of zeros is tagged for a file block.
use Rattle.std.proofs.Common.{◌≡◌, ◌≢◌, ◌⊎◌, inl, inr, ℕ, zero, suc, ◌+◌, ◌-◌, ◌*◌, ◌<◌, ◌≤◌, ◌==◌, ◌&&◌, not, Bool, true, false, Ok, Err, OnOk, OnErr, Some, List, [], ◌∷◌, length, get_or, take, drop, nat_lt, arith, refl, sym, ap, subst, ◌∙◌}
use Rattle.std.specs.List.{list_all}
use Rattle.std.proofs.lemmas.Bool.{cases_Bool, cases_lt}
use Rattle.std.proofs.lemmas.Bool.Decides.{nat_tests}
use Rattle.std.proofs.lemmas.List.{length-drop, length-take}
use Rattle.cfs_file.specs.declared.sizes.TheConstants.{BLOCK_LEN, FILE_BLOCKS}
use Rattle.cfs_core.specs.declared.event.Event.TheVariants as events
use Rattle.cfs_core.specs.declared.flag.Flag.{Flag}
use Rattle.cfs_core.specs.declared.flag.Flag.TheVariants.{Off, On, Unsure}
use Rattle.cfs_core.specs.declared.inode_core.Core.{Core}
use Rattle.cfs_core.specs.After.{after}
use Rattle.cfs_core.specs.May.{is_in_phase, is_written, is_zero_block, may_tag}
use Rattle.cfs_core.specs.Medium.{is_loose}
use Rattle.cfs_core.specs.Words.{can_be, is_on}
use Rattle.cfs_core.proofs.Legal.{both, same_number}
use Rattle.cfs_pmem.specs.Images.{Seen}
use Rattle.cfs_block.specs.BlockImages as blocks
use Rattle.cfs_block.specs.BlockImages.{BlockStep, Content, IsBlockImage, IsTaggedFrom, content_of}
use Rattle.cfs_block.specs.BlockOps.{SetsTag}
use Rattle.cfs_block.proofs.BlockLemmas.{now_is_image}
use Rattle.cfs_medium.specs.BlockCalls.{tagging}
use Rattle.cfs_medium.specs.BlockEvents.{IsBlank, TagsShow}
use Rattle.cfs_medium.specs.Shows.{BlockFits, ReadsAs, Recovers, Shows, is_for}
use Rattle.cfs_medium.specs.SlotEvents.{Answer}
use Rattle.cfs_medium.specs.Store.{tag_of}
use Rattle.cfs_medium.specs.WorldCalls.{WorldMoments, with_block}
use Rattle.cfs_medium.proofs.BlockEvents.{any_can, flag-fits, tag-differs, tag-here, tag-shape}
use Rattle.cfs_medium.proofs.BlockSteps.{block_shows, blocks-change}

-- ---- zeros of the core

zeros_at : (bytes : List ℕ) (n k : ℕ) → list_all (λ b. b == 0) (take n bytes) ≡ true → k < n →
    get_or bytes k 0 ≡ 0
zeros_at [] n k all l = refl
zeros_at (b ∷ bs) zero k all l = absurd (omega (arith, l))
zeros_at (b ∷ bs) (suc n) zero all l = same_number b 0 (both (b == 0) _ all).0
zeros_at (b ∷ bs) (suc n) (suc k) all l = zeros_at bs n k (both (b == 0) _ all).1 (omega (arith, l))

dropped_at : (bytes : List ℕ) (from k : ℕ) → get_or (drop from bytes) k 0 ≡ get_or bytes (from + k) 0
dropped_at bytes zero k = let at : k ≡ 0 + k = omega arith in ap (λ (i : ℕ). get_or bytes i 0) at
dropped_at [] (suc from) k = refl
dropped_at (b ∷ bs) (suc from) k =
    let at : suc (from + k) ≡ suc from + k = omega arith in
    dropped_at bs from k ∙ ap (λ (i : ℕ). get_or (b ∷ bs) i 0) at

-- ---- an image that may be tagged

-- with any flag that allows its tag an image of zeros fits
blank-fits : (ino block : ℕ) (core : Core) (flag : Flag) (content : Content) →
    ((k : ℕ) → k < BLOCK_LEN → get_or core.bytes (BLOCK_LEN * block + k) 0 ≡ 0) →
    can_be flag (is_for ino block content) ≡ true → IsBlank (tag_of ino block) content →
    BlockFits ino block flag core.loose core.bytes content
blank-fits ino block core flag content zeros can blank =
    flag-fits ino block flag core.loose core.bytes content can
    (λ other. elim blank.tag_is [
      | inl free ↦ free
      | inr tagged ↦ absurd (let set : is_for ino block content ≡ true = rw tagged (same (tag_of ino block)) in cc)
    ])
    (λ set k inside firm. blank.zeros k inside ∙ sym (zeros k inside))
  where
    same : (n : ℕ) → (n == n) ≡ true
    same n = grind (arith, nat_tests)

pub tags-show : TagsShow
tags-show ino n block core world seen new obeys keeps result asked_old asked_new good shows allowed room here full blank sets = record {
  moments = all.0;
  ok = ended result sets;
  err = failed result;
}
  where
    tag : ℕ
    tag = tag_of ino block

    tried : Core
    tried = after core (events.Tag block false)

    tags : may_tag core block ≡ true
    tags = (both (is_in_phase core.crashed (events.Tag block true)) (may_tag core block) allowed).1

    rest : (nat_lt block (length core.tags) && (not (is_on (get_or core.tags block Off)) && is_zero_block core block)) ≡ true
    rest = (both (nat_lt block FILE_BLOCKS) _ tags).1

    within : block < length core.tags
    within = let test : nat_lt block (length core.tags) ≡ true = (both (nat_lt block (length core.tags)) _ rest).0 in
        grind (arith, nat_tests)

    zeros : (k : ℕ) → k < BLOCK_LEN → get_or core.bytes (BLOCK_LEN * block + k) 0 ≡ 0
    zeros k inside =
        let zero_block = (both (not (is_on (get_or core.tags block Off))) (is_zero_block core block) (both (nat_lt block (length core.tags)) _ rest).1).1 in
        let all = (both (not (is_written core.loose block)) (list_all (λ b. b == 0) (take BLOCK_LEN (drop (BLOCK_LEN * block) core.bytes))) zero_block).1 in
        sym (dropped_at core.bytes (BLOCK_LEN * block) k) ∙ zeros_at (drop (BLOCK_LEN * block) core.bytes) BLOCK_LEN k all inside

    flag : get_or tried.tags block Off ≡ Unsure
    flag = tag-here core block Unsure within

    tagged_blank : (content : Content) → IsBlank tag content → IsBlank tag (blocks.with_tag tag content)
    tagged_blank content b = record { tag_is = inr refl; zeros = b.zeros }

    maybe_blank : (content : Content) → IsTaggedFrom seen tag content → IsBlank tag content
    maybe_blank content may_be = elim may_be.same [
      | inl same ↦ subst (λ c. IsBlank tag c) (sym same) (blank may_be.first may_be.possible)
      | inr set ↦ subst (λ c. IsBlank tag c) (sym set) (tagged_blank may_be.first (blank may_be.first may_be.possible))
    ]

    fits : (content : Content) → IsTaggedFrom seen tag content →
        BlockFits ino block (get_or tried.tags block Off) tried.loose tried.bytes content
    fits content may_be =
        rw flag (blank-fits ino block core Unsure content zeros (any_can (is_for ino block content)) (maybe_blank content may_be))

    now_blank : IsBlank tag (content_of seen)
    now_blank = blank (content_of seen) (now_is_image seen.history full)

    -- what is read now are zeros, whatever becomes of the tag
    new_bytes : (result : Answer) → SetsTag obeys keeps tag result asked_old seen asked_new new → (content_of new).bytes ≡ (content_of seen).bytes
    new_bytes (Ok value) sets = ap (λ (s : Seen BlockStep). (content_of s).bytes) sets.ok
    new_bytes (Err e) sets = elim sets.err [
      | inl half ↦ elim half.half [
        | inl same ↦ ap (λ (s : Seen BlockStep). (content_of s).bytes) same
        | inr set ↦ ap (λ (s : Seen BlockStep). (content_of s).bytes) set
      ]
      | inr stalled ↦ ap (λ (s : Seen BlockStep). (content_of s).bytes) stalled
    ]

    reads : ReadsAs ino block core.bytes (Some new)
    reads set k inside = ap (λ (bs : List ℕ). get_or bs k 0) (new_bytes result sets) ∙ now_blank.zeros k inside ∙ sym (zeros k inside)

    all : WorldMoments (Recovers ino n tried) asked_old world asked_new (with_block block (Some new) world)
        × Shows ino tried (with_block block (Some new) world)
    all = blocks-change ino n block (tagging tag) core tried world seen new asked_old asked_new shows here
        (tag-differs core block Unsure) good (tag-shape core block Unsure shows.shape) room fits reads sets.moments

    failed : (result : Answer) → OnErr result (Shows ino tried (with_block block (Some new) world))
    failed (Ok value) = tt
    failed (Err e) = all.1

    ended : (result : Answer) → SetsTag obeys keeps tag result asked_old seen asked_new new →
        OnOk result (Shows ino (after core (events.Tag block true)) (with_block block (Some new) world))
    ended (Err e) sets = tt
    ended (Ok value) sets =
        let tag_is : (content_of new).tag ≡ tag = ap (λ (s : Seen BlockStep). (content_of s).tag) sets.ok in
        let bytes_are : (content_of new).bytes ≡ (content_of seen).bytes = ap (λ (s : Seen BlockStep). (content_of s).bytes) sets.ok in
        block_shows ino block core (after core (events.Tag block true)) world (Some new) shows
        (tag-differs core block On) (tag-shape core block On shows.shape)
        (rw (tag-here core block On within) (record {
          images = λ content image.
              let same = sets.sure content image in
              let at : content.tag ≡ tag = ap (λ (c : Content). c.tag) same ∙ tag_is in
              blank-fits ino block core On content zeros (rw at (equal tag))
              (record {
                tag_is = inr at;
                zeros = λ k inside. ap (λ (c : Content). get_or c.bytes k 0) same ∙ ap (λ (bs : List ℕ). get_or bs k 0) bytes_are ∙ now_blank.zeros k inside;
              });
          reads = reads;
        }))
      where
        equal : (n : ℕ) → (n == n) ≡ true
        equal n = grind (arith, nat_tests)
