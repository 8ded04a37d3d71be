-- Events of a core as calls on one block.
use Rattle.std.proofs.Common.{◌≡◌, ◌≢◌, inl, inr, ℕ, ◌+◌, ◌*◌, ◌<◌, Bool, true, false, Ok, Err, OnOk, OnErr, Some, List, length, get_or, nat_lt, arith, refl, sym, ap, subst, ◌∙◌}
use Rattle.std.proofs.Math.ListN.{set}
use Rattle.std.proofs.lemmas.Bool.Decides.{nat_tests}
use Rattle.std.proofs.lemmas.List.{get_or-set_same, get_or-set_other, length-set}
use Rattle.cfs_file.specs.declared.sizes.TheConstants.{BLOCK_LEN, FILE_BLOCKS}
use Rattle.cfs_core.specs.declared.event.Event.TheVariants as events
use Rattle.cfs_core.specs.declared.flag.Flag.{Flag}
use Rattle.cfs_core.specs.declared.flag.Flag.TheVariants.{Off, Unsure}
use Rattle.cfs_core.specs.declared.inode_core.Core.{Core}
use Rattle.cfs_core.specs.declared.stretch.Stretch.{Stretch}
use Rattle.cfs_core.specs.After.{after, with_tag}
use Rattle.cfs_core.specs.May.{is_in_phase, may_trim}
use Rattle.cfs_core.specs.Medium.{is_loose}
use Rattle.cfs_core.specs.Words.{can_be}
use Rattle.cfs_core.proofs.Legal.{both}
use Rattle.cfs_pmem.specs.Images.{Seen}
use Rattle.cfs_block.specs.BlockImages as blocks
use Rattle.cfs_block.specs.BlockImages.{BlockStep, Content, IsBlockImage, IsTaggedFrom, content_of}
use Rattle.cfs_block.specs.BlockOps.{SetsTag}
use Rattle.cfs_medium.specs.BlockCalls.{DiffersIn, MayBe, tagging}
use Rattle.cfs_medium.specs.BlockEvents.{TrimsShow}
use Rattle.cfs_medium.specs.Shows.{BlockFits, BlockShown, HasShape, ReadsAs, Recovers, Shows, is_for}
use Rattle.cfs_medium.specs.SlotEvents.{Answer}
use Rattle.cfs_medium.specs.Store.{tag_of}
use Rattle.cfs_medium.specs.WorldCalls.{WorldMoments, with_block}
use Rattle.cfs_medium.proofs.BlockSteps.{block_shows, blocks-change}
use Rattle.cfs_medium.proofs.SlotEvents.{holding-same}

-- ---- cores with another tag

pub tag-differs : (core : Core) (block : ℕ) (flag : Flag) → DiffersIn block core (with_tag core block flag)
tag-differs core block flag = record {
  size = refl;
  sizes = refl;
  held = λ place. holding-same core (with_tag core block flag) core.doubt place refl;
  tags = λ at other. get_or-set_other core.tags block at flag Off other;
  loose = λ position other. refl;
  bytes = λ position other. refl;
}

pub tag-shape : (core : Core) (block : ℕ) (flag : Flag) → HasShape core →
    HasShape (with_tag core block flag)
tag-shape core block flag shape = record {
  tags = length-set core.tags block flag ∙ shape.tags;
  tracks = shape.tracks;
  doubt = λ d is.
      let fits = shape.doubt d is in
      record { from = fits.from; to = fits.to; apart = fits.apart };
  loose = shape.loose;
}

pub tag-here : (core : Core) (block : ℕ) (flag : Flag) → block < length core.tags →
    get_or (with_tag core block flag).tags block Off ≡ flag
tag-here core block flag within = get_or-set_same core.tags block flag Off within

-- ---- blocks by their tags

pub free-for : (ino block : ℕ) (content : Content) → content.tag ≡ 0 → is_for ino block content ≡ false
free-for ino block content free =
    let other : content.tag ≢ tag_of ino block = λ same. omega (arith, same, free) in
    grind (arith, nat_tests)

-- what fits with one flag fits with another that allows its tag
pub flag-fits : (ino block : ℕ) (flag : Flag) (loose : List Stretch) (bytes : List ℕ) (content : Content) →
    can_be flag (is_for ino block content) ≡ true →
    (is_for ino block content ≡ false → content.tag ≡ 0) →
    (is_for ino block content ≡ true → (k : ℕ) → k < BLOCK_LEN →
    is_loose loose (BLOCK_LEN * block + k) ≡ false →
    get_or content.bytes k 0 ≡ get_or bytes (BLOCK_LEN * block + k) 0) →
    BlockFits ino block flag loose bytes content
flag-fits ino block flag loose bytes content can free same =
    record { tag_is = can; free = free; bytes_are = same }

pub free-fits : (ino block : ℕ) (flag : Flag) (loose : List Stretch) (bytes : List ℕ) (content : Content) →
    content.tag ≡ 0 → can_be flag false ≡ true → BlockFits ino block flag loose bytes content
free-fits ino block flag loose bytes content free can =
    let other : is_for ino block content ≡ false = free-for ino block content free in
    flag-fits ino block flag loose bytes content (rw other can) (λ is. free) (λ set k below firm. cc)

-- ---- trims

pub any_can : (bit : Bool) → can_be Unsure bit ≡ true
any_can bit = refl

pub trims-show : TrimsShow
trims-show ino n block core world seen new obeys keeps result asked_old asked_new good shows allowed
    room here sets = record {
      moments = all.0;
      ok = ended result sets;
      err = failed result;
    }
  where
    tried : Core
    tried = after core (events.Trim block false)

    trims : may_trim core block ≡ true
    trims = (both (is_in_phase core.crashed (events.Trim block true)) (may_trim core block) allowed).1

    below : block < FILE_BLOCKS
    below = let test : nat_lt block FILE_BLOCKS ≡ true = (both (nat_lt block FILE_BLOCKS) _ trims).0 in
        grind (arith, nat_tests)

    within : block < length core.tags
    within = omega (arith, below, shows.shape.tags)

    old : BlockShown ino block (get_or core.tags block Off) core.loose core.bytes (Some seen)
    old = subst (λ o. BlockShown ino block (get_or core.tags block Off) core.loose core.bytes o) here
        (shows.blocks block below)

    flag : get_or tried.tags block Off ≡ Unsure
    flag = tag-here core block Unsure within

    fits : (content : Content) → MayBe (tagging 0) seen content →
        BlockFits ino block (get_or tried.tags block Off) tried.loose tried.bytes content
    fits content may_be = elim may_be.same [
      | inl same ↦
          let first = old.images may_be.first may_be.possible in
          rw (flag, same) (flag-fits ino block Unsure core.loose core.bytes may_be.first
          (any_can (is_for ino block may_be.first)) first.free first.bytes_are)
      | inr cleared ↦
          rw (flag, cleared) (free-fits ino block Unsure core.loose core.bytes
          (blocks.with_tag 0 may_be.first) refl refl)
    ]

    reads_free : (content : Content) → content.tag ≡ 0 → is_for ino block content ≡ true → ⊥
    reads_free content free is =
        let other : is_for ino block content ≡ false = free-for ino block content free in
        cc

    reads : ReadsAs ino block tried.bytes (Some new)
    reads set k inside = now_read result sets set
      where
        now_read : (result : Answer) → SetsTag obeys keeps 0 result asked_old seen asked_new new →
            is_for ino block (content_of new) ≡ true →
            get_or (content_of new).bytes k 0 ≡ get_or core.bytes (BLOCK_LEN * block + k) 0
        now_read (Ok value) sets set =
            absurd (reads_free (content_of new) (ap (λ (s : Seen BlockStep). (content_of s).tag) sets.ok) set)
        now_read (Err e) sets set = elim sets.err [
          | inl half ↦ elim half.half [
            | inl same ↦
                let content : content_of new ≡ content_of seen =
                ap (λ (s : Seen BlockStep). content_of s) same in
                ap (λ (c : Content). get_or c.bytes k 0) content
                ∙ old.reads (sym (ap (λ (c : Content). is_for ino block c) content) ∙ set) k inside
            | inr tagged ↦
                absurd (reads_free (content_of new)
                (ap (λ (s : Seen BlockStep). (content_of s).tag) tagged) set)
          ]
          | inr stalled ↦
              absurd (reads_free (content_of new)
              (ap (λ (s : Seen BlockStep). (content_of s).tag) stalled) set)
        ]

    all : WorldMoments (Recovers ino n tried) asked_old world asked_new
        (with_block block (Some new) world)
        × Shows ino tried (with_block block (Some new) world)
    all = blocks-change ino n block (tagging 0) core tried world seen new asked_old asked_new shows here
        (tag-differs core block Unsure) good (tag-shape core block Unsure shows.shape) room fits reads
        sets.moments

    failed : (result : Answer) → OnErr result (Shows ino tried (with_block block (Some new) world))
    failed (Ok value) = tt
    failed (Err e) = all.1

    ended : (result : Answer) → SetsTag obeys keeps 0 result asked_old seen asked_new new →
        OnOk result (Shows ino (after core (events.Trim block true)) (with_block block (Some new) world))
    ended (Err e) sets = tt
    ended (Ok value) sets =
        let free : (content_of new).tag ≡ 0 =
        ap (λ (s : Seen BlockStep). (content_of s).tag) sets.ok in
        block_shows ino block core (after core (events.Trim block true)) world (Some new) shows
        (tag-differs core block Off) (tag-shape core block Off shows.shape)
        (rw (tag-here core block Off within) (record {
          images = λ content image.
              free-fits ino block Off core.loose core.bytes content
              (ap (λ (c : Content). c.tag) (sets.sure content image) ∙ free) refl;
          reads = λ set k inside. absurd (reads_free (content_of new) free set);
        }))
