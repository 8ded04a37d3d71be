-- A block is given up: that keeps a world shown by its devices.
use Rattle.std.proofs.Common.{◌≡◌, ◌≢◌, ◌⊎◌, ℕ, ◌+◌, ◌<◌, Bool, true, false, Option, Some}
use Rattle.std.proofs.Common.{None, List, [], ◌∷◌, length, get_or, set, inl, inr, refl, sym, ap}
use Rattle.std.proofs.Common.{◌∙◌}
use Rattle.std.proofs.Common.{subst, if◌then◌else◌, arith, is_some, zero, suc, map}
use Rattle.std.specs.Prelude.{Ok, Err, ◌==◌, find, unwrap_or, nat_lt, replicate}
use Rattle.std.specs.List.{range_with_len}
use Rattle.std.specs.Option.{option_map}
use Rattle.std.proofs.Math.Path.{fun_ext}
use Rattle.std.proofs.lemmas.Bool.{and_parts, eqb-false, eqb-true, ltb-true}
use Rattle.std.proofs.lemmas.List.{get_or-set_same, set-set}
use Rattle.cfs_file.specs.declared.sizes.TheConstants.{FILE_BLOCKS}
use Rattle.cfs_core.specs.declared.event.Event.TheVariants as events
use Rattle.cfs_core.specs.declared.flag.Flag.TheVariants.{Off}
use Rattle.cfs_core.specs.declared.inode_core.Core.{Core}
use Rattle.cfs_core.specs.After.{after}
use Rattle.cfs_core.specs.Good.{IsGood}
use Rattle.cfs_core.specs.May.{may, may_trim}
use Rattle.cfs_core.specs.Words.{can_be, is_off}
use Rattle.cfs_core.proofs.Goods.{good-kept}
use Rattle.cfs_core_laws.specs.Reached.{IsReached}
use Rattle.cfs_core_laws.specs.Reached as reaching
use Rattle.cfs_core_laws.proofs.Finds.{find-passes}
use Rattle.cfs_core_laws.proofs.Whole.{whole}
use Rattle.cfs_pmem.specs.declared.trace.Asked.{Asked}
use Rattle.cfs_pmem.specs.declared.trace.Asked.TheVariants.{Step}
use Rattle.cfs_pmem.specs.Images.{Seen}
use Rattle.cfs_pmem.proofs.AskLemmas.{asks_one}
use Rattle.cfs_block.specs.BlockImages.{BlockStep, kept, retagged, unflushed, unretagged}
use Rattle.cfs_block.specs.BlockOps.{SetsTag, flush, put_tag}
use Rattle.cfs_block.proofs.CallsOnBlocks.{tag_fails, tag_stands, tag_unflushed}
use Rattle.cfs_medium.specs.Shows.{Shows, is_for}
use Rattle.cfs_medium.specs.World as media
use Rattle.cfs_medium.specs.WorldCalls.{IsBare, with_block}
use Rattle.cfs_medium.proofs.BlockEvents.{trims-show}
use Rattle.cfs_medium.proofs.SizeSteps.{blocks-come}
use Rattle.cfs_meaning.specs.Drive.{Attempt, Block, Drive, attempt, block_at, is_allowed, made}
use Rattle.cfs_meaning.specs.Drive.{noted, refused}
use Rattle.cfs_meaning.specs.Steps.{tag_kept}
use Rattle.cfs_meaning.specs.World.{File, World, block_of, core_in, file_in, find_file, replaces}
use Rattle.cfs_meaning.specs.World.{new_file, with_core}
use Rattle.cfs_meaning.specs.Devices.{IsEquipped, IsEvenBlock, IsFileShown, IsPlaced, IsShown}
use Rattle.cfs_meaning.specs.Devices.{devices_of_file}
use Rattle.cfs_meaning.specs.Inode.{give_block, trim, trim_at, without_block}
use Rattle.cfs_meaning.specs.Ways.{unless_fault}
use Rattle.cfs_meaning.proofs.Hoare.{Leaves, leave-changes, leave-end, leave-event, leave-give}
use Rattle.cfs_meaning.proofs.Hoare.{leave-look, leave-then, leave-tries, leave-weaker}
use Rattle.cfs_meaning.proofs.ShownBlocks.{block-shown, with_seen}
use Rattle.cfs_meaning.proofs.ShownFiles.{IsWithin, file-shown, found-in}
use Rattle.cfs_meaning.proofs.ShownGates.{answer_of, equipped-of, find-gone, find-kept, found-by}
use Rattle.cfs_meaning.proofs.ShownGates.{off-shut, reached-of, shows-of}
use Rattle.cfs_meaning.proofs.ShownJobs.{AtWork}
use Rattle.cfs_meaning.proofs.ShownNeeds.{less-after, trimmed-tag}
use Rattle.cfs_meaning.proofs.ShownParts.{same-shown}
use Rattle.cfs_meaning.proofs.Total.{with_attempt}
use Rattle.cfs_meaning.proofs.TotalTrims.{core-given}

-- ---- a tag that is set and flushed

-- the block behind it, where both went well or one was refused
abbrev pub EndsTag : Bool → ℕ → Seen BlockStep → Seen BlockStep → Type 0
EndsTag true tag old new = new ≡ kept (retagged tag old)
EndsTag false tag old new = (new ≡ unretagged tag old) ⊎ (new ≡ unflushed (retagged tag old))

abbrev pub IsTagAt : ℕ → ℕ → Drive → Attempt → Type 0
IsTagAt b tag drive it =
    (asked : List Asked) × (new : Seen BlockStep) × (it.drive ≡ with_seen b new asked drive)
    × EndsTag it.whole tag (block_at drive b) new

pub tag-at : (b tag : ℕ) (drive : Drive) → b < length drive.blocks →
    IsTagAt b tag drive (attempt (tag_kept b tag) drive)
unfolding attempt
tag-at b tag drive low = by-first (is_allowed (Block b (put_tag tag)) drive)
  where
    old : Seen BlockStep
    old = block_at drive b

    first : Drive
    first = made (Block b (put_tag tag)) (noted (Block b (put_tag tag)) true drive)

    again : (new : Seen BlockStep → Seen BlockStep) →
        set (set drive.blocks b (retagged tag old)) b (new (block_at first b))
        ≡ set drive.blocks b (new (retagged tag old))
    again new =
        ap (λ (s : Seen BlockStep). set (set drive.blocks b (retagged tag old)) b (new s))
        (get_or-set_same drive.blocks b (retagged tag old) _ low)
        ∙ set-set drive.blocks b (retagged tag old) (new (retagged tag old))

    by-second : (allowed : Bool) → IsTagAt b tag drive
        (if allowed then record {
          whole = true;
          drive = made (Block b flush) (noted (Block b flush) true first);
        }
        else record {
          whole = false;
          drive = refused (Block b flush) (noted (Block b flush) false first);
        })
    by-second true = (
      (noted (Block b flush) true first).asked,
      kept (retagged tag old),
      ap (λ (blocks : List (Seen BlockStep)). record drive {
        asked = (noted (Block b flush) true first).asked;
        blocks = blocks;
      }) (again (λ s. kept s)),
      refl,
    )
    by-second false = (
      (noted (Block b flush) false first).asked,
      unflushed (retagged tag old),
      ap (λ (blocks : List (Seen BlockStep)). record drive {
        asked = (noted (Block b flush) false first).asked;
        blocks = blocks;
      }) (again (λ s. unflushed s)),
      inr refl,
    )

    by-first : (allowed : Bool) → IsTagAt b tag drive
        (if allowed then (if is_allowed (Block b flush) first then record {
          whole = true;
          drive = made (Block b flush) (noted (Block b flush) true first);
        }
        else record {
          whole = false;
          drive = refused (Block b flush) (noted (Block b flush) false first);
        })
        else record {
          whole = false;
          drive = refused (Block b (put_tag tag)) (noted (Block b (put_tag tag)) false drive);
        })
    by-first true = by-second (is_allowed (Block b flush) first)
    by-first false =
        ((noted (Block b (put_tag tag)) false drive).asked, unretagged tag old, refl, inl refl)

-- the same as a call says it
abbrev pub Tags : Bool → ℕ → Seen BlockStep → Seen BlockStep → Type 0
Tags ok tag old new =
    (asked : List Asked) × SetsTag true true tag (answer_of ok) [] old asked new

pub tags : (ok : Bool) (tag : ℕ) (old new : Seen BlockStep) → IsEvenBlock old →
    EndsTag ok tag old new → Tags ok tag old new
tags true tag old new full is = (
  Step old.device true true ∷ Step old.device true true ∷ [],
  tag_stands {T = Unit {0}} {E = Unit {0}} {asked_mid = Step old.device true true ∷ []}
      {mid = retagged tag old} tt full.1 full.1 refl (asks_one refl) (λ o. refl) is
      (asks_one refl) (λ o. refl),
)
tags false tag old new full (inl is) = (
  Step old.device true false ∷ [],
  tag_fails {T = Unit {0}} {E = Unit {0}} tt refl full.1
      (record { half = inl is; kept = λ o. is }) (asks_one refl) (λ o. refl),
)
tags false tag old new full (inr is) = (
  Step old.device true false ∷ Step old.device true true ∷ [],
  tag_unflushed {T = Unit {0}} {E = Unit {0}} {asked_mid = Step old.device true true ∷ []}
      {mid = retagged tag old} tt refl full.1 full.1 refl (asks_one refl) (λ o. refl) is
      (asks_one refl) (λ o. refl),
)

pub tagged-full : (ok : Bool) (tag : ℕ) (old new : Seen BlockStep) → EndsTag ok tag old new →
    IsEvenBlock old → IsEvenBlock new
tagged-full true tag old new is full = subst IsEvenBlock (sym is) (full.1, full.1)
tagged-full false tag old new (inl is) full = subst IsEvenBlock (sym is) full
tagged-full false tag old new (inr is) full = subst IsEvenBlock (sym is) full

-- ---- a block that is given up

-- no image of the block is tagged, and the core knows it
pub record IsFreeing (world : World) (ino k : ℕ) : Type 0 where
  pub shown : IsShown world
  pub good : IsGood (core_in world ino)
  pub low : k < FILE_BLOCKS
  pub off : get_or (core_in world ino).tags k Off ≡ Off

block-kept : (f : File) (k j : ℕ) → j ≢ k → block_of (without_block k f) j ≡ block_of f j
block-kept f k j apart =
    ap (option_map (λ (x : ℕ × ℕ). x.1)) (find-kept (λ (x : ℕ × ℕ). x.0) k j apart f.blocks)

block-gone : (f : File) (k : ℕ) → block_of (without_block k f) k ≡ None
block-gone f k =
    ap (option_map (λ (x : ℕ × ℕ). x.1)) (find-gone (λ (x : ℕ × ℕ). x.0) k f.blocks)

without-devices : (drive : Drive) (f : File) (k : ℕ) →
    devices_of_file drive (without_block k f) ≡ with_block k None (devices_of_file drive f)
without-devices drive f k =
    ap (λ (g : ℕ → Option (Seen BlockStep)). record (devices_of_file drive f) { blocks = g })
    (fun_ext (λ j. by-test j (j == k) refl))
  where
    by-test : (j : ℕ) (t : Bool) → (j == k) ≡ t →
        option_map (block_at drive) (block_of (without_block k f) j)
        ≡ (if t then None else option_map (block_at drive) (block_of f j))
    by-test j true is =
        ap (λ n. option_map (block_at drive) (block_of (without_block k f) n)) (eqb-true j k is)
        ∙ ap (option_map (block_at drive)) (block-gone f k)
    by-test j false is =
        ap (option_map (block_at drive)) (block-kept f k j (eqb-false j k is))

bare-off : (i k : ℕ) (core : Core) (world : media.World) → Shows i core world → k < FILE_BLOCKS →
    get_or core.tags k Off ≡ Off → IsBare (world.blocks k)
bare-off i k core world shows low off content image =
    let fits = (shows.blocks k low).images content image in
    fits.free (off-shut (get_or core.tags k Off) (is_for i k content) off fits.tag_is)

none-bare : IsBare None
none-bare content is = ap (λ c. c.tag) is

pub give-shown : (world : World) (ino k b : ℕ) → IsFreeing world ino k →
    IsShown (give_block ino k b world)
give-shown world ino k b freeing =
    same-shown changed (give_block ino k b world) refl refl refl
    (file-shown world ino (without_block k old) within shows equips freeing.shown)
  where
    old : File
    old = file_in world ino

    changed : World
    changed = record world {
      files = map (replaces (without_block k old)) world.files;
    }

    block-within : (j : ℕ) (t : Bool) → (j == k) ≡ t →
        (block_of (without_block k old) j ≡ block_of old j)
        ⊎ (block_of (without_block k old) j ≡ None)
    block-within j true is =
        inr (ap (block_of (without_block k old)) (eqb-true j k is) ∙ block-gone old k)
    block-within j false is = inl (block-kept old k j (eqb-false j k is))

    within : IsWithin (without_block k old) old
    within = record {
      ino = refl;
      rec = refl;
      held = λ gate. inl refl;
      blocks = λ j. block-within j (j == k) refl;
    }

    shows : IsFileShown world.drive old → IsFileShown world.drive (without_block k old)
    shows before up =
        let here = before up in
        subst (Shows old.ino old.core) (sym (without-devices world.drive old k))
        (blocks-come old.ino (length old.core.log + 2) k old.core
        (devices_of_file world.drive old) None [] here
        (bare-off old.ino k old.core (devices_of_file world.drive old) here freeing.low
        freeing.off) none-bare (λ seen is. absurd (cc)) freeing.good (omega arith)
        (ap (λ flag. can_be flag false) freeing.off)).1

    equips : (old.ended ≡ false → IsEquipped old) → old.ended ≡ false →
        IsEquipped (without_block k old)
    equips before ended =
        let has = before ended in
        record {
          up = has.up;
          slots = has.slots;
          doubt = has.doubt;
          blocks = λ j tagged.
              ap is_some (block-kept old k j (λ same.
              let wrong : true ≡ false =
              sym (ap is_off (ap (λ n. get_or old.core.tags n Off) same ∙ freeing.off)) ∙ tagged
              in absurd (cc)))
              ∙ has.blocks j tagged;
        }

-- ---- a block is untagged

-- what is known of a block that may be given up
record IsSpare (x : World) (ino k : ℕ) : Type 0 where
  pub file : File
  pub found : find_file x ino ≡ Some file
  pub low : k < FILE_BLOCKS
  pub b : ℕ
  pub here : block_of (file_in x ino) k ≡ Some b
  pub within : b < length x.drive.blocks
  pub full : IsEvenBlock (block_at x.drive b)

pub record AtTrim (ino k : ℕ) (world : World) : Type 0 where
  pub work : AtWork ino world
  pub may_be : may_trim (core_in world ino) k ≡ true

none-tagged : (k : ℕ) → is_off (get_or (replicate FILE_BLOCKS Off) k Off) ≡ true
none-tagged k = all-off FILE_BLOCKS k
  where
    all-off : (n j : ℕ) → is_off (get_or (replicate n Off) j Off) ≡ true
    all-off zero j = refl
    all-off (suc n) zero = refl
    all-off (suc n) (suc j) = all-off n j

some-of : (o : Option ℕ) → is_some o ≡ true → (b : ℕ) × (o ≡ Some b)
some-of None is = absurd (cc)
some-of (Some b) is = (b, refl)

spare-known : (x : World) (ino k : ℕ) → AtTrim ino k x → IsSpare x ino k
spare-known x ino k at =
    let core : Core = core_in x ino in
    let tagged = trimmed-tag core k at.may_be in
    let found = found-by x ino (λ c. is_off (get_or c.tags k Off) ≡ false) tagged (λ is.
    let wrong : true ≡ false = sym (none-tagged k) ∙ is in absurd (cc)) in
    let equipped = equipped-of x ino found.0 found.1 at.work in
    let here = some-of (block_of (file_in x ino) k) (equipped.blocks k tagged) in
    let placed = subst (IsPlaced x.drive) (sym (ap (λ o. unwrap_or o (new_file 0 0)) found.1))
    (found-in (IsPlaced x.drive) x ino found.0 found.1 at.work.shown.placed) in
    record {
      file = found.0;
      found = found.1;
      low = ltb-true k FILE_BLOCKS (and_parts (nat_lt k FILE_BLOCKS) _ at.may_be).0;
      b = here.0;
      here = here.1;
      within = placed.blocks k here.0 here.1;
      full = at.work.shown.even.blocks here.0 _ (placed.blocks k here.0 here.1);
    }

abbrev number_of : World → ℕ → ℕ → ℕ
number_of x ino k = unwrap_or (block_of (file_in x ino) k) 0

-- the world behind the steps that set the tag
abbrev IsUntagging : World → ℕ → ℕ → Bool → World → Type 0
IsUntagging x ino k ok w =
    (spare : IsSpare x ino k) × (asked : List Asked) × (new : Seen BlockStep)
    × (w ≡ record x { drive = with_seen spare.b new asked x.drive })
    × EndsTag ok 0 (block_at x.drive spare.b) new

untagging : (w : World) (ino k : ℕ) (spare : IsSpare w ino k) (number : ℕ) → number ≡ spare.b →
    IsUntagging w ino k (attempt (tag_kept number 0) w.drive).whole
    (with_attempt (tag_kept number 0) w)
untagging w ino k spare number is =
    subst (λ n. IsUntagging w ino k (attempt (tag_kept n 0) w.drive).whole
    (with_attempt (tag_kept n 0) w)) (sym is)
    (let one = tag-at spare.b 0 w.drive spare.within in
    (spare, one.0, one.1, ap (λ d. record w { drive = d }) one.2, one.3))

-- The event comes.
untagged-shown : (x w : World) (ino k : ℕ) (ok : Bool) → AtTrim ino k x →
    IsUntagging x ino k ok w → may (core_in x ino) (events.Trim k ok) ≡ true →
    IsShown (with_core ino (after (core_in x ino) (events.Trim k ok)) w)
untagged-shown x w ino k ok at untagging allowed =
    subst (λ v. IsShown (with_core ino (after core (events.Trim k ok)) v)) (sym untagging.3)
    (block-shown x ino k spare.b untagging.2 (after core (events.Trim k ok)) untagging.1 spare.file
    spare.found spare.here (tagged-full ok 0 seen untagging.2 untagging.4 spare.full)
    (λ up. shows ok (tags ok 0 seen untagging.2 spare.full untagging.4))
    (less-after core (events.Trim k ok) refl allowed) at.work.shown)
  where
    core : Core
    core = core_in x ino

    spare : IsSpare x ino k
    spare = untagging.0

    seen : Seen BlockStep
    seen = block_at x.drive spare.b

    shows : (kept : Bool) → Tags kept 0 seen untagging.2 →
        Shows (file_in x ino).ino (after core (events.Trim k kept))
        (with_block k (Some untagging.2) (devices_of_file x.drive (file_in x ino)))
    shows true set =
        (trims-show (file_in x ino).ino (length core.log + 2) k core
        (devices_of_file x.drive (file_in x ino)) seen untagging.2 true true (Ok tt) [] set.0
        (good-kept _ (whole (reaching.comes core (events.Trim k false) (reached-of x ino at.work)
        allowed)).kept)
        (shows-of x ino spare.file spare.found at.work) allowed (omega arith)
        (ap (λ o. option_map (block_at x.drive) o) spare.here) set.1).ok
    shows false set =
        (trims-show (file_in x ino).ino (length core.log + 2) k core
        (devices_of_file x.drive (file_in x ino)) seen untagging.2 true true (Err tt) [] set.0
        (good-kept _ (whole (reaching.comes core (events.Trim k false) (reached-of x ino at.work)
        allowed)).kept)
        (shows-of x ino spare.file spare.found at.work) allowed (omega arith)
        (ap (λ o. option_map (block_at x.drive) o) spare.here) set.1).err

-- behind the event, kept or not
abbrev IsUntagged : ℕ → ℕ → Bool → World → Type 0
IsUntagged ino k true w = IsFreeing w ino k
IsUntagged ino k false w = IsShown w

trim-came : (x w : World) (ino k : ℕ) (ok : Bool) → AtTrim ino k x → IsUntagging x ino k ok w →
    may (core_in w ino) (events.Trim k ok) ≡ true →
    IsUntagged ino k ok (with_core ino (after (core_in w ino) (events.Trim k ok)) w)
trim-came x w ino k ok at untagging may_be =
    let same : core_in w ino ≡ core_in x ino = ap (λ v. core_in v ino) untagging.3 in
    let allowed : may (core_in x ino) (events.Trim k ok) ≡ true =
    subst (λ c. may c (events.Trim k ok) ≡ true) same may_be in
    subst (λ c. IsUntagged ino k ok (with_core ino (after c (events.Trim k ok)) w)) (sym same)
    (by-kept ok untagging allowed)
  where
    by-kept : (kept : Bool) → IsUntagging x ino k kept w →
        may (core_in x ino) (events.Trim k kept) ≡ true →
        IsUntagged ino k kept (with_core ino (after (core_in x ino) (events.Trim k kept)) w)
    by-kept true one allowed =
        let core : Core = core_in x ino in
        let now : Core = after core (events.Trim k true) in
        let spare = one.0 in
        let found : find_file w ino ≡ Some spare.file =
        ap (λ v. find_file v ino) one.3 ∙ spare.found in
        let given : core_in (with_core ino now w) ino ≡ now =
        core-given w ino now spare.file found in
        let shows = shows-of x ino spare.file spare.found at.work in
        record {
          shown = untagged-shown x w ino k true at one allowed;
          good = subst IsGood (sym given)
              (good-kept now (whole (reaching.comes core (events.Trim k true)
              (reached-of x ino at.work) allowed)).kept);
          low = spare.low;
          off = ap (λ (c : Core). get_or c.tags k Off) given
              ∙ get_or-set_same core.tags k Off Off
              (let low = spare.low in let size = shows.shape.tags in omega (arith, low, size));
        }
    by-kept false one allowed = untagged-shown x w ino k false at one allowed

trim-at-shown : (ino k : ℕ) →
    Leaves (AtTrim ino k) (λ more. IsShown) IsShown (trim_at ino (Some k))
trim-at-shown ino k =
    leave-look (λ y.
    leave-then {Q = λ ok w. (x : World) × AtTrim ino k x × (IsUntagging x ino k ok w)}
    (leave-tries (λ w holds.
    let spare = spare-known w ino k holds.1 in (
      w,
      holds.1,
      untagging w ino k spare (number_of y ino k)
          (ap (λ v. number_of v ino k) (sym holds.0) ∙ ap (λ o. unwrap_or o 0) spare.here),
    ))) (λ ok.
    leave-then {Q = λ u w. IsUntagged ino k ok w}
    (leave-event (λ w holds may_be. trim-came holds.0 w ino k ok holds.1 holds.2 may_be)) (λ u.
    leave-then {Q = λ v w. IsFreeing w ino k} (unless ok) (λ v.
    leave-then {Q = λ t w. IsShown w}
    (leave-changes (λ w freeing. give-shown w ino k (number_of y ino k) freeing)) (λ t.
    leave-give (λ w shown. shown))))))
  where
    unless : (ok : Bool) →
        Leaves (IsUntagged ino k ok) (λ v w. IsFreeing w ino k) IsShown (unless_fault ok)
    unless true = leave-give (λ w holds. holds)
    unless false = leave-end (λ w holds. holds)

pub trim-shown : (ino : ℕ) → Leaves (AtWork ino) (λ more. IsShown) IsShown (trim ino)
trim-shown ino =
    leave-look (λ x.
    by-block x (find (may_trim (core_in x ino)) (range_with_len 0 FILE_BLOCKS)) refl)
  where
    by-block : (x : World) (o : Option ℕ) →
        find (may_trim (core_in x ino)) (range_with_len 0 FILE_BLOCKS) ≡ o →
        Leaves (λ w. (w ≡ x) × AtWork ino w) (λ more. IsShown) IsShown (trim_at ino o)
    by-block x None is = leave-give (λ w holds. holds.1.shown)
    by-block x (Some k) is =
        leave-weaker {P = AtTrim ino k}
        (λ w holds. record {
          work = holds.1;
          may_be = subst (λ v. may_trim (core_in v ino) k ≡ true) (sym holds.0)
              (find-passes (may_trim (core_in x ino)) 0
              FILE_BLOCKS k is);
        }) (λ u w q. q) (λ w e. e)
        (trim-at-shown ino k)
