-- Blocks are given up until none is left.
use Rattle.std.proofs.Common.{◌≡◌, ℕ, zero, suc, ◌<◌, Bool, true, false, not, ◌&&◌, Option, Some}
use Rattle.std.proofs.Common.{None, List, [], ◌∷◌, map, get_or, set, refl, sym, ap, ◌∙◌, subst}
use Rattle.std.proofs.Common.{cond, if◌then◌else◌, arith}
use Rattle.std.specs.Prelude.{◌==◌, find, unwrap_or, replicate, nat_lt}
use Rattle.std.specs.List.{range_with_len}
use Rattle.std.proofs.lemmas.Bool.{and_parts, eq-eqb, eqb-false, eqb-true, ne_eqb}
use Rattle.cfs_file.specs.declared.sizes.TheConstants.{FILE_BLOCKS}
use Rattle.cfs_core.specs.declared.event.Event.TheVariants as events
use Rattle.cfs_core.specs.declared.flag.Flag.{Flag}
use Rattle.cfs_core.specs.declared.flag.Flag.TheVariants.{Off, On, Unsure}
use Rattle.cfs_core.specs.declared.inode_core.Core.{Core}
use Rattle.cfs_core.specs.After.{after}
use Rattle.cfs_core.specs.May.{may_trim}
use Rattle.cfs_core.specs.Words.{is_off}
use Rattle.cfs_core_laws.proofs.Finds.{find-passes}
use Rattle.cfs_meaning.specs.World.{File, World, block_of, core_in, file_in, find_file, new_file}
use Rattle.cfs_meaning.specs.World.{replaces, with_core}
use Rattle.cfs_meaning.specs.Inode.{give_block, trim, trim_at, without_block}
use Rattle.cfs_meaning.specs.Workers.{trim_line}
use Rattle.cfs_meaning.specs.Ways.{Repeats, unless_fault}
use Rattle.cfs_meaning.proofs.Quiet.{core-up, replaced-up}
use Rattle.cfs_meaning.proofs.ShownFiles.{found-number}
use Rattle.cfs_meaning.proofs.Total.{Falls, Total, total-changes, total-end, total-event}
use Rattle.cfs_meaning.proofs.Total.{total-give, total-look, total-repeats, total-then, total-tries}
use Rattle.cfs_meaning.proofs.Total.{total-weaker}
use Rattle.cfs_meaning.proofs.TotalNames.{Ever, True}
use Rattle.cfs_meaning.proofs.TotalParts.{Sound, total-there}
use Rattle.cfs_meaning.proofs.Uncrashed.{after-up}

-- ---- the core behind an event

pub find-replaced : (new : File) (ino : ℕ) (files : List File) (f : File) → new.ino ≡ ino →
    find (λ g. g.ino == ino) files ≡ Some f →
    find (λ g. g.ino == ino) (map (replaces new) files) ≡ Some new
find-replaced new ino [] f own is = absurd (cc)
find-replaced new ino (g ∷ files) f own is =
    pick (g.ino == ino) refl (λ later. find-replaced new ino files f own later) is
  where
    pick : (b : Bool) → (g.ino == ino) ≡ b →
        (find (λ h. h.ino == ino) files ≡ Some f →
        find (λ h. h.ino == ino) (map (replaces new) files) ≡ Some new) →
        cond b (Some g) (find (λ h. h.ino == ino) files) ≡ Some f →
        find (λ h. h.ino == ino) (map (replaces new) (g ∷ files)) ≡ Some new
    pick true here rest now =
        let same : g.ino ≡ new.ino = eqb-true g.ino ino here ∙ sym own in
        ap (λ b. find (λ h. h.ino == ino) ((if b then new else g) ∷ map (replaces new) files))
        (eq-eqb g.ino new.ino same)
        ∙ ap (λ b. cond b (Some new) (find (λ h. h.ino == ino) (map (replaces new) files)))
        (eq-eqb new.ino ino own)
    pick false here rest now =
        let apart = eqb-false g.ino ino here in
        ap (λ b. find (λ h. h.ino == ino) ((if b then new else g) ∷ map (replaces new) files))
        (ne_eqb g.ino new.ino (λ same. apart (same ∙ own)))
        ∙ ap (λ b. cond b (Some g) (find (λ h. h.ino == ino) (map (replaces new) files))) here
        ∙ rest now

-- where the file is there, its core is the one that it was given
pub core-given : (world : World) (ino : ℕ) (core : Core) (f : File) →
    find_file world ino ≡ Some f → core_in (with_core ino core world) ino ≡ core
core-given world ino core f is =
    let own : (file_in world ino).ino ≡ ino =
    ap (λ o. (unwrap_or o (new_file 0 0)).ino) is ∙ found-number ino world.files f is in
    ap (λ o. (unwrap_or o (new_file 0 0)).core)
    (find-replaced (record (file_in world ino) { core = core }) ino world.files f own is)

-- ---- how many blocks are left

abbrev pub tagged_count : List Flag → ℕ
tagged_count [] = 0
tagged_count (Off ∷ flags) = tagged_count flags
tagged_count (On ∷ flags) = suc (tagged_count flags)
tagged_count (Unsure ∷ flags) = suc (tagged_count flags)

fewer : (flags : List Flag) (k : ℕ) → is_off (get_or flags k Off) ≡ false →
    tagged_count (set flags k Off) < tagged_count flags
fewer [] k is = absurd (cc)
fewer (Off ∷ flags) zero is = absurd (cc)
fewer (On ∷ flags) zero is = omega arith
fewer (Unsure ∷ flags) zero is = omega arith
fewer (Off ∷ flags) (suc k) is = fewer flags k is
fewer (On ∷ flags) (suc k) is = let rest = fewer flags k is in omega (arith, rest)
fewer (Unsure ∷ flags) (suc k) is = let rest = fewer flags k is in omega (arith, rest)

none-off : (k : ℕ) → is_off (get_or (replicate FILE_BLOCKS Off) k Off) ≡ true
none-off k = all-off FILE_BLOCKS k
  where
    all-off : (n j : ℕ) → is_off (get_or (replicate n Off) j Off) ≡ true
    all-off zero j = refl
    all-off (suc n) zero = refl
    all-off (suc n) (suc j) = all-off n j

not-off : (b : Bool) → not b ≡ true → b ≡ false
not-off true is = absurd (cc)
not-off false is = refl

trim-tagged : (core : Core) (k : ℕ) → may_trim core k ≡ true →
    is_off (get_or core.tags k Off) ≡ false
trim-tagged core k may_be =
    not-off _ (and_parts _ _ (and_parts (nat_lt k FILE_BLOCKS) _ may_be).1).0

trim-found : (world : World) (ino k : ℕ) → may_trim (core_in world ino) k ≡ true →
    (f : File) × (find_file world ino ≡ Some f)
trim-found world ino k may_be = by-find (find_file world ino) refl
  where
    by-find : (o : Option File) → find_file world ino ≡ o →
        (f : File) × (find_file world ino ≡ Some f)
    by-find (Some f) is = (f, is)
    by-find None is =
        let tagged : is_off (get_or (replicate FILE_BLOCKS Off) k Off) ≡ false =
        subst (λ o. is_off (get_or (unwrap_or o (new_file 0 0)).core.tags k Off) ≡ false) is
        (trim-tagged (core_in world ino) k may_be) in
        let wrong : true ≡ false = sym (none-off k) ∙ tagged in absurd (cc)

-- ---- one turn

abbrev Left : ℕ → World → ℕ
Left ino world = tagged_count (core_in world ino).tags

trim-kept : (world : World) (ino k : ℕ) → Sound world → may_trim (core_in world ino) k ≡ true →
    Left ino (with_core ino (after (core_in world ino) (events.Trim k true)) world)
    < Left ino world
trim-kept world ino k sound may_be =
    let found = trim-found world ino k may_be in
    let same = core-given world ino (after (core_in world ino) (events.Trim k true)) found.0
    found.1 in
    subst (λ core. tagged_count core.tags < Left ino world) (sym same)
    (fewer (core_in world ino).tags k (trim-tagged (core_in world ino) k may_be))

abbrev Trims : ℕ → ℕ → ℕ → World → Type 0
Trims ino k n world =
    Sound world × (Left ino world ≡ n) × (may_trim (core_in world ino) k ≡ true)

-- what holds behind the event, kept or not
abbrev Trimmed : ℕ → ℕ → Bool → World → Type 0
Trimmed ino n kept world =
    Sound world × ((f : File) × (find_file world ino ≡ Some f))
    × (kept ≡ true → Left ino world < n)

file-number : (world : World) (ino : ℕ) (f : File) → find_file world ino ≡ Some f →
    (file_in world ino).ino ≡ ino
file-number world ino f is =
    ap (λ o. (unwrap_or o (new_file 0 0)).ino) is ∙ found-number ino world.files f is

trim-event : (ino k n : ℕ) (kept : Bool) (w : World) → Trims ino k n w →
    Trimmed ino n kept (with_core ino (after (core_in w ino) (events.Trim k kept)) w)
trim-event ino k n kept w holds = (
  replaced-up _ w.files
      (after-up 0 (core_in w ino) (events.Trim k kept) tt (core-up w ino holds.0)) holds.0,
  (
    record (file_in w ino) { core = after (core_in w ino) (events.Trim k kept) },
    find-replaced (record (file_in w ino) { core = after (core_in w ino) (events.Trim k kept) }) ino
        w.files found.0 (file-number w ino found.0 found.1) found.1,
  ),
  λ is.
      let less = trim-kept w ino k holds.0 holds.2 in
      subst (λ b. Left ino (with_core ino (after (core_in w ino) (events.Trim k b)) w) < n) (sym is)
      (let same = holds.1 in omega (arith, less, same)),
)
  where
    found : (f : File) × (find_file w ino ≡ Some f)
    found = trim-found w ino k holds.2

-- a block that is given up leaves the core as it is
give-left : (ino k b : ℕ) (w : World) (f : File) → find_file w ino ≡ Some f →
    Left ino (give_block ino k b w) ≡ Left ino w
give-left ino k b w f is =
    ap (λ x. tagged_count (unwrap_or x (new_file 0 0)).core.tags)
    (find-replaced (without_block k (file_in w ino)) ino w.files f (file-number w ino f is) is)

give-sound : (ino k b : ℕ) (w : World) → Sound w → Sound (give_block ino k b w)
give-sound ino k b w sound = replaced-up _ w.files (core-up w ino sound) sound

total-trim-at : (ino n : ℕ) (x : World) (o : Option ℕ) →
    find (may_trim (core_in x ino)) (range_with_len 0 FILE_BLOCKS) ≡ o →
    Total (λ w. (w ≡ x) × (Sound w × (Left ino w ≡ n))) (Falls (Left ino) Sound n) True
    (trim_at ino o)
total-trim-at ino n x None is =
    total-give (λ w holds. (holds.1.0, λ more. absurd (cc)))
total-trim-at ino n x (Some k) is =
    total-look (λ y.
    total-then {Q = λ kept. Trims ino k n}
    (total-tries (λ w holds. (
      holds.1.1.0,
      holds.1.1.1,
      subst (λ v. may_trim (core_in v ino) k ≡ true) (sym holds.1.0)
          (find-passes (may_trim (core_in x ino)) 0 FILE_BLOCKS k is),
    ))) (λ kept.
    total-then {Q = λ u. Trimmed ino n kept}
    (total-event (λ w holds. ap (λ b. not b && may_trim (core_in w ino) k)
    (core-up w ino holds.0) ∙ holds.2) (λ w holds. trim-event ino k n kept w holds)) (λ u.
    total-then {Q = λ v w. (kept ≡ true) × Trimmed ino n kept w} (went-well kept) (λ v.
    total-then {Q = λ t w. Sound w × (Left ino w < n)}
    (total-changes (λ w holds. (
      give-sound ino k (unwrap_or (block_of (file_in y ino) k) 0) w holds.1.0,
      (let same = give-left ino k (unwrap_or (block_of (file_in y ino) k) 0) w holds.1.1.0
          holds.1.1.1 in
          let less = holds.1.2 holds.0 in omega (arith, same, less)),
    ))) (λ t.
    total-give (λ w holds. (holds.0, λ more. holds.1)))))))
  where
    went-well : (kept : Bool) → Total (Trimmed ino n kept)
        (λ v w. (kept ≡ true) × Trimmed ino n kept w) True (unless_fault kept)
    went-well true = total-give (λ w holds. (refl, holds))
    went-well false = total-end (λ w holds. tt)

total-trim : (ino n : ℕ) →
    Total (λ w. Sound w × (Left ino w ≡ n)) (Falls (Left ino) Sound n) True (trim ino)
total-trim ino n =
    total-look (λ x.
    total-trim-at ino n x (find (may_trim (core_in x ino)) (range_with_len 0 FILE_BLOCKS)) refl)

pub total-trims : (ino : ℕ) → Total Sound (λ k. Sound) True (Repeats (trim ino))
total-trims ino = total-repeats (Left ino) (total-trim ino)

pub total-trim-line : (ino : ℕ) → Total Sound Ever True (trim_line ino)
total-trim-line ino =
    total-then {Q = Ever}
    (total-weaker {P = Sound} {Q = λ k. Sound} (λ w holds. holds) (λ k w q. tt) (λ w e. tt)
    (total-then {Q = λ u. Sound} (total-there ino) (λ u. total-trims ino))) (λ n.
    total-give (λ w holds. tt))
