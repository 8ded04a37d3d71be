-- A removed file is purged: that keeps a world shown by its devices.
use Rattle.std.proofs.Common.{◌≡◌, ◌≢◌, ◌⊎◌, ℕ, ◌+◌, Bool, true, false, not, Option, Some}
use Rattle.std.proofs.Common.{None, List, [], ◌∷◌, filter, inl, inr, refl, sym, ap, ◌∙◌}
use Rattle.std.proofs.Common.{subst, cond, arith}
use Rattle.std.specs.Prelude.{◌==◌, unwrap_or}
use Rattle.std.specs.Option.{option_map}
use Rattle.std.proofs.lemmas.Bool.{eqb-false, eqb-true}
use Rattle.std.proofs.lemmas.List.{length-set}
use Rattle.cfs_file.specs.declared.sizes.TheConstants.{FILE_BLOCKS}
use Rattle.cfs_pmem.specs.Images.{Seen, WordStep, words_of}
use Rattle.cfs_pmem.specs.WordOps.{WordOp, persist, put}
use Rattle.cfs_meaning.specs.Drive.{Op, Word, attempt, region_at}
use Rattle.cfs_meaning.specs.Steps.{size_word, tag_kept}
use Rattle.cfs_meaning.specs.World.{File, World, block_of, core_in, file_in, find_file, new_file}
use Rattle.cfs_meaning.specs.World.{with_file}
use Rattle.cfs_meaning.specs.Devices.{HaveOwnNumbers, IsEvenRegion, IsPlaced, IsShown}
use Rattle.cfs_meaning.specs.Inode.{blocks_ascending, clear_size, end_core, give_block}
use Rattle.cfs_meaning.specs.Inode.{is_size_right, purge, untag, with_size_unsure, without_block}
use Rattle.cfs_meaning.specs.Ways.{Changes, Way, each, steps, when, ◌>>◌}
use Rattle.cfs_meaning.specs.Stock.{HaveOwnKeys}
use Rattle.cfs_meaning.proofs.Hoare.{Leaves, leave-changes, leave-give, leave-look, leave-then}
use Rattle.cfs_meaning.proofs.Hoare.{leave-tries, leave-unless, leave-weaker}
use Rattle.cfs_meaning.proofs.Keyed.{AreListed, files-left, listed, listed-kept, none-listed}
use Rattle.cfs_meaning.proofs.ShownBlocks.{block-shown, with_seen}
use Rattle.cfs_meaning.proofs.ShownEnds.{one-word, word_after}
use Rattle.cfs_meaning.proofs.ShownFiles.{IsWithin, file-shown, files-map, found-in, found-number}
use Rattle.cfs_meaning.proofs.ShownGates.{find-gone, find-kept, own-core}
use Rattle.cfs_meaning.proofs.ShownNeeds.{NeedsLess}
use Rattle.cfs_meaning.proofs.ShownParts.{same-shown}
use Rattle.cfs_meaning.proofs.ShownRegions.{IsAsLong, size-shown, with_words}
use Rattle.cfs_meaning.proofs.ShownTrims.{tag-at, tagged-full}
use Rattle.cfs_meaning.proofs.Total.{with_attempt}
use Rattle.cfs_meaning.proofs.TotalTrims.{find-replaced}

-- ---- a file whose core has ended

clash : (b : Bool) → b ≡ true → b ≡ false → ⊥
clash b is up = let wrong : true ≡ false = sym is ∙ up in absurd (cc)

-- what no device has to show, since its core has ended
ended-shown : (world : World) (ino : ℕ) (new : File) → IsWithin new (file_in world ino) →
    new.ended ≡ true → IsShown world → IsShown (with_file new world)
ended-shown world ino new within ended shown =
    file-shown world ino new within (λ old up. absurd (clash new.ended ended up))
    (λ old up. absurd (clash new.ended ended up)) shown

same-needs : (world : World) (ino : ℕ) → NeedsLess (core_in world ino) (core_in world ino)
same-needs world ino = record {
  up = λ up. up;
  slots = λ k needs. needs;
  doubt = λ d is. is;
  blocks = λ k off. off;
}

-- a file that is being purged, and the blocks that it still has
pub record IsEnding (ino rec from : ℕ) (blocks : List (ℕ × ℕ)) (world : World) : Type 0 where
  pub shown : IsShown world
  pub file : File
  pub found : find_file world ino ≡ Some file
  pub ended : (file_in world ino).ended ≡ true
  pub rec_is : (file_in world ino).rec ≡ rec
  pub left : AreListed (block_of (file_in world ino)) from blocks

placed-of : {ino rec from : ℕ} {blocks : List (ℕ × ℕ)} (world : World) →
    IsEnding ino rec from blocks world → IsPlaced world.drive (file_in world ino)
placed-of {ino} world ending =
    subst (IsPlaced world.drive) (sym (ap (λ o. unwrap_or o (new_file 0 0)) ending.found))
    (found-in (IsPlaced world.drive) world ino ending.file ending.found ending.shown.placed)

-- the devices change, and show the world still
driven : {ino rec from : ℕ} {blocks : List (ℕ × ℕ)} (ops : List Op) (world : World) →
    IsEnding ino rec from blocks world → IsShown (with_attempt ops world) →
    IsEnding ino rec from blocks (with_attempt ops world)
driven ops world ending shown = record {
  shown = shown;
  file = ending.file;
  found = ending.found;
  ended = ending.ended;
  rec_is = ending.rec_is;
  left = ending.left;
}

-- the file changes, and has ended still
filed : {ino rec from : ℕ} {blocks : List (ℕ × ℕ)} (now : ℕ) (more : List (ℕ × ℕ)) (world : World)
    (new : File) → IsEnding ino rec from blocks world → new.ino ≡ (file_in world ino).ino →
    new.ended ≡ true → new.rec ≡ rec → AreListed (block_of new) now more →
    IsShown (with_file new world) → IsEnding ino rec now more (with_file new world)
filed {ino} now more world new ending own ended rec_is left shown =
    let number : (file_in world ino).ino ≡ ino =
    ap (λ o. (unwrap_or o (new_file 0 0)).ino) ending.found
    ∙ found-number ino world.files ending.file ending.found in
    let there = find-replaced new ino world.files ending.file (own ∙ number) ending.found in
    let is : file_in (with_file new world) ino ≡ new =
    ap (λ o. unwrap_or o (new_file 0 0)) there in
    record {
      shown = shown;
      file = new;
      found = there;
      ended = ap (λ (f : File). f.ended) is ∙ ended;
      rec_is = ap (λ (f : File). f.rec) is ∙ rec_is;
      left = subst (λ f. AreListed (block_of f) now more) (sym is) left;
    }

-- ---- a block is untagged

untag-shown : {ino rec from : ℕ} {blocks : List (ℕ × ℕ)} (world : World) (x : ℕ × ℕ) →
    IsEnding ino rec from (x ∷ blocks) world → IsShown (with_attempt (tag_kept x.1 0) world)
untag-shown {ino} world x ending =
    let placed = placed-of world ending in
    let low = placed.blocks x.0 x.1 ending.left.1 in
    let one = tag-at x.1 0 world.drive low in
    subst IsShown (sym (ap (λ d. record world { drive = d }) one.2))
    (own-core world ino (with_seen x.1 one.1 one.0 world.drive) ending.file ending.found
    ending.shown
    (block-shown world ino x.0 x.1 one.1 (core_in world ino) one.0 ending.file ending.found
    ending.left.1
    (tagged-full (attempt (tag_kept x.1 0) world.drive).whole 0 _ one.1 one.3
    (ending.shown.even.blocks x.1 _ low))
    (λ up. absurd (clash (file_in world ino).ended ending.ended up)) (same-needs world ino)
    ending.shown))

block-aside : (f : File) (k j : ℕ) → j ≢ k → block_of (without_block k f) j ≡ block_of f j
block-aside f k j apart =
    ap (option_map (λ (x : ℕ × ℕ). x.1)) (find-kept (λ (x : ℕ × ℕ). x.0) k j apart f.blocks)

block-away : (f : File) (k : ℕ) → block_of (without_block k f) k ≡ None
block-away f k =
    ap (option_map (λ (x : ℕ × ℕ). x.1)) (find-gone (λ (x : ℕ × ℕ). x.0) k f.blocks)

without-within : (f : File) (k : ℕ) → IsWithin (without_block k f) f
without-within f k = record {
  ino = refl;
  rec = refl;
  held = λ gate. inl refl;
  blocks = λ j. by-test j (j == k) refl;
}
  where
    by-test : (j : ℕ) (t : Bool) → (j == k) ≡ t →
        (block_of (without_block k f) j ≡ block_of f j) ⊎ (block_of (without_block k f) j ≡ None)
    by-test j true is = inr (ap (block_of (without_block k f)) (eqb-true j k is) ∙ block-away f k)
    by-test j false is = inl (block-aside f k j (eqb-false j k is))

give-ending : {ino rec from : ℕ} {blocks : List (ℕ × ℕ)} (world : World) (x : ℕ × ℕ) →
    IsEnding ino rec from (x ∷ blocks) world →
    IsEnding ino rec (x.0 + 1) blocks (give_block ino x.0 x.1 world)
give-ending {ino} {rec} {from} {blocks} world x ending =
    let old : File = file_in world ino in
    let here = filed (x.0 + 1) blocks world (without_block x.0 old) ending refl ending.ended
    ending.rec_is
    (listed-kept (block_of old) (block_of (without_block x.0 old)) (x.0 + 1) blocks
    (λ j low. block-aside old x.0 j (λ same. omega (arith, low, same))) ending.left.2)
    (ended-shown world ino (without_block x.0 old) (without-within old x.0) ending.ended
    ending.shown) in
    record {
      shown = same-shown (with_file (without_block x.0 old) world)
          (give_block ino x.0 x.1 world) refl refl refl here.shown;
      file = here.file;
      found = here.found;
      ended = here.ended;
      rec_is = here.rec_is;
      left = here.left;
    }

-- operations of devices, behind each of which Q holds
pub leave-steps : {P Q E : World → Type 0} {ops : List Op} →
    ((w : World) → P w → Q (with_attempt ops w)) → ((w : World) → Q w → E w) →
    Leaves P (λ u. Q) E (steps ops)
leave-steps {Q = Q} done ill =
    leave-then {Q = λ ok. Q} (leave-tries done) (λ ok. leave-unless ok (λ w holds. holds) ill)

untag-ending : (ino rec from : ℕ) (blocks : List (ℕ × ℕ)) (x : ℕ × ℕ) →
    Leaves (IsEnding ino rec from (x ∷ blocks)) (λ u. IsEnding ino rec (x.0 + 1) blocks) IsShown
    (untag ino x)
untag-ending ino rec from blocks x =
    leave-then {Q = λ u. IsEnding ino rec from (x ∷ blocks)}
    (leave-steps (λ w ending.
    driven (tag_kept x.1 0) w ending (untag-shown w x ending)) (λ w ending. ending.shown)) (λ u.
    leave-changes (λ w ending. give-ending w x ending))

untags-ending : (ino rec from : ℕ) (blocks : List (ℕ × ℕ)) →
    Leaves (IsEnding ino rec from blocks) (λ u w. (n : ℕ) × IsEnding ino rec n [] w) IsShown
    (each blocks (untag ino))
untags-ending ino rec from [] = leave-give (λ w ending. (from, ending))
untags-ending ino rec from (x ∷ blocks) =
    leave-then {Q = λ u. IsEnding ino rec (x.0 + 1) blocks}
    (untag-ending ino rec from blocks x) (λ u. untags-ending ino rec (x.0 + 1) blocks)

-- ---- the size word is cleared

long-after : (ok : Bool) (op : WordOp) (old : Seen WordStep) → IsEvenRegion old →
    (op ≡ put 0 0) ⊎ (op ≡ persist) → IsAsLong old (word_after ok op old)
long-after ok op old even which = elim which [
  | inl is ↦ subst (λ o. IsAsLong old (word_after ok o old)) (sym is) (of-put ok)
  | inr is ↦ subst (λ o. IsAsLong old (word_after ok o old)) (sym is) (of-persist ok)
]
  where
    of-put : (b : Bool) → IsAsLong old (word_after b (put 0 0) old)
    of-put true = record {
      even = even ∙ sym (length-set (words_of old) 0 0);
      long = length-set (words_of old) 0 0;
    }
    of-put false = record { even = even; long = refl }

    of-persist : (b : Bool) → IsAsLong old (word_after b persist old)
    of-persist true = record { even = refl; long = refl }
    of-persist false = record { even = even; long = refl }

size-step : {ino rec from : ℕ} {blocks : List (ℕ × ℕ)} (world : World) (op : WordOp) →
    (op ≡ put 0 0) ⊎ (op ≡ persist) → IsEnding ino rec from blocks world →
    IsShown (with_attempt (Word (size_word rec) op ∷ []) world)
size-step {ino} {rec} world op which ending =
    subst (λ n. IsShown (with_attempt (Word (size_word n) op ∷ []) world)) ending.rec_is
    (let placed = placed-of world ending in
    let r : ℕ = size_word (file_in world ino).rec in
    let one = one-word r op world.drive in
    let seen : Seen WordStep =
    word_after (attempt (Word r op ∷ []) world.drive).whole op (region_at world.drive r) in
    subst IsShown (sym (ap (λ d. record world { drive = d }) one.1))
    (own-core world ino (with_words r seen one.0 world.drive) ending.file ending.found
    ending.shown
    (size-shown world ino seen (core_in world ino) one.0 ending.file ending.found
    (long-after (attempt (Word r op ∷ []) world.drive).whole op (region_at world.drive r)
    (ending.shown.even.regions r _ placed.size.within) which)
    (λ up. absurd (clash (file_in world ino).ended ending.ended up)) (same-needs world ino)
    ending.shown)))

unsure-ending : {ino rec from : ℕ} {blocks : List (ℕ × ℕ)} (world : World) →
    IsEnding ino rec from blocks world → IsEnding ino rec from blocks (with_size_unsure ino world)
unsure-ending {ino} {rec} {from} {blocks} world ending =
    filed from blocks world _ ending refl refl ending.rec_is ending.left
    (ended-shown world ino _
    (record { ino = refl; rec = refl; held = λ gate. inl refl; blocks = λ k. inl refl }) refl
    ending.shown)

clear-ending : (ino rec from : ℕ) →
    Leaves (IsEnding ino rec from []) (λ u. IsShown) IsShown (clear_size ino rec)
clear-ending ino rec from =
    leave-then {Q = λ u. IsEnding ino rec from []}
    (leave-steps (λ w ending.
    driven (Word (size_word rec) (put 0 0) ∷ []) w ending (size-step w (put 0 0) (inl refl) ending))
    (λ w ending. ending.shown)) (λ u.
    leave-then {Q = λ v. IsEnding ino rec from []}
    (leave-changes (λ w ending. unsure-ending w ending)) (λ v.
    leave-steps (λ w ending. size-step w persist (inr refl) ending) (λ w shown. shown)))

-- ---- the file is gone

numbers-left : (test : File → Bool) (files : List File) → HaveOwnNumbers files →
    HaveOwnNumbers (filter test files)
numbers-left test [] own = tt
numbers-left test (f ∷ files) own = by-test (test f) (numbers-left test files own.1)
  where
    by-test : (b : Bool) → HaveOwnNumbers (filter test files) →
        HaveOwnNumbers (cond b (f ∷ filter test files) (filter test files))
    by-test true rest = (files-left (λ g. g.ino ≢ f.ino) test files own.0, rest)
    by-test false rest = rest

pub gone-shown : (test : File → Bool) (world : World) → IsShown world →
    IsShown (record world { files = filter test world.files })
gone-shown test world shown = record {
  files = files-left _ test world.files shown.files;
  apart = files-map _ _ (λ f all. files-left _ test world.files all) (filter test world.files)
      (files-left _ test world.files shown.apart);
  placed = files-left _ test world.files shown.placed;
  equipped = files-left _ test world.files shown.equipped;
  numbers = numbers-left test world.files shown.numbers;
  even = shown.even;
  tree = shown.tree;
}

-- ---- the whole

-- what is done to a file as it was found
abbrev purging : ℕ → File → Way (Unit {0})
purging ino f = do
  Changes (end_core ino)
  each (blocks_ascending f) (untag ino)
  when (not (is_size_right f.core 0)) (clear_size ino f.rec)
  Changes (λ w. record w { files = filter (λ g. not (g.ino == ino)) w.files })

leave-gone : (ino : ℕ) → Leaves IsShown (λ u. IsShown) IsShown
    (Changes (λ w. record w { files = filter (λ g. not (g.ino == ino)) w.files }))
leave-gone ino = leave-changes (λ w shown. gone-shown (λ g. not (g.ino == ino)) w shown)

end-within : (f : File) → IsWithin (record f { ended = true }) f
end-within f =
    record { ino = refl; rec = refl; held = λ gate. inl refl; blocks = λ k. inl refl }

purge-none : (ino : ℕ) → Leaves IsShown (λ u. IsShown) IsShown (purging ino (new_file 0 0))
purge-none ino =
    leave-then {Q = λ u. IsShown}
    (leave-changes (λ w shown.
    ended-shown w ino _ (end-within (file_in w ino)) refl shown)) (λ u.
    leave-then {Q = λ v. IsShown} none (λ v.
    leave-then {Q = λ t. IsShown} (leave-give (λ w shown. shown)) (λ t. leave-gone ino)))
  where
    none : Leaves IsShown (λ v. IsShown) IsShown
        (each (blocks_ascending (new_file 0 0)) (untag ino))
    none =
        subst (λ (list : List (ℕ × ℕ)). Leaves IsShown (λ v. IsShown) IsShown
        (each list (untag ino))) (sym (none-listed 0 FILE_BLOCKS 0))
        (leave-give (λ w shown. shown))

-- a file that is there, before its purge
record IsThere (ino : ℕ) (f : File) (world : World) : Type 0 where
  pub shown : IsShown world
  pub found : find_file world ino ≡ Some f

end-ending : (ino : ℕ) (f : File) (world : World) → HaveOwnKeys f.blocks → IsThere ino f world →
    IsEnding ino f.rec 0 (blocks_ascending f) (end_core ino world)
end-ending ino f world own there =
    let same : file_in world ino ≡ f = ap (λ o. unwrap_or o (new_file 0 0)) there.found in
    let new : File = record (file_in world ino) { ended = true } in
    let number : new.ino ≡ ino =
    ap (λ (g : File). g.ino) same ∙ found-number ino world.files f there.found in
    let behind = find-replaced new ino world.files f number there.found in
    let is : file_in (with_file new world) ino ≡ new =
    ap (λ o. unwrap_or o (new_file 0 0)) behind in
    record {
      shown = ended-shown world ino new (end-within (file_in world ino)) refl there.shown;
      file = new;
      found = behind;
      ended = ap (λ (g : File). g.ended) is;
      rec_is = ap (λ (g : File). g.rec) is ∙ ap (λ (g : File). g.rec) same;
      left = subst (λ g. AreListed (block_of g) 0 (blocks_ascending f)) (sym is)
          (subst (λ (g : File). AreListed (block_of (record g { ended = true })) 0
          (blocks_ascending f)) (sym same) (listed f 0 FILE_BLOCKS own));
    }

purge-there : (ino : ℕ) (f : File) → HaveOwnKeys f.blocks →
    Leaves (IsThere ino f) (λ u. IsShown) IsShown (purging ino f)
purge-there ino f own =
    leave-then {Q = λ u. IsEnding ino f.rec 0 (blocks_ascending f)}
    (leave-changes (λ w there. end-ending ino f w own there)) (λ u.
    leave-then {Q = λ v w. (n : ℕ) × IsEnding ino f.rec n [] w}
    (untags-ending ino f.rec 0 (blocks_ascending f)) (λ v.
    leave-then {Q = λ t. IsShown} (cleared (not (is_size_right f.core 0))) (λ t. leave-gone ino)))
  where
    any-number : Leaves (λ w. (n : ℕ) × IsEnding ino f.rec n [] w) (λ u. IsShown) IsShown
        (clear_size ino f.rec)
    any-number = record {
      by = λ old end new holds way. (clear-ending ino f.rec holds.0).by old end new holds.1 way;
    }

    cleared : (test : Bool) → Leaves (λ w. (n : ℕ) × IsEnding ino f.rec n [] w) (λ u. IsShown)
        IsShown (when test (clear_size ino f.rec))
    cleared true = any-number
    cleared false = leave-give (λ w ending. ending.1.shown)

pub purge-shown : (ino : ℕ) →
    Leaves (λ w. IsShown w × HaveOwnKeys (file_in w ino).blocks) (λ u. IsShown) IsShown (purge ino)
purge-shown ino = leave-look (λ x. by-find x (find_file x ino) refl)
  where
    known : (x : World) (f : File) → find_file x ino ≡ Some f →
        Leaves (λ w. (w ≡ x) × (IsShown w × HaveOwnKeys (file_in w ino).blocks)) (λ u. IsShown)
        IsShown (purging ino f)
    known x f is = record {
      by = λ old end new holds way.
          let same : file_in old ino ≡ f =
          ap (λ w. file_in w ino) holds.0 ∙ ap (λ o. unwrap_or o (new_file 0 0)) is in
          (purge-there ino f (subst (λ (g : File). HaveOwnKeys g.blocks) same holds.1.1)).by old end
          new (record { shown = holds.1.0; found = ap (λ w. find_file w ino) holds.0 ∙ is }) way;
    }

    by-find : (x : World) (o : Option File) → find_file x ino ≡ o →
        Leaves (λ w. (w ≡ x) × (IsShown w × HaveOwnKeys (file_in w ino).blocks)) (λ u. IsShown)
        IsShown (purging ino (file_in x ino))
    by-find x None is =
        subst (λ f. Leaves (λ w. (w ≡ x) × (IsShown w × HaveOwnKeys (file_in w ino).blocks))
        (λ u. IsShown) IsShown (purging ino f))
        (sym (ap (λ o. unwrap_or o (new_file 0 0)) is))
        (leave-weaker {P = IsShown} (λ w holds. holds.1.0) (λ u w shown. shown) (λ w shown. shown)
        (purge-none ino))
    by-find x (Some f) is =
        subst (λ g. Leaves (λ w. (w ≡ x) × (IsShown w × HaveOwnKeys (file_in w ino).blocks))
        (λ u. IsShown) IsShown (purging ino g))
        (sym (ap (λ o. unwrap_or o (new_file 0 0)) is)) (known x f is)
