-- What leaves the journal and the checkpoint as they stand for the tree.
use Rattle.std.proofs.Common.{◌≡◌, ℕ, Bool, true, false, not}
use Rattle.std.proofs.Common.{List, [], ◌∷◌, map, drop, take, refl, sym, ap}
use Rattle.std.proofs.Common.{◌∙◌, subst, if◌then◌else◌, arith}
use Rattle.std.specs.Prelude.{reverse}
use Rattle.std.proofs.lemmas.List.{take-set-le}
use Rattle.cfs_block.specs.BlockOps.{BlockOp, retag_ops}
use Rattle.cfs_dir.specs.Namespace.{Namespace}
use Rattle.cfs_pmem.specs.AllMoments.{AreDistinct}
use Rattle.cfs_pmem.specs.Images.{Seen, WordStep}
use Rattle.cfs_pmem.specs.Objects.{all_devices}
use Rattle.cfs_pmem.specs.WordOps.{WordOp, persist, put}
use Rattle.cfs_journal.specs.Standing.{Standing}
use Rattle.cfs_ckpt.specs.Selects.{Selects}
use Rattle.cfs_names.specs.Behind.{AreBehind}
use Rattle.cfs_meaning.specs.Drive.{Block, Drive, Word, attempt, is_allowed, made, noted}
use Rattle.cfs_meaning.specs.Drive.{refused}
use Rattle.cfs_meaning.specs.NameSteps.{tree_of}
use Rattle.cfs_meaning.specs.Steps.{size_word, tag_kept}
use Rattle.cfs_meaning.specs.World.{Names, World, file_in}
use Rattle.cfs_meaning.specs.Inode.{blocks_ascending, clear_size, is_size_right, purge, untag}
use Rattle.cfs_meaning.specs.Trees.{IsStored, IsTreeStored, front_in, records_in, tables_in}
use Rattle.cfs_meaning.specs.Ways.{Way, when}
use Rattle.cfs_meaning.proofs.Hoare.{Leaves, leave-changes, leave-give, leave-look, leave-then}
use Rattle.cfs_meaning.proofs.Hoare.{leave-weaker}
use Rattle.cfs_meaning.proofs.ShownEnds.{one-word}
use Rattle.cfs_meaning.proofs.ShownOpen.{leave-each}
use Rattle.cfs_meaning.proofs.ShownPurges.{leave-steps}
use Rattle.cfs_meaning.proofs.Total.{with_attempt}

-- the same names, and the same regions of the tree
pub stored-same : (tree : Namespace) (old new : World) → new.names ≡ old.names →
    front_in new.drive ≡ front_in old.drive → IsTreeStored tree old → IsTreeStored tree new
stored-same tree old new names front stored = record {
  changes = stored.changes;
  count = stored.count ∙ ap (λ (n : Names). n.records) (sym names);
  journal =
      subst (λ (n : Names). Standing n.through stored.changes n.doubt (records_in new.drive))
      (sym names)
      (subst (λ (list : List (Seen WordStep)).
      Standing old.names.through stored.changes old.names.doubt (drop 3 list)) (sym front)
      stored.journal);
  word = stored.word;
  selector =
      subst (λ (n : Names). Selects stored.word n.selector_unsure (tables_in new.drive))
      (sym names)
      (subst (λ (list : List (Seen WordStep)).
      Selects stored.word old.names.selector_unsure (take 3 list)) (sym front) stored.selector);
  behind =
      subst (λ (n : Names). AreBehind n.through stored.changes tree (tables_in new.drive))
      (sym names)
      (subst (λ (list : List (Seen WordStep)).
      AreBehind old.names.through stored.changes tree (take 3 list)) (sym front) stored.behind);
  distinct = subst (λ (list : List (Seen WordStep)). AreDistinct (all_devices list)) (sym front)
      stored.distinct;
  whole = stored.whole;
}

pub still-stored : (old new : World) → new.names ≡ old.names →
    front_in new.drive ≡ front_in old.drive → IsStored old → IsStored new
still-stored old new names front stored =
    stored-same (tree_of new.names.now) old new names front
    (subst (λ (n : Names). IsTreeStored (tree_of n.now) old) (sym names) stored)

-- ---- operations that leave the regions of the tree

-- operations on blocks leave all regions
blocks-leave : (ops : List BlockOp) (b : ℕ) (drive : Drive) →
    (attempt (map (Block b) ops) drive).drive.regions ≡ drive.regions
unfolding attempt
blocks-leave [] b drive = refl
blocks-leave (op ∷ ops) b drive =
    by-test (is_allowed (Block b op) drive)
    (blocks-leave ops b (made (Block b op) (noted (Block b op) true drive)))
  where
    next : Drive
    next = made (Block b op) (noted (Block b op) true drive)

    by-test : (allowed : Bool) →
        (attempt (map (Block b) ops) next).drive.regions ≡ drive.regions →
        (if allowed then attempt (map (Block b) ops) next
        else record {
          whole = false;
          drive = refused (Block b op) (noted (Block b op) false drive);
        }).drive.regions ≡ drive.regions
    by-test true rest = rest
    by-test false rest = refl

-- and one on a size word those of the tree
size-leaves : (rec : ℕ) (op : WordOp) (drive : Drive) →
    front_in (attempt (Word (size_word rec) op ∷ []) drive).drive ≡ front_in drive
size-leaves rec op drive =
    let one = one-word (size_word rec) op drive in
    ap front_in one.1 ∙ take-set-le 67 drive.regions (size_word rec) _ (omega arith)

-- ---- a purge

-- the part leaves the tree stored
abbrev pub KeepsStored : {A : Type 0} → Way A → Type 0
KeepsStored way = Leaves IsStored (λ a. IsStored) IsStored way

untag-stored : (ino : ℕ) (x : ℕ × ℕ) → KeepsStored (untag ino x)
untag-stored ino x =
    leave-then {Q = λ u. IsStored}
    (leave-steps (λ w stored.
    still-stored w (with_attempt (tag_kept x.1 0) w) refl
    (ap (take 67) (blocks-leave (reverse (retag_ops 0)) x.1 w.drive)) stored)
    (λ w stored. stored)) (λ u.
    leave-changes (λ w stored. still-stored w _ refl refl stored))

clear-stored : (ino rec : ℕ) → KeepsStored (clear_size ino rec)
clear-stored ino rec =
    leave-then {Q = λ u. IsStored}
    (leave-steps (λ w stored.
    still-stored w (with_attempt (Word (size_word rec) (put 0 0) ∷ []) w) refl
    (size-leaves rec (put 0 0) w.drive) stored) (λ w stored. stored)) (λ u.
    leave-then {Q = λ v. IsStored}
    (leave-changes (λ w stored. still-stored w _ refl refl stored)) (λ v.
    leave-steps (λ w stored.
    still-stored w (with_attempt (Word (size_word rec) persist ∷ []) w) refl
    (size-leaves rec persist w.drive) stored) (λ w stored. stored)))

clear-when : (test : Bool) (ino rec : ℕ) → KeepsStored (when test (clear_size ino rec))
clear-when true ino rec = clear-stored ino rec
clear-when false ino rec = leave-give (λ w stored. stored)

pub purge-stored : (ino : ℕ) → KeepsStored (purge ino)
purge-stored ino =
    leave-look (λ x.
    leave-weaker {P = IsStored} (λ w holds. holds.1) (λ u w stored. stored) (λ w stored. stored)
    (leave-then {Q = λ u. IsStored}
    (leave-changes (λ w stored. still-stored w _ refl refl stored)) (λ u.
    leave-then {Q = λ v. IsStored}
    (leave-each (blocks_ascending (file_in x ino)) (untag ino) (untag-stored ino)) (λ v.
    leave-then {Q = λ t. IsStored}
    (clear-when (not (is_size_right (file_in x ino).core 0)) ino (file_in x ino).rec) (λ t.
    leave-changes (λ w stored. still-stored w _ refl refl stored))))))
