-- What is stored for a request leaves the files and all regions beside those of the tree.
use Rattle.std.proofs.Common.{◌≡◌, ℕ, ◌+◌, ◌<◌, ◌≤◌, Bool, true, false, List, [], ◌∷◌}
use Rattle.std.proofs.Common.{get_or, length, map, suc, refl, sym, ◌∙◌, subst, if◌then◌else◌, arith, is_some}
use Rattle.std.specs.Prelude.{reverse, ◌==◌}
use Rattle.std.proofs.lemmas.List.{get_or-set_other, length-set}
use Rattle.cfs_dir.specs.declared.change.Change.{Change}
use Rattle.cfs_dir.specs.Words.{table_words}
use Rattle.cfs_pmem.specs.WordOps.{WordOp, persist, set_ops}
use Rattle.cfs_journal.specs.Records.{record_ops}
use Rattle.cfs_journal.specs.Standing.{place}
use Rattle.cfs_ckpt.specs.Placed.{at_place}
use Rattle.cfs_ckpt.specs.Stores.{free_copy, put_ops, select_ops, settle_ops, word_for}
use Rattle.cfs_ckpt.specs.Tables.{table_ops}
use Rattle.cfs_meaning.specs.Drive.{Block, Drive, Op, Word, attempt, is_allowed, made, noted}
use Rattle.cfs_meaning.specs.Drive.{on_region, refused, region_at, words_at}
use Rattle.cfs_meaning.specs.NameSteps.{tree_of}
use Rattle.cfs_meaning.specs.Steps.{appended, journal_record, on_tables, record_closed, selector}
use Rattle.cfs_meaning.specs.World.{Names, World, with_names}
use Rattle.cfs_meaning.specs.Names.{checkpoint, store_change}
use Rattle.cfs_meaning.specs.Ways.{Changes, Now, Tries, Way, each, give, only_if, steps}
use Rattle.cfs_meaning.specs.Ways.{unless_fault, when}
use Rattle.cfs_meaning.specs.Ways.{◌>>=◌}
use Rattle.cfs_meaning.proofs.Hoare.{Leaves, leave-changes, leave-give, leave-look, leave-then}
use Rattle.cfs_meaning.proofs.Hoare.{leave-tries, leave-unless, leave-weaker}
use Rattle.cfs_meaning.proofs.ShownOpen.{leave-each}
use Rattle.cfs_meaning.proofs.ShownSaves.{placed-ops}

-- as many regions, and the same ones beside those of the tree
pub record AreSame (old new : Drive) : Type 0 where
  pub long : length new.regions ≡ length old.regions
  pub regions : (r : ℕ) → 67 ≤ r → region_at new r ≡ region_at old r

-- and the same files
pub record IsSame (old new : World) : Type 0 where
  pub drive : AreSame old.drive new.drive
  pub files : new.files ≡ old.files

pub same-itself : (world : World) → IsSame world world
same-itself world = record {
  drive = record { long = refl; regions = λ r high. refl };
  files = refl;
}

same-then : {one two three : Drive} → AreSame one two → AreSame two three → AreSame one three
same-then a b = record {
  long = b.long ∙ a.long;
  regions = λ r high. b.regions r high ∙ a.regions r high;
}

-- ---- operations on the regions of the tree

abbrev IsInFront : Op → Type 0
IsInFront (Word r op) = r < 67
IsInFront (Block b op) = ⊥

abbrev AreInFront : List Op → Type 0
AreInFront [] = Unit {0}
AreInFront (op ∷ ops) = IsInFront op × AreInFront ops

made-same : (op : Op) (drive : Drive) → IsInFront op → AreSame drive (made op drive)
made-same (Word r op) drive low = record {
  long = length-set drive.regions r _;
  regions = λ d high.
      get_or-set_other drive.regions r d _ _ (λ same. omega (arith, low, high, same));
}
made-same (Block b op) drive low = absurd low

refused-same : (op : Op) (drive : Drive) → IsInFront op → AreSame drive (refused op drive)
refused-same (Word r op) drive low = record {
  long = length-set drive.regions r _;
  regions = λ d high.
      get_or-set_other drive.regions r d _ _ (λ same. omega (arith, low, high, same));
}
refused-same (Block b op) drive low = absurd low

noted-same : (op : Op) (allowed : Bool) (drive : Drive) → AreSame drive (noted op allowed drive)
noted-same op allowed drive = record { long = refl; regions = λ r high. refl }

front-same : (ops : List Op) → AreInFront ops → (drive : Drive) →
    AreSame drive (attempt ops drive).drive
unfolding attempt
front-same [] front drive = record { long = refl; regions = λ r high. refl }
front-same (op ∷ ops) front drive =
    by-test (is_allowed op drive) (λ d. front-same ops front.1 d)
  where
    by-test : (allowed : Bool) → ((d : Drive) → AreSame d (attempt ops d).drive) →
        AreSame drive (if allowed then attempt ops (made op (noted op true drive))
        else record { whole = false; drive = refused op (noted op false drive) }).drive
    by-test true rest =
        same-then (noted-same op true drive)
        (same-then (made-same op (noted op true drive) front.0)
        (rest (made op (noted op true drive))))
    by-test false rest =
        same-then (noted-same op false drive)
        (refused-same op (noted op false drive) front.0)

words-front : (r : ℕ) (ops : List WordOp) → r < 67 → AreInFront (map (Word r) ops)
words-front r [] low = tt
words-front r (op ∷ ops) low = (low, words-front r ops low)

region-front : (r : ℕ) (ops : List WordOp) → r < 67 → AreInFront (on_region r ops)
region-front r ops low = words-front r (reverse ops) low

table-front : (r : ℕ) (ops : List WordOp) → r < 3 → AreInFront (on_tables (at_place r ops))
table-front r ops low =
    subst AreInFront (sym (placed-ops r ops)) (region-front r ops (omega (arith, low)))

-- ---- parts

abbrev KeepsRest : World → {A : Type 0} → Way A → Type 0
KeepsRest x way = Leaves (IsSame x) (λ a. IsSame x) (IsSame x) way

r-look : {x : World} {A : Type 0} {next : World → Way A} →
    ((w : World) → KeepsRest x (next w)) → KeepsRest x (Now >>= next)
r-look {x} more =
    leave-look (λ w.
    leave-weaker {P = IsSame x} (λ v holds. holds.1) (λ a v q. q) (λ v e. e) (more w))

r-give : {x : World} {A : Type 0} {a : A} → KeepsRest x (give a)
r-give = leave-give (λ w same. same)

r-tries : {x : World} (ops : List Op) → AreInFront ops → KeepsRest x (Tries ops)
r-tries ops front =
    leave-tries (λ w same. record {
      drive = same-then same.drive (front-same ops front w.drive);
      files = same.files;
    })

r-unless : {x : World} (kept : Bool) → KeepsRest x (unless_fault kept)
r-unless kept = leave-unless kept (λ w same. same) (λ w same. same)

r-steps : {x : World} (ops : List Op) → AreInFront ops → KeepsRest x (steps ops)
r-steps {x} ops front = leave-then {Q = λ kept. IsSame x} (r-tries ops front) r-unless

r-names : {x : World} (change : Names → Names) → KeepsRest x (Changes (with_names change))
r-names change = leave-changes (λ w same. record { drive = same.drive; files = same.files })

r-when : {x : World} (test : Bool) {way : Way (Unit {0})} → KeepsRest x way →
    KeepsRest x (when test way)
r-when true one = one
r-when false one = r-give

r-only : {x : World} (test : Bool) → KeepsRest x (only_if test)
r-only true = r-give
r-only false = record { by = λ old end new holds way. absurd way }

settle-front : (unsure : Bool) → AreInFront (on_tables (settle_ops unsure))
settle-front true = table-front 0 (persist ∷ []) (omega arith)
settle-front false = tt

r-checkpoint : (x : World) → KeepsRest x checkpoint
r-checkpoint x =
    r-look (λ w.
    leave-then {Q = λ u. IsSame x} (r-only _) (λ u.
    leave-then {Q = λ u. IsSame x}
    (r-when w.names.selector_unsure
    (leave-then {Q = λ u. IsSame x}
    (r-steps (on_tables (settle_ops w.names.selector_unsure))
    (settle-front w.names.selector_unsure)) (λ v. r-names _))) (λ u.
    leave-then {Q = λ u. IsSame x}
    (r-steps (on_tables (put_ops (free_copy (get_or (words_at w.drive selector) 0 0))
    (tree_of w.names.now)))
    (table-front (suc (free_copy (get_or (words_at w.drive selector) 0 0)))
    (table_ops (table_words (tree_of w.names.now))) (omega arith))) (λ u.
    leave-then {Q = λ u. IsSame x}
    (r-tries (on_tables (select_ops (word_for (w.names.through + w.names.records)
    (free_copy (get_or (words_at w.drive selector) 0 0)))))
    (table-front 0 (set_ops 0 (word_for (w.names.through + w.names.records)
    (free_copy (get_or (words_at w.drive selector) 0 0)))) (omega arith))) (λ kept.
    leave-then {Q = λ u. IsSame x} (r-names _) (λ u. r-unless kept))))))

record-front : (through k : ℕ) (ops : List WordOp) →
    AreInFront (on_region (journal_record (place through k)) ops)
record-front through k ops = region-front (journal_record (place through k)) ops (omega arith)

pub r-store : (x : World) (change : Change) → KeepsRest x (store_change change)
r-store x change =
    r-look (λ w.
    leave-then {Q = λ u. IsSame x} (r-when (w.names.records == 64) (r-checkpoint x)) (λ u.
    r-look (λ ready.
    leave-then {Q = λ u. IsSame x}
    (r-when (is_some ready.names.doubt)
    (leave-then {Q = λ u. IsSame x}
    (r-steps (record_closed ready.names.through ready.names.records)
    (record-front ready.names.through ready.names.records (set_ops 0 0))) (λ v. r-names _))) (λ u.
    leave-then {Q = λ u. IsSame x}
    (r-tries (appended ready.names.through ready.names.records change)
    (record-front ready.names.through ready.names.records
    (record_ops (ready.names.through + ready.names.records + 1) change))) (λ kept.
    leave-then {Q = λ u. IsSame x} (r-names _) (λ u. r-unless kept))))))

pub r-stores : (x : World) (list : List Change) → KeepsRest x (each list store_change)
r-stores x list = leave-each list store_change (λ change. r-store x change)
