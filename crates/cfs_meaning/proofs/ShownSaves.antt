-- A checkpoint is stored: files stay shown by their devices, and the journal and the checkpoint
-- stand for the tree, each step done or refused.
use Rattle.std.proofs.Common.{◌≡◌, ℕ, zero, suc, ◌+◌, ◌-◌, ◌<◌, ◌≤◌, Bool, true, false}
use Rattle.std.proofs.Common.{List, [], ◌∷◌, ◌++◌, length, get_or, drop, take, set, inl, inr, refl}
use Rattle.std.proofs.Common.{sym, ap, ◌∙◌, subst, arith}
use Rattle.std.specs.Prelude.{Result, nat_lt}
use Rattle.std.proofs.lemmas.Bool.{ltb-true}
use Rattle.std.proofs.lemmas.List.{append-nil, drop-set-lt, drop_all}
use Rattle.std.proofs.lemmas.List.{get_or-set_same, get_or-take}
use Rattle.std.proofs.Math.Seq.{take-set-lt}
use Rattle.cfs_dir.specs.declared.change.Change.{Change}
use Rattle.cfs_dir.specs.declared.change.Change.TheVariants as changes
use Rattle.cfs_dir.specs.Namespace.{Namespace}
use Rattle.cfs_dir.specs.Words.{table_in, table_words}
use Rattle.cfs_pmem.specs.declared.trace.Asked.{Asked}
use Rattle.cfs_pmem.specs.Images.{AllImages, IsImage, IsSetFrom, IsSure, Seen, WordStep}
use Rattle.cfs_pmem.specs.Images.{failed, kept, words_of}
use Rattle.cfs_pmem.specs.Objects.{seen_at}
use Rattle.cfs_pmem.specs.Operations.{LastFails, after_all}
use Rattle.cfs_pmem.specs.WordOps.{WordFails, WordOp, persist, puts, set_ops, word_done}
use Rattle.cfs_pmem.proofs.ImageLemmas.{all_failed, all_kept, now_is_image, sure_kept}
use Rattle.cfs_pmem.proofs.MomentLemmas.{at_end}
use Rattle.cfs_pmem.proofs.ObjectLemmas.{each_but}
use Rattle.cfs_pmem.proofs.WordLemmas.{writes_all}
use Rattle.cfs_journal.specs.Standing.{Standing}
use Rattle.cfs_journal.proofs.CutLemmas.{cut_down}
use Rattle.cfs_ckpt.specs.Loads.{CanLoad, Loaded}
use Rattle.cfs_ckpt.specs.Placed.{PlacedOp, at_place}
use Rattle.cfs_ckpt.specs.Selects.{Selects}
use Rattle.cfs_ckpt.specs.Stores.{free_copy, put_ops, select_ops, settle_ops, word_for}
use Rattle.cfs_ckpt.specs.Tables.{IsAny, table_ops}
use Rattle.cfs_ckpt.proofs.LoadLemmas.{loads_putting, loads_selecting, loads_settling}
use Rattle.cfs_ckpt.proofs.SelectLemmas.{copy_put, select_loads, select_stands, selector_stays}
use Rattle.cfs_ckpt.proofs.StoreLemmas.{told_words}
use Rattle.cfs_ckpt.proofs.TableLemmas.{length-table}
use Rattle.cfs_names.specs.Behind.{AreBehind, IsBehind}
use Rattle.cfs_names.proofs.Joint.{behind_stored}
use Rattle.cfs_names.proofs.Recovering.{behind_fresh}
use Rattle.cfs_meaning.specs.Drive.{Attempt, Drive, Op, Word, attempt, on_region, region_at, words_at}
use Rattle.cfs_meaning.specs.NameSteps.{tree_of}
use Rattle.cfs_meaning.specs.Steps.{on_tables, selector}
use Rattle.cfs_meaning.specs.World.{Names, World, with_names}
use Rattle.cfs_meaning.specs.Names.{selected, selector_settled}
use Rattle.cfs_meaning.specs.Trees.{front_in, records_in, tables_in}
use Rattle.cfs_meaning.specs.Ways.{Changes, Halt, Tries, Way, only_if, steps, unless_fault, when, ◌>>=◌, ◌>>◌}
use Rattle.cfs_meaning.proofs.Attempts.{in-order}
use Rattle.cfs_meaning.proofs.Hoare.{Leaves, leave-changes, leave-end, leave-give, leave-look}
use Rattle.cfs_meaning.proofs.Hoare.{leave-then, leave-tries}
use Rattle.cfs_meaning.proofs.RecordOps.{has-written}
use Rattle.cfs_meaning.proofs.RegionOps.{EndsWords, IsLike, as-long, ends-like, words-at}
use Rattle.cfs_meaning.proofs.ShownGates.{sets}
use Rattle.cfs_meaning.proofs.ShownRecords.{HasRoomNow, MakesRoom, set-ends}
use Rattle.cfs_meaning.proofs.ShownRegions.{with_words}
use Rattle.cfs_meaning.proofs.ShownTrees.{IsStoring, distinct-set, front-at, front-changed}
use Rattle.cfs_meaning.proofs.ShownTrees.{front-long, front-set}
use Rattle.cfs_meaning.proofs.Total.{IfEnds, with_attempt}

-- ---- operations on one table

-- operations at one place are operations on one region
pub placed-ops : (r : ℕ) (ops : List WordOp) → on_tables (at_place r ops) ≡ on_region r ops
placed-ops r [] = refl
placed-ops r (op ∷ before) =
    in-order (λ (p : PlacedOp). Word p.place p.op) (record { place = r; op = op })
    (at_place r before)
    ∙ ap (λ (list : List Op). list ++ Word r op ∷ []) (placed-ops r before)
    ∙ sym (in-order (Word r) op before)

record IsAtTable (r : ℕ) (ops : List WordOp) (world : World) (it : Attempt) : Type 0 where
  pub asked : List Asked
  pub new : Seen WordStep
  pub drive_is : it.drive ≡ with_words r new asked world.drive
  pub ends : EndsWords it.whole ops (seen_at (tables_in world.drive) r) new
  pub like : IsLike (region_at world.drive r) new
  pub alike : IsLike (seen_at (tables_in world.drive) r) new

table-at : (drive : Drive) (r : ℕ) → r < 3 → seen_at (tables_in drive) r ≡ region_at drive r
table-at drive r low =
    get_or-take 3 (front_in drive) r _ low ∙ front-at drive r (omega (arith, low))

at-table : (tree now : Namespace) (r : ℕ) (ops : List WordOp) (world : World) → r < 3 →
    IsStoring tree now world →
    IsAtTable r ops world (attempt (on_tables (at_place r ops)) world.drive)
at-table tree now r ops world low storing =
    subst (λ (list : List Op). IsAtTable r ops world (attempt list world.drive))
    (sym (placed-ops r ops))
    (let long = front-long tree world storing.stored in
    let one = words-at r ops world.drive (omega (arith, low, long)) in
    let here = table-at world.drive r low in
    let whole : Bool = (attempt (on_region r ops) world.drive).whole in
    record {
      asked = one.0;
      new = one.1;
      drive_is = one.2;
      ends = subst (λ s. EndsWords whole ops s one.1) (sym here) one.3;
      like = ends-like whole ops _ one.1 one.3;
      alike = subst (λ s. IsLike s one.1) (sym here) (ends-like whole ops _ one.1 one.3);
    })

-- ---- one table changes

-- the journal and the checkpoint stand for the tree, with this selector's word
abbrev IsAs : Namespace → ℕ → World → Type 0
IsAs tree word w = (storing : IsStoring tree tree w) × (storing.stored.word ≡ word)

table-changed : (tree : Namespace) (world : World) (r : ℕ) (new : Seen WordStep)
    (asked : List Asked) (n : Names) (word : ℕ) (changes : List Change) → r < 3 →
    IsStoring tree tree world → IsLike (region_at world.drive r) new →
    tree_of n.now ≡ tree_of world.names.now → length changes ≡ n.records →
    Standing n.through changes n.doubt (records_in world.drive) →
    Selects word n.selector_unsure (set (tables_in world.drive) r new) →
    AreBehind n.through changes tree (set (tables_in world.drive) r new) →
    IsAs tree word (record world { drive = with_words r new asked world.drive; names = n })
table-changed tree world r new asked n word changes low storing like now count standing selects
    behind =
    let below : r < 67 = omega (arith, low) in
    let drive : Drive = world.drive in
    let changed : Drive = with_words r new asked drive in
    let front = front-set drive r new asked below in
    let long = front-long tree world storing.stored in
    let tables : tables_in changed ≡ set (tables_in drive) r new =
    ap (take 3) front ∙ take-set-lt 3 (front_in drive) r new low in
    let records : records_in changed ≡ records_in drive =
    ap (drop 3) front ∙ drop-set-lt 3 (front_in drive) r new low in (
      record {
        files = front-changed world r new asked n below
            (as-long (region_at drive r) new like
            (storing.files.even.regions r _ (omega (arith, below, long)))) storing.files;
        stored = record {
          changes = changes;
          count = count;
          journal = subst (λ list. Standing n.through changes n.doubt list) (sym records) standing;
          word = word;
          selector = subst (λ list. Selects word n.selector_unsure list) (sym tables) selects;
          behind = subst (λ list. AreBehind n.through changes tree list) (sym tables) behind;
          distinct = distinct-set drive r new asked below like.devices storing.stored.distinct;
          whole = storing.stored.whole;
        };
        now_is = now ∙ storing.now_is;
      },
      refl,
    )

-- ---- between the steps of a checkpoint

pub record IsSaving (tree : Namespace) (word total : ℕ) (unsure : Bool) (world : World)
    : Type 0 where
  pub as_is : IsAs tree word world
  pub unsure_is : world.names.selector_unsure ≡ unsure
  pub total_is : world.names.through + world.names.records ≡ total

selects-of : {tree : Namespace} {word total : ℕ} {unsure : Bool} (w : World) →
    IsSaving tree word total unsure w → Selects word unsure (tables_in w.drive)
selects-of {word = word} w saving =
    subst (λ u. Selects word u (tables_in w.drive)) saving.unsure_is
    (subst (λ n. Selects n w.names.selector_unsure (tables_in w.drive)) saving.as_is.1
    saving.as_is.0.stored.selector)

-- ---- the selector is settled

-- a single operation was refused
first-failed : (old new : Seen WordStep) → EndsWords false (persist ∷ []) old new →
    new ≡ failed old
first-failed old new stops = by-left stops.left stops.within stops.state
  where
    by-left : (left : ℕ) → left < 1 →
        LastFails word_done WordFails (drop left (persist ∷ [])) old new → new ≡ failed old
    by-left zero within fails = fails
    by-left (suc n) within fails = absurd (omega (arith, within))

abbrev Settles : Namespace → ℕ → ℕ → Bool → World → Type 0
Settles tree word total true w = IsSaving tree word total false (with_names selector_settled w)
Settles tree word total false w = IsStoring tree tree w

settle-tries : (tree : Namespace) (word total : ℕ) (w : World) →
    IsSaving tree word total true w →
    Settles tree word total (attempt (on_tables (settle_ops true)) w.drive).whole
    (with_attempt (on_tables (settle_ops true)) w)
settle-tries tree word total w saving =
    by-end (attempt (on_tables (settle_ops true)) w.drive).whole
    (attempt (on_tables (settle_ops true)) w.drive).drive
    (at-table tree tree 0 (persist ∷ []) w (omega arith) saving.as_is.0)
  where
    tables : List (Seen WordStep)
    tables = tables_in w.drive

    storing : IsStoring tree tree w
    storing = saving.as_is.0

    selects : Selects word true tables
    selects = selects-of w saving

    some : 0 < length tables
    some = (let size = selects.size in omega (arith, size))

    behind : (new : Seen WordStep) → AllImages new (IsImage (seen_at tables 0).history) →
        AreBehind w.names.through storing.stored.changes tree (set tables 0 new)
    behind new images = λ x can.
        storing.stored.behind x
        (subst (CanLoad tables) can.loads
        (loads_settling tables can.images
        (each_but IsImage (IsImage (seen_at tables 0).history) 0 tables new can.images some images
        can.possible)))

    moved : (new : Seen WordStep) (asked : List Asked) (n : Names) → n.now ≡ w.names.now →
        n.through ≡ w.names.through → n.records ≡ w.names.records → n.doubt ≡ w.names.doubt →
        IsLike (region_at w.drive 0) new →
        Selects word n.selector_unsure (set tables 0 new) →
        AllImages new (IsImage (seen_at tables 0).history) →
        IsAs tree word (record w { drive = with_words 0 new asked w.drive; names = n })
    moved new asked n now through records doubt like selects_new images =
        table-changed tree w 0 new asked n word storing.stored.changes (omega arith) storing like
        (ap tree_of now) (storing.stored.count ∙ sym records)
        (subst (λ m. Standing m storing.stored.changes n.doubt (records_in w.drive)) (sym through)
        (subst (λ d. Standing w.names.through storing.stored.changes d (records_in w.drive))
        (sym doubt) storing.stored.journal)) selects_new
        (subst (λ m. AreBehind m storing.stored.changes tree (set tables 0 new)) (sym through)
        (behind new images))

    by-end : (b : Bool) (d : Drive) →
        IsAtTable 0 (persist ∷ []) w (record { whole = b; drive = d }) →
        Settles tree word total b (record w { drive = d })
    by-end true d it =
        let old : Seen WordStep = seen_at tables 0 in
        let images : AllImages it.new (IsImage old.history) =
        all_kept (IsImage old.history) old it.ends (now_is_image old.history) in
        subst (λ e. IsSaving tree word total false
        (with_names selector_settled (record w { drive = e }))) (sym it.drive_is)
        (record {
          as_is = moved it.new it.asked (selector_settled w.names) refl refl refl refl it.like
              (selector_stays false it.new selects (ap words_of it.ends) it.alike.devices
              (λ sure. sure_kept old it.ends) images) images;
          unsure_is = refl;
          total_is = saving.total_is;
        })
    by-end false d it =
        let old : Seen WordStep = seen_at tables 0 in
        let is : it.new ≡ failed old = first-failed old it.new it.ends in
        let images : AllImages it.new (IsImage old.history) =
        all_failed (IsImage old.history) old is (λ image h. h) in
        subst (λ e. IsStoring tree tree (record w { drive = e })) (sym it.drive_is)
        (moved it.new it.asked w.names refl refl refl refl it.like
        (subst (λ u. Selects word u (set tables 0 it.new)) (sym saving.unsure_is)
        (selector_stays true it.new selects (ap words_of is) it.alike.devices
        (λ wrong. absurd (cc)) images)) images).0

unless-settled : (tree : Namespace) (word total : ℕ) (ok : Bool) →
    Leaves (Settles tree word total ok)
    (λ u w. IsSaving tree word total false (with_names selector_settled w)) (IsStoring tree tree)
    (unless_fault ok)
unless-settled tree word total true = leave-give (λ w holds. holds)
unless-settled tree word total false = leave-end (λ w holds. holds)

settle-when : (tree : Namespace) (word total : ℕ) (unsure : Bool) →
    Leaves (IsSaving tree word total unsure) (λ u. IsSaving tree word total false)
    (IsStoring tree tree)
    (when unsure
    (steps (on_tables (settle_ops unsure)) >> Changes (with_names selector_settled)))
settle-when tree word total true =
    leave-then {Q = λ u w. IsSaving tree word total false (with_names selector_settled w)}
    (leave-then {Q = λ ok. Settles tree word total ok}
    (leave-tries (λ w saving. settle-tries tree word total w saving))
    (unless-settled tree word total)) (λ u.
    leave-changes (λ w saving. saving))
settle-when tree word total false = leave-give (λ w saving. saving)

-- ---- the other copy is written

-- and the copy that is not selected has the tree whole
record HasCopy (tree : Namespace) (word total : ℕ) (world : World) : Type 0 where
  pub saving : IsSaving tree word total false world
  pub sure : IsSure (seen_at (tables_in world.drive) (suc (free_copy word)))
  pub words_are : words_of (seen_at (tables_in world.drive) (suc (free_copy word)))
      ≡ table_words tree

abbrev Puts : Namespace → ℕ → ℕ → Bool → World → Type 0
Puts tree word total true w = HasCopy tree word total w
Puts tree word total false w = IsStoring tree tree w

copy-low : (word : ℕ) → suc (free_copy word) < 3
copy-low word = omega arith

-- all words of a region were written over
all-written : (words : List ℕ) (old : Seen WordStep) → length (words_of old) ≡ length words →
    words_of (after_all word_done (puts 0 words (length words)) old) ≡ words
all-written words old size =
    let fits : 0 + length words ≤ length (words_of old) = omega (arith, size) in
    let some = has-written 0 words (length words) old (omega arith) fits in
    (writes_all {T = Unit {0}} {E = Unit {0}} tt (omega arith) fits some.1).words_are
    ∙ ap (λ rest. words ++ rest) (drop_all (0 + length words) (words_of old) (omega (arith, size)))
    ∙ append-nil words

put-tries : (tree : Namespace) (word total : ℕ) (w : World) →
    IsSaving tree word total false w →
    Puts tree word total (attempt (on_tables (put_ops (free_copy word) tree)) w.drive).whole
    (with_attempt (on_tables (put_ops (free_copy word) tree)) w)
put-tries tree word total w saving =
    by-end (attempt (on_tables (put_ops (free_copy word) tree)) w.drive).whole
    (attempt (on_tables (put_ops (free_copy word) tree)) w.drive).drive
    (at-table tree tree at (table_ops (table_words tree)) w (copy-low word) saving.as_is.0)
  where
    at : ℕ
    at = suc (free_copy word)

    tables : List (Seen WordStep)
    tables = tables_in w.drive

    storing : IsStoring tree tree w
    storing = saving.as_is.0

    selects : Selects word false tables
    selects = selects-of w saving

    within : at < length tables
    within = (let size = selects.size in let low = copy-low word in omega (arith, size, low))

    long : length (words_of (seen_at tables at)) ≡ 3073
    long = selects.tables (free_copy word) (omega arith)

    moved : (b : Bool) (d : Drive)
        (it : IsAtTable at (table_ops (table_words tree)) w (record { whole = b; drive = d })) →
        IsAs tree word (record w { drive = with_words at it.new it.asked w.drive })
    moved b d it =
        table-changed tree w at it.new it.asked w.names word storing.stored.changes (copy-low word)
        storing it.like refl storing.stored.count storing.stored.journal
        (subst (λ u. Selects word u (set tables at it.new)) (sym saving.unsure_is)
        (copy_put it.new selects (it.alike.long ∙ long) it.alike.devices))
        (λ x can.
        storing.stored.behind x
        (subst (CanLoad tables) can.loads
        (loads_putting IsAny selects can.images
        (each_but IsImage IsAny at tables it.new can.images within (λ image h. tt)
        can.possible))))

    by-end : (b : Bool) (d : Drive) →
        IsAtTable at (table_ops (table_words tree)) w (record { whole = b; drive = d }) →
        Puts tree word total b (record w { drive = d })
    by-end true d it =
        let old : Seen WordStep = seen_at tables at in
        let words : List ℕ = table_words tree in
        let mid : Seen WordStep = after_all word_done (puts 0 words (length words)) old in
        let changed : Drive = with_words at it.new it.asked w.drive in
        let there : seen_at (tables_in changed) at ≡ it.new =
        table-at changed at (copy-low word)
        ∙ get_or-set_same w.drive.regions at it.new _
        (let regions = front-long tree w storing.stored in
        let low = copy-low word in omega (arith, regions, low)) in
        subst (λ e. HasCopy tree word total (record w { drive = e })) (sym it.drive_is)
        (record {
          saving = record {
            as_is = moved true d it;
            unsure_is = saving.unsure_is;
            total_is = saving.total_is;
          };
          sure = subst IsSure (sym there) (sure_kept mid it.ends);
          words_are = ap words_of (there ∙ it.ends)
              ∙ all-written words old (long ∙ sym (length-table tree));
        })
    by-end false d it =
        subst (λ e. IsStoring tree tree (record w { drive = e })) (sym it.drive_is)
        (moved false d it).0

unless-put : (tree : Namespace) (word total : ℕ) (ok : Bool) →
    Leaves (Puts tree word total ok) (λ u. HasCopy tree word total) (IsStoring tree tree)
    (unless_fault ok)
unless-put tree word total true = leave-give (λ w holds. holds)
unless-put tree word total false = leave-end (λ w holds. holds)

-- ---- the selector is set

abbrev Selected : Namespace → ℕ → Bool → World → Type 0
Selected tree total true w = HasRoomNow tree w
Selected tree total false w = IsStoring tree tree w

select-tries : (tree : Namespace) (word total : ℕ) (w : World) → total < 9223372036854775808 →
    HasCopy tree word total w →
    Selected tree total
    (attempt (on_tables (select_ops (word_for total (free_copy word)))) w.drive).whole
    (with_names (selected total
    (attempt (on_tables (select_ops (word_for total (free_copy word)))) w.drive).whole)
    (with_attempt (on_tables (select_ops (word_for total (free_copy word)))) w))
select-tries tree word total w room has =
    by-end (attempt (on_tables (select_ops wanted)) w.drive).whole
    (attempt (on_tables (select_ops wanted)) w.drive).drive
    (at-table tree tree 0 (set_ops 0 wanted) w (omega arith) storing)
  where
    wanted : ℕ
    wanted = word_for total (free_copy word)

    tables : List (Seen WordStep)
    tables = tables_in w.drive

    old : Seen WordStep
    old = seen_at tables 0

    storing : IsStoring tree tree w
    storing = has.saving.as_is.0

    held : List Change
    held = storing.stored.changes

    selects : Selects word false tables
    selects = selects-of w has.saving

    some : 0 < length tables
    some = (let size = selects.size in omega (arith, size))

    low : 0 < length (words_of old)
    low = (let one = ap (λ (ws : List ℕ). length ws) selects.selector in omega (arith, one))

    number : total ≡ w.names.through + length held
    number = (let sum = has.saving.total_is in let count = storing.stored.count in
        omega (arith, sum, count))

    told : ◌≡◌ {A = Loaded} (record {
      tree = table_in (words_of (seen_at tables (suc (free_copy word))));
      through = total;
    }) (record { tree = tree; through = total })
    told = told_words (words_of (seen_at tables (suc (free_copy word)))) tree total
        storing.stored.whole has.words_are

    -- what a crash loads behind it, where the word could not be set for sure
    still-behind : (new : Seen WordStep) → AllImages new (IsSetFrom old 0 wanted) →
        AreBehind w.names.through held tree (set tables 0 new)
    still-behind new images = λ x can.
        elim (loads_selecting total selects has.sure can.images
        (each_but IsImage (IsSetFrom old 0 wanted) 0 tables new can.images some images
        can.possible)) [
          | inl was ↦ storing.stored.behind x (subst (CanLoad tables) can.loads was)
          | inr this ↦
              subst (λ y. IsBehind w.names.through held tree y)
              (sym (sym can.loads ∙ this ∙ told
              ∙ ap (λ (n : ℕ). record { tree = tree; through = n }) number))
              (behind_stored w.names.through held tree)
        ]

    doubted : (new : Seen WordStep) (asked : List Asked) (now : ℕ) →
        IsLike (region_at w.drive 0) new → Selects now true (set tables 0 new) →
        AllImages new (IsSetFrom old 0 wanted) →
        IsStoring tree tree
        (record w { drive = with_words 0 new asked w.drive; names = selected total false w.names })
    doubted new asked now like selects_new images =
        (table-changed tree w 0 new asked (selected total false w.names) now held (omega arith)
        storing like refl storing.stored.count storing.stored.journal selects_new
        (still-behind new images)).0

    none_left : drop (total - w.names.through) held ≡ []
    none_left = drop_all (total - w.names.through) held (omega (arith, number))

    cut : Standing total [] w.names.doubt (records_in w.drive)
    cut = subst (λ left. Standing total left w.names.doubt (records_in w.drive)) none_left
        (cut_down total (changes.Remove 0 0) storing.stored.journal (omega (arith, number))
        (omega (arith, number)) room)

    by-end : (b : Bool) (d : Drive) →
        IsAtTable 0 (set_ops 0 wanted) w (record { whole = b; drive = d }) →
        Selected tree total b (with_names (selected total b) (record w { drive = d }))
    by-end true d it =
        let called = sets true 0 wanted old it.new low (set-ends true 0 wanted old it.new it.ends)
        in
        let words : words_of it.new ≡ set (words_of old) 0 wanted = ap words_of it.ends in
        subst (λ e. HasRoomNow tree
        (with_names (selected total true) (record w { drive = e }))) (sym it.drive_is) (
          (table-changed tree w 0 it.new it.asked (selected total true w.names) wanted []
              (omega arith) storing it.like refl refl cut
              (subst (λ u. Selects wanted u (set tables 0 it.new)) (sym has.saving.unsure_is)
              (select_stands tables total false it.new selects has.sure words (λ sure. called.1.sure)
              called.1))
              (behind_fresh held w.names.through total total [] number refl (sym none_left)
              (λ images each.
              select_loads tables total it.new selects has.sure called.1.sure words images each
              ∙ told))).0,
          omega arith,
        )
    by-end false d it =
        let ends = set-ends false 0 wanted old it.new it.ends in
        let called = sets false 0 wanted old it.new low ends in
        subst (λ e. IsStoring tree tree
        (with_names (selected total false) (record w { drive = e }))) (sym it.drive_is)
        (elim ends [
          | inl is ↦
              doubted it.new it.asked word it.like
              (selector_stays true it.new selects (ap words_of is) it.alike.devices
              (λ wrong. absurd (cc)) (all_failed (IsImage old.history) old is (λ image h. h)))
              (at_end called.1.moments)
          | inr is ↦
              doubted it.new it.asked wanted it.like
              (select_stands tables total true it.new selects has.sure (ap words_of is)
              (λ wrong. absurd (cc)) called.1)
              (at_end called.1.moments)
        ])

unless-selected : (tree : Namespace) (total : ℕ) (ok : Bool) →
    Leaves (Selected tree total ok) (λ u. HasRoomNow tree) (IsStoring tree tree) (unless_fault ok)
unless-selected tree total true = leave-give (λ w holds. holds)
unless-selected tree total false = leave-end (λ w holds. holds)

-- ---- the whole

-- the steps behind a look at the world
abbrev saves : Bool → ℕ → ℕ → Namespace → Way (Unit {0})
saves unsure total copy tree = do
  when unsure (steps (on_tables (settle_ops unsure)) >> Changes (with_names selector_settled))
  steps (on_tables (put_ops copy tree))
  kept ← Tries (on_tables (select_ops (word_for total copy)))
  Changes (with_names (selected total kept))
  unless_fault kept

save-shown : (tree : Namespace) (word total : ℕ) (unsure : Bool) →
    total < 9223372036854775808 →
    Leaves (IsSaving tree word total unsure) (λ u. HasRoomNow tree) (IsStoring tree tree)
    (saves unsure total (free_copy word) tree)
save-shown tree word total unsure room =
    leave-then {Q = λ u. IsSaving tree word total false} (settle-when tree word total unsure) (λ u.
    leave-then {Q = λ v. HasCopy tree word total}
    (leave-then {Q = λ ok. Puts tree word total ok}
    (leave-tries (λ w saving. put-tries tree word total w saving)) (unless-put tree word total))
    (λ v.
    leave-then {Q = λ kept w. Selected tree total kept (with_names (selected total kept) w)}
    (leave-tries (λ w has. select-tries tree word total w room has)) (λ kept.
    leave-then {Q = λ t. Selected tree total kept} (leave-changes (λ w holds. holds)) (λ t.
    unless-selected tree total kept))))

-- where the selector's word has room
if-room : {P E : World → Type 0} {Q : (Unit {0}) → World → Type 0} (b : Bool)
    {way : Way (Unit {0})} → (b ≡ true → Leaves P Q E way) → Leaves P Q E (only_if b >> way)
if-room {P = P} true one = leave-then {Q = λ u. P} (leave-give (λ w holds. holds)) (λ u. one refl)
if-room {P = P} false one =
    leave-then {Q = λ u w. ⊥} (record { by = λ old end new holds way. absurd way }) (λ u.
    record { by = λ old end new holds way. absurd holds })

pub checkpoint-shown : (tree : Namespace) → MakesRoom tree
checkpoint-shown tree =
    leave-look (λ x.
    if-room (nat_lt (x.names.through + x.names.records) 9223372036854775808) (λ fits.
    record {
      by = λ old end new holds way. known x fits (subst (IsStoring tree tree) holds.0 holds.1)
          old end new holds.0 way;
    }))
  where
    known : (x : World) →
        nat_lt (x.names.through + x.names.records) 9223372036854775808 ≡ true →
        (storing : IsStoring tree tree x) → (old : World) (end : Result (Unit {0}) Halt)
        (new : World) → old ≡ x →
        saves x.names.selector_unsure (x.names.through + x.names.records)
        (free_copy (get_or (words_at x.drive selector) 0 0)) (tree_of x.names.now) old end new →
        IfEnds (λ u. HasRoomNow tree) (IsStoring tree tree) end new
    known x fits storing old end new same way =
        let total : ℕ = x.names.through + x.names.records in
        let unsure : Bool = x.names.selector_unsure in
        let word : ℕ = storing.stored.word in
        let here : get_or (words_at x.drive selector) 0 0 ≡ word =
        ap (λ (s : Seen WordStep). get_or (words_of s) 0 0) (sym (table-at x.drive 0 (omega arith)))
        ∙ ap (λ (ws : List ℕ). get_or ws 0 0) storing.stored.selector.selector in
        (save-shown tree word total unsure
        (ltb-true total 9223372036854775808 fits)).by old end new
        (subst (IsSaving tree word total unsure) (sym same)
        (record { as_is = (storing, refl); unsure_is = refl; total_is = refl }))
        (subst (λ n. saves unsure total (free_copy n) tree old end new) here
        (subst (λ t. saves unsure total (free_copy (get_or (words_at x.drive selector) 0 0)) t old
        end new) storing.now_is way))
