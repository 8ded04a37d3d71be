-- A change is stored: files stay shown by their devices, and the journal and the checkpoint stand
-- for the tree behind it, or where a step was refused, for the tree before it.
use Rattle.std.proofs.Common.{◌≡◌, ℕ, zero, suc, ◌+◌, ◌<◌, Bool, true, false, Option, Some, None}
use Rattle.std.proofs.Common.{List, [], ◌∷◌, ◌++◌, length, inl, inr, refl, sym, ap, ◌∙◌, subst, arith}
use Rattle.std.proofs.Common.{drop, is_some, set}
use Rattle.std.specs.Prelude.{◌==◌}
use Rattle.std.proofs.lemmas.Bool.{cases_lt, eqb-false}
use Rattle.std.proofs.lemmas.List.{length-append}
use Rattle.cfs_dir.specs.declared.change.Change.{Change}
use Rattle.cfs_dir.specs.Change.{IsTellable, changed}
use Rattle.cfs_dir.specs.Namespace.{Namespace}
use Rattle.cfs_dir.specs.Tree.{IsTree}
use Rattle.cfs_pmem.specs.declared.trace.Asked.{Asked}
use Rattle.cfs_pmem.specs.Images.{Seen, WordStep}
use Rattle.cfs_pmem.specs.Objects.{seen_at}
use Rattle.cfs_pmem.specs.Operations.{LastFails}
use Rattle.cfs_pmem.specs.WordOps.{WordFails, WordOp, set_ops, word_done}
use Rattle.cfs_journal.specs.Records.{record_ops}
use Rattle.cfs_journal.specs.Standing.{Standing, place}
use Rattle.cfs_names.specs.Behind.{AreBehind}
use Rattle.cfs_names.proofs.Joint.{behind_appended}
use Rattle.cfs_meaning.specs.Drive.{Attempt, Drive, attempt, on_region, region_at}
use Rattle.cfs_meaning.specs.Steps.{appended, journal_record, record_closed}
use Rattle.cfs_meaning.specs.World.{Names, World, with_names}
use Rattle.cfs_meaning.specs.Names.{checkpoint, doubt_settled, recorded, store_change}
use Rattle.cfs_meaning.specs.Trees.{records_in, tables_in}
use Rattle.cfs_meaning.specs.Ways.{Changes, steps, unless_fault, when, ◌>>◌}
use Rattle.cfs_meaning.proofs.Hoare.{Leaves, leave-changes, leave-end, leave-give, leave-look}
use Rattle.cfs_meaning.proofs.Hoare.{leave-then, leave-tries, leave-weaker}
use Rattle.cfs_meaning.proofs.RecordOps.{Appended, Settled, closed-stands, record-stands}
use Rattle.cfs_meaning.proofs.RegionOps.{EndsWords, IsLike, ends-like, words-at}
use Rattle.cfs_meaning.proofs.ShownGates.{EndsSet}
use Rattle.cfs_meaning.proofs.ShownRegions.{with_words}
use Rattle.cfs_meaning.proofs.ShownTrees.{IsBeside, IsStoring, front-long, record-at, record-changed}
use Rattle.cfs_meaning.proofs.Total.{with_attempt}

-- ---- the next record

-- the next record of a journal that has room for it
pub record IsReady (tree now : Namespace) (through records : ℕ) (world : World) : Type 0 where
  pub storing : IsStoring tree now world
  pub through_is : world.names.through ≡ through
  pub records_is : world.names.records ≡ records
  pub room : records < 64

-- and no change is in doubt
pub record IsClear (tree now : Namespace) (through records : ℕ) (world : World) : Type 0 where
  pub ready : IsReady tree now through records world
  pub settled : world.names.doubt ≡ None

-- what a list of operations does to the region of the next record
record IsAtNext (tree now : Namespace) (through records : ℕ) (ops : List WordOp) (world : World)
    (it : Attempt) : Type 0 where
  pub p : ℕ
  pub low : p < 64
  pub asked : List Asked
  pub new : Seen WordStep
  pub drive_is : it.drive ≡ with_words (3 + p) new asked world.drive
  pub ends : EndsWords it.whole ops (region_at world.drive (3 + p)) new
  pub like : IsLike (region_at world.drive (3 + p)) new
  pub here : seen_at (records_in world.drive) p ≡ region_at world.drive (3 + p)
  pub place_is : (ready : IsReady tree now through records world) →
      p ≡ place world.names.through (length ready.storing.stored.changes)

at-next : (tree now : Namespace) (through records : ℕ) (ops : List WordOp) (world : World) →
    IsReady tree now through records world →
    IsAtNext tree now through records ops world
    (attempt (on_region (journal_record (place through records)) ops) world.drive)
at-next tree now through records ops world ready =
    let p : ℕ = place through records in
    let low : p < 64 = omega arith in
    let long = front-long tree world ready.storing.stored in
    let one = words-at (3 + p) ops world.drive (omega (arith, low, long)) in
    record {
      p = p;
      low = low;
      asked = one.0;
      new = one.1;
      drive_is = one.2;
      ends = one.3;
      like = ends-like (attempt (on_region (3 + p) ops) world.drive).whole ops _ one.1 one.3;
      here = record-at world.drive p low;
      place_is = λ again.
          ap (λ n. place n records) (sym again.through_is)
          ∙ ap (place world.names.through) (sym again.records_is)
          ∙ ap (place world.names.through) (sym again.storing.stored.count);
    }

-- ---- the record in doubt is closed

pub set-ends : (ok : Bool) (at word : ℕ) (old new : Seen WordStep) →
    EndsWords ok (set_ops at word) old new → EndsSet ok at word old new
set-ends true at word old new is = is
set-ends false at word old new stops = by-left stops.left stops.within stops.state
  where
    by-left : (left : ℕ) → left < 2 →
        LastFails word_done WordFails (drop left (set_ops at word)) old new →
        EndsSet false at word old new
    by-left zero within fails = inr fails
    by-left (suc zero) within fails = inl fails
    by-left (suc (suc n)) within fails = absurd (omega (arith, within))

abbrev Closes : Namespace → Namespace → ℕ → ℕ → Bool → World → Type 0
Closes tree now through records true w =
    IsClear tree now through records (with_names doubt_settled w)
Closes tree now through records false w = IsStoring tree now w

close-tries : (tree now : Namespace) (through records : ℕ) (w : World) →
    IsReady tree now through records w →
    Closes tree now through records (attempt (record_closed through records) w.drive).whole
    (with_attempt (record_closed through records) w)
close-tries tree now through records w ready =
    by-end (attempt (record_closed through records) w.drive).whole
    (attempt (record_closed through records) w.drive).drive
    (at-next tree now through records (set_ops 0 0) w ready)
  where
    changes : List Change
    changes = ready.storing.stored.changes

    less : length changes < 64
    less = (let count = ready.storing.stored.count in let same = ready.records_is in
        let room = ready.room in omega (arith, count, same, room))

    by-end : (b : Bool) (d : Drive) →
        IsAtNext tree now through records (set_ops 0 0) w (record { whole = b; drive = d }) →
        Closes tree now through records b (record w { drive = d })
    by-end b d next =
        subst (λ e. Closes tree now through records b (record w { drive = e })) (sym next.drive_is)
        (stood b
        (closed-stands b w.names.through changes w.names.doubt (records_in w.drive) next.new
        ready.storing.stored.journal less
        (subst (λ (s : Seen WordStep). EndsSet b 0 0 s next.new) here
        (set-ends b 0 0 (region_at w.drive (3 + next.p)) next.new next.ends))
        (subst (λ (s : Seen WordStep). IsLike s next.new) here next.like)))
      where
        here : region_at w.drive (3 + next.p)
            ≡ seen_at (records_in w.drive) (place w.names.through (length changes))
        here = sym next.here ∙ ap (seen_at (records_in w.drive)) (next.place_is ready)

        moved : (n : Names) → IsBeside w.names n → n.through ≡ w.names.through →
            n.records ≡ w.names.records →
            Standing w.names.through changes n.doubt
            (set (records_in w.drive) (place w.names.through (length changes)) next.new) →
            IsStoring tree now
            (record w { drive = with_words (3 + next.p) next.new next.asked w.drive; names = n })
        moved n beside same count standing =
            record-changed tree tree now w next.p next.new next.asked n changes next.low
            ready.storing next.like beside (ready.storing.stored.count ∙ sym count)
            (subst (λ m. Standing m changes n.doubt (set (records_in w.drive) next.p next.new))
            (sym same)
            (subst (λ q. Standing w.names.through changes n.doubt
            (set (records_in w.drive) q next.new)) (sym (next.place_is ready)) standing))
            (subst (λ m. AreBehind m changes tree (tables_in w.drive)) (sym same)
            ready.storing.stored.behind) ready.storing.stored.whole

        stood : (b : Bool) →
            Settled b w.names.through changes w.names.doubt
            (set (records_in w.drive) (place w.names.through (length changes)) next.new) →
            Closes tree now through records b
            (record w { drive = with_words (3 + next.p) next.new next.asked w.drive })
        stood true standing = record {
          ready = record {
            storing = moved (doubt_settled w.names) (record { now = refl; unsure = refl }) refl refl
                standing;
            through_is = ready.through_is;
            records_is = ready.records_is;
            room = ready.room;
          };
          settled = refl;
        }
        stood false standing =
            moved w.names (record { now = refl; unsure = refl }) refl refl standing

unless-closed : (tree now : Namespace) (through records : ℕ) (ok : Bool) →
    Leaves (Closes tree now through records ok)
    (λ u w. IsClear tree now through records (with_names doubt_settled w)) (IsStoring tree now)
    (unless_fault ok)
unless-closed tree now through records true = leave-give (λ w holds. holds)
unless-closed tree now through records false = leave-end (λ w holds. holds)

close-record : (tree now : Namespace) (through records : ℕ) →
    Leaves (IsReady tree now through records) (λ u. IsClear tree now through records)
    (IsStoring tree now)
    (steps (record_closed through records) >> Changes (with_names doubt_settled))
close-record tree now through records =
    leave-then {Q = λ u w. IsClear tree now through records (with_names doubt_settled w)}
    (leave-then {Q = λ ok. Closes tree now through records ok}
    (leave-tries (λ w ready. close-tries tree now through records w ready))
    (unless-closed tree now through records)) (λ u.
    leave-changes (λ w clear. clear))

close-when : (tree now : Namespace) (through records : ℕ) (doubt : Option Change) →
    Leaves (λ w. (w.names.doubt ≡ doubt) × IsReady tree now through records w)
    (λ u. IsClear tree now through records) (IsStoring tree now)
    (when (is_some doubt)
    (steps (record_closed through records) >> Changes (with_names doubt_settled)))
close-when tree now through records None =
    leave-give (λ w holds. record { ready = holds.1; settled = holds.0 })
close-when tree now through records (Some change) =
    leave-weaker {P = IsReady tree now through records} (λ w holds. holds.1) (λ u w q. q)
    (λ w e. e) (close-record tree now through records)

-- ---- the next record is written

abbrev Records : Namespace → Namespace → Change → Bool → World → Type 0
Records tree now change true w = IsStoring (changed tree change) now w
Records tree now change false w = IsStoring tree now w

append-tries : (tree now : Namespace) (through records : ℕ) (change : Change) (w : World) →
    IsTellable change → IsTree (changed tree change).nodes (changed tree change).next →
    IsClear tree now through records w →
    Records tree now change (attempt (appended through records change) w.drive).whole
    (with_names (recorded change (attempt (appended through records change) w.drive).whole)
    (with_attempt (appended through records change) w))
append-tries tree now through records change w tellable whole clear =
    by-end (attempt (appended through records change) w.drive).whole
    (attempt (appended through records change) w.drive).drive
    (at-next tree now through records (record_ops (through + records + 1) change) w clear.ready)
  where
    ready : IsReady tree now through records w
    ready = clear.ready

    changes : List Change
    changes = ready.storing.stored.changes

    less : length changes < 64
    less = (let count = ready.storing.stored.count in let same = ready.records_is in
        let room = ready.room in omega (arith, count, same, room))

    number : through + records + 1 ≡ w.names.through + length changes + 1
    number = (let count = ready.storing.stored.count in let same = ready.records_is in
        let from = ready.through_is in omega (arith, count, same, from))

    journal : Standing w.names.through changes None (records_in w.drive)
    journal = subst (λ d. Standing w.names.through changes d (records_in w.drive)) clear.settled
        ready.storing.stored.journal

    by-end : (b : Bool) (d : Drive) →
        IsAtNext tree now through records (record_ops (through + records + 1) change) w
        (record { whole = b; drive = d }) →
        Records tree now change b (with_names (recorded change b) (record w { drive = d }))
    by-end b d next =
        subst (λ e. Records tree now change b
        (with_names (recorded change b) (record w { drive = e }))) (sym next.drive_is)
        (stood b
        (record-stands b w.names.through changes change (records_in w.drive) next.new journal less
        tellable
        (subst (λ (s : Seen WordStep).
        EndsWords b (record_ops (w.names.through + length changes + 1) change) s next.new) here
        (subst (λ n. EndsWords b (record_ops n change) (region_at w.drive (3 + next.p)) next.new)
        number next.ends))))
      where
        here : region_at w.drive (3 + next.p)
            ≡ seen_at (records_in w.drive) (place w.names.through (length changes))
        here = sym next.here ∙ ap (seen_at (records_in w.drive)) (next.place_is ready)

        moved : (after : Namespace) (more : List Change) (n : Names) → IsBeside w.names n →
            n.through ≡ w.names.through → length more ≡ n.records →
            Standing w.names.through more n.doubt
            (set (records_in w.drive) (place w.names.through (length changes)) next.new) →
            AreBehind w.names.through more after (tables_in w.drive) →
            IsTree after.nodes after.next → IsStoring after now
            (record w { drive = with_words (3 + next.p) next.new next.asked w.drive; names = n })
        moved after more n beside same count standing behind stays =
            record-changed tree after now w next.p next.new next.asked n more next.low
            ready.storing next.like beside count
            (subst (λ m. Standing m more n.doubt (set (records_in w.drive) next.p next.new))
            (sym same)
            (subst (λ q. Standing w.names.through more n.doubt
            (set (records_in w.drive) q next.new)) (sym (next.place_is ready)) standing))
            (subst (λ m. AreBehind m more after (tables_in w.drive)) (sym same) behind) stays

        stood : (b : Bool) →
            Appended b w.names.through changes change
            (set (records_in w.drive) (place w.names.through (length changes)) next.new) →
            Records tree now change b
            (with_names (recorded change b)
            (record w { drive = with_words (3 + next.p) next.new next.asked w.drive }))
        stood true standing =
            moved (changed tree change) (changes ++ change ∷ []) (recorded change true w.names)
            (record { now = refl; unsure = refl }) refl
            (length-append changes (change ∷ [])
            ∙ ap (λ n. n + 1) ready.storing.stored.count)
            (subst (λ d. Standing w.names.through (changes ++ change ∷ []) d
            (set (records_in w.drive) (place w.names.through (length changes)) next.new))
            (sym clear.settled) standing)
            (λ x can. behind_appended change (ready.storing.stored.behind x can)) whole
        stood false standing =
            moved tree changes (recorded change false w.names)
            (record { now = refl; unsure = refl }) refl ready.storing.stored.count standing
            ready.storing.stored.behind ready.storing.stored.whole

-- ---- the whole

-- room is made for one more record
abbrev pub HasRoomNow : Namespace → World → Type 0
HasRoomNow tree w = IsStoring tree tree w × (w.names.records < 64)

abbrev pub MakesRoom : Namespace → Type 0
MakesRoom tree =
    Leaves (IsStoring tree tree) (λ u. HasRoomNow tree) (IsStoring tree tree) checkpoint

make-room : (tree : Namespace) (x : World) (b : Bool) → (x.names.records == 64) ≡ b →
    MakesRoom tree →
    Leaves (λ w. (w ≡ x) × IsStoring tree tree w) (λ u. HasRoomNow tree) (IsStoring tree tree)
    (when b checkpoint)
make-room tree x true is makes =
    leave-weaker {P = IsStoring tree tree} (λ w holds. holds.1) (λ u w q. q) (λ w e. e) makes
make-room tree x false is makes = leave-give (λ w holds. (holds.1, less w holds.0 holds.1))
  where
    less : (w : World) → w ≡ x → IsStoring tree tree w → w.names.records < 64
    less w same storing =
        let few = storing.stored.journal.few in
        let count = storing.stored.count in
        let records : w.names.records ≡ x.names.records = ap (λ (v : World). v.names.records) same
        in
        elim (cases_lt w.names.records 64) [
          | inl room ↦ room
          | inr full ↦
              absurd (eqb-false x.names.records 64 is (omega (arith, few, count, records, full)))
        ]

unless-kept : (tree : Namespace) (change : Change) (kept : Bool) →
    Leaves (Records tree tree change kept) (λ u. IsStoring (changed tree change) tree)
    (IsStoring tree tree) (unless_fault kept)
unless-kept tree change true = leave-give (λ w holds. holds)
unless-kept tree change false = leave-end (λ w holds. holds)

pub store-shown : (tree : Namespace) (change : Change) → IsTellable change →
    IsTree (changed tree change).nodes (changed tree change).next → MakesRoom tree →
    Leaves (IsStoring tree tree) (λ u. IsStoring (changed tree change) tree) (IsStoring tree tree)
    (store_change change)
store-shown tree change tellable whole makes =
    leave-look (λ x.
    leave-then {Q = λ u. HasRoomNow tree}
    (make-room tree x (x.names.records == 64) refl makes) (λ u.
    leave-look (λ y.
    leave-then {Q = λ v. IsClear tree tree y.names.through y.names.records}
    (leave-weaker
    {P = λ w. (w.names.doubt ≡ y.names.doubt)
    × IsReady tree tree y.names.through y.names.records w}
    (λ w holds. (
      ap (λ (v : World). v.names.doubt) holds.0,
      record {
        storing = holds.1.0;
        through_is = ap (λ (v : World). v.names.through) holds.0;
        records_is = ap (λ (v : World). v.names.records) holds.0;
        room = subst (λ (v : World). v.names.records < 64) holds.0 holds.1.1;
      },
    )) (λ v w q. q) (λ w e. e)
    (close-when tree tree y.names.through y.names.records y.names.doubt)) (λ v.
    leave-then {Q = λ kept w. Records tree tree change kept (with_names (recorded change kept) w)}
    (leave-tries (λ w clear.
    append-tries tree tree y.names.through y.names.records change w tellable whole clear)) (λ kept.
    leave-then {Q = λ t. Records tree tree change kept} (leave-changes (λ w holds. holds)) (λ t.
    unless-kept tree change kept))))))
