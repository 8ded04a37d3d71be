-- What each call of a state leaves of the grants that its requests were asked under.
use Rattle.std.proofs.Common.{◌≡◌, ◌∙◌, ℕ, Bool, true, false, Option, Some, None}
use Rattle.std.proofs.Common.{◌==◌, ◌≢◌, ◌⊎◌, arith, suc, zero, set}
use Rattle.std.proofs.Common.{List, [], ◌∷◌, ap, inl, inr, length, refl, subst, sym}
use Rattle.std.specs.List.{list_all}
use Rattle.std.proofs.lemmas.Bool.{and_from, and_parts, cases_Bool, eq-eqb, eqb-true, ne_eqb}
use Rattle.std.proofs.lemmas.Bool.{or_from}
use Rattle.std.proofs.lemmas.Bool.{true≢false}
use Rattle.std.proofs.lemmas.List.{get_or-set_other}
use Rattle.std.proofs.lemmas.List.Folds.{list_all-append}
use Rattle.cfs_file.specs.declared.request.Request.{Request}
use Rattle.cfs_file.specs.declared.span.Span.{Span}
use Rattle.cfs_block.specs.BlockImages.{BlockStep}
use Rattle.cfs_job.specs.Views.{JobView, TileView}
use Rattle.cfs_pmem.specs.declared.trace.Asked.{Asked}
use Rattle.cfs_pmem.specs.Images.{Seen, WordStep, words_of}
use Rattle.cfs_tracker.specs.declared.cell.Cell.{Cell}
use Rattle.cfs_tracker.specs.declared.cell.Cell.TheVariants as kinds
use Rattle.cfs_tracker.specs.declared.in_doubt.InDoubt.{InDoubt}
use Rattle.cfs_tracker.specs.declared.pending.Pending.{Pending}
use Rattle.cfs_tracker.specs.Cells.{cell_at, tagged_cell}
use Rattle.cfs_tracker.specs.Dispatch.{lend}
use Rattle.cfs_tracker.specs.Finish.{home, size_after}
use Rattle.cfs_tracker.specs.Settle.{with_slots}
use Rattle.cfs_tracker.specs.View.{is_at, with_entry}
use Rattle.cfs_inode.specs.declared.mark_answer.MarkAnswer.{MarkAnswer}
use Rattle.cfs_inode.specs.declared.mark_answer.MarkAnswer.TheVariants as marks
use Rattle.cfs_inode.specs.declared.size_answer.SizeAnswer.{SizeAnswer}
use Rattle.cfs_inode.specs.declared.size_answer.SizeAnswer.TheVariants as went
use Rattle.cfs_inode.specs.Admitting.{AdmitEnd, Admits, AdmitsReady, AdmitsSettled, doubts}
use Rattle.cfs_inode.specs.Admitting.{mapped, opens, settles, too_few, too_long, unmapped, unplaced}
use Rattle.cfs_inode.specs.Admitting.{unsettled}
use Rattle.cfs_inode.specs.Backs.{tile_back, with_put_back}
use Rattle.cfs_inode.specs.Covering.{MarksEach, Try}
use Rattle.cfs_inode.specs.Dispatching.{IsTaken}
use Rattle.cfs_inode.specs.Ends.{CloseEnd, Settles, Skips, closed, failed, nothing}
use Rattle.cfs_inode.specs.Finishing.{FailsAt, Failing, FinishEnd, Finishes, SetsSize, SizesFor}
use Rattle.cfs_inode.specs.Finishing.{closing, failing, going_on, is_right, keeping, retiring}
use Rattle.cfs_inode.specs.Finishing.{unfinished, writing}
use Rattle.cfs_inode.specs.Mapping.{Tagged, TagsEach}
use Rattle.cfs_inode.specs.Marking.{Marks}
use Rattle.cfs_inode.specs.Tagging.{Blocks}
use Rattle.cfs_inode.specs.Trims.{TrimEnd, Trims, with_block_cell}
use Rattle.cfs_inode.specs.Trims as trims
use Rattle.cfs_inode.specs.View.{Seens, StateView}
use Rattle.cfs_granted.specs.Granted.{does_doubt_pass}
use Rattle.cfs_granted.specs.Lending.{holds, is_tile}
use Rattle.cfs_granted.proofs.Standing.{all-filter}

-- the grants of all entries pass the test
abbrev pub do_entries_pass : {S : Type 0} → (ℕ → Bool) → List (Pending S) → Bool
do_entries_pass test entries = list_all (λ e. test e.grant) entries

-- a block that is lent was so before, or is one of these
abbrev pub Lends : (ℕ → Type 0) → StateView → StateView → Type 0
Lends lends old new =
    (block place : ℕ) → cell_at new.tracker.cells block ≡ kinds.Lent place →
    (cell_at old.tracker.cells block ≡ kinds.Lent place) ⊎ lends block

-- The same reads are pending. Where the grants of what was pending pass a test, so do those of what
-- is. The region of the size word has as many words. Only some more blocks are lent.
pub record Granting (test : ℕ → Bool) (lends : ℕ → Type 0) (old new : StateView) : Type 0 where
  pub reads : new.tracker.reads ≡ old.tracker.reads
  pub entries : do_entries_pass test old.tracker.entries ≡ true →
      do_entries_pass test new.tracker.entries ≡ true
  pub doubt : does_doubt_pass test old.tracker.doubt ≡ true →
      does_doubt_pass test new.tracker.doubt ≡ true
  pub word : length (words_of new.size) ≡ length (words_of old.size)
  pub cells : Lends lends old new

pub granting-all : (test : ℕ → Bool) (lends : ℕ → Type 0) (old : StateView) → Granting test lends old old
granting-all test lends old = record {
  reads = refl;
  entries = λ all. all;
  doubt = λ here. here;
  word = refl;
  cells = λ block place is. inl is;
}

pub granting-to : (test : ℕ → Bool) (lends : ℕ → Type 0) (old mid new : StateView) → new ≡ mid →
    Granting test lends old mid → Granting test lends old new
granting-to test lends old mid new same granting =
    subst (λ (s : StateView). Granting test lends old s) (sym same) granting

pub granting-is : (test : ℕ → Bool) (lends : ℕ → Type 0) (old new : StateView) → new ≡ old → Granting test lends old new
granting-is test lends old new same = granting-to test lends old old new same (granting-all test lends old)

pub granting-then : (test : ℕ → Bool) (lends : ℕ → Type 0) (old mid new : StateView) → Granting test lends old mid →
    Granting test lends mid new → Granting test lends old new
granting-then test lends old mid new first second = record {
  reads = second.reads ∙ first.reads;
  entries = λ all. second.entries (first.entries all);
  doubt = λ here. second.doubt (first.doubt here);
  word = second.word ∙ first.word;
  cells = λ block place is. elim (second.cells block place is) [
    | inl before ↦ first.cells block place before
    | inr now ↦ inr now
  ];
}

-- the entries and the size word are changed alone
granting-sized : (test : ℕ → Bool) (lends : ℕ → Type 0) (old mid new : StateView) → new ≡ mid →
    mid.tracker.reads ≡ old.tracker.reads → mid.tracker.doubt ≡ old.tracker.doubt →
    length (words_of mid.size) ≡ length (words_of old.size) →
    Lends lends old mid →
    (do_entries_pass test old.tracker.entries ≡ true →
    do_entries_pass test mid.tracker.entries ≡ true) → Granting test lends old new
granting-sized test lends old mid new same reads doubt word cells entries =
    granting-to test lends old mid new same (record {
      reads = reads;
      entries = entries;
      doubt = λ here. ap (λ d. does_doubt_pass test d) doubt ∙ here;
      word = word;
      cells = cells;
    })

-- the entries alone
granting-entries : (test : ℕ → Bool) (lends : ℕ → Type 0) (old mid new : StateView) → new ≡ mid →
    mid.tracker.reads ≡ old.tracker.reads → mid.tracker.doubt ≡ old.tracker.doubt →
    mid.size ≡ old.size → Lends lends old mid →
    (do_entries_pass test old.tracker.entries ≡ true →
    do_entries_pass test mid.tracker.entries ≡ true) → Granting test lends old new
granting-entries test lends old mid new same reads doubt size cells entries =
    granting-sized test lends old mid new same reads doubt (ap (λ s. length (words_of s)) size)
    cells entries

abbrev pub is_lent : {B : Type 0} → Cell B → Bool
is_lent (kinds.Lent place) = true
is_lent _ = false

pub not-lent : {B : Type 0} (cell : Cell B) (place : ℕ) → is_lent cell ≡ false →
    cell ≡ kinds.Lent place → ⊥
not-lent cell place not is = true≢false (sym (ap (λ c. is_lent c) is) ∙ not)

-- where another block of the file is set to what is not lent
pub set-lent : {B : Type 0} (cells : List (Cell B)) (at block place : ℕ) (cell : Cell B) →
    is_lent cell ≡ false → cell_at (set cells at cell) block ≡ kinds.Lent place →
    (cell_at cells block ≡ kinds.Lent place) × (at ≢ block)
set-lent [] at block place cell not is = absurd (not-lent kinds.Hole place refl is)
set-lent (x ∷ xs) zero zero place cell not is = absurd (not-lent cell place not is)
set-lent (x ∷ xs) zero (suc block) place cell not is = (is, λ same. omega (arith, same))
set-lent (x ∷ xs) (suc at) zero place cell not is = (is, λ same. omega (arith, same))
set-lent (x ∷ xs) (suc at) (suc block) place cell not is =
    let rest = set-lent xs at block place cell not is in
    (rest.0, λ same. rest.1 (omega (arith, same)))

-- a block that is kept or given up is not lent
kept-cell : (lends : ℕ → Type 0) (old : StateView) (at : ℕ) (cell : Cell (Seen BlockStep)) →
    is_lent cell ≡ false → Lends lends old (with_block_cell at cell old)
kept-cell lends old at cell not block place is =
    inl (set-lent old.tracker.cells at block place cell not is).0

-- blocks that come home from a job are not lent, and those of others are
home-lent : (cells : List (Cell (Seen BlockStep))) (tile : Option TileView) (block place : ℕ) →
    cell_at (home (tile_back tile) cells) block ≡ kinds.Lent place →
    (cell_at cells block ≡ kinds.Lent place) × (is_tile block tile ≡ false)
home-lent cells None block place is = (is, refl)
home-lent cells (Some tile) block place is =
    let set = set-lent cells tile.at block place (kinds.Home tile.seen) refl is in
    (set.0, ne_eqb tile.at block set.1)

pub homes-lent : (cells : List (Cell (Seen BlockStep))) (job : JobView) (block place : ℕ) →
    cell_at (home (tile_back job.second) (home (tile_back job.first) cells)) block
    ≡ kinds.Lent place →
    (cell_at cells block ≡ kinds.Lent place) × (holds block job ≡ false)
homes-lent cells job block place is =
    let outer = home-lent (home (tile_back job.first) cells) job.second block place is in
    let inner = home-lent cells job.first block place outer.0 in
    (inner.0, or_from (is_tile block job.first) (is_tile block job.second) inner.1 outer.1)

-- one of them becomes another with the same grant
with-same : {S : Type 0} (test : ℕ → Bool) (place : ℕ) (change : Pending S → Pending S) →
    ((entry : Pending S) → (change entry).grant ≡ entry.grant) → (entries : List (Pending S)) →
    do_entries_pass test entries ≡ true →
    do_entries_pass test (with_entry place change entries) ≡ true
with-same test place change same [] all = refl
with-same test place change same (entry ∷ entries) all =
    let parts = and_parts (test entry.grant) (do_entries_pass test entries) all in
    elim (cases_Bool (is_at place entry)) [
      | inl here ↦ rw here (and_from (test (change entry).grant) (do_entries_pass test entries)
          (ap test (same entry) ∙ parts.0) parts.1)
      | inr there ↦ rw there (and_from (test entry.grant)
          (do_entries_pass test (with_entry place change entries)) parts.0
          (with-same test place change same entries parts.1))
    ]

-- ---- gates are closed

pub granting-skip : (test : ℕ → Bool) (lends : ℕ → Type 0) (obeys : Bool) (place : ℕ) (end : CloseEnd)
    (asked_old : List Asked) (old : StateView) (asked_new : List Asked) (new : StateView) →
    Skips obeys place end asked_old old asked_new new → Granting test lends old new
granting-skip test lends obeys place (closed slots) asked_old old asked_new new did =
    granting-entries test lends old _ new did.2.1 refl refl refl (λ block place is. inl is)
    (all-filter (λ e. test e.grant) _ old.tracker.entries)
granting-skip test lends obeys place nothing asked_old old asked_new new did =
    granting-is test lends old new did.1.1
granting-skip test lends obeys place failed asked_old old asked_new new did =
    granting-entries test lends old _ new did.3.1 refl refl refl (λ block place is. inl is)
    (with-same test place _ (λ entry. refl) old.tracker.entries)

doubt-with : (test : ℕ → Bool) (doubt : Option (InDoubt Seens)) (slots : Seens) →
    does_doubt_pass test doubt ≡ true →
    does_doubt_pass test (with_slots (Some slots) doubt) ≡ true
doubt-with test None slots here = refl
doubt-with test (Some doubt) slots here = here

pub granting-settle : (test : ℕ → Bool) (lends : ℕ → Type 0) (obeys : Bool) (end : CloseEnd) (asked_old : List Asked)
    (old : StateView) (asked_new : List Asked) (new : StateView) →
    Settles obeys end asked_old old asked_new new → Granting test lends old new
granting-settle test lends obeys (closed slots) asked_old old asked_new new did =
    granting-to test lends old _ new did.2.1
    (record { reads = refl; entries = λ all. all; doubt = λ here. refl; word = refl; cells = λ block place is. inl is })
granting-settle test lends obeys nothing asked_old old asked_new new did =
    granting-is test lends old new did.1.1
granting-settle test lends obeys failed asked_old old asked_new new did =
    granting-to test lends old _ new did.3.1 (record {
      reads = refl;
      entries = λ all. all;
      doubt = λ here. doubt-with test old.tracker.doubt did.1 here;
      word = refl;
      cells = λ block place is. inl is;
    })

pub granting-trim : (test : ℕ → Bool) (lends : ℕ → Type 0) (obeys keeps : Bool) (end : TrimEnd) (asked_old : List Asked)
    (old : StateView) (asked_new : List Asked) (new : StateView) →
    Trims obeys keeps end asked_old old asked_new new → Granting test lends old new
granting-trim test lends obeys keeps (trims.freed block) asked_old old asked_new new did =
    granting-entries test lends old _ new did.3.1.1 refl refl refl
    (kept-cell lends old did.0 kinds.Hole refl) (λ all. all)
granting-trim test lends obeys keeps trims.nothing asked_old old asked_new new did =
    granting-is test lends old new did.1.1
granting-trim test lends obeys keeps trims.failed asked_old old asked_new new did =
    granting-entries test lends old _ new did.4.1.1 refl refl refl
    (kept-cell lends old did.0 (kinds.Unsure did.2) refl) (λ all. all)

-- ---- the size word is set

-- its region has as many words as before
pub sized-same : (obeys right : Bool) (wanted : ℕ) (answer : SizeAnswer) (asked_old : List Asked)
    (old : Seen WordStep) (asked_new : List Asked) (new : Seen WordStep) →
    SetsSize obeys right wanted answer asked_old old asked_new new →
    length (words_of new) ≡ length (words_of old)
sized-same obeys true wanted went.Set asked_old old asked_new new did =
    ap (λ s. length (words_of s)) did.1
sized-same obeys false wanted went.Set asked_old old asked_new new did = did.size
sized-same obeys true wanted went.Unwritten asked_old old asked_new new did = did.0.size
sized-same obeys false wanted went.Unwritten asked_old old asked_new new did = did.0.size
sized-same obeys true wanted went.Unkept asked_old old asked_new new did = did.0.size
sized-same obeys false wanted went.Unkept asked_old old asked_new new did = did.0.size

sizes-same : (obeys : Bool) (old : StateView) (place : ℕ) (answer : SizeAnswer)
    (asked_old asked_new : List Asked) (size : Seen WordStep) →
    SizesFor obeys old place answer asked_old asked_new size →
    length (words_of size) ≡ length (words_of old.size)
sizes-same obeys old place answer asked_old asked_new size did =
    sized-same obeys
    (is_right old.tracker.stored old.tracker.is_sure (size_after old.tracker place))
    (size_after old.tracker place) answer asked_old old.size asked_new size did

-- ---- jobs

-- a block that a job is given
lend-lent : {B : Type 0} (cells : List (Cell B)) (at : Option ℕ) (taken block place : ℕ) →
    cell_at (lend taken at cells) block ≡ kinds.Lent place →
    (cell_at cells block ≡ kinds.Lent place) ⊎ (at ≡ Some block)
lend-lent cells None taken block place is = inl is
lend-lent cells (Some at) taken block place is = elim (cases_Bool (at == block)) [
  | inl same ↦ inr (ap Some (eqb-true at block same))
  | inr other ↦ inl (sym (get_or-set_other cells at block (kinds.Lent taken) kinds.Hole
      (λ equal. true≢false (sym (eq-eqb at block (sym equal)) ∙ other))) ∙ is)
]

pub granting-taken : (test : ℕ → Bool) (lends : ℕ → Type 0) (place : ℕ) (job : JobView)
    (old new : StateView) → (taken : IsTaken place job old new) →
    ((block : ℕ) → taken.first ≡ Some block → lends block) →
    ((block : ℕ) → taken.second ≡ Some block → lends block) → Granting test lends old new
granting-taken test lends place job old new taken one two =
    granting-entries test lends old _ new taken.view refl refl refl
    (λ block by is. elim (lend-lent (lend place taken.first old.tracker.cells) taken.second place block by is) [
      | inl before ↦ elim (lend-lent old.tracker.cells taken.first place block by before) [
        | inl first ↦ inl first
        | inr given ↦ inr (one block given)
      ]
      | inr given ↦ inr (two block given)
    ])
    (with-same test place _ (λ entry. refl) old.tracker.entries)

granting-failing : (test : ℕ → Bool) (lends : ℕ → Type 0) (obeys : Bool) (at : Failing) (asked_old : List Asked)
    (old : StateView) (job : JobView) (asked_new : List Asked) (new : StateView) →
    FailsAt obeys at asked_old old job asked_new new → Granting test lends old new
granting-failing test lends obeys writing asked_old old job asked_new new did =
    granting-sized test lends old _ new did.2 refl refl
    (sizes-same obeys old job.place went.Unwritten asked_old asked_new did.0 did.1)
    (λ block place is. inl (homes-lent old.tracker.cells job block place is).0)
    (with-same test job.place _ (λ entry. refl) old.tracker.entries)
granting-failing test lends obeys keeping asked_old old job asked_new new did =
    granting-sized test lends old _ new did.2 refl refl
    (sizes-same obeys old job.place went.Unkept asked_old asked_new did.0 did.1)
    (λ block place is. inl (homes-lent old.tracker.cells job block place is).0)
    (with-same test job.place _ (λ entry. refl) old.tracker.entries)
granting-failing test lends obeys closing asked_old old job asked_new new did =
    granting-sized test lends old _ new did.3 refl refl
    (sizes-same obeys old job.place went.Set asked_old did.2.asked did.0 did.2.sized)
    (λ block place is. inl (homes-lent old.tracker.cells job block place is).0)
    (with-same test job.place _ (λ entry. refl) old.tracker.entries)

pub granting-finish : (test : ℕ → Bool) (lends : ℕ → Type 0) (obeys : Bool) (end : FinishEnd) (asked_old : List Asked)
    (old : StateView) (job : JobView) (asked_new : List Asked) (new : StateView) →
    Finishes obeys end asked_old old job asked_new new → Granting test lends old new
granting-finish test lends obeys (retiring slots) asked_old old job asked_new new did =
    granting-sized test lends old _ new did.3 refl refl
    (sizes-same obeys old job.place went.Set asked_old did.2.asked did.0 did.2.sized)
    (λ block place is. inl (homes-lent old.tracker.cells job block place is).0)
    (all-filter (λ e. test e.grant) _ old.tracker.entries)
granting-finish test lends obeys going_on asked_old old job asked_new new did =
    granting-entries test lends old _ new did.3 refl refl refl (λ block place is. inl (homes-lent old.tracker.cells job block place is).0)
    (with-same test job.place _ (λ entry. refl) old.tracker.entries)
granting-finish test lends obeys (unfinished back) asked_old old job asked_new new did =
    granting-is test lends old new did.3
granting-finish test lends obeys failing asked_old old job asked_new new did =
    granting-failing test lends obeys did.0 asked_old old job asked_new new did.2

pub granting-put_back : (test : ℕ → Bool) (lends : ℕ → Type 0) (old new : StateView) (job : JobView) →
    new ≡ with_put_back old.size job old → Granting test lends old new
granting-put_back test lends old new job is =
    granting-entries test lends old _ new is refl refl refl (λ block place is. inl (homes-lent old.tracker.cells job block place is).0)
    (with-same test job.place _ (λ entry. refl) old.tracker.entries)

-- ---- admissions

tagged-not : (now : Seen BlockStep) (kept : Bool) → is_lent (tagged_cell now kept) ≡ false
tagged-not now true = refl
tagged-not now false = refl

granting-tags : (test : ℕ → Bool) (lends : ℕ → Type 0) (obeys keeps : Bool) (span : Span) (tries : List Tagged)
    (asked_old : List Asked) (stock_old : Blocks) (old : StateView) (asked_new : List Asked)
    (stock_new : Blocks) (new : StateView) →
    TagsEach obeys keeps span tries asked_old stock_old old asked_new stock_new new →
    Granting test lends old new
granting-tags test lends obeys keeps span [] asked_old stock_old old asked_new stock_new new did =
    granting-is test lends old new did.1.1
granting-tags test lends obeys keeps span (try ∷ tries) asked_old stock_old old asked_new stock_new new
    did =
    granting-then test lends old did.2 new
    (granting-entries test lends old _ did.2 did.4.0.new_is refl refl refl
    (kept-cell lends old try.block _ (tagged-not did.4.0.now try.kept)) (λ all. all))
    (granting-tags test lends obeys keeps span tries did.0 did.1 did.2 asked_new stock_new new did.4.1)

granting-mark : (test : ℕ → Bool) (lends : ℕ → Type 0) (obeys : Bool) (place : ℕ) (answer : MarkAnswer)
    (asked_old : List Asked) (old : StateView) (asked_new : List Asked) (new : StateView) →
    Marks obeys place answer asked_old old asked_new new → Granting test lends old new
granting-mark test lends obeys place marks.Marked asked_old old asked_new new did =
    granting-entries test lends old _ new did.3.1 refl refl refl (λ block place is. inl is)
    (with-same test place _ (λ entry. refl) old.tracker.entries)
granting-mark test lends obeys place marks.Nothing asked_old old asked_new new did =
    granting-is test lends old new did.1.1
granting-mark test lends obeys place marks.Failed asked_old old asked_new new did =
    granting-entries test lends old _ new did.3.1 refl refl refl (λ block place is. inl is)
    (with-same test place _ (λ entry. refl) old.tracker.entries)

granting-marks : (test : ℕ → Bool) (lends : ℕ → Type 0) (obeys : Bool) (tries : List Try) (asked_old : List Asked)
    (old : StateView) (asked_new : List Asked) (new : StateView) →
    MarksEach obeys tries asked_old old asked_new new → Granting test lends old new
granting-marks test lends obeys [] asked_old old asked_new new did = granting-is test lends old new did.1
granting-marks test lends obeys (try ∷ tries) asked_old old asked_new new did =
    granting-then test lends old did.1 new
    (granting-mark test lends obeys try.place try.answer asked_old old did.0 did.1 did.2.0)
    (granting-marks test lends obeys tries did.0 did.1 asked_new new did.2.1)

granting-ready : (test : ℕ → Bool) (lends : ℕ → Type 0) (obeys : Bool) (request : Request) (grant : ℕ) (staged : Seens)
    (asked_old : List Asked) (old : StateView) (asked_new : List Asked) (new : StateView)
    (end : AdmitEnd) → test grant ≡ true →
    AdmitsReady obeys request grant staged asked_old old asked_new new end → Granting test lends old new
granting-ready test lends obeys request grant staged asked_old old asked_new new _ passes
    (opens place marked asked mid gate covers) =
    granting-then test lends old mid new
    (granting-entries test lends old _ mid gate.2.1 refl refl refl (λ block place is. inl is)
    (λ all. list_all-append (λ e. test e.grant) old.tracker.entries _
    ∙ and_from _ _ all (and_from (test grant) true passes refl)))
    (granting-marks test lends obeys covers.tries asked mid asked_new new covers.each)
granting-ready test lends obeys request grant staged asked_old old asked_new new _ passes (doubts gate) =
    granting-to test lends old _ new gate.1.1
    (record { reads = refl; entries = λ all. all; doubt = λ here. passes; word = refl; cells = λ block place is. inl is })

granting-settled : (test : ℕ → Bool) (lends : ℕ → Type 0) (obeys tags keeps : Bool) (request : Request) (grant : ℕ)
    (staged : Seens) (asked_old : List Asked) (stock_old : Blocks) (old : StateView)
    (asked_new : List Asked) (stock_new : Blocks) (new : StateView) (end : AdmitEnd) →
    test grant ≡ true →
    AdmitsSettled obeys tags keeps request grant staged asked_old stock_old old asked_new stock_new
    new end → Granting test lends old new
granting-settled test lends obeys tags keeps request grant staged asked_old stock_old old asked_new
    stock_new new _ passes (unplaced now places stock same) = granting-is test lends old new same
granting-settled test lends obeys tags keeps request grant staged asked_old stock_old old asked_new
    stock_new new _ passes (unmapped now asked places maps) =
    granting-tags test lends tags keeps _ maps.tries asked stock_old old asked_new stock_new new maps.each
granting-settled test lends obeys tags keeps request grant staged asked_old stock_old old asked_new
    stock_new new _ passes (mapped now asked behind mid end places maps ready) =
    granting-then test lends old mid new
    (granting-tags test lends tags keeps _ maps.tries asked stock_old old behind stock_new mid maps.each)
    (granting-ready test lends obeys request grant now behind mid asked_new new end passes ready)

pub granting-admit : (test : ℕ → Bool) (lends : ℕ → Type 0) (obeys tags keeps : Bool) (request : Request) (grant : ℕ)
    (staged : Seens) (asked_old : List Asked) (stock_old : Blocks) (old : StateView)
    (asked_new : List Asked) (stock_new : Blocks) (new : StateView) (close : CloseEnd)
    (end : AdmitEnd) → test grant ≡ true →
    Admits obeys tags keeps request grant staged asked_old stock_old old asked_new stock_new new
    close end → Granting test lends old new
granting-admit test lends obeys tags keeps request grant staged asked_old stock_old old asked_new
    stock_new new _ _ passes (too_long long asked stock same) = granting-is test lends old new same
granting-admit test lends obeys tags keeps request grant staged asked_old stock_old old asked_new
    stock_new new _ _ passes (too_few fits few asked stock same) = granting-is test lends old new same
granting-admit test lends obeys tags keeps request grant staged asked_old stock_old old asked_new
    stock_new new _ _ passes (unsettled enough settle stock) =
    granting-settle test lends obeys failed asked_old old asked_new new settle
granting-admit test lends obeys tags keeps request grant staged asked_old stock_old old asked_new
    stock_new new _ _ passes (settles close asked mid end enough settle none did) =
    granting-then test lends old mid new
    (granting-settle test lends obeys close asked_old old asked mid settle)
    (granting-settled test lends obeys tags keeps request grant staged asked stock_old mid asked_new
    stock_new new end passes did)
