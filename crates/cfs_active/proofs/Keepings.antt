-- What each call of a state leaves of its number, of the slots in doubt and of the words of its
-- size region.
use Rattle.std.proofs.Common.{◌≡◌, ◌∙◌, ℕ, Bool, true, false, Option, Some, None}
use Rattle.std.proofs.Common.{List, [], ◌∷◌, ap, length, refl, subst, sym}
use Rattle.cfs_file.specs.declared.request.Request.{Request}
use Rattle.cfs_file.specs.declared.span.Span.{Span}
use Rattle.cfs_job.specs.Views.{JobView}
use Rattle.cfs_pmem.specs.declared.trace.Asked.{Asked}
use Rattle.cfs_pmem.specs.Images.{Seen, WordStep, words_of}
use Rattle.cfs_tracker.specs.declared.in_doubt.InDoubt.{InDoubt}
use Rattle.cfs_tracker.specs.Finish.{size_after}
use Rattle.cfs_tracker.specs.Settle.{with_slots}
use Rattle.cfs_inode.specs.declared.answers.ServeAnswer.{ServeAnswer}
use Rattle.cfs_inode.specs.declared.answers.ServeAnswer.TheVariants as serves
use Rattle.cfs_inode.specs.declared.mark_answer.MarkAnswer.{MarkAnswer}
use Rattle.cfs_inode.specs.declared.mark_answer.MarkAnswer.TheVariants as marks
use Rattle.cfs_inode.specs.declared.size_answer.SizeAnswer.{SizeAnswer}
use Rattle.cfs_inode.specs.declared.size_answer.SizeAnswer.TheVariants as went
use Rattle.cfs_inode.specs.Admitting.{AdmitEnd, Admits, AdmitsReady, AdmitsSettled, doubts, is_here}
use Rattle.cfs_inode.specs.Admitting.{mapped, opens, settles, too_few, too_long, unmapped, unplaced}
use Rattle.cfs_inode.specs.Admitting.{unsettled}
use Rattle.cfs_inode.specs.Covering.{MarksEach, Try}
use Rattle.cfs_inode.specs.Dispatching.{IsTaken}
use Rattle.cfs_inode.specs.Ends.{CloseEnd, Settles, Skips, closed, failed, nothing}
use Rattle.cfs_inode.specs.Finishing.{FailsAt, Failing, FinishEnd, Finishes, SetsSize, closing}
use Rattle.cfs_inode.specs.Finishing.{SizesFor, failing, going_on, is_right, keeping, retiring}
use Rattle.cfs_inode.specs.Finishing.{unfinished, writing}
use Rattle.cfs_inode.specs.Mapping.{Tagged, TagsEach}
use Rattle.cfs_inode.specs.Marking.{Marks}
use Rattle.cfs_inode.specs.Serves.{Serves}
use Rattle.cfs_inode.specs.Tagging.{Blocks}
use Rattle.cfs_inode.specs.Trims.{TrimEnd, Trims}
use Rattle.cfs_inode.specs.Trims as trims
use Rattle.cfs_inode.specs.View.{Seens, StateView}

pub record Keeps (old new : StateView) : Type 0 where
  pub ino : new.ino ≡ old.ino
  pub here : is_here old.tracker.doubt ≡ true → is_here new.tracker.doubt ≡ true
  pub size : length (words_of new.size) ≡ length (words_of old.size)

-- all three are as they were
pub keeps-all : (old : StateView) → Keeps old old
keeps-all old = record { ino = refl; here = λ here. here; size = refl }

pub keeps-to : (old mid new : StateView) → new ≡ mid → Keeps old mid → Keeps old new
keeps-to old mid new same keeps = subst (λ (s : StateView). Keeps old s) (sym same) keeps

pub keeps-is : (old new : StateView) → new ≡ old → Keeps old new
keeps-is old new same = keeps-to old old new same (keeps-all old)

pub keeps-then : (old mid new : StateView) → Keeps old mid → Keeps mid new → Keeps old new
keeps-then old mid new first second = record {
  ino = second.ino ∙ first.ino;
  here = λ here. second.here (first.here here);
  size = second.size ∙ first.size;
}

-- the same number, slots in doubt and size region
pub keeps-same : (old mid new : StateView) → new ≡ mid → mid.ino ≡ old.ino →
    mid.tracker.doubt ≡ old.tracker.doubt → mid.size ≡ old.size → Keeps old new
keeps-same old mid new same ino doubt size = keeps-to old mid new same (record {
  ino = ino;
  here = λ here. ap (λ d. is_here d) doubt ∙ here;
  size = ap (λ s. length (words_of s)) size;
})

-- ---- gates are closed

here-with : (doubt : Option (InDoubt Seens)) (slots : Seens) →
    is_here (with_slots (Some slots) doubt) ≡ true
here-with None slots = refl
here-with (Some doubt) slots = refl

pub keeps-skip : (obeys : Bool) (place : ℕ) (end : CloseEnd) (asked_old : List Asked)
    (old : StateView) (asked_new : List Asked) (new : StateView) →
    Skips obeys place end asked_old old asked_new new → Keeps old new
keeps-skip obeys place (closed slots) asked_old old asked_new new did =
    keeps-same old _ new did.2.1 refl refl refl
keeps-skip obeys place nothing asked_old old asked_new new did = keeps-is old new did.1.1
keeps-skip obeys place failed asked_old old asked_new new did =
    keeps-same old _ new did.3.1 refl refl refl

pub keeps-settle : (obeys : Bool) (end : CloseEnd) (asked_old : List Asked) (old : StateView)
    (asked_new : List Asked) (new : StateView) → Settles obeys end asked_old old asked_new new →
    Keeps old new
keeps-settle obeys (closed slots) asked_old old asked_new new did =
    keeps-to old _ new did.2.1 (record { ino = refl; here = λ here. refl; size = refl })
keeps-settle obeys nothing asked_old old asked_new new did = keeps-is old new did.1.1
keeps-settle obeys failed asked_old old asked_new new did = keeps-to old _ new did.3.1 (record {
  ino = refl;
  here = λ here. here-with old.tracker.doubt did.1;
  size = refl;
})

pub keeps-trim : (obeys keeps : Bool) (end : TrimEnd) (asked_old : List Asked) (old : StateView)
    (asked_new : List Asked) (new : StateView) → Trims obeys keeps end asked_old old asked_new new →
    Keeps old new
keeps-trim obeys keeps (trims.freed block) asked_old old asked_new new did =
    keeps-same old _ new did.3.1.1 refl refl refl
keeps-trim obeys keeps trims.nothing asked_old old asked_new new did = keeps-is old new did.1.1
keeps-trim obeys keeps trims.failed asked_old old asked_new new did =
    keeps-same old _ new did.4.1.1 refl refl refl

-- ---- reads

pub keeps-serve : (obeys : Bool) (place : ℕ) (answer : ServeAnswer) (bytes : List ℕ)
    (asked_old : List Asked) (old : StateView) (asked_new : List Asked) (new : StateView) →
    Serves obeys place answer bytes asked_old old asked_new new → Keeps old new
keeps-serve obeys place serves.Served bytes asked_old old asked_new new did =
    keeps-same old _ new did.1.1.0 refl refl refl
keeps-serve obeys place (serves.NotYet before) bytes asked_old old asked_new new did =
    keeps-is old new did.1.1
keeps-serve obeys place serves.Failed bytes asked_old old asked_new new did =
    keeps-is old new did.1.0

-- ---- jobs

pub keeps-taken : (place : ℕ) (job : JobView) (old new : StateView) → IsTaken place job old new →
    Keeps old new
keeps-taken place job old new taken = keeps-same old _ new taken.view refl refl refl

-- the region of the size word has as many words as before
sized-same : (obeys right : Bool) (wanted : ℕ) (answer : SizeAnswer) (asked_old : List Asked)
    (old : Seen WordStep) (asked_new : List Asked) (new : Seen WordStep) →
    SetsSize obeys right wanted answer asked_old old asked_new new →
    length (words_of new) ≡ length (words_of old)
sized-same obeys true wanted went.Set asked_old old asked_new new did =
    ap (λ s. length (words_of s)) did.1
sized-same obeys false wanted went.Set asked_old old asked_new new did = did.size
sized-same obeys true wanted went.Unwritten asked_old old asked_new new did = did.0.size
sized-same obeys false wanted went.Unwritten asked_old old asked_new new did = did.0.size
sized-same obeys true wanted went.Unkept asked_old old asked_new new did = did.0.size
sized-same obeys false wanted went.Unkept asked_old old asked_new new did = did.0.size

sizes-same : (obeys : Bool) (old : StateView) (place : ℕ) (answer : SizeAnswer)
    (asked_old asked_new : List Asked) (size : Seen WordStep) →
    SizesFor obeys old place answer asked_old asked_new size →
    length (words_of size) ≡ length (words_of old.size)
sizes-same obeys old place answer asked_old asked_new size did =
    sized-same obeys
    (is_right old.tracker.stored old.tracker.is_sure (size_after old.tracker place))
    (size_after old.tracker place) answer asked_old old.size asked_new size did

-- the same number and slots in doubt, and a region with as many words
keeps-sized : (old mid new : StateView) → new ≡ mid → mid.ino ≡ old.ino →
    mid.tracker.doubt ≡ old.tracker.doubt →
    length (words_of mid.size) ≡ length (words_of old.size) → Keeps old new
keeps-sized old mid new same ino doubt size = keeps-to old mid new same (record {
  ino = ino;
  here = λ here. ap (λ d. is_here d) doubt ∙ here;
  size = size;
})

keeps-failing : (obeys : Bool) (at : Failing) (asked_old : List Asked) (old : StateView)
    (job : JobView) (asked_new : List Asked) (new : StateView) →
    FailsAt obeys at asked_old old job asked_new new → Keeps old new
keeps-failing obeys writing asked_old old job asked_new new did =
    keeps-sized old _ new did.2 refl refl
    (sizes-same obeys old job.place went.Unwritten asked_old asked_new did.0 did.1)
keeps-failing obeys keeping asked_old old job asked_new new did =
    keeps-sized old _ new did.2 refl refl
    (sizes-same obeys old job.place went.Unkept asked_old asked_new did.0 did.1)
keeps-failing obeys closing asked_old old job asked_new new did =
    keeps-sized old _ new did.3 refl refl
    (sizes-same obeys old job.place went.Set asked_old did.2.asked did.0 did.2.sized)

pub keeps-finish : (obeys : Bool) (end : FinishEnd) (asked_old : List Asked) (old : StateView)
    (job : JobView) (asked_new : List Asked) (new : StateView) →
    Finishes obeys end asked_old old job asked_new new → Keeps old new
keeps-finish obeys (retiring slots) asked_old old job asked_new new did =
    keeps-sized old _ new did.3 refl refl
    (sizes-same obeys old job.place went.Set asked_old did.2.asked did.0 did.2.sized)
keeps-finish obeys going_on asked_old old job asked_new new did =
    keeps-same old _ new did.3 refl refl refl
keeps-finish obeys (unfinished back) asked_old old job asked_new new did = keeps-is old new did.3
keeps-finish obeys failing asked_old old job asked_new new did =
    keeps-failing obeys did.0 asked_old old job asked_new new did.2

-- ---- admissions

keeps-tags : (obeys keeps : Bool) (span : Span) (tries : List Tagged) (asked_old : List Asked)
    (stock_old : Blocks) (old : StateView) (asked_new : List Asked) (stock_new : Blocks)
    (new : StateView) →
    TagsEach obeys keeps span tries asked_old stock_old old asked_new stock_new new → Keeps old new
keeps-tags obeys keeps span [] asked_old stock_old old asked_new stock_new new did =
    keeps-is old new did.1.1
keeps-tags obeys keeps span (try ∷ tries) asked_old stock_old old asked_new stock_new new did =
    keeps-then old did.2 new (keeps-same old _ did.2 did.4.0.new_is refl refl refl)
    (keeps-tags obeys keeps span tries did.0 did.1 did.2 asked_new stock_new new did.4.1)

keeps-mark : (obeys : Bool) (place : ℕ) (answer : MarkAnswer) (asked_old : List Asked)
    (old : StateView) (asked_new : List Asked) (new : StateView) →
    Marks obeys place answer asked_old old asked_new new → Keeps old new
keeps-mark obeys place marks.Marked asked_old old asked_new new did =
    keeps-same old _ new did.3.1 refl refl refl
keeps-mark obeys place marks.Nothing asked_old old asked_new new did = keeps-is old new did.1.1
keeps-mark obeys place marks.Failed asked_old old asked_new new did =
    keeps-same old _ new did.3.1 refl refl refl

keeps-marks : (obeys : Bool) (tries : List Try) (asked_old : List Asked) (old : StateView)
    (asked_new : List Asked) (new : StateView) →
    MarksEach obeys tries asked_old old asked_new new → Keeps old new
keeps-marks obeys [] asked_old old asked_new new did = keeps-is old new did.1
keeps-marks obeys (try ∷ tries) asked_old old asked_new new did =
    keeps-then old did.1 new
    (keeps-mark obeys try.place try.answer asked_old old did.0 did.1 did.2.0)
    (keeps-marks obeys tries did.0 did.1 asked_new new did.2.1)

keeps-ready : (obeys : Bool) (request : Request) (grant : ℕ) (staged : Seens)
    (asked_old : List Asked) (old : StateView) (asked_new : List Asked) (new : StateView)
    (end : AdmitEnd) → AdmitsReady obeys request grant staged asked_old old asked_new new end →
    Keeps old new
keeps-ready obeys request grant staged asked_old old asked_new new _
    (opens place marked asked mid gate covers) =
    keeps-then old mid new (keeps-same old _ mid gate.2.1 refl refl refl)
    (keeps-marks obeys covers.tries asked mid asked_new new covers.each)
keeps-ready obeys request grant staged asked_old old asked_new new _ (doubts gate) =
    keeps-to old _ new gate.1.1 (record { ino = refl; here = λ here. refl; size = refl })

keeps-settled : (obeys tags keeps : Bool) (request : Request) (grant : ℕ) (staged : Seens)
    (asked_old : List Asked) (stock_old : Blocks) (old : StateView) (asked_new : List Asked)
    (stock_new : Blocks) (new : StateView) (end : AdmitEnd) →
    AdmitsSettled obeys tags keeps request grant staged asked_old stock_old old asked_new stock_new
    new end → Keeps old new
keeps-settled obeys tags keeps request grant staged asked_old stock_old old asked_new stock_new new
    _ (unplaced now places stock same) = keeps-is old new same
keeps-settled obeys tags keeps request grant staged asked_old stock_old old asked_new stock_new new
    _ (unmapped now asked places maps) =
    keeps-tags tags keeps _ maps.tries asked stock_old old asked_new stock_new new maps.each
keeps-settled obeys tags keeps request grant staged asked_old stock_old old asked_new stock_new new
    _ (mapped now asked behind mid end places maps ready) =
    keeps-then old mid new
    (keeps-tags tags keeps _ maps.tries asked stock_old old behind stock_new mid maps.each)
    (keeps-ready obeys request grant now behind mid asked_new new end ready)

pub keeps-admit : (obeys tags keeps : Bool) (request : Request) (grant : ℕ) (staged : Seens)
    (asked_old : List Asked) (stock_old : Blocks) (old : StateView) (asked_new : List Asked)
    (stock_new : Blocks) (new : StateView) (close : CloseEnd) (end : AdmitEnd) →
    Admits obeys tags keeps request grant staged asked_old stock_old old asked_new stock_new new
    close end → Keeps old new
keeps-admit obeys tags keeps request grant staged asked_old stock_old old asked_new stock_new new
    _ _ (too_long long asked stock same) = keeps-is old new same
keeps-admit obeys tags keeps request grant staged asked_old stock_old old asked_new stock_new new
    _ _ (too_few fits few asked stock same) = keeps-is old new same
keeps-admit obeys tags keeps request grant staged asked_old stock_old old asked_new stock_new new
    _ _ (unsettled enough settle stock) =
    keeps-settle obeys failed asked_old old asked_new new settle
keeps-admit obeys tags keeps request grant staged asked_old stock_old old asked_new stock_new new
    _ _ (settles close asked mid end enough settle none did) =
    keeps-then old mid new (keeps-settle obeys close asked_old old asked mid settle)
    (keeps-settled obeys tags keeps request grant staged asked stock_old mid asked_new stock_new
    new end did)
