-- A change is admitted.
use Rattle.std.specs.Prelude.{ℕ, ◌≡◌, ◌<◌, Bool, true, false, Option, Some, None, Ok, Err, List, []}
use Rattle.std.specs.Prelude.{◌∷◌, ◌++◌, ◌≤◌, is_some, length}
use Rattle.cfs_file.specs.declared.entry.Entry.{Entry}
use Rattle.cfs_file.specs.declared.request.Request.{Request}
use Rattle.cfs_file.specs.declared.request.Request.TheVariants as requests
use Rattle.cfs_file.specs.declared.sizes.TheConstants.{LONGEST_FILE}
use Rattle.cfs_file.specs.Span.{span}
use Rattle.cfs_core.specs.declared.event.Event.{Event}
use Rattle.cfs_core.specs.declared.event.Event.TheVariants as events
use Rattle.cfs_pmem.specs.declared.trace.Asked.{Asked}
use Rattle.cfs_pmem.specs.Images.{Seen, WordStep}
use Rattle.cfs_slot.specs.declared.staged.Staged.{Staged}
use Rattle.cfs_tracker.specs.declared.in_doubt.InDoubt.{InDoubt}
use Rattle.cfs_tracker.specs.Admit.{bare_needed, long_after}
use Rattle.cfs_inode.specs.declared.admit_answer.AdmitAnswer.{AdmitAnswer}
use Rattle.cfs_inode.specs.declared.admit_answer.AdmitAnswer.TheVariants as answers
use Rattle.cfs_inode.specs.Covering.{MarksCovered, tried_events}
use Rattle.cfs_inode.specs.Ends.{CloseEnd, Settles, failed, nothing, settle_events}
use Rattle.cfs_inode.specs.Makes.{CallMakes}
use Rattle.cfs_inode.specs.Mapping.{MapsBlocks, tag_events}
use Rattle.cfs_inode.specs.Opening.{IsNext, Opens}
use Rattle.cfs_inode.specs.Placing.{Places, staged_seens}
use Rattle.cfs_inode.specs.Tagging.{Blocks}
use Rattle.cfs_inode.specs.View.{Seens, StateView}

-- the answer as plain data: a request that was staged may come back with its slots
pub data AdmitEnd : Type 0 where
  admitted : (place offset count marked : ℕ) → AdmitEnd
  too_big : (long : ℕ) (staged : Seens) → AdmitEnd
  need_blocks : (need : ℕ) (staged : Seens) → AdmitEnd
  refused : (staged : Seens) → AdmitEnd
  doubted : AdmitEnd

abbrev pub failed_end : {R : Type 0} {g : _} → (R → Seen WordStep) → Option (Staged R g) → AdmitEnd
failed_end seen (Some staged) = refused (staged_seens seen staged)
failed_end seen None = doubted

abbrev pub admit_end : {R : Type 0} {g : _} → (R → Seen WordStep) → AdmitAnswer (Staged R g) →
    AdmitEnd
admit_end seen (answers.Admitted place offset count marked) = admitted place offset count marked
admit_end seen (answers.TooBig long staged) = too_big long (staged_seens seen staged)
admit_end seen (answers.NeedBlocks need staged) = need_blocks need (staged_seens seen staged)
admit_end seen (answers.Failed staged) = failed_end seen staged

-- where the change stands in the file, and its bytes: a truncate at its length, without any
abbrev pub offset_in : Request → ℕ → ℕ
offset_in (requests.Write offset bytes) long = offset
offset_in (requests.Append bytes) long = long
offset_in (requests.Truncate n) long = n
offset_in (requests.Read offset count) long = offset
offset_in requests.Sync long = 0

abbrev pub count_in : Request → ℕ
count_in (requests.Write offset bytes) = length bytes
count_in (requests.Append bytes) = length bytes
count_in (requests.Truncate n) = 0
count_in (requests.Read offset count) = 0
count_in requests.Sync = 0

-- ---- the gate, and the marks behind it

pub data AdmitsReady (obeys : Bool) (request : Request) (grant : ℕ) (staged : Seens)
    (asked_old : List Asked) (old : StateView) (asked_new : List Asked) (new : StateView) :
    AdmitEnd → Type 0 where
  -- the gate is open, and the marks were tried of what the change covers
  opens : (place marked : ℕ) (asked : List Asked) (mid : StateView) →
      Opens obeys request grant staged (Ok place) asked_old old asked mid →
      MarksCovered obeys place marked asked mid asked_new new →
      AdmitsReady obeys request grant staged asked_old old asked_new new
      (admitted place (offset_in request old.tracker.long) (count_in request) marked)
  -- the gate failed
  doubts : Opens obeys request grant staged (Err tt) asked_old old asked_new new →
      AdmitsReady obeys request grant staged asked_old old asked_new new doubted

abbrev pub ready_events : {obeys : Bool} {request : Request} {grant : ℕ} {staged : Seens}
    {asked_old : List Asked} {old : StateView} {asked_new : List Asked} {new : StateView}
    {end : AdmitEnd} →
    AdmitsReady obeys request grant staged asked_old old asked_new new end → Entry → List Event
ready_events {obeys} {request} {grant} (opens place marked asked mid gate marks) entry =
    events.Admit entry grant true ∷ tried_events place marks.tries
ready_events {obeys} {request} {grant} (doubts gate) entry = events.Admit entry grant false ∷ []

-- ---- an append's offset and the blocks before them, where nothing is in doubt

pub data AdmitsSettled (obeys tags keeps : Bool) (request : Request) (grant : ℕ) (staged : Seens)
    (asked_old : List Asked) (stock_old : Blocks) (old : StateView) (asked_new : List Asked)
    (stock_new : Blocks) (new : StateView) : AdmitEnd → Type 0 where
  -- the offset could not be set, or a block not be tagged: the request comes back
  unplaced : (now : Seens) →
      Places obeys request old.tracker.long false asked_old staged asked_new now →
      stock_new ≡ stock_old → new ≡ old →
      AdmitsSettled obeys tags keeps request grant staged asked_old stock_old old asked_new
      stock_new
      new (refused now)
  unmapped : (now : Seens) (asked : List Asked) →
      Places obeys request old.tracker.long true asked_old staged asked now →
      MapsBlocks tags keeps (span request old.tracker.long) false asked stock_old old asked_new
      stock_new new →
      AdmitsSettled obeys tags keeps request grant staged asked_old stock_old old asked_new
      stock_new
      new (refused now)
  mapped : (now : Seens) (asked behind : List Asked) (mid : StateView) (end : AdmitEnd) →
      Places obeys request old.tracker.long true asked_old staged asked now →
      MapsBlocks tags keeps (span request old.tracker.long) true asked stock_old old behind
      stock_new mid →
      AdmitsReady obeys request grant now behind mid asked_new new end →
      AdmitsSettled obeys tags keeps request grant staged asked_old stock_old old asked_new
      stock_new
      new end

abbrev pub settled_events : {obeys tags keeps : Bool} {request : Request} {grant : ℕ}
    {staged : Seens} {asked_old : List Asked} {stock_old : Blocks} {old : StateView}
    {asked_new : List Asked} {stock_new : Blocks} {new : StateView} {end : AdmitEnd} →
    AdmitsSettled obeys tags keeps request grant staged asked_old stock_old old asked_new stock_new
    new end → Entry → List Event
settled_events (unplaced now places stock same) entry = []
settled_events (unmapped now asked places maps) entry = tag_events maps.tries
settled_events (mapped now asked behind mid end places maps ready) entry =
    tag_events maps.tries ++ ready_events ready entry

-- ---- each as a call

-- the call is these events, whoever the line names
abbrev pub ReadyMakes : Bool → Request → ℕ → Seens → AdmitEnd → List Asked → StateView →
    List Asked → StateView → Type 0
ReadyMakes obeys request grant staged end asked_old old asked_new new =
    (did : AdmitsReady obeys request grant staged asked_old old asked_new new end)
    × ((entry : Entry) → IsNext old request entry →
    CallMakes (ready_events did entry) asked_old old asked_new new)

abbrev pub SettledMakes : Bool → Bool → Bool → Request → ℕ → Seens → AdmitEnd → List Asked →
    Blocks → StateView → List Asked → Blocks → StateView → Type 0
SettledMakes obeys tags keeps request grant staged end asked_old stock_old old asked_new stock_new
    new =
    (did : AdmitsSettled obeys tags keeps request grant staged asked_old stock_old old asked_new
    stock_new new end)
    × ((entry : Entry) → IsNext old request entry →
    CallMakes (settled_events did entry) asked_old old asked_new new)

-- ---- the whole

-- What the state knows of the request is as it should be: the file behind it is short enough, and
-- the stock has the blocks that it needs.
pub record HasEnough (old : StateView) (request : Request) (stock : Blocks) : Type 0 where
  pub fits : long_after old.tracker.long request ≤ LONGEST_FILE
  pub stocked : bare_needed old.tracker.cells (span request old.tracker.long) ≤ length stock

pub data Admits (obeys tags keeps : Bool) (request : Request) (grant : ℕ) (staged : Seens)
    (asked_old : List Asked) (stock_old : Blocks) (old : StateView) (asked_new : List Asked)
    (stock_new : Blocks) (new : StateView) : CloseEnd → AdmitEnd → Type 0 where
  -- the file would be too long
  too_long : LONGEST_FILE < long_after old.tracker.long request → asked_new ≡ asked_old →
      stock_new ≡ stock_old → new ≡ old →
      Admits obeys tags keeps request grant staged asked_old stock_old old asked_new stock_new new
      nothing (too_big old.tracker.long staged)
  -- the stock has fewer blocks than it needs
  too_few : long_after old.tracker.long request ≤ LONGEST_FILE →
      length stock_old < bare_needed old.tracker.cells (span request old.tracker.long) →
      asked_new ≡ asked_old → stock_new ≡ stock_old → new ≡ old →
      Admits obeys tags keeps request grant staged asked_old stock_old old asked_new stock_new new
      nothing (need_blocks (bare_needed old.tracker.cells (span request old.tracker.long)) staged)
  -- the request in doubt could not be settled
  unsettled : HasEnough old request stock_old → Settles obeys failed asked_old old asked_new new →
      stock_new ≡ stock_old →
      Admits obeys tags keeps request grant staged asked_old stock_old old asked_new stock_new new
      failed (refused staged)
  -- nothing is in doubt, or any more
  settles : (close : CloseEnd) (asked : List Asked) (mid : StateView) (end : AdmitEnd) →
      HasEnough old request stock_old → Settles obeys close asked_old old asked mid →
      mid.tracker.doubt ≡ None →
      AdmitsSettled obeys tags keeps request grant staged asked stock_old mid asked_new stock_new
      new end →
      Admits obeys tags keeps request grant staged asked_old stock_old old asked_new stock_new new
      close end

abbrev pub admit_events : {obeys tags keeps : Bool} {request : Request} {grant : ℕ}
    {staged : Seens} {asked_old : List Asked} {stock_old : Blocks} {old : StateView}
    {asked_new : List Asked} {stock_new : Blocks} {new : StateView} {close : CloseEnd}
    {end : AdmitEnd} →
    Admits obeys tags keeps request grant staged asked_old stock_old old asked_new stock_new new
    close end → Entry → List Event
admit_events (too_long long asked stock same) entry = []
admit_events (too_few fits few asked stock same) entry = []
admit_events (unsettled enough settle stock) entry = []
admit_events (settles close asked mid end enough settle none did) entry =
    settle_events close ++ settled_events did entry

-- the request in doubt has its slots
abbrev pub is_here : {D : Type 0} → Option (InDoubt D) → Bool
is_here None = true
is_here (Some doubt) = is_some doubt.slots

abbrev pub AdmissionMakes : Bool → Bool → Bool → Request → ℕ → Seens → CloseEnd → AdmitEnd →
    List Asked → Blocks → StateView → List Asked → Blocks → StateView → Type 0
AdmissionMakes obeys tags keeps request grant staged close end asked_old stock_old old asked_new
    stock_new new =
    (did : Admits obeys tags keeps request grant staged asked_old stock_old old asked_new stock_new
    new close end)
    × ((entry : Entry) → IsNext old request entry →
    CallMakes (admit_events did entry) asked_old old asked_new new)
