-- A change is admitted.
use Rattle.std.proofs.Common.{◌≡◌, ◌∙◌, ◌≤◌, ◌<◌, ◌+◌, ◌++◌, ap, arith, List, [], ◌∷◌, length}
use Rattle.std.proofs.Common.{Option, None, Some, Ok, Err, refl, subst, sym, true, false, ℕ, Bool}
use Rattle.cfs_file.specs.declared.entry.Entry.{Entry}
use Rattle.cfs_file.specs.declared.request.Request.{Request}
use Rattle.cfs_file.specs.declared.sizes.TheConstants.{LONGEST_FILE}
use Rattle.cfs_file.specs.declared.span.Span.{Span}
use Rattle.cfs_file.specs.Span.{span}
use Rattle.cfs_tracker.specs.declared.in_doubt.InDoubt.{InDoubt}
use Rattle.cfs_pmem.specs.Images.{Seen, WordStep}
use Rattle.cfs_block.specs.BlockImages.{BlockStep}
use Rattle.cfs_slot.specs.declared.doubt.Doubt.{Doubt}
use Rattle.cfs_slot.specs.declared.live.Live.{Live}
use Rattle.cfs_core.specs.May.{is_change}
use Rattle.cfs_core.specs.Words.{blocks_needed}
use Rattle.cfs_tracker.specs.Admit.{MayAdmit, bare_needed, first_unmapped, long_after}
use Rattle.cfs_tracker.specs.View.{TrackerView, view_of}
use Rattle.cfs_inode.specs.declared.state.State.{State}
use Rattle.cfs_tracker.specs.Settle.{doubt_slots}
use Rattle.std.specs.Prelude.{is_some, nat_le}
use Rattle.cfs_core.specs.declared.event.Event.TheVariants as events
use Rattle.cfs_pmem.specs.declared.trace.Asked.{Asked}
use Rattle.std.proofs.lemmas.Bool.Decides.{nat_tests}
use Rattle.std.specs.Option.{option_map}
use Rattle.cfs_slot.specs.declared.slot.Slot.{Slot}
use Rattle.cfs_vec.specs.declared.fixed_vec.FixedVec.{FixedVec}
use Rattle.cfs_inode.specs.declared.answers.CloseAnswer.{CloseAnswer}
use Rattle.cfs_inode.specs.declared.answers.CloseAnswer.TheVariants as answers
use Rattle.cfs_inode.specs.Admitting.{AdmissionMakes, AdmitEnd, HasEnough, ReadyMakes, SettledMakes}
use Rattle.cfs_inode.specs.Admitting.{admitted, count_in, doubted, is_here, need_blocks}
use Rattle.cfs_inode.specs.Admitting.{offset_in, ready_events, refused, settled_events, too_big}
use Rattle.cfs_inode.specs.Admitting.AdmitsReady.{doubts, opens}
use Rattle.cfs_inode.specs.Admitting.AdmitsSettled.{mapped, unmapped, unplaced}
use Rattle.cfs_inode.specs.Admitting.Admits.{settles, too_few, too_long, unsettled}
use Rattle.cfs_inode.specs.Ends.{CloseEnd, Settles, closed, failed, nothing, settle_events}
use Rattle.cfs_inode.specs.Ends.{end_of, is_failed, slots_in_doubt, with_doubt, without_doubt}
use Rattle.cfs_inode.specs.Covering.{MarksCovered, tried_events}
use Rattle.cfs_inode.specs.Makes.{CallMakes}
use Rattle.cfs_inode.specs.Mapping.{MapsBlocks, Tagged, TagsEach, tag_events}
use Rattle.cfs_inode.specs.Opening.{AdmitMakes, IsNext, Opens}
use Rattle.cfs_inode.specs.Placing.{Places}
use Rattle.cfs_inode.specs.Tagging.{Blocks}
use Rattle.cfs_inode.specs.View.{Seens, StateView, seens_of, state_view, told_doubt}
use Rattle.cfs_inode.proofs.Coverings.{call-then}
use Rattle.cfs_inode.proofs.MapTells.{state-bare}
use Rattle.cfs_inode.proofs.Readies.{unmapped-told}
use Rattle.cfs_inode.proofs.Resting.{rests}
use Rattle.cfs_inode.proofs.States.{doubt-told}

-- ---- the gate, and the marks behind it

pub ready-opened : (obeys : Bool) (request : Request) (grant : ℕ) (staged : Seens)
    (place marked : ℕ) (asked_old : List Asked) (old : StateView) (asked : List Asked)
    (mid : StateView) (asked_new : List Asked) (new : StateView) →
    Opens obeys request grant staged (Ok place) asked_old old asked mid →
    AdmitMakes request grant true asked_old old asked mid →
    MarksCovered obeys place marked asked mid asked_new new →
    ReadyMakes obeys request grant staged
    (admitted place (offset_in request old.tracker.long) (count_in request) marked) asked_old old
    asked_new new
ready-opened obeys request grant staged place marked asked_old old asked mid asked_new new gate
    makes marks = (
      opens place marked asked mid gate marks,
      λ entry next.
          call-then (events.Admit entry grant true ∷ []) (tried_events place marks.tries) asked_old
          old
          asked mid asked_new new (ap (λ (s : StateView). s.ino) gate.2.1) (makes entry next)
          marks.makes,
    )

pub ready-doubted : (obeys : Bool) (request : Request) (grant : ℕ) (staged : Seens)
    (asked_old : List Asked) (old : StateView) (asked_new : List Asked) (new : StateView) →
    Opens obeys request grant staged (Err tt) asked_old old asked_new new →
    AdmitMakes request grant false asked_old old asked_new new →
    ReadyMakes obeys request grant staged doubted asked_old old asked_new new
ready-doubted obeys request grant staged asked_old old asked_new new gate makes =
    (doubts gate, λ entry next. makes entry next)

-- ---- where nothing is in doubt

-- tags give no place, and change no inode number
pub record KeepsCount (old new : StateView) : Type 0 where
  pub ino : new.ino ≡ old.ino
  pub count : new.tracker.count ≡ old.tracker.count
  pub long : new.tracker.long ≡ old.tracker.long
  pub doubt : new.tracker.doubt ≡ old.tracker.doubt

pub tags-keep : (obeys keeps : Bool) (span : Span) (tries : List Tagged) (asked_old : List Asked)
    (stock_old : Blocks) (old : StateView) (asked_new : List Asked) (stock_new : Blocks)
    (new : StateView) →
    TagsEach obeys keeps span tries asked_old stock_old old asked_new stock_new new →
    KeepsCount old new
tags-keep obeys keeps span [] asked_old stock_old old asked_new stock_new new each = record {
  ino = ap (λ (s : StateView). s.ino) each.1.1;
  count = ap (λ (s : StateView). s.tracker.count) each.1.1;
  long = ap (λ (s : StateView). s.tracker.long) each.1.1;
  doubt = ap (λ (s : StateView). s.tracker.doubt) each.1.1;
}
tags-keep obeys keeps span (try ∷ tries) asked_old stock_old old asked_new stock_new new each =
    let rest = tags-keep obeys keeps span tries each.0 each.1 each.2 asked_new stock_new new
    each.4.1 in
    record {
      ino = rest.ino ∙ ap (λ (s : StateView). s.ino) each.4.0.new_is;
      count = rest.count ∙ ap (λ (s : StateView). s.tracker.count) each.4.0.new_is;
      long = rest.long ∙ ap (λ (s : StateView). s.tracker.long) each.4.0.new_is;
      doubt = rest.doubt ∙ ap (λ (s : StateView). s.tracker.doubt) each.4.0.new_is;
    }

next-kept : (old mid : StateView) (request : Request) (entry : Entry) → KeepsCount old mid →
    IsNext old request entry → IsNext mid request entry
next-kept old mid request entry keeps next = record {
  place_is = next.place_is ∙ ap (λ (n : ℕ). n + 1) (sym keeps.count);
  request_is = next.request_is;
}

pub settled-unplaced : (obeys tags keeps : Bool) (request : Request) (grant : ℕ) (staged : Seens)
    (now : Seens) (asked_old : List Asked) (stock : Blocks) (old : StateView)
    (asked_new : List Asked) →
    Places obeys request old.tracker.long false asked_old staged asked_new now →
    CallMakes [] asked_old old asked_new old →
    SettledMakes obeys tags keeps request grant staged (refused now) asked_old stock old asked_new
    stock old
settled-unplaced obeys tags keeps request grant staged now asked_old stock old asked_new places
    makes =
    (unplaced now places refl refl, λ entry next. makes)

pub settled-unmapped : (obeys tags keeps : Bool) (request : Request) (grant : ℕ) (staged : Seens)
    (now : Seens) (asked_old : List Asked) (stock_old : Blocks) (old : StateView)
    (asked asked_new : List Asked) (stock_new : Blocks) (new : StateView) →
    Places obeys request old.tracker.long true asked_old staged asked now →
    CallMakes [] asked_old old asked old →
    MapsBlocks tags keeps (span request old.tracker.long) false asked stock_old old asked_new
    stock_new new →
    SettledMakes obeys tags keeps request grant staged (refused now) asked_old stock_old old
    asked_new stock_new new
settled-unmapped obeys tags keeps request grant staged now asked_old stock_old old asked asked_new
    stock_new new places makes maps = (
      unmapped now asked places maps,
      λ entry next.
          call-then [] (tag_events maps.tries) asked_old old asked old asked_new new refl makes
          maps.makes,
    )

pub settled-mapped : (obeys tags keeps : Bool) (request : Request) (grant : ℕ) (staged : Seens)
    (now : Seens) (asked_old : List Asked) (stock_old : Blocks) (old : StateView)
    (asked behind : List Asked) (mid : StateView) (asked_new : List Asked) (stock_new : Blocks)
    (new : StateView) (end : AdmitEnd) →
    Places obeys request old.tracker.long true asked_old staged asked now →
    CallMakes [] asked_old old asked old →
    MapsBlocks tags keeps (span request old.tracker.long) true asked stock_old old behind
    stock_new mid →
    ReadyMakes obeys request grant now end behind mid asked_new new →
    SettledMakes obeys tags keeps request grant staged end asked_old stock_old old asked_new
    stock_new new
settled-mapped obeys tags keeps request grant staged now asked_old stock_old old asked behind mid
    asked_new stock_new new end places makes maps ready =
    let keep = tags-keep tags keeps (span request old.tracker.long) maps.tries asked stock_old old
    behind stock_new mid maps.each in (
      mapped now asked behind mid end places maps ready.0,
      λ entry next.
          call-then [] (tag_events maps.tries ++ ready_events ready.0 entry) asked_old old asked old
          asked_new new refl makes
          (call-then (tag_events maps.tries) (ready_events ready.0 entry) asked old behind mid
          asked_new new keep.ino maps.makes
          (ready.1 entry (next-kept old mid request entry keep next))),
    )

-- ---- the request in doubt is settled first

pub record KeepsFile (old new : StateView) : Type 0 where
  pub ino : new.ino ≡ old.ino
  pub count : new.tracker.count ≡ old.tracker.count
  pub long : new.tracker.long ≡ old.tracker.long
  pub cells : new.tracker.cells ≡ old.tracker.cells

file-kept : (old new other : StateView) → new ≡ other → KeepsFile old other → KeepsFile old new
file-kept old new other is keeps = subst (λ (s : StateView). KeepsFile old s) (sym is) keeps

pub settle-keeps : (obeys : Bool) (close : CloseEnd) (asked_old : List Asked) (old : StateView)
    (asked_new : List Asked) (new : StateView) →
    Settles obeys close asked_old old asked_new new → KeepsFile old new
settle-keeps obeys (closed slots) asked_old old asked_new new did =
    file-kept old new (without_doubt old) did.2.1
    (record { ino = refl; count = refl; long = refl; cells = refl })
settle-keeps obeys nothing asked_old old asked_new new did =
    file-kept old new old did.1.1
    (record { ino = refl; count = refl; long = refl; cells = refl })
settle-keeps obeys failed asked_old old asked_new new did =
    file-kept old new (with_doubt did.1 old) did.3.1
    (record { ino = refl; count = refl; long = refl; cells = refl })

pub next-behind : (old mid : StateView) (request : Request) (entry : Entry) → KeepsFile old mid →
    IsNext old request entry → IsNext mid request entry
next-behind old mid request entry keeps next = record {
  place_is = next.place_is ∙ ap (λ (n : ℕ). n + 1) (sym keeps.count);
  request_is = next.request_is;
}

pub admission-settles : (obeys tags keeps : Bool) (request : Request) (grant : ℕ) (staged : Seens)
    (close : CloseEnd) (asked_old : List Asked) (stock_old : Blocks) (old : StateView)
    (asked : List Asked) (mid : StateView) (asked_new : List Asked) (stock_new : Blocks)
    (new : StateView) (end : AdmitEnd) → HasEnough old request stock_old →
    Settles obeys close asked_old old asked mid →
    CallMakes (settle_events close) asked_old old asked mid → mid.tracker.doubt ≡ None →
    SettledMakes obeys tags keeps request grant staged end asked stock_old mid asked_new stock_new
    new →
    AdmissionMakes obeys tags keeps request grant staged close end asked_old stock_old
    old asked_new stock_new new
admission-settles obeys tags keeps request grant staged close asked_old stock_old old asked mid
    asked_new stock_new new end enough settle makes none did =
    let file = settle-keeps obeys close asked_old old asked mid settle in (
      settles close asked mid end enough settle none did.0,
      λ entry next.
          call-then (settle_events close) (settled_events did.0 entry) asked_old old asked mid
          asked_new new file.ino makes (did.1 entry (next-behind old mid request entry file next)),
    )

pub admission-unsettled : (obeys tags keeps : Bool) (request : Request) (grant : ℕ)
    (staged : Seens) (asked_old : List Asked) (stock : Blocks) (old : StateView)
    (asked_new : List Asked) (new : StateView) → HasEnough old request stock →
    Settles obeys failed asked_old old asked_new new → CallMakes [] asked_old old asked_new new →
    AdmissionMakes obeys tags keeps request grant staged failed (refused staged) asked_old stock old
    asked_new stock new
admission-unsettled obeys tags keeps request grant staged asked_old stock old asked_new new enough
    settle makes =
    (unsettled enough settle refl, λ entry next. makes)

pub admission-long : (obeys tags keeps : Bool) (request : Request) (grant : ℕ) (staged : Seens)
    (asked : List Asked) (stock : Blocks) (old : StateView) →
    LONGEST_FILE < long_after old.tracker.long request →
    AdmissionMakes obeys tags keeps request grant staged nothing (too_big old.tracker.long staged)
    asked stock old asked stock old
admission-long obeys tags keeps request grant staged asked stock old long =
    (too_long long refl refl refl, λ entry next. rests old asked)

pub admission-few : (obeys tags keeps : Bool) (request : Request) (grant : ℕ) (staged : Seens)
    (asked : List Asked) (stock : Blocks) (old : StateView) →
    long_after old.tracker.long request ≤ LONGEST_FILE →
    length stock < bare_needed old.tracker.cells (span request old.tracker.long) →
    AdmissionMakes obeys tags keeps request grant staged nothing
    (need_blocks (bare_needed old.tracker.cells (span request old.tracker.long)) staged) asked stock
    old asked stock old
admission-few obeys tags keeps request grant staged asked stock old fits few =
    (too_few fits few refl refl refl, λ entry next. rests old asked)

-- ---- what is told of a state, told back

pub none-back : {X Y : Type 0} (tell : X → Y) (o : Option X) → option_map tell o ≡ None → o ≡ None
none-back tell None h = refl
none-back tell (Some x) h = cc

-- a request in doubt whose slots are here is none where it has none
pub here-none : {D : Type 0} (doubt : Option (InDoubt D)) → is_here doubt ≡ true →
    doubt_slots doubt ≡ None → doubt ≡ None
here-none None here h = refl
here-none (Some doubt) here h =
    absurd (let none : is_some doubt.slots ≡ false = rw h refl in
    let clash : true ≡ false = sym here ∙ none in cc)

-- ---- behind the tags a change may be admitted

pub record MayCome {S D B : Type 0} (old new : TrackerView S D B) (was now : ℕ)
    (request : Request) : Type 0 where
  pub admits : MayAdmit new request
  pub ino : now ≡ was
  pub count : new.count ≡ old.count
  pub long : new.long ≡ old.long

pub mapped-may : {R B : Type 0} {g : _} (words : R → Seen WordStep) (bytes : B → Seen BlockStep)
    (old new : State R B (Live R g) (Doubt R g)) (request : Request) (tags keeps : Bool)
    (asked : List Asked) (stock_old : Blocks) (behind : List Asked) (stock_new : Blocks) →
    (view_of old.tracker).doubt ≡ None → is_change request ≡ true →
    long_after (view_of old.tracker).long request ≤ LONGEST_FILE →
    MapsBlocks tags keeps (span request (view_of old.tracker).long) true asked stock_old
    (state_view words bytes old) behind stock_new (state_view words bytes new) →
    MayCome (view_of old.tracker) (view_of new.tracker) old.ino new.ino request
mapped-may words bytes old new request tags keeps asked stock_old behind stock_new settled change
    fits maps =
    let keep = tags-keep tags keeps (span request (view_of old.tracker).long) maps.tries asked
    stock_old (state_view words bytes old) behind stock_new (state_view words bytes new)
    maps.each in
    let none : (state_view words bytes old).tracker.doubt ≡ None =
    ap (λ d. option_map (told_doubt (seens_of words)) d) settled in
    let cells : first_unmapped (view_of new.tracker).cells (span request (view_of old.tracker).long)
    ≡ None =
    sym (unmapped-told bytes (view_of new.tracker).cells
    (blocks_needed (span request (view_of old.tracker).long))) ∙ maps.mapped refl in
    record {
      admits = record {
        settled = none-back (told_doubt (seens_of words)) (view_of new.tracker).doubt
            (keep.doubt ∙ none);
        change = change;
        fits = subst (λ (n : ℕ). long_after n request ≤ LONGEST_FILE) (sym keep.long) fits;
        mapped = subst (λ (n : ℕ). first_unmapped (view_of new.tracker).cells (span request n)
            ≡ None)
            (sym keep.long) cells;
      };
      ino = keep.ino;
      count = keep.count;
      long = keep.long;
    }

-- ---- behind the settling nothing is in doubt

pub record IsSettled {S D B : Type 0} (old new : TrackerView S D B) : Type 0 where
  pub doubt : new.doubt ≡ None
  pub count : new.count ≡ old.count
  pub long : new.long ≡ old.long
  pub bare : (span : Span) → bare_needed new.cells span ≡ bare_needed old.cells span

file-told : {R B : Type 0} {g : _} (words : R → Seen WordStep) (bytes : B → Seen BlockStep)
    (old new : State R B (Live R g) (Doubt R g)) →
    KeepsFile (state_view words bytes old) (state_view words bytes new) →
    (view_of new.tracker).doubt ≡ None → IsSettled (view_of old.tracker) (view_of new.tracker)
file-told words bytes old new keeps none = record {
  doubt = none;
  count = keeps.count;
  long = keeps.long;
  bare = λ own.
      sym (state-bare words bytes new own)
      ∙ (ap (λ cells. bare_needed cells own) keeps.cells ∙ state-bare words bytes old own);
}

pub closed-settled : {R B : Type 0} {g : _} (words : R → Seen WordStep)
    (bytes : B → Seen BlockStep) (old new : State R B (Live R g) (Doubt R g)) →
    state_view words bytes new ≡ without_doubt (state_view words bytes old) →
    IsSettled (view_of old.tracker) (view_of new.tracker)
closed-settled words bytes old new is =
    file-told words bytes old new
    (file-kept (state_view words bytes old) (state_view words bytes new)
    (without_doubt (state_view words bytes old)) is
    (record { ino = refl; count = refl; long = refl; cells = refl }))
    (none-back (told_doubt (seens_of words)) (view_of new.tracker).doubt
    (ap (λ (s : StateView). s.tracker.doubt) is))

pub nothing-settled : {R B : Type 0} {g : _} (words : R → Seen WordStep)
    (bytes : B → Seen BlockStep) (old new : State R B (Live R g) (Doubt R g)) →
    is_here (view_of old.tracker).doubt ≡ true →
    slots_in_doubt (state_view words bytes old) ≡ None →
    state_view words bytes new ≡ state_view words bytes old →
    IsSettled (view_of old.tracker) (view_of new.tracker)
nothing-settled words bytes old new here no_slots is =
    let slots : doubt_slots (view_of old.tracker).doubt ≡ None =
    none-back (seens_of words) (doubt_slots (view_of old.tracker).doubt)
    (sym (doubt-told (seens_of words) (view_of old.tracker).doubt) ∙ no_slots) in
    let none : (view_of old.tracker).doubt ≡ None =
    here-none (view_of old.tracker).doubt here slots in
    file-told words bytes old new
    (file-kept (state_view words bytes old) (state_view words bytes new)
    (state_view words bytes old) is
    (record { ino = refl; count = refl; long = refl; cells = refl }))
    (none-back (told_doubt (seens_of words)) (view_of new.tracker).doubt
    (ap (λ (s : StateView). s.tracker.doubt) is
    ∙ ap (λ d. option_map (told_doubt (seens_of words)) d) none))

-- and so it is behind a settling that did not fail
pub well-settled : {R B : Type 0} {g : _} {N : ℕ} (words : R → Seen WordStep)
    (bytes : B → Seen BlockStep) (old new : State R B (Live R g) (Doubt R g))
    (answer : CloseAnswer (FixedVec (Slot R g) N)) (obeys : Bool)
    (asked_old asked_new : List Asked) → is_failed answer ≡ false →
    is_here (view_of old.tracker).doubt ≡ true →
    Settles obeys (end_of words answer) asked_old (state_view words bytes old) asked_new
    (state_view words bytes new) →
    IsSettled (view_of old.tracker) (view_of new.tracker)
well-settled words bytes old new (answers.Closed slots) obeys asked_old asked_new ok here did =
    closed-settled words bytes old new did.2.1
well-settled words bytes old new answers.Nothing obeys asked_old asked_new ok here did =
    nothing-settled words bytes old new here did.0 did.1.1
well-settled words bytes old new answers.Failed obeys asked_old asked_new ok here did = cc

-- and one that failed
pub ill-settled : {R : Type 0} {g : _} {N : ℕ} (words : R → Seen WordStep)
    (answer : CloseAnswer (FixedVec (Slot R g) N)) → is_failed answer ≡ true →
    end_of words answer ≡ failed
ill-settled words (answers.Closed slots) is = cc
ill-settled words answers.Nothing is = cc
ill-settled words answers.Failed is = refl

-- ---- the tests

pub too-long : (n most : ℕ) → false ≡ nat_le n most → most < n
too-long n most h = grind (arith, nat_tests)

pub long-enough : (n most : ℕ) → true ≡ nat_le n most → n ≤ most
long-enough n most h = grind (arith, nat_tests)
