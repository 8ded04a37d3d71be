-- The gate of an admission.
use Rattle.std.proofs.Common.{◌≡◌, ◌∙◌, ◌≤◌, ◌<◌, ◌+◌, ◌-◌, ◌++◌, ap, arith, inl, inr, List, [], ◌∷◌, length, Option, None, Some, Ok, Err, refl, subst, sym, true, false, ℕ, Bool}
use Rattle.std.specs.Option.{option_or}
use Rattle.std.proofs.lemmas.Bool.Decides.{nat_tests}
use Rattle.std.proofs.lemmas.List.{get_or_past}
use Rattle.std.proofs.lemmas.List.Folds.{find-append}
use Rattle.cfs_file.specs.declared.entry.Entry.{Entry}
use Rattle.cfs_file.specs.declared.request.Request.{Request}
use Rattle.cfs_file.specs.Span.{span}
use Rattle.cfs_core.specs.declared.doubt.Doubt.{Doubt as CoreDoubt}
use Rattle.cfs_core.specs.declared.event.Event.TheVariants as events
use Rattle.cfs_core.specs.declared.flag.Flag.{Flag}
use Rattle.cfs_core.specs.declared.flag.Flag.TheVariants.{Off}
use Rattle.cfs_core.specs.declared.inode_core.Core.{Core}
use Rattle.cfs_core.specs.declared.track.Track.{Track}
use Rattle.cfs_core.specs.Words.{blank, can_be, is_out, track}
use Rattle.cfs_core.specs.May.{span_now}
use Rattle.cfs_core.specs.After.{after, change_track}
use Rattle.cfs_core.specs.Medium.{placed}
use Rattle.cfs_core.proofs.Order.{track_is}
use Rattle.cfs_job.specs.Views.{JobView}
use Rattle.cfs_pmem.specs.declared.trace.Asked.{Asked}
use Rattle.cfs_pmem.specs.Images.{Seen, WordStep, words_of}
use Rattle.cfs_pmem.specs.WordOps.{SetsWord}
use Rattle.cfs_pmem.proofs.AllMomentLemmas.{all_after, all_weaker}
use Rattle.cfs_medium.specs.Shows.{Recovers, Shows, holding, is_gated}
use Rattle.cfs_medium.specs.SlotEvents.{Answer, AreStagedAs, Leads}
use Rattle.cfs_medium.specs.World.{Remains, World, head_words}
use Rattle.cfs_medium.specs.WorldCalls.{AreShut, WorldMoments, with_slots}
use Rattle.cfs_medium.proofs.SizeSteps.{slots-come}
use Rattle.cfs_medium.proofs.SlotEvents.{admissions-show}
use Rattle.cfs_medium.proofs.Worlds.{at_place}
use Rattle.cfs_tracker.specs.declared.in_doubt.InDoubt.{InDoubt}
use Rattle.cfs_tracker.specs.declared.pending.Pending.{Pending}
use Rattle.cfs_tracker.specs.Admit.{MayAdmit, admitted, doubted, pending}
use Rattle.cfs_tracker.specs.Follows.{DoubtStands}
use Rattle.cfs_tracker.specs.View.{entry_at, is_at}
use Rattle.cfs_tracker.proofs.Admissions.{follows-admitted, follows-doubted}
use Rattle.cfs_tracker.proofs.Pushing.{none-past, track-beside, tracks-count}
use Rattle.cfs_inode.specs.Heads.{OpensGate}
use Rattle.cfs_inode.specs.Makes.{AnyBetween}
use Rattle.cfs_inode.specs.Opening.{AdmitMakes, IsNext, next_place, with_admitted, with_doubted}
use Rattle.cfs_inode.specs.Stands.{Stands, Together, slots_in}
use Rattle.cfs_inode.specs.View.{Held, Seens, StateView}
use Rattle.cfs_inode.proofs.Goods.{good}
use Rattle.cfs_inode.proofs.Replacing.{DoubtGoes, replaced}
use Rattle.cfs_inode.proofs.Replacing.DoubtGoes.{comes}

-- ---- the next place

pub past-blank : (tracks : List Track) (q : ℕ) → length tracks < q → track tracks q ≡ blank
past-blank tracks q less =
    let some : q ≡ 0 → ⊥ = (λ zero_is. omega arith) in
    track_is tracks q (q - 1) some refl ∙ get_or_past tracks (q - 1) blank (omega arith)

no-doubt : (mine : Option (InDoubt Seens)) (theirs : Option CoreDoubt) →
    DoubtStands mine theirs → mine ≡ None → theirs ≡ None
no-doubt None None stands h = refl
no-doubt None (Some theirs) stands h = absurd stands
no-doubt (Some mine) theirs stands h = cc

-- where nothing is in doubt, the core has nothing at the next place
pub record IsFree (core : Core) (place : ℕ) : Type 0 where
  pub is_blank : track core.tracks place ≡ blank
  pub gate : (holding core core.doubt place).gate ≡ Off

pub next-free : (old : StateView) (core : Core) (world : World) → Stands old core world →
    old.tracker.doubt ≡ None → IsFree core (next_place old)
next-free old core world stands settled =
    let past = past-blank core.tracks (next_place old)
    (omega (arith, tracks-count old.tracker core stands.follows)) in
    let none = no-doubt old.tracker.doubt core.doubt stands.follows.doubt settled in
    record {
      is_blank = past;
      gate =
          ap (λ (d : Option CoreDoubt). (holding core d (next_place old)).gate) none
          ∙ ap (λ (t : Track). t.gate) past;
    }

off-shut : (flag : Flag) (open_now : Bool) → flag ≡ Off → can_be flag open_now ≡ true →
    open_now ≡ false
off-shut flag true off h = (let none : can_be flag true ≡ false = rw off refl in cc)
off-shut flag false off h = refl

pub shut-here : (ino place : ℕ) (core : Core) (world : World) → Shows ino core world →
    IsFree core place → AreShut (world.slots place)
shut-here ino place core world shows free = λ slots images.
    off-shut (holding core core.doubt place).gate (is_gated (head_words slots)) free.gate
    (shows.slots place slots images).gate

-- ---- the staged slots come, without a step

pub record Comes (old : StateView) (staged : Seens) (jobs : List JobView) (core : Core)
    (world : World) (asked : List Asked) : Type 0 where
  pub moments : (n : ℕ) → length core.log + 2 ≤ n →
      WorldMoments (Recovers old.ino n core) asked world asked
      (with_slots (next_place old) staged world)
  pub together : Together old jobs core (with_slots (next_place old) staged world)

off-may : (flag : Flag) → flag ≡ Off → can_be flag false ≡ true
off-may flag off = rw off refl

pub staged-come : (old : StateView) (staged : Seens) (jobs : List JobView) (core : Core)
    (world : World) (asked : List Asked) → old.tracker.doubt ≡ None → AreShut staged →
    Together old jobs core world → Comes old staged jobs core world asked
staged-come old staged jobs core world asked settled shut together =
    let stands = together.stands in
    let place : ℕ = next_place old in
    let free = next-free old core world stands settled in
    let come : (n : ℕ) → length core.log + 2 ≤ n →
    WorldMoments (Recovers old.ino n core) asked world asked (with_slots place staged world)
    × Shows old.ino core (with_slots place staged world) =
    λ n bound. slots-come old.ino n place core world staged asked stands.shows
    (shut-here old.ino place core world stands.shows free) shut
    (good core stands.follows.reached) bound
    (off-may (holding core core.doubt place).gate free.gate) in
    let none = none-past old.tracker core place stands.follows (omega arith) in
    record {
      moments = λ n bound. (come n bound).0;
      together = replaced old old.tracker place staged jobs core core world
          (record {
            follows = stands.follows;
            shows = (come (length core.log + 2) (omega arith)).1;
            cells = refl;
            free = ap (λ (t : Track). is_out t.state) free.is_blank;
            tracks = λ q apart. refl;
            entries = λ q apart. refl;
            here = λ entry held there has. (let clash : None ≡ Some entry = sym none.0 ∙ there in cc);
            doubt = λ doubt slots is has.
                (let clash : None ≡ Some doubt = sym settled ∙ is in cc);
          }) together;
    }

-- ---- what is admitted

-- what is staged for a request: its slots hold it as it is placed, shut and not marked
pub record IsReady (old : StateView) (request : Request) (staged : Seens) : Type 0 where
  pub head : Seen WordStep
  pub tails : Seens
  pub is : staged ≡ head ∷ tails
  pub shut : AreShut staged
  pub some : 0 < length (words_of head)
  pub holds : AreStagedAs old.ino (placed (span request old.tracker.long) request) head tails

last-at : (es : List (Pending Held)) (e : Pending Held) (q : ℕ) → q ≡ e.place →
    entry_at es q ≡ None → entry_at (es ++ e ∷ []) q ≡ Some e
last-at es e q same none =
    let own : is_at q e ≡ true = grind (arith, nat_tests) in
    find-append (is_at q) es (e ∷ []) ∙ rw (none, own) refl

or-nothing : (o : Option (Pending Held)) → option_or o None ≡ o
or-nothing None = refl
or-nothing (Some x) = refl

beside-at : (es : List (Pending Held)) (e : Pending Held) (q : ℕ) → (q ≡ e.place → ⊥) →
    entry_at (es ++ e ∷ []) q ≡ entry_at es q
beside-at es e q apart =
    let other : is_at q e ≡ false = grind (arith, nat_tests) in
    find-append (is_at q) es (e ∷ []) ∙ rw other (or-nothing (entry_at es q))

open-leads : (old : StateView) (n : ℕ) (request : Request) (grant : ℕ) (entry : Entry)
    (staged : Seens) (jobs : List JobView) (core : Core) (world : World) (obeys : Bool)
    (result : Answer) (asked_old asked_new : List Asked) (slots : Seens) →
    MayAdmit old.tracker request → IsNext old request entry → IsReady old request staged →
    (opens : OpensGate obeys (next_place old) result asked_old staged asked_new slots) →
    Together old jobs core world → length core.log + 2 ≤ n →
    world.slots (next_place old) ≡ staged →
    Leads old.ino n entry.place (after core (events.Admit entry grant false))
    (after core (events.Admit entry grant true)) (after core (events.Admit entry grant false))
    world opens.now opens.tails result asked_old asked_new
open-leads old n request grant entry staged jobs core world obeys result asked_old asked_new slots admits next ready opens together bound here =
    let follows = together.stands.follows in
    let doubts = follows-doubted old.tracker core request entry grant slots admits follows
    next.place_is next.request_is in
    let held : Held = record { place = next_place old; slots = slots } in
    let admit = follows-admitted old.tracker core request entry grant held admits follows
    next.place_is next.request_is in
    let both : opens.head ∷ opens.tails ≡ ready.head ∷ ready.tails = sym opens.old_is ∙ ready.is in
    let heads : ready.head ≡ opens.head = cc in
    let tails : ready.tails ≡ opens.tails = cc in
    let spans : placed (span request old.tracker.long) request
    ≡ placed (span_now core entry.request) entry.request =
    rw (next.request_is, follows.long) refl in
    admissions-show old.ino n grant entry core world opens.head opens.now opens.tails obeys result
    asked_old asked_new (good (after core (events.Admit entry grant false)) doubts.1.reached)
    together.stands.shows admit.0 bound
    (ap (λ p. world.slots p) next.place_is ∙ here ∙ opens.old_is)
    (subst (λ (h : Seen WordStep). 0 < length (words_of h)) heads ready.some)
    (subst (λ (r : Request). AreStagedAs old.ino r opens.head opens.tails) spans
    (subst (λ (h : Seen WordStep). AreStagedAs old.ino
    (placed (span request old.tracker.long) request) h opens.tails) heads
    (subst (λ (t : Seens). AreStagedAs old.ino (placed (span request old.tracker.long) request)
    ready.head t) tails ready.holds)))
    (subst (λ p. SetsWord obeys 0 p result asked_old opens.head asked_new opens.now)
    (sym next.place_is) opens.sets)

-- ---- the call

here-admitted : (old : StateView) (request : Request) (grant place : ℕ) (held : Held)
    (entry : Pending Held) (kept : Held) → place ≡ next_place old →
    entry_at old.tracker.entries place ≡ None →
    entry_at (old.tracker.entries ++ pending request grant held old.tracker ∷ []) place
    ≡ Some entry → slots_in entry.doing ≡ Some kept → kept ≡ held
here-admitted old request grant place held entry kept same none there has =
    let own : Pending Held = pending request grant held old.tracker in
    let both : Some entry ≡ Some own =
    sym there ∙ last-at old.tracker.entries own place same none in
    let one : entry ≡ own = cc in
    let slots : slots_in entry.doing ≡ Some held =
    ap (λ (e : Pending Held). slots_in e.doing) one in
    let is : Some kept ≡ Some held = sym has ∙ slots in
    cc

pub open-done : (old : StateView) (request : Request) (grant : ℕ) (staged : Seens) (obeys : Bool)
    (asked_old asked_new : List Asked) (slots : Seens) → MayAdmit old.tracker request →
    IsReady old request staged →
    OpensGate obeys (next_place old) (Ok tt) asked_old staged asked_new slots →
    AdmitMakes request grant true asked_old old asked_new
    (with_admitted request grant (record { place = next_place old; slots = slots }) old)
open-done old request grant staged obeys asked_old asked_new slots admits ready opens =
    λ entry next jobs core world together.
    let stands = together.stands in
    let first : ℕ = next_place old in
    let place : ℕ = entry.place in
    let held : Held = record { place = first; slots = slots } in
    let come = staged-come old staged jobs core world asked_old admits.settled ready.shut together in
    let mid : World = with_slots first staged world in
    let now : Core = after core (events.Admit entry grant true) in
    let seens : Seens = opens.now ∷ opens.tails in
    let free : IsFree core place = subst (λ p. IsFree core p) (sym next.place_is)
    (next-free old core world stands admits.settled) in
    let none = none-past old.tracker core place stands.follows (omega (arith, next.place_is)) in
    let many = tracks-count old.tracker core stands.follows in
    let admit = follows-admitted old.tracker core request entry grant held admits stands.follows
    next.place_is next.request_is in
    let leads : (n : ℕ) → length core.log + 2 ≤ n →
    Leads old.ino n place (after core (events.Admit entry grant false)) now
    (after core (events.Admit entry grant false)) mid opens.now opens.tails (Ok tt) asked_old
    asked_new =
    λ n bound. open-leads old n request grant entry staged jobs core mid obeys (Ok tt) asked_old
    asked_new slots admits next ready opens come.together bound
    (at_place first staged (world.slots first)) in
    record {
      run = (admit.0, tt);
      world = with_slots place seens mid;
      moments = λ n bound.
          let before : (remains : Remains) → Recovers old.ino n core remains →
          AnyBetween (λ one. Recovers old.ino n one remains) core
          (events.Admit entry grant true ∷ []) =
          λ remains recovers. inl recovers in
          let during : (remains : Remains) →
          Recovers old.ino n (after core (events.Admit entry grant false)) remains →
          AnyBetween (λ one. Recovers old.ino n one remains) core
          (events.Admit entry grant true ∷ []) =
          λ remains recovers. inr (inl (inl recovers)) in
          all_after (all_weaker before (come.moments n bound.0))
          (all_weaker during (leads n bound.0).moments);
      stands = replaced old (admitted request grant held old.tracker) place seens jobs core now mid
          (record {
            follows = admit.1;
            shows = (leads (length core.log + 2) (omega arith)).ok;
            cells = refl;
            free = ap (λ (t : Track). is_out t.state) free.is_blank;
            tracks = λ q apart.
                track-beside core.tracks (change_track grant (span_now core entry.request)) q
                (λ same. apart (omega (arith, same, many, next.place_is)));
            entries = λ q apart.
                beside-at old.tracker.entries (pending request grant held old.tracker) q
                (λ same. apart (omega (arith, same, next.place_is)));
            here = λ one kept there has.
                (let is = here-admitted old request grant place held one kept next.place_is none.0
                there has in (
                  ap (λ (h : Held). h.place) is ∙ sym next.place_is,
                  ap (λ (h : Held). h.slots) is ∙ opens.new_is,
                ));
            doubt = λ doubt kept is has.
                (let clash : None ≡ Some doubt = sym admits.settled ∙ is in cc);
          }) come.together;
    }

doubt-is : (mine doubt : InDoubt Seens) (place : ℕ) (slots seens kept : Seens) →
    Some mine ≡ Some doubt → place ≡ mine.place → mine.slots ≡ Some slots → slots ≡ seens →
    doubt.slots ≡ Some kept → DoubtGoes None place seens doubt kept
doubt-is mine doubt place slots seens kept both at are same has =
    let one : doubt ≡ mine = cc in
    let kept_is : Some kept ≡ Some slots =
    sym has ∙ ap (λ (d : InDoubt Seens). d.slots) one ∙ are in
    let kept_same : kept ≡ slots = cc in
    comes (ap (λ (d : InDoubt Seens). d.place) one ∙ sym at) (kept_same ∙ same)

pub open-failed : (old : StateView) (request : Request) (grant : ℕ) (staged : Seens)
    (obeys : Bool) (asked_old asked_new : List Asked) (slots : Seens) →
    MayAdmit old.tracker request → IsReady old request staged →
    OpensGate obeys (next_place old) (Err tt) asked_old staged asked_new slots →
    AdmitMakes request grant false asked_old old asked_new (with_doubted request grant slots old)
open-failed old request grant staged obeys asked_old asked_new slots admits ready opens =
    λ entry next jobs core world together.
    let stands = together.stands in
    let first : ℕ = next_place old in
    let place : ℕ = entry.place in
    let come = staged-come old staged jobs core world asked_old admits.settled ready.shut together in
    let mid : World = with_slots first staged world in
    let now : Core = after core (events.Admit entry grant false) in
    let seens : Seens = opens.now ∷ opens.tails in
    let free : IsFree core place = subst (λ p. IsFree core p) (sym next.place_is)
    (next-free old core world stands admits.settled) in
    let none = none-past old.tracker core place stands.follows (omega (arith, next.place_is)) in
    let doubts = follows-doubted old.tracker core request entry grant slots admits stands.follows
    next.place_is next.request_is in
    let mine : InDoubt Seens = record {
      place = first;
      grant = grant;
      span = span request old.tracker.long;
      slots = Some slots;
    } in
    let leads : (n : ℕ) → length core.log + 2 ≤ n →
    Leads old.ino n place now (after core (events.Admit entry grant true)) now mid opens.now
    opens.tails (Err tt) asked_old asked_new =
    λ n bound. open-leads old n request grant entry staged jobs core mid obeys (Err tt) asked_old
    asked_new slots admits next ready opens come.together bound
    (at_place first staged (world.slots first)) in
    record {
      run = (doubts.0, tt);
      world = with_slots place seens mid;
      moments = λ n bound.
          let before : (remains : Remains) → Recovers old.ino n core remains →
          AnyBetween (λ one. Recovers old.ino n one remains) core
          (events.Admit entry grant false ∷ []) =
          λ remains recovers. inl recovers in
          let during : (remains : Remains) → Recovers old.ino n now remains →
          AnyBetween (λ one. Recovers old.ino n one remains) core
          (events.Admit entry grant false ∷ []) =
          λ remains recovers. inr (inl (inl recovers)) in
          all_after (all_weaker before (come.moments n bound.0))
          (all_weaker during (leads n bound.0).moments);
      stands = replaced old (doubted request grant slots old.tracker) place seens jobs core now mid
          (record {
            follows = doubts.1;
            shows = (leads (length core.log + 2) (omega arith)).err;
            cells = refl;
            free = ap (λ (t : Track). is_out t.state) free.is_blank;
            tracks = λ q apart. refl;
            entries = λ q apart. refl;
            here = λ one kept there has. (let clash : None ≡ Some one = sym none.0 ∙ there in cc);
            doubt = λ doubt kept is has.
                subst (λ (o : Option (InDoubt Seens)). DoubtGoes o place seens doubt kept)
                (sym admits.settled)
                (doubt-is mine doubt place slots seens kept is next.place_is refl opens.new_is has);
          }) come.together;
    }

pub open-kept : (old new : StateView) (request : Request) (grant : ℕ) (staged : Seens)
    (obeys : Bool) (asked_old asked_new : List Asked) (place : ℕ) (slots : Seens) →
    MayAdmit old.tracker request → IsReady old request staged → place ≡ next_place old →
    OpensGate obeys place (Ok tt) asked_old staged asked_new slots →
    new ≡ with_admitted request grant (record { place = place; slots = slots }) old →
    AdmitMakes request grant true asked_old old asked_new new
open-kept old new request grant staged obeys asked_old asked_new place slots admits ready same opens is =
    subst (λ (s : StateView). AdmitMakes request grant true asked_old old asked_new s)
    (sym (is ∙ ap (λ (p : ℕ). with_admitted request grant (record { place = p; slots = slots }) old)
    same))
    (open-done old request grant staged obeys asked_old asked_new slots admits ready
    (subst (λ p. OpensGate obeys p (Ok tt) asked_old staged asked_new slots) same opens))
