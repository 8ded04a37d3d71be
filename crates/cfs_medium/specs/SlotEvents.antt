-- Events of a core as calls on the slots of one request.
use Rattle.std.specs.Prelude.{ℕ, ◌+◌, ◌≤◌, ◌<◌, ◌≡◌, ◌≢◌, Bool, true, false, Some, List, ◌∷◌, length, Result, OnOk, OnErr}
use Rattle.cfs_file.specs.declared.entry.Entry.{Entry}
use Rattle.cfs_file.specs.declared.request.Request.{Request}
use Rattle.cfs_core.specs.declared.doubt.Doubt.{Doubt}
use Rattle.cfs_core.specs.declared.event.End.{End}
use Rattle.cfs_core.specs.declared.event.End.TheVariants as ends
use Rattle.cfs_core.specs.declared.event.Event.TheVariants as events
use Rattle.cfs_core.specs.declared.event.SizeEnd.TheVariants as sizes
use Rattle.cfs_core.specs.declared.flag.Flag.{Flag}
use Rattle.cfs_core.specs.declared.flag.Flag.TheVariants.{Unsure}
use Rattle.cfs_core.specs.declared.inode_core.Core.{Core}
use Rattle.cfs_core.specs.After.{after}
use Rattle.cfs_core.specs.Good.{IsGood}
use Rattle.cfs_core.specs.May.{may, span_now}
use Rattle.cfs_core.specs.Medium.{placed}
use Rattle.cfs_core.specs.Words.{track}
use Rattle.cfs_pmem.specs.declared.trace.Asked.{Asked}
use Rattle.cfs_pmem.specs.Images.{Seen, WordStep, IsImage, words_of}
use Rattle.cfs_pmem.specs.Objects.{IsEachImage}
use Rattle.cfs_pmem.specs.WordOps.{SetsWord}
use Rattle.cfs_slot.specs.Words.{gate_of, ino_of, mark_of, request_of}
use Rattle.cfs_medium.specs.Shows.{Recovers, Shows}
use Rattle.cfs_medium.specs.World.{World}
use Rattle.cfs_medium.specs.WorldCalls.{WorldMoments, with_slots}

-- what a call answers, without its values
abbrev pub Answer : Type 0
Answer = Result (Unit {0}) (Unit {0})

-- the request in doubt has another number
abbrev pub IsBesideDoubt : Core → ℕ → Type 0
IsBesideDoubt core place = (doubt : Doubt) → core.doubt ≡ Some doubt → doubt.entry.place ≢ place

-- A call set a word of the head of the slots at a number. At each moment what is left recovers the
-- file of `during`; behind it the devices show `kept` where it went well, and `failed` where it did
-- not.
pub record Leads (ino n place : ℕ) (during kept failed : Core) (world : World) (new : Seen WordStep)
    (tails : List (Seen WordStep)) (result : Answer)
    (asked_old asked_new : List Asked) : Type 0 where
  pub moments : WorldMoments (Recovers ino n during) asked_old world asked_new
      (with_slots place (new ∷ tails) world)
  pub ok : OnOk result (Shows ino kept (with_slots place (new ∷ tails) world))
  pub err : OnErr result (Shows ino failed (with_slots place (new ∷ tails) world))

-- the gate of a no-op is closed
abbrev pub SkipsShow : Type 0
SkipsShow =
    (ino n place : ℕ) (core : Core) (world : World) (head new : Seen WordStep)
    (tails : List (Seen WordStep)) (obeys : Bool) (result : Answer)
    (asked_old asked_new : List Asked) →
    IsGood core → Shows ino core world → may core (events.Skip place) ≡ true →
    IsBesideDoubt core place →
    (track core.tracks place).gate ≡ Unsure → length core.log + 2 ≤ n →
    world.slots place ≡ head ∷ tails →
    SetsWord obeys 0 0 result asked_old head asked_new new →
    Leads ino n place core (after core (events.Skip place)) core world new tails result asked_old
    asked_new

-- the gate of the request in doubt is closed
abbrev pub SettlesShow : Type 0
SettlesShow =
    (ino n : ℕ) (core : Core) (doubt : Doubt) (world : World)
    (head new : Seen WordStep) (tails : List (Seen WordStep)) (obeys : Bool) (result : Answer)
    (asked_old asked_new : List Asked) →
    IsGood core → Shows ino core world → core.doubt ≡ Some doubt → doubt.gate ≡ Unsure →
    length core.log + 2 ≤ n → world.slots doubt.entry.place ≡ head ∷ tails →
    SetsWord obeys 0 0 result asked_old head asked_new new →
    Leads ino n doubt.entry.place core (after core events.Settle) core world new tails result
    asked_old asked_new

-- each image of the slots holds the request, closed and not marked
pub record IsStagedAs (ino : ℕ) (request : Request) (head : List ℕ)
    (tails : List (List ℕ)) : Type 0 where
  pub gate : gate_of head ≡ 0
  pub mark : mark_of head ≡ 0
  pub file : ino_of head ≡ ino
  pub is : request_of head tails ≡ request

abbrev pub AreStagedAs : ℕ → Request → Seen WordStep → List (Seen WordStep) → Type 0
AreStagedAs ino request head tails =
    (image : List ℕ) (rest : List (List ℕ)) → IsImage head.history image →
    IsEachImage IsImage tails rest → IsStagedAs ino request image rest

-- the gate of a change is opened with the next place
abbrev pub AdmissionsShow : Type 0
AdmissionsShow =
    (ino n grant : ℕ) (entry : Entry) (core : Core) (world : World)
    (head new : Seen WordStep) (tails : List (Seen WordStep)) (obeys : Bool) (result : Answer)
    (asked_old asked_new : List Asked) →
    IsGood (after core (events.Admit entry grant false)) → Shows ino core world →
    may core (events.Admit entry grant true) ≡ true → length core.log + 2 ≤ n →
    world.slots entry.place ≡ head ∷ tails → 0 < length (words_of head) →
    AreStagedAs ino (placed (span_now core entry.request) entry.request) head tails →
    SetsWord obeys 0 entry.place result asked_old head asked_new new →
    Leads ino n entry.place (after core (events.Admit entry grant false))
    (after core (events.Admit entry grant true)) (after core (events.Admit entry grant false))
    world new tails result asked_old asked_new

-- a waiting entry is marked
abbrev pub MarksShow : Type 0
MarksShow =
    (ino n place by : ℕ) (core : Core) (world : World) (head new : Seen WordStep)
    (tails : List (Seen WordStep)) (obeys : Bool) (result : Answer)
    (asked_old asked_new : List Asked) →
    IsGood (after core (events.Mark place by false)) → Shows ino core world →
    may core (events.Mark place by true) ≡ true → IsBesideDoubt core place →
    length core.log + 2 ≤ n →
    world.slots place ≡ head ∷ tails → 1 < length (words_of head) →
    SetsWord obeys 1 1 result asked_old head asked_new new →
    Leads ino n place (after core (events.Mark place by false))
    (after core (events.Mark place by true))
    (after core (events.Mark place by false)) world new tails result asked_old asked_new

-- how a job ends that did all and set the size word, but whose gate is still as this flag says
abbrev pub sized_end : Flag → End
sized_end gate = ends.Back sizes.Set gate true

-- The gate of a request is closed whose bytes stand and whose size word is set: it is retired.
abbrev pub RetiresShow : Type 0
RetiresShow =
    (ino n place : ℕ) (gate : Flag) (core : Core) (world : World) (head new : Seen WordStep)
    (tails : List (Seen WordStep)) (obeys : Bool) (result : Answer)
    (asked_old asked_new : List Asked) →
    IsGood (after core (events.Finish place (sized_end Unsure))) →
    Shows ino (after core (events.Finish place (sized_end gate))) world →
    may core (events.Finish place (sized_end gate)) ≡ true → IsBesideDoubt core place →
    length core.log + 2 ≤ n → world.slots place ≡ head ∷ tails →
    SetsWord obeys 0 0 result asked_old head asked_new new →
    Leads ino n place (after core (events.Finish place (sized_end Unsure)))
    (after core (events.Finish place ends.Retired))
    (after core (events.Finish place (sized_end Unsure))) world new tails result asked_old
    asked_new
