-- Each step of a mount, for all files at once.
use Rattle.std.proofs.Common.{◌≡◌, ◌≢◌, ◌∙◌, ◌==◌, ◌&&◌, inl, inr, ℕ, not, Bool, true, false, Some}
use Rattle.std.proofs.Common.{None, List, [], get_or, arith, refl, sym, ap, subst}
use Rattle.std.specs.List.{Contains}
use Rattle.std.proofs.lemmas.Bool.Decides.{nat_tests}
use Rattle.cfs_file.specs.declared.request.Request.{Request}
use Rattle.cfs_block.specs.BlockImages.{Content}
use Rattle.cfs_slot.specs.Words.{gate_of, ino_of, is_live, mark_of}
use Rattle.cfs_slot.specs.Tails.{tails_at}
use Rattle.cfs_medium.specs.Store.{by_gate, byte_in, entry_at, live_in}
use Rattle.cfs_medium.proofs.Slots.{not_live-none}
use Rattle.cfs_home.specs.Parts.{Closed, Keeps, SizeMoved, SomeTouches, size_after}
use Rattle.cfs_home.specs.Disks.{AllStay, AreFiles, AreTwo, ClosesSlot, Disk, File, IsOnce, IsReady}
use Rattle.cfs_home.specs.Disks.{SetsSize, Stays, part_of}
use Rattle.cfs_home.specs.Laws.{ClosesKeepAll, DeadSlotsMayClose, HeldAreHome, OtherBlocksMayChange}
use Rattle.cfs_home.specs.Laws.{OtherSizesMayBeSet, SizesKeepAll, StaysGoOn, WritesKeepAll}
use Rattle.cfs_home.proofs.Blocks.{byte-held, set-other, written-beside, written-other}
use Rattle.cfs_home.proofs.Parts.{parts-kept}
use Rattle.cfs_home.proofs.Slots.{shut-lowest, shut-once, shut-same}

-- ---- one file

-- what its part keeps, the file keeps
kept-stays : (file : File) (first second : Disk) →
    Keeps (part_of file first) (part_of file second) →
    IsOnce file.ino second.slots → Stays file first second
kept-stays file first second kept once =
    record { recovers = kept.recovers; ready = record { sound = kept.sound; once = once } }

-- a file stays whose size and entries are as they were, and its bytes but where one of them touches
moved-stays : (file : File) (first second : Disk) → IsReady file first →
    second.sizes file.node ≡ first.sizes file.node →
    live_in file.ino second.slots ≡ live_in file.ino first.slots → IsOnce file.ino second.slots →
    ((p : ℕ) → (SomeTouches (part_of file first).entries p → ⊥) →
    byte_in file.ino second.blocks p ≡ byte_in file.ino first.blocks p) → Stays file first second
moved-stays file first second ready size entries once bytes =
    kept-stays file first second
    ((parts-kept (part_of file first) (part_of file second) ready.sound).0
    (record { size = size; entries = ap by_gate entries; beside = bytes })) once

-- with the same slots and blocks
same-slots : (file : File) (first second : Disk) → second.slots ≡ first.slots →
    live_in file.ino second.slots ≡ live_in file.ino first.slots
same-slots file first second slots = ap (live_in file.ino) slots

same-once : (file : File) (first second : Disk) → second.slots ≡ first.slots →
    IsReady file first → IsOnce file.ino second.slots
same-once file first second slots ready = subst (IsOnce file.ino) (sym slots) ready.once

same-byte : (file : File) (first second : Disk) → second.blocks ≡ first.blocks → (p : ℕ) →
    byte_in file.ino second.blocks p ≡ byte_in file.ino first.blocks p
same-byte file first second blocks p =
    ap (λ (bs : List Content). byte_in file.ino bs p) blocks

-- a disk with the same words and blocks
same-stays : (file : File) (start first second : Disk) → Stays file start first →
    ((node : ℕ) → second.sizes node ≡ first.sizes node) → second.slots ≡ first.slots →
    second.blocks ≡ first.blocks → Stays file start second
same-stays file start first second stay sizes slots blocks =
    let more = moved-stays file first second stay.ready (sizes file.node)
    (same-slots file first second slots) (same-once file first second slots stay.ready)
    (λ p out. same-byte file first second blocks p) in
    record { recovers = more.recovers ∙ stay.recovers; ready = more.ready }

pub all-same : (files : List File) (start first second : Disk) → AllStay files start first →
    second.front ≡ first.front → ((node : ℕ) → second.sizes node ≡ first.sizes node) →
    second.slots ≡ first.slots → second.blocks ≡ first.blocks → AllStay files start second
all-same files start first second stay front sizes slots blocks = record {
  front = front ∙ stay.front;
  each = λ file among.
      same-stays file start first second (stay.each file among) sizes slots blocks;
}

-- ---- steps for the lowest entry of a file

-- a step that keeps one of the files, and each one that has nothing in common with it
each-stays : (files : List File) (file : File) (first second : Disk) → AreFiles files →
    Contains files file → second.front ≡ first.front → Stays file first second →
    ((other : File) → Contains files other → AreTwo file other → Stays other first second) →
    AllStay files first second
each-stays files file first second are among front own others =
    record { front = front; each = each }
  where
    each : (other : File) → Contains files other → Stays other first second
    each other too = elim (are file other among too) [
      | inl same ↦ subst (λ (f : File). Stays f first second) (sym same) own
      | inr two ↦ others other too two
    ]

pub writes-all : WritesKeepAll
writes-all files file at entry rest first second are among ready low step =
    each-stays files file first second are among step.front own others
  where
    own : Stays file first second
    own = moved-stays file first second (ready file among) (step.sizes file.node)
        (same-slots file first second step.slots)
        (same-once file first second step.slots (ready file among))
        (λ p out. written-beside file.ino entry.1 first.blocks second.blocks p step.blocks
        (λ here. out (subst (λ (es : List (ℕ × Request)). SomeTouches es p) (sym low.lowest)
        (inl here))))

    others : (other : File) → Contains files other → AreTwo file other → Stays other first second
    others other too two = moved-stays other first second (ready other too) (step.sizes other.node)
        (same-slots other first second step.slots)
        (same-once other first second step.slots (ready other too))
        (λ p out. written-other file.ino other.ino entry.1 first.blocks second.blocks p two.inodes
        step.blocks)

-- the size word of another record
size-beside : (file : File) (node size : ℕ) (first second : Disk) → IsReady file first →
    file.node ≢ node → SetsSize node size first second → Stays file first second
size-beside file node size first second ready differs step =
    moved-stays file first second ready (step.others file.node differs)
    (same-slots file first second step.slots) (same-once file first second step.slots ready)
    (λ p out. same-byte file first second step.blocks p)

pub size-all : SizesKeepAll
size-all files file at entry rest first second are among ready low step =
    each-stays files file first second are among step.front own
    (λ other too two. size-beside other file.node (size_after entry.1 (first.sizes file.node))
    first second (ready other too) two.nodes step)
  where
    moved : SizeMoved (part_of file first) (part_of file second) entry rest
    moved = record {
      lowest = low.lowest;
      size = step.own;
      entries = ap by_gate (same-slots file first second step.slots);
      bytes = same-byte file first second step.blocks;
    }

    own : Stays file first second
    own = kept-stays file first second
        ((parts-kept (part_of file first) (part_of file second) (ready file among).sound).1 entry
        rest moved)
        (same-once file first second step.slots (ready file among))

-- ---- a gate is closed

-- a live slot is of one inode
live-ino : (ino : ℕ) (words : List ℕ) → is_live ino words ≡ true → ino_of words ≡ ino
live-ino ino words live = last (not (gate_of words == 0) && not (mark_of words == 1)) live
  where
    equal : (ino_of words == ino) ≡ true → ino_of words ≡ ino
    equal test = grind (arith, nat_tests)

    last : (b : Bool) → (b && (ino_of words == ino)) ≡ true → ino_of words ≡ ino
    last true test = equal test
    last false test = cc

other-dead : (ino other : ℕ) (words : List ℕ) → other ≢ ino → is_live ino words ≡ true →
    is_live other words ≡ false
other-dead ino other words differs live = split (is_live other words) refl
  where
    split : (b : Bool) → is_live other words ≡ b → b ≡ false
    split false is = refl
    split true is =
        absurd (differs (sym (live-ino other words is) ∙ live-ino ino words live))

pub some-live : (ino : ℕ) (slots : List (List ℕ)) (at : ℕ) (entry : ℕ × Request) →
    entry_at ino slots at ≡ Some entry → is_live ino (get_or slots at []) ≡ true
some-live ino slots at entry here = split (is_live ino (get_or slots at [])) refl
  where
    split : (b : Bool) → is_live ino (get_or slots at []) ≡ b → b ≡ true
    split true is = refl
    split false is =
        let none = not_live-none ino (get_or slots at []) (tails_at slots at) is in absurd (cc)

-- a file whose live entry is not there
closes-beside : (file : File) (at : ℕ) (first second : Disk) → IsReady file first →
    is_live file.ino (get_or first.slots at []) ≡ false → ClosesSlot at first second →
    Stays file first second
closes-beside file at first second ready dead step =
    moved-stays file first second ready (step.sizes file.node) entries once
    (λ p out. same-byte file first second step.blocks p)
  where
    none : entry_at file.ino first.slots at ≡ None
    none = not_live-none file.ino (get_or first.slots at []) (tails_at first.slots at) dead

    entries : live_in file.ino second.slots ≡ live_in file.ino first.slots
    entries = ap (live_in file.ino) step.slots ∙ shut-same file.ino at first.slots none

    once : IsOnce file.ino second.slots
    once = subst (IsOnce file.ino) (sym step.slots) (shut-once file.ino at first.slots ready.once)

pub closes-all : ClosesKeepAll
closes-all files file at entry rest first second are among ready low home step =
    each-stays files file first second are among step.front own
    (λ other too two. closes-beside other at first second (ready other too)
    (other-dead file.ino other.ino (get_or first.slots at []) two.inodes
    (some-live file.ino first.slots at entry low.here)) step)
  where
    moved : Closed (part_of file first) (part_of file second) entry rest
    moved = record {
      lowest = low.lowest;
      home = home;
      size = step.sizes file.node;
      entries = ap (λ (slots : List (List ℕ)). by_gate (live_in file.ino slots)) step.slots
          ∙ shut-lowest file.ino at first.slots entry rest (ready file among).once low.here
          low.lowest;
      bytes = same-byte file first second step.blocks;
    }

    own : Stays file first second
    own = kept-stays file first second
        ((parts-kept (part_of file first) (part_of file second) (ready file among).sound).2 entry
        rest moved)
        (subst (IsOnce file.ino) (sym step.slots)
        (shut-once file.ino at first.slots (ready file among).once))

-- ---- a request is home

pub held-home : HeldAreHome
held-home file request disk placed mapped hold size = record {
  size_is = size;
  bytes_are = λ p here. byte-held file.ino request disk.blocks p placed mapped hold here;
}

-- ---- what is no file's

pub dead-closes : DeadSlotsMayClose
dead-closes files at first second ready dead step = record {
  front = step.front;
  each = λ file among.
      closes-beside file at first second (ready file among) (dead file among) step;
}

pub other-sizes : OtherSizesMayBeSet
other-sizes files node size first second ready none step = record {
  front = step.front;
  each = λ file among.
      size-beside file node size first second (ready file among) (none file among) step;
}

pub other-blocks : OtherBlocksMayChange
other-blocks files at content first second ready old new step =
    record { front = step.front; each = each }
  where
    each : (file : File) → Contains files file → Stays file first second
    each file among =
        moved-stays file first second (ready file among) (step.sizes file.node)
        (same-slots file first second step.slots)
        (same-once file first second step.slots (ready file among))
        (λ p out. ap (λ (bs : List Content). byte_in file.ino bs p) step.blocks
        ∙ set-other file.ino at first.blocks content (old file among) (new file among) p)

-- ---- step follows step

pub goes-on : StaysGoOn
goes-on files first second third one = (
  λ file among. (one.each file among).ready,
  λ other. record {
    front = other.front ∙ one.front;
    each = λ file among. record {
      recovers = (other.each file among).recovers ∙ (one.each file among).recovers;
      ready = (other.each file among).ready;
    };
  },
)
