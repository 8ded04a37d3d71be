-- The slots of a live request whose payload is read.
use Rattle.std.specs.Prelude.{ℕ, ◌+◌, ◌≡◌, Bool, IsTrue, List, [], ◌∷◌, length, map, take, drop, Result, OnOk}
use Rattle.std.specs.List.{flat_map}
use Rattle.std.proofs.Math.ListN.{get_or}
use Rattle.cfs_pmem.specs.declared.trace.Asked.{Asked}
use Rattle.cfs_pmem.specs.Images.{Seen, WordStep, devices_of, words_of}
use Rattle.cfs_slot.specs.declared.live.Live.{Live}
use Rattle.cfs_slot.specs.Payload.{area_reads, AsksOnly, DoesReads, HaveCause}
use Rattle.cfs_slot.specs.Regions.{of_live, tails_of_live, words_in, devices_in}
use Rattle.cfs_slot.specs.Words.{area_of, payload_of}

-- the regions of a live request, the head's first
abbrev pub regions_of : {R : Type 0} {g : _} → Live R g → List R
regions_of live = of_live live ∷ tails_of_live live

-- its payload, where `seen` tells what a region holds
abbrev pub payload_in : {R : Type 0} {g : _} → (R → Seen WordStep) → Live R g → List ℕ
payload_in seen live =
    payload_of (words_of (seen (of_live live))) (words_in seen (tails_of_live live))

-- A call reads bytes from a place on of the payload of one of some slots.
pub record ReadsSlot {R T E : Type 0} (seen : R → Seen WordStep) (faults : R → ℕ)
    (obeys_power : Bool) (slot from : ℕ) (result : Result T E)
    (asked_old : List Asked) (old : List R) (out_old : List ℕ) (asked_new : List Asked)
    (new : List R) (out_new : List ℕ) : Type 0 where
  pub bytes : OnOk result
      (out_new ≡ take (length out_old) (drop from (area_of (get_or (words_in seen old) slot []))))
  pub same : map seen new ≡ map seen old
  pub does : IsTrue obeys_power →
      DoesReads (area_reads (get_or (devices_in seen old) slot 0) from (from + length out_old))
      result asked_old asked_new
  pub asks : AsksOnly (flat_map devices_of (map seen old)) asked_old asked_new
  pub cause : HaveCause (map faults old) (map faults new) result
