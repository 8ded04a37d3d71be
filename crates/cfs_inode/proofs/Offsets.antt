-- The offset of a staged append is set.
use Rattle.std.proofs.Common.{◌≡◌, ◌∙◌, ◌≤◌, ◌+◌, ap, arith, inl, inr, List, [], ◌∷◌, length, None}
use Rattle.std.proofs.Common.{Some, refl, set, sym, true, false, suc, ℕ, Bool}
use Rattle.cfs_core.specs.declared.flag.Flag.{Flag}
use Rattle.cfs_core.specs.declared.flag.Flag.TheVariants.{Off}
use Rattle.cfs_core.specs.declared.track.Track.{Track}
use Rattle.cfs_core.specs.Words.{can_be, is_out}
use Rattle.cfs_pmem.specs.declared.trace.Asked.{Asked}
use Rattle.cfs_pmem.specs.Images.{AllImages, IsImage, IsSetFrom, Seen, WordStep}
use Rattle.cfs_pmem.specs.Objects.{IsEachImage}
use Rattle.cfs_pmem.specs.WordOps.{SetsWord}
use Rattle.cfs_pmem.proofs.AllMomentLemmas.{all_after}
use Rattle.cfs_slot.specs.Words.{IsClosed, gate_of}
use Rattle.cfs_medium.specs.Shows.{Recovers, Shows, SlotFits, holding}
use Rattle.cfs_medium.specs.SlotEvents.{Answer}
use Rattle.cfs_medium.specs.World.{World}
use Rattle.cfs_medium.specs.WorldCalls.{AreShut, WorldMoments, with_slots}
use Rattle.cfs_medium.proofs.SlotEvents.{closed-fits}
use Rattle.cfs_medium.proofs.SlotSteps.{differs-none, heads-set}
use Rattle.cfs_medium.proofs.Worlds.{at_place}
use Rattle.cfs_tracker.proofs.Pushing.{none-past}
use Rattle.cfs_inode.specs.Makes.{CallMakes}
use Rattle.cfs_inode.specs.Opening.{next_place}
use Rattle.cfs_inode.specs.View.{Seens, StateView}
use Rattle.cfs_inode.proofs.Goods.{good}
use Rattle.cfs_inode.proofs.Openings.{next-free, staged-come}
use Rattle.cfs_inode.proofs.Replacing.{replaced}

-- a word behind the gate leaves it as it is
gate-beside : (words : List ℕ) (at word : ℕ) → gate_of (set words (suc at) word) ≡ gate_of words
gate-beside [] at word = refl
gate-beside (w ∷ ws) at word = refl

pub closed-set : (head : Seen WordStep) (at word : ℕ) (image : List ℕ) →
    AllImages head IsClosed → IsSetFrom head (suc at) word image → gate_of image ≡ 0
closed-set head at word image closed from = elim from.same [
  | inl same ↦ ap gate_of same ∙ closed from.first from.possible
  | inr changed ↦
      ap gate_of changed
      ∙ (gate-beside from.first at word ∙ closed from.first from.possible)
]

shut-by : (head : Seen WordStep) (tails : Seens) → AllImages head IsClosed → AreShut (head ∷ tails)
shut-by head tails closed [] each = absurd each
shut-by head tails closed (image ∷ rest) each = rw (closed image each.0) refl

off-false : (flag : Flag) → flag ≡ Off → can_be flag false ≡ true
off-false flag off = rw off refl

-- The slots come in at the next place, and stay closed there.
pub offset-made : (old : StateView) (head now : Seen WordStep) (tails : Seens) (at word : ℕ)
    (obeys : Bool) (result : Answer) (asked_old asked_new : List Asked) →
    old.tracker.doubt ≡ None → AllImages head IsClosed →
    SetsWord obeys (suc at) word result asked_old head asked_new now →
    CallMakes [] asked_old old asked_new old
offset-made old head now tails at word obeys result asked_old asked_new settled closed sets =
    λ jobs core world together.
    let place : ℕ = next_place old in
    let seens : Seens = head ∷ tails in
    let come = staged-come old seens jobs core world asked_old settled (shut-by head tails closed)
    together in
    let mid : World = with_slots place seens world in
    let stands = come.together.stands in
    let free = next-free old core world together.stands settled in
    let none = none-past old.tracker core place together.stands.follows (omega arith) in
    let fits : (image : List ℕ) (rest : List (List ℕ)) → IsSetFrom head (suc at) word image →
    IsEachImage IsImage tails rest →
    SlotFits old.ino place (holding core core.doubt place) (image ∷ rest) =
    λ image rest from each. closed-fits old.ino place (holding core core.doubt place) image rest
    (closed-set head at word image closed from)
    (off-false (holding core core.doubt place).gate free.gate) in
    let put : (n : ℕ) → length core.log + 2 ≤ n →
    WorldMoments (Recovers old.ino n core) asked_old mid asked_new
    (with_slots place (now ∷ tails) mid)
    × Shows old.ino core (with_slots place (now ∷ tails) mid) =
    λ n bound. heads-set old.ino n place (suc at) word core core mid head now tails asked_old
    asked_new stands.shows (at_place place seens (world.slots place)) (differs-none place core)
    (good core stands.follows.reached) stands.shows.shape bound fits sets.moments in
    record {
      run = tt;
      world = with_slots place (now ∷ tails) mid;
      moments = λ n bound. all_after (come.moments n bound) (put n bound).0;
      stands = replaced old old.tracker place (now ∷ tails) jobs core core mid
          (record {
            follows = stands.follows;
            shows = (put (length core.log + 2) (omega arith)).1;
            cells = refl;
            free = ap (λ (t : Track). is_out t.state) free.is_blank;
            tracks = λ q apart. refl;
            entries = λ q apart. refl;
            here = λ entry held there has.
                (let clash : None ≡ Some entry = sym none.0 ∙ there in cc);
            doubt = λ doubt slots is has.
                (let clash : None ≡ Some doubt = sym settled ∙ is in cc);
          }) come.together;
    }
