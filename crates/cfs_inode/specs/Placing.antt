-- The offset of a staged append.
use Rattle.std.specs.Prelude.{ℕ, ◌≡◌, Bool, true, List, ◌∷◌, map}
use Rattle.cfs_file.specs.declared.request.Request.{Request}
use Rattle.cfs_file.specs.declared.request.Request.TheVariants as requests
use Rattle.cfs_pmem.specs.declared.trace.Asked.{Asked}
use Rattle.cfs_file.specs.Span.{span}
use Rattle.cfs_core.specs.Medium.{placed}
use Rattle.cfs_pmem.specs.Images.{IsSure, Seen, WordStep, words_of}
use Rattle.cfs_slot.specs.declared.staged.Staged.{Staged}
use Rattle.cfs_slot.specs.Regions.{of_staged, tails_of_staged}
use Rattle.cfs_slot.specs.Words.{grant_of, ino_of}
use Rattle.cfs_inode.specs.Heads.{SetsOffset}
use Rattle.cfs_inode.specs.Marking.{answer_for}
use Rattle.cfs_inode.specs.View.{Seens}

-- the slots of a staged request, the head first
abbrev pub staged_seens : {R : Type 0} {g : _} → (R → Seen WordStep) → Staged R g → Seens
staged_seens seen staged = map seen (of_staged staged ∷ tails_of_staged staged)

-- The slots hold this request; of an append, its bytes at some offset.
abbrev pub IsStagedFor : Request → Request → Type 0
IsStagedFor (requests.Append bytes) held = (offset : ℕ) × (held ≡ requests.Write offset bytes)
IsStagedFor request held = held ≡ request

-- the offset is not unsure, but perhaps of an append
abbrev pub IsSureFor : Request → Seen WordStep → Type 0
IsSureFor (requests.Append bytes) head = Unit {0}
IsSureFor request head = IsSure head

-- That of an append becomes the length of the file, all else is as it was.
abbrev pub Places : Bool → Request → ℕ → Bool → List Asked → Seens → List Asked → Seens → Type 0
Places obeys (requests.Append bytes) long placed asked_old old asked_new new =
    SetsOffset obeys long (answer_for placed) asked_old old asked_new new
Places obeys request long placed asked_old old asked_new new =
    (placed ≡ true) × ((asked_new ≡ asked_old) × (new ≡ old))

-- The slots hold the request at its place, and its offset is not unsure.
pub record IsPlaced (request : Request) (long : ℕ) (head : Seen WordStep) (held : Request) : Type 0
  where
    pub holds : held ≡ placed (span request long) request
    pub sure : IsSure head

-- the slots are of the same inode and grant
pub record IsOfSame (old new : Seen WordStep) : Type 0 where
  pub ino : ino_of (words_of new) ≡ ino_of (words_of old)
  pub grant : grant_of (words_of new) ≡ grant_of (words_of old)
