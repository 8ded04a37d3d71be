-- A request that stands whole in its slots together, whatever a crash leaves of them.
use Rattle.std.specs.Prelude.{ℕ, ◌≡◌, List, [], ◌∷◌}
use Rattle.cfs_file.specs.declared.request.Request.{Request}
use Rattle.cfs_pmem.specs.Images.{Seen, WordStep, IsImage}
use Rattle.cfs_pmem.specs.Objects.{IsEachImage}
use Rattle.cfs_slot.specs.Words.{request_of}

-- the words of a head and of its tails, which stand behind it in order, hold the request
abbrev pub IsRequestIn : Request → List (List ℕ) → Type 0
IsRequestIn request [] = ⊥
IsRequestIn request (words ∷ tails) = request_of words tails ≡ request

-- whichever image each of these slots has, the head's first, they hold the request
abbrev pub StandsWhole : Request → List (Seen WordStep) → Type 0
StandsWhole request seens =
    (images : List (List ℕ)) → IsEachImage IsImage seens images → IsRequestIn request images
