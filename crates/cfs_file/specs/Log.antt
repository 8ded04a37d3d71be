-- The file after a list of entries, and which lists are a legal order.
use Rattle.std.specs.Prelude.{◌≡◌, ◌==◌, ℕ, ◌+◌, ◌≤◌, Option, Some, List, [], ◌∷◌, length, take, filter}
use Rattle.std.specs.List.{slice_get}
use Rattle.cfs_file.specs.declared.answer.Answer.{Answer}
use Rattle.cfs_file.specs.declared.entry.Entry.{Entry}
use Rattle.cfs_file.specs.File.{IsFile, effect, answer}

-- the base file taken through the requests of the entries, in order
abbrev pub file_of : List ℕ → List Entry → List ℕ
file_of base [] = base
file_of base (entry ∷ entries) = file_of (effect base entry.request) entries

-- A log over a base file is legal, with the answers that were given to its entries, in their order;
-- an entry without an answer has none in that list.
pub record IsLegal (base : List ℕ) (log : List Entry) (given : List (Option Answer)) : Type 0 where
  -- the k-th entry, from 1, has place k
  pub places : (k : ℕ) (entry : Entry) → slice_get log k ≡ Some entry → entry.place ≡ k + 1
  -- every file on the way is a file
  pub files : (k : ℕ) → k ≤ length log → IsFile (file_of base (take k log))
  -- each given answer is the answer on the file after the entries before it
  pub answers : (k : ℕ) (entry : Entry) (reply : Answer) → slice_get log k ≡ Some entry →
      slice_get given k ≡ Some (Some reply) →
      reply ≡ answer (file_of base (take k log)) entry.request

-- the entries of one caller, in order of place
abbrev pub own_list : List Entry → ℕ → List Entry
own_list log caller = filter (λ entry. entry.caller == caller) log
