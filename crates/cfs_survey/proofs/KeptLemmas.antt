-- What each change of a journal that passes its checks keeps of a tree, all of them keep.
use Rattle.std.proofs.Common.{◌≡◌, ℕ, zero, suc, ◌+◌, ◌<◌, ◌≤◌, List, [], length, get_or}
use Rattle.std.proofs.Common.{take, sym, subst, arith}
use Rattle.std.specs.Prelude.{None}
use Rattle.std.proofs.lemmas.List.{take_all}
use Rattle.cfs_dir.specs.Change.{changed}
use Rattle.cfs_dir.specs.Namespace.{Namespace}
use Rattle.cfs_image.specs.Checks.{damage_of}
use Rattle.cfs_journal.specs.Records.{change_of}
use Rattle.cfs_survey.specs.Changes.{change_checks}
use Rattle.cfs_survey.specs.Journals.{changes_checks, places_after, position_of, reached_checks}
use Rattle.cfs_survey.specs.Journals.{record_at, tree_after}
use Rattle.cfs_survey.proofs.ChangeLemmas.{tree_more}
use Rattle.cfs_survey.proofs.FirstFaults.{holds_at}

-- one change keeps it
abbrev pub IsKept : (Namespace → Type 0) → Type 0
IsKept Holds =
    (at : ℕ) (tree : Namespace) (places words : List ℕ)
    → damage_of (change_checks at tree places words) ≡ None
    → Holds tree → Holds (changed tree (change_of words))

-- the first k changes keep it
kept_through : (Holds : Namespace → Type 0) (at through : ℕ) (table : Namespace) (places : List ℕ)
    (changes : List (List ℕ)) (k : ℕ)
    → IsKept Holds → damage_of (changes_checks at through table places changes) ≡ None
    → Holds table → k ≤ length changes → Holds (tree_after table (take k changes))
unfolding changes_checks
kept_through Holds at through table places changes zero kept sound first most = first
kept_through Holds at through table places changes (suc n) kept sound first most =
    let below : n < length changes = omega arith in
    let next : n + 1 ≡ suc n = omega arith in
    subst (λ k. Holds (tree_after table (take k changes))) next
    (subst Holds (sym (tree_more table changes n below))
    (kept (record_at at (position_of through n)) (tree_after table (take n changes))
    (places_after at through places (take n changes)) (get_or changes n [])
    (holds_at (reached_checks at through table places changes) 0 (length changes) n n
    (omega arith) below sound)
    (kept_through Holds at through table places changes n kept sound first (omega arith))))

pub kept_by_all : (Holds : Namespace → Type 0) (at through : ℕ) (table : Namespace)
    (places : List ℕ) (changes : List (List ℕ))
    → IsKept Holds → damage_of (changes_checks at through table places changes) ≡ None
    → Holds table → Holds (tree_after table changes)
kept_by_all Holds at through table places changes kept sound first =
    subst (λ all. Holds (tree_after table all)) (take_all (length changes) changes (omega arith))
    (kept_through Holds at through table places changes (length changes) kept sound first
    (omega arith))
