-- One record reached more.
use Rattle.std.proofs.Common.{◌≡◌, ℕ, ◌+◌, ◌%◌, ◌<◌, List, [], ◌∷◌, ◌++◌, length, get_or, map, take}
use Rattle.std.proofs.Common.{sym, ◌∙◌, ap}
use Rattle.std.proofs.lemmas.List.{map-append}
use Rattle.std.proofs.lemmas.Grind.{take_at_read}
use Rattle.cfs_dir.specs.Change.{changed}
use Rattle.cfs_dir.specs.Namespace.{Namespace}
use Rattle.cfs_journal.specs.Records.{change_of}
use Rattle.cfs_survey.specs.Changes.{change_checks, placed_by}
use Rattle.cfs_survey.specs.Journals.{places_after, reached, reached_checks, record_at, tree_after}
use Rattle.cfs_survey.proofs.ChangeLemmas.{places_more, tree_more}
use Rattle.cfs_survey.proofs.WalkLemmas.{walk_at}

-- the tree so far, and where the words of its nodes are
pub record IsSoFar (at through : ℕ) (table : Namespace) (first : List ℕ) (journal : List (List ℕ))
    (k : ℕ) (tree : Namespace) (places : List ℕ) : Type 0 where
  pub tree_is : tree ≡ tree_after table (take k (reached through journal))
  pub places_are : places ≡ places_after at through first (take k (reached through journal))

pub checks_are : (at through : ℕ) (table : Namespace) (first : List ℕ) (journal : List (List ℕ))
    (k : ℕ) (tree : Namespace) (places : List ℕ)
    → k < length (reached through journal) → IsSoFar at through table first journal k tree places
    → change_checks (record_at at ((through + k) % 64)) tree places
    (get_or journal ((through + k) % 64) [])
    ≡ reached_checks at through table first (reached through journal) k
checks_are at through table first journal k tree places below so_far =
    let here : List ℕ = get_or journal ((through + k) % 64) [] in
    ap (λ t. change_checks (record_at at ((through + k) % 64)) t places here) so_far.tree_is
    ∙ ap (λ p. change_checks (record_at at ((through + k) % 64))
    (tree_after table (take k (reached through journal))) p here) so_far.places_are
    ∙ ap (λ w. change_checks (record_at at ((through + k) % 64))
    (tree_after table (take k (reached through journal)))
    (places_after at through first (take k (reached through journal))) w)
    (sym (walk_at 64 through journal k below))

pub so_far_more : (at through : ℕ) (table : Namespace) (first : List ℕ) (journal : List (List ℕ))
    (k : ℕ) (tree new : Namespace) (places new_places : List ℕ)
    → k < length (reached through journal) → IsSoFar at through table first journal k tree places
    → new ≡ changed tree (change_of (get_or journal ((through + k) % 64) []))
    → new_places ≡ placed_by (record_at at ((through + k) % 64))
    (get_or journal ((through + k) % 64) []) places
    → IsSoFar at through table first journal (k + 1) new new_places
so_far_more at through table first journal k tree new places new_places below so_far is are =
    let here = sym (walk_at 64 through journal k below) in
    record {
      tree_is = is
          ∙ ap (λ t. changed t (change_of (get_or journal ((through + k) % 64) []))) so_far.tree_is
          ∙ ap (λ w. changed (tree_after table (take k (reached through journal))) (change_of w))
          here
          ∙ sym (tree_more table (reached through journal) k below);
      places_are = are
          ∙ ap (λ p. placed_by (record_at at ((through + k) % 64))
          (get_or journal ((through + k) % 64) []) p) so_far.places_are
          ∙ ap (λ w. placed_by (record_at at ((through + k) % 64)) w
          (places_after at through first (take k (reached through journal)))) here
          ∙ sym (places_more at through first (reached through journal) k below);
    }

-- the changes of the records reached, with one more
pub told_more : (through : ℕ) (journal : List (List ℕ)) (k : ℕ) →
    k < length (reached through journal) →
    map change_of (take (k + 1) (reached through journal))
    ≡ map change_of (take k (reached through journal))
    ++ change_of (get_or journal ((through + k) % 64) []) ∷ []
told_more through journal k below =
    let records : List (List ℕ) = reached through journal in
    ap (λ ws. map change_of ws) (take_at_read records k [] below).1
    ∙ map-append change_of (take k records) (get_or records k [] ∷ [])
    ∙ ap (λ w. map change_of (take k records) ++ change_of w ∷ [])
    (walk_at 64 through journal k below)
