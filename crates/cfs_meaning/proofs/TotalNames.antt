-- What is done to the tree comes to an end.
use Rattle.std.proofs.Common.{◌≡◌, ℕ, ◌+◌, Bool, true, false, Option, Some, None, List, [], ◌∷◌}
use Rattle.std.proofs.Common.{subst, if◌then◌else◌}
use Rattle.std.specs.Prelude.{Result, Ok, Err, ◌==◌, nat_lt, not}
use Rattle.std.proofs.lemmas.Bool.{lt-ltb}
use Rattle.cfs_dir.specs.declared.change.Change.{Change}
use Rattle.cfs_dir.specs.declared.moved.Moved.{Moved}
use Rattle.cfs_dir.specs.declared.node.Node.{Node}
use Rattle.cfs_dir.specs.Moved.{change_of}
use Rattle.cfs_grants.specs.Grants.{free_queue}
use Rattle.cfs_requests.specs.declared.name_refusal.NameRefusal.{NameRefusal}
use Rattle.cfs_requests.specs.declared.opening.Opening.{Opening}
use Rattle.cfs_requests.specs.declared.opening.Opening.TheVariants.{Found, Made}
use Rattle.cfs_requests.specs.Looks.{makes, moves, opens, removes, unlinks}
use Rattle.cfs_requests.specs.Steps.{NameAnswer, NameRequest, Step, closes_queue, done, granted}
use Rattle.cfs_requests.specs.Steps.{make_step, makes_directory, moves_node, numbered, open_step}
use Rattle.cfs_requests.specs.Steps.{opens_file, removes_directory, unlinks_file}
use Rattle.cfs_cred.specs.declared.credential.Credential.{Credential}
use Rattle.cfs_words.specs.declared.flags.Flags.{Flags}
use Rattle.cfs_meaning.specs.NameSteps.{Order, changes_of, made_changes, moved_changes}
use Rattle.cfs_meaning.specs.NameSteps.{opening_changes, removed_changes, stands, step_of}
use Rattle.cfs_meaning.specs.World.{World, file_in}
use Rattle.cfs_meaning.specs.Inode.{clear_size, is_size_right, purge, untag}
use Rattle.cfs_meaning.specs.Names.{ask, ask_and_purge, checkpoint, dying, free_record, open_with}
use Rattle.cfs_meaning.specs.Names.{purge_all, say_made, say_named, step_in, store_change}
use Rattle.cfs_meaning.specs.Answered.{HasRoom}
use Rattle.cfs_meaning.specs.Drive.{Op}
use Rattle.cfs_meaning.specs.Ways.{Halt, Way, each, steps}
use Rattle.cfs_meaning.proofs.Total.{IfEnds, Total, total-changes, total-each, total-give}
use Rattle.cfs_meaning.proofs.Total.{total-known, total-look, total-only, total-shrugs, total-steps}
use Rattle.cfs_meaning.proofs.Total.{total-then, total-tries, total-unless, total-weaker}
use Rattle.cfs_meaning.proofs.Total.{total-when}

abbrev pub True : World → Type 0
True world = Unit {0}

abbrev pub Ever : {A : Type 0} → A → World → Type 0
Ever a world = Unit {0}

-- it comes to an end from each world
abbrev pub Free : {A : Type 0} → Way A → Type 0
Free way = Total True Ever True way

pub free-from : {A : Type 0} {P : World → Type 0} {way : Way A} → Free way → Total P Ever True way
free-from one = total-weaker (λ w p. tt) (λ a w q. tt) (λ w e. tt) one

pub free-steps : {P : World → Type 0} {ops : List Op} →
    Total P Ever True (steps ops)
free-steps = free-from (total-steps (λ w holds. tt) (λ w holds. tt))

-- ---- journal and checkpoint

total-checkpoint : Total HasRoom Ever True checkpoint
total-checkpoint =
    total-look (λ x.
    total-then (total-only (nat_lt (x.names.through + x.names.records) 9223372036854775808)
    (λ w holds. lt-ltb (x.names.through + x.names.records) 9223372036854775808
    (subst HasRoom holds.0 holds.1))) (λ u.
    total-then {Q = Ever} (total-when _ (λ is.
    total-then {Q = Ever} free-steps (λ u. total-changes (λ w holds. tt))) (λ is w holds. tt)) (λ u.
    total-then {Q = Ever} free-steps (λ u.
    total-then {Q = Ever} (total-tries (λ w holds. tt)) (λ kept.
    total-then {Q = Ever} (total-changes (λ w holds. tt)) (λ u.
    total-unless kept (λ w holds. tt) (λ w holds. tt)))))))

pub total-store : (change : Change) → Total HasRoom Ever True (store_change change)
total-store change =
    total-look (λ x.
    total-then {Q = Ever} (total-weaker (λ w holds. holds.1) (λ u w holds. tt) (λ w holds. tt)
    (total-when (x.names.records == 64) (λ is. total-checkpoint) (λ is w holds. tt))) (λ u.
    total-look (λ ready.
    total-then {Q = Ever} (total-when _ (λ is.
    total-then {Q = Ever} free-steps (λ u. total-changes (λ w holds. tt))) (λ is w holds. tt)) (λ u.
    total-then {Q = Ever} (total-tries (λ w holds. tt)) (λ kept.
    total-then {Q = Ever} (total-changes (λ w holds. tt)) (λ u.
    total-unless kept (λ w holds. tt) (λ w holds. tt)))))))

-- ---- requests

-- there is one change at most
abbrev IsFew : List Change → Type 0
IsFew [] = Unit {0}
IsFew (change ∷ []) = Unit {0}
IsFew (change ∷ next ∷ rest) = ⊥

opening-few : (found : Result Opening NameRefusal) → IsFew (opening_changes found)
opening-few (Err refusal) = tt
opening-few (Ok (Found node)) = tt
opening-few (Ok (Made node)) = tt

made-few : (found : Result Node NameRefusal) → IsFew (made_changes found)
made-few (Err refusal) = tt
made-few (Ok node) = tt

removed-few : (found : Result Node NameRefusal) → IsFew (removed_changes found)
removed-few (Err refusal) = tt
removed-few (Ok node) = tt

moved-few : (nodes : List Node) (found : Result Moved NameRefusal) →
    IsFew (moved_changes nodes found)
moved-few nodes (Err refusal) = tt
moved-few nodes (Ok moved) = by-test (stands nodes moved.node)
  where
    by-test : (b : Bool) →
        IsFew (if b then [] else change_of moved ∷ [])
    by-test true = tt
    by-test false = tt

changes-few : (order : Order) (request : NameRequest) (rec : Option ℕ) →
    IsFew (changes_of order request rec)
changes-few order (opens_file credential path flags mode) rec =
    opening-few (opens order.tree credential path flags mode rec)
changes-few order (makes_directory credential path mode) rec =
    made-few (makes order.tree credential path mode rec)
changes-few order (unlinks_file credential path) rec =
    removed-few (unlinks order.tree credential path)
changes-few order (removes_directory credential path) rec =
    removed-few (removes order.tree credential path)
changes-few order (moves_node credential from to) rec =
    moved-few order.tree.nodes (moves order.tree credential from to)
changes-few order (closes_queue queue) rec = tt

few-stored : (list : List Change) → IsFew list → Total HasRoom Ever True (each list store_change)
few-stored [] few = total-give (λ w holds. tt)
few-stored (change ∷ []) few =
    total-then (total-store change) (λ u. total-give (λ w holds. tt))
few-stored (change ∷ next ∷ rest) few = absurd few

-- what a request may answer
abbrev pub Fits : NameRequest → NameAnswer → Type 0
Fits (opens_file credential path flags mode) (granted grant) = Unit {0}
Fits (opens_file credential path flags mode) other = ⊥
Fits (makes_directory credential path mode) (numbered ino) = Unit {0}
Fits (makes_directory credential path mode) other = ⊥
Fits other reply = Unit {0}

abbrev StepFits : NameRequest → Step → Type 0
StepFits request None = Unit {0}
StepFits request (Some step) = Fits request step.0

open-fits : (order : Order) (c : ℕ) (credential : Credential) (path : List (List ℕ))
    (flags : Flags) (mode : ℕ) (queue : Option ℕ) (found : Result Opening NameRefusal) →
    StepFits (opens_file credential path flags mode) (open_step order c flags queue found)
open-fits order c credential path flags mode queue (Err refusal) = tt
open-fits order c credential path flags mode None (Ok opening) = tt
open-fits order c credential path flags mode (Some queue) (Ok opening) = tt

make-fits : (order : Order) (credential : Credential) (path : List (List ℕ)) (mode : ℕ)
    (found : Result Node NameRefusal) →
    StepFits (makes_directory credential path mode) (make_step order found)
make-fits order credential path mode (Err refusal) = tt
make-fits order credential path mode (Ok node) = tt

step-fits : (order : Order) (c : ℕ) (request : NameRequest) (rec : Option ℕ)
    (step : NameAnswer × Order) → step_of order c request rec ≡ Some step → Fits request step.0
step-fits order c (opens_file credential path flags mode) rec step is =
    subst (StepFits (opens_file credential path flags mode)) is
    (open-fits order c credential path flags mode (free_queue order.grants)
    (opens order.tree credential path flags mode rec))
step-fits order c (makes_directory credential path mode) rec step is =
    subst (StepFits (makes_directory credential path mode)) is
    (make-fits order credential path mode (makes order.tree credential path mode rec))
step-fits order c (unlinks_file credential path) rec step is = tt
step-fits order c (removes_directory credential path) rec step is = tt
step-fits order c (moves_node credential from to) rec step is = tt
step-fits order c (closes_queue queue) rec step is = tt

pub total-ask : (c line : ℕ) (request : NameRequest) →
    Total HasRoom (λ reply w. Fits request reply) True (ask c line request)
total-ask c line request =
    total-look (λ x.
    total-then {Q = λ step w. (step_in x c request (free_record x) ≡ Some step) × HasRoom w}
    (total-weaker {P = HasRoom} {E = True} (λ w holds. holds.1) (λ step w holds. holds)
    (λ w holds. holds)
    (total-known (step_in x c request (free_record x)) _ (λ w holds. tt))) (λ step.
    total-then {Q = λ u w. step_in x c request (free_record x) ≡ Some step}
    (stored x step) (λ u.
    total-then {Q = λ u w. step_in x c request (free_record x) ≡ Some step}
    (total-changes (λ w holds. holds)) (λ u.
    total-give (λ w holds.
    step-fits x.names.now c request (free_record x) step holds)))))
  where
    stored : (x : World) (step : NameAnswer × Order) →
        Total (λ w. (step_in x c request (free_record x) ≡ Some step) × HasRoom w)
        (λ u w. step_in x c request (free_record x) ≡ Some step) True
        (each (changes_of x.names.now request (free_record x)) store_change)
    stored x step = record {
      by = λ old holds.
          let y = (few-stored _ (changes-few x.names.now request (free_record x))).by old holds.1 in
          (y.0, y.1, y.2, kept y.0 y.1 holds.0);
    }
      where
        kept : (end : Result (Unit {0}) Halt) (new : World) →
            step_in x c request (free_record x) ≡ Some step →
            IfEnds (λ u w. step_in x c request (free_record x) ≡ Some step) True end new
        kept (Ok u) new is = is
        kept (Err halt) new is = tt

-- ---- the lines' ends

pub total-open : (c : ℕ) (appends : Bool) (credential : Credential) (path : List (List ℕ))
    (flags : Flags) (mode : ℕ) (reply : NameAnswer) →
    Total (λ w. Fits (opens_file credential path flags mode) reply) Ever True
    (open_with c appends reply)
total-open c appends credential path flags mode (granted grant) =
    total-look (λ w. total-then {Q = Ever} (total-changes (λ v holds. tt)) (λ u.
    total-give (λ v holds. tt)))
total-open c appends credential path flags mode (numbered ino) =
    record { by = λ old holds. absurd holds }
total-open c appends credential path flags mode done = record { by = λ old holds. absurd holds }

pub total-made : (credential : Credential) (path : List (List ℕ)) (mode : ℕ) (reply : NameAnswer) →
    Total (λ w. Fits (makes_directory credential path mode) reply) Ever True (say_made reply)
total-made credential path mode (granted grant) = record { by = λ old holds. absurd holds }
total-made credential path mode (numbered ino) = total-look (λ w. total-give (λ v holds. tt))
total-made credential path mode done = record { by = λ old holds. absurd holds }

pub total-named : {P : World → Type 0} → Total P Ever True say_named
total-named = total-look (λ w. total-give (λ v holds. tt))

-- ---- purges

free-untag : (ino : ℕ) (x : ℕ × ℕ) → Free (untag ino x)
free-untag ino x = total-then {Q = Ever} free-steps (λ u. total-changes (λ w holds. tt))

free-clear : (ino rec : ℕ) → Free (clear_size ino rec)
free-clear ino rec =
    total-then {Q = Ever} free-steps (λ u.
    total-then {Q = Ever} (total-changes (λ w holds. tt)) (λ u. free-steps))

free-purge : (ino : ℕ) → Free (purge ino)
free-purge ino =
    total-look (λ x.
    total-then {Q = Ever} (total-changes (λ w holds. tt)) (λ u.
    total-then {Q = Ever} (total-each _ (free-untag ino)) (λ u.
    total-then {Q = Ever}
    (total-when (not (is_size_right (file_in x ino).core 0))
    {way = clear_size ino (file_in x ino).rec} (λ is. free-clear ino (file_in x ino).rec)
    (λ is w holds. tt)) (λ u.
    total-changes (λ w holds. tt)))))

pub total-purges : {P : World → Type 0} → Total P Ever True purge_all
total-purges =
    total-look (λ w. free-from (total-each (dying w) (λ ino. total-shrugs (free-purge ino))))

pub total-ask-purge : (c line : ℕ) (request : NameRequest) →
    Total HasRoom Ever True (ask_and_purge c line request)
total-ask-purge c line request =
    total-then {Q = Ever} (total-then (total-ask c line request) (λ reply. total-purges)) (λ u.
    total-named)
