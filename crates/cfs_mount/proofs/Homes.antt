-- The queues and the records of a store that was just mounted.
use Rattle.std.proofs.Common.{◌≡◌, ◌∙◌, ℕ, zero, suc, ◌+◌, Bool, true, false, not, ◌&&◌, List, []}
use Rattle.std.proofs.Common.{◌∷◌, ◌*◌, Option, None, Some, drop, length, map, take, refl, sym, ap, ap₂, arith}
use Rattle.std.proofs.lemmas.List.FromFn.{length-map-range_with_len}
use Rattle.std.specs.List.{range_with_len}
use Rattle.std.specs.Prelude.{is_some, replicate}
use Rattle.cfs_dir.specs.declared.node.Node.{Node}
use Rattle.cfs_dir.specs.Namespace.{Namespace, node_at}
use Rattle.cfs_grants.specs.declared.removed.Removed.{Removed}
use Rattle.cfs_grants.specs.Removed.{row_of}
use Rattle.cfs_kernel.specs.Queues.{AreWhole, home_at}
use Rattle.cfs_kernel.specs.Records.{is_unused}
use Rattle.cfs_kernel.specs.States.{Kernel}
use Rattle.cfs_queue.specs.Queue.{Slots, free, out_from, out_slots}
use Rattle.cfs_mount.specs.Names.{mounted_kernel}
use Rattle.cfs_mount.specs.Queues.{free_queue_at, free_queues}

none_out : {X : Type 0} (first : ℕ) (slots : List X) →
    out_from first (map (λ slot. free slot) slots) ≡ []
none_out first [] = refl
none_out first (slot ∷ slots) = none_out (first + 1) slots

-- a queue that is home is the free one of its number
home_is : {X : Type 0} (slots : List X) (count from number : ℕ) (queue : Slots X) →
    home_at (map (λ queue. Some queue) (map (free_queue_at slots) (range_with_len from count)))
    number ≡ Some queue → queue ≡ free_queue_at slots (from + number)
home_is slots zero from number queue there = absurd (cc)
home_is slots (suc count) from zero queue there =
    let same : from + zero ≡ from = omega arith in
    let here : free_queue_at slots from ≡ queue = cc in
    sym here ∙ ap (free_queue_at slots) (sym same)
home_is slots (suc count) from (suc number) queue there =
    let next : from + 1 + number ≡ from + suc number = omega arith in
    home_is slots count (from + 1) number queue there ∙ ap (free_queue_at slots) next

pub whole_queues : {X : Type 0} (slots : List X) (count : ℕ) →
    AreWhole (map (λ queue. Some queue) (free_queues slots count))
whole_queues {X} slots count number queue there =
    let is : queue ≡ free_queue_at slots (0 + number) =
    home_is slots count 0 number queue there in
    let same : 0 + number ≡ number = omega arith in (
      ap (λ (q : Slots X). q.number) is ∙ same,
      ap (λ (q : Slots X). out_slots q) is
          ∙ none_out 0 (take 16 (drop (16 * (0 + number)) slots)),
    )

pub count_is : {X : Type 0} (slots : List X) (count : ℕ) (queues : List (Slots X)) →
    queues ≡ free_queues slots count → length queues ≡ count
count_is slots count queues are =
    ap length are ∙ length-map-range_with_len (free_queue_at slots) 0 count

none_yet : (count rec : ℕ) → row_of (replicate count None) rec ≡ None
none_yet zero rec = refl
none_yet (suc count) zero = refl
none_yet (suc count) (suc rec) = none_yet count rec

and_true : (b : Bool) → (b && true) ≡ b
and_true true = refl
and_true false = refl

-- where no file is removed, a record is free exactly where no node has it
pub unused_without : (nodes : List Node) (rows : List (Option Removed)) (count rec : ℕ) →
    rows ≡ replicate count None → is_unused nodes rows rec ≡ not (is_some (node_at nodes rec))
unused_without nodes rows count rec are =
    let none : row_of rows rec ≡ None =
    ap (λ (all : List (Option Removed)). row_of all rec) are ∙ none_yet count rec in
    ap (λ (row : Option Removed). not (is_some (node_at nodes rec)) && not (is_some row)) none
    ∙ and_true (not (is_some (node_at nodes rec)))

-- the kernel's part of a store with these queues, of which nothing is out
abbrev pub with_queues : {X : Type 0} → Namespace → ℕ → List (Slots X) → Kernel X
with_queues tree count queues = record {
  names = record { tree = tree; grants = replicate count None; next_grant = 1 };
  requests = 0;
  removed = replicate 256 None;
  home = map (λ queue. Some queue) queues;
}

pub mounted_is : {X : Type 0} (tree : Namespace) (slots : List X) (count made : ℕ)
    (queues : List (Slots X)) → made ≡ length queues → queues ≡ free_queues slots count →
    with_queues tree made queues ≡ mounted_kernel tree slots count
mounted_is tree slots count made queues size are =
    ap₂ (λ number home. with_queues tree number home)
    (size ∙ count_is slots count queues are) are
