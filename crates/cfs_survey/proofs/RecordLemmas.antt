-- What the records of a table that pass their checks say of its nodes.
use Rattle.std.proofs.Common.{◌≡◌, ◌≢◌, ℕ, ◌+◌, ◌<◌, ◌≤◌, zero, suc, List, [], ◌∷◌, ◌++◌, get_or, take, true, false, Bool, refl, sym, ◌∙◌, ap, subst, arith, eq-eqb, append-nil}
use Rattle.std.specs.Prelude.{All, None, Option, Some, find, is_none, nat_lt, cond, ◌==◌, if◌then◌else◌}
use Rattle.std.specs.Option.{option_or}
use Rattle.std.proofs.lemmas.Bool.{eqb-false, eqb-true, ltb-true}
use Rattle.std.proofs.lemmas.List.Elements.{All-append, All-cons, All-head, All-nil, All-push, All-weaker}
use Rattle.std.proofs.lemmas.List.Folds.{find-append}
use Rattle.cfs_dir.specs.declared.kind.Kind.TheVariants.{Directory, File}
use Rattle.cfs_dir.specs.declared.node.Node.{Node}
use Rattle.cfs_dir.specs.Namespace.{node_of}
use Rattle.cfs_dir.specs.Tree.{IsRoot}
use Rattle.cfs_dir.specs.Words.{node_in}
use Rattle.cfs_image.specs.Checks.{check, damage_of}
use Rattle.cfs_survey.specs.Faults.{checks_from, equal}
use Rattle.cfs_survey.specs.Fields.{field_checks, name_room, owner_checks, root_checks}
use Rattle.cfs_survey.specs.Places.{rec_of}
use Rattle.cfs_survey.specs.Tables.{nodes_below, number_checks, record_checks, row, row_at, standing}
use Rattle.cfs_survey.proofs.FirstFaults.{holds_at, passed, sound_parts}
use Rattle.cfs_survey.proofs.RowLemmas.{IsSoundNode, owner_holds, row_holds}
use Rattle.cfs_survey.proofs.TableLemmas.{below_first, below_next}

pub none_found : (found : Option Node) → is_none found ≡ true → found ≡ None
none_found None h = refl
none_found (Some x) h = absurd (cc)

-- a node that is not the root's
pub node_holds : (at next rec : ℕ) (words : List ℕ) (lower : List Node) → (get_or words 0 0 == 0) ≡ false
    → damage_of (number_checks at (get_or words 0 0) next lower ++ field_checks at words) ≡ None
    → IsSoundNode next (node_in rec words) × (node_of lower (get_or words 0 0) ≡ None)
node_holds at next rec words lower stands sound =
    let ino : ℕ = get_or words 0 0 in
    let some : ino ≢ 0 = eqb-false ino 0 stands in
    let below = check (nat_lt ino next) at ino next in
    let other = check (is_none (node_of lower ino)) at ino (rec_of (node_of lower ino)) in
    let parts = sound_parts (below ∷ other ∷ []) (field_checks at words) sound in
    let number = sound_parts (below ∷ []) (other ∷ []) parts.0 in
    let fields = row_holds at words parts.1 in (
      record {
        low = omega arith;
        below = ltb-true ino next (passed below number.0);
        mode = fields.owned.mode;
        uid = fields.owned.uid;
        gid = fields.owned.gid;
        name = λ _. fields.name;
      },
      none_found (node_of lower ino) (passed other number.1),
    )

-- the root
pub root_holds : (at next : ℕ) (words : List ℕ) → 2 ≤ next → damage_of (root_checks at words) ≡ None
    → IsSoundNode next (node_in 0 words) × IsRoot (node_in 0 words)
unfolding root_checks
root_holds at next words low sound =
    let ino = equal 1 at (get_or words 0 0) in
    let parent = equal 1 (at + 8) (get_or words 1 0) in
    let kind = equal 2 (at + 16) (get_or words 2 0) in
    let len = equal 0 (at + 48) (get_or words 6 0) in
    let first = sound_parts (ino ∷ []) (parent ∷ kind ∷ len ∷ owner_checks at words) sound in
    let second = sound_parts (parent ∷ []) (kind ∷ len ∷ owner_checks at words) first.1 in
    let third = sound_parts (kind ∷ []) (len ∷ owner_checks at words) second.1 in
    let fourth = sound_parts (len ∷ []) (owner_checks at words) third.1 in
    let one : get_or words 0 0 ≡ 1 = eqb-true (get_or words 0 0) 1 (passed ino first.0) in
    let owner = owner_holds at words fourth.1 in (
      record {
        low = omega arith;
        below = omega arith;
        mode = owner.mode;
        uid = owner.uid;
        gid = owner.gid;
        name = λ other. absurd (other one);
      },
      record {
        ino = one;
        parent = eqb-true (get_or words 1 0) 1 (passed parent second.0);
        name = ap (λ n. take n (name_room words)) (eqb-true (get_or words 6 0) 0 (passed len fourth.0));
        kind = ap (λ b. if b then Directory else File) (passed kind third.0);
      },
    )

-- one node more, whose number no other has
pub once_more : (nodes : List Node) (x : Node) → All (λ y. node_of nodes y.ino ≡ Some y) nodes → node_of nodes x.ino ≡ None
    → All (λ y. node_of (nodes ++ x ∷ []) y.ino ≡ Some y) (nodes ++ x ∷ [])
once_more nodes x once none =
    let P = λ (y : Node). node_of (nodes ++ x ∷ []) y.ino ≡ Some y in
    All-append P nodes (x ∷ [])
    (All-weaker (λ y. node_of nodes y.ino ≡ Some y) P
    (λ y found. find-append (λ node. node.ino == y.ino) nodes (x ∷ []) ∙ ap (λ o. option_or o (find (λ node. node.ino == y.ino) (x ∷ []))) found) nodes once)
    (All-cons P x []
    (find-append (λ node. node.ino == x.ino) nodes (x ∷ []) ∙ ap (λ o. option_or o (find (λ node. node.ino == x.ino) (x ∷ []))) none
    ∙ ap (λ b. cond b (Some x) None) (eq-eqb x.ino x.ino refl))
    (All-nil P))

-- what stands in a record that passes its checks
pub record_holds : (at : ℕ) (words : List ℕ) (rec : ℕ) → damage_of (record_checks at words rec) ≡ None
    → All (λ x. IsSoundNode (get_or words 0 0) x × (node_of (nodes_below words rec) x.ino ≡ None)) (standing rec (row words rec))
record_holds at words rec sound = split (get_or (row words rec) 0 0 == 0) refl sound
  where
    split : (b : Bool) → (get_or (row words rec) 0 0 == 0) ≡ b
        → damage_of (if b then [] else number_checks (row_at at rec) (get_or (row words rec) 0 0) (get_or words 0 0) (nodes_below words rec) ++ field_checks (row_at at rec) (row words rec)) ≡ None
        → All (λ x. IsSoundNode (get_or words 0 0) x × (node_of (nodes_below words rec) x.ino ≡ None)) (if b then [] else node_in rec (row words rec) ∷ [])
    split true e h = All-nil (λ x. IsSoundNode (get_or words 0 0) x × (node_of (nodes_below words rec) x.ino ≡ None))
    split false e h =
        All-cons (λ x. IsSoundNode (get_or words 0 0) x × (node_of (nodes_below words rec) x.ino ≡ None)) (node_in rec (row words rec)) []
        (node_holds (row_at at rec) (get_or words 0 0) rec (row words rec) (nodes_below words rec) e h)
        (All-nil (λ x. IsSoundNode (get_or words 0 0) x × (node_of (nodes_below words rec) x.ino ≡ None)))

-- nodes that are sound each, of which no two have one number
pub record AreSound (next : ℕ) (nodes : List Node) : Type 0 where
  pub sound : All (IsSoundNode next) nodes
  pub once : All (λ x. node_of nodes x.ino ≡ Some x) nodes

append_sound : (next : ℕ) (nodes : List Node) (b : Bool) (x : Node) → AreSound next nodes
    → All (λ y. IsSoundNode next y × (node_of nodes y.ino ≡ None)) (if b then [] else x ∷ []) → AreSound next (nodes ++ (if b then [] else x ∷ []))
append_sound next nodes true x h all = subst (AreSound next) (sym (append-nil nodes)) h
append_sound next nodes false x h all =
    let here = All-head (λ y. IsSoundNode next y × (node_of nodes y.ino ≡ None)) x [] all in
    record {
      sound = All-push (IsSoundNode next) nodes x h.sound here.0;
      once = once_more nodes x h.once here.1;
    }

-- the nodes of the first records, of which the root is one
pub records_hold : (at : ℕ) (words : List ℕ) (n : ℕ) → n < 256 → 2 ≤ get_or words 0 0
    → damage_of (root_checks (row_at at 0) (row words 0)) ≡ None → damage_of (checks_from (record_checks at words) 1 255) ≡ None
    → AreSound (get_or words 0 0) (nodes_below words (n + 1))
records_hold at words zero below low root others =
    let first = root_holds (row_at at 0) (get_or words 0 0) (row words 0) low root in
    let x : Node = node_in 0 (row words 0) in
    subst (AreSound (get_or words 0 0)) (sym (below_first words first.1.ino)) (record {
      sound = All-cons (IsSoundNode (get_or words 0 0)) x [] first.0 (All-nil (IsSoundNode (get_or words 0 0)));
      once = once_more [] x (All-nil (λ y. node_of [] y.ino ≡ Some y)) refl;
    })
records_hold at words (suc n) below low root others =
    let rec : ℕ = n + 1 in
    let more : rec + 1 ≡ suc n + 1 = omega arith in
    let here = record_holds at words rec (holds_at (record_checks at words) 1 255 n rec (omega arith) (omega arith) others) in
    let deeper = records_hold at words n (omega arith) low root others in
    subst (λ m. AreSound (get_or words 0 0) (nodes_below words m)) more
    (subst (AreSound (get_or words 0 0)) (sym (below_next words rec))
    (append_sound (get_or words 0 0) (nodes_below words rec) (get_or (row words rec) 0 0 == 0) (node_in rec (row words rec)) deeper here))
