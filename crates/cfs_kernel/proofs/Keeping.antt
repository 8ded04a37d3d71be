-- Records that are kept: what changes at one of them.
use Rattle.std.proofs.Common.{ℕ, zero, suc, ◌+◌, ◌≡◌, ◌≢◌, ◌<◌, Bool, true, false, cond, not, ◌&&◌, ◌||◌, List, [], ◌∷◌, length, Option, Some, None, inl, inr, refl, sym, ◌∙◌, ap, subst, arith}
use Rattle.std.specs.Option.{option_map}
use Rattle.std.specs.Prelude.{IfSome, IsSomeAnd, is_some, nat_eq, replicate, set}
use Rattle.std.proofs.Math.ListN.{length-set}
use Rattle.std.proofs.lemmas.List.{length-replicate}
use Rattle.std.proofs.lemmas.Bool.{cases_Bool, cond-false, cond-true, eq-eqb, eqb-false, eqb-true, ne_eqb}
use Rattle.cfs_dir.specs.declared.node.Node.{Node}
use Rattle.cfs_dir.specs.Change.{without_replaced}
use Rattle.cfs_dir.specs.Namespace.{Namespace, is_directory, node_at, placed, without}
use Rattle.cfs_dir.specs.declared.moved.Moved.{Moved}
use Rattle.cfs_dir.specs.Moved.{CanMove, IsSameNode}
use Rattle.cfs_grants.specs.declared.free.FreeRecords.{FreeRecords}
use Rattle.cfs_grants.specs.declared.grant.Grant.{Grant}
use Rattle.cfs_grants.specs.declared.removed.Removed.{Removed}
use Rattle.cfs_grants.specs.Free.{is_free}
use Rattle.cfs_grants.specs.Removed.{first_dying, given_to, is_dying, kept_again, row_of}
use Rattle.cfs_kernel.specs.Records.{AreFreed, AreKept, IsFreed, buried, is_unused, unused_record}
use Rattle.cfs_kernel.proofs.Lowest.{first_record, found_record, no_record}
use Rattle.cfs_kernel.proofs.Nodes.{placed_other, placed_same, without_other, without_same}
use Rattle.cfs_kernel.proofs.Rows.{at_within, set_other, set_same}

-- two rows that are there are alike to who asks no more
alike : (one : Option Removed) {other : Option Removed} {row : Removed} → is_some one ≡ true → other ≡ Some row → is_some one ≡ is_some other
alike one there is = there ∙ sym (ap (λ row. is_some row) is)

and_true : (b : Bool) → (b && true) ≡ b
and_true true = refl
and_true false = refl

both_not : (a b : Bool) → (not a && not b) ≡ true → (a ≡ false) × (b ≡ false)
both_not true b e = absurd (cc)
both_not false true e = absurd (cc)
both_not false false e = (refl, refl)

module _ (nodes : List Node) (rows : List (Option Removed)) (bits : FreeRecords) (kept : AreKept nodes rows bits) where
  -- at one record the three are others, and at each other record they are as they were
  pub at_one : (rec : ℕ) (nodes_new : List Node) (rows_new : List (Option Removed)) (bits_new : FreeRecords) →
      rec < 256 → length rows_new ≡ length rows →
      ((other : ℕ) → other ≢ rec → is_some (node_at nodes_new other) ≡ is_some (node_at nodes other)) →
      ((other : ℕ) → other ≢ rec → row_of rows_new other ≡ row_of rows other) →
      ((other : ℕ) → other < 256 → other ≢ rec → is_free bits_new other ≡ is_free bits other) →
      (is_free bits_new rec ≡ is_unused nodes_new rows_new rec) →
      (is_some (row_of rows_new rec) ≡ true → is_some (node_at nodes_new rec) ≡ false) →
      AreKept nodes_new rows_new bits_new
  at_one rec nodes_new rows_new bits_new within size same_nodes same_rows same_bits free apart = record {
    free = λ other low. elim (cases_Bool (nat_eq other rec)) [
      | inl t ↦ subst (λ n. is_free bits_new n ≡ is_unused nodes_new rows_new n) (sym (eqb-true other rec t)) free
      | inr f ↦
          let differs = eqb-false other rec f in
          same_bits other low differs ∙ kept.free other low
          ∙ ap (λ b. not b && not (is_some (row_of rows other))) (sym (same_nodes other differs))
          ∙ ap (λ row. not (is_some (node_at nodes_new other)) && not (is_some row)) (sym (same_rows other differs))
    ];
    apart = λ other there. elim (cases_Bool (nat_eq other rec)) [
      | inl t ↦
          let same = eqb-true other rec t in
          subst (λ n. is_some (node_at nodes_new n) ≡ false) (sym same) (apart (subst (λ n. is_some (row_of rows_new n) ≡ true) same there))
      | inr f ↦
          let differs = eqb-false other rec f in
          same_nodes other differs ∙ kept.apart other (sym (ap (λ row. is_some row) (same_rows other differs)) ∙ there)
    ];
    within = λ other there. elim (cases_Bool (nat_eq other rec)) [
      | inl t ↦ subst (λ n. n < 256) (sym (eqb-true other rec t)) within
      | inr f ↦ kept.within other (sym (same_nodes other (eqb-false other rec f)) ∙ there)
    ];
    size = size ∙ kept.size;
  }

  -- a removed file has no node, and a node no removed file
  pub node_has_no_row : (rec : ℕ) → is_some (node_at nodes rec) ≡ true → is_some (row_of rows rec) ≡ false
  node_has_no_row rec there = elim (cases_Bool (is_some (row_of rows rec))) [
    | inl t ↦ absurd (let clash = sym (kept.apart rec t) ∙ there in cc)
    | inr f ↦ f
  ]

  -- ---- the lowest record

  pub lowest_some : (rec : ℕ) → rec < 256 → is_free bits rec ≡ true → ((other : ℕ) → other < rec → is_free bits other ≡ false) →
      unused_record nodes rows ≡ Some rec
  lowest_some rec low free below = first_record (is_unused nodes rows) rec low (sym (kept.free rec low) ∙ free)
      (λ other less. sym (kept.free other (omega (arith, low, less))) ∙ below other less)

  pub lowest_none : ((rec : ℕ) → rec < 256 → is_free bits rec ≡ false) → unused_record nodes rows ≡ None
  lowest_none none = no_record (is_unused nodes rows) (λ other low. sym (kept.free other low) ∙ none other low)

  pub lowest_is : (result : Option ℕ) → IfSome result (λ rec. rec < 256) → IfSome result (λ rec. is_free bits rec ≡ true) →
      IfSome result (λ rec. (other : ℕ) → other < rec → is_free bits other ≡ false) →
      (result ≡ None → (rec : ℕ) → rec < 256 → is_free bits rec ≡ false) → result ≡ unused_record nodes rows
  lowest_is (Some rec) low free below none = sym (lowest_some rec low free below)
  lowest_is None low free below none = sym (lowest_none (none refl))

  -- the lowest record that is not used is free
  pub unused_is_free : (rec : ℕ) → unused_record nodes rows ≡ Some rec →
      (rec < 256) × (is_free bits rec ≡ true) × (is_some (node_at nodes rec) ≡ false) × (is_some (row_of rows rec) ≡ false)
  unused_is_free rec e =
      let found = found_record (is_unused nodes rows) rec e in
      let parts = both_not (is_some (node_at nodes rec)) (is_some (row_of rows rec)) found.0 in
      (found.1, kept.free rec found.1 ∙ found.0, parts.0, parts.1)

  -- ---- removed files

  -- a row that is there is another
  pub row_changed : (rec : ℕ) (row : Removed) → is_some (row_of rows rec) ≡ true → AreKept nodes (set rows rec (Some row)) bits
  row_changed rec row there =
      let low = at_within rows rec there in
      let now = set_same rows rec (Some row) low in
      at_one rec nodes (set rows rec (Some row)) bits (let size = kept.size in omega (arith, size, low)) (length-set rows rec (Some row)) (λ other differs. refl)
      (λ other differs. set_other rows rec other (Some row) differs) (λ other within differs. refl)
      (kept.free rec (let size = kept.size in omega (arith, size, low))
      ∙ ap (λ b. not (is_some (node_at nodes rec)) && not b) (alike (row_of rows rec) there now))
      (λ _. kept.apart rec there)

  -- a file is taken back: its row has no pass
  kept_is : (row : Option Removed) → is_some row ≡ true → (again : Removed) × (kept_again row ≡ Some again)
  kept_is None there = absurd (cc)
  kept_is (Some row) there = (record row { by = None }, refl)

  pub row_kept : (rec : ℕ) → is_some (row_of rows rec) ≡ true → AreKept nodes (set rows rec (kept_again (row_of rows rec))) bits
  row_kept rec there =
      let again = kept_is (row_of rows rec) there in
      rw again.1 (row_changed rec again.0 there)

  -- one that is given to a pass
  dying_there : (grants : List (Option Grant)) (first : ℕ) (some : List (Option Removed)) (found : ℕ × ℕ) → first_dying first grants some ≡ Some found →
      (i : ℕ) × (found.0 ≡ first + i) × (is_some (row_of some i) ≡ true)
  dying_there grants first [] found e = absurd (cc)
  dying_there grants first (None ∷ some) found e =
      let rest = dying_there grants (suc first) some found e in
      (suc rest.0, (let is = rest.1 in omega (arith, is)), rest.2)
  dying_there grants first (Some row ∷ some) found e = elim (cases_Bool (is_dying grants row)) [
    | inl t ↦
        let is = sym (cond-true (is_dying grants row) (Some (first, row.ino)) (first_dying (suc first) grants some) t) ∙ e in
        let same : (first, row.ino) ≡ found = cc in
        (0, (let one : first ≡ found.0 = ap (λ (p : ℕ × ℕ). p.0) same in omega (arith, one)), refl)
    | inr f ↦
        let rest = dying_there grants (suc first) some found (sym (cond-false (is_dying grants row) (Some (first, row.ino)) (first_dying (suc first) grants some) f) ∙ e) in
        (suc rest.0, (let is = rest.1 in omega (arith, is)), rest.2)
  ]

  pub row_given : (grants : List (Option Grant)) (by : ℕ) (found : Option (ℕ × ℕ)) → found ≡ first_dying 0 grants rows → AreKept nodes (given_to by found rows) bits
  row_given grants by None is = kept
  row_given grants by (Some found) is =
      let there = dying_there grants 0 rows found (sym is) in
      let same : there.0 ≡ found.0 = let e = there.1 in omega (arith, e) in
      row_changed found.0 (record { ino = found.1; by = Some by }) (subst (λ i. is_some (row_of rows i) ≡ true) same there.2)

  -- a removed file that was purged frees its record
  pub row_freed : (rec : ℕ) (bits_new : FreeRecords) → is_some (row_of rows rec) ≡ true →
      ((other : ℕ) → other < 256 → is_free bits_new other ≡ (nat_eq other rec || is_free bits other)) →
      AreKept nodes (set rows rec None) bits_new
  row_freed rec bits_new there given =
      let low = at_within rows rec there in
      let size = kept.size in
      let within : rec < 256 = omega (arith, size, low) in
      let now = set_same rows rec None low in
      at_one rec nodes (set rows rec None) bits_new within (length-set rows rec None) (λ other differs. refl)
      (λ other differs. set_other rows rec other None differs)
      (λ other less differs. given other less ∙ ap (λ b. b || is_free bits other) (ne_eqb other rec differs))
      (given rec within ∙ ap (λ b. b || is_free bits rec) (eq-eqb rec rec refl)
      ∙ sym (ap (λ row. not (is_some (node_at nodes rec)) && not (is_some row)) now
      ∙ ap (λ b. not b && true) (kept.apart rec there)))
      (λ _. kept.apart rec there)

  -- ---- nodes

  -- a node joins in a free record
  pub node_joined : (node : Node) (bits_new : FreeRecords) → node.rec < 256 → is_free bits node.rec ≡ true →
      ((other : ℕ) → other < 256 → is_free bits_new other ≡ (not (nat_eq other node.rec) && is_free bits other)) →
      node_at nodes node.rec ≡ None → AreKept (placed node nodes) rows bits_new
  node_joined node bits_new within free taken none =
      let parts = both_not (is_some (node_at nodes node.rec)) (is_some (row_of rows node.rec)) (sym (kept.free node.rec within) ∙ free) in
      let there : is_some (node_at (placed node nodes) node.rec) ≡ true = ap (λ found. is_some found) (placed_same node nodes none) in
      at_one node.rec (placed node nodes) rows bits_new within refl
      (λ other differs. ap (λ found. is_some found) (placed_other node nodes other differs)) (λ other differs. refl)
      (λ other less differs. taken other less ∙ ap (λ b. not b && is_free bits other) (ne_eqb other node.rec differs))
      (taken node.rec within ∙ ap (λ b. not b && is_free bits node.rec) (eq-eqb node.rec node.rec refl)
      ∙ sym (ap (λ b. not b && not (is_some (row_of rows node.rec))) there))
      (λ row. absurd (let clash = sym parts.1 ∙ row in cc))

  -- a directory leaves, and its record is free
  pub directory_left : (rec : ℕ) (bits_new : FreeRecords) → is_some (node_at nodes rec) ≡ true →
      ((other : ℕ) → other < 256 → is_free bits_new other ≡ (nat_eq other rec || is_free bits other)) →
      AreKept (without rec nodes) rows bits_new
  directory_left rec bits_new there given =
      let within = kept.within rec there in
      let gone : is_some (node_at (without rec nodes) rec) ≡ false = ap (λ found. is_some found) (without_same rec nodes) in
      let row = node_has_no_row rec there in
      at_one rec (without rec nodes) rows bits_new (kept.within rec there) refl
      (λ other differs. ap (λ found. is_some found) (without_other rec other nodes differs)) (λ other differs. refl)
      (λ other less differs. given other less ∙ ap (λ b. b || is_free bits other) (ne_eqb other rec differs))
      (given rec within ∙ ap (λ b. b || is_free bits rec) (eq-eqb rec rec refl)
      ∙ sym (ap (λ b. not b && not (is_some (row_of rows rec))) gone ∙ ap (λ b. not b) row))
      (λ _. gone)

  -- a file leaves, and is a removed file
  pub file_left : (rec : ℕ) (row : Removed) → is_some (node_at nodes rec) ≡ true →
      AreKept (without rec nodes) (set rows rec (Some row)) bits
  file_left rec row there =
      let within = kept.within rec there in
      let gone : is_some (node_at (without rec nodes) rec) ≡ false = ap (λ found. is_some found) (without_same rec nodes) in
      let now = set_same rows rec (Some row) (let size = kept.size in omega (arith, size, within)) in
      at_one rec (without rec nodes) (set rows rec (Some row)) bits within (length-set rows rec (Some row))
      (λ other differs. ap (λ found. is_some found) (without_other rec other nodes differs))
      (λ other differs. set_other rows rec other (Some row) differs) (λ other less differs. refl)
      (kept.free rec within ∙ ap (λ b. not b && not (is_some (row_of rows rec))) there
      ∙ sym (ap (λ row. not (is_some (node_at (without rec nodes) rec)) && not (is_some row)) now
      ∙ ap (λ b. not b && false) gone))
      (λ _. gone)

  -- a node has moved: the nodes of all records are there as before
  pub nodes_alike : (nodes_new : List Node) → ((rec : ℕ) → is_some (node_at nodes_new rec) ≡ is_some (node_at nodes rec)) →
      AreKept nodes_new rows bits
  nodes_alike nodes_new same = record {
    free = λ rec low. kept.free rec low ∙ ap (λ b. not b && not (is_some (row_of rows rec))) (sym (same rec));
    apart = λ rec there. same rec ∙ kept.apart rec there;
    within = λ rec there. kept.within rec (sym (same rec) ∙ there);
    size = kept.size;
  }

  -- a node leaves, and its record is free, or the file's is a removed file's
  left_by_kind : (directory : Bool) (rec ino : ℕ) (bits_new : FreeRecords) → is_some (node_at nodes rec) ≡ true →
      IsFreed directory rec bits bits_new →
      AreKept (without rec nodes) (cond directory rows (set rows rec (Some record { ino = ino; by = None }))) bits_new
  left_by_kind true rec ino bits_new there freed = directory_left rec bits_new there freed
  left_by_kind false rec ino bits_new there freed =
      subst (λ (bits : FreeRecords). AreKept (without rec nodes) (set rows rec (Some record { ino = ino; by = None })) bits) (sym freed)
      (file_left rec (record { ino = ino; by = None }) there)

  pub node_left : (node : Node) (bits_new : FreeRecords) → node_at nodes node.rec ≡ Some node → AreFreed (Some node) bits bits_new →
      AreKept (without node.rec nodes) (buried (Some node) rows) bits_new
  node_left node bits_new stands freed =
      left_by_kind (is_directory node.kind) node.rec node.ino bits_new (ap (λ found. is_some found) stands) freed

abbrev no_row : Option Removed
no_row = None

none_yet : (count rec : ℕ) → row_of (replicate count None) rec ≡ None
none_yet zero rec = refl
none_yet (suc count) zero = refl
none_yet (suc count) (suc rec) = none_yet count rec

-- what is kept where no file is removed
pub begun : (nodes : List Node) (rows : List (Option Removed)) (bits : FreeRecords) → rows ≡ replicate 256 None →
    ((rec : ℕ) → rec < 256 → is_free bits rec ≡ not (is_some (node_at nodes rec))) →
    ((rec : ℕ) → is_some (node_at nodes rec) ≡ true → rec < 256) → AreKept nodes rows bits
begun nodes rows bits same free within =
    let row : (rec : ℕ) → row_of rows rec ≡ None = λ rec. ap (λ all. row_of all rec) same ∙ none_yet 256 rec in
    record {
      free = λ rec low. free rec low ∙ sym (ap (λ row. not (is_some (node_at nodes rec)) && not (is_some row)) (row rec)
          ∙ and_true (not (is_some (node_at nodes rec))));
      apart = λ rec there. absurd (let none = ap (λ row. is_some row) (row rec) in cc);
      within = within;
      size = ap length same ∙ length-replicate 256 no_row;
    }

-- a node that moves is there before and after, and all others are as they were
moved_alike : (node : Node) (nodes : List Node) → is_some (node_at nodes node.rec) ≡ true → (rec : ℕ) →
    is_some (node_at (placed node (without node.rec nodes)) rec) ≡ is_some (node_at nodes rec)
moved_alike node nodes there rec = elim (cases_Bool (nat_eq rec node.rec)) [
  | inl t ↦
      let same = eqb-true rec node.rec t in
      ap (λ n. is_some (node_at (placed node (without node.rec nodes)) n)) same
      ∙ ap (λ found. is_some found) (placed_same node (without node.rec nodes) (without_same node.rec nodes))
      ∙ sym (ap (λ n. is_some (node_at nodes n)) same ∙ there)
  | inr f ↦
      let differs = eqb-false rec node.rec f in
      ap (λ found. is_some found) (placed_other node (without node.rec nodes) rec differs ∙ without_other node.rec rec nodes differs)
]

-- a node moves, and the one that it replaces leaves
pub node_moved : (nodes : List Node) (rows : List (Option Removed)) (bits bits_new : FreeRecords) (node : Node) (replaced : Option Node) →
    AreKept nodes rows bits → is_some (node_at nodes node.rec) ≡ true →
    ((other : Node) → replaced ≡ Some other → (node_at nodes other.rec ≡ Some other) × (other.rec ≢ node.rec)) →
    AreFreed replaced bits bits_new →
    AreKept (placed node (without node.rec (without_replaced (option_map (λ (n : Node). n.rec) replaced) nodes))) (buried replaced rows) bits_new
node_moved nodes rows bits bits_new node None kept there leaves freed =
    subst (λ (bits : FreeRecords). AreKept (placed node (without node.rec nodes)) rows bits) (sym freed)
    (nodes_alike nodes rows bits kept (placed node (without node.rec nodes)) (moved_alike node nodes there))
node_moved nodes rows bits bits_new node (Some other) kept there leaves freed =
    let gone = leaves other refl in
    let rest = without other.rec nodes in
    let left = node_left nodes rows bits kept other bits_new gone.0 freed in
    let still : is_some (node_at rest node.rec) ≡ true =
    ap (λ found. is_some found) (without_other other.rec node.rec nodes (λ e. gone.1 (sym e))) ∙ there in
    nodes_alike rest (buried (Some other) rows) bits_new left (placed node (without node.rec rest)) (moved_alike node rest still)

-- what a move asks of the node that it moves, and of the one that it replaces

some_there : (P : Node → Type 0) (found : Option Node) → IsSomeAnd found P → is_some found ≡ true
some_there P None is = absurd is
some_there P (Some node) is = refl

pub node_stands : (tree : Namespace) (moved : Moved) → CanMove tree moved → is_some (node_at tree.nodes moved.node.rec) ≡ true
node_stands tree moved can = some_there (IsSameNode moved.node) (node_at tree.nodes moved.node.rec) can.stands

pub replaced_leaves : (tree : Namespace) (moved : Moved) → CanMove tree moved → (other : Node) → moved.replaced ≡ Some other →
    (node_at tree.nodes other.rec ≡ Some other) × (other.rec ≢ moved.node.rec)
replaced_leaves tree moved can other is =
    let replaced = can.replaces other is in
    (replaced.leaves.stands, replaced.differs)
