-- What holds of a store after a span came or went.
use Rattle.std.proofs.Common.{◌≡◌, ◌≢◌, ℕ, zero, suc, ◌+◌, ◌*◌, ◌^◌, ◌<◌, ◌≤◌, Option, None, Some, List, [], ◌∷◌, ◌++◌, length, refl, sym, ◌∙◌, ap, subst, arith, inl, inr, cond, nat_eq, set, length-append, vec_capacity}
use Rattle.std.proofs.Math.ListN.{length-set}
use Rattle.std.proofs.Common.{take}
use Rattle.std.proofs.lemmas.List.{take-append-le, take_all}
use Rattle.std.specs.Prelude.{Result, Ok, Err, OnOk, IsOk}
use Rattle.std.proofs.Common.{get_or-set_same, get_or-set_other}
use Rattle.std.proofs.lemmas.Bool.{cases_lt}
use Rattle.std.proofs.lemmas.Bool.Decides.{eqb_tells}
use Rattle.std.specs.HashMap as hash
use Rattle.cfs_file.specs.declared.span.Span.{Span}
use Rattle.cfs_tree.specs.declared.store.stored_node.StoredNode.{StoredNode}
use Rattle.cfs_tree.specs.declared.store.SpanStore.{SpanStore}
use Rattle.cfs_tree.specs.Nodes.{stored_at, no_node, height_under, start_of, alone_at, rank_of}
use Rattle.cfs_tree.specs.Shape.{NodeTree, Empty, root_of, numbers_of, Stands, times}
use Rattle.cfs_tree.specs.Change.{rank, Ascends, insert_ranked, without, IsTree, CanInsert, InsertsTo, RemovesTo, RemovesAndFrees}
use Rattle.cfs_tree.specs.Spans.{IsBounded, HasPositions, insert_in_order, without_place}
use Rattle.cfs_tree.specs.Holding.{kept_of, Holds, HoldsStill}
use Rattle.cfs_tree.proofs.Standing.{times-append, times-here, Stands-same, Stands-longer, height_under-same, differs}
use Rattle.cfs_tree.proofs.Ranked.{times-insert, times-without, times-without_gone, times-without_other, Ascends-same, Ascends-insert, Ascends-without, Apart-all, length-insert, length-without}
use Rattle.cfs_tree.proofs.Kept.{height-le-length, kept_of-same, kept_of-insert, kept_of-without}
use Rattle.cfs_tree.proofs.Removing.{numbers_within}

-- a node of its own number: the ranks tell apart what has another place
pub ranks_apart : (s1 p1 s2 p2 : ℕ) → p1 < 2 ^ 64 → p2 < 2 ^ 64 → p1 ≢ p2 → s1 * 2 ^ 64 + p1 ≢ s2 * 2 ^ 64 + p2
ranks_apart s1 p1 s2 p2 h1 h2 ne e = ne (omega arith)

-- a new node is written, and the tree is as it was
pub tree_beside : (nodes : List StoredNode) (root : Option ℕ) (at : ℕ) (fresh : StoredNode) (t : NodeTree) → IsTree nodes root t →
    times at (numbers_of t) ≡ 0 → IsTree (set nodes at fresh) root t
tree_beside nodes root at fresh t i none =
    let same : (n : ℕ) → 0 < times n (numbers_of t) → stored_at (set nodes at fresh) n ≡ stored_at nodes n =
    λ n h. get_or-set_other nodes at n fresh no_node (differs n at (numbers_of t) h none) in
    let tall : height_under (set nodes at fresh) (root_of t) ≡ height_under nodes (root_of t) = height_under-same nodes (set nodes at fresh) t same in
    let e = i.root in
    record {
      root = i.root;
      stands = Stands-same nodes (set nodes at fresh) t (length-set nodes at fresh) same i.stands;
      once = i.once;
      ascends = Ascends-same (rank nodes) (rank (set nodes at fresh)) (numbers_of t) (λ n h. ap (λ v. rank_of v.node) (same n h)) i.ascends;
      fits = let P : Option ℕ → Type 0 = λ w. height_under nodes w + 1 < 2 ^ 32 in
          let Q : Option ℕ → Type 0 = λ w. height_under (set nodes at fresh) w + 1 < 2 ^ 32 in
          let f : height_under nodes (root_of t) + 1 < 2 ^ 32 = subst P (sym e) i.fits in
          subst Q e (rw tall f);
    }

-- what an insertion starts from
pub can_insert : (nodes : List StoredNode) (root : Option ℕ) (at : ℕ) (fresh : StoredNode) (t : NodeTree) → IsTree nodes root t →
    times at (numbers_of t) ≡ 0 → at < length nodes → CanInsert (set nodes at fresh) root at t
can_insert nodes root at fresh t i none within = record {
  tree = tree_beside nodes root at fresh t i none;
  new_in = rw (length-set nodes at fresh) within;
  once = λ n. let o = i.once n in elim (eqb_tells n at) [
    | inl same ↦ let e : times n (at ∷ numbers_of t) ≡ 1 + times n (numbers_of t) = rw same.0 refl in
        let z : times n (numbers_of t) ≡ 0 = rw same.1 none in omega arith
    | inr other ↦ let e : times n (at ∷ numbers_of t) ≡ 0 + times n (numbers_of t) = rw other.0 refl in omega arith
  ];
}

-- the old store, the new one, and the number that was free
pub record Grows (old new : SpanStore) (root : Option ℕ) (at place : ℕ) (span : Span) (result : ℕ) : Type 0 where
  pub free : old.free.items ≡ new.free.items ++ at ∷ []
  pub capacity : vec_capacity new.free ≡ vec_capacity old.free
  pub numbers : (q : ℕ) → hash.get nat_eq new.numbers q ≡ cond (nat_eq place q) (Some at) (hash.get nat_eq old.numbers q)
  pub inserts : InsertsTo (set old.nodes.items at (alone_at place span)) new.nodes.items root at result
  pub unkept : hash.get nat_eq old.numbers place ≡ None
  pub fits : place < 2 ^ 64
  pub bounded : IsBounded span
  pub positions : HasPositions span

pub free_one : (old : SpanStore) (root : Option ℕ) (at : ℕ) (rest : List ℕ) (t : NodeTree) → Holds old root t → old.free.items ≡ rest ++ at ∷ [] →
    (times at (numbers_of t) ≡ 0) × (at < length old.nodes.items)
free_one old root at rest t h e =
    let c : times at old.free.items ≡ times at rest + times at (at ∷ []) = ap (times at) e ∙ times-append at rest (at ∷ []) in
    let o = h.once at in
    let a = times-append at (numbers_of t) old.free.items in
    let one = times-here at [] in
    (omega arith, (h.free_in at (omega arith)).0)

pub grown_holds : (old new : SpanStore) (root : Option ℕ) (at place : ℕ) (span : Span) (result : ℕ) (t : NodeTree) →
    Holds old root t → Grows old new root at place span result → (u : NodeTree) × Holds new (Some result) u
    × (kept_of new.nodes.items (numbers_of u) ≡ insert_in_order (place, span) (kept_of old.nodes.items (numbers_of t)))
grown_holds old new root at place span result t h g =
    let nodes : List StoredNode = old.nodes.items in
    let n1 : List StoredNode = set nodes at (alone_at place span) in
    let n2 : List StoredNode = new.nodes.items in
    let f = free_one old root at new.free.items t h g.free in
    let none = f.0 in
    let can = can_insert nodes root at (alone_at place span) t h.tree none f.1 in
    let uv = g.inserts t can in
    let u = uv.0 in
    let v = uv.1 in
    let here1 : stored_at n1 at ≡ alone_at place span = get_or-set_same nodes at (alone_at place span) no_node f.1 in
    let other1 : (n : ℕ) → n ≢ at → stored_at n1 n ≡ stored_at nodes n = λ n ne. get_or-set_other nodes at n (alone_at place span) no_node ne in
    let in_u : (n : ℕ) → times n (numbers_of u) ≡ times n (at ∷ []) + times n (numbers_of t) = λ n.
    ap (times n) v.numbers ∙ times-insert (rank n1) at n (numbers_of t) ∙ times-append n (at ∷ []) (numbers_of t) in
    let in_free : (n : ℕ) → times n old.free.items ≡ times n new.free.items + times n (at ∷ []) = λ n.
    ap (times n) g.free ∙ times-append n new.free.items (at ∷ []) in
    let place_at : (stored_at n2 at).node.place ≡ place = v.relinks.places at ∙ ap (λ w. w.node.place) here1 in
    let span_of_at : (stored_at n2 at).node.span ≡ span = v.relinks.spans at ∙ ap (λ w. w.node.span) here1 in
    let place_of : (n : ℕ) → n ≢ at → (stored_at n2 n).node.place ≡ (stored_at nodes n).node.place = λ n ne.
    v.relinks.places n ∙ ap (λ w. w.node.place) (other1 n ne) in
    let span_of : (n : ℕ) → n ≢ at → (stored_at n2 n).node.span ≡ (stored_at nodes n).node.span = λ n ne.
    v.relinks.spans n ∙ ap (λ w. w.node.span) (other1 n ne) in
    let old_in : (n : ℕ) → 0 < times n (numbers_of u) → n ≢ at → 0 < times n (numbers_of t) = λ n p ne.
    let e = in_u n in elim (eqb_tells n at) [
      | inl same ↦ absurd (ne same.1)
      | inr diff ↦ let z : times n (at ∷ []) ≡ 0 = rw diff.0 refl in omega arith
    ] in
    let apart : (n : ℕ) → 0 < times n (numbers_of t) → n ≢ at = λ n p. differs n at (numbers_of t) p none in
    let new_place : (n : ℕ) → 0 < times n (numbers_of t) → (stored_at nodes n).node.place ≢ place = λ n p e.
    let k = h.found n p in
    let z : hash.get nat_eq old.numbers (stored_at nodes n).node.place ≡ None = ap (hash.get nat_eq old.numbers) e ∙ g.unkept in
    cc (k, z) in
    let rank_at : rank n1 at ≡ start_of span * 2 ^ 64 + place = ap (λ w. rank_of w.node) here1 in
    let rank_of_old : (n : ℕ) → 0 < times n (numbers_of t) → rank n1 n ≡ rank nodes n = λ n p. ap (λ w. rank_of w.node) (other1 n (apart n p)) in
    let up1 : Ascends (rank n1) (insert_ranked (rank n1) at (numbers_of t)) =
    Ascends-insert (rank n1) at (numbers_of t) can.tree.ascends (Apart-all (rank n1) at (numbers_of t) (λ n p e.
    ranks_apart (start_of (stored_at nodes n).node.span) (stored_at nodes n).node.place (start_of span) place (h.places n p) g.fits (new_place n p)
    (sym (rank_of_old n p) ∙ e ∙ rank_at))) in
    let ranks2 : (n : ℕ) → rank n2 n ≡ rank n1 n = λ n. rw (v.relinks.places n, v.relinks.spans n) refl in
    let up2 : Ascends (rank n2) (numbers_of u) = rw v.numbers (Ascends-same (rank n1) (rank n2) (insert_ranked (rank n1) at (numbers_of t)) (λ n p. ranks2 n) up1) in
    let len1 : length n1 ≡ length nodes = length-set nodes at (alone_at place span) in
    let len2 : length n2 ≡ length nodes = v.relinks.len ∙ len1 in
    let size : length (numbers_of u) ≡ length (numbers_of t) + 1 = ap length v.numbers ∙ length-insert (rank n1) at (numbers_of t) in
    let size_free : length old.free.items ≡ length new.free.items + 1 = ap length g.free ∙ length-append new.free.items (at ∷ []) in
    let counted = h.counted in
    let few = h.few in
    let tall : height_under n2 (root_of u) ≤ length (numbers_of u) = height-le-length n2 u v.stands in
    let tall2 : height_under n2 (root_of u) ≡ height_under n2 (Some result) = ap (height_under n2) v.root in
    let room = h.room in
    let cap = g.capacity in (
      u,
      record {
        tree = record {
          root = v.root;
          stands = v.stands;
          once = λ n. let e = in_u n in let o = h.once n in let a = times-append n (numbers_of t) old.free.items in let b = in_free n in omega arith;
          ascends = up2;
          fits = omega arith;
        };
        once = λ n. let e = in_u n in let o = h.once n in let a = times-append n (numbers_of t) old.free.items in let b = in_free n in
            let d = times-append n (numbers_of u) new.free.items in omega arith;
        free_in = λ n p. let b = in_free n in let o = h.once n in let a = times-append n (numbers_of t) old.free.items in
            let fr = h.free_in n (omega arith) in
            let ne : n ≢ at = λ e. let i = in_free at in let oat = h.once at in let aat = times-append at (numbers_of t) old.free.items in
            let one = times-here at [] in
            let P : ℕ → Type 0 = λ w. 0 < times w new.free.items in let pat : 0 < times at new.free.items = subst P e p in omega arith in
            let gone : times n (at ∷ numbers_of t) ≡ 0 = elim (eqb_tells n at) [
              | inl same ↦ absurd (ne same.1)
              | inr diff ↦ let e : times n (at ∷ numbers_of t) ≡ 0 + times n (numbers_of t) = rw diff.0 refl in omega arith
            ] in
            (omega arith, ap (λ w. w.height) (v.relinks.others n gone ∙ other1 n ne) ∙ fr.1);
        listed = λ q n e. elim (eqb_tells place q) [
          | inl same ↦ let is : hash.get nat_eq new.numbers q ≡ Some at = g.numbers q ∙ rw same.0 refl in
              let nat : n ≡ at = cc (e, is) in
              let iu = in_u at in let one = times-here at [] in
              let hit : (0 < times at (numbers_of u)) × ((stored_at n2 at).node.place ≡ q) = (omega arith, place_at ∙ same.1) in
              let P : ℕ → Type 0 = λ w. (0 < times w (numbers_of u)) × ((stored_at n2 w).node.place ≡ q) in
              subst P (sym nat) hit
          | inr diff ↦ let is : hash.get nat_eq new.numbers q ≡ hash.get nat_eq old.numbers q = g.numbers q ∙ rw diff.0 refl in
              let l = h.listed q n (sym is ∙ e) in
              let iu = in_u n in
              let p0 = l.0 in
              (omega arith, place_of n (apart n l.0) ∙ l.1)
        ];
        found = λ n p. elim (eqb_tells n at) [
          | inl same ↦ let is : (stored_at n2 n).node.place ≡ place = ap (λ w. (stored_at n2 w).node.place) same.1 ∙ place_at in
              let got : hash.get nat_eq new.numbers place ≡ Some at = g.numbers place ∙ (elim (eqb_tells place place) [ inl hit ↦ rw hit.0 refl | inr miss ↦ absurd (miss.1 refl) ]) in
              ap (hash.get nat_eq new.numbers) is ∙ got ∙ ap Some (sym same.1)
          | inr diff ↦ let p2 = old_in n p diff.1 in
              let is = place_of n diff.1 in
              let ne = new_place n p2 in
              let got : hash.get nat_eq new.numbers (stored_at nodes n).node.place ≡ hash.get nat_eq old.numbers (stored_at nodes n).node.place =
              g.numbers (stored_at nodes n).node.place ∙ (elim (eqb_tells place (stored_at nodes n).node.place) [ inl hit ↦ absurd (ne (sym hit.1)) | inr miss ↦ rw miss.0 refl ]) in
              ap (hash.get nat_eq new.numbers) is ∙ got ∙ h.found n p2
        ];
        spans = λ n p. elim (eqb_tells n at) [
          | inl same ↦ let P : Span → Type 0 = λ w. IsBounded w × HasPositions w in
              subst P (sym (ap (λ w. (stored_at n2 w).node.span) same.1 ∙ span_of_at)) (g.bounded, g.positions)
          | inr diff ↦ let P : Span → Type 0 = λ w. IsBounded w × HasPositions w in
              subst P (sym (span_of n diff.1)) (h.spans n (old_in n p diff.1))
        ];
        places = λ n p. elim (eqb_tells n at) [
          | inl same ↦ let P : ℕ → Type 0 = λ w. w < 2 ^ 64 in
              subst P (sym (ap (λ w. (stored_at n2 w).node.place) same.1 ∙ place_at)) g.fits
          | inr diff ↦ let P : ℕ → Type 0 = λ w. w < 2 ^ 64 in
              subst P (sym (place_of n diff.1)) (h.places n (old_in n p diff.1))
        ];
        room = omega arith;
        counted = omega arith;
        few = omega arith;
      },
      ap (kept_of n2) v.numbers
          ∙ kept_of-same n1 n2 (insert_ranked (rank n1) at (numbers_of t)) (λ n p. v.relinks.places n) (λ n p. v.relinks.spans n)
          ∙ kept_of-insert n1 at (numbers_of t)
          ∙ ap (λ w. insert_in_order w (kept_of n1 (numbers_of t))) (ap (λ w. (w.node.place, w.node.span)) here1)
          ∙ ap (insert_in_order (place, span)) (kept_of-same nodes n1 (numbers_of t)
          (λ n p. ap (λ w. w.node.place) (other1 n (apart n p))) (λ n p. ap (λ w. w.node.span) (other1 n (apart n p)))),
    )

-- the part of the vector that a call was lent is all of it
pub lent_whole : (len : ℕ) (nodes rest : List StoredNode) → len ≡ length nodes → take len (nodes ++ rest) ≡ nodes
lent_whole len nodes rest e =
    let h : len ≤ length nodes = omega arith in
    take-append-le len nodes rest h ∙ take_all len nodes (omega arith)

pub inserted_as : (n0 before n1 rest : List StoredNode) (len at place : ℕ) (span : Span) (root : Option ℕ) (result : ℕ) → before ≡ n0 → len ≡ length n1 →
    InsertsTo (set before at (alone_at place span)) n1 root at result → InsertsTo (set n0 at (alone_at place span)) (take len (n1 ++ rest)) root at result
inserted_as n0 before n1 rest len at place span root result is e i =
    let P : List StoredNode → Type 0 = λ w. InsertsTo (set w at (alone_at place span)) n1 root at result in
    let Q : List StoredNode → Type 0 = λ w. InsertsTo (set n0 at (alone_at place span)) w root at result in
    subst Q (sym (lent_whole len n1 rest e)) (subst P is i)

pub on_ok : {T E : Type 0} (r : Result T E) (P : Type 0) → OnOk r P → IsOk r → P
on_ok (Ok x) P h i = h
on_ok (Err e) P h i = absurd (cc)

-- the old store, the new one, and the number that became free
pub record Shrinks (old new : SpanStore) (root left : Option ℕ) (gone place : ℕ) (n1 : List StoredNode) : Type 0 where
  pub was : hash.get nat_eq old.numbers place ≡ Some gone
  pub nodes : new.nodes.items ≡ set n1 gone (record { node = (stored_at n1 gone).node; height = 0 })
  pub free : new.free.items ≡ old.free.items ++ gone ∷ []
  pub capacity : vec_capacity old.free ≤ vec_capacity new.free
  pub numbers : (q : ℕ) → hash.get nat_eq new.numbers q ≡ cond (nat_eq place q) None (hash.get nat_eq old.numbers q)
  pub removes : RemovesTo old.nodes.items n1 root gone left

pub shrunk_holds : (old new : SpanStore) (root left : Option ℕ) (gone place : ℕ) (n1 : List StoredNode) (t : NodeTree) →
    Holds old root t → Shrinks old new root left gone place n1 → (u : NodeTree) × Holds new left u
    × (kept_of new.nodes.items (numbers_of u) ≡ without_place place (kept_of old.nodes.items (numbers_of t)))
shrunk_holds old new root left gone place n1 t h g =
    let nodes : List StoredNode = old.nodes.items in
    let n2 : List StoredNode = new.nodes.items in
    let blank : StoredNode = record { node = (stored_at n1 gone).node; height = 0 } in
    let l = h.listed place gone g.was in
    let in_t = l.0 in
    let once_t = h.tree.once in
    let uv = g.removes t h.tree in
    let u = uv.0 in
    let v = uv.1 in
    let within : gone < length nodes = numbers_within nodes t gone h.tree.stands in_t in
    let within1 : gone < length n1 = rw v.relinks.len within in
    let here2 : stored_at n2 gone ≡ blank = ap (λ w. stored_at w gone) g.nodes ∙ get_or-set_same n1 gone blank no_node within1 in
    let other2 : (n : ℕ) → n ≢ gone → stored_at n2 n ≡ stored_at n1 n = λ n ne. ap (λ w. stored_at w n) g.nodes ∙ get_or-set_other n1 gone n blank no_node ne in
    let place2 : (n : ℕ) → (stored_at n2 n).node.place ≡ (stored_at nodes n).node.place = λ n. elim (eqb_tells n gone) [
      | inl same ↦ ap (λ w. (stored_at n2 w).node.place) same.1 ∙ ap (λ w. w.node.place) here2 ∙ ap (λ w. (stored_at n1 w).node.place) (sym same.1) ∙ v.relinks.places n
      | inr diff ↦ ap (λ w. w.node.place) (other2 n diff.1) ∙ v.relinks.places n
    ] in
    let span2 : (n : ℕ) → (stored_at n2 n).node.span ≡ (stored_at nodes n).node.span = λ n. elim (eqb_tells n gone) [
      | inl same ↦ ap (λ w. (stored_at n2 w).node.span) same.1 ∙ ap (λ w. w.node.span) here2 ∙ ap (λ w. (stored_at n1 w).node.span) (sym same.1) ∙ v.relinks.spans n
      | inr diff ↦ ap (λ w. w.node.span) (other2 n diff.1) ∙ v.relinks.spans n
    ] in
    let gone_u : times gone (numbers_of u) ≡ 0 = ap (times gone) v.numbers ∙ times-without_gone gone (numbers_of t) in
    let in_u : (n : ℕ) → times n (numbers_of u) ≤ times n (numbers_of t) = λ n.
    let e : times n (numbers_of u) ≡ times n (without gone (numbers_of t)) = ap (times n) v.numbers in
    let f = times-without gone n (numbers_of t) in omega arith in
    let others : (n : ℕ) → n ≢ gone → times n (numbers_of u) ≡ times n (numbers_of t) = λ n ne.
    ap (times n) v.numbers ∙ times-without_other gone n (numbers_of t) ne in
    let apart : (n : ℕ) → 0 < times n (numbers_of u) → n ≢ gone = λ n p. differs n gone (numbers_of u) p gone_u in
    let same2 : (n : ℕ) → 0 < times n (numbers_of u) → stored_at n2 n ≡ stored_at n1 n = λ n p. other2 n (apart n p) in
    let len2 : length n2 ≡ length n1 = ap length g.nodes ∙ length-set n1 gone blank in
    let in_free : (n : ℕ) → times n new.free.items ≡ times n old.free.items + times n (gone ∷ []) = λ n.
    ap (times n) g.free ∙ times-append n old.free.items (gone ∷ []) in
    let stands2 : Stands n2 u = Stands-same n1 n2 u len2 same2 v.stands in
    let tall2 : height_under n2 (root_of u) ≡ height_under n1 (root_of u) = height_under-same n1 n2 u same2 in
    let rank2 : (n : ℕ) → rank n2 n ≡ rank nodes n = λ n. rw (place2 n, span2 n) refl in
    let up : Ascends (rank n2) (without gone (numbers_of t)) =
    Ascends-same (rank nodes) (rank n2) (without gone (numbers_of t)) (λ n p. rank2 n) (Ascends-without (rank nodes) gone (numbers_of t) h.tree.ascends) in
    let one_gone : times gone (numbers_of t) ≡ 1 = let o = once_t gone in omega arith in
    let size : length (numbers_of u) + times gone (numbers_of t) ≡ length (numbers_of t) =
    let e : length (numbers_of u) ≡ length (without gone (numbers_of t)) = ap length v.numbers in
    let f = length-without gone (numbers_of t) in omega arith in
    let size_free : length new.free.items ≡ length old.free.items + 1 = ap length g.free ∙ length-append old.free.items (gone ∷ []) in
    let counted = h.counted in let few = h.few in let room = h.room in let cap = g.capacity in let len1 = v.relinks.len in
    let low : height_under n2 (root_of u) ≤ length (numbers_of u) = height-le-length n2 u stands2 in
    let by_root : height_under n2 (root_of u) ≡ height_under n2 left = ap (height_under n2) v.root in
    let only : (n : ℕ) → 0 < times n (numbers_of t) → (stored_at nodes n).node.place ≡ place → n ≡ gone = λ n p e.
    let f = h.found n p in
    let k : hash.get nat_eq old.numbers (stored_at nodes n).node.place ≡ Some gone = ap (hash.get nat_eq old.numbers) e ∙ g.was in
    cc (f, k) in (
      u,
      record {
        tree = record {
          root = v.root;
          stands = stands2;
          once = λ n. let a = in_u n in let o = once_t n in omega arith;
          ascends = rw v.numbers up;
          fits = omega arith;
        };
        once = λ n. let a = in_u n in let o = h.once n in let b = times-append n (numbers_of t) old.free.items in
            let d = times-append n (numbers_of u) new.free.items in let i = in_free n in
            elim (eqb_tells n gone) [
              | inl same ↦ let z : times n (numbers_of u) ≡ 0 = ap (λ w. times w (numbers_of u)) same.1 ∙ gone_u in
                  let y : times n (gone ∷ []) ≡ 1 = rw same.0 refl in
                  let x : times n (numbers_of t) ≡ 1 = ap (λ w. times w (numbers_of t)) same.1 ∙ one_gone in omega arith
              | inr diff ↦ let y : times n (gone ∷ []) ≡ 0 = rw diff.0 refl in omega arith
            ];
        free_in = λ n p. elim (eqb_tells n gone) [
          | inl same ↦ (rw (len2, len1, same.1) within, ap (λ w. (stored_at n2 w).height) same.1 ∙ ap (λ w. w.height) here2)
          | inr diff ↦ let i = in_free n in let y : times n (gone ∷ []) ≡ 0 = rw diff.0 refl in
              let f = h.free_in n (omega arith) in
              let o = h.once n in let b = times-append n (numbers_of t) old.free.items in
              let same : stored_at n2 n ≡ stored_at nodes n = other2 n diff.1 ∙ v.relinks.others n (omega arith) in
              (omega arith, ap (λ w. w.height) same ∙ f.1)
        ];
        listed = λ q n e. elim (eqb_tells place q) [
          | inl same ↦ let is : hash.get nat_eq new.numbers q ≡ None = g.numbers q ∙ rw same.0 refl in absurd (cc (e, is))
          | inr diff ↦ let is : hash.get nat_eq new.numbers q ≡ hash.get nat_eq old.numbers q = g.numbers q ∙ rw diff.0 refl in
              let k = h.listed q n (sym is ∙ e) in
              let ne : n ≢ gone = λ w. diff.1 (sym l.1 ∙ ap (λ z. (stored_at nodes z).node.place) (sym w) ∙ k.1) in
              let o = others n ne in let p = k.0 in
              (omega arith, place2 n ∙ k.1)
        ];
        found = λ n p.
            let a = in_u n in
            let pt : 0 < times n (numbers_of t) = omega arith in
            let f = h.found n pt in
            let ne : place ≢ (stored_at nodes n).node.place = λ e. apart n p (only n pt (sym e)) in
            let got : hash.get nat_eq new.numbers (stored_at nodes n).node.place ≡ hash.get nat_eq old.numbers (stored_at nodes n).node.place =
            g.numbers (stored_at nodes n).node.place ∙ (elim (eqb_tells place (stored_at nodes n).node.place) [ inl hit ↦ absurd (ne hit.1) | inr miss ↦ rw miss.0 refl ]) in
            ap (hash.get nat_eq new.numbers) (place2 n) ∙ got ∙ f;
        spans = λ n p. let a = in_u n in let P : Span → Type 0 = λ w. IsBounded w × HasPositions w in subst P (sym (span2 n)) (h.spans n (omega arith));
        places = λ n p. let a = in_u n in let P : ℕ → Type 0 = λ w. w < 2 ^ 64 in subst P (sym (place2 n)) (h.places n (omega arith));
        room = omega arith;
        counted = omega arith;
        few = omega arith;
      },
      ap (kept_of n2) v.numbers
          ∙ kept_of-same nodes n2 (without gone (numbers_of t)) (λ n p. place2 n) (λ n p. span2 n)
          ∙ kept_of-without nodes gone place (numbers_of t) l.1 only,
    )

pub removed_as : (n0 before n1 rest : List StoredNode) (len gone : ℕ) (root left : Option ℕ) → before ≡ n0 → len ≡ length n1 →
    RemovesAndFrees before n1 root gone left → RemovesAndFrees n0 (take len (n1 ++ rest)) root gone left
removed_as n0 before n1 rest len gone root left is e i =
    let P : List StoredNode → Type 0 = λ w. RemovesAndFrees w n1 root gone left in
    let Q : List StoredNode → Type 0 = λ w. RemovesAndFrees n0 w root gone left in
    subst Q (sym (lent_whole len n1 rest e)) (subst P is i)

past_end : (nodes : List StoredNode) (n : ℕ) → length nodes ≤ n → stored_at nodes n ≡ no_node
past_end [] n h = refl
past_end (x ∷ xs) zero h = absurd (omega arith)
past_end (x ∷ xs) (suc n) h = past_end xs n (omega arith)

-- a longer vector, whose last is no node, has the same nodes
grown_at : (nodes : List StoredNode) (n : ℕ) → stored_at (nodes ++ no_node ∷ []) n ≡ stored_at nodes n
grown_at [] zero = refl
grown_at [] (suc n) = refl
grown_at (x ∷ xs) zero = refl
grown_at (x ∷ xs) (suc n) = grown_at xs n

height-same : (old new : List StoredNode) → ((n : ℕ) → stored_at new n ≡ stored_at old n) → (at : Option ℕ) → height_under new at ≡ height_under old at
height-same old new same None = refl
height-same old new same (Some n) = ap (λ v. v.height) (same n)

-- a number more, which is free
pub numbered : (old new : SpanStore) (root : Option ℕ) (t : NodeTree) → Holds old root t → old.free.items ≡ [] →
    new.nodes.items ≡ old.nodes.items ++ no_node ∷ [] → new.free.items ≡ length old.nodes.items ∷ [] → new.numbers ≡ old.numbers →
    length old.nodes.items + 2 < 2 ^ 32 → length old.nodes.items + 1 ≤ vec_capacity new.free → HoldsStill old new root t
numbered old new root t h none is free numbers few room =
    let n0 : List StoredNode = old.nodes.items in
    let n2 : List StoredNode = new.nodes.items in
    let len : length n2 ≡ length n0 + 1 = ap length is ∙ length-append n0 (no_node ∷ []) in
    let same : (n : ℕ) → stored_at n2 n ≡ stored_at n0 n = λ n. ap (λ w. stored_at w n) is ∙ grown_at n0 n in
    let stands : Stands n2 t = Stands-longer n0 n2 t (omega arith) (λ n p. same n) h.tree.stands in
    let tall : (at : Option ℕ) → height_under n2 at ≡ height_under n0 at = λ at. height-same n0 n2 same at in
    let fits = h.tree.fits in
    let here = tall root in
    let absent : times (length n0) (numbers_of t) ≡ 0 = elim (cases_lt 0 (times (length n0) (numbers_of t))) [
      | inl in_t ↦ let w = numbers_within n0 t (length n0) h.tree.stands in_t in absurd (omega arith)
      | inr out ↦ omega arith
    ] in
    let counted = h.counted in
    let free_len : length new.free.items ≡ 1 = ap length free in
    let none_len : length old.free.items ≡ 0 = ap length none in
    let got : (q : ℕ) → hash.get nat_eq new.numbers q ≡ hash.get nat_eq old.numbers q = λ q. ap (λ w. hash.get nat_eq w q) numbers in (
      record {
        tree = record {
          root = h.tree.root;
          stands = stands;
          once = h.tree.once;
          ascends = Ascends-same (rank n0) (rank n2) (numbers_of t) (λ n p. ap (λ v. rank_of v.node) (same n)) h.tree.ascends;
          fits = omega arith;
        };
        once = λ n. let o = h.tree.once n in let a = times-append n (numbers_of t) new.free.items in
            let f : times n new.free.items ≡ times n (length n0 ∷ []) = ap (times n) free in
            elim (eqb_tells n (length n0)) [
              | inl hit ↦ let z : times n (numbers_of t) ≡ 0 = ap (λ w. times w (numbers_of t)) hit.1 ∙ absent in
                  let y : times n (length n0 ∷ []) ≡ 1 = rw hit.0 refl in omega arith
              | inr miss ↦ let y : times n (length n0 ∷ []) ≡ 0 = rw miss.0 refl in omega arith
            ];
        free_in = λ n p. let f : times n new.free.items ≡ times n (length n0 ∷ []) = ap (times n) free in
            elim (eqb_tells n (length n0)) [
              | inl hit ↦ (let e = hit.1 in omega arith, ap (λ v. v.height) (same n) ∙ ap (λ v. v.height) (past_end n0 n (let e = hit.1 in omega arith)))
              | inr miss ↦ let y : times n (length n0 ∷ []) ≡ 0 = rw miss.0 refl in absurd (omega arith)
            ];
        listed = λ q n e. let l = h.listed q n (sym (got q) ∙ e) in (l.0, ap (λ v. v.node.place) (same n) ∙ l.1);
        found = λ n p. got (stored_at n2 n).node.place ∙ ap (λ v. hash.get nat_eq old.numbers v.node.place) (same n) ∙ h.found n p;
        spans = λ n p. let P : StoredNode → Type 0 = λ v. IsBounded v.node.span × HasPositions v.node.span in subst P (sym (same n)) (h.spans n p);
        places = λ n p. let P : StoredNode → Type 0 = λ v. v.node.place < 2 ^ 64 in subst P (sym (same n)) (h.places n p);
        room = omega arith;
        counted = omega arith;
        few = omega arith;
      },
      kept_of-same n0 n2 (numbers_of t) (λ n p. ap (λ v. v.node.place) (same n)) (λ n p. ap (λ v. v.node.span) (same n)),
    )

-- a store with no node
pub empty_holds : (store : SpanStore) → store.nodes.items ≡ [] → store.free.items ≡ [] →
    ((q : ℕ) → hash.get nat_eq store.numbers q ≡ None) → Holds store None Empty
empty_holds store nodes free none =
    let a : length store.nodes.items ≡ 0 = ap length nodes in
    let b : length store.free.items ≡ 0 = ap length free in
    record {
      tree = record { root = refl; stands = tt; once = λ n. omega arith; ascends = tt; fits = omega arith };
      once = λ n. let e : times n store.free.items ≡ 0 = ap (times n) free in omega arith;
      free_in = λ n p. let e : times n store.free.items ≡ 0 = ap (times n) free in absurd (omega arith);
      listed = λ q n e. let z = none q in absurd (cc (e, z));
      found = λ n p. absurd (omega arith);
      spans = λ n p. absurd (omega arith);
      places = λ n p. absurd (omega arith);
      room = omega arith;
      counted = omega arith;
      few = omega arith;
    }

-- the same numbers of the same places
pub Holds-numbers : (old new : SpanStore) (root : Option ℕ) (t : NodeTree) → Holds old root t → new.nodes ≡ old.nodes → new.free ≡ old.free →
    ((q : ℕ) → hash.get nat_eq new.numbers q ≡ hash.get nat_eq old.numbers q) → HoldsStill old new root t
Holds-numbers old new root t h nodes free got =
    let P : List StoredNode → Type 0 = λ w. IsTree w root t in
    let at : (n : ℕ) → stored_at new.nodes.items n ≡ stored_at old.nodes.items n = λ n. ap (λ w. stored_at w.items n) nodes in
    let len : length new.nodes.items ≡ length old.nodes.items = ap (λ w. length w.items) nodes in
    let fl : length new.free.items ≡ length old.free.items = ap (λ w. length w.items) free in
    let fc : vec_capacity new.free ≡ vec_capacity old.free = ap vec_capacity free in
    let a = h.counted in let b = h.room in let c = h.few in (
      record {
        tree = subst P (sym (ap (λ w. w.items) nodes)) h.tree;
        once = λ n. let o = h.once n in let e : times n (numbers_of t ++ new.free.items) ≡ times n (numbers_of t ++ old.free.items) = ap (λ w. times n (numbers_of t ++ w.items)) free in omega arith;
        free_in = λ n p. let e : times n new.free.items ≡ times n old.free.items = ap (λ w. times n w.items) free in
            let f = h.free_in n (omega arith) in (let g = f.0 in omega arith, ap (λ w. w.height) (at n) ∙ f.1);
        listed = λ q n e. let l = h.listed q n (sym (got q) ∙ e) in (l.0, ap (λ w. w.node.place) (at n) ∙ l.1);
        found = λ n p. got (stored_at new.nodes.items n).node.place ∙ ap (λ w. hash.get nat_eq old.numbers w.node.place) (at n) ∙ h.found n p;
        spans = λ n p. let Q : StoredNode → Type 0 = λ w. IsBounded w.node.span × HasPositions w.node.span in subst Q (sym (at n)) (h.spans n p);
        places = λ n p. let Q : StoredNode → Type 0 = λ w. w.node.place < 2 ^ 64 in subst Q (sym (at n)) (h.places n p);
        room = omega arith;
        counted = omega arith;
        few = omega arith;
      },
      ap (λ w. kept_of w.items (numbers_of t)) nodes,
    )

pub HoldsStill-then : (a b c : SpanStore) (root : Option ℕ) (t : NodeTree) → HoldsStill a b root t → (Holds b root t → HoldsStill b c root t) → HoldsStill a c root t
HoldsStill-then a b c root t first next = let k = next first.0 in (k.0, k.1 ∙ first.1)
