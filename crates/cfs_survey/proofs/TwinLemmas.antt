-- Where no node has a lower one with its parent and name, each is the one that they find.
use Rattle.std.proofs.Common.{◌≡◌, ℕ, ◌<◌, suc, List, [], ◌∷◌, ◌++◌, true, refl, sym, ◌∙◌, ap, subst, arith, eq-eqb, append_assoc}
use Rattle.std.specs.Prelude.{All, None, Option, Some, find, cond, nat_lt, ◌&&◌}
use Rattle.std.specs.Option.{option_or}
use Rattle.std.specs.Str.{bytes_eq}
use Rattle.std.proofs.lemmas.Bool.{lt-ltb}
use Rattle.std.proofs.lemmas.List.Elements.{All-cons, All-head, All-nil, All-tail, All-weaker, All-push}
use Rattle.std.proofs.lemmas.List.Folds.{find-append}
use Rattle.cfs_dir.specs.declared.node.Node.{Node}
use Rattle.cfs_dir.specs.Namespace.{child_of, is_child}
use Rattle.cfs_dir.specs.Tree.{AreAscendingFrom}
use Rattle.cfs_survey.specs.Places.{twin_of}

same_bytes : (name : List ℕ) → bytes_eq name name ≡ true
same_bytes [] = refl
same_bytes (byte ∷ bytes) = ap (λ b. b && bytes_eq bytes bytes) (eq-eqb byte byte refl) ∙ same_bytes bytes

own_child : (x : Node) → is_child x.parent x.name x ≡ true
own_child x = ap (λ b. b && bytes_eq x.name x.name) (eq-eqb x.parent x.parent refl) ∙ same_bytes x.name

find_lower : (nodes : List Node) (x : Node) → All (λ y. y.rec < x.rec) nodes
    → find (λ y. nat_lt y.rec x.rec && is_child x.parent x.name y) nodes ≡ find (is_child x.parent x.name) nodes
find_lower [] x lower = refl
find_lower (y ∷ ys) x lower =
    let here = All-head (λ z. z.rec < x.rec) y ys lower in
    ap (λ b. cond (b && is_child x.parent x.name y) (Some y) (find (λ z. nat_lt z.rec x.rec && is_child x.parent x.name z) ys)) (lt-ltb y.rec x.rec here)
    ∙ ap (λ found. cond (is_child x.parent x.name y) (Some y) found) (find_lower ys x (All-tail (λ z. z.rec < x.rec) y ys lower))

front_none : (a b : Option Node) → option_or a b ≡ None → a ≡ None
front_none None b h = refl
front_none (Some x) b h = absurd (cc)

-- of nodes in front and behind, all behind
names_behind : (front behind : List Node) (bound : ℕ) → All (λ y. y.rec < bound) front → AreAscendingFrom bound behind
    → All (λ x. twin_of (front ++ behind) x ≡ None) behind → All (λ x. child_of (front ++ behind) x.parent x.name ≡ Some x) behind
names_behind front [] bound lower ascend twins = All-nil (λ x. child_of (front ++ []) x.parent x.name ≡ Some x)
names_behind front (x ∷ rest) bound lower ascend twins =
    let none = All-head (λ y. twin_of (front ++ x ∷ rest) y ≡ None) x rest twins in
    let below : All (λ y. y.rec < x.rec) front = All-weaker (λ y. y.rec < bound) (λ y. y.rec < x.rec) (λ y h. omega (arith, ascend.0)) front lower in
    let test = λ (y : Node). nat_lt y.rec x.rec && is_child x.parent x.name y in
    let before = front_none (find test front) (find test (x ∷ rest)) (sym (find-append test front (x ∷ rest)) ∙ none) in
    let joined = append_assoc front (x ∷ []) rest in
    let further : All (λ y. y.rec < suc x.rec) (front ++ x ∷ []) =
    All-push (λ y. y.rec < suc x.rec) front x (All-weaker (λ y. y.rec < x.rec) (λ y. y.rec < suc x.rec) (λ y h. omega arith) front below) (let own : x.rec < suc x.rec = omega arith in own) in
    All-cons (λ y. child_of (front ++ x ∷ rest) y.parent y.name ≡ Some y) x rest
    (find-append (is_child x.parent x.name) front (x ∷ rest)
    ∙ ap (λ found. option_or found (find (is_child x.parent x.name) (x ∷ rest))) (sym (find_lower front x below) ∙ before)
    ∙ ap (λ b. cond b (Some x) (find (is_child x.parent x.name) rest)) (own_child x))
    (subst (λ all. All (λ y. child_of all y.parent y.name ≡ Some y) rest) joined
    (names_behind (front ++ x ∷ []) rest (suc x.rec) further ascend.1
    (subst (λ all. All (λ y. twin_of all y ≡ None) rest) (sym joined) (All-tail (λ y. twin_of (front ++ x ∷ rest) y ≡ None) x rest twins))))

pub names_once : (nodes : List Node) → AreAscendingFrom 0 nodes → All (λ x. twin_of nodes x ≡ None) nodes
    → All (λ x. child_of nodes x.parent x.name ≡ Some x) nodes
names_once nodes ascend twins = names_behind [] nodes 0 (All-nil (λ y. y.rec < 0)) ascend twins
