-- The file of a record is found among the nodes.
use Rattle.std.proofs.Common.{◌≡◌, ◌∙◌, ℕ, Bool, true, false, cond, Option, Some, None, List, [], ◌∷◌}
use Rattle.std.proofs.Common.{inl, inr, refl, sym, ap, if◌then◌else◌}
use Rattle.std.specs.Prelude.{◌==◌, ◌&&◌, not, find}
use Rattle.std.specs.List.{cons_option}
use Rattle.std.specs.Option.{option_map}
use Rattle.std.proofs.lemmas.Bool.{cases_Bool}
use Rattle.cfs_dir.specs.declared.node.Node.{Node}
use Rattle.cfs_dir.specs.Namespace.{is_directory}
use Rattle.cfs_home.specs.Disks.{File}
use Rattle.cfs_plan.specs.Files.{files_of}
use Rattle.cfs_states.specs.Begins.{owner_at}
use Rattle.cfs_states.specs.Stored.{file_at}

abbrev pub is_wanted : ℕ → Node → Bool
is_wanted rec node = (node.rec == rec) && not (is_directory node.kind)

owner-file : (rec : ℕ) (node : Node) (nodes : List Node) → is_directory node.kind ≡ false →
    owner_at (files_of (node ∷ nodes)) rec
    ≡ option_map (λ f. f.ino) (cond (node.rec == rec) (Some record { node = node.rec; ino = node.ino })
    (file_at (files_of nodes) rec))
owner-file rec node nodes plain =
    ap (λ (b : Bool). owner_at (cons_option
    (if b then None else Some record { node = node.rec; ino = node.ino }) (files_of nodes)) rec)
    plain

owner-directory : (rec : ℕ) (node : Node) (nodes : List Node) → is_directory node.kind ≡ true →
    owner_at (files_of (node ∷ nodes)) rec ≡ owner_at (files_of nodes) rec
owner-directory rec node nodes directory =
    ap (λ (b : Bool). owner_at (cons_option
    (if b then None else Some record { node = node.rec; ino = node.ino }) (files_of nodes)) rec)
    directory

never : (one other : Bool) → other ≡ true → (one && not other) ≡ false
never true other is = ap not is
never false other is = refl

pub owner-found : (rec : ℕ) (nodes : List Node) →
    option_map (λ node. node.ino) (find (is_wanted rec) nodes) ≡ owner_at (files_of nodes) rec
owner-found rec [] = refl
owner-found rec (node ∷ nodes) = elim (cases_Bool (is_directory node.kind)) [
  | inl directory ↦
      ap (λ (b : Bool). option_map (λ (n : Node). n.ino)
      (cond b (Some node) (find (is_wanted rec) nodes))) (never (node.rec == rec) (is_directory node.kind) directory)
      ∙ owner-found rec nodes
      ∙ sym (owner-directory rec node nodes directory)
  | inr plain ↦ elim (cases_Bool (node.rec == rec)) [
    | inl here ↦
        ap (λ (b : Bool). option_map (λ (n : Node). n.ino)
        (cond (b && not (is_directory node.kind)) (Some node) (find (is_wanted rec) nodes))) here
        ∙ ap (λ (b : Bool). option_map (λ (n : Node). n.ino)
        (cond (not b) (Some node) (find (is_wanted rec) nodes))) plain
        ∙ sym (owner-file rec node nodes plain
        ∙ ap (λ (b : Bool). option_map (λ (f : File). f.ino)
        (cond b (Some record { node = node.rec; ino = node.ino }) (file_at (files_of nodes) rec)))
        here)
    | inr other ↦
        ap (λ (b : Bool). option_map (λ (n : Node). n.ino)
        (cond (b && not (is_directory node.kind)) (Some node) (find (is_wanted rec) nodes))) other
        ∙ owner-found rec nodes
        ∙ sym (owner-file rec node nodes plain
        ∙ ap (λ (b : Bool). option_map (λ (f : File). f.ino)
        (cond b (Some record { node = node.rec; ino = node.ino }) (file_at (files_of nodes) rec)))
        other)
  ]
]

-- what was found, by whatever has its node
pub owner-of : {B : Type 0} (now : B → Node) (o : Option B) (rec : ℕ) (nodes : List Node) →
    option_map now o ≡ find (is_wanted rec) nodes →
    option_map (λ found. (now found).ino) o ≡ owner_at (files_of nodes) rec
owner-of now o rec nodes is =
    twice now o ∙ ap (λ (f : Option Node). option_map (λ node. node.ino) f) is
    ∙ owner-found rec nodes
  where
    twice : {B : Type 0} (now : B → Node) (o : Option B) →
        option_map (λ found. (now found).ino) o
        ≡ option_map (λ node. node.ino) (option_map now o)
    twice now None = refl
    twice now (Some found) = refl
