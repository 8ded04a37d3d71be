-- What an open finds, its user may open.
use Rattle.std.proofs.Common.{◌≡◌, ℕ, List, Bool, true, false, cond, Option, Result, Ok, Err, inl, inr, refl, sym, ◌∙◌, ap}
use Rattle.std.specs.Prelude.{not}
use Rattle.std.proofs.lemmas.Bool.{cases_Bool, cond-true, cond-false}
use Rattle.cfs_cred.specs.declared.credential.Credential.{Credential}
use Rattle.cfs_dir.specs.declared.kind.Kind.TheVariants.{File}
use Rattle.cfs_dir.specs.declared.node.Node.{Node}
use Rattle.cfs_dir.specs.declared.posix.Posix.{Posix}
use Rattle.cfs_dir.specs.declared.posix.Posix.TheVariants.{AlreadyExists, IsADirectory, PermissionDenied}
use Rattle.cfs_dir.specs.Namespace.{Namespace, is_directory}
use Rattle.cfs_dir.specs.Step.{and_then, looked_up, made}
use Rattle.cfs_requests.specs.declared.opening.Opening.{Opening}
use Rattle.cfs_requests.specs.declared.opening.Opening.TheVariants.{Found}
use Rattle.cfs_requests.specs.Looks.{FoundIsAllowed}
use Rattle.cfs_requests.specs.Opens.{found, found_when, has_access, made_or, opened, words_refusal}
use Rattle.cfs_requests.proofs.Takes.{opened_when, passed_words}
use Rattle.cfs_words.specs.declared.flags.Flags.{Flags}

abbrev Allowed : Credential → Flags → Node → Type 0
Allowed credential flags node = (is_directory node.kind ≡ false) × (has_access credential node flags ≡ true)

not_not : (b : Bool) → not b ≡ false → b ≡ true
not_not true e = refl
not_not false e = absurd (cc)

when_found : (credential : Credential) (flags : Flags) (there node : Node) → found_when credential flags there ≡ Ok (Found node) → Allowed credential flags node
when_found credential flags there node e = elim (cases_Bool (is_directory there.kind)) [
  | inl t ↦
      let none : Result Opening Posix = Err IsADirectory in
      let is : none ≡ Ok (Found node) = sym (cond-true (is_directory there.kind) none (opened_when credential flags there) t) ∙ e in
      absurd (cc)
  | inr f ↦
      let rest : opened_when credential flags there ≡ Ok (Found node) =
      sym (cond-false (is_directory there.kind) (Err IsADirectory) (opened_when credential flags there) f) ∙ e in
      elim (cases_Bool (not (has_access credential there flags))) [
        | inl t ↦
            let none : Result Opening Posix = Err PermissionDenied in
            let is : none ≡ Ok (Found node) = sym (cond-true (not (has_access credential there flags)) none (Ok (Found there)) t) ∙ rest in
            absurd (cc)
        | inr g ↦
            let one : Result Opening Posix = Ok (Found there) in
            let is : one ≡ Ok (Found node) = sym (cond-false (not (has_access credential there flags)) (Err PermissionDenied) one g) ∙ rest in
            let same : there ≡ node = cc in (
              ap (λ (n : Node). is_directory n.kind) (sym same) ∙ f,
              ap (λ (n : Node). has_access credential n flags) (sym same) ∙ not_not (has_access credential there flags) g,
            )
      ]
]

at_found : (credential : Credential) (flags : Flags) (there : Result Node Posix) (node : Node) →
    and_then there (found_when credential flags) ≡ Ok (Found node) → Allowed credential flags node
at_found credential flags (Err refusal) node e = absurd (cc)
at_found credential flags (Ok there) node e = when_found credential flags there node e

unless_exclusive : (b : Bool) (refusal : Posix) (there : Result Opening Posix) (node : Node) → cond b (Err refusal) there ≡ Ok (Found node) → there ≡ Ok (Found node)
unless_exclusive true refusal there node e = absurd (cc)
unless_exclusive false refusal there node e = e

made_or_found : (exclusive : Bool) (there : Result Opening Posix) (made : Result Node Posix) (node : Node) → made_or exclusive there made ≡ Ok (Found node) → there ≡ Ok (Found node)
made_or_found exclusive there (Ok other) node e = absurd (cc)
made_or_found exclusive there (Err AlreadyExists) node e = unless_exclusive exclusive AlreadyExists there node e
made_or_found exclusive there (Err refusal) node e = absurd (cc)

opened_found : (namespace : Namespace) (credential : Credential) (path : List (List ℕ)) (flags : Flags) (mode : ℕ) (rec : Option ℕ) (node : Node) →
    opened namespace credential path flags mode rec ≡ Ok (Found node) → found namespace credential path flags ≡ Ok (Found node)
opened_found namespace credential path flags mode rec node e =
    let there : Result Opening Posix = found namespace credential path flags in
    let new : Result Opening Posix = made_or flags.exclusive there (made namespace credential path File mode rec) in
    elim (cases_Bool flags.create) [
      | inl t ↦ made_or_found flags.exclusive there (made namespace credential path File mode rec) node (sym (cond-true flags.create new there t) ∙ e)
      | inr f ↦ sym (cond-false flags.create new there f) ∙ e
    ]

pub found-is-allowed : FoundIsAllowed
found-is-allowed namespace credential path flags mode rec node e =
    at_found credential flags (looked_up namespace credential path) node
    (opened_found namespace credential path flags mode rec node
    (passed_words (words_refusal flags path) (opened namespace credential path flags mode rec) (Found node) e))
