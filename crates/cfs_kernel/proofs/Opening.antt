-- What an open gives, and the record of a file that it makes.
use Rattle.std.proofs.Common.{ℕ, ◌+◌, ◌≡◌, ◌∙◌, List, Option, Some, Result, Ok, Err, refl, sym}
use Rattle.std.specs.Prelude.{IfOk}
use Rattle.cfs_cred.specs.declared.credential.Credential.{Credential}
use Rattle.cfs_dir.specs.Namespace.{Namespace}
use Rattle.cfs_queue.specs.Queue.{Slots}
use Rattle.cfs_requests.specs.declared.name_refusal.NameRefusal.{NameRefusal}
use Rattle.cfs_requests.specs.declared.opening.Opening.{Opening}
use Rattle.cfs_requests.specs.declared.opening.Opening.TheVariants.{Found, Made}
use Rattle.cfs_requests.specs.Looks.{opens}
use Rattle.cfs_requests.specs.Made.{IfMade}
use Rattle.cfs_requests.specs.Steps.{grant_for, opened_node}
use Rattle.cfs_requests.proofs.Takes.{opens_takes}
use Rattle.cfs_words.specs.declared.flags.Flags.{Flags}
use Rattle.cfs_kernel.specs.declared.opened.Opened.{Opened}
use Rattle.cfs_kernel.specs.Answers.{gives}
use Rattle.cfs_kernel.specs.States.{Kernel}

pub opening_takes : (tree : Namespace) (credential : Credential) (path : List (List ℕ)) (flags : Flags) (mode : ℕ) (rec : Option ℕ) (looked : Result Opening NameRefusal) →
    looked ≡ opens tree credential path flags mode rec → IfOk looked (λ opening. IfMade opening (λ node. rec ≡ Some node.rec))
opening_takes tree credential path flags mode rec (Ok (Found node)) is = tt
opening_takes tree credential path flags mode rec (Ok (Made node)) is = opens_takes tree credential path flags mode rec node (sym is)
opening_takes tree credential path flags mode rec (Err refusal) is = tt

pub gives_is : {R : Type 0} (opened : Opened R) (kernel : Kernel R) (caller : ℕ) (flags : Flags) (opening : Opening) (number : ℕ) (queue : Slots R) →
    opened.place ≡ kernel.requests + 1 → opened.grant ≡ grant_for kernel.names.next_grant number caller flags (opened_node opening) →
    opened.rec ≡ (opened_node opening).rec → opened.queue ≡ queue → opened ≡ gives kernel caller flags opening number queue
gives_is {R = R} opened kernel caller flags opening number queue place grant rec home =
    let same : opened ≡ record { place = opened.place; grant = opened.grant; rec = opened.rec; queue = opened.queue } = refl in
    same ∙ rw place (rw grant (rw rec (rw home refl)))
