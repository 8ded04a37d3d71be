-- What is done to the tree keeps each law.
use Rattle.std.proofs.Common.{ℕ, Bool}
use Rattle.cfs_dir.specs.declared.change.Change.{Change}
use Rattle.cfs_requests.specs.Steps.{NameAnswer, NameRequest}
use Rattle.cfs_requests.specs.Steps as names
use Rattle.cfs_meaning.specs.Laws.{IsGiven}
use Rattle.cfs_meaning.specs.Names.{ask, ask_and_purge, checkpoint, dying, open_with, purge_all, say_made, say_named, store_change}
use Rattle.cfs_meaning.proofs.Keeping.{Any, Base, Keeps, keep-changes, keep-each, keep-give, keep-look, keep-never, keep-only, keep-shrugs, keep-steps, keep-then, keep-tries, keep-unless, keep-when}
use Rattle.cfs_meaning.proofs.KeptInode.{kept-purge}
use Rattle.cfs_meaning.proofs.Kept.{Law, Requests}
use Rattle.cfs_meaning.proofs.Quiet.{quiet-doubt, quiet-recorded, quiet-selected, quiet-settled}

-- ---- journal and checkpoint

kept-checkpoint : (base : Base) → Keeps base Any checkpoint
kept-checkpoint base =
    keep-look (λ w.
    keep-then (keep-only _) (λ u a.
    keep-then (keep-when _ (keep-then keep-steps (λ u a. keep-changes quiet-settled))) (λ u a.
    keep-then keep-steps (λ u a.
    keep-then keep-tries (λ kept may.
    keep-then (keep-changes (quiet-selected _ kept)) (λ u a. keep-unless kept may))))))

pub kept-store : (base : Base) (change : Change) → Keeps base Any (store_change change)
kept-store base change =
    keep-look (λ w.
    keep-then (keep-when _ (kept-checkpoint base)) (λ u a.
    keep-look (λ ready.
    keep-then (keep-when _ (keep-then keep-steps (λ u a. keep-changes quiet-doubt))) (λ u a.
    keep-then keep-tries (λ kept may.
    keep-then (keep-changes (quiet-recorded change kept)) (λ u a. keep-unless kept may))))))

-- ---- requests

pub kept-ask : (law : Law) → Requests law → (c : ℕ) (request : NameRequest) →
    Keeps law.base Any (ask c law.line request)
kept-ask law requests c request = record { means = requests.asks c request }

-- ---- the lines' ends

pub kept-open : (law : Law) → Requests law → (c : ℕ) (appends : Bool) (reply : NameAnswer) →
    Keeps law.base IsGiven (open_with c appends reply)
kept-open law requests c appends (names.granted grant) =
    keep-look (λ w. keep-then (record { means = requests.opens c _ }) (λ u a. keep-give tt))
kept-open law requests c appends (names.numbered ino) = keep-never
kept-open law requests c appends names.done = keep-never

pub kept-made : (law : Law) (reply : NameAnswer) → Keeps law.base IsGiven (say_made reply)
kept-made law (names.granted grant) = keep-never
kept-made law (names.numbered ino) = keep-look (λ w. keep-give tt)
kept-made law names.done = keep-never

pub kept-named : (law : Law) → Keeps law.base IsGiven say_named
kept-named law = keep-look (λ w. keep-give tt)

pub kept-purges : (law : Law) → Keeps law.base Any purge_all
kept-purges law = keep-look (λ w. keep-each (dying w) (λ ino. keep-shrugs (kept-purge law ino)))

pub kept-ask-purge : (law : Law) (c : ℕ) (request : NameRequest) →
    Keeps law.base Any (ask c law.line request) →
    Keeps law.base IsGiven (ask_and_purge c law.line request)
kept-ask-purge law c request kept =
    keep-then (keep-then kept (λ u a. kept-purges law)) (λ u a. kept-named law)
