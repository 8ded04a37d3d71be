-- What is done to one file keeps each law.
use Rattle.std.proofs.Common.{◌≡◌, ℕ, Bool, true, false, Option, Some, None, List, refl}
use Rattle.cfs_file.specs.declared.entry.Entry.{Entry}
use Rattle.cfs_file.specs.declared.request.Request.{Request}
use Rattle.cfs_core.specs.declared.doubt.Doubt.{Doubt}
use Rattle.cfs_core.specs.declared.event.SizeEnd.{SizeEnd}
use Rattle.cfs_core.specs.declared.event.SizeEnd.TheVariants as sizes
use Rattle.cfs_core.specs.declared.state.Lease.{Lease}
use Rattle.cfs_meaning.specs.World.{Descriptor, Held}
use Rattle.cfs_meaning.specs.Inode.{admit, admit_read, apply, back, back_unless, clear_size, close_or_apply, dispatch, drop_read, finish, finish_with, flush_block, mark, next_step, open_gate, purge, retire, run_job, serve, set_size, settle, settle_doubt, skip, tag, tag_with, trim, trim_at, try_to_close, untag, write_block}
use Rattle.cfs_meaning.proofs.Keeping.{Any, Keeps, keep-changes, keep-each, keep-end, keep-give, keep-look, keep-mends, keep-steps, keep-then, keep-tries, keep-unless, keep-when}
use Rattle.cfs_meaning.proofs.Kept.{Law, keep-event}
use Rattle.cfs_meaning.proofs.Quiet.{quiet-back, quiet-end, quiet-give, quiet-gone, quiet-hold}
use Rattle.cfs_meaning.proofs.Quiet.{quiet-map, quiet-passed, quiet-posted, quiet-unsure}

-- ---- settling

kept-close : (law : Law) (ino gate : ℕ) → Keeps law.base law.base.MayBe (try_to_close ino gate)
kept-close law ino gate = keep-look (λ w. keep-tries)

kept-doubt : (law : Law) (ino : ℕ) (doubt : Option Doubt) →
    Keeps law.base Any (settle_doubt ino doubt)
kept-doubt law ino None = keep-give tt
kept-doubt law ino (Some doubt) =
    keep-then (kept-close law ino doubt.entry.place) (λ closed may.
    keep-then (keep-unless closed may) (λ u a.
    keep-then (keep-event law tt) (λ u a.
    keep-changes (quiet-back ino doubt.entry.place))))

pub kept-settle : (law : Law) (ino : ℕ) → Keeps law.base Any (settle ino)
kept-settle law ino = keep-look (λ w. kept-doubt law ino _)

-- ---- admission

kept-tag-with : (law : Law) (ino k b : ℕ) → Keeps law.base Any (tag_with ino k b)
kept-tag-with law ino k b =
    keep-then (keep-changes (quiet-map ino k b)) (λ u a.
    keep-then keep-tries (λ kept may.
    keep-then (keep-event law tt) (λ u a. keep-unless kept may)))

kept-tag : (law : Law) (ino k : ℕ) → Keeps law.base Any (tag ino k)
kept-tag law ino k = keep-look (λ w. kept-tag-with law ino k _)

kept-gate : (law : Law) (ino : ℕ) (entry : Entry) (grant : ℕ) (h : Held) → entry.line ≡ law.line →
    Keeps law.base Any (open_gate ino entry grant h)
kept-gate law ino entry grant h own =
    keep-then keep-tries (λ kept may.
    keep-then (keep-event law own) (λ u a.
    keep-then (keep-changes (quiet-hold ino h)) (λ u a. keep-unless kept may)))

kept-mark : (law : Law) (ino by place : ℕ) → Keeps law.base Any (mark ino by place)
kept-mark law ino by place =
    keep-look (λ w. keep-then keep-tries (λ kept may. keep-event law tt))

pub kept-admit : (law : Law) (d : Descriptor) (c : ℕ) (request : Request) (slots : List ℕ) →
    Keeps law.base Any (admit d c law.line request slots)
kept-admit law d c request slots =
    keep-then (kept-settle law d.grant.ino) (λ u a.
    keep-look (λ w.
    keep-then (keep-when _ keep-steps) (λ u a.
    keep-then (keep-each _ (kept-tag law d.grant.ino)) (λ u a.
    keep-then (kept-gate law d.grant.ino _ _ _ refl) (λ u a.
    keep-look (λ behind.
    keep-then (keep-each _ (kept-mark law d.grant.ino _)) (λ u a. keep-give tt)))))))

-- ---- jobs

pub kept-dispatch : (law : Law) (ino place : ℕ) → Keeps law.base Any (dispatch ino place)
kept-dispatch law ino place =
    keep-then (keep-event law tt) (λ u a. keep-changes (quiet-passed ino place 0))

kept-write : (law : Law) (ino place k : ℕ) → Keeps law.base Any (write_block ino place k)
kept-write law ino place k =
    keep-look (λ w.
    keep-then keep-steps (λ u a.
    keep-then keep-tries (λ whole may.
    keep-look (λ behind.
    keep-then (keep-event law tt) (λ u a. keep-unless whole may)))))

kept-flush : (law : Law) (ino place k : ℕ) → Keeps law.base Any (flush_block ino place k)
kept-flush law ino place k =
    keep-look (λ w.
    keep-then keep-tries (λ kept may.
    keep-then (keep-event law tt) (λ u a. keep-unless kept may)))

kept-next : (law : Law) (ino place : ℕ) (one other : Option Lease) →
    Keeps law.base Any (next_step ino place one other)
kept-next law ino place (Some lease) other = kept-write law ino place lease.block
kept-next law ino place None (Some lease) = kept-flush law ino place lease.block
kept-next law ino place None None = keep-give tt

pub kept-apply : (law : Law) (ino place : ℕ) → Keeps law.base Any (apply ino place)
kept-apply law ino place = keep-look (λ w. kept-next law ino place _ _)

pub kept-back : (law : Law) (ino place : ℕ) (size : SizeEnd) →
    Keeps law.base Any (back ino place size)
kept-back law ino place size = keep-look (λ w. keep-event law tt)

kept-unless : (law : Law) (kept : Bool) → law.base.MayBe kept → (ino place : ℕ) (size : SizeEnd) →
    Keeps law.base Any (back_unless kept ino place size)
kept-unless law true may ino place size = keep-give tt
kept-unless law false may ino place size =
    keep-then (kept-back law ino place size) (λ u a. keep-end (law.base.fault may))

kept-size : (law : Law) (ino place rec size : ℕ) → Keeps law.base Any (set_size ino place rec size)
kept-size law ino place rec size =
    keep-then keep-tries (λ written may.
    keep-then (kept-unless law written may ino place sizes.AsBefore) (λ u a.
    keep-then keep-tries (λ kept may. kept-unless law kept may ino place sizes.Either)))

kept-end : (law : Law) (closed : Bool) → law.base.MayBe closed → (ino place : ℕ) →
    Keeps law.base Any (close_or_apply closed ino place)
kept-end law true may ino place =
    keep-then (keep-event law tt) (λ u a. keep-changes (quiet-back ino place))
kept-end law false may ino place =
    keep-then (keep-event law tt) (λ u a. keep-end (law.base.fault may))

kept-retire : (law : Law) (ino place : ℕ) → Keeps law.base Any (retire ino place)
kept-retire law ino place =
    keep-look (λ w.
    keep-then (keep-when _ (kept-size law ino place _ _)) (λ u a.
    keep-then (kept-close law ino place) (λ closed may. kept-end law closed may ino place)))

kept-finish-with : (law : Law) (more : Bool) (ino place : ℕ) →
    Keeps law.base Any (finish_with more ino place)
kept-finish-with law true ino place = keep-then (keep-event law tt) (λ u a. keep-give tt)
kept-finish-with law false ino place =
    keep-then (kept-retire law ino place) (λ u a. keep-give tt)

pub kept-finish : (law : Law) (ino place : ℕ) → Keeps law.base Any (finish ino place)
kept-finish law ino place = keep-look (λ w. kept-finish-with law _ ino place)

pub kept-job : (law : Law) (ino place : ℕ) → Keeps law.base Any (run_job ino place)
kept-job law ino place =
    keep-then (kept-dispatch law ino place) (λ u a.
    keep-look (λ w.
    keep-then (keep-mends (keep-each _ (kept-apply law ino)) (kept-back law ino place _))
    (λ u a. kept-finish law ino place)))

pub kept-skip : (law : Law) (ino place : ℕ) → Keeps law.base Any (skip ino place)
kept-skip law ino place =
    keep-then (kept-close law ino place) (λ closed may.
    keep-then (keep-unless closed may) (λ u a.
    keep-then (keep-event law tt) (λ u a. keep-changes (quiet-back ino place))))

-- ---- blocks are given up

kept-trim-at : (law : Law) (ino : ℕ) (k : Option ℕ) → Keeps law.base Any (trim_at ino k)
kept-trim-at law ino None = keep-give tt
kept-trim-at law ino (Some k) =
    keep-look (λ w.
    keep-then keep-tries (λ kept may.
    keep-then (keep-event law tt) (λ u a.
    keep-then (keep-unless kept may) (λ u a.
    keep-then (keep-changes (quiet-give ino k _)) (λ u a. keep-give tt)))))

pub kept-trim : (law : Law) (ino : ℕ) → Keeps law.base Any (trim ino)
kept-trim law ino = keep-look (λ w. kept-trim-at law ino _)

kept-untag : (law : Law) (ino : ℕ) (x : ℕ × ℕ) → Keeps law.base Any (untag ino x)
kept-untag law ino x = keep-then keep-steps (λ u a. keep-changes (quiet-give ino x.0 x.1))

kept-clear : (law : Law) (ino rec : ℕ) → Keeps law.base Any (clear_size ino rec)
kept-clear law ino rec =
    keep-then keep-steps (λ u a.
    keep-then (keep-changes (quiet-unsure ino)) (λ u a. keep-steps))

pub kept-purge : (law : Law) (ino : ℕ) → Keeps law.base Any (purge ino)
kept-purge law ino =
    keep-look (λ w.
    keep-then (keep-changes (quiet-end ino)) (λ u a.
    keep-then (keep-each _ (kept-untag law ino)) (λ u a.
    keep-then (keep-when _ (kept-clear law ino _)) (λ u a.
    keep-changes (quiet-gone _)))))

-- ---- reads

pub kept-read : (law : Law) (d : Descriptor) (c : ℕ) (request : Request) →
    Keeps law.base Any (admit_read d c law.line request)
kept-read law d c request =
    keep-look (λ w.
    keep-then (keep-event law refl) (λ u a.
    keep-then (keep-changes (quiet-posted c d.fd _)) (λ u a. keep-give tt)))

pub kept-serve : (law : Law) (ino place : ℕ) → Keeps law.base Any (serve ino place)
kept-serve law ino place =
    keep-look (λ w.
    keep-then keep-steps (λ u a.
    keep-then (keep-event law tt) (λ u a. keep-give tt)))

pub kept-drop : (law : Law) (ino place : ℕ) → Keeps law.base Any (drop_read ino place)
kept-drop law ino place = keep-event law tt
