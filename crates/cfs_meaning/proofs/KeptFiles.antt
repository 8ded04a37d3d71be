-- The lines of callers on files keep each law.
use Rattle.std.proofs.Common.{ℕ, Bool, true, false, Option, Some, None, List}
use Rattle.std.specs.Prelude.{if◌then◌else◌}
use Rattle.cfs_file.specs.declared.request.Request.{Request}
use Rattle.cfs_print.specs.declared.printed.Printed.{Printed}
use Rattle.cfs_print.specs.declared.printed.Printed.TheVariants.{Got, Placed}
use Rattle.cfs_core.specs.May.{is_sync_at}
use Rattle.cfs_meaning.specs.Laws.{IsGiven}
use Rattle.cfs_words.specs.declared.seek.Seek.{Seek}
use Rattle.cfs_meaning.specs.NameSteps.{closing}
use Rattle.cfs_meaning.specs.World.{Descriptor, World, core_in}
use Rattle.cfs_meaning.specs.Inode.{Absent, Behind, Ready, Verdict, serve_verdict}
use Rattle.cfs_meaning.specs.Names.{ask}
use Rattle.cfs_meaning.specs.Ways.{Way, known}
use Rattle.cfs_meaning.specs.Files.{Helps, move_by, admit_write, append, clear_way, close, collect, collected, find_room, ftruncate, help_lowest, help_some, in_the_way, list_queue, lseek, make_room, opened, opened_to_read, opened_to_write, post, pwrite, read_or_sync, room_or_full, say_served, serve_helped, serve_posted, stage_and_admit, write}
use Rattle.cfs_meaning.proofs.Keeping.{Any, IsSaid, Keeps, keep-changes, keep-choose, keep-each, keep-end, keep-give, keep-look, keep-mends, keep-refuse, keep-repeats, keep-say, keep-steps, keep-then, keep-when}
use Rattle.cfs_meaning.proofs.KeptInode.{kept-admit, kept-drop, kept-job, kept-read, kept-serve, kept-settle, kept-skip}
use Rattle.cfs_meaning.proofs.KeptNames.{kept-ask-purge}
use Rattle.cfs_meaning.proofs.Kept.{Law}
use Rattle.cfs_meaning.proofs.Quiet.{quiet-by, quiet-close, quiet-move, quiet-queue}

-- ---- helping

pub kept-help : (law : Law) (ino place : ℕ) → Keeps law.base Any (Helps ino place)
kept-help law ino place = record {
  means = law.helps ino (λ p. (kept-skip law ino p).means) (λ p. (kept-job law ino p).means) place;
}

-- ---- slots

pub kept-collect : (law : Law) (q : ℕ) → Keeps law.base Any (collect q)
kept-collect law q = keep-changes (quiet-queue q collected)

kept-some : (law : Law) (ino : ℕ) (place : Option ℕ) → Keeps law.base Any (help_some ino place)
kept-some law ino None = keep-give tt
kept-some law ino (Some place) = keep-then (kept-help law ino place) (λ u a. keep-give tt)

pub kept-lowest : (law : Law) (d : Descriptor) → Keeps law.base Any (help_lowest d)
kept-lowest law d = keep-look (λ w. kept-some law d.grant.ino _)

kept-make-room : (law : Law) (d : Descriptor) (count : ℕ) → Keeps law.base Any (make_room d count)
kept-make-room law d count =
    keep-then (kept-collect law d.grant.queue) (λ u a.
    keep-look (λ w.
    keep-choose _ (keep-give tt)
    (keep-choose _ (keep-then (kept-settle law d.grant.ino) (λ u a. keep-give tt))
    (kept-lowest law d))))

pub kept-room : (law : Law) (d : Descriptor) (count : ℕ) → Keeps law.base Any (find_room d count)
kept-room law d count =
    keep-then (keep-repeats (kept-make-room law d count)) (λ u a. keep-give tt)

pub kept-full : (law : Law) (d : Descriptor) (count : ℕ) → Keeps law.base Any (room_or_full d count)
kept-full law d count =
    keep-then (kept-collect law d.grant.queue) (λ u a. keep-look (λ w. keep-refuse _ _ tt))

-- ---- descriptors

-- a value that is there, whatever it is
keep-there : (law : Law) {A : Type 0} (option : Option A) (answer : Printed) →
    IsSaid answer → Keeps law.base Any (known option answer)
keep-there law None answer given = keep-say given
keep-there law (Some a) answer given = keep-give tt

pub kept-opened : (law : Law) (c fd : ℕ) → Keeps law.base Any (opened c fd)
kept-opened law c fd = keep-look (λ w. keep-there law _ _ tt)

pub kept-to-read : (law : Law) (c fd : ℕ) → Keeps law.base Any (opened_to_read c fd)
kept-to-read law c fd =
    keep-then (kept-opened law c fd) (λ d a.
    keep-then (keep-refuse _ _ tt) (λ u a. keep-give tt))

pub kept-to-write : (law : Law) (c fd : ℕ) → Keeps law.base Any (opened_to_write c fd)
kept-to-write law c fd =
    keep-then (kept-opened law c fd) (λ d a.
    keep-then (keep-refuse _ _ tt) (λ u a. keep-give tt))

-- ---- writes

kept-stage : (law : Law) (d : Descriptor) (c : ℕ) (request : Request) →
    Keeps law.base Any (stage_and_admit d c law.line request)
kept-stage law d c request =
    keep-look (λ w.
    keep-then keep-steps (λ u a.
    keep-look (λ here.
    keep-then (keep-refuse _ _ tt) (λ u a.
    keep-then (keep-refuse _ _ tt) (λ u a.
    keep-then (keep-each _ (λ b. keep-steps)) (λ u a.
    kept-admit law d c request _))))))

kept-write-in : (law : Law) (d : Descriptor) (c : ℕ) (request : Request) (moves : Bool) →
    Keeps law.base IsGiven (admit_write d c law.line request moves)
kept-write-in law d c request moves =
    keep-then (kept-stage law d c request) (λ place a.
    keep-then (keep-when moves (keep-changes (λ w. quiet-move c d.fd _ w))) (λ u a.
    keep-look (λ w. keep-give tt)))

pub kept-pwrite : (law : Law) (d : Descriptor) (c offset : ℕ) (bytes : List ℕ)
    (finds : Descriptor → ℕ → Way (Unit {0})) (moves : Bool) →
    ((count : ℕ) → Keeps law.base Any (finds d count)) →
    Keeps law.base IsGiven (pwrite d c law.line offset bytes finds moves)
kept-pwrite law d c offset bytes finds moves kept =
    keep-then (keep-refuse _ _ tt) (λ u a.
    keep-then (keep-refuse _ _ tt) (λ u a.
    keep-then (kept _) (λ u a. kept-write-in law d c _ moves)))

kept-append : (law : Law) (d : Descriptor) (c : ℕ) (bytes : List ℕ) →
    Keeps law.base IsGiven (append d c law.line bytes)
kept-append law d c bytes =
    keep-then (keep-refuse _ _ tt) (λ u a.
    keep-then (kept-room law d _) (λ u a. kept-write-in law d c _ true))

pub kept-write : (law : Law) (d : Descriptor) (c : ℕ) (bytes : List ℕ) →
    Keeps law.base IsGiven (write d c law.line bytes)
kept-write law d c bytes =
    keep-choose d.appends (kept-append law d c bytes)
    (kept-pwrite law d c d.position bytes find_room true (kept-room law d))

pub kept-truncate : (law : Law) (d : Descriptor) (c n : ℕ) →
    Keeps law.base IsGiven (ftruncate d c law.line n)
kept-truncate law d c n =
    keep-then (keep-refuse _ _ tt) (λ u a.
    keep-then (kept-room law d 1) (λ u a.
    keep-then (kept-stage law d c _) (λ place a. keep-give tt)))

-- ---- reads

kept-way : (law : Law) (ino place : ℕ) (verdict : Verdict) (w : World) →
    Keeps law.base Any (in_the_way ino place verdict w)
kept-way law ino place (Behind q) w =
    keep-choose _ (keep-end (law.base.waits q))
    (keep-then (kept-help law ino q) (λ u a. keep-give tt))
kept-way law ino place Absent w = keep-give tt
kept-way law ino place Ready w = keep-give tt

pub kept-clear : (law : Law) (ino place : ℕ) → Keeps law.base Any (clear_way ino place)
kept-clear law ino place =
    keep-look (λ w. kept-way law ino place (serve_verdict (core_in w ino) place) w)

pub kept-served : (law : Law) (ino place : ℕ) → Keeps law.base Any (serve_helped ino place)
kept-served law ino place =
    keep-mends (keep-then (keep-repeats (kept-clear law ino place)) (λ u a.
    kept-serve law ino place)) (kept-drop law ino place)

kept-say : (law : Law) (ino place : ℕ) (bytes : List ℕ) →
    Keeps law.base IsGiven (say_served ino place bytes)
kept-say law ino place bytes =
    keep-look (λ w. keep-give (either (is_sync_at (core_in w ino).log place)))
  where
    either : (test : Bool) → IsGiven (if test then Placed ino place else Got ino place bytes)
    either true = tt
    either false = tt

pub kept-read-or-sync : (law : Law) (d : Descriptor) (c : ℕ) (request : Request) (moves : Bool) →
    Keeps law.base IsGiven (read_or_sync d c law.line request moves)
kept-read-or-sync law d c request moves =
    keep-then (kept-read law d c request) (λ place a.
    keep-then (record {
      means = law.defers d.grant.ino place (serve_helped d.grant.ino place)
          (move_by c d moves place) (kept-served law d.grant.ino place).means
          (quiet-by c d moves place);
    }) (λ bytes a. kept-say law d.grant.ino place bytes))

pub kept-post : (law : Law) (d : Descriptor) (c : ℕ) (request : Request) →
    Keeps law.base IsGiven (post d c law.line request)
kept-post law d c request =
    keep-then (kept-read law d c request) (λ place a. keep-give tt)

pub kept-posted : (law : Law) (d : Descriptor) (place : ℕ) →
    Keeps law.base IsGiven (serve_posted d place)
kept-posted law d place =
    keep-look (λ w.
    keep-then (keep-refuse _ _ tt) (λ u a.
    keep-then (kept-served law d.grant.ino place) (λ bytes a.
    kept-say law d.grant.ino place bytes)))

-- ---- seek, queue, close

pub kept-seek : (law : Law) (d : Descriptor) (c : ℕ) (seek : Seek) →
    Keeps law.base IsGiven (lseek d c seek)
kept-seek law d c seek =
    keep-then (keep-there law _ _ tt) (λ to a.
    keep-then (keep-refuse _ _ tt) (λ u a.
    keep-then (keep-changes (quiet-move c d.fd to)) (λ u a. keep-give tt)))

pub kept-listed : (law : Law) (d : Descriptor) → Keeps law.base IsGiven (list_queue d)
kept-listed law d = keep-look (λ w. keep-give tt)

pub kept-close-fd : (law : Law) (d : Descriptor) (c : ℕ) →
    Keeps law.base Any (ask c law.line (closing d.grant)) →
    Keeps law.base IsGiven (close d c law.line)
kept-close-fd law d c kept =
    keep-look (λ w.
    keep-then (keep-each _ (kept-drop law d.grant.ino)) (λ u a.
    keep-then (keep-when _ (kept-settle law d.grant.ino)) (λ u a.
    keep-then (keep-repeats (kept-lowest law d)) (λ u a.
    keep-then (kept-collect law d.grant.queue) (λ u a.
    keep-then (keep-changes (quiet-close c d.fd)) (λ u a.
    kept-ask-purge law c (closing d.grant) kept))))))
