-- Entries that are helped, and reads that help them, keep a world shown by its devices.
use Rattle.std.proofs.Common.{ℕ, Bool, true, false}
use Rattle.std.specs.Prelude.{Result, Ok, Err}
use Rattle.cfs_file.specs.declared.request.Request.{Request}
use Rattle.cfs_core.specs.Words.{is_out, track}
use Rattle.cfs_meaning.specs.World.{Descriptor, World, core_in}
use Rattle.cfs_meaning.specs.Inode.{Absent, Behind, Ready, Verdict, admit_read, drop_read, serve}
use Rattle.cfs_meaning.specs.Inode.{serve_verdict}
use Rattle.cfs_meaning.specs.Files.{Helps, clear_way, fails, fails_first, helps_first, in_the_way}
use Rattle.cfs_meaning.specs.Files.{is_behind, is_out_itself, opened, opened_to_read, read_or_sync}
use Rattle.cfs_meaning.specs.Files.{serve_helped, serve_posted, skips, works, works_on}
use Rattle.cfs_meaning.specs.Devices.{IsShown}
use Rattle.cfs_meaning.specs.Ways.{Halt, Now, Waits, Way, choose, end_with, give, ◌>>=◌, ◌>>◌}
use Rattle.cfs_meaning.proofs.Hoare.{Leaves, leave-end, leave-give, leave-known, leave-look}
use Rattle.cfs_meaning.proofs.Hoare.{leave-refuse, leave-then, leave-weaker}
use Rattle.cfs_meaning.proofs.KeptInode.{kept-drop, kept-read, kept-serve}
use Rattle.cfs_meaning.proofs.Reached.{reached_law}
use Rattle.cfs_meaning.proofs.ShownOpen.{leave-mends, leave-repeats, open-drop, open-read}
use Rattle.cfs_meaning.proofs.ShownOpen.{open-serve}
use Rattle.cfs_meaning.proofs.ShownParts.{keep-read}
use Rattle.cfs_meaning.proofs.ShownReads.{defers-by, dropped-shown, moves-shown}
use Rattle.cfs_meaning.proofs.ShownReads.{said-shown, served-shown}
use Rattle.cfs_meaning.proofs.ShownTurns.{AllWork, leave-kept, part-all}
use Rattle.cfs_meaning.proofs.ShownWork.{job-all, skip-all}
use Rattle.cfs_meaning.proofs.Total.{IfEnds}
use Rattle.cfs_meaning.proofs.Worlds.{law_of}

-- ---- an entry is helped

helped : (ino place : ℕ) (old : World) (end : Result (Unit {0}) Halt) (new : World) →
    AllWork old → Helps ino place old end new → IfEnds (λ u. AllWork) AllWork end new
helped ino place old end new all (skips noop way) =
    (skip-all ino place).by old end new (all, noop) way
helped ino place old end new all (is_out_itself out) = all
helped ino place old end new all (is_behind behind stuck) = all
helped ino place old end new all (helps_first {q = q} {mid = mid} behind stuck one rest) =
    helped ino place mid end new (helped ino q old (Ok tt) mid all one) rest
helped ino place old end new all (fails_first {q = q} {halt = halt} behind stuck one) =
    helped ino q old (Err halt) new all one
helped ino place old end new all (works ready way) =
    (job-all ino place).by old (Ok false) new all way
helped ino place old end new all (works_on {mid = mid} ready way rest) =
    helped ino place mid end new ((job-all ino place).by old (Ok true) mid all way) rest
helped ino place old end new all (fails {halt = halt} ready way) =
    (job-all ino place).by old (Err halt) new all way

pub help-all : (ino place : ℕ) → Leaves AllWork (λ u. AllWork) AllWork (Helps ino place)
help-all ino place = record { by = helped ino place }

-- ---- a read that is served

pub any-all : {A : Type 0} {next : World → Way A} →
    ((x : World) → Leaves AllWork (λ a. AllWork) AllWork (next x)) →
    Leaves AllWork (λ a. AllWork) AllWork (Now >>= next)
any-all more =
    leave-look (λ x.
    leave-weaker {P = AllWork} (λ w holds. holds.1) (λ a w q. q) (λ w e. e) (more x))

clear-all : (ino place : ℕ) → Leaves AllWork (λ more. AllWork) AllWork (clear_way ino place)
clear-all ino place = any-all (λ x. by-verdict x (serve_verdict (core_in x ino) place))
  where
    by-out : (b : Bool) (q : ℕ) →
        Leaves AllWork (λ more. AllWork) AllWork
        (choose b (end_with (Waits q)) (Helps ino q >> give true))
    by-out true q = leave-end (λ w all. all)
    by-out false q =
        leave-then {Q = λ u. AllWork} (help-all ino q) (λ u. leave-give (λ w all. all))

    by-verdict : (x : World) (v : Verdict) →
        Leaves AllWork (λ more. AllWork) AllWork (in_the_way ino place v x)
    by-verdict x (Behind q) = by-out (is_out (track (core_in x ino).tracks q).state) q
    by-verdict x Absent = leave-give (λ w all. all)
    by-verdict x Ready = leave-give (λ w all. all)

pub of-all : {A : Type 0} {way : Way A} →
    Leaves (λ w. IsShown w × AllWork w) (λ a. AllWork) AllWork way →
    Leaves AllWork (λ a. AllWork) AllWork way
of-all one =
    leave-weaker {P = λ w. IsShown w × AllWork w} (λ w all. (all.shown, all)) (λ a w q. q)
    (λ w e. e) one

serve-all : (ino place : ℕ) → Leaves AllWork (λ bytes. AllWork) AllWork (serve ino place)
serve-all ino place =
    of-all (part-all (served-shown ino place)
    (leave-kept (kept-serve (law_of (reached_law 0)) ino place)) (open-serve ino place))

pub drop-all : (ino place : ℕ) → Leaves AllWork (λ u. AllWork) AllWork (drop_read ino place)
drop-all ino place =
    of-all (part-all (dropped-shown ino place)
    (leave-kept (kept-drop (law_of (reached_law 0)) ino place)) (open-drop ino place))

read-all : (d : Descriptor) (c line : ℕ) (request : Request) →
    Leaves AllWork (λ place. AllWork) AllWork (admit_read d c line request)
read-all d c line request =
    of-all (part-all (keep-read d c line request)
    (leave-kept (kept-read (law_of (reached_law line)) d c request)) (open-read d c line request))

helped-all : (ino place : ℕ) →
    Leaves AllWork (λ bytes. AllWork) AllWork (serve_helped ino place)
helped-all ino place =
    leave-mends
    (leave-then {Q = λ n. AllWork} (leave-repeats (clear-all ino place)) (λ n. serve-all ino place))
    (drop-all ino place) (λ w all. all)

-- ---- lines

pub read-helps : (d : Descriptor) (c line : ℕ) (request : Request) (moves : Bool) →
    Leaves AllWork (λ answer. IsShown) IsShown (read_or_sync d c line request moves)
read-helps d c line request moves =
    leave-then {Q = λ place. AllWork}
    (leave-weaker {P = AllWork} (λ w all. all) (λ a w q. q) (λ w all. all.shown)
    (read-all d c line request)) (λ place.
    leave-then {Q = λ bytes. IsShown}
    (record {
      by = defers-by
          (leave-weaker {P = AllWork} (λ w all. all) (λ a w all. all.shown) (λ w all. all.shown)
          (helped-all d.grant.ino place)) (moves-shown c d moves place);
    }) (λ bytes. said-shown d.grant.ino place bytes))

pub posted-helps : (d : Descriptor) (place : ℕ) →
    Leaves AllWork (λ answer. IsShown) IsShown (serve_posted d place)
posted-helps d place =
    leave-look (λ x.
    leave-then {Q = λ u. AllWork}
    (leave-weaker {P = AllWork} (λ w holds. holds.1) (λ u w q. q.1) (λ w e. e)
    (leave-refuse _ _ (λ w all. all.shown))) (λ u.
    leave-then {Q = λ bytes. IsShown}
    (leave-weaker {P = AllWork} (λ w all. all) (λ a w all. all.shown) (λ w all. all.shown)
    (helped-all d.grant.ino place)) (λ bytes. said-shown d.grant.ino place bytes)))

pub opened-all : (c fd : ℕ) → Leaves AllWork (λ d. AllWork) IsShown (opened c fd)
opened-all c fd =
    leave-look (λ x.
    leave-weaker {P = AllWork} (λ w holds. holds.1) (λ d w q. q.1) (λ w e. e)
    (leave-known _ _ (λ w all. all.shown)))

to-read-all : (c fd : ℕ) → Leaves AllWork (λ d. AllWork) IsShown (opened_to_read c fd)
to-read-all c fd =
    leave-then {Q = λ d. AllWork} (opened-all c fd) (λ d.
    leave-then {Q = λ u. AllWork}
    (leave-weaker {P = AllWork} (λ w all. all) (λ u w q. q.1) (λ w e. e)
    (leave-refuse _ _ (λ w all. all.shown))) (λ u. leave-give (λ w all. all)))

pub read-helping : (c fd line : ℕ) (request : Descriptor → Request) (moves : Bool) →
    Leaves AllWork (λ answer. IsShown) IsShown
    (opened_to_read c fd >>= (λ d. read_or_sync d c line (request d) moves))
read-helping c fd line request moves =
    leave-then {Q = λ d. AllWork} (to-read-all c fd) (λ d.
    read-helps d c line (request d) moves)

pub sync-helping : (c fd line : ℕ) (request : Request) →
    Leaves AllWork (λ answer. IsShown) IsShown
    (opened c fd >>= (λ d. read_or_sync d c line request false))
sync-helping c fd line request =
    leave-then {Q = λ d. AllWork} (opened-all c fd) (λ d. read-helps d c line request false)

pub serve-helping : (c fd place : ℕ) →
    Leaves AllWork (λ answer. IsShown) IsShown (opened c fd >>= (λ d. serve_posted d place))
serve-helping c fd place =
    leave-then {Q = λ d. AllWork} (opened-all c fd) (λ d. posted-helps d place)
