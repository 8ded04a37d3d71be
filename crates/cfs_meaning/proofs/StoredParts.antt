-- Parts of lines on files leave the journal and the checkpoint as they stand for the tree.
use Rattle.std.proofs.Common.{◌≡◌, ℕ, ◌-◌, ◌≤◌, Bool, true, false, Option, Some}
use Rattle.std.proofs.Common.{None, List, [], ◌∷◌, ◌++◌, length, map, take, refl}
use Rattle.std.proofs.Common.{ap, ◌∙◌, if◌then◌else◌, arith}
use Rattle.std.specs.Prelude.{get_or, nat_lt, reverse, unwrap_or}
use Rattle.std.specs.List.{enumerate_from, flat_map}
use Rattle.std.specs.Option.{option_to_list}
use Rattle.std.proofs.lemmas.List.{set-get_or, take-set-le}
use Rattle.cfs_file.specs.declared.entry.Entry.{Entry}
use Rattle.cfs_file.specs.declared.request.Request.{Request}
use Rattle.cfs_file.specs.declared.span.Span.{Span}
use Rattle.cfs_core.specs.declared.doubt.Doubt.{Doubt}
use Rattle.cfs_core.specs.declared.event.Event.{Event}
use Rattle.cfs_core.specs.declared.event.SizeEnd.{SizeEnd}
use Rattle.cfs_core.specs.declared.state.Lease.{Lease}
use Rattle.cfs_core.specs.Medium.{file}
use Rattle.cfs_core.specs.Words.{blocks_needed, end_in, payload_at, start_in, start_of, track}
use Rattle.cfs_block.specs.BlockOps.{BlockOp, get_bytes, retag_ops}
use Rattle.cfs_medium.specs.Store.{tag_of}
use Rattle.cfs_pmem.specs.WordOps.{WordOp, get, persist, put, set_ops}
use Rattle.cfs_print.specs.declared.printed.Printed.{Printed}
use Rattle.cfs_slot.specs.Payload.{SlotRead, payload_reads}
use Rattle.cfs_slot.specs.Operations.{head_ops, part_ops, stage_ops}
use Rattle.cfs_slot.specs.Staging.{staged_payload}
use Rattle.cfs_meaning.specs.Drive.{Block, Drive, Op, Word, attempt, is_allowed, made, noted}
use Rattle.cfs_meaning.specs.Drive.{on_block, on_region, refused}
use Rattle.cfs_meaning.specs.Steps.{part_of, slot, staged, staged_in, tails_staged}
use Rattle.cfs_meaning.specs.World.{Descriptor, Held, World, block_of, core_in, devices_of}
use Rattle.cfs_meaning.specs.World.{file_in, head_of, held_at}
use Rattle.cfs_meaning.specs.Inode.{admit, admit_read, apply, back, back_unless, close_or_apply}
use Rattle.cfs_meaning.specs.Inode.{dispatch, drop_read, event, finish, finish_with, flush_block}
use Rattle.cfs_meaning.specs.Inode.{is_append}
use Rattle.cfs_meaning.specs.Inode.{map_block, mark, next_step, open_gate, part_read, retire}
use Rattle.cfs_meaning.specs.Inode.{run_job, serve, set_size, settle, settle_doubt, skip, tag}
use Rattle.cfs_meaning.specs.Inode.{take_block, trim, trim_at, try_to_close, write_block}
use Rattle.cfs_meaning.specs.Trees.{IsStored, front_in}
use Rattle.cfs_meaning.specs.Ways.{Changes, Halt, Now, Tries, Way, choose, each, end_with}
use Rattle.cfs_meaning.specs.Ways.{give, known, refuse_if, steps, unless_fault, when, ◌>>=◌}
use Rattle.cfs_meaning.proofs.Hoare.{leave-changes, leave-end, leave-event, leave-give}
use Rattle.cfs_meaning.proofs.Hoare.{leave-look, leave-then}
use Rattle.cfs_meaning.proofs.Hoare.{leave-tries, leave-unless, leave-weaker}
use Rattle.cfs_meaning.proofs.ShownOpen.{leave-each, leave-mends}
use Rattle.cfs_meaning.proofs.StoredKept.{KeepsStored, still-stored}
use Rattle.cfs_meaning.proofs.Total.{with_attempt}

-- ---- operations that leave the regions of the tree

abbrev IsAside : Op → Type 0
IsAside (Word r (get at)) = Unit {0}
IsAside (Word r other) = 67 ≤ r
IsAside (Block b op) = Unit {0}

abbrev pub AreAside : List Op → Type 0
AreAside [] = Unit {0}
AreAside (op ∷ ops) = IsAside op × AreAside ops

made-front : (op : Op) (drive : Drive) → IsAside op → front_in (made op drive) ≡ front_in drive
made-front (Word r (get at)) drive aside = ap (take 67) (set-get_or drive.regions r _)
made-front (Word r (put at word)) drive aside = take-set-le 67 drive.regions r _ aside
made-front (Word r persist) drive aside = take-set-le 67 drive.regions r _ aside
made-front (Block b op) drive aside = refl

refused-front : (op : Op) (drive : Drive) → IsAside op →
    front_in (refused op drive) ≡ front_in drive
refused-front (Word r (get at)) drive aside = ap (take 67) (set-get_or drive.regions r _)
refused-front (Word r (put at word)) drive aside = take-set-le 67 drive.regions r _ aside
refused-front (Word r persist) drive aside = take-set-le 67 drive.regions r _ aside
refused-front (Block b op) drive aside = refl

front-leaves : (ops : List Op) → AreAside ops → (drive : Drive) →
    front_in (attempt ops drive).drive ≡ front_in drive
unfolding attempt
front-leaves [] aside drive = refl
front-leaves (op ∷ ops) aside drive =
    by-test (is_allowed op drive) (λ d. front-leaves ops aside.1 d)
  where
    by-test : (allowed : Bool) →
        ((d : Drive) → front_in (attempt ops d).drive ≡ front_in d) →
        front_in (if allowed then attempt ops (made op (noted op true drive))
        else record { whole = false; drive = refused op (noted op false drive) }).drive
        ≡ front_in drive
    by-test true rest =
        rest (made op (noted op true drive)) ∙ made-front op (noted op true drive) aside.0
    by-test false rest = refused-front op (noted op false drive) aside.0

word-aside : (r : ℕ) (op : WordOp) → 67 ≤ r → IsAside (Word r op)
word-aside r (get at) high = tt
word-aside r (put at word) high = high
word-aside r persist high = high

words-aside : (r : ℕ) (ops : List WordOp) → 67 ≤ r → AreAside (map (Word r) ops)
words-aside r [] high = tt
words-aside r (op ∷ ops) high = (word-aside r op high, words-aside r ops high)

pub region-aside : (r : ℕ) (ops : List WordOp) → 67 ≤ r → AreAside (on_region r ops)
region-aside r ops high = words-aside r (reverse ops) high

blocks-aside : (b : ℕ) (ops : List BlockOp) → AreAside (map (Block b) ops)
blocks-aside b [] = tt
blocks-aside b (op ∷ ops) = (tt, blocks-aside b ops)

pub block-aside : (b : ℕ) (ops : List BlockOp) → AreAside (on_block b ops)
block-aside b ops = blocks-aside b (reverse ops)

both-aside : (one other : List Op) → AreAside one → AreAside other → AreAside (one ++ other)
both-aside [] other aside more = more
both-aside (op ∷ one) other aside more = (aside.0, both-aside one other aside.1 more)

all-aside : {A : Type 0} (f : A → List Op) (xs : List A) → ((x : A) → AreAside (f x)) →
    AreAside (flat_map f xs)
all-aside f [] aside = tt
all-aside f (x ∷ xs) aside = both-aside (f x) (flat_map f xs) (aside x) (all-aside f xs aside)

-- the head of what holds slots
head-aside : (h : Held) (ops : List WordOp) → AreAside (on_region (head_of h) ops)
head-aside h ops = region-aside (head_of h) ops (omega arith)

pub slot-aside : (q s : ℕ) (ops : List WordOp) → AreAside (on_region (slot q s) ops)
slot-aside q s ops = region-aside (slot q s) ops (omega arith)

pub staged-aside : (ino : ℕ) (request : Request) (grant queue : ℕ) (slots : List ℕ) →
    AreAside (staged ino request grant queue slots)
staged-aside ino request grant queue [] = tt
staged-aside ino request grant queue (head ∷ tails) =
    by-length (nat_lt 4096 (length (staged_payload request)))
  where
    by-length : (long : Bool) → AreAside (staged_in long ino request grant queue head tails)
    by-length false = slot-aside queue head (stage_ops ino request grant)
    by-length true =
        both-aside (tails_staged ino grant queue (staged_payload request) tails)
        (on_region (slot queue head) (head_ops ino request grant tails))
        (all-aside
        (λ (t : ℕ × ℕ). on_region (slot queue t.1)
        (part_ops ino (part_of (staged_payload request) t.0) grant)) (enumerate_from 1 tails)
        (λ t. slot-aside queue t.1 (part_ops ino (part_of (staged_payload request) t.0) grant)))
        (slot-aside queue head (head_ops ino request grant tails))

gets-aside : (reads : List SlotRead) →
    AreAside (map (λ (read : SlotRead). Word read.device (get read.at)) reads)
gets-aside [] = tt
gets-aside (read ∷ reads) = (tt, gets-aside reads)

part-aside : (devices payload : List ℕ) (s : Span) (k : ℕ) →
    AreAside (part_read devices payload s k)
part-aside devices [] s k = tt
part-aside devices (byte ∷ bytes) s k =
    gets-aside (reverse (payload_reads devices (start_in s k - start_of s)
    (end_in s k - start_in s k)))

held-aside : (blocks : List ℕ) → AreAside (map (λ b. Block b get_bytes) blocks)
held-aside [] = tt
held-aside (b ∷ blocks) = (tt, held-aside blocks)

-- ---- ways of joining parts

pub s-look : {A : Type 0} {next : World → Way A} → ((x : World) → KeepsStored (next x)) →
    KeepsStored (Now >>= next)
s-look more =
    leave-look (λ x.
    leave-weaker {P = IsStored} (λ w holds. holds.1) (λ a w q. q) (λ w e. e) (more x))

pub s-then : {A B : Type 0} {first : Way A} {next : A → Way B} → KeepsStored first →
    ((a : A) → KeepsStored (next a)) → KeepsStored (first >>= next)
s-then one more = leave-then one more

pub s-give : {A : Type 0} {a : A} → KeepsStored (give a)
s-give = leave-give (λ w stored. stored)

pub s-end : {A : Type 0} {halt : Halt} → KeepsStored (end_with {A = A} halt)
s-end = leave-end (λ w stored. stored)

pub s-tries : {ops : List Op} → AreAside ops → KeepsStored (Tries ops)
s-tries {ops} aside =
    leave-tries (λ w stored.
    still-stored w (with_attempt ops w) refl (front-leaves ops aside w.drive) stored)

pub s-unless : (kept : Bool) → KeepsStored (unless_fault kept)
s-unless kept = leave-unless kept (λ w stored. stored) (λ w stored. stored)

pub s-steps : {ops : List Op} → AreAside ops → KeepsStored (steps ops)
s-steps aside = s-then (s-tries aside) s-unless

pub s-event : {ino : ℕ} {e : Event} → KeepsStored (event ino e)
s-event = leave-event (λ w stored may_be. still-stored w _ refl refl stored)

pub s-when : (test : Bool) {way : Way (Unit {0})} → KeepsStored way → KeepsStored (when test way)
s-when true one = one
s-when false one = s-give

pub s-choose : {A : Type 0} (test : Bool) {one other : Way A} → KeepsStored one →
    KeepsStored other → KeepsStored (choose test one other)
s-choose true one other = one
s-choose false one other = other

pub s-refuse : (test : Bool) (answer : Printed) → KeepsStored (refuse_if test answer)
s-refuse true answer = s-end
s-refuse false answer = s-give

pub s-known : {A : Type 0} (option : Option A) (answer : Printed) →
    KeepsStored (known option answer)
s-known None answer = s-end
s-known (Some a) answer = s-give

pub s-each : {A : Type 0} (items : List A) {way : A → Way (Unit {0})} →
    ((a : A) → KeepsStored (way a)) → KeepsStored (each items way)
s-each items {way} one = leave-each items way one

-- ---- a file

s-close : (ino gate : ℕ) → KeepsStored (try_to_close ino gate)
s-close ino gate =
    s-look (λ w. s-tries (head-aside (held_at (file_in w ino) gate) (set_ops 0 0)))

s-doubt : (ino : ℕ) (doubt : Option Doubt) → KeepsStored (settle_doubt ino doubt)
s-doubt ino None = s-give
s-doubt ino (Some doubt) =
    s-then (s-close ino doubt.entry.place) (λ closed.
    s-then (s-unless closed) (λ u.
    s-then s-event (λ v. leave-changes (λ w stored. still-stored w _ refl refl stored))))

pub s-settle : (ino : ℕ) → KeepsStored (settle ino)
s-settle ino = s-look (λ w. s-doubt ino _)

s-map : (ino k b : ℕ) → KeepsStored (Changes (map_block ino k b))
s-map ino k b = leave-changes (λ w stored. by-test w stored _)
  where
    by-test : (w : World) → IsStored w → (test : Bool) →
        IsStored (if test then take_block ino k b w else w)
    by-test w stored true = still-stored w (take_block ino k b w) refl refl stored
    by-test w stored false = stored

s-tag : (ino k : ℕ) → KeepsStored (tag ino k)
s-tag ino k =
    s-look (λ w.
    s-then (s-map ino k _) (λ u.
    s-then (s-tries (block-aside (unwrap_or (block_of (file_in w ino) k) (get_or w.free 0 0))
    (retag_ops (tag_of ino k)))) (λ kept.
    s-then s-event (λ v. s-unless kept))))

s-gate : (ino : ℕ) (entry : Entry) (grant : ℕ) (h : Held) →
    KeepsStored (open_gate ino entry grant h)
s-gate ino entry grant h =
    s-then (s-tries (head-aside h (set_ops 0 entry.place))) (λ kept.
    s-then s-event (λ u.
    s-then (leave-changes (λ w stored. still-stored w _ refl refl stored)) (λ v. s-unless kept)))

s-mark : (ino by place : ℕ) → KeepsStored (mark ino by place)
s-mark ino by place =
    s-look (λ w.
    s-then (s-tries (head-aside (held_at (file_in w ino) place) (set_ops 1 1))) (λ kept. s-event))

pub s-admit : (d : Descriptor) (c line : ℕ) (request : Request) (slots : List ℕ) →
    KeepsStored (admit d c line request slots)
s-admit d c line request slots =
    s-then (s-settle d.grant.ino) (λ u.
    s-look (λ w.
    s-then (s-when (is_append request)
    (s-steps (slot-aside d.grant.queue (get_or slots 0 0)
    (set_ops 3 (length (file (core_in w d.grant.ino))))))) (λ u.
    s-then (s-each _ (s-tag d.grant.ino)) (λ u.
    s-then (s-gate d.grant.ino _ _ _) (λ u.
    s-look (λ behind.
    s-then (s-each _ (s-mark d.grant.ino _)) (λ u. s-give)))))))

pub s-dispatch : (ino place : ℕ) → KeepsStored (dispatch ino place)
s-dispatch ino place =
    s-then s-event (λ u. leave-changes (λ w stored. still-stored w _ refl refl stored))

s-write : (ino place k : ℕ) → KeepsStored (write_block ino place k)
s-write ino place k =
    s-look (λ w.
    s-then (s-steps (part-aside (devices_of (held_at (file_in w ino) place))
    (payload_at (core_in w ino).log place) (track (core_in w ino).tracks place).span k)) (λ u.
    s-then (s-tries (tt, tt)) (λ whole.
    s-look (λ behind. s-then s-event (λ v. s-unless whole)))))

s-flush : (ino place k : ℕ) → KeepsStored (flush_block ino place k)
s-flush ino place k =
    s-look (λ w.
    s-then (s-tries (tt, tt)) (λ kept. s-then s-event (λ u. s-unless kept)))

s-next : (ino place : ℕ) (one other : Option Lease) → KeepsStored (next_step ino place one other)
s-next ino place (Some lease) other = s-write ino place lease.block
s-next ino place None (Some lease) = s-flush ino place lease.block
s-next ino place None None = s-give

pub s-apply : (ino place : ℕ) → KeepsStored (apply ino place)
s-apply ino place = s-look (λ w. s-next ino place _ _)

s-back : (ino place : ℕ) (size : SizeEnd) → KeepsStored (back ino place size)
s-back ino place size = s-look (λ w. s-event)

s-back-unless : (kept : Bool) (ino place : ℕ) (size : SizeEnd) →
    KeepsStored (back_unless kept ino place size)
s-back-unless true ino place size = s-give
s-back-unless false ino place size = s-then (s-back ino place size) (λ u. s-end)

s-size : (ino place rec size : ℕ) → KeepsStored (set_size ino place rec size)
s-size ino place rec size =
    s-then (s-tries (omega arith, tt)) (λ written.
    s-then (s-back-unless written ino place _) (λ u.
    s-then (s-tries (omega arith, tt)) (λ kept. s-back-unless kept ino place _)))

s-retired : (closed : Bool) (ino place : ℕ) → KeepsStored (close_or_apply closed ino place)
s-retired true ino place =
    s-then s-event (λ u. leave-changes (λ w stored. still-stored w _ refl refl stored))
s-retired false ino place = s-then s-event (λ u. s-end)

s-retire : (ino place : ℕ) → KeepsStored (retire ino place)
s-retire ino place =
    s-look (λ w.
    s-then (s-when _ (s-size ino place _ _)) (λ u.
    s-then (s-close ino place) (λ closed. s-retired closed ino place)))

s-finish-with : (more : Bool) (ino place : ℕ) → KeepsStored (finish_with more ino place)
s-finish-with true ino place = s-then s-event (λ u. s-give)
s-finish-with false ino place = s-then (s-retire ino place) (λ u. s-give)

pub s-finish : (ino place : ℕ) → KeepsStored (finish ino place)
s-finish ino place = s-look (λ w. s-finish-with _ ino place)

pub s-job : (ino place : ℕ) → KeepsStored (run_job ino place)
s-job ino place =
    s-then (s-dispatch ino place) (λ u.
    s-look (λ w.
    s-then (leave-mends (s-each _ (s-apply ino)) (s-back ino place _) (λ v stored. stored)) (λ u.
    s-finish ino place)))

pub s-skip : (ino place : ℕ) → KeepsStored (skip ino place)
s-skip ino place =
    s-then (s-close ino place) (λ closed.
    s-then (s-unless closed) (λ u.
    s-then s-event (λ v. leave-changes (λ w stored. still-stored w _ refl refl stored))))

s-trim-at : (ino : ℕ) (k : Option ℕ) → KeepsStored (trim_at ino k)
s-trim-at ino None = s-give
s-trim-at ino (Some k) =
    s-look (λ w.
    s-then (s-tries (block-aside (unwrap_or (block_of (file_in w ino) k) 0) (retag_ops 0))) (λ kept.
    s-then s-event (λ u.
    s-then (s-unless kept) (λ u.
    s-then (leave-changes (λ v stored. still-stored v _ refl refl stored)) (λ u. s-give)))))

pub s-trim : (ino : ℕ) → KeepsStored (trim ino)
s-trim ino = s-look (λ w. s-trim-at ino _)

-- ---- reads

pub s-read : (d : Descriptor) (c line : ℕ) (request : Request) →
    KeepsStored (admit_read d c line request)
s-read d c line request =
    s-look (λ w.
    s-then s-event (λ u.
    s-then (leave-changes (λ v stored. still-stored v _ refl refl stored)) (λ u. s-give)))

pub s-serve : (ino place : ℕ) → KeepsStored (serve ino place)
s-serve ino place =
    s-look (λ w.
    s-then (s-steps (all-aside
    (λ k. map (λ b. Block b get_bytes) (option_to_list (block_of (file_in w ino) k)))
    (blocks_needed (track (core_in w ino).tracks place).span)
    (λ k. held-aside (option_to_list (block_of (file_in w ino) k))))) (λ u.
    s-then s-event (λ v. s-give)))

pub s-drop : (ino place : ℕ) → KeepsStored (drop_read ino place)
s-drop ino place = s-event
