-- Lines on files leave the journal and the checkpoint as they stand for the tree.
use Rattle.std.proofs.Common.{◌≡◌, ℕ, ◌+◌, Bool, true, false, Option, Some, None, List, [], ◌∷◌, refl}
use Rattle.std.proofs.Common.{length, take, sym, ap, ◌∙◌, subst, if◌then◌else◌}
use Rattle.std.specs.Prelude.{Result, Ok, Err}
use Rattle.cfs_file.specs.declared.request.Request.{Request}
use Rattle.cfs_block.specs.BlockOps.{zero_ops}
use Rattle.cfs_grants.specs.Grants.{grant_at}
use Rattle.cfs_slot.specs.Staging.{slots_for, staged_payload}
use Rattle.cfs_pmem.specs.declared.trace.Asked.TheVariants.{Stopped}
use Rattle.cfs_print.specs.declared.printed.Printed.{Printed}
use Rattle.cfs_script.specs.declared.form.Form.{Form}
use Rattle.cfs_script.specs.declared.form.Form.TheVariants as forms
use Rattle.cfs_words.specs.declared.device.Device.{Device}
use Rattle.cfs_words.specs.declared.seek.Seek.{Seek}
use Rattle.cfs_requests.specs.Steps.{NameAnswer}
use Rattle.cfs_meaning.specs.NameSteps.{Order, closing}
use Rattle.cfs_meaning.specs.World.{Descriptor, Down, Failed, Phase, Up, World, core_in}
use Rattle.cfs_meaning.specs.World.{descriptor_in, file_in, queue_in, with_descriptor, with_file}
use Rattle.cfs_meaning.specs.Inode.{Absent, Behind, Ready, Verdict, serve_verdict, verdict}
use Rattle.cfs_meaning.specs.Inode.{with_passed}
use Rattle.cfs_meaning.specs.Names.{ask, dying, free_record, log_step, purge_all, step_in}
use Rattle.cfs_meaning.specs.Files.{Defers, Helps, admit_write, append, at_position, clear_way}
use Rattle.cfs_meaning.specs.Files.{close, collect, defers, fails, fails_first, faults, find_room}
use Rattle.cfs_meaning.specs.Files.{ftruncate, has_no_power, help_lowest, help_some, helps_first}
use Rattle.cfs_meaning.specs.Files.{in_the_way, is_behind, is_out_itself, lseek}
use Rattle.cfs_meaning.specs.Files.{make_room, move_by, move_to, moved_by, opened, opened_to_read}
use Rattle.cfs_meaning.specs.Files.{opened_to_write, pwrite, read_or_sync, room_or_full}
use Rattle.cfs_meaning.specs.Files.{say_served, serve_helped, serve_posted, serves, skips}
use Rattle.cfs_meaning.specs.Files.{stage_and_admit, works, works_on, write}
use Rattle.cfs_meaning.specs.Workers.{Item, apply_line, chosen, dispatch_by, dispatch_line, do_item}
use Rattle.cfs_meaning.specs.Workers.{drain, finish_line, once_more, pass_over, pass_over_all}
use Rattle.cfs_meaning.specs.Workers.{say_turn, settle_line, skip_line, take_turn, there, trim_each}
use Rattle.cfs_meaning.specs.Workers.{trim_line, turn, work}
use Rattle.cfs_meaning.specs.Play.{does, plan, steps_so, stopped, up, while_up}
use Rattle.cfs_meaning.specs.Trees.{IsStored, IsTreeStored, LinesKeepStored, keeps_tree}
use Rattle.cfs_meaning.specs.Ways.{Changes, Fault, Halt, Now, Waits, Way, now}
use Rattle.cfs_meaning.proofs.Hoare.{leave-changes, leave-give, leave-known, leave-look}
use Rattle.cfs_meaning.proofs.Hoare.{leave-then}
use Rattle.cfs_meaning.proofs.ShownCloses.{closed-tree}
use Rattle.cfs_meaning.proofs.ShownOpen.{leave-mends, leave-repeats, leave-shrugs}
use Rattle.cfs_meaning.proofs.StoredKept.{KeepsStored, purge-stored, still-stored}
use Rattle.cfs_meaning.proofs.StoredParts.{block-aside, s-admit, s-apply, s-choose}
use Rattle.cfs_meaning.proofs.StoredParts.{s-dispatch, s-drop, s-each, s-end, s-finish}
use Rattle.cfs_meaning.proofs.StoredParts.{s-give, s-job, s-known, s-look, s-read, s-refuse}
use Rattle.cfs_meaning.proofs.StoredParts.{s-serve, s-settle, s-skip, s-steps, s-then, s-trim}
use Rattle.cfs_meaning.proofs.StoredParts.{s-when, staged-aside}
use Rattle.cfs_meaning.proofs.Total.{IfEnds}

-- ---- helping

helped : (ino place : ℕ) (old : World) (end : Result (Unit {0}) Halt) (new : World) →
    IsStored old → Helps ino place old end new → IfEnds (λ u. IsStored) IsStored end new
helped ino place old end new stored (skips noop way) = (s-skip ino place).by old end new stored way
helped ino place old end new stored (is_out_itself out) = stored
helped ino place old end new stored (is_behind behind stuck) = stored
helped ino place old end new stored (helps_first {q = q} {mid = mid} behind stuck one rest) =
    helped ino place mid end new (helped ino q old (Ok tt) mid stored one) rest
helped ino place old end new stored (fails_first {q = q} {halt = halt} behind stuck one) =
    helped ino q old (Err halt) new stored one
helped ino place old end new stored (works ready way) =
    (s-job ino place).by old (Ok false) new stored way
helped ino place old end new stored (works_on {mid = mid} ready way rest) =
    helped ino place mid end new ((s-job ino place).by old (Ok true) mid stored way) rest
helped ino place old end new stored (fails {halt = halt} ready way) =
    (s-job ino place).by old (Err halt) new stored way

s-help : (ino place : ℕ) → KeepsStored (Helps ino place)
s-help ino place = record { by = helped ino place }

-- ---- slots

s-collect : (q : ℕ) → KeepsStored (collect q)
s-collect q = leave-changes (λ w stored. still-stored w _ refl refl stored)

s-some : (ino : ℕ) (place : Option ℕ) → KeepsStored (help_some ino place)
s-some ino None = s-give
s-some ino (Some place) = s-then (s-help ino place) (λ u. s-give)

s-lowest : (d : Descriptor) → KeepsStored (help_lowest d)
s-lowest d = s-look (λ w. s-some d.grant.ino _)

s-make-room : (d : Descriptor) (count : ℕ) → KeepsStored (make_room d count)
s-make-room d count =
    s-then (s-collect d.grant.queue) (λ u.
    s-look (λ w.
    s-choose _ s-give
    (s-choose _ (s-then (s-settle d.grant.ino) (λ u. s-give)) (s-lowest d))))

s-room : (d : Descriptor) (count : ℕ) → KeepsStored (find_room d count)
s-room d count = s-then (leave-repeats (s-make-room d count)) (λ u. s-give)

s-full : (d : Descriptor) (count : ℕ) → KeepsStored (room_or_full d count)
s-full d count = s-then (s-collect d.grant.queue) (λ u. s-look (λ w. s-refuse _ _))

-- ---- descriptors

s-opened : (c fd : ℕ) → KeepsStored (opened c fd)
s-opened c fd = s-look (λ w. s-known _ _)

s-to-read : (c fd : ℕ) → KeepsStored (opened_to_read c fd)
s-to-read c fd = s-then (s-opened c fd) (λ d. s-then (s-refuse _ _) (λ u. s-give))

s-to-write : (c fd : ℕ) → KeepsStored (opened_to_write c fd)
s-to-write c fd = s-then (s-opened c fd) (λ d. s-then (s-refuse _ _) (λ u. s-give))

moved : (option : Option Descriptor) (c to : ℕ) (w : World) → IsStored w →
    IsStored (moved_by option c to w)
moved None c to w stored = stored
moved (Some d) c to w stored = unless-off (has_no_power w.drive)
  where
    unless-off : (off : Bool) →
        IsStored (if off then w else with_descriptor c (at_position to d) w)
    unless-off true = stored
    unless-off false = still-stored w (with_descriptor c (at_position to d) w) refl refl stored

s-move : (c fd : ℕ) (to : World → ℕ) → KeepsStored (Changes (λ w. move_to c fd (to w) w))
s-move c fd to = leave-changes (λ w stored. moved (descriptor_in w c fd) c (to w) w stored)

-- ---- writes

s-stage : (d : Descriptor) (c line : ℕ) (request : Request) →
    KeepsStored (stage_and_admit d c line request)
s-stage d c line request =
    s-look (λ w.
    s-then (s-steps (staged-aside d.grant.ino request d.grant.number d.grant.queue
    (take (slots_for (length (staged_payload request))) (queue_in w d.grant.queue).free))) (λ u.
    s-look (λ here.
    s-then (s-refuse _ _) (λ u.
    s-then (s-refuse _ _) (λ u.
    s-then (s-each _ (λ b. s-steps (block-aside b zero_ops))) (λ u.
    s-admit d c line request _))))))

s-write-in : (d : Descriptor) (c line : ℕ) (request : Request) (moves : Bool) →
    KeepsStored (admit_write d c line request moves)
s-write-in d c line request moves =
    s-then (s-stage d c line request) (λ place.
    s-then (s-when moves (s-move c d.fd _)) (λ u.
    s-look (λ w. s-give)))

s-pwrite : (d : Descriptor) (c line offset : ℕ) (bytes : List ℕ)
    (finds : Descriptor → ℕ → Way (Unit {0})) (moves : Bool) →
    ((count : ℕ) → KeepsStored (finds d count)) →
    KeepsStored (pwrite d c line offset bytes finds moves)
s-pwrite d c line offset bytes finds moves found =
    s-then (s-refuse _ _) (λ u.
    s-then (s-refuse _ _) (λ u.
    s-then (found _) (λ u. s-write-in d c line _ moves)))

s-append : (d : Descriptor) (c line : ℕ) (bytes : List ℕ) → KeepsStored (append d c line bytes)
s-append d c line bytes =
    s-then (s-refuse _ _) (λ u.
    s-then (s-room d _) (λ u. s-write-in d c line _ true))

s-write-line : (d : Descriptor) (c line : ℕ) (bytes : List ℕ) →
    KeepsStored (write d c line bytes)
s-write-line d c line bytes =
    s-choose d.appends (s-append d c line bytes)
    (s-pwrite d c line d.position bytes find_room true (s-room d))

s-truncate : (d : Descriptor) (c line n : ℕ) → KeepsStored (ftruncate d c line n)
s-truncate d c line n =
    s-then (s-refuse _ _) (λ u.
    s-then (s-room d 1) (λ u.
    s-then (s-stage d c line _) (λ place. s-give)))

-- ---- reads

s-way : (ino place : ℕ) (v : Verdict) (w : World) → KeepsStored (in_the_way ino place v w)
s-way ino place (Behind q) w =
    s-choose _ s-end (s-then (s-help ino q) (λ u. s-give))
s-way ino place Absent w = s-give
s-way ino place Ready w = s-give

s-clear : (ino place : ℕ) → KeepsStored (clear_way ino place)
s-clear ino place = s-look (λ w. s-way ino place (serve_verdict (core_in w ino) place) w)

s-served : (ino place : ℕ) → KeepsStored (serve_helped ino place)
s-served ino place =
    leave-mends (s-then (leave-repeats (s-clear ino place)) (λ u. s-serve ino place))
    (s-drop ino place) (λ w stored. stored)

s-say : (ino place : ℕ) (bytes : List ℕ) → KeepsStored (say_served ino place bytes)
s-say ino place bytes = s-look (λ w. s-give)

moved-by : (c : ℕ) (d : Descriptor) (moves : Bool) (place : ℕ) (w : World) → IsStored w →
    IsStored (move_by c d moves place w)
moved-by c d true place w stored = moved (descriptor_in w c d.fd) c _ w stored
moved-by c d false place w stored = stored

deferred : {ino place : ℕ} {way : Way (List ℕ)} {move : World → World} → KeepsStored way →
    ((w : World) → IsStored w → IsStored (move w)) → (old : World)
    (end : Result (List ℕ) Halt) (new : World) → IsStored old →
    Defers ino place way move old end new → IfEnds (λ bytes. IsStored) IsStored end new
deferred one move old end new stored (serves {new = here} {bytes = bytes} way) =
    move here (one.by old (Ok bytes) here stored way)
deferred one move old end new stored (defers {new = here} {q = q} way) =
    move here (one.by old (Err (Waits q)) here stored way)
deferred one move old end new stored (faults way) = one.by old (Err Fault) new stored way

s-read-or-sync : (d : Descriptor) (c line : ℕ) (request : Request) (moves : Bool) →
    KeepsStored (read_or_sync d c line request moves)
s-read-or-sync d c line request moves =
    s-then (s-read d c line request) (λ place.
    s-then (record {
      by = deferred (s-served d.grant.ino place) (moved-by c d moves place);
    }) (λ bytes. s-say d.grant.ino place bytes))

s-posted : (d : Descriptor) (place : ℕ) → KeepsStored (serve_posted d place)
s-posted d place =
    s-look (λ w.
    s-then (s-refuse _ _) (λ u.
    s-then (s-served d.grant.ino place) (λ bytes. s-say d.grant.ino place bytes)))

s-seek : (d : Descriptor) (c : ℕ) (seek : Seek) → KeepsStored (lseek d c seek)
s-seek d c seek =
    s-then (s-known _ _) (λ to.
    s-then (s-refuse _ _) (λ u.
    s-then (s-move c d.fd (λ w. to)) (λ u. s-give)))

-- ---- a close

logged : (w : World) (c line : ℕ) (d : Descriptor) (step : NameAnswer × Order) →
    step_in w c (closing d.grant) (free_record w) ≡ Some step → IsStored w →
    IsStored (log_step c line (closing d.grant) (free_record w) step w)
logged w c line d step is stored =
    subst (λ t. IsTreeStored t (log_step c line (closing d.grant) (free_record w) step w))
    (sym (closed-tree w.names.now step.1 step.0 c d.grant.queue
    (grant_at w.names.now.grants d.grant.queue) is))
    (record {
      changes = stored.changes;
      count = stored.count;
      journal = stored.journal;
      word = stored.word;
      selector = stored.selector;
      behind = stored.behind;
      distinct = stored.distinct;
      whole = stored.whole;
    })

give-back : (d : Descriptor) (c line : ℕ) → KeepsStored (ask c line (closing d.grant))
give-back d c line =
    leave-look (λ x.
    leave-then {Q = λ step w. (step_in x c (closing d.grant) (free_record x) ≡ Some step)
    × ((w ≡ x) × IsStored w)}
    (leave-known (step_in x c (closing d.grant) (free_record x)) _ (λ w holds. holds.1)) (λ step.
    leave-then {Q = λ u w. (step_in x c (closing d.grant) (free_record x) ≡ Some step)
    × ((w ≡ x) × IsStored w)}
    (leave-give (λ w holds. holds)) (λ u.
    leave-then {Q = λ v. IsStored}
    (leave-changes (λ w holds.
    subst (λ (y : World). IsStored (log_step c line (closing d.grant) (free_record y) step w))
    holds.1.0
    (logged w c line d step
    (ap (λ y. step_in y c (closing d.grant) (free_record y)) holds.1.0 ∙ holds.0)
    holds.1.1))) (λ v. s-give))))

s-purges : KeepsStored purge_all
s-purges = s-look (λ w. s-each (dying w) (λ ino. leave-shrugs (purge-stored ino)))

s-close-fd : (d : Descriptor) (c line : ℕ) → KeepsStored (close d c line)
s-close-fd d c line =
    s-look (λ w.
    s-then (s-each _ (s-drop d.grant.ino)) (λ u.
    s-then (s-when _ (s-settle d.grant.ino)) (λ u.
    s-then (leave-repeats (s-lowest d)) (λ u.
    s-then (s-collect d.grant.queue) (λ u.
    s-then (leave-changes (λ v stored. still-stored v _ refl refl stored)) (λ u.
    s-then (s-then (give-back d c line) (λ a. s-purges)) (λ u.
    s-look (λ v. s-give))))))))

-- ---- workers

s-there : (ino : ℕ) → KeepsStored (there ino)
s-there ino = s-look (λ w. s-refuse _ _)

s-dispatch-by : (ino place : ℕ) (v : Verdict) → KeepsStored (dispatch_by ino place v)
s-dispatch-by ino place Absent = s-end
s-dispatch-by ino place (Behind q) = s-end
s-dispatch-by ino place Ready =
    s-then (s-dispatch ino place) (λ u. s-look (λ w. s-give))

s-now : KeepsStored Now
s-now = record { by = here }
  where
    here : (old : World) (end : Result World Halt) (new : World) → IsStored old →
        Now old end new → IfEnds (λ x. IsStored) IsStored end new
    here old end new stored now = stored

s-dispatch-line : (ino place : ℕ) → KeepsStored (dispatch_line ino place)
s-dispatch-line ino place =
    s-then (s-then (s-there ino) (λ u. s-now)) (λ x.
    s-dispatch-by ino place (verdict (core_in x ino) place))

s-apply-line : (ino place : ℕ) → KeepsStored (apply_line ino place)
s-apply-line ino place =
    s-look (λ w.
    s-then (s-refuse _ _) (λ u.
    s-then (s-apply ino place) (λ u. s-look (λ v. s-give))))

s-finish-line : (ino place : ℕ) → KeepsStored (finish_line ino place)
s-finish-line ino place =
    s-look (λ w.
    s-then (s-refuse _ _) (λ u.
    s-then (s-refuse _ _) (λ u.
    s-then (s-finish ino place) (λ more. s-give))))

s-skip-line : (ino place : ℕ) → KeepsStored (skip_line ino place)
s-skip-line ino place =
    s-then (s-there ino) (λ u.
    s-look (λ w.
    s-then (s-refuse _ _) (λ u.
    s-then (s-skip ino place) (λ u. s-give))))

s-trim-line : (ino : ℕ) → KeepsStored (trim_line ino)
s-trim-line ino =
    s-then (s-then (s-there ino) (λ u. leave-repeats (s-trim ino))) (λ n. s-give)

s-settle-line : (ino : ℕ) → KeepsStored (settle_line ino)
s-settle-line ino =
    s-then (s-there ino) (λ u.
    s-look (λ w.
    s-then (s-refuse _ _) (λ u.
    s-then (s-settle ino) (λ u. s-give))))

passed : (x y : Item) (w : World) → IsStored w → IsStored (pass_over x y w)
passed x y w stored = by-test _
  where
    by-test : (same : Bool) → IsStored (if same then w
        else with_file (with_passed y.place (once_more ((file_in w y.ino).passed y.place))
        (file_in w y.ino)) w)
    by-test true = stored
    by-test false = still-stored w _ refl refl stored

all-passed : (x : Item) (ys : List Item) (w : World) → IsStored w → IsStored (pass_over_all x ys w)
all-passed x [] w stored = stored
all-passed x (y ∷ ys) w stored = all-passed x ys (pass_over x y w) (passed x y w stored)

s-item : (x : Item) → KeepsStored (do_item x)
s-item x =
    s-choose x.noop (s-skip x.ino x.place) (s-then (s-job x.ino x.place) (λ more. s-give))

s-take : (x : Option Item) → KeepsStored (take_turn x)
s-take None = s-give
s-take (Some x) =
    s-then (leave-changes (λ w stored. all-passed x (work w) w stored)) (λ u.
    s-then (s-item x) (λ u. s-give))

s-turn : KeepsStored turn
s-turn = s-look (λ w. s-take (chosen (work w)))

s-say-turn : (x : Option Item) → KeepsStored (say_turn x)
s-say-turn None = s-end
s-say-turn (Some x) = s-give

s-trims : (inos : List ℕ) (freed : ℕ) → KeepsStored (trim_each inos freed)
s-trims [] freed = s-give
s-trims (ino ∷ rest) freed = s-then (leave-repeats (s-trim ino)) (λ n. s-trims rest (freed + n))

s-drain : KeepsStored drain
s-drain =
    s-then (leave-repeats (s-then s-turn (λ x. s-give))) (λ turns.
    s-look (λ w.
    s-then (s-trims _ 0) (λ freed. s-give)))

-- ---- lines

s-phase : (phase : Phase) {way : Way Printed} → KeepsStored way → KeepsStored (while_up phase way)
s-phase Up one = one
s-phase Down one = s-end
s-phase Failed one = s-end

s-up : {way : Way Printed} → KeepsStored way → KeepsStored (up way)
s-up one = s-then (s-look (λ w. s-phase w.phase one)) (λ answer. s-give)

stopped-stored : (n : ℕ) (w : World) → IsStored w →
    IsStored (record w { drive = stopped n w.drive })
stopped-stored n w stored = unless-off (has_no_power w.drive)
  where
    unless-off : (off : Bool) → IsStored (record w {
      drive = if off then w.drive
          else record w.drive { asked = Stopped n ∷ w.drive.asked };
    })
    unless-off true = stored
    unless-off false =
        still-stored w (record w { drive = record w.drive { asked = Stopped n ∷ w.drive.asked } })
        refl refl stored

s-plan : (device : Device) (writing : Bool) (k : ℕ) → KeepsStored (plan device writing k)
s-plan device writing k =
    s-look (λ w.
    s-then (s-known _ _) (λ number.
    s-then (leave-changes (λ v stored. still-stored v _ refl refl stored)) (λ u. s-give)))

tree-line : (line : ℕ) (form : Form) → keeps_tree form ≡ true → KeepsStored (does line form)
tree-line line (forms.Caller c uid gid) keeps =
    s-then (leave-changes (λ w stored. still-stored w _ refl refl stored)) (λ u. s-give)
tree-line line (forms.Read c fd n) keeps =
    s-up (s-then (s-to-read c fd) (λ d. s-read-or-sync d c line _ true))
tree-line line (forms.Write c fd bytes) keeps =
    s-up (s-then (s-to-write c fd) (λ d. s-write-line d c line _))
tree-line line (forms.Pread c fd offset n) keeps =
    s-up (s-then (s-to-read c fd) (λ d. s-read-or-sync d c line _ false))
tree-line line (forms.Pwrite c fd offset bytes) keeps =
    s-up (s-then (s-to-write c fd) (λ d.
    s-pwrite d c line offset _ find_room false (s-room d)))
tree-line line (forms.TryPwrite c fd offset bytes) keeps =
    s-up (s-then (s-to-write c fd) (λ d.
    s-pwrite d c line offset _ room_or_full false (s-full d)))
tree-line line (forms.Lseek c fd seek) keeps =
    s-up (s-then (s-opened c fd) (λ d. s-seek d c seek))
tree-line line (forms.Ftruncate c fd n) keeps =
    s-up (s-then (s-to-write c fd) (λ d. s-truncate d c line n))
tree-line line (forms.Close c fd) keeps =
    s-up (s-then (s-opened c fd) (λ d. s-close-fd d c line))
tree-line line (forms.Fsync c fd) keeps =
    s-up (s-then (s-opened c fd) (λ d. s-read-or-sync d c line _ false))
tree-line line (forms.Post c fd offset n) keeps =
    s-up (s-then (s-to-read c fd) (λ d. s-then (s-read d c line _) (λ place. s-give)))
tree-line line (forms.Serve c fd place) keeps =
    s-up (s-then (s-opened c fd) (λ d. s-posted d place))
tree-line line (forms.Dispatch ino place) keeps = s-up (s-dispatch-line ino place)
tree-line line (forms.Apply ino place) keeps = s-up (s-apply-line ino place)
tree-line line (forms.Finish ino place) keeps = s-up (s-finish-line ino place)
tree-line line (forms.Skip ino place) keeps = s-up (s-skip-line ino place)
tree-line line (forms.Trim ino) keeps = s-up (s-trim-line ino)
tree-line line (forms.Settle ino) keeps = s-up (s-settle-line ino)
tree-line line forms.Turn keeps = s-up (s-then s-turn s-say-turn)
tree-line line forms.Drain keeps = s-up s-drain
tree-line line (forms.Queue c fd) keeps =
    s-up (s-then (s-opened c fd) (λ d. s-look (λ w. s-give)))
tree-line line (forms.Stop n) keeps =
    s-then (s-then (leave-changes (λ w stored. stopped-stored n w stored)) (λ u. s-give))
    (λ answer. s-give)
tree-line line (forms.Fail device k) keeps = s-then (s-plan device true k) (λ answer. s-give)
tree-line line (forms.FailRead device k) keeps = s-then (s-plan device false k) (λ answer. s-give)
tree-line line form keeps = absurd (cc)

stored-ends : (end : Result (Option Printed) Halt) (world : World) →
    IfEnds (λ answer. IsStored) IsStored end world → IsStored world
stored-ends (Ok answer) world holds = holds
stored-ends (Err halt) world holds = holds

pub lines-keep-stored : LinesKeepStored
lines-keep-stored old new line out keeps stored (steps_so end way) =
    stored-ends end new ((tree-line line.number line.form keeps).by old end new stored way)
