-- Lines that have an answer.
use Rattle.std.proofs.Common.{◌≡◌, ℕ, ◌+◌, Bool, true, false, not, ◌&&◌, Option, Some, None, length}
use Rattle.std.proofs.Common.{refl, sym, ap, ◌∙◌, subst}
use Rattle.std.specs.Prelude.{◌==◌, is_some}
use Rattle.std.proofs.lemmas.Bool.{eq-eqb}
use Rattle.cfs_file.specs.declared.request.Request.{Request}
use Rattle.cfs_core.specs.declared.doubt.Doubt.{Doubt}
use Rattle.cfs_core.specs.declared.event.Event.TheVariants as events
use Rattle.cfs_core.specs.declared.inode_core.Core.{Core}
use Rattle.cfs_core.specs.May.{is_query, may, may_dispatch}
use Rattle.cfs_core.specs.Words.{is_noop, track}
use Rattle.cfs_cred.specs.declared.credential.Credential.{Credential}
use Rattle.cfs_requests.specs.Steps.{makes_directory, moves_node, opens_file, removes_directory}
use Rattle.cfs_requests.specs.Steps.{unlinks_file}
use Rattle.cfs_print.specs.declared.printed.Printed.{Printed}
use Rattle.cfs_script.specs.declared.form.Form.{Form}
use Rattle.cfs_script.specs.declared.form.Form.TheVariants as forms
use Rattle.cfs_words.specs.declared.device.Device.{Device}
use Rattle.cfs_words.specs.declared.seek.Seek.{Seek}
use Rattle.cfs_meaning.specs.World.{Descriptor, Down, Failed, Phase, Up, World, core_in}
use Rattle.cfs_meaning.specs.Inode.{Absent, Behind, Ready, Verdict, admit_read, dispatch, settle}
use Rattle.cfs_meaning.specs.Inode.{settle_doubt, skip, verdict}
use Rattle.cfs_meaning.specs.Files.{list_queue, lseek, opened, opened_to_read, post}
use Rattle.cfs_meaning.specs.Workers.{dispatch_by, dispatch_line, settle_line, skip_line}
use Rattle.cfs_meaning.specs.Mounting.{mount_steps}
use Rattle.cfs_meaning.specs.Answered.{HasRoom, LinesHaveAnswers, helps_none}
use Rattle.cfs_meaning.specs.Play.{by, does, mount, mount_line, plan, printed, steps_so}
use Rattle.cfs_meaning.specs.Ways.{Way}
use Rattle.cfs_meaning.proofs.Keeping.{AreUncrashed}
use Rattle.cfs_meaning.proofs.Quiet.{core-up}
use Rattle.cfs_meaning.proofs.Total.{Total, total-changes, total-each, total-end, total-event}
use Rattle.cfs_meaning.proofs.Total.{total-give, total-look, total-refuse, total-then, total-tries}
use Rattle.cfs_meaning.proofs.Total.{total-unless, total-weaker, total-when}
use Rattle.cfs_meaning.proofs.TotalNames.{Ever, Free, True, free-from, free-steps, total-ask}
use Rattle.cfs_meaning.proofs.TotalNames.{total-ask-purge, total-made, total-named, total-open}
use Rattle.cfs_meaning.proofs.TotalParts.{Sound, any-known, any-refuse, total-any, total-now}
use Rattle.cfs_meaning.proofs.TotalParts.{total-there, total-told, total-up}
use Rattle.cfs_meaning.proofs.TotalTrims.{total-trim-line}
use Rattle.cfs_meaning.proofs.Uncrashed.{mounted-up, runs-up}
use Rattle.cfs_meaning.proofs.Verdicts.{ready-may}

-- what is known of a world where a line begins
abbrev Good : World → Type 0
Good world = HasRoom world × AreUncrashed world.files

-- a request by a caller's credential
total-by : {A : Type 0} {P : World → Type 0} {S : A → World → Type 0} (c : ℕ)
    {way : Credential → Way A} → ((credential : Credential) → Total P S True (way credential)) →
    Total P S True (by c way)
total-by c more = total-any (λ x. more _)

room : {A : Type 0} {S : A → World → Type 0} {way : Way A} → Total HasRoom S True way →
    Total Good S True way
room one = total-weaker (λ w holds. holds.0) (λ a w q. q) (λ w e. e) one

-- ---- descriptors

total-opened : {P : World → Type 0} (c fd : ℕ) → Total P (λ d. P) True (opened c fd)
total-opened {P = P} c fd =
    total-any (λ x. any-known _ _)

total-to-read : {P : World → Type 0} (c fd : ℕ) → Total P (λ d. P) True (opened_to_read c fd)
total-to-read {P = P} c fd =
    total-then {Q = λ d. P} (total-opened c fd) (λ d.
    total-then {Q = λ u. P} (any-refuse _ _) (λ u. total-give (λ w holds. holds)))

total-seek : (d : Descriptor) (c : ℕ) (seek : Seek) → Free (lseek d c seek)
total-seek d c seek =
    total-then {Q = λ to. True} (any-known _ _) (λ to.
    total-then {Q = λ u. True} (any-refuse _ _) (λ u.
    total-then {Q = Ever} (total-changes (λ w holds. tt)) (λ v. total-give (λ w holds. tt))))

total-listed : (d : Descriptor) → Free (list_queue d)
total-listed d = total-any (λ x. total-give (λ w holds. tt))

-- a read or sync may be admitted at the next place
next-may : (core : Core) (ino c line : ℕ) (request : Request) → is_query request ≡ true →
    core.crashed ≡ false → may core (events.AdmitRead (record {
      ino = ino;
      place = length core.log + 1;
      caller = c;
      line = line;
      request = request;
    })) ≡ true
next-may core ino c line request query is =
    ap (λ b. not b && (length core.log + 1 == length core.log + 1 && is_query request)) is
    ∙ ap (λ b. b && is_query request)
    (eq-eqb (length core.log + 1) (length core.log + 1) refl) ∙ query

total-read : (d : Descriptor) (c line : ℕ) (request : Request) → is_query request ≡ true →
    Total Sound Ever True (admit_read d c line request)
total-read d c line request query =
    total-look (λ x.
    total-then {Q = Ever} (total-event
    (λ w holds. subst (λ v. may (core_in v d.grant.ino) (events.AdmitRead (record {
      ino = d.grant.ino;
      place = length (core_in x d.grant.ino).log + 1;
      caller = c;
      line = line;
      request = request;
    })) ≡ true) (sym holds.0)
    (next-may (core_in x d.grant.ino) d.grant.ino c line request query
    (core-up x d.grant.ino (subst Sound holds.0 holds.1))))
    (λ w holds. tt)) (λ u.
    total-then {Q = Ever} (total-changes (λ w holds. tt)) (λ v. total-give (λ w holds. tt))))

total-post : (d : Descriptor) (c line : ℕ) (request : Request) → is_query request ≡ true →
    Total Sound Ever True (post d c line request)
total-post d c line request query =
    total-then {Q = Ever} (total-read d c line request query) (λ place.
    total-give (λ w holds. tt))

-- ---- workers

total-dispatch : (ino place : ℕ) →
    Total (λ w. Sound w × (may_dispatch (core_in w ino) place ≡ true)) Ever True
    (dispatch ino place)
total-dispatch ino place =
    total-then {Q = Ever} (total-event
    (λ w holds.
    ap (λ b. not b && may_dispatch (core_in w ino) place) (core-up w ino holds.0) ∙ holds.1)
    (λ w holds. tt)) (λ u. total-changes (λ w holds. tt))

total-dispatch-by : (ino place : ℕ) (x : World) (v : Verdict) →
    verdict (core_in x ino) place ≡ v →
    Total (λ w. (w ≡ x) × Sound w) Ever True (dispatch_by ino place v)
total-dispatch-by ino place x Absent is = total-end (λ w holds. tt)
total-dispatch-by ino place x (Behind q) is = total-end (λ w holds. tt)
total-dispatch-by ino place x Ready is =
    total-then {Q = Ever}
    (total-weaker
    (λ w holds. (
      holds.1,
      subst (λ v. may_dispatch (core_in v ino) place ≡ true) (sym holds.0)
          (ready-may (core_in x ino) place is),
    ))
    (λ u w q. tt) (λ w e. tt) (total-dispatch ino place)) (λ u.
    total-any (λ y. total-give (λ w holds. tt)))

total-dispatch-line : (ino place : ℕ) → Total Sound Ever True (dispatch_line ino place)
total-dispatch-line ino place =
    total-then {Q = λ x w. (w ≡ x) × Sound w}
    (total-then {Q = λ u. Sound} (total-there ino) (λ u. total-now)) (λ x.
    total-dispatch-by ino place x (verdict (core_in x ino) place) refl)

abbrev Idle : ℕ → ℕ → World → Type 0
Idle ino place world =
    Sound world × (is_noop (track (core_in world ino).tracks place).state ≡ true)

total-skip : (ino place : ℕ) → Total (Idle ino place) Ever True (skip ino place)
total-skip ino place =
    total-then {Q = λ b. Idle ino place} (total-any (λ x. total-tries (λ w holds. holds)))
    (λ closed.
    total-then {Q = λ u. Idle ino place}
    (total-unless closed (λ w holds. holds) (λ w holds. tt)) (λ u.
    total-then {Q = Ever} (total-event
    (λ w holds. ap (λ b. not b && is_noop (track (core_in w ino).tracks place).state)
    (core-up w ino holds.0) ∙ holds.1)
    (λ w holds. tt)) (λ v. total-changes (λ w holds. tt))))

is-noop : (test : Bool) → not test ≡ false → test ≡ true
is-noop true is = refl
is-noop false is = absurd (cc)

total-skip-line : (ino place : ℕ) → Total Sound Ever True (skip_line ino place)
total-skip-line ino place =
    total-then {Q = λ u. Sound} (total-there ino) (λ u.
    total-look (λ x.
    total-then {Q = λ v. Idle ino place}
    (total-weaker {P = λ w. (w ≡ x) × Sound w} (λ w holds. holds)
    (λ v w q. (
      q.1.1,
      is-noop _ (subst
          (λ y. not (is_noop (track (core_in y ino).tracks place).state) ≡ false) (sym q.1.0) q.0),
    ))
    (λ w e. e)
    (total-refuse (not (is_noop (track (core_in x ino).tracks place).state)) _ (λ w holds. tt)))
    (λ v.
    total-then {Q = Ever} (total-skip ino place) (λ t. total-give (λ w holds. tt)))))

abbrev Doubted : ℕ → World → Type 0
Doubted ino world = Sound world × (is_some (core_in world ino).doubt ≡ true)

total-doubt : (ino : ℕ) (doubt : Option Doubt) →
    Total (λ w. Sound w × (is_some (core_in w ino).doubt ≡ is_some doubt)) Ever True
    (settle_doubt ino doubt)
total-doubt ino None = total-give (λ w holds. tt)
total-doubt ino (Some doubt) =
    total-then {Q = λ b. Doubted ino} (total-any (λ x. total-tries (λ w holds. holds)))
    (λ closed.
    total-then {Q = λ u. Doubted ino}
    (total-unless closed (λ w holds. holds) (λ w holds. tt)) (λ u.
    total-then {Q = Ever} (total-event
    (λ w holds. ap (λ b. not b && is_some (core_in w ino).doubt) (core-up w ino holds.0)
    ∙ holds.1)
    (λ w holds. tt)) (λ v. total-changes (λ w holds. tt))))

pub total-settle : (ino : ℕ) → Total Sound Ever True (settle ino)
total-settle ino =
    total-look (λ x.
    total-weaker
    (λ w holds. (holds.1, ap (λ (y : World). is_some (core_in y ino).doubt) holds.0))
    (λ u w q. tt) (λ w e. tt) (total-doubt ino (core_in x ino).doubt))

total-settle-line : (ino : ℕ) → Total Sound Ever True (settle_line ino)
total-settle-line ino =
    total-then {Q = λ u. Sound} (total-there ino) (λ u.
    total-any (λ x.
    total-then {Q = λ v. Sound} (any-refuse _ _) (λ v.
    total-then {Q = Ever} (total-settle ino) (λ t. total-give (λ w holds. tt)))))

-- ---- power and mounts

total-plan : (device : Device) (writing : Bool) (k : ℕ) → Free (plan device writing k)
total-plan device writing k =
    total-any (λ x.
    total-then {Q = λ number. True} (any-known _ _) (λ number.
    total-then {Q = Ever} (total-changes (λ w holds. tt)) (λ u. total-give (λ w holds. tt))))

total-home : Free mount_steps
total-home =
    total-any (λ x.
    total-then {Q = Ever} free-steps (λ u.
    total-then {Q = Ever} free-steps (λ u.
    total-then {Q = Ever} (total-each _ (λ node. total-each _ (λ entry.
    total-any (λ here.
    total-then {Q = Ever} free-steps (λ v.
    total-then {Q = Ever} (total-when _ (λ is. free-steps) (λ is w holds. tt)) (λ t.
    free-steps)))))) (λ u.
    total-then {Q = Ever} free-steps (λ v. free-steps)))))

total-mount : Free mount
total-mount =
    total-any (λ x.
    total-then {Q = Ever} (total-changes (λ w holds. tt)) (λ u.
    total-then {Q = Ever} total-home (λ v.
    total-then {Q = Ever} (total-changes (λ w holds. tt)) (λ t. total-give (λ w holds. tt)))))

total-mount-line : (phase : Phase) → Free (mount_line phase)
total-mount-line Up = total-end (λ w holds. tt)
total-mount-line Down = total-mount
total-mount-line Failed = total-end (λ w holds. tt)

-- ---- lines

sound : {way : Way Printed} → Total Sound Ever True way → Total Good Ever True way
sound one = total-weaker (λ w holds. holds.1) (λ a w q. tt) (λ w e. tt) one

total-line : (line : ℕ) (form : Form) → helps_none form ≡ true →
    Total Good Ever True (does line form)
total-line line (forms.Caller c uid gid) none =
    total-then {Q = Ever} (total-changes (λ w holds. tt)) (λ u. total-give (λ w holds. tt))
total-line line (forms.Open c path flags mode) none =
    total-up (room (total-then (total-by c (λ credential.
    total-ask c line (opens_file credential path flags mode))) (λ reply.
    total-open c flags.append (record { uid = 0; gid = 0 }) path flags mode reply)))
total-line line (forms.Mkdir c path mode) none =
    total-up (room (total-then (total-by c (λ credential.
    total-ask c line (makes_directory credential path mode))) (λ reply.
    total-made (record { uid = 0; gid = 0 }) path mode reply)))
total-line line (forms.Unlink c path) none =
    total-up (room (total-by c (λ credential.
    total-ask-purge c line (unlinks_file credential path))))
total-line line (forms.Rmdir c path) none =
    total-up (room (total-then (total-by c (λ credential.
    total-ask c line (removes_directory credential path))) (λ reply. total-named)))
total-line line (forms.Rename c from to) none =
    total-up (room (total-by c (λ credential.
    total-ask-purge c line (moves_node credential from to))))
total-line line (forms.Lseek c fd seek) none =
    total-up (free-from (total-then {Q = Ever} (total-opened {P = True} c fd) (λ d.
    total-seek d c seek)))
total-line line (forms.Post c fd offset n) none =
    total-up (sound (total-then {Q = λ d. Sound} (total-to-read c fd) (λ d.
    total-post d c line _ refl)))
total-line line (forms.Dispatch ino place) none =
    total-up (sound (total-dispatch-line ino place))
total-line line (forms.Skip ino place) none = total-up (sound (total-skip-line ino place))
total-line line (forms.Trim ino) none = total-up (sound (total-trim-line ino))
total-line line (forms.Settle ino) none = total-up (sound (total-settle-line ino))
total-line line (forms.Queue c fd) none =
    total-up (free-from (total-then {Q = Ever} (total-opened {P = True} c fd) (λ d.
    total-listed d)))
total-line line (forms.Stop n) none =
    total-told (total-then {Q = Ever} (total-changes (λ w holds. tt)) (λ u.
    total-give (λ w holds. tt)))
total-line line (forms.Crash k) none =
    total-told (total-then {Q = Ever} (total-changes (λ w holds. tt)) (λ u.
    total-give (λ w holds. tt)))
total-line line forms.Mount none =
    total-told (free-from (total-any (λ x. total-mount-line x.phase)))
total-line line (forms.Fail device k) none = total-told (free-from (total-plan device true k))
total-line line (forms.FailRead device k) none = total-told (free-from (total-plan device false k))
total-line line form none = absurd (cc)

pub lines-have-answers : LinesHaveAnswers
lines-have-answers callers drive lines outs world line run has_room none =
    let up = runs-up _ world lines outs run (mounted-up callers drive) in
    let answer = (total-line line.number line.form none).by world (has_room, up) in
    (printed line.number answer.1 answer.0, answer.1, steps_so answer.0 answer.2)
