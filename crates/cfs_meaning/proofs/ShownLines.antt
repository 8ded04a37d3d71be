-- Lines that keep a world shown by its devices.
use Rattle.std.proofs.Common.{◌≡◌, ℕ, Bool, true, false, Option, ◌∷◌, refl, sym, subst}
use Rattle.std.proofs.Common.{if◌then◌else◌, inl, inr}
use Rattle.std.specs.Prelude.{Result, Ok, Err}
use Rattle.cfs_file.specs.declared.request.Request.{Request}
use Rattle.cfs_file.specs.declared.request.Request.TheVariants as requests
use Rattle.cfs_pmem.specs.declared.trace.Asked.TheVariants.{Stopped}
use Rattle.cfs_print.specs.declared.printed.Printed.{Printed}
use Rattle.cfs_script.specs.declared.form.Form.{Form}
use Rattle.cfs_script.specs.declared.form.Form.TheVariants as forms
use Rattle.cfs_words.specs.declared.device.Device.{Device}
use Rattle.cfs_words.specs.declared.seek.Seek.{Seek}
use Rattle.cfs_meaning.specs.World.{Descriptor, Down, Failed, Phase, Up, World, core_in}
use Rattle.cfs_meaning.specs.World.{descriptor_in}
use Rattle.cfs_meaning.specs.Inode.{Absent, Behind, Ready, Verdict, verdict}
use Rattle.cfs_meaning.specs.Files.{has_no_power, list_queue, lseek, most_read, opened}
use Rattle.cfs_meaning.specs.Files.{opened_to_read, post}
use Rattle.cfs_meaning.specs.Workers.{apply_line, dispatch_by, dispatch_line, there}
use Rattle.cfs_meaning.specs.Devices.{IsShown, Suits, LinesKeepShown, keeps_shown}
use Rattle.cfs_meaning.specs.Laws.{AreReached, is_mount}
use Rattle.cfs_meaning.specs.Play.{does, plan, steps_so, stopped, up, while_up}
use Rattle.cfs_meaning.specs.Ways.{Halt, Now, Way, now}
use Rattle.cfs_meaning.proofs.Hoare.{Leaves, leave-changes, leave-end, leave-look}
use Rattle.cfs_meaning.proofs.Hoare.{leave-refuse, leave-then, leave-weaker}
use Rattle.cfs_meaning.proofs.Lines.{mount-up, only-mount}
use Rattle.cfs_meaning.proofs.ShownJobs.{AtWork, apply-shown}
use Rattle.cfs_meaning.proofs.ShownFiles.{asked-shown}
use Rattle.cfs_meaning.proofs.ShownParts.{Keeps, any-give, any-known, any-look, any-refuse}
use Rattle.cfs_meaning.proofs.ShownParts.{keep-dispatch, keep-read, keep-told, keep-up, moved-shown}
use Rattle.cfs_meaning.proofs.ShownParts.{same-shown}
use Rattle.cfs_meaning.proofs.ShownHelps.{read-helping, serve-helping, sync-helping}
use Rattle.cfs_meaning.proofs.ShownReads.{read-line, serve-line, sync-line}
use Rattle.cfs_meaning.proofs.ShownTurns.{finish-line, settle-line, skip-line, trim-line}
use Rattle.cfs_meaning.proofs.ShownWork.{drain-shown, turn-shown}
use Rattle.cfs_meaning.proofs.Total.{IfEnds}

keep-seek : (d : Descriptor) (c : ℕ) (seek : Seek) → Keeps (lseek d c seek)
keep-seek d c seek =
    leave-then (any-known _ _) (λ to.
    leave-then (any-refuse _ _) (λ u.
    leave-then (leave-changes (λ w shown.
    moved-shown (descriptor_in w c d.fd) c to w shown)) (λ v. any-give)))

keep-listed : (d : Descriptor) → Keeps (list_queue d)
keep-listed d = any-look (λ x. any-give)

keep-opened : (c fd : ℕ) → Keeps (opened c fd)
keep-opened c fd = any-look (λ x. any-known _ _)

keep-to-read : (c fd : ℕ) → Keeps (opened_to_read c fd)
keep-to-read c fd =
    leave-then (keep-opened c fd) (λ d.
    leave-then (any-refuse _ _) (λ u. any-give))

-- ---- events that no device shows

keep-post : (d : Descriptor) (c line : ℕ) (request : Request) → Keeps (post d c line request)
keep-post d c line request =
    leave-then (keep-read d c line request) (λ place. any-give)

keep-dispatch-by : (ino place : ℕ) (v : Verdict) → Keeps (dispatch_by ino place v)
keep-dispatch-by ino place Absent = leave-end (λ w holds. holds)
keep-dispatch-by ino place (Behind q) = leave-end (λ w holds. holds)
keep-dispatch-by ino place Ready =
    leave-then (keep-dispatch ino place) (λ u. any-look (λ x. any-give))

keep-there : (ino : ℕ) → Keeps (there ino)
keep-there ino = any-look (λ x. any-refuse _ _)

keep-now : Keeps Now
keep-now = record { by = here }
  where
    here : (old : World) (end : Result World Halt) (new : World) → IsShown old →
        Now old end new → IfEnds (λ x. IsShown) IsShown end new
    here old end new shown now = shown

keep-dispatch-line : (ino place : ℕ) → Keeps (dispatch_line ino place)
keep-dispatch-line ino place =
    leave-then (leave-then (keep-there ino) (λ u. keep-now)) (λ x.
    keep-dispatch-by ino place (verdict (core_in x ino) place))

-- ---- power

stopped-shown : (n : ℕ) (world : World) → IsShown world →
    IsShown (record world { drive = stopped n world.drive })
stopped-shown n world shown = unless-off (has_no_power world.drive)
  where
    unless-off : (off : Bool) → IsShown (record world {
      drive = if off then world.drive
          else record world.drive {
            asked = Stopped n
                ∷ world.drive.asked;
          };
    })
    unless-off true = shown
    unless-off false = asked-shown world _ shown

keep-plan : (device : Device) (writing : Bool) (k : ℕ) → Keeps (plan device writing k)
keep-plan device writing k =
    any-look (λ x.
    leave-then (any-known _ _) (λ number.
    leave-then (leave-changes (λ w shown. asked-shown w _ shown)) (λ u. any-give)))

-- ---- lines that ask more of the world

pub leave-up : {P : World → Type 0} {way : Way Printed} → ((w : World) → P w → IsShown w) →
    Leaves P (λ answer. IsShown) IsShown way → Leaves P (λ answer. IsShown) IsShown (up way)
leave-up {P = P} {way = way} shows one =
    leave-then {Q = λ answer. IsShown}
    (leave-look (λ x.
    leave-weaker {P = P} (λ w holds. holds.1) (λ a w q. q) (λ w e. e)
    (by-phase x.phase))) (λ answer. any-give)
  where
    by-phase : (phase : Phase) → Leaves P (λ answer. IsShown) IsShown (while_up phase way)
    by-phase Up = one
    by-phase Down = leave-end shows
    by-phase Failed = leave-end shows

-- a job's next step
apply-line : (ino place : ℕ) →
    Leaves (AtWork ino) (λ answer. IsShown) IsShown (apply_line ino place)
apply-line ino place =
    leave-look (λ x.
    leave-then {Q = λ u. AtWork ino}
    (leave-weaker {P = AtWork ino} (λ w holds. holds.1) (λ u w q. q.1) (λ w e. e)
    (leave-refuse _ _ (λ w work. work.shown))) (λ u.
    leave-then {Q = λ v. IsShown} (apply-shown ino place) (λ v. any-look (λ y. any-give))))

-- ---- lines

-- the lines of workers, but for dispatch, and the lines that read
abbrev asks_more : Form → Bool
asks_more (forms.Apply ino place) = true
asks_more (forms.Finish ino place) = true
asks_more (forms.Skip ino place) = true
asks_more (forms.Trim ino) = true
asks_more (forms.Settle ino) = true
asks_more forms.Turn = true
asks_more forms.Drain = true
asks_more (forms.Read c fd n) = true
asks_more (forms.Pread c fd offset n) = true
asks_more (forms.Fsync c fd) = true
asks_more (forms.Serve c fd place) = true
asks_more other = false

keep-line : (line : ℕ) (form : Form) → keeps_shown form ≡ true → is_mount form ≡ false →
    asks_more form ≡ false → Keeps (does line form)
keep-line line (forms.Caller c uid gid) keeps other more =
    leave-then (leave-changes (λ w shown. same-shown w _ refl refl refl shown)) (λ u. any-give)
keep-line line (forms.Lseek c fd seek) keeps other more =
    keep-up (leave-then (keep-opened c fd) (λ d. keep-seek d c seek))
keep-line line (forms.Post c fd offset n) keeps other more =
    keep-up (leave-then (keep-to-read c fd) (λ d. keep-post d c line _))
keep-line line (forms.Dispatch ino place) keeps other more = keep-up (keep-dispatch-line ino place)
keep-line line (forms.Queue c fd) keeps other more =
    keep-up (leave-then (keep-opened c fd) (λ d. keep-listed d))
keep-line line (forms.Stop n) keeps other more =
    keep-told (leave-then (leave-changes (λ w shown. stopped-shown n w shown)) (λ u. any-give))
keep-line line forms.Mount keeps other more = absurd (cc)
keep-line line (forms.Apply ino place) keeps other more = absurd (cc)
keep-line line (forms.Finish ino place) keeps other more = absurd (cc)
keep-line line (forms.Skip ino place) keeps other more = absurd (cc)
keep-line line (forms.Trim ino) keeps other more = absurd (cc)
keep-line line (forms.Settle ino) keeps other more = absurd (cc)
keep-line line forms.Turn keeps other more = absurd (cc)
keep-line line forms.Drain keeps other more = absurd (cc)
keep-line line (forms.Read c fd n) keeps other more = absurd (cc)
keep-line line (forms.Pread c fd offset n) keeps other more = absurd (cc)
keep-line line (forms.Fsync c fd) keeps other more = absurd (cc)
keep-line line (forms.Serve c fd place) keeps other more = absurd (cc)
keep-line line (forms.Fail device k) keeps other more = keep-told (keep-plan device true k)
keep-line line (forms.FailRead device k) keeps other more = keep-told (keep-plan device false k)
keep-line line form keeps other more = absurd (cc)

pub shown-ends : (end : Result (Option Printed) Halt) (world : World) →
    IfEnds (λ answer. IsShown) IsShown end world → IsShown world
shown-ends (Ok answer) world holds = holds
shown-ends (Err halt) world holds = holds

more-line : (line : ℕ) (form : Form) (old : World) (end : Result (Option Printed) Halt)
    (new : World) → asks_more form ≡ true → Suits old form → AreReached old → IsShown old →
    does line form old end new → IsShown new
more-line line (forms.Apply ino place) old end new is of reached shown way =
    shown-ends end new ((leave-up (λ w work. work.shown) (apply-line ino place)).by old end new
    (record { shown = shown; reached = reached; goes_on = of }) way)
more-line line (forms.Finish ino place) old end new is of reached shown way =
    shown-ends end new ((leave-up (λ w work. work.shown) (finish-line ino place)).by old end new
    (record { shown = shown; reached = reached; goes_on = of }) way)
more-line line (forms.Skip ino place) old end new is of reached shown way =
    shown-ends end new ((leave-up (λ w work. work.shown) (skip-line ino place)).by old end new
    (record { shown = shown; reached = reached; goes_on = of }) way)
more-line line (forms.Settle ino) old end new is of reached shown way =
    shown-ends end new ((leave-up (λ w work. work.shown) (settle-line ino)).by old end new
    (record { shown = shown; reached = reached; goes_on = of }) way)
more-line line (forms.Trim ino) old end new is of reached shown way =
    shown-ends end new ((leave-up (λ w all. all.shown) (trim-line ino)).by old end new
    (record { shown = shown; reached = reached; open_ = of }) way)
more-line line forms.Turn old end new is of reached shown way =
    shown-ends end new ((leave-up (λ w all. all.shown) turn-shown).by old end new
    (record { shown = shown; reached = reached; open_ = of }) way)
more-line line forms.Drain old end new is of reached shown way =
    shown-ends end new ((leave-up (λ w all. all.shown) drain-shown).by old end new
    (record { shown = shown; reached = reached; open_ = of }) way)
more-line line (forms.Read c fd n) old end new is of reached shown way = elim of [
  | inl open_ ↦
      shown-ends end new ((leave-up (λ w all. all.shown)
      (read-helping c fd line (λ d. requests.Read d.position (most_read n)) true)).by old end new
      (record { shown = shown; reached = reached; open_ = open_ }) way)
  | inr free ↦
      shown-ends end new
      ((read-line c fd line (λ d. requests.Read d.position (most_read n)) true).by old end new
      (shown, free) way)
]
more-line line (forms.Pread c fd offset n) old end new is of reached shown way = elim of [
  | inl open_ ↦
      shown-ends end new ((leave-up (λ w all. all.shown)
      (read-helping c fd line (λ d. requests.Read offset (most_read n)) false)).by old end new
      (record { shown = shown; reached = reached; open_ = open_ }) way)
  | inr free ↦
      shown-ends end new
      ((read-line c fd line (λ d. requests.Read offset (most_read n)) false).by old end new
      (shown, free) way)
]
more-line line (forms.Fsync c fd) old end new is of reached shown way = elim of [
  | inl open_ ↦
      shown-ends end new ((leave-up (λ w all. all.shown)
      (sync-helping c fd line requests.Sync)).by old end new
      (record { shown = shown; reached = reached; open_ = open_ }) way)
  | inr free ↦
      shown-ends end new
      ((sync-line c fd line requests.Sync).by old end new (shown, free) way)
]
more-line line (forms.Serve c fd place) old end new is of reached shown way = elim of [
  | inl open_ ↦
      shown-ends end new ((leave-up (λ w all. all.shown) (serve-helping c fd place)).by old end new
      (record { shown = shown; reached = reached; open_ = open_ }) way)
  | inr free ↦
      shown-ends end new ((serve-line c fd place).by old end new (shown, free) way)
]
more-line line form old end new is of reached shown way = absurd (cc)

pub lines-keep-shown : LinesKeepShown
lines-keep-shown old new line out mounted keeps of reached shown (steps_so end way) =
    by-kind (is_mount line.form) refl (asks_more line.form) refl
  where
    by-kind : (mounts : Bool) → is_mount line.form ≡ mounts → (applies : Bool) →
        asks_more line.form ≡ applies → IsShown new
    by-kind false is false more =
        shown-ends end new
        ((keep-line line.number line.form keeps is more).by old end new shown way)
    by-kind false is true more =
        more-line line.number line.form old end new more of reached shown way
    by-kind true is applies more =
        subst IsShown (sym (mount-up line.number old end new mounted
        (subst (λ f. does line.number f old end new) (only-mount line.form is) way)).1) shown
