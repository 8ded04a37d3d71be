-- Each line of a mounted store keeps each law, but for those that set the power or a plan, the
-- crash and the caller's.
use Rattle.std.proofs.Common.{◌≡◌, ℕ, Bool, true, false, Option, Some, None, List, [], ◌∷◌, ◌+◌}
use Rattle.std.proofs.Common.{refl}
use Rattle.std.specs.Prelude.{if◌then◌else◌}
use Rattle.cfs_cred.specs.declared.credential.Credential.{Credential}
use Rattle.cfs_print.specs.declared.printed.Printed.{Printed}
use Rattle.cfs_script.specs.declared.form.Form.{Form}
use Rattle.cfs_script.specs.declared.form.Form.TheVariants as forms
use Rattle.cfs_requests.specs.Steps.{NameRequest, closes_queue, makes_directory, moves_node}
use Rattle.cfs_requests.specs.Steps.{opens_file, removes_directory, unlinks_file}
use Rattle.cfs_meaning.specs.World.{Down, Failed, Phase, Up, core_in}
use Rattle.cfs_meaning.specs.Inode.{Absent, Behind, Ready, Verdict, verdict}
use Rattle.cfs_print.specs.declared.printed.Printed.TheVariants.{Fine, More}
use Rattle.cfs_meaning.specs.Laws.{IsGiven}
use Rattle.cfs_meaning.specs.Names.{ask}
use Rattle.cfs_meaning.specs.NameSteps.{closing}
use Rattle.cfs_meaning.specs.Files.{find_room, room_or_full}
use Rattle.cfs_meaning.specs.Workers.{Item, apply_line, chosen, dispatch_by, dispatch_line, do_item, drain, finish_line, say_turn, settle_line, skip_line, take_turn, there, trim_each, trim_line, turn, work}
use Rattle.cfs_meaning.specs.Play.{by, does, up, while_up}
use Rattle.cfs_meaning.specs.Ways.{Way}
use Rattle.cfs_meaning.proofs.Keeping.{Any, Keeps, keep-changes, keep-choose, keep-give, keep-look, keep-never, keep-now, keep-refuse, keep-repeats, keep-say, keep-then}
use Rattle.cfs_meaning.proofs.KeptInode.{kept-apply, kept-dispatch, kept-finish, kept-job, kept-settle, kept-skip, kept-trim}
use Rattle.cfs_meaning.proofs.KeptNames.{kept-ask, kept-ask-purge, kept-made, kept-named, kept-open}
use Rattle.cfs_meaning.proofs.KeptFiles.{kept-close-fd, kept-full, kept-listed, kept-opened, kept-post, kept-posted, kept-pwrite, kept-read-or-sync, kept-room, kept-seek, kept-to-read, kept-to-write, kept-truncate, kept-write}
use Rattle.cfs_meaning.proofs.Kept.{Law, Requests}
use Rattle.cfs_meaning.proofs.Quiet.{quiet-all}

-- ---- workers

kept-there : (law : Law) (ino : ℕ) → Keeps law.base Any (there ino)
kept-there law ino = keep-look (λ w. keep-refuse _ _ tt)

kept-dispatch-by : (law : Law) (ino place : ℕ) (v : Verdict) →
    Keeps law.base IsGiven (dispatch_by ino place v)
kept-dispatch-by law ino place Absent = keep-say tt
kept-dispatch-by law ino place (Behind q) = keep-say tt
kept-dispatch-by law ino place Ready =
    keep-then (kept-dispatch law ino place) (λ u a. keep-look (λ w. keep-give tt))

kept-dispatch-line : (law : Law) (ino place : ℕ) → Keeps law.base IsGiven (dispatch_line ino place)
kept-dispatch-line law ino place =
    keep-then (keep-then (kept-there law ino) (λ u a. keep-now)) (λ w a.
    kept-dispatch-by law ino place (verdict (core_in w ino) place))

kept-apply-line : (law : Law) (ino place : ℕ) → Keeps law.base IsGiven (apply_line ino place)
kept-apply-line law ino place =
    keep-look (λ w.
    keep-then (keep-refuse _ _ tt) (λ u a.
    keep-then (kept-apply law ino place) (λ u a. keep-look (λ w. keep-give tt))))

kept-finish-line : (law : Law) (ino place : ℕ) → Keeps law.base IsGiven (finish_line ino place)
kept-finish-line law ino place =
    keep-look (λ w.
    keep-then (keep-refuse _ _ tt) (λ u a.
    keep-then (keep-refuse _ _ tt) (λ u a.
    keep-then (kept-finish law ino place) (λ more a. keep-give (either more)))))
  where
    either : (more : Bool) → IsGiven (if more then More else Fine)
    either true = tt
    either false = tt

kept-skip-line : (law : Law) (ino place : ℕ) → Keeps law.base IsGiven (skip_line ino place)
kept-skip-line law ino place =
    keep-then (kept-there law ino) (λ u a.
    keep-look (λ w.
    keep-then (keep-refuse _ _ tt) (λ u a.
    keep-then (kept-skip law ino place) (λ u a. keep-give tt))))

kept-trim-line : (law : Law) (ino : ℕ) → Keeps law.base IsGiven (trim_line ino)
kept-trim-line law ino =
    keep-then (keep-then (kept-there law ino) (λ u a. keep-repeats (kept-trim law ino)))
    (λ n a. keep-give tt)

kept-settle-line : (law : Law) (ino : ℕ) → Keeps law.base IsGiven (settle_line ino)
kept-settle-line law ino =
    keep-then (kept-there law ino) (λ u a.
    keep-look (λ w.
    keep-then (keep-refuse _ _ tt) (λ u a.
    keep-then (kept-settle law ino) (λ u a. keep-give tt))))

kept-item : (law : Law) (x : Item) → Keeps law.base Any (do_item x)
kept-item law x =
    keep-choose x.noop (kept-skip law x.ino x.place)
    (keep-then (kept-job law x.ino x.place) (λ more a. keep-give tt))

kept-take : (law : Law) (x : Option Item) → Keeps law.base Any (take_turn x)
kept-take law None = keep-give tt
kept-take law (Some x) =
    keep-then (keep-changes (λ w. quiet-all x (work w) w)) (λ u a.
    keep-then (kept-item law x) (λ u a. keep-give tt))

kept-turn : (law : Law) → Keeps law.base Any turn
kept-turn law = keep-look (λ w. kept-take law (chosen (work w)))

kept-say-turn : (law : Law) (x : Option Item) → Keeps law.base IsGiven (say_turn x)
kept-say-turn law None = keep-say tt
kept-say-turn law (Some x) = keep-give tt

kept-trims : (law : Law) (inos : List ℕ) (freed : ℕ) → Keeps law.base Any (trim_each inos freed)
kept-trims law [] freed = keep-give tt
kept-trims law (ino ∷ rest) freed =
    keep-then (keep-repeats (kept-trim law ino)) (λ n a. kept-trims law rest (freed + n))

kept-drain : (law : Law) → Keeps law.base IsGiven drain
kept-drain law =
    keep-then (keep-repeats (keep-then (kept-turn law) (λ x a. keep-give tt))) (λ turns a.
    keep-look (λ w.
    keep-then (kept-trims law _ 0) (λ freed a. keep-give tt)))

-- ---- lines

-- the answer, if the line has one
abbrev pub IsGivenIfAny : Option Printed → Type 0
IsGivenIfAny None = Unit {0}
IsGivenIfAny (Some answer) = IsGiven answer

kept-phase : (law : Law) (phase : Phase) {way : Way Printed} → Keeps law.base IsGiven way →
    Keeps law.base IsGiven (while_up phase way)
kept-phase law Up kept = kept
kept-phase law Down kept = keep-say tt
kept-phase law Failed kept = keep-say tt

pub kept-up : (law : Law) {way : Way Printed} → Keeps law.base IsGiven way →
    Keeps law.base IsGivenIfAny (up way)
kept-up law kept =
    keep-then (keep-look (λ w. kept-phase law w.phase kept)) (λ answer given. keep-give given)

-- the lines that work on files and the tree alone
abbrev pub is_plain : Form → Bool
is_plain (forms.Caller c uid gid) = false
is_plain (forms.Stop n) = false
is_plain (forms.Crash k) = false
is_plain forms.Mount = false
is_plain (forms.Fail device k) = false
is_plain (forms.FailRead device k) = false
is_plain other = true

pub kept-by : (law : Law) {A : Type 0} {R : A → Type 0} (c : ℕ) {way : Credential → Way A} →
    ((credential : Credential) → Keeps law.base R (way credential)) → Keeps law.base R (by c way)
kept-by law c kept = keep-look (λ w. kept _)

-- the lines on names, and the one that gives a grant back
abbrev pub is_of_names : Form → Bool
is_of_names (forms.Open c path flags mode) = true
is_of_names (forms.Mkdir c path mode) = true
is_of_names (forms.Unlink c path) = true
is_of_names (forms.Rmdir c path) = true
is_of_names (forms.Rename c from to) = true
is_of_names (forms.Close c fd) = true
is_of_names other = false

pub kept-file : (law : Law) (form : Form) → is_plain form ≡ true → is_of_names form ≡ false →
    Keeps law.base IsGivenIfAny (does law.line form)
kept-file law (forms.Caller c uid gid) plain other = absurd (cc)
kept-file law (forms.Read c fd n) plain other =
    kept-up law (keep-then (kept-to-read law c fd) (λ d a. kept-read-or-sync law d c _ true))
kept-file law (forms.Write c fd bytes) plain other =
    kept-up law (keep-then (kept-to-write law c fd) (λ d a. kept-write law d c _))
kept-file law (forms.Pread c fd offset n) plain other =
    kept-up law (keep-then (kept-to-read law c fd) (λ d a. kept-read-or-sync law d c _ false))
kept-file law (forms.Pwrite c fd offset bytes) plain other =
    kept-up law (keep-then (kept-to-write law c fd) (λ d a.
    kept-pwrite law d c offset _ find_room false (kept-room law d)))
kept-file law (forms.TryPwrite c fd offset bytes) plain other =
    kept-up law (keep-then (kept-to-write law c fd) (λ d a.
    kept-pwrite law d c offset _ room_or_full false (kept-full law d)))
kept-file law (forms.Lseek c fd seek) plain other =
    kept-up law (keep-then (kept-opened law c fd) (λ d a. kept-seek law d c seek))
kept-file law (forms.Ftruncate c fd n) plain other =
    kept-up law (keep-then (kept-to-write law c fd) (λ d a. kept-truncate law d c n))
kept-file law (forms.Fsync c fd) plain other =
    kept-up law (keep-then (kept-opened law c fd) (λ d a. kept-read-or-sync law d c _ false))
kept-file law (forms.Post c fd offset n) plain other =
    kept-up law (keep-then (kept-to-read law c fd) (λ d a. kept-post law d c _))
kept-file law (forms.Serve c fd place) plain other =
    kept-up law (keep-then (kept-opened law c fd) (λ d a. kept-posted law d place))
kept-file law (forms.Dispatch ino place) plain other =
    kept-up law (kept-dispatch-line law ino place)
kept-file law (forms.Apply ino place) plain other = kept-up law (kept-apply-line law ino place)
kept-file law (forms.Finish ino place) plain other = kept-up law (kept-finish-line law ino place)
kept-file law (forms.Skip ino place) plain other = kept-up law (kept-skip-line law ino place)
kept-file law (forms.Trim ino) plain other = kept-up law (kept-trim-line law ino)
kept-file law (forms.Settle ino) plain other = kept-up law (kept-settle-line law ino)
kept-file law forms.Turn plain other =
    kept-up law (keep-then (kept-turn law) (λ x a. kept-say-turn law x))
kept-file law forms.Drain plain other = kept-up law (kept-drain law)
kept-file law (forms.Queue c fd) plain other =
    kept-up law (keep-then (kept-opened law c fd) (λ d a. kept-listed law d))
kept-file law (forms.Stop n) plain other = absurd (cc)
kept-file law (forms.Crash k) plain other = absurd (cc)
kept-file law forms.Mount plain other = absurd (cc)
kept-file law (forms.Fail device k) plain other = absurd (cc)
kept-file law (forms.FailRead device k) plain other = absurd (cc)
kept-file law (forms.Cut n k) plain other = keep-never
kept-file law (forms.Open c path flags mode) plain other = absurd (cc)
kept-file law (forms.Mkdir c path mode) plain other = absurd (cc)
kept-file law (forms.Unlink c path) plain other = absurd (cc)
kept-file law (forms.Rmdir c path) plain other = absurd (cc)
kept-file law (forms.Rename c from to) plain other = absurd (cc)
kept-file law (forms.Close c fd) plain other = absurd (cc)

-- the lines that change the tree alone, and their requests
abbrev pub is_of_tree : Form → Bool
is_of_tree (forms.Mkdir c path mode) = true
is_of_tree (forms.Unlink c path) = true
is_of_tree (forms.Rmdir c path) = true
is_of_tree (forms.Rename c from to) = true
is_of_tree other = false

abbrev pub keeps_grants : NameRequest → Bool
keeps_grants (opens_file credential path flags mode) = false
keeps_grants (closes_queue queue) = false
keeps_grants other = true

pub kept-tree : (law : Law) → ((c : ℕ) (request : NameRequest) → keeps_grants request ≡ true →
    Keeps law.base Any (ask c law.line request)) → (form : Form) → is_of_tree form ≡ true →
    Keeps law.base IsGivenIfAny (does law.line form)
kept-tree law asks (forms.Mkdir c path mode) tree =
    kept-up law (keep-then (kept-by law c (λ credential.
    asks c (makes_directory credential path mode) refl)) (λ reply a. kept-made law reply))
kept-tree law asks (forms.Unlink c path) tree =
    kept-up law (kept-by law c (λ credential.
    kept-ask-purge law c _ (asks c (unlinks_file credential path) refl)))
kept-tree law asks (forms.Rmdir c path) tree =
    kept-up law (keep-then (kept-by law c (λ credential.
    asks c (removes_directory credential path) refl)) (λ reply a. kept-named law))
kept-tree law asks (forms.Rename c from to) tree =
    kept-up law (kept-by law c (λ credential.
    kept-ask-purge law c _ (asks c (moves_node credential from to) refl)))
kept-tree law asks form tree = absurd (cc)

pub kept-names : (law : Law) → Requests law → (form : Form) → is_of_names form ≡ true →
    Keeps law.base IsGivenIfAny (does law.line form)
kept-names law requests (forms.Open c path flags mode) names =
    kept-up law (keep-then (kept-by law c (λ credential.
    kept-ask law requests c (opens_file credential path flags mode))) (λ reply a.
    kept-open law requests c flags.append reply))
kept-names law requests (forms.Close c fd) names =
    kept-up law (keep-then (kept-opened law c fd) (λ d a.
    kept-close-fd law d c (kept-ask law requests c (closing d.grant))))
kept-names law requests form names =
    kept-tree law (λ c request keeps. kept-ask law requests c request) form names

pub kept-plain : (law : Law) → Requests law → (form : Form) → is_plain form ≡ true →
    Keeps law.base IsGivenIfAny (does law.line form)
kept-plain law requests form plain = by-kind (is_of_names form) refl
  where
    by-kind : (names : Bool) → is_of_names form ≡ names →
        Keeps law.base IsGivenIfAny (does law.line form)
    by-kind true is = kept-names law requests form is
    by-kind false is = kept-file law form plain is
