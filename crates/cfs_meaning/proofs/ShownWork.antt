-- Turns and drains keep a world shown by its devices.
use Rattle.std.proofs.Common.{◌≡◌, ◌≢◌, ℕ, ◌+◌, ◌-◌, Bool, true, false, ◌&&◌, Option, Some, None}
use Rattle.std.proofs.Common.{List, [], ◌∷◌, ◌++◌, length, map, filter, get_or, set, refl, sym}
use Rattle.std.proofs.Common.{ap, ◌∙◌, subst, cond, if◌then◌else◌}
use Rattle.std.specs.Prelude.{◌==◌, find, unwrap_or, nat_lt}
use Rattle.std.specs.List.{flat_map, range_with_len}
use Rattle.std.proofs.lemmas.Bool.{and_parts, eq-eqb, eqb-false, ne_eqb}
use Rattle.cfs_file.specs.declared.sizes.TheConstants.{FILE_BLOCKS}
use Rattle.cfs_core.specs.declared.event.Event.{Event}
use Rattle.cfs_core.specs.declared.event.Event.TheVariants as events
use Rattle.cfs_core.specs.declared.event.SizeEnd.TheVariants as sizes
use Rattle.cfs_core.specs.declared.inode_core.Core.{Core}
use Rattle.cfs_core.specs.declared.state.Lease.{Lease}
use Rattle.cfs_core.specs.declared.state.State.{State}
use Rattle.cfs_core.specs.declared.state.State.TheVariants.{Closed, Noop, Out, Unserved, Waiting}
use Rattle.cfs_core.specs.declared.track.Track.{Track}
use Rattle.cfs_core.specs.After.{after}
use Rattle.cfs_core.specs.Jobs.{next_job, state_flushed, state_written}
use Rattle.cfs_core.specs.May.{case, is_in_phase, may, may_flush}
use Rattle.cfs_core.specs.Words.{blank, has_block, is_noop, is_out, is_waiting, track}
use Rattle.cfs_core.proofs.Order.{some_place}
use Rattle.cfs_core_laws.specs.Reached.{IsReached}
use Rattle.cfs_medium.proofs.SlotEvents.{track-here, within_place}
use Rattle.cfs_meaning.specs.World.{File, World, core_in, file_in, find_file, new_file, replaces}
use Rattle.cfs_meaning.specs.World.{with_core, with_file}
use Rattle.cfs_meaning.specs.Inode.{apply, back, dispatch, finish, left_at}
use Rattle.cfs_meaning.specs.Inode.{next_step, run_job, skip, what_is_left, with_passed}
use Rattle.cfs_meaning.specs.Workers.{Item, best, chosen, comes_first, do_item, drain, files_there}
use Rattle.cfs_meaning.specs.Workers.{is_ready, item, once_more, pass_over, pass_over_all, say_turn}
use Rattle.cfs_meaning.specs.Workers.{take_turn, trim_each, turn, turn_line, work, work_at, work_of}
use Rattle.cfs_meaning.specs.Inode.{verdict}
use Rattle.cfs_meaning.specs.Devices.{HaveOwnNumbers, IsShown, OfEachFile}
use Rattle.cfs_meaning.specs.Ways.{choose, done, ◌>>◌}
use Rattle.cfs_meaning.proofs.Hoare.{Leaves, leave-changes, leave-end, leave-event, leave-give}
use Rattle.cfs_meaning.proofs.Hoare.{leave-look, leave-then, leave-tries, leave-unless}
use Rattle.cfs_meaning.proofs.Hoare.{leave-weaker}
use Rattle.cfs_meaning.proofs.KeptInode.{kept-apply, kept-back, kept-dispatch, kept-finish}
use Rattle.cfs_meaning.proofs.KeptInode.{kept-skip}
use Rattle.cfs_meaning.proofs.Quiet.{quiet-passed}
use Rattle.cfs_meaning.proofs.Reached.{empty-reached, reached_law}
use Rattle.cfs_meaning.proofs.ShownEnds.{AtEnd, finish-shown, out-found, put-back-shown}
use Rattle.cfs_meaning.proofs.ShownFiles.{files-both, files-map, found-number, none-replaced}
use Rattle.cfs_meaning.proofs.ShownGates.{AtNoop, found-by, skip-shown}
use Rattle.cfs_meaning.proofs.ShownJobs.{AtWork, apply-shown}
use Rattle.cfs_meaning.proofs.ShownOpen.{leave-both, leave-mends, leave-repeats, leave-replicate}
use Rattle.cfs_meaning.proofs.ShownOpen.{open-apply, open-dispatch, open-file, open-finish}
use Rattle.cfs_meaning.proofs.ShownOpen.{open-put-back, open-skip, open-with}
use Rattle.cfs_meaning.proofs.ShownParts.{keep-dispatch, passed-shown}
use Rattle.cfs_meaning.proofs.ShownTurns.{AllWork, at-work, leave-kept, part-all, trim-all}
use Rattle.cfs_meaning.proofs.TotalTrims.{core-given, find-replaced}
use Rattle.cfs_meaning.proofs.Worlds.{law_of}

-- ---- a job is out while it makes its steps

abbrev IsOutAt : ℕ → ℕ → World → Type 0
IsOutAt ino place w = is_out (track (core_in w ino).tracks place).state ≡ true

block-out : (s : State) (k : ℕ) → has_block s k ≡ true → is_out s ≡ true
block-out Waiting k is = absurd (cc)
block-out (Out job) k is = refl
block-out Noop k is = absurd (cc)
block-out Unserved k is = absurd (cc)
block-out Closed k is = absurd (cc)

written-out : (s : State) (k : ℕ) (ok : Bool) → is_out s ≡ true →
    is_out (state_written k ok s) ≡ true
written-out Waiting k ok is = absurd (cc)
written-out (Out job) k ok is = refl
written-out Noop k ok is = absurd (cc)
written-out Unserved k ok is = absurd (cc)
written-out Closed k ok is = absurd (cc)

flushed-out : (s : State) (k : ℕ) → is_out s ≡ true → is_out (state_flushed k s) ≡ true
flushed-out Waiting k is = absurd (cc)
flushed-out (Out job) k is = refl
flushed-out Noop k is = absurd (cc)
flushed-out Unserved k is = absurd (cc)
flushed-out Closed k is = absurd (cc)

-- the file of a core that has a request of some kind at a place
kind-found : (w : World) (ino place : ℕ) (test : State → Bool) → test Closed ≡ false →
    test (track (core_in w ino).tracks place).state ≡ true →
    (f : File) × (find_file w ino ≡ Some f)
kind-found w ino place test closed passes =
    found-by w ino (λ core. test (track core.tracks place).state ≡ true) passes
    (none (place == 0))
  where
    none : (b : Bool) →
        test (if b then blank else get_or [] (place - 1) blank).state ≡ true → ⊥
    none true is = let wrong : true ≡ false = sym is ∙ closed in absurd (cc)
    none false is = let wrong : true ≡ false = sym is ∙ closed in absurd (cc)

-- behind an event that leaves a track at a place
out-behind : (w : World) (ino place : ℕ) (now : Core) (t : Track) (test : State → Bool) →
    test Closed ≡ false → test (track (core_in w ino).tracks place).state ≡ true →
    now.tracks ≡ set (core_in w ino).tracks (place - 1) t → is_out t.state ≡ true →
    IsOutAt ino place (with_core ino now w)
out-behind w ino place now t test closed passes is out =
    let core : Core = core_in w ino in
    let found = kind-found w ino place test closed passes in
    let some = some_place test closed core.tracks place passes in
    let within = within_place test closed core.tracks place some passes in
    subst (λ (c : Core). is_out (track c.tracks place).state ≡ true)
    (sym (core-given w ino now found.0 found.1))
    (subst (λ (tracks : List Track). is_out (track tracks place).state ≡ true) (sym is)
    (subst (λ (u : Track). is_out u.state ≡ true) (sym (track-here core place t some within)) out))

may-case : (core : Core) (e : Event) → may core e ≡ true → case core e ≡ true
may-case core e is = (and_parts (is_in_phase core.crashed e) (case core e) is).1

has-out : (core : Core) (place k : ℕ) → may_flush core place k ≡ true →
    is_out (track core.tracks place).state ≡ true
has-out core place k is =
    block-out (track core.tracks place).state k
    (and_parts (nat_lt k FILE_BLOCKS) (has_block (track core.tracks place).state k) is).1

write-out : (w : World) (ino place k : ℕ) (ok : Bool) (left : List ℕ) →
    may (core_in w ino) (events.BlockWrite place k (what_is_left ok left)) ≡ true →
    IsOutAt ino place
    (with_core ino (after (core_in w ino) (events.BlockWrite place k (what_is_left ok left))) w)
write-out w ino place k true left may_be =
    let core : Core = core_in w ino in
    let out = has-out core place k (may-case core (events.BlockWrite place k None) may_be) in
    out-behind w ino place (after core (events.BlockWrite place k None))
    (record (track core.tracks place) {
      state = state_written k true (track core.tracks place).state;
    }) is_out refl out refl (written-out (track core.tracks place).state k true out)
write-out w ino place k false left may_be =
    let core : Core = core_in w ino in
    let out = has-out core place k
    (and_parts (may_flush core place k) _
    (may-case core (events.BlockWrite place k (Some left)) may_be)).0 in
    out-behind w ino place (after core (events.BlockWrite place k (Some left)))
    (record (track core.tracks place) {
      state = state_written k false (track core.tracks place).state;
    }) is_out refl out refl (written-out (track core.tracks place).state k false out)

flush-out : (w : World) (ino place k : ℕ) (ok : Bool) → IsOutAt ino place w →
    may (core_in w ino) (events.Flush place k ok) ≡ true →
    IsOutAt ino place (with_core ino (after (core_in w ino) (events.Flush place k ok)) w)
flush-out w ino place k true at may_be =
    let core : Core = core_in w ino in
    out-behind w ino place (after core (events.Flush place k true))
    (record (track core.tracks place) {
      state = state_flushed k (track core.tracks place).state;
    }) is_out refl at refl (flushed-out (track core.tracks place).state k at)
flush-out w ino place k false at may_be =
    let found = out-found w ino place at in
    subst (λ (c : Core). is_out (track c.tracks place).state ≡ true)
    (sym (core-given w ino (core_in w ino) found.0 found.1)) at

abbrev True : World → Type 0
True w = Unit {0}

next-out : (ino place : ℕ) (one other : Option Lease) →
    Leaves (IsOutAt ino place) (λ u. IsOutAt ino place) True (next_step ino place one other)
next-out ino place (Some lease) other =
    leave-look (λ x.
    leave-then {Q = λ u. True}
    (leave-then {Q = λ b. True} (leave-tries (λ w holds. tt)) (λ b.
    leave-unless b (λ w holds. tt) (λ w holds. tt))) (λ u.
    leave-then {Q = λ ok. True} (leave-tries (λ w holds. tt)) (λ ok.
    leave-look (λ behind.
    leave-then {Q = λ v. IsOutAt ino place}
    (leave-event (λ w holds may_be. write-out w ino place lease.block ok _ may_be)) (λ v.
    leave-unless ok (λ w out. out) (λ w out. tt))))))
next-out ino place None (Some lease) =
    leave-look (λ x.
    leave-then {Q = λ ok. IsOutAt ino place} (leave-tries (λ w holds. holds.1)) (λ ok.
    leave-then {Q = λ v. IsOutAt ino place}
    (leave-event (λ w out may_be. flush-out w ino place lease.block ok out may_be)) (λ v.
    leave-unless ok (λ w out. out) (λ w out. tt))))
next-out ino place None None = leave-give (λ w out. out)

apply-out : (ino place : ℕ) →
    Leaves (IsOutAt ino place) (λ u. IsOutAt ino place) True (apply ino place)
apply-out ino place =
    leave-look (λ x.
    leave-weaker {P = IsOutAt ino place} (λ w holds. holds.1) (λ u w q. q) (λ w e. e)
    (next-out ino place _ _))

-- ---- a job, from its dispatch to its end

abbrev IsAllOut : ℕ → ℕ → World → Type 0
IsAllOut ino place w = AllWork w × IsOutAt ino place w

apply-all : (ino place : ℕ) →
    Leaves (IsAllOut ino place) (λ u. IsAllOut ino place) AllWork (apply ino place)
apply-all ino place =
    leave-weaker {P = λ w. (AtWork ino w × AllWork w) × IsOutAt ino place w}
    (λ w holds. ((at-work w ino holds.0, holds.0), holds.1)) (λ u w q. q) (λ w e. e.0)
    (leave-both
    (part-all (apply-shown ino place) (leave-kept (kept-apply (law_of (reached_law 0)) ino place))
    (open-apply ino place))
    (apply-out ino place))

back-all : (ino place : ℕ) →
    Leaves AllWork (λ u. AllWork) AllWork (back ino place sizes.AsBefore)
back-all ino place =
    leave-weaker {P = λ w. IsShown w × AllWork w} (λ w all. (all.shown, all)) (λ u w q. q)
    (λ w e. e)
    (part-all (put-back-shown ino place)
    (leave-kept (kept-back (law_of (reached_law 0)) ino place sizes.AsBefore))
    (open-put-back ino place sizes.AsBefore))

finish-all : (ino place : ℕ) →
    Leaves (IsAllOut ino place) (λ more. AllWork) AllWork (finish ino place)
finish-all ino place =
    leave-weaker {P = λ w. AtEnd ino place w × AllWork w}
    (λ w holds. (record { work = at-work w ino holds.0; out = holds.1 }, holds.0))
    (λ u w q. q) (λ w e. e)
    (part-all (finish-shown ino place)
    (leave-kept (kept-finish (law_of (reached_law 0)) ino place)) (open-finish ino place))

passed-out : (w : World) (ino place : ℕ) → IsOutAt ino place w →
    IsOutAt ino place (with_file (with_passed place 0 (file_in w ino)) w)
passed-out w ino place out =
    let found = out-found w ino place out in
    let number : (file_in w ino).ino ≡ ino =
    ap (λ o. (unwrap_or o (new_file 0 0)).ino) found.1
    ∙ found-number ino w.files found.0 found.1 in
    subst (λ (o : Option File).
    is_out (track (unwrap_or o (new_file 0 0)).core.tracks place).state ≡ true)
    (sym (find-replaced (with_passed place 0 (file_in w ino)) ino w.files found.0 number found.1))
    out

dispatch-out : (ino place : ℕ) →
    Leaves True (λ u. IsOutAt ino place) True (dispatch ino place)
dispatch-out ino place =
    leave-then {Q = λ u. IsOutAt ino place}
    (leave-event (λ w holds may_be.
    let core : Core = core_in w ino in
    let waits = (and_parts (is_waiting (track core.tracks place).state) _
    (may-case core (events.Dispatch place) may_be)).0 in
    out-behind w ino place (after core (events.Dispatch place))
    (record (track core.tracks place) {
      state = Out (next_job core.tags (track core.tracks place));
    }) is_waiting refl waits refl refl)) (λ u.
    leave-changes (λ w out. passed-out w ino place out))

dispatch-all : (ino place : ℕ) →
    Leaves AllWork (λ u. IsAllOut ino place) AllWork (dispatch ino place)
dispatch-all ino place =
    leave-weaker {P = λ w. (IsShown w × AllWork w) × True w}
    (λ w all. ((all.shown, all), tt)) (λ u w q. q) (λ w e. e.0)
    (leave-both
    (part-all (keep-dispatch ino place)
    (leave-kept (kept-dispatch (law_of (reached_law 0)) ino place)) (open-dispatch ino place))
    (dispatch-out ino place))

pub job-all : (ino place : ℕ) → Leaves AllWork (λ more. AllWork) AllWork (run_job ino place)
job-all ino place =
    leave-then {Q = λ u. IsAllOut ino place} (dispatch-all ino place) (λ u.
    leave-look (λ x.
    leave-then {Q = λ v. IsAllOut ino place}
    (leave-weaker {P = IsAllOut ino place} (λ w holds. holds.1) (λ v w q. q) (λ w e. e)
    (leave-mends
    (leave-replicate (left_at x ino place) place _ (apply-all ino place)) (back-all ino place)
    (λ w all. all))) (λ v.
    finish-all ino place)))

-- ---- items that are passed over

-- a core is the same where its file was passed over
same-head : (b : Bool) (f : File) (passed : ℕ → ℕ) (o : Option File) →
    (unwrap_or (cond b (Some (record f { passed = passed })) o) (new_file 0 0)).core
    ≡ (unwrap_or (cond b (Some f) o) (new_file 0 0)).core
same-head true f passed o = refl
same-head false f passed o = refl

same-rest : (b : Bool) (g : File) (one other : Option File) →
    (unwrap_or one (new_file 0 0)).core ≡ (unwrap_or other (new_file 0 0)).core →
    (unwrap_or (cond b (Some g) one) (new_file 0 0)).core
    ≡ (unwrap_or (cond b (Some g) other) (new_file 0 0)).core
same-rest true g one other same = refl
same-rest false g one other same = same

same-cores : (i j : ℕ) (passed : ℕ → ℕ) (files : List File) (f : File) → HaveOwnNumbers files →
    find (λ g. g.ino == i) files ≡ Some f →
    (unwrap_or (find (λ g. g.ino == j) (map (replaces (record f { passed = passed })) files))
    (new_file 0 0)).core
    ≡ (unwrap_or (find (λ g. g.ino == j) files) (new_file 0 0)).core
same-cores i j passed [] f own is = absurd (cc)
same-cores i j passed (g ∷ files) f own is =
    pick (g.ino == i) refl (λ later. same-cores i j passed files f own.1 later) is
  where
    new : File
    new = record f { passed = passed }

    pick : (b : Bool) → (g.ino == i) ≡ b →
        (find (λ h. h.ino == i) files ≡ Some f →
        (unwrap_or (find (λ h. h.ino == j) (map (replaces new) files)) (new_file 0 0)).core
        ≡ (unwrap_or (find (λ h. h.ino == j) files) (new_file 0 0)).core) →
        cond b (Some g) (find (λ h. h.ino == i) files) ≡ Some f →
        (unwrap_or (find (λ h. h.ino == j) (map (replaces new) (g ∷ files))) (new_file 0 0)).core
        ≡ (unwrap_or (find (λ h. h.ino == j) (g ∷ files)) (new_file 0 0)).core
    pick true here rest now =
        let same : g ≡ f = cc in
        ap (λ b. (unwrap_or (find (λ h. h.ino == j)
        ((if b then new else g) ∷ map (replaces new) files)) (new_file 0 0)).core)
        (eq-eqb g.ino f.ino (ap (λ (h : File). h.ino) same))
        ∙ ap (λ (list : List File).
        (unwrap_or (find (λ h. h.ino == j) (new ∷ list)) (new_file 0 0)).core)
        (none-replaced new files
        (subst (λ (h : File). OfEachFile (λ e. e.ino ≢ h.ino) files) same own.0))
        ∙ same-head (f.ino == j) f passed (find (λ h. h.ino == j) files)
        ∙ ap (λ (h : File). (unwrap_or (cond (h.ino == j) (Some h)
        (find (λ e. e.ino == j) files)) (new_file 0 0)).core) (sym same)
    pick false here rest now =
        let number : f.ino ≡ i =
        found-number i files f now in
        ap (λ b. (unwrap_or (find (λ h. h.ino == j)
        ((if b then new else g) ∷ map (replaces new) files)) (new_file 0 0)).core)
        (ne_eqb g.ino f.ino (λ same. eqb-false g.ino i here (same ∙ number)))
        ∙ same-rest (g.ino == j) g (find (λ h. h.ino == j) (map (replaces new) files))
        (find (λ h. h.ino == j) files) (rest now)

-- what is left as it was where items were passed over
record IsPassed (old new : World) : Type 0 where
  pub all : AllWork new
  pub cores : (j : ℕ) → core_in new j ≡ core_in old j

passed-core : (w : World) (i place n j : ℕ) → IsShown w →
    core_in (with_file (with_passed place n (file_in w i)) w) j ≡ core_in w j
passed-core w i place n j shown = by-find (find_file w i) refl
  where
    by-find : (o : Option File) → find_file w i ≡ o →
        core_in (with_file (with_passed place n (file_in w i)) w) j ≡ core_in w j
    by-find None is =
        let number : (file_in w i).ino ≡ 0 = ap (λ o. (unwrap_or o (new_file 0 0)).ino) is in
        ap (λ (files : List File).
        (unwrap_or (find (λ f. f.ino == j) files) (new_file 0 0)).core)
        (none-replaced (with_passed place n (file_in w i)) w.files
        (files-map _ _ (λ f placed same. placed.number (same ∙ number)) w.files shown.placed))
    by-find (Some f) is =
        let found : file_in w i ≡ f = ap (λ o. unwrap_or o (new_file 0 0)) is in
        same-cores i j (with_passed place n (file_in w i)).passed w.files (file_in w i)
        shown.numbers (is ∙ ap (λ g. Some g) (sym found))

passed-one : (w : World) (i place n : ℕ) → AllWork w →
    IsPassed w (with_file (with_passed place n (file_in w i)) w)
passed-one w i place n all = record {
  all = record {
    shown = passed-shown i place n w all.shown;
    reached = (quiet-passed i place n w).cores (λ ino core. IsReached core)
        (λ ino. empty-reached) all.reached;
    open_ = open-with w (with_passed place n (file_in w i)) (open-file w i all.open_) all.open_;
  };
  cores = λ j. passed-core w i place n j all.shown;
}

pass-one : (x y : Item) (w : World) → AllWork w → IsPassed w (pass_over x y w)
pass-one x y w all = by-test ((x.ino == y.ino) && (x.place == y.place))
  where
    by-test : (b : Bool) → IsPassed w (if b then w
        else with_file (with_passed y.place (once_more ((file_in w y.ino).passed y.place))
        (file_in w y.ino)) w)
    by-test true = record { all = all; cores = λ j. refl }
    by-test false = passed-one w y.ino y.place _ all

pass-all : (x : Item) (ys : List Item) (w : World) → AllWork w → IsPassed w (pass_over_all x ys w)
pass-all x [] w all = record { all = all; cores = λ j. refl }
pass-all x (y ∷ ys) w all =
    let one = pass-one x y w all in
    let more = pass-all x ys (pass_over x y w) one.all in
    record { all = more.all; cores = λ j. more.cores j ∙ one.cores j }

-- ---- the chosen item

abbrev EachItem : (Item → Type 0) → List Item → Type 0
EachItem P [] = Unit {0}
EachItem P (y ∷ ys) = P y × EachItem P ys

each-joined : (P : Item → Type 0) (one other : List Item) → EachItem P one → EachItem P other →
    EachItem P (one ++ other)
each-joined P [] other all more = more
each-joined P (y ∷ one) other all more = (all.0, each-joined P one other all.1 more)

each-number : (P : Item → Type 0) (f : ℕ → List Item) (numbers : List ℕ) →
    ((n : ℕ) → EachItem P (f n)) → EachItem P (flat_map f numbers)
each-number P f [] all = tt
each-number P f (n ∷ numbers) all =
    each-joined P (f n) (flat_map f numbers) (all n) (each-number P f numbers all)

each-file : (P : Item → Type 0) (test : File → Bool) (files : List File) →
    OfEachFile (λ f. EachItem P (work_of f)) files →
    EachItem P (flat_map work_of (filter test files))
each-file P test [] all = tt
each-file P test (f ∷ files) all = by-test (test f) (each-file P test files all.1)
  where
    by-test : (b : Bool) → EachItem P (flat_map work_of (filter test files)) →
        EachItem P (flat_map work_of (cond b (f ∷ filter test files) (filter test files)))
    by-test true rest =
        each-joined P (work_of f) (flat_map work_of (filter test files)) all.0 rest
    by-test false rest = rest

each-best : (P : Item → Type 0) (x : Item) (ys : List Item) → P x → EachItem P ys → P (best x ys)
each-best P x [] here all = here
each-best P x (y ∷ ys) here all =
    each-best P (if comes_first y x then y else x) ys (either (comes_first y x)) all.1
  where
    either : (b : Bool) → P (if b then y else x)
    either true = all.0
    either false = here

each-chosen : (P : Item → Type 0) (items : List Item) (x : Item) → EachItem P items →
    chosen items ≡ Some x → P x
each-chosen P [] x all is = absurd (cc)
each-chosen P (first ∷ rest) x all is =
    let same : best first rest ≡ x = cc in
    subst P same (each-best P first rest all.0 all.1)

-- each file is found by its number
own-found : (files : List File) → HaveOwnNumbers files →
    OfEachFile (λ f. find (λ g. g.ino == f.ino) files ≡ Some f) files
own-found [] own = tt
own-found (f ∷ files) own = (
  ap (λ b. cond b (Some f) (find (λ g. g.ino == f.ino) files)) (eq-eqb f.ino f.ino refl),
  files-both (λ g. g.ino ≢ f.ino) (λ g. find (λ h. h.ino == g.ino) files ≡ Some g) _
      (λ g other is.
      ap (λ b. cond b (Some f) (find (λ h. h.ino == g.ino) files))
      (ne_eqb f.ino g.ino (λ same. other (sym same))) ∙ is) files own.0 (own-found files own.1),
)

-- a no-op among the work is one
abbrev IsTrulyNoop : World → Item → Type 0
IsTrulyNoop w y =
    y.noop ≡ true → is_noop (track (core_in w y.ino).tracks y.place).state ≡ true

noop-at : (w : World) (f : File) → core_in w f.ino ≡ f.core → (place : ℕ) →
    EachItem (IsTrulyNoop w) (work_at f place)
noop-at w f same place =
    by-noop (is_noop (track f.core.tracks place).state) refl (is_ready (verdict f.core place))
  where
    by-noop : (b : Bool) → is_noop (track f.core.tracks place).state ≡ b → (ready : Bool) →
        EachItem (IsTrulyNoop w)
        (if b then item f place true ∷ [] else (if ready then item f place false ∷ [] else []))
    by-noop true is ready = (
      λ noop. subst (λ (c : Core). is_noop (track c.tracks place).state ≡ true) (sym same) is,
      tt,
    )
    by-noop false is true = (λ noop. absurd (cc), tt)
    by-noop false is false = tt

noops-are : (w : World) → IsShown w → EachItem (IsTrulyNoop w) (work w)
noops-are w shown =
    each-number (IsTrulyNoop w) _ (range_with_len 0 256) (λ rec.
    each-file (IsTrulyNoop w) (λ f. f.rec == rec) w.files
    (files-map _ (λ f. EachItem (IsTrulyNoop w) (work_of f))
    (λ f is.
    each-number (IsTrulyNoop w) (work_at f) (range_with_len 1 (length f.core.tracks))
    (noop-at w f (ap (λ o. (unwrap_or o (new_file 0 0)).core) is))) w.files
    (own-found w.files shown.numbers)))

-- ---- turns

pub skip-all : (ino place : ℕ) →
    Leaves (λ w. AllWork w × (is_noop (track (core_in w ino).tracks place).state ≡ true))
    (λ u. AllWork) AllWork (skip ino place)
skip-all ino place =
    leave-weaker {P = λ w. AtNoop ino place w × AllWork w}
    (λ w holds. (record { work = at-work w ino holds.0; idle = holds.1 }, holds.0))
    (λ u w q. q) (λ w e. e)
    (part-all (skip-shown ino place) (leave-kept (kept-skip (law_of (reached_law 0)) ino place))
    (open-skip ino place))

item-all : (x : Item) →
    Leaves (λ w. AllWork w × IsTrulyNoop w x) (λ u. AllWork) AllWork (do_item x)
item-all x = by-noop x.noop refl
  where
    by-noop : (b : Bool) → x.noop ≡ b →
        Leaves (λ w. AllWork w × IsTrulyNoop w x) (λ u. AllWork) AllWork
        (choose b (skip x.ino x.place)
        (run_job x.ino x.place >> done))
    by-noop true is =
        leave-weaker
        {P = λ w. AllWork w × (is_noop (track (core_in w x.ino).tracks x.place).state ≡ true)}
        (λ w holds. (holds.0, holds.1 is)) (λ u w q. q) (λ w e. e) (skip-all x.ino x.place)
    by-noop false is =
        leave-then {Q = λ more. AllWork}
        (leave-weaker {P = AllWork} (λ w holds. holds.0) (λ u w q. q) (λ w e. e)
        (job-all x.ino x.place)) (λ more. leave-give (λ w all. all))

turn-all : Leaves AllWork (λ o. AllWork) AllWork turn
turn-all = leave-look (λ x. by-choice x (chosen (work x)) refl)
  where
    by-choice : (x : World) (o : Option Item) → chosen (work x) ≡ o →
        Leaves (λ w. (w ≡ x) × AllWork w) (λ t. AllWork) AllWork (take_turn o)
    by-choice x None is = leave-give (λ w holds. holds.1)
    by-choice x (Some y) is =
        leave-then {Q = λ u w. AllWork w × IsTrulyNoop w y}
        (leave-changes (λ w holds.
        let over = pass-all y (work w) w holds.1 in
        let chosen_is : chosen (work w) ≡ Some y =
        ap (λ v. chosen (work v)) holds.0 ∙ is in
        let truly =
        each-chosen (IsTrulyNoop w) (work w) y (noops-are w holds.1.shown) chosen_is in (
          over.all,
          λ noop.
              subst (λ (c : Core). is_noop (track c.tracks y.place).state ≡ true)
              (sym (over.cores y.ino)) (truly noop),
        ))) (λ u.
        leave-then {Q = λ v. AllWork} (item-all y) (λ v. leave-give (λ w all. all)))

pub turn-shown : Leaves AllWork (λ answer. IsShown) IsShown turn_line
turn-shown =
    leave-then {Q = λ o. IsShown}
    (leave-weaker {P = AllWork} (λ w all. all) (λ o w all. all.shown) (λ w all. all.shown)
    turn-all) said
  where
    said : (o : Option Item) → Leaves IsShown (λ answer. IsShown) IsShown (say_turn o)
    said None = leave-end (λ w shown. shown)
    said (Some y) = leave-give (λ w shown. shown)

trims-all : (inos : List ℕ) (freed : ℕ) →
    Leaves AllWork (λ n. AllWork) AllWork (trim_each inos freed)
trims-all [] freed = leave-give (λ w all. all)
trims-all (ino ∷ inos) freed =
    leave-then {Q = λ n. AllWork} (leave-repeats (trim-all ino)) (λ n.
    trims-all inos (freed + n))

pub drain-shown : Leaves AllWork (λ answer. IsShown) IsShown drain
drain-shown =
    leave-weaker {P = AllWork} {Q = λ answer. AllWork} (λ w all. all)
    (λ answer w all. all.shown) (λ w all. all.shown)
    (leave-then {Q = λ turns. AllWork}
    (leave-repeats
    (leave-then {Q = λ o. AllWork} turn-all (λ o. leave-give (λ w all. all)))) (λ turns.
    leave-look (λ x.
    leave-then {Q = λ freed. AllWork}
    (leave-weaker {P = AllWork} (λ w holds. holds.1) (λ n w q. q) (λ w e. e)
    (trims-all (files_there x) 0)) (λ freed.
    leave-give (λ w all. all)))))
