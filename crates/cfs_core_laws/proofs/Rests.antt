-- Cores that begin anew: after a mount, and where the log is at rest.
use Rattle.std.proofs.Common.{◌≡◌, inl, inr, ℕ, suc, zero, ◌-◌, ◌/◌, ◌<◌, ◌≤◌, ◌==◌, Bool, true, false, ◌&&◌, not, cond, Option, Some, None, List, [], ◌∷◌, ◌++◌, length, map, take, get_or, arith, refl, sym, ap, ◌∙◌, nat_lt, nat_le}
use Rattle.std.specs.List.{list_all}
use Rattle.std.proofs.lemmas.Bool.{cases_lt}
use Rattle.std.proofs.lemmas.Bool.Decides.{nat_tests}
use Rattle.std.proofs.lemmas.List.{append-nil, take_all}
use Rattle.cfs_file.specs.declared.sizes.TheConstants.{BLOCK_LEN}
use Rattle.cfs_file.specs.declared.entry.Entry.{Entry}
use Rattle.cfs_file.specs.Span.{Holds}
use Rattle.cfs_file.specs.File.{IsFile}
use Rattle.cfs_file.specs.Log.{file_of}
use Rattle.cfs_core.specs.declared.doubt.Doubt.{Doubt}
use Rattle.cfs_core.specs.declared.flag.Flag.{Flag}
use Rattle.cfs_core.specs.declared.flag.Flag.TheVariants.{Off, On, Unsure}
use Rattle.cfs_core.specs.declared.state.State.{State}
use Rattle.cfs_core.specs.declared.state.State.TheVariants.{Waiting, Out, Noop, Unserved, Closed}
use Rattle.cfs_core.specs.declared.stretch.Stretch.{Stretch}
use Rattle.cfs_core.specs.declared.track.Track.{Track}
use Rattle.cfs_core.specs.declared.image.Image.{Image}
use Rattle.cfs_core.specs.declared.event.Event.{Event}
use Rattle.cfs_core.specs.declared.event.Event.TheVariants as events
use Rattle.cfs_core.specs.declared.event.End.TheVariants as ends
use Rattle.cfs_core.specs.declared.event.SizeEnd.TheVariants as sizes
use Rattle.cfs_core.specs.declared.inode_core.Core.{Core}
use Rattle.cfs_core.specs.Fresh.{IsFresh}
use Rattle.cfs_core.specs.Good.{IsGood}
use Rattle.cfs_core.specs.Words.{blank, can_be, flag_of, is_live, is_off, is_on, track}
use Rattle.cfs_core.specs.Medium.{agree, bytes_agree, doubt_gate, file, gates_agree, image_now, in_doubt, is_image, is_loose, is_open, is_size, marks_agree, recovered, rests, rests_as, stored_byte}
use Rattle.cfs_core.specs.May.{is_written, may}
use Rattle.cfs_core.specs.After.{after}
use Rattle.cfs_core.specs.Opened.{is_admission, live_tracks, opened}
use Rattle.cfs_core.specs.Run.{IsRun, after_all}
use Rattle.cfs_core.proofs.Goods.{good-kept}
use Rattle.cfs_core.proofs.Images.{image_now-is}
use Rattle.cfs_core.proofs.Kept.{IsFree, IsKept, IsLive, at}
use Rattle.cfs_core.proofs.KeptRuns.{kept-after, mount-fits}
use Rattle.cfs_core.proofs.Legal.{and_all, both, same_number}
use Rattle.cfs_core.proofs.Opened.{opens-well}
use Rattle.cfs_core.proofs.Registers.{file_at-all}
use Rattle.cfs_core.proofs.StoredFrames.{no_clash, now_size, same_test}
use Rattle.cfs_core_laws.specs.Reached.{IsReached, opens}
use Rattle.cfs_core_laws.specs.Rest.{IsAtRest, is_closed, is_of_a_job, restarted, without_log}
use Rattle.cfs_core_laws.proofs.Blanks.{is_long}
use Rattle.cfs_core_laws.proofs.Openings.{Each, each-at, each-live}
use Rattle.cfs_core_laws.proofs.Whole.{IsWhole, run-reached, sure-map, whole}

-- ---- a mount

unsure : (f : Flag) → is_off f ≡ true → is_on f ≡ false
unsure Off h = refl
unsure On h = cc
unsure Unsure h = cc

pub mounted-fresh : (core : Core) → IsWhole core → core.crashed ≡ true →
    may core events.Mount ≡ true → IsFresh (after core events.Mount)
mounted-fresh core is down may_be = record {
  fits = mount-fits core is.kept;
  log = refl;
  tracks = refl;
  doubt = refl;
  size = refl;
  sizes = refl;
  blocks = is.kept.blocks;
  tags = is.sure down;
  bytes = λ p. new.stored_.rests_free 0 p (inl refl) (λ i less live alters. absurd (omega arith));
  blank = λ p off. zero_byte (get_or core.tags (p / BLOCK_LEN) Off)
      (get_or (recovered core (image_now core)) p 0)
      (unsure (get_or core.tags (p / BLOCK_LEN) Off) off)
      (new.stored_.rests_free 0 p (inl refl) (λ i less live alters. absurd (omega arith)));
  loose = refl;
  up = refl;
}
  where
    new : IsKept (after core events.Mount)
    new = kept-after core events.Mount is.kept refl

    zero_byte : (tag : Flag) (byte : ℕ) → is_on tag ≡ false → rests_as tag false byte byte ≡ true →
        byte ≡ 0
    zero_byte Off byte none h = same_number byte 0 h
    zero_byte On byte none h = cc
    zero_byte Unsure byte none h = same_number byte 0 (both (byte == byte) (byte == 0) h).1

-- ---- a core at rest

closed-dead : (s : State) → is_closed s ≡ true → is_live s ≡ false
closed-dead Waiting h = cc
closed-dead (Out job) h = cc
closed-dead Noop h = cc
closed-dead Unserved h = cc
closed-dead Closed h = refl

all-closed : (ts : List Track) (k : ℕ) → list_all (λ t. is_closed t.state) ts ≡ true →
    is_closed (get_or ts k blank).state ≡ true
all-closed [] k h = refl
all-closed (t ∷ ts) zero h = (both (is_closed t.state) (list_all (λ u. is_closed u.state) ts) h).0
all-closed (t ∷ ts) (suc k) h =
    all-closed ts k (both (is_closed t.state) (list_all (λ u. is_closed u.state) ts) h).1

none-live : (core : Core) → IsAtRest core → (k : ℕ) → IsLive core k → ⊥
none-live core rest k live = no_clash (is_live (at core k).state) live
    (closed-dead (at core k).state (all-closed core.tracks k rest.closed))

free : (core : Core) → IsAtRest core → (p : ℕ) → IsFree core (length core.log) p
free core rest p i less live alters = none-live core rest i live

rests-file : (core : Core) → IsKept core → IsAtRest core → (p : ℕ) →
    rests core p (get_or (file core) p 0) ≡ true
rests-file core kept rest p =
    rw (← (file_at-all core))
    (kept.stored_.rests_free (length core.log) p (inl refl) (free core rest p))

-- each size is the file's
size-is : (core : Core) → IsKept core → IsAtRest core → (s : ℕ) → is_size core s ≡ true →
    s ≡ length (file core)
size-is core kept rest s is = elim (cases_lt s (length (file core))) [
  | inl short ↦
      let here : nat_lt s s ≡ nat_lt s (length (file core)) = same s in
      absurd (omega (arith, below s (length (file core)) here short))
  | inr up ↦ elim (cases_lt (length (file core)) s) [
    | inl long ↦
        let here : nat_lt (length (file core)) s ≡ nat_lt (length (file core))
        (length (file core)) = same (length (file core)) in
        absurd (omega (arith, below (length (file core)) s (sym here) long))
    | inr down ↦ omega arith
  ]
]
  where
    same : (p : ℕ) → nat_lt p s ≡ nat_lt p (length (file core))
    same p = kept.stored_.long s p is (λ i live. absurd (none-live core rest i live))

    below : (a b : ℕ) → nat_lt a a ≡ nat_lt a b → a < b → a < a
    below a b eq less = grind (arith, nat_tests)

-- no stretch is left
calm : (core : Core) → IsWhole core → IsAtRest core → core.loose ≡ []
calm core is rest = by core.loose refl
  where
    none : (p : ℕ) → is_loose core.loose p ≡ true → is_written core.loose (p / BLOCK_LEN) ≡ true → ⊥
    none p loose busy = on (get_or core.tags (p / BLOCK_LEN) Off) refl
      where
        on : (f : Flag) → get_or core.tags (p / BLOCK_LEN) Off ≡ f → ⊥
        on Off is_off_ =
            let off : is_on (get_or core.tags (p / BLOCK_LEN) Off) ≡ false = rw is_off_ refl in
            no_clash (is_written core.loose (p / BLOCK_LEN)) busy
            (is.work.blocks.1.blanks (p / BLOCK_LEN) off).calm
        on On is_on_ =
            let own : rests_as On true (get_or core.bytes p 0) (get_or (file core) p 0) ≡ true =
            rw (is_on_, loose) at (rests-file core is.kept rest p) in
            cc
        on Unsure is_unsure =
            let off : is_on (get_or core.tags (p / BLOCK_LEN) Off) ≡ false = rw is_unsure refl in
            no_clash (is_written core.loose (p / BLOCK_LEN)) busy
            (is.work.blocks.1.blanks (p / BLOCK_LEN) off).calm

    by : (loose : List Stretch) → core.loose ≡ loose → loose ≡ []
    by [] same = refl
    by (s ∷ ss) same =
        let long : list_all is_long (s ∷ ss) ≡ true = rw same at is.work.blocks.1.long in
        let first : nat_lt s.from s.to ≡ true =
        (both (nat_lt s.from s.to) (list_all is_long ss) long).0 in
        let low : nat_le s.from s.from ≡ true = self s.from in
        let here : (s.from / BLOCK_LEN == s.from / BLOCK_LEN) ≡ true =
        same_test (s.from / BLOCK_LEN) (s.from / BLOCK_LEN) refl in
        let is_loose_ : is_loose core.loose s.from ≡ true = rw (same, low, first) refl in
        let busy : is_written core.loose (s.from / BLOCK_LEN) ≡ true = rw (same, here) refl in
        absurd (none s.from is_loose_ busy)
      where
        self : (n : ℕ) → nat_le n n ≡ true
        self n = grind (arith, nat_tests)

file-fits : (core : Core) → IsKept core → IsFile (file core)
file-fits core kept =
    let all : take (length core.log) core.log ≡ core.log = take_all (length core.log) core.log
    (omega arith) in
    rw all at (kept.legal.files (length core.log) (omega arith))

pub rested-fresh : (core : Core) → IsWhole core → IsAtRest core → IsFresh (restarted core)
rested-fresh core is rest = record {
  fits = file-fits core is.kept;
  log = refl;
  tracks = refl;
  doubt = rest.doubt;
  size = size-is core is.kept rest core.size (now_size core);
  sizes = refl;
  blocks = is.kept.blocks;
  tags = rest.tags;
  bytes = λ p. rests-file core is.kept rest p;
  blank = λ p off.
      (is.work.blocks.1.blanks (p / BLOCK_LEN)
      (unsure (get_or core.tags (p / BLOCK_LEN) Off) off)).zeros p refl;
  loose = calm core is rest;
  up = rest.up;
}

pub rested-image : (core : Core) → IsWhole core → IsAtRest core → (image : Image) →
    is_image core image ≡ true → is_image (restarted core) (without_log image) ≡ true
rested-image core is rest image h =
    let a = both (is_size core image.size)
    (agree core.tags image.tags &&
    (bytes_agree core image.bytes &&
    (gates_agree core.tracks image.gates &&
    (marks_agree core.tracks image.marks && can_be (doubt_gate core.doubt) image.doubt)))) h in
    let b = both (agree core.tags image.tags)
    (bytes_agree core image.bytes &&
    (gates_agree core.tracks image.gates &&
    (marks_agree core.tracks image.marks && can_be (doubt_gate core.doubt) image.doubt))) a.1 in
    let c = both (bytes_agree core image.bytes)
    (gates_agree core.tracks image.gates &&
    (marks_agree core.tracks image.marks && can_be (doubt_gate core.doubt) image.doubt)) b.1 in
    let d = both (gates_agree core.tracks image.gates)
    (marks_agree core.tracks image.marks && can_be (doubt_gate core.doubt) image.doubt) c.1 in
    let e = both (marks_agree core.tracks image.marks) (can_be (doubt_gate core.doubt) image.doubt)
    d.1 in
    let same : image.size ≡ core.size = size-is core is.kept rest image.size a.0
    ∙ sym (size-is core is.kept rest core.size (now_size core)) in
    let test : (image.size == core.size) ≡ true = same_test image.size core.size same in
    rw (test, b.0, c.0, e.1) refl

-- ---- an image

-- a track of the opened core that has the position is one of what is live in the image
pub clean : (core : Core) (image : Image) → IsWhole core → is_image core image ≡ true → (p : ℕ) →
    image.size ≤ p →
    ((place : ℕ) → is_open image place ≡ true → Holds (track core.tracks place).span p → ⊥) →
    ((doubt : Doubt) → core.doubt ≡ Some doubt → image.doubt ≡ true → Holds doubt.span p → ⊥) →
    stored_byte image p ≡ 0
clean core image is h p past logged doubted =
    let good : IsGood (opened core image) = (opens-well core is.kept is.fit image h).good [] tt in
    sym same ∙ good.zero_past (image_now (opened core image)) p (image_now-is (opened core image))
    past (λ place live holds. none place holds)
  where
    each : Each (λ t. Holds t.span p → ⊥) (live_tracks core image)
    each = each-live (λ t. Holds t.span p → ⊥) core image
        (λ place is_open_ holds. logged place is_open_ holds)
        (λ doubt is_there gate holds. doubted doubt is_there gate holds)

    none : (place : ℕ) → Holds (track (opened core image).tracks place).span p → ⊥
    none place holds = by (place == 0) refl
      where
        by : (b : Bool) → (place == 0) ≡ b → ⊥
        by true zero_is = let own : Holds blank.span p = rw zero_is at holds in own
        by false some =
            let there : Holds (get_or (live_tracks core image) (place - 1) blank).span p =
            rw some at holds in
            each-at (λ t. Holds t.span p → ⊥) (live_tracks core image) (place - 1) each
            (λ nothing. nothing) there

    tags-now : (bits : List Bool) → map (λ flag. is_on flag) (map (λ bit. flag_of bit) bits) ≡ bits
    tags-now [] = refl
    tags-now (true ∷ bits) = ap (λ (bs : List Bool). true ∷ bs) (tags-now bits)
    tags-now (false ∷ bits) = ap (λ (bs : List Bool). false ∷ bs) (tags-now bits)

    same : stored_byte (image_now (opened core image)) p ≡ stored_byte image p
    same = ap (λ (bits : List Bool). if-tagged (get_or bits (p / BLOCK_LEN) false))
        (tags-now image.tags)
      where
        if-tagged : Bool → ℕ
        if-tagged b = cond b (get_or image.bytes p 0) 0

-- ---- the entries of an image are brought home

pub brought-home : (core : Core) (image : Image) (steps : List Event) → IsReached core →
    is_image core image ≡ true →
    IsRun (opened core image) steps → list_all (λ e. not (is_admission e)) steps ≡ true →
    IsAtRest (after_all (opened core image) steps) →
    file (after_all (opened core image) steps) ≡ recovered core image
brought-home core image steps reached h run quiet rest =
    let is = whole reached in
    let last : Core = after_all (opened core image) steps in
    let end = whole (run-reached (opened core image) steps (opens core image reached h) run) in
    let good = good-kept last end.kept in
    let found : recovered last (image_now last) ≡ file_of last.base
    (last.log ++ in_doubt last.doubt (image_now last).doubt) = good.recovers (image_now last)
    (image_now-is last) in
    let none : last.log ++ in_doubt last.doubt (image_now last).doubt ≡ last.log =
    no-doubt last.doubt last.log (image_now last).doubt rest.doubt in
    sym (found ∙ ap (λ (log : List Entry). file_of last.base log) none)
    ∙ (opens-well core is.kept is.fit image h).again steps (image_now last) run quiet
    (image_now-is last)
  where
    no-doubt : (o : Option Doubt) (log : List Entry) (gate : Bool) → o ≡ None →
        log ++ in_doubt o gate ≡ log
    no-doubt None log gate is = append-nil log
    no-doubt (Some doubt) log gate is = cc

-- ---- by jobs alone

-- what a job leaves as it is
record Leaves (core new : Core) : Type 0 where
  up : new.crashed ≡ core.crashed
  doubt : new.doubt ≡ core.doubt
  tags : new.tags ≡ core.tags

leaves : (core : Core) (event : Event) → is_of_a_job event ≡ true → Leaves core (after core event)
leaves core (events.Tag block kept) h = cc
leaves core (events.Admit entry grant kept) h = cc
leaves core (events.AdmitRead entry) h = cc
leaves core (events.Serve place answer) h = cc
leaves core (events.Mark place by kept) h = cc
leaves core (events.Dispatch place) h = record { up = refl; doubt = refl; tags = refl }
leaves core (events.BlockWrite place block None) h =
    record { up = refl; doubt = refl; tags = refl }
leaves core (events.BlockWrite place block (Some left)) h =
    record { up = refl; doubt = refl; tags = refl }
leaves core (events.Flush place block true) h = record { up = refl; doubt = refl; tags = refl }
leaves core (events.Flush place block false) h = record { up = refl; doubt = refl; tags = refl }
leaves core (events.Finish place ends.Retired) h =
    record { up = refl; doubt = refl; tags = refl }
leaves core (events.Finish place ends.More) h = record { up = refl; doubt = refl; tags = refl }
leaves core (events.Finish place (ends.Back sizes.AsBefore gate applied)) h =
    record { up = refl; doubt = refl; tags = refl }
leaves core (events.Finish place (ends.Back sizes.Set gate applied)) h =
    record { up = refl; doubt = refl; tags = refl }
leaves core (events.Finish place (ends.Back sizes.Either gate applied)) h =
    record { up = refl; doubt = refl; tags = refl }
leaves core (events.Skip place) h = cc
leaves core (events.Trim block kept) h = cc
leaves core events.Settle h = cc
leaves core (events.Crash image) h = cc
leaves core events.Mount h = cc

leaves-all : (core : Core) (steps : List Event) → list_all is_of_a_job steps ≡ true →
    Leaves core (after_all core steps)
leaves-all core [] h = record { up = refl; doubt = refl; tags = refl }
leaves-all core (event ∷ steps) h =
    let parts = both (is_of_a_job event) (list_all is_of_a_job steps) h in
    let first = leaves core event parts.0 in
    let rest = leaves-all (after core event) steps parts.1 in
    record {
      up = rest.up ∙ first.up;
      doubt = rest.doubt ∙ first.doubt;
      tags = rest.tags ∙ first.tags;
    }

not-asked : (event : Event) → is_of_a_job event ≡ true → not (is_admission event) ≡ true
not-asked (events.Tag block kept) h = refl
not-asked (events.Admit entry grant kept) h = cc
not-asked (events.AdmitRead entry) h = refl
not-asked (events.Serve place answer) h = refl
not-asked (events.Mark place by kept) h = refl
not-asked (events.Dispatch place) h = refl
not-asked (events.BlockWrite place block left) h = refl
not-asked (events.Flush place block ok) h = refl
not-asked (events.Finish place end) h = refl
not-asked (events.Skip place) h = refl
not-asked (events.Trim block kept) h = refl
not-asked events.Settle h = refl
not-asked (events.Crash image) h = refl
not-asked events.Mount h = refl

none-asked : (steps : List Event) → list_all is_of_a_job steps ≡ true →
    list_all (λ e. not (is_admission e)) steps ≡ true
none-asked [] h = refl
none-asked (event ∷ steps) h =
    let parts = both (is_of_a_job event) (list_all is_of_a_job steps) h in
    and_all (not (is_admission event)) (list_all (λ e. not (is_admission e)) steps)
    (not-asked event parts.0) (none-asked steps parts.1)

pub brought-fresh : (core : Core) (image : Image) (steps : List Event) → IsReached core →
    is_image core image ≡ true → IsRun (opened core image) steps →
    list_all is_of_a_job steps ≡ true →
    list_all (λ t. is_closed t.state) (after_all (opened core image) steps).tracks ≡ true →
    IsFresh (restarted (after_all (opened core image) steps))
    × ((restarted (after_all (opened core image) steps)).base ≡ recovered core image)
brought-fresh core image steps reached h run jobs closed =
    let last : Core = after_all (opened core image) steps in
    let kept = leaves-all (opened core image) steps jobs in
    let rest : IsAtRest last = record {
      up = kept.up;
      closed = closed;
      doubt = kept.doubt;
      tags = rw kept.tags (sure-map image.tags);
    } in
    let end = whole (run-reached (opened core image) steps (opens core image reached h) run) in (
      rested-fresh last end rest,
      brought-home core image steps reached h run (none-asked steps jobs) rest,
    )
