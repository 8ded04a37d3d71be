-- What is open in an image is live, and what is live is open, but where it is applied or a mark was
-- tried.
use Rattle.std.proofs.Common.{◌≡◌, inl, inr, ℕ, ◌-◌, ◌==◌, Bool, true, false, ◌||◌, not, if◌then◌else◌, Option, Some, None, List, [], ◌∷◌, ◌++◌, length, get_or, set, arith, refl, length-append, get_or-set_other}
use Rattle.std.proofs.lemmas.Bool.{cases_lt}
use Rattle.std.proofs.lemmas.Bool.Decides.{nat_tests}
use Rattle.std.proofs.lemmas.Grind.{get_or-set_at}
use Rattle.std.proofs.lemmas.List.{get_or_append_left, get_or-append_right, get_or_past, set_past}
use Rattle.std.proofs.lemmas.List.FromFn.{get_or-map-range_with_len, length-map-range_with_len}
use Rattle.cfs_file.specs.declared.entry.Entry.{Entry}
use Rattle.cfs_core.specs.declared.flag.Flag.{Flag}
use Rattle.cfs_core.specs.declared.flag.Flag.TheVariants.{Off, On, Unsure}
use Rattle.cfs_core.specs.declared.state.State.{State}
use Rattle.cfs_core.specs.declared.state.State.TheVariants.{Waiting, Out, Noop, Unserved, Closed}
use Rattle.cfs_core.specs.declared.track.Track.{Track}
use Rattle.cfs_core.specs.declared.image.Image.{Image}
use Rattle.cfs_core.specs.declared.event.Event.{Event}
use Rattle.cfs_core.specs.declared.event.Event.TheVariants as events
use Rattle.cfs_core.specs.declared.event.End.{End}
use Rattle.cfs_core.specs.declared.event.End.TheVariants as ends
use Rattle.cfs_core.specs.declared.event.SizeEnd.{SizeEnd}
use Rattle.cfs_core.specs.declared.event.SizeEnd.TheVariants as sizes
use Rattle.cfs_core.specs.declared.inode_core.Core.{Core}
use Rattle.cfs_core.specs.Words.{blank, can_be, flag_of, has_block, is_live, is_off, is_on, is_out, is_unserved, is_waiting, sized, track}
use Rattle.cfs_core.specs.Fresh.{IsFresh}
use Rattle.cfs_core.specs.Jobs.{next_job, state_flushed, state_written}
use Rattle.cfs_core.specs.Medium.{bit_at, is_image, is_open}
use Rattle.cfs_core.specs.May.{case, ends_well, keeps_gate, may_finish, may_write, span_now}
use Rattle.cfs_core.specs.After.{admitted, after, block_written, change_track, crashed_to, finished, flushed, logged, marked, more_to_come, put_back, query_track, retired, sure_track, sure_tracks, with_size, with_track}
use Rattle.cfs_core.proofs.Legal.{both}
use Rattle.cfs_core.proofs.Order.{first_of_and, gate_allowed, mark_allowed, as_many, same_or_not, some_place, track_is, writes, serves}

-- A live entry's gate is open in every image, unless it is applied; one that is not live has its
-- gate closed, or its mark set, in every image.
abbrev pub is_sound : Track → Bool
is_sound t = if is_live t.state then t.applied || is_on t.gate else is_off t.gate || is_on t.mark

abbrev pub AreSound : Core → Type 0
AreSound core = (k : ℕ) → is_sound (get_or core.tracks k blank) ≡ true

sound_put : (core : Core) (place : ℕ) (t : Track) → AreSound core → is_sound t ≡ true →
    AreSound (with_track core place t)
sound_put core place t sound h k = elim (same_or_not k (place - 1)) [
  | inl same ↦ elim (cases_lt (place - 1) (length core.tracks)) [
    | inl within ↦
        let now : get_or (set core.tracks (place - 1) t) k blank ≡ t =
        get_or-set_at core.tracks (place - 1) k t blank same within in
        rw now h
    | inr past ↦
        let kept : set core.tracks (place - 1) t ≡ core.tracks =
        set_past core.tracks (place - 1) t past in
        rw kept (sound k)
  ]
  | inr other ↦
      let kept : get_or (set core.tracks (place - 1) t) k blank ≡ get_or core.tracks k blank =
      get_or-set_other core.tracks (place - 1) k t blank other in
      rw kept (sound k)
]

sound_push : (core : Core) (entry : Entry) (t : Track) → AreSound core → is_sound t ≡ true →
    AreSound (logged core entry t)
sound_push core entry t sound h k = elim (cases_lt k (length core.tracks)) [
  | inl within ↦
      let old : get_or (core.tracks ++ t ∷ []) k blank ≡ get_or core.tracks k blank =
      get_or_append_left core.tracks (t ∷ []) blank k within in
      rw old (sound k)
  | inr past ↦ elim (same_or_not k (length core.tracks)) [
    | inl last ↦
        let now : get_or (core.tracks ++ t ∷ []) k blank
        ≡ get_or (t ∷ []) (k - length core.tracks) blank =
        get_or-append_right core.tracks (t ∷ []) (length core.tracks) k blank refl past in
        let at : k - length core.tracks ≡ 0 = omega arith in
        rw (now, at) h
    | inr beyond ↦
        let none : get_or (core.tracks ++ t ∷ []) k blank ≡ blank =
        get_or_past (core.tracks ++ t ∷ []) k blank
        (omega (arith, length-append core.tracks (t ∷ []))) in
        rw none refl
  ]
]

-- the track of a place is sound
pub sound_at : (core : Core) (place : ℕ) → AreSound core → is_sound (track core.tracks place) ≡ true
sound_at core place sound = elim (same_or_not place 0) [
  | inl is_zero ↦ rw is_zero refl
  | inr some ↦ rw (track_is core.tracks place (place - 1) some refl) (sound (place - 1))
]

-- a live state that becomes another
still_live : (t : Track) (s : State) → is_live t.state ≡ true → is_live s ≡ true →
    is_sound t ≡ true → is_sound (record t { state = s }) ≡ true
still_live t s was is sound =
    let open_gate : (t.applied || is_on t.gate) ≡ true = rw was at sound in
    rw is open_gate

-- a state that is not live becomes another
still_dead : (t : Track) (s : State) → is_live t.state ≡ false → is_live s ≡ false →
    is_sound t ≡ true → is_sound (record t { state = s }) ≡ true
still_dead t s was is sound =
    let closed_gate : (is_off t.gate || is_on t.mark) ≡ true = rw was at sound in
    rw is closed_gate

pub waiting_lives : (s : State) → is_waiting s ≡ true → is_live s ≡ true
waiting_lives Waiting h = refl
waiting_lives (Out job) h = cc
waiting_lives Noop h = cc
waiting_lives Unserved h = cc
waiting_lives Closed h = cc

pub out_lives : (s : State) → is_out s ≡ true → is_live s ≡ true
out_lives Waiting h = cc
out_lives (Out job) h = refl
out_lives Noop h = cc
out_lives Unserved h = cc
out_lives Closed h = cc

pub block_lives : (s : State) (block : ℕ) → has_block s block ≡ true → is_live s ≡ true
block_lives Waiting block h = cc
block_lives (Out job) block h = refl
block_lives Noop block h = cc
block_lives Unserved block h = cc
block_lives Closed block h = cc

pub unserved_dead : (s : State) → is_unserved s ≡ true → is_live s ≡ false
unserved_dead Waiting h = cc
unserved_dead (Out job) h = cc
unserved_dead Noop h = refl
unserved_dead Unserved h = refl
unserved_dead Closed h = refl

pub written_lives : (s : State) (block : ℕ) (ok : Bool) → is_live s ≡ true →
    is_live (state_written block ok s) ≡ true
written_lives Waiting block ok h = refl
written_lives (Out job) block ok h = refl
written_lives Noop block ok h = cc
written_lives Unserved block ok h = cc
written_lives Closed block ok h = cc

pub flushed_lives : (s : State) (block : ℕ) → is_live s ≡ true →
    is_live (state_flushed block s) ≡ true
flushed_lives Waiting block h = refl
flushed_lives (Out job) block h = refl
flushed_lives Noop block h = cc
flushed_lives Unserved block h = cc
flushed_lives Closed block h = cc

sound_written : (core : Core) (place block : ℕ) (left : Option (List ℕ)) → AreSound core →
    may_write core place block left ≡ true → AreSound (block_written core place block left)
sound_written core place block None sound h =
    let live = block_lives (track core.tracks place).state block (writes core place block None h) in
    sound_put core place (record (track core.tracks place) {
      state = state_written block true
          (track core.tracks place).state;
    }) sound
    (still_live (track core.tracks place)
    (state_written block true (track core.tracks place).state) live
    (written_lives (track core.tracks place).state block true live) (sound_at core place sound))
sound_written core place block (Some left) sound h =
    let live =
    block_lives (track core.tracks place).state block (writes core place block (Some left) h) in
    sound_put core place (record (track core.tracks place) {
      state = state_written block false
          (track core.tracks place).state;
    }) sound
    (still_live (track core.tracks place)
    (state_written block false (track core.tracks place).state) live
    (written_lives (track core.tracks place).state block false live)
    (sound_at core place sound))

sound_flushed : (core : Core) (place block : ℕ) (ok : Bool) → AreSound core →
    has_block (track core.tracks place).state block ≡ true → AreSound (flushed core place block ok)
sound_flushed core place block false sound h = sound
sound_flushed core place block true sound h =
    let live = block_lives (track core.tracks place).state block h in
    sound_put core place (record (track core.tracks place) {
      state = state_flushed block
          (track core.tracks place).state;
    }) sound
    (still_live (track core.tracks place) (state_flushed block (track core.tracks place).state) live
    (flushed_lives (track core.tracks place).state block live) (sound_at core place sound))

sound_sized : (core : Core) (end : SizeEnd) (size : ℕ) → AreSound core →
    AreSound (with_size core end size)
sound_sized core sizes.AsBefore size sound = sound
sound_sized core sizes.Set size sound = sound
sound_sized core sizes.Either size sound = sound

sound_more : (t : Track) → is_live t.state ≡ true → is_sound t ≡ true →
    is_sound (more_to_come t) ≡ true
sound_more t live sound =
    let open_gate : (t.applied || is_on t.gate) ≡ true = rw live at sound in
    open_gate

sound_back : (core : Core) (place : ℕ) (size : SizeEnd) (gate : Flag) (applied : Bool) →
    ends_well core place (ends.Back size gate applied) ≡ true →
    is_sound (put_back (track core.tracks place) gate applied) ≡ true
sound_back core place size gate true h = refl
sound_back core place size gate false h =
    let kept = both (keeps_gate (track core.tracks place).gate gate) _ h in
    (both (not (track core.tracks place).applied) (is_on gate) kept.1).1

sound_finished : (core : Core) (place : ℕ) (end : End) → AreSound core →
    may_finish core place end ≡ true → AreSound (finished core place (track core.tracks place) end)
sound_finished core place ends.Retired sound h =
    sound_sized (with_track core place (retired (track core.tracks place))) sizes.Set
    (sized core.size (track core.tracks place).span)
    (sound_put core place (retired (track core.tracks place)) sound refl)
sound_finished core place ends.More sound h =
    let parts = both (is_out (track core.tracks place).state) (ends_well core place ends.More) h in
    sound_put core place (more_to_come (track core.tracks place)) sound
    (sound_more (track core.tracks place) (out_lives (track core.tracks place).state parts.0)
    (sound_at core place sound))
sound_finished core place (ends.Back size gate applied) sound h =
    let parts =
    both (is_out (track core.tracks place).state)
    (ends_well core place (ends.Back size gate applied)) h in
    sound_sized (with_track core place (put_back (track core.tracks place) gate applied)) size
    (sized core.size (track core.tracks place).span)
    (sound_put core place (put_back (track core.tracks place) gate applied) sound
    (sound_back core place size gate applied parts.1))

sound_marked : (t : Track) (kept : Bool) → is_live t.state ≡ true → is_sound t ≡ true →
    is_sound (marked t kept) ≡ true
sound_marked t true live sound = refl
sound_marked t false live sound =
    let open_gate : (t.applied || is_on t.gate) ≡ true = rw live at sound in
    rw live open_gate

-- a crash makes words sure, and takes no value that a word has in every image
sure_sound : (s : State) (applied : Bool) (g m : Flag) (gate mark : Bool) → can_be g gate ≡ true →
    can_be m mark ≡ true →
    (if is_live s then applied || is_on g else is_off g || is_on m) ≡ true →
    (if is_live s then applied || is_on (flag_of gate) else is_off (flag_of gate)
    || is_on (flag_of mark)) ≡ true
sure_sound s applied g m gate mark gate_can mark_can h = pick (is_live s) h
  where
    on_stays : (f : Flag) (b : Bool) → can_be f b ≡ true → is_on f ≡ true → is_on (flag_of b) ≡ true
    on_stays Off b can on = cc
    on_stays On true can on = refl
    on_stays On false can on = cc
    on_stays Unsure b can on = cc

    off_stays : (f : Flag) (b : Bool) → can_be f b ≡ true → is_off f ≡ true →
        is_off (flag_of b) ≡ true
    off_stays Off true can off = cc
    off_stays Off false can off = refl
    off_stays On b can off = cc
    off_stays Unsure b can off = cc

    either : (a b c d : Bool) → (a ≡ true → c ≡ true) → (b ≡ true → d ≡ true) → (a || b) ≡ true →
        (c || d) ≡ true
    either true b c d first second either_is = let yes_c : c ≡ true = first refl in rw yes_c refl
    either false b true d first second either_is = refl
    either false b false d first second either_is = second either_is

    pick : (live : Bool) → (if live then applied || is_on g else is_off g || is_on m) ≡ true →
        (if live then applied || is_on (flag_of gate) else is_off (flag_of gate)
        || is_on (flag_of mark)) ≡ true
    pick true is =
        either applied (is_on g) applied (is_on (flag_of gate)) (λ same. same)
        (on_stays g gate gate_can) is
    pick false is =
        either (is_off g) (is_on m) (is_off (flag_of gate)) (is_on (flag_of mark))
        (off_stays g gate gate_can) (on_stays m mark mark_can) is

sound_crash : (core : Core) (image : Image) → AreSound core → is_image core image ≡ true →
    AreSound (crashed_to core image)
sound_crash core image sound h k = elim (cases_lt k (length core.tracks)) [
  | inl within ↦
      let t : Track = get_or core.tracks k blank in
      let now : get_or (sure_tracks core.tracks image.gates image.marks) k blank
      ≡ sure_track (get_or core.tracks k blank) (get_or image.gates k false)
      (get_or image.marks k false) =
      get_or-map-range_with_len (λ j.
      sure_track (get_or core.tracks j blank) (get_or image.gates j false)
      (get_or image.marks j false)) 0 (length core.tracks) k k blank within (omega arith) in
      rw now (sure_sound t.state t.applied t.gate t.mark (get_or image.gates k false)
      (get_or image.marks k false) (gate_allowed core image k h within)
      (mark_allowed core image k h within) (sound k))
  | inr past ↦
      let none : get_or (sure_tracks core.tracks image.gates image.marks) k blank ≡ blank =
      get_or_past (sure_tracks core.tracks image.gates image.marks) k blank
      (omega (
        arith,
        length-map-range_with_len
            (λ j. sure_track (get_or core.tracks j blank) (get_or image.gates j false)
            (get_or image.marks j false)) 0 (length core.tracks),
      )) in
      rw none refl
]

sound_admit : (core : Core) (entry : Entry) (grant : ℕ) (kept : Bool) → AreSound core →
    AreSound (admitted core entry grant kept)
sound_admit core entry grant true sound =
    sound_push core entry (change_track grant (span_now core entry.request)) sound refl
sound_admit core entry grant false sound = sound

pub sound-after : (core : Core) (event : Event) → AreSound core → case core event ≡ true →
    AreSound (after core event)
sound-after core (events.Tag block kept) o h = o
sound-after core (events.Admit entry grant kept) o h = sound_admit core entry grant kept o
sound-after core (events.AdmitRead entry) o h =
    sound_push core entry (query_track (span_now core entry.request)) o refl
sound-after core (events.Serve place answer) o h =
    sound_put core place (record (track core.tracks place) { state = Closed }) o
    (still_dead (track core.tracks place) Closed
    (unserved_dead (track core.tracks place).state (serves core place answer h)) refl
    (sound_at core place o))
sound-after core (events.Mark place by kept) o h =
    sound_put core place (marked (track core.tracks place) kept) o
    (sound_marked (track core.tracks place) kept
    (waiting_lives (track core.tracks place).state
    (first_of_and (is_waiting (track core.tracks place).state) _ h)) (sound_at core place o))
sound-after core (events.Dispatch place) o h =
    sound_put core place (record (track core.tracks place) {
      state = Out
          (next_job core.tags (track core.tracks place));
    }) o
    (still_live (track core.tracks place) (Out (next_job core.tags (track core.tracks place)))
    (waiting_lives (track core.tracks place).state
    (first_of_and (is_waiting (track core.tracks place).state) _ h)) refl
    (sound_at core place o))
sound-after core (events.BlockWrite place block left) o h = sound_written core place block left o h
sound-after core (events.Flush place block ok) o h =
    sound_flushed core place block ok o
    (both _ (has_block (track core.tracks place).state block) h).1
sound-after core (events.Finish place end) o h = sound_finished core place end o h
sound-after core (events.Skip place) o h =
    sound_put core place (retired (track core.tracks place)) o refl
sound-after core (events.Trim block kept) o h = o
sound-after core events.Settle o h = o
sound-after core (events.Crash image) o h = sound_crash core image o h
sound-after core events.Mount o h = λ k. refl

pub sound-empty : (core : Core) → IsFresh core → AreSound core
sound-empty core empty k = rw empty.tracks refl

-- ---- what an image has

pub some_bit : (bits : List Bool) (place : ℕ) → bit_at bits place ≡ true →
    (place ≡ 0 → ⊥) × (get_or bits (place - 1) false ≡ true)
some_bit bits place bit = elim (same_or_not place 0) [
  | inl is_zero ↦ let none : bit_at bits 0 ≡ true = rw is_zero at bit in cc
  | inr some ↦ let test : (place == 0) ≡ false = grind (arith, nat_tests) in (some, rw test at bit)
]

dead_closed : (s : State) (applied : Bool) (g m : Flag) (mark : Bool) → can_be g true ≡ true →
    can_be m mark ≡ true → mark ≡ false →
    (if is_live s then applied || is_on g else is_off g || is_on m) ≡ true → is_live s ≡ true
dead_closed s applied g m mark gate_can mark_can unmarked h =
    pick (is_live s) g m mark gate_can mark_can unmarked h
  where
    pick : (live : Bool) (f n : Flag) (b : Bool) → can_be f true ≡ true → can_be n b ≡ true →
        b ≡ false →
        (if live then applied || is_on f else is_off f || is_on n) ≡ true → live ≡ true
    pick true f n b can marked_can un is = refl
    pick false Off n b can marked_can un is = cc
    pick false On Off b can marked_can un is = cc
    pick false On On b can marked_can un is = cc
    pick false On Unsure b can marked_can un is = cc
    pick false Unsure Off b can marked_can un is = cc
    pick false Unsure On b can marked_can un is = cc
    pick false Unsure Unsure b can marked_can un is = cc

not_false : (b : Bool) → not b ≡ true → b ≡ false
not_false true h = cc
not_false false h = refl

-- what is open in an image is live
pub open-lives : (core : Core) (image : Image) → AreSound core → is_image core image ≡ true →
    (place : ℕ) → is_open image place ≡ true →
    is_live (track core.tracks place).state ≡ true
open-lives core image sound h place opened =
    let parts = both (bit_at image.gates place) (not (bit_at image.marks place)) opened in
    let gate = some_bit image.gates place parts.0 in
    let test : (place == 0) ≡ false = not_zero gate.0 in
    let unmarked : bit_at image.marks place ≡ false =
    not_false (bit_at image.marks place) parts.1 in
    let mark : get_or image.marks (place - 1) false ≡ false = rw test at unmarked in
    let t : Track = get_or core.tracks (place - 1) blank in
    elim (cases_lt (place - 1) (length core.tracks)) [
      | inl within ↦
          let can : can_be t.gate true ≡ true =
          rw gate.1 at (gate_allowed core image (place - 1) h within) in
          rw (track_is core.tracks place (place - 1) gate.0 refl)
          (dead_closed t.state t.applied t.gate t.mark (get_or image.marks (place - 1) false) can
          (mark_allowed core image (place - 1) h within) mark (sound (place - 1)))
      | inr past ↦
          let none : get_or image.gates (place - 1) false ≡ false =
          get_or_past image.gates (place - 1) false (omega (arith, as_many core image h)) in
          absurd (apart (get_or image.gates (place - 1) false) gate.1 none)
    ]
  where
    not_zero : (place ≡ 0 → ⊥) → (place == 0) ≡ false
    not_zero some = grind (arith, nat_tests)

    apart : (b : Bool) → b ≡ true → b ≡ false → ⊥
    apart b on off = cc

-- a live entry that is not applied, and that no mark was tried for, is open
pub lives-open : (core : Core) (image : Image) → AreSound core → is_image core image ≡ true →
    (place : ℕ) →
    is_live (track core.tracks place).state ≡ true → (track core.tracks place).applied ≡ false →
    is_off (track core.tracks place).mark ≡ true →
    is_open image place ≡ true
lives-open core image sound h place live idle unmarked =
    let some = some_place is_live refl core.tracks place live in
    let at : track core.tracks place ≡ get_or core.tracks (place - 1) blank =
    track_is core.tracks place (place - 1) some refl in
    let t : Track = get_or core.tracks (place - 1) blank in
    let test : (place == 0) ≡ false = not_zero some in
    elim (cases_lt (place - 1) (length core.tracks)) [
      | inl within ↦
          let gate : get_or image.gates (place - 1) false ≡ true =
          is_open_gate t.gate (get_or image.gates (place - 1) false)
          (gate_allowed core image (place - 1) h within)
          (gate_on t (rw at at live) (rw at at idle) (sound (place - 1))) in
          let mark : get_or image.marks (place - 1) false ≡ false =
          is_no_mark t.mark (get_or image.marks (place - 1) false)
          (mark_allowed core image (place - 1) h within) (rw at at unmarked) in
          rw (test, gate, mark) refl
      | inr past ↦
          let empty : get_or core.tracks (place - 1) blank ≡ blank =
          get_or_past core.tracks (place - 1) blank past in
          let own : is_live blank.state ≡ true = rw (at, empty) at live in
          cc
    ]
  where
    not_zero : (place ≡ 0 → ⊥) → (place == 0) ≡ false
    not_zero some = grind (arith, nat_tests)

    gate_on : (x : Track) → is_live x.state ≡ true → x.applied ≡ false → is_sound x ≡ true →
        is_on x.gate ≡ true
    gate_on x live_now idle_now is = rw (live_now, idle_now) at is

    is_open_gate : (f : Flag) (b : Bool) → can_be f b ≡ true → is_on f ≡ true → b ≡ true
    is_open_gate Off b can on = cc
    is_open_gate On b can on = can
    is_open_gate Unsure b can on = cc

    is_no_mark : (f : Flag) (b : Bool) → can_be f b ≡ true → is_off f ≡ true → b ≡ false
    is_no_mark Off true can off = cc
    is_no_mark Off false can off = refl
    is_no_mark On b can off = cc
    is_no_mark Unsure b can off = cc
