-- The gates of an image's live entries rise: the logged ones in order of place, and the doubt last.
use Rattle.std.proofs.Common.{◌≡◌, ◌⊎◌, inl, inr, ℕ, suc, zero, ◌+◌, ◌-◌, ◌<◌, ◌≤◌, ◌==◌, Bool, true, false, ◌&&◌, ◌||◌, not, cond, Option, Some, None, List, [], ◌∷◌, ◌++◌, length, map, filter, get_or, set, arith, refl, sym, ap, ◌∙◌, length-append, length-set, get_or-set_other, is_none, nat_lt}
use Rattle.std.specs.List.{list_all, range_with_len}
use Rattle.std.proofs.lemmas.Bool.{cases_lt}
use Rattle.std.proofs.lemmas.Bool.Decides.{nat_tests}
use Rattle.std.proofs.lemmas.Grind.{get_or-set_at}
use Rattle.std.proofs.lemmas.List.{append-nil, get_or_append_left, get_or-append_right, get_or_past, map-append, set_past}
use Rattle.std.proofs.lemmas.List.FromFn.{get_or-map-range_with_len, length-map-range_with_len}
use Rattle.cfs_file.specs.declared.entry.Entry.{Entry}
use Rattle.cfs_core.specs.declared.flag.Flag.{Flag}
use Rattle.cfs_core.specs.declared.flag.Flag.TheVariants.{Off, On, Unsure}
use Rattle.cfs_core.specs.declared.state.State.{State}
use Rattle.cfs_core.specs.declared.state.State.TheVariants.{Waiting, Out, Noop, Unserved, Closed}
use Rattle.cfs_core.specs.declared.track.Track.{Track}
use Rattle.cfs_core.specs.declared.doubt.Doubt.{Doubt}
use Rattle.cfs_core.specs.declared.inode_core.Core.{Core}
use Rattle.cfs_core.specs.Words.{blank, can_be, end_in, flag_of, has_block, is_noop, is_off, is_out, is_unserved, is_waiting, start_in, track}
use Rattle.cfs_file.specs.declared.span.Span.{Span}
use Rattle.cfs_file.specs.declared.sizes.TheConstants.{FILE_BLOCKS}
use Rattle.cfs_core.specs.declared.image.Image.{Image}
use Rattle.cfs_core.specs.declared.event.Event.{Event}
use Rattle.cfs_core.specs.declared.event.Event.TheVariants as events
use Rattle.cfs_core.specs.declared.event.End.{End}
use Rattle.cfs_core.specs.declared.event.End.TheVariants as ends
use Rattle.cfs_core.specs.declared.event.SizeEnd.{SizeEnd}
use Rattle.cfs_core.specs.declared.event.SizeEnd.TheVariants as sizes
use Rattle.cfs_core.specs.Fresh.{IsFresh}
use Rattle.cfs_core.specs.Jobs.{state_flushed, state_written}
use Rattle.cfs_core.specs.Medium.{agree, allow_gates, allow_marks, bit_at, bytes_agree, doubt_gate, file, gates_agree, is_image, is_open, is_size, live_entries, marks_agree, open_entries, placed_doubt, placed_entry}
use Rattle.cfs_core.specs.May.{case, fits, is_change, is_mapped, is_next, may_admit, may_flush, may_serve, may_write, span_now}
use Rattle.cfs_core.specs.After.{admitted, after, block_written, change_track, crashed_to, finished, flushed, logged, marked, mounted, query_track, sure_doubt, sure_track, sure_tracks, with_size, with_state, with_track}
use Rattle.cfs_core.specs.Good.{Rises}
use Rattle.cfs_core.proofs.Legal.{both}

-- the entries have the places from that number on
abbrev pub Places : ℕ → List Entry → Type 0
Places n [] = Unit {0}
Places n (e ∷ es) = (e.place ≡ n) × Places (n + 1) es

pub Places-snoc : (n : ℕ) (log : List Entry) (entry : Entry) → Places n log →
    entry.place ≡ n + length log → Places n (log ++ entry ∷ [])
Places-snoc n [] entry places next = (omega arith, tt)
Places-snoc n (e ∷ es) entry places next =
    (places.0, Places-snoc (n + 1) es entry places.1 (omega arith))

pub Rises-from : (low other : ℕ) (numbers : List ℕ) → low ≤ other → Rises other numbers →
    Rises low numbers
Rises-from low other [] le rises = tt
Rises-from low other (n ∷ ns) le rises = (omega arith, rises.1)

-- the numbers of the picked entries
pub Rises-picked : (low n : ℕ) (log : List Entry) (picks : ℕ → Bool) → low ≤ n → Places n log →
    Rises low (map (λ e. e.place) (filter (λ e. picks e.place) log))
Rises-picked low n [] picks le places = tt
Rises-picked low n (e ∷ es) picks le places =
    at (picks e.place) (Rises-picked (e.place + 1) (n + 1) es picks (omega arith) places.1)
    (Rises-picked low (n + 1) es picks (omega arith) places.1)
  where
    at : (b : Bool) → Rises (e.place + 1) (map (λ x. x.place) (filter (λ x. picks x.place) es)) →
        Rises low (map (λ x. x.place) (filter (λ x. picks x.place) es)) →
        Rises low (map (λ x.
        x.place) (cond b (e ∷ filter (λ x. picks x.place) es) (filter (λ x. picks x.place) es)))
    at true taken left = (omega arith, taken)
    at false taken left = left

-- the same, and then a number behind all that are picked
pub Rises-picked_then : (low n : ℕ) (log : List Entry) (picks : ℕ → Bool) (last : ℕ) → low ≤ n →
    low ≤ last → Places n log →
    ((m : ℕ) → picks m ≡ true → m < last) →
    Rises low (map (λ e. e.place) (filter (λ e. picks e.place) log) ++ last ∷ [])
Rises-picked_then low n [] picks last le below places behind = (below, tt)
Rises-picked_then low n (e ∷ es) picks last le below places behind =
    at (picks e.place) refl
    (λ less. Rises-picked_then (e.place + 1) (n + 1) es picks last
    (omega arith) less places.1 behind)
    (Rises-picked_then low (n + 1) es picks last (omega arith) below places.1 behind)
  where
    at : (b : Bool) → picks e.place ≡ b →
        (e.place + 1 ≤ last →
        Rises (e.place + 1) (map (λ x. x.place) (filter (λ x. picks x.place) es) ++ last ∷ [])) →
        Rises low (map (λ x. x.place) (filter (λ x. picks x.place) es) ++ last ∷ []) →
        Rises low (map (λ x.
        x.place) (cond b (e ∷ filter (λ x. picks x.place) es) (filter (λ x. picks x.place) es))
        ++ last ∷ [])
    at true is taken left =
        let less : e.place < last = behind e.place is in
        (omega arith, taken (omega arith))
    at false is taken left = left

-- a test of each number of a range
pub in_range : (test : ℕ → Bool) (a n j : ℕ) → list_all test (range_with_len a n) ≡ true → a ≤ j →
    j < a + n → test j ≡ true
in_range test a zero j h low high = absurd (omega arith)
in_range test a (suc n) j h low high = elim (cases_lt a j) [
  | inl later ↦ in_range test (a + 1) n j (both _ _ h).1 (omega arith) (omega arith)
  | inr here ↦ let same : j ≡ a = omega arith in rw same (both _ _ h).0
]

abbrev pub is_closed : State → Bool
is_closed Waiting = false
is_closed (Out job) = false
is_closed Noop = false
is_closed Unserved = false
is_closed Closed = true

-- a read or a sync, by its state: it has no slot
abbrev pub is_query_state : State → Bool
is_query_state s = is_unserved s || is_closed s

-- what is kept of a read or a sync
abbrev pub is_query_track : Track → Bool
is_query_track t = is_off t.gate && is_query_state t.state

-- the log has its places, and what was logged since the doubt has no slot
pub record IsOrdered (core : Core) : Type 0 where
  pub places : Places 1 core.log
  pub same : length core.tracks ≡ length core.log
  pub behind : (doubt : Doubt) (k : ℕ) → core.doubt ≡ Some doubt → doubt.entry.place ≤ k + 1 →
      is_query_track (get_or core.tracks k blank) ≡ true

-- ---- one track is put

waiting_no : (s : State) → is_waiting s ≡ true → is_query_state s ≡ true → ⊥
waiting_no Waiting is query = cc
waiting_no (Out job) is query = cc
waiting_no Noop is query = cc
waiting_no Unserved is query = cc
waiting_no Closed is query = cc

out_no : (s : State) → is_out s ≡ true → is_query_state s ≡ true → ⊥
out_no Waiting is query = cc
out_no (Out job) is query = cc
out_no Noop is query = cc
out_no Unserved is query = cc
out_no Closed is query = cc

noop_no : (s : State) → is_noop s ≡ true → is_query_state s ≡ true → ⊥
noop_no Waiting is query = cc
noop_no (Out job) is query = cc
noop_no Noop is query = cc
noop_no Unserved is query = cc
noop_no Closed is query = cc

block_no : (s : State) (block : ℕ) → has_block s block ≡ true → is_query_state s ≡ true → ⊥
block_no Waiting block is query = cc
block_no (Out job) block is query = cc
block_no Noop block is query = cc
block_no Unserved block is query = cc
block_no Closed block is query = cc

pub same_or_not : (a b : ℕ) → (a ≡ b) ⊎ (a ≡ b → ⊥)
same_or_not a b = elim (cases_lt a b) [
  | inl less ↦ inr (λ e. omega arith)
  | inr up ↦
      elim (cases_lt b a) [ inl more ↦ inr (λ e. omega arith) | inr down ↦ inl (omega arith) ]
]

pub track_is : (tracks : List Track) (place k : ℕ) → (place ≡ 0 → ⊥) → k ≡ place - 1 →
    track tracks place ≡ get_or tracks k blank
track_is tracks place k some same =
    let test : (place == 0) ≡ false = grind (arith, nat_tests) in
    rw (test, same) refl

-- where a state passes that of no request, the place is one
pub some_place : (test : State → Bool) → test Closed ≡ false → (tracks : List Track) (place : ℕ) →
    test (track tracks place).state ≡ true → place ≡ 0 → ⊥
some_place test none tracks place h is_zero =
    let at_zero : test (track tracks 0).state ≡ true = rw is_zero at h in
    cc

-- a query stays one, whatever else is put
ordered_put : (core : Core) (place : ℕ) (t : Track) → IsOrdered core →
    (is_query_track (track core.tracks place) ≡ true → is_query_track t ≡ true) → (place ≡ 0 → ⊥) →
    IsOrdered (with_track core place t)
ordered_put core place t ordered stays some = record {
  places = ordered.places;
  same = length-set core.tracks (place - 1) t ∙ ordered.same;
  behind = λ doubt k is le. put k (ordered.behind doubt k is le);
}
  where
    put : (k : ℕ) → is_query_track (get_or core.tracks k blank) ≡ true →
        is_query_track (get_or (set core.tracks (place - 1) t) k blank) ≡ true
    put k before = elim (same_or_not k (place - 1)) [
      | inl same ↦ elim (cases_lt (place - 1) (length core.tracks)) [
        | inl within ↦
            let now : get_or (set core.tracks (place - 1) t) k blank ≡ t =
            get_or-set_at core.tracks (place - 1) k t blank same within in
            let was : track core.tracks place ≡ get_or core.tracks k blank =
            track_is core.tracks place k some same in
            let query : is_query_track (track core.tracks place) ≡ true = rw was before in
            rw now (stays query)
        | inr past ↦
            let kept : set core.tracks (place - 1) t ≡ core.tracks =
            set_past core.tracks (place - 1) t past in
            rw kept before
      ]
      | inr other ↦
          let kept : get_or (set core.tracks (place - 1) t) k blank ≡ get_or core.tracks k blank =
          get_or-set_other core.tracks (place - 1) k t blank other in
          rw kept before
    ]

-- the track of a place whose state is no query's
ordered_by : (core : Core) (place : ℕ) (t : Track) (test : State → Bool) → test Closed ≡ false →
    ((s : State) → test s ≡ true → is_query_state s ≡ true → ⊥) → IsOrdered core →
    test (track core.tracks place).state ≡ true → IsOrdered (with_track core place t)
ordered_by core place t test none no_query ordered h =
    ordered_put core place t ordered
    (λ query.
    absurd (no_query (track core.tracks place).state h
    (both (is_off (track core.tracks place).gate)
    (is_query_state (track core.tracks place).state) query).1))
    (some_place test none core.tracks place h)

-- the same log, tracks and request in doubt
ordered_with : (core other : Core) → IsOrdered core → other.log ≡ core.log →
    other.tracks ≡ core.tracks → other.doubt ≡ core.doubt → IsOrdered other
ordered_with core other ordered log tracks doubt = record {
  places = rw log ordered.places;
  same = rw (log, tracks) ordered.same;
  behind = λ d k is le. rw tracks (ordered.behind d k (sym doubt ∙ is) le);
}

pub none_no : (o : Option Doubt) (d : Doubt) → is_none o ≡ true → o ≡ Some d → ⊥
none_no None d none is = cc
none_no (Some e) d none is = cc

pub place_is : (core : Core) (entry : Entry) → is_next core entry ≡ true →
    entry.place ≡ 1 + length core.log
place_is core entry h = grind (arith, nat_tests)

ordered_admit : (core : Core) (entry : Entry) (grant : ℕ) (kept : Bool) → IsOrdered core →
    may_admit core entry ≡ true → IsOrdered (admitted core entry grant kept)
ordered_admit core entry grant true ordered may_be =
    let first =
    both (is_none core.doubt) (is_next core entry
    && (is_change entry.request
    && (fits (file core) entry.request && is_mapped core.tags (span_now core entry.request))))
    may_be in
    let second =
    both (is_next core entry) (is_change entry.request
    && (fits (file core) entry.request && is_mapped core.tags (span_now core entry.request)))
    first.1 in
    record {
      places = Places-snoc 1 core.log entry ordered.places (place_is core entry second.0);
      same = omega (
        arith,
        length-append core.log (entry ∷ []),
        length-append core.tracks
            (change_track grant (span_now core entry.request) ∷ []),
        ordered.same,
      );
      behind = λ d k is le. absurd (none_no core.doubt d first.0 is);
    }
ordered_admit core entry grant false ordered may_be =
    let first =
    both (is_none core.doubt) (is_next core entry
    && (is_change entry.request
    && (fits (file core) entry.request && is_mapped core.tags (span_now core entry.request))))
    may_be in
    let second =
    both (is_next core entry) (is_change entry.request
    && (fits (file core) entry.request && is_mapped core.tags (span_now core entry.request)))
    first.1 in
    let next = place_is core entry second.0 in
    record {
      places = ordered.places;
      same = ordered.same;
      behind = λ d k is le.
          let its_place : d.entry.place ≡ entry.place = its d is in
          let past : get_or core.tracks k blank ≡ blank =
          get_or_past core.tracks k blank (omega (arith, ordered.same)) in
          rw past refl;
    }
  where
    its : (d : Doubt) →
        Some (record {
          entry = entry;
          grant = grant;
          span = span_now core entry.request;
          gate = Unsure;
        }) ≡ Some d → d.entry.place ≡ entry.place
    its d is = cc

ordered_query : (core : Core) (entry : Entry) (span : Span) → IsOrdered core →
    is_next core entry ≡ true → IsOrdered (logged core entry (query_track span))
ordered_query core entry span ordered next = record {
  places = Places-snoc 1 core.log entry ordered.places (place_is core entry next);
  same = omega (
    arith,
    length-append core.log (entry ∷ []),
    length-append core.tracks
        (query_track span ∷ []),
    ordered.same,
  );
  behind = λ d k is le. elim (cases_lt k (length core.tracks)) [
    | inl within ↦
        let old : get_or (core.tracks ++ query_track span ∷ []) k blank
        ≡ get_or core.tracks k blank =
        get_or_append_left core.tracks (query_track span ∷ []) blank k within in
        rw old (ordered.behind d k is le)
    | inr past ↦ elim (same_or_not k (length core.tracks)) [
      | inl last ↦
          let now : get_or (core.tracks ++ query_track span ∷ []) k blank
          ≡ get_or (query_track span ∷ []) (k - length core.tracks) blank =
          get_or-append_right core.tracks (query_track span ∷ [])
          (length core.tracks) k blank refl past in
          let at : k - length core.tracks ≡ 0 = omega arith in
          rw (now, at) refl
      | inr beyond ↦
          let none : get_or (core.tracks ++ query_track span ∷ []) k blank ≡ blank =
          get_or_past (core.tracks ++ query_track span ∷ []) k blank
          (omega (arith, length-append core.tracks (query_track span ∷ []))) in
          rw none refl
    ]
  ];
}

-- ---- images

gates_of_image : (core : Core) (image : Image) → is_image core image ≡ true →
    gates_agree core.tracks image.gates ≡ true
gates_of_image core image h =
    let a = both (is_size core image.size)
    (agree core.tags image.tags
    && (bytes_agree core image.bytes
    && (gates_agree core.tracks image.gates
    && (marks_agree core.tracks image.marks && can_be (doubt_gate core.doubt) image.doubt))))
    h in
    let b = both (agree core.tags image.tags)
    (bytes_agree core image.bytes
    && (gates_agree core.tracks image.gates
    && (marks_agree core.tracks image.marks && can_be (doubt_gate core.doubt) image.doubt)))
    a.1 in
    let c = both (bytes_agree core image.bytes)
    (gates_agree core.tracks image.gates
    && (marks_agree core.tracks image.marks && can_be (doubt_gate core.doubt) image.doubt))
    b.1 in
    (both (gates_agree core.tracks image.gates)
    (marks_agree core.tracks image.marks && can_be (doubt_gate core.doubt) image.doubt) c.1).0

pub as_many : (core : Core) (image : Image) → is_image core image ≡ true →
    length image.gates ≡ length core.tracks
as_many core image h =
    let test =
    (both (length image.gates == length core.tracks) (allow_gates core.tracks image.gates)
    (gates_of_image core image h)).0 in
    grind (arith, nat_tests)

pub gate_allowed : (core : Core) (image : Image) (k : ℕ) → is_image core image ≡ true →
    k < length core.tracks →
    can_be (get_or core.tracks k blank).gate (get_or image.gates k false) ≡ true
gate_allowed core image k h within =
    in_range (λ j. can_be (get_or core.tracks j blank).gate (get_or image.gates j false)) 0
    (length core.tracks) k
    (both (length image.gates == length core.tracks) (allow_gates core.tracks image.gates)
    (gates_of_image core image h)).1
    (omega arith) (omega arith)

marks_of_image : (core : Core) (image : Image) → is_image core image ≡ true →
    marks_agree core.tracks image.marks ≡ true
marks_of_image core image h =
    let a = both (is_size core image.size)
    (agree core.tags image.tags
    && (bytes_agree core image.bytes
    && (gates_agree core.tracks image.gates
    && (marks_agree core.tracks image.marks && can_be (doubt_gate core.doubt) image.doubt))))
    h in
    let b = both (agree core.tags image.tags)
    (bytes_agree core image.bytes
    && (gates_agree core.tracks image.gates
    && (marks_agree core.tracks image.marks && can_be (doubt_gate core.doubt) image.doubt)))
    a.1 in
    let c = both (bytes_agree core image.bytes)
    (gates_agree core.tracks image.gates
    && (marks_agree core.tracks image.marks && can_be (doubt_gate core.doubt) image.doubt))
    b.1 in
    let d = both (gates_agree core.tracks image.gates)
    (marks_agree core.tracks image.marks && can_be (doubt_gate core.doubt) image.doubt) c.1 in
    (both (marks_agree core.tracks image.marks) (can_be (doubt_gate core.doubt) image.doubt) d.1).0

pub as_many_marks : (core : Core) (image : Image) → is_image core image ≡ true →
    length image.marks ≡ length core.tracks
as_many_marks core image h =
    let test =
    (both (length image.marks == length core.tracks) (allow_marks core.tracks image.marks)
    (marks_of_image core image h)).0 in
    grind (arith, nat_tests)

pub mark_allowed : (core : Core) (image : Image) (k : ℕ) → is_image core image ≡ true →
    k < length core.tracks →
    can_be (get_or core.tracks k blank).mark (get_or image.marks k false) ≡ true
mark_allowed core image k h within =
    in_range (λ j. can_be (get_or core.tracks j blank).mark (get_or image.marks j false)) 0
    (length core.tracks) k
    (both (length image.marks == length core.tracks) (allow_marks core.tracks image.marks)
    (marks_of_image core image h)).1
    (omega arith) (omega arith)

closed_stays : (g : Flag) (b : Bool) → is_off g ≡ true → can_be g b ≡ true →
    is_off (flag_of b) ≡ true
closed_stays Off true off may_be = cc
closed_stays Off false off may_be = refl
closed_stays On b off may_be = cc
closed_stays Unsure b off may_be = cc

closed_no : (g : Flag) → is_off g ≡ true → can_be g true ≡ true → ⊥
closed_no Off off may_be = cc
closed_no On off may_be = cc
closed_no Unsure off may_be = cc

pub and_true : (a b : Bool) → a ≡ true → b ≡ true → (a && b) ≡ true
and_true true b h k = k
and_true false b h k = cc

sure_entry : (o : Option Doubt) (gate : Bool) (d : Doubt) → sure_doubt o gate ≡ Some d →
    (old : Doubt) × ((o ≡ Some old) × (old.entry.place ≡ d.entry.place))
sure_entry None gate d is = cc
sure_entry (Some old) gate d is = (old, (refl, same old gate d is))
  where
    same : (e : Doubt) (g : Bool) (f : Doubt) → Some (record e { gate = flag_of g }) ≡ Some f →
        e.entry.place ≡ f.entry.place
    same e g f eq = cc

ordered_crash : (core : Core) (image : Image) → IsOrdered core → is_image core image ≡ true →
    IsOrdered (crashed_to core image)
ordered_crash core image ordered h = record {
  places = ordered.places;
  same = length-map-range_with_len
      (λ k. sure_track (get_or core.tracks k blank) (get_or image.gates k false)
      (get_or image.marks k false)) 0 (length core.tracks) ∙ ordered.same;
  behind = λ d k is le.
      let old = sure_entry core.doubt image.doubt d is in
      let query : is_query_track (get_or core.tracks k blank) ≡ true =
      ordered.behind old.0 k old.1.0 (omega (arith, old.1.1)) in
      let parts =
      both (is_off (get_or core.tracks k blank).gate)
      (is_query_state (get_or core.tracks k blank).state) query in
      elim (cases_lt k (length core.tracks)) [
        | inl within ↦
            let now : get_or (sure_tracks core.tracks image.gates image.marks) k blank
            ≡ sure_track (get_or core.tracks k blank) (get_or image.gates k false)
            (get_or image.marks k false) =
            get_or-map-range_with_len (λ j.
            sure_track (get_or core.tracks j blank) (get_or image.gates j false)
            (get_or image.marks j false)) 0 (length core.tracks) k k blank within
            (omega arith) in
            rw now (and_true _ _ (closed_stays (get_or core.tracks k blank).gate
            (get_or image.gates k false) parts.0 (gate_allowed core image k h within)) parts.1)
        | inr past ↦
            let none : get_or (sure_tracks core.tracks image.gates image.marks) k blank ≡ blank =
            get_or_past (sure_tracks core.tracks image.gates image.marks) k blank
            (omega (
              arith,
              length-map-range_with_len
                  (λ j. sure_track (get_or core.tracks j blank) (get_or image.gates j false)
                  (get_or image.marks j false)) 0 (length core.tracks),
            )) in
            rw none refl
      ];
}

ordered_mount : (core : Core) (found : List ℕ) → IsOrdered (mounted core found)
ordered_mount core found = record {
  places = tt;
  same = refl;
  behind = λ d k is le. cc;
}

-- what is open in an image stands before the request in doubt
open_before : (core : Core) (image : Image) (d : Doubt) → IsOrdered core → core.doubt ≡ Some d →
    is_image core image ≡ true →
    (m : ℕ) → is_open image m ≡ true → m < d.entry.place
open_before core image d ordered is h m opened = elim (cases_lt m d.entry.place) [
  | inl less ↦ less
  | inr up ↦ absurd (later up (both (bit_at image.gates m) (not (bit_at image.marks m)) opened).0)
]
  where
    later : d.entry.place ≤ m → bit_at image.gates m ≡ true → ⊥
    later up bit = elim (same_or_not m 0) [
      | inl is_zero ↦ let none : bit_at image.gates 0 ≡ true = rw is_zero at bit in cc
      | inr some ↦
          let test : (m == 0) ≡ false = grind (arith, nat_tests) in
          let set_bit : get_or image.gates (m - 1) false ≡ true = rw test at bit in
          let query : is_query_track (get_or core.tracks (m - 1) blank) ≡ true =
          ordered.behind d (m - 1) is (omega arith) in
          let parts =
          both (is_off (get_or core.tracks (m - 1) blank).gate)
          (is_query_state (get_or core.tracks (m - 1) blank).state) query in
          elim (cases_lt (m - 1) (length core.tracks)) [
            | inl within ↦
                closed_no (get_or core.tracks (m - 1) blank).gate parts.0
                (rw set_bit at (gate_allowed core image (m - 1) h within))
            | inr past ↦
                let none : get_or image.gates (m - 1) false ≡ false =
                get_or_past image.gates (m - 1) false (omega (arith, as_many core image h)) in
                cc
          ]
    ]

-- an entry keeps its place in its slot
placed_places : (tracks : List Track) (entries : List Entry) →
    map (λ e. e.place) (map (λ e. placed_entry (track tracks e.place).span e) entries)
    ≡ map (λ e. e.place) entries
placed_places tracks [] = refl
placed_places tracks (e ∷ es) = ap (λ (ns : List ℕ). e.place ∷ ns) (placed_places tracks es)

rise_with : (core : Core) (image : Image) (o : Option Doubt) (gate : Bool) → IsOrdered core →
    is_image core image ≡ true → core.doubt ≡ o →
    Rises 0 (map (λ e. e.place) (open_entries core.tracks image core.log ++ placed_doubt o gate))
rise_with core image None gate ordered h is =
    rw (
      append-nil (open_entries core.tracks image core.log),
      placed_places core.tracks
          (filter (λ e. is_open image e.place) core.log),
    )
    (Rises-picked 0 1 core.log (is_open image) (omega arith) ordered.places)
rise_with core image (Some d) false ordered h is =
    rw (
      append-nil (open_entries core.tracks image core.log),
      placed_places core.tracks
          (filter (λ e. is_open image e.place) core.log),
    )
    (Rises-picked 0 1 core.log (is_open image) (omega arith) ordered.places)
rise_with core image (Some d) true ordered h is =
    rw (
      map-append (λ e. e.place) (open_entries core.tracks image core.log)
          (placed_entry d.span d.entry ∷ []),
      placed_places core.tracks
          (filter (λ e. is_open image e.place) core.log),
    )
    (Rises-picked_then 0 1 core.log (is_open image) d.entry.place (omega arith)
    (omega arith) ordered.places (open_before core image d ordered is h))

pub gates-rise : (core : Core) (image : Image) → IsOrdered core → is_image core image ≡ true →
    Rises 0 (map (λ e. e.place) (live_entries core image))
gates-rise core image ordered h = rise_with core image core.doubt image.doubt ordered h refl

-- ---- each event keeps the order

pub writes : (core : Core) (place block : ℕ) (left : Option (List ℕ)) →
    may_write core place block left ≡ true → has_block (track core.tracks place).state block ≡ true
writes core place block None h =
    (both (nat_lt block FILE_BLOCKS) (has_block (track core.tracks place).state block) h).1
writes core place block (Some left) h =
    let a = both (may_flush core place block)
    (length left == end_in (track core.tracks place).span block - start_in
    (track core.tracks place).span block) h in
    (both (nat_lt block FILE_BLOCKS) (has_block (track core.tracks place).state block) a.0).1

put_state_of : (core : Core) (place block : ℕ) (state : State) → IsOrdered core →
    has_block (track core.tracks place).state block ≡ true → IsOrdered (with_state core place state)
put_state_of core place block state ordered h =
    ordered_by core place (record (track core.tracks place) { state = state })
    (λ s. has_block s block) refl (λ s is query. block_no s block is query) ordered h

written_ordered : (core : Core) (place block : ℕ) (left : Option (List ℕ)) → IsOrdered core →
    may_write core place block left ≡ true → IsOrdered (block_written core place block left)
written_ordered core place block None ordered h =
    let o = put_state_of core place block
    (state_written block true (track core.tracks place).state) ordered
    (writes core place block None h) in
    record { places = o.places; same = o.same; behind = o.behind }
written_ordered core place block (Some left) ordered h =
    let o = put_state_of core place block
    (state_written block false (track core.tracks place).state) ordered
    (writes core place block (Some left) h) in
    record { places = o.places; same = o.same; behind = o.behind }

flushed_ordered : (core : Core) (place block : ℕ) (ok : Bool) → IsOrdered core →
    may_flush core place block ≡ true → IsOrdered (flushed core place block ok)
flushed_ordered core place block false ordered h = ordered
flushed_ordered core place block true ordered h =
    let o = put_state_of core place block
    (state_flushed block (track core.tracks place).state) ordered
    (both (nat_lt block FILE_BLOCKS) (has_block (track core.tracks place).state block) h).1 in
    record { places = o.places; same = o.same; behind = o.behind }

sized_ordered : (core : Core) (end : SizeEnd) (size : ℕ) → IsOrdered core →
    IsOrdered (with_size core end size)
sized_ordered core sizes.AsBefore size o = o
sized_ordered core sizes.Set size o = record { places = o.places; same = o.same; behind = o.behind }
sized_ordered core sizes.Either size o =
    record { places = o.places; same = o.same; behind = o.behind }

out_put : (core : Core) (place : ℕ) (t : Track) → IsOrdered core →
    is_out (track core.tracks place).state ≡ true → IsOrdered (with_track core place t)
out_put core place t ordered h = ordered_by core place t is_out refl out_no ordered h

finished_ordered : (core : Core) (place : ℕ) (end : End) → IsOrdered core →
    is_out (track core.tracks place).state ≡ true →
    IsOrdered (finished core place (track core.tracks place) end)
finished_ordered core place ends.Retired ordered h =
    sized_ordered _ sizes.Set _ (out_put core place _ ordered h)
finished_ordered core place ends.More ordered h = out_put core place _ ordered h
finished_ordered core place (ends.Back size gate applied) ordered h =
    sized_ordered _ size _ (out_put core place _ ordered h)

served_ordered : (core : Core) (place : ℕ) → IsOrdered core →
    is_unserved (track core.tracks place).state ≡ true → IsOrdered (with_state core place Closed)
served_ordered core place ordered h =
    ordered_put core place (record (track core.tracks place) { state = Closed }) ordered
    (λ query.
    and_true _ _ (both (is_off (track core.tracks place).gate)
    (is_query_state (track core.tracks place).state) query).0 refl)
    (some_place is_unserved refl core.tracks place h)

pub first_of_and : (a b : Bool) → (a && b) ≡ true → a ≡ true
first_of_and true b h = refl
first_of_and false b h = cc

pub serves : (core : Core) (place : ℕ) (answer : Option (List ℕ)) →
    may_serve core place answer ≡ true → is_unserved (track core.tracks place).state ≡ true
serves core place None h = h
serves core place (Some bytes) h = first_of_and (is_unserved (track core.tracks place).state) _ h

pub ordered-after : (core : Core) (event : Event) → IsOrdered core → case core event ≡ true →
    IsOrdered (after core event)
ordered-after core (events.Tag block kept) o h =
    record { places = o.places; same = o.same; behind = o.behind }
ordered-after core (events.Admit entry grant kept) o h = ordered_admit core entry grant kept o h
ordered-after core (events.AdmitRead entry) o h =
    ordered_query core entry (span_now core entry.request) o (first_of_and (is_next core entry) _ h)
ordered-after core (events.Serve place answer) o h =
    served_ordered core place o (serves core place answer h)
ordered-after core (events.Mark place by kept) o h =
    ordered_by core place (marked (track core.tracks place) kept) is_waiting refl waiting_no o
    (first_of_and (is_waiting (track core.tracks place).state) _ h)
ordered-after core (events.Dispatch place) o h =
    ordered_by core place _ is_waiting refl waiting_no o
    (first_of_and (is_waiting (track core.tracks place).state) _ h)
ordered-after core (events.BlockWrite place block left) o h =
    written_ordered core place block left o h
ordered-after core (events.Flush place block ok) o h = flushed_ordered core place block ok o h
ordered-after core (events.Finish place end) o h =
    finished_ordered core place end o (first_of_and (is_out (track core.tracks place).state) _ h)
ordered-after core (events.Skip place) o h = ordered_by core place _ is_noop refl noop_no o h
ordered-after core (events.Trim block kept) o h =
    record { places = o.places; same = o.same; behind = o.behind }
ordered-after core events.Settle o h =
    record { places = o.places; same = o.same; behind = λ d k is le. cc }
ordered-after core (events.Crash image) o h = ordered_crash core image o h
ordered-after core events.Mount o h = ordered_mount core _

pub ordered-empty : (core : Core) → IsFresh core → IsOrdered core
ordered-empty core empty = record {
  places = rw empty.log tt;
  same = rw (empty.log, empty.tracks) refl;
  behind = λ d k is le. absurd (none_is core.doubt d empty.doubt is);
}
  where
    none_is : (o : Option Doubt) (d : Doubt) → o ≡ None → o ≡ Some d → ⊥
    none_is o d none some = cc
