-- What each event makes of the queue of a grant.
use Rattle.std.proofs.Common.{◌≡◌, inl, inr, ℕ, suc, zero, ◌+◌, ◌-◌, ◌<◌, ◌==◌, Bool, true, false, ◌&&◌, not, if◌then◌else◌, Option, Some, None, List, [], ◌∷◌, ◌++◌, length, filter, get_or, set, is_none, arith, refl, sym, ap, ◌∙◌, append_assoc}
use Rattle.std.proofs.lemmas.Bool.{cases_lt}
use Rattle.std.proofs.lemmas.Bool.Decides.{nat_tests}
use Rattle.std.proofs.lemmas.List.{append-nil, get_or_past}
use Rattle.std.proofs.lemmas.List.Elements.{filter-append}
use Rattle.std.proofs.lemmas.List.FromFn.{length-map-range_with_len}
use Rattle.cfs_file.specs.declared.entry.Entry.{Entry}
use Rattle.cfs_core.specs.declared.state.State.{State}
use Rattle.cfs_core.specs.declared.state.State.TheVariants.{Waiting, Out, Noop, Unserved, Closed}
use Rattle.cfs_core.specs.declared.track.Track.{Track}
use Rattle.cfs_core.specs.declared.doubt.Doubt.{Doubt}
use Rattle.cfs_core.specs.declared.image.Image.{Image}
use Rattle.cfs_core.specs.declared.event.Event.{Event}
use Rattle.cfs_core.specs.declared.event.Event.TheVariants as events
use Rattle.cfs_core.specs.declared.event.End.{End}
use Rattle.cfs_core.specs.declared.event.End.TheVariants as ends
use Rattle.cfs_core.specs.declared.event.SizeEnd.TheVariants as sizes
use Rattle.cfs_core.specs.declared.inode_core.Core.{Core}
use Rattle.cfs_core.specs.Words.{blank, has_block, is_noop, is_out, is_unserved, is_waiting, track}
use Rattle.cfs_core.specs.Jobs.{next_job, state_flushed, state_written}
use Rattle.cfs_core.specs.Medium.{file}
use Rattle.cfs_core.specs.May.{case, fits, is_change, is_mapped, is_next, may_admit, span_now}
use Rattle.cfs_core.specs.After.{after, change_track, marked, more_to_come, put_back, query_track, retired, sure_doubt, sure_track, sure_tracks, with_track}
use Rattle.cfs_core.specs.Listing.{Letter, doubtful, goes, idles, is_doubtful, item, letter_of, listed, listed_doubt, listing, own_letter, relettered, relisted, waits}
use Rattle.cfs_core.proofs.Legal.{both}
use Rattle.cfs_core.proofs.LoggedCrash.{sure_at}
use Rattle.cfs_core.proofs.Order.{IsOrdered, first_of_and, is_query_state, is_query_track, place_is, serves, some_place, track_is, writes}
use Rattle.cfs_core.proofs.StoredFrames.{same_test}

-- ---- lists

pub other_number : (a b : ℕ) → (a ≡ b → ⊥) → (a == b) ≡ false
other_number a b apart = grind (arith, nat_tests)

-- another place
reletter_beside : (place n : ℕ) (letter own : Option Letter) (rest : List (ℕ × Letter)) →
    (n ≡ place → ⊥) →
    relettered place letter (item n own ++ rest) ≡ item n own ++ relettered place letter rest
reletter_beside place n letter None rest apart = refl
reletter_beside place n letter (Some l) rest apart =
    let test : (n == place) ≡ false = other_number n place apart in rw test refl

reletter_before : (grant place n : ℕ) (letter : Option Letter) (ts : List Track) → place < n →
    relettered place letter (listed grant n ts) ≡ listed grant n ts
reletter_before grant place n letter [] less = refl
reletter_before grant place n letter (t ∷ ts) less =
    reletter_beside place n letter (own_letter grant t) (listed grant (n + 1) ts)
    (λ same. omega arith)
    ∙ ap (λ (l : List (ℕ × Letter)). item n (own_letter grant t) ++ l)
    (reletter_before grant place (n + 1) letter ts (omega arith))

reletter-append : (place : ℕ) (letter : Option Letter) (xs ys : List (ℕ × Letter)) →
    relettered place letter (xs ++ ys) ≡ relettered place letter xs ++ relettered place letter ys
reletter-append place letter [] ys = refl
reletter-append place letter (x ∷ xs) ys =
    ap (λ (l : List (ℕ × Letter)). (if x.0 == place then item place letter else x ∷ []) ++ l)
    (reletter-append place letter xs ys)
    ∙ sym (append_assoc (if x.0 == place then item place letter else x ∷ [])
    (relettered place letter xs) (relettered place letter ys))

-- a track that had a letter is put
listed_put : (grant n place k : ℕ) (ts : List Track) (t : Track) (l : Letter) → place ≡ n + k →
    k < length ts → t.grant ≡ (get_or ts k blank).grant →
    letter_of (get_or ts k blank).state ≡ Some l →
    listed grant n (set ts k t) ≡ relettered place (letter_of t.state) (listed grant n ts)
listed_put grant n place k [] t l at within same had = absurd (omega arith)
listed_put grant n place zero (x ∷ xs) t l at within same had =
    let here : place ≡ n = omega arith in
    let old : own_letter grant x ≡ (if x.grant == grant then Some l else None) = rw had refl in
    let new : own_letter grant t ≡ (if x.grant == grant then letter_of t.state else None) =
    rw same refl in
    rw (here, old, new) (head (x.grant == grant) (letter_of t.state) (listed grant (n + 1) xs)
    (reletter_before grant n (n + 1) (letter_of t.state) xs (omega arith)))
  where
    head : (b : Bool) (letter : Option Letter) (rest : List (ℕ × Letter)) →
        relettered n letter rest ≡ rest →
        (item n (if b then letter else None) ++ rest)
        ≡ relettered n letter (item n (if b then Some l else None) ++ rest)
    head true letter rest kept =
        let test : (n == n) ≡ true = same_test n n refl in rw (test, kept) refl
    head false letter rest kept = sym kept
listed_put grant n place (suc k) (x ∷ xs) t l at within same had =
    ap (λ (rest : List (ℕ × Letter)). item n (own_letter grant x) ++ rest)
    (listed_put grant (n + 1) place k xs t l (omega arith) (omega arith) same had)
    ∙ sym (reletter_beside place n (letter_of t.state) (own_letter grant x)
    (listed grant (n + 1) xs) (λ is. omega arith))

-- tracks with the same letters
listed_alike : (grant n : ℕ) (xs ys : List Track) → length xs ≡ length ys →
    ((k : ℕ) → own_letter grant (get_or xs k blank) ≡ own_letter grant (get_or ys k blank)) →
    listed grant n xs ≡ listed grant n ys
listed_alike grant n [] [] long same = refl
listed_alike grant n [] (y ∷ ys) long same = absurd (omega arith)
listed_alike grant n (x ∷ xs) [] long same = absurd (omega arith)
listed_alike grant n (x ∷ xs) (y ∷ ys) long same =
    let first : own_letter grant x ≡ own_letter grant y = same 0 in
    rw first (ap (λ (rest : List (ℕ × Letter)). item n (own_letter grant y) ++ rest)
    (listed_alike grant (n + 1) xs ys (omega arith) (λ k. same (suc k))))

listed_kept : (grant n k : ℕ) (ts : List Track) (t : Track) →
    own_letter grant t ≡ own_letter grant (get_or ts k blank) →
    listed grant n (set ts k t) ≡ listed grant n ts
listed_kept grant n k [] t same = refl
listed_kept grant n zero (x ∷ xs) t same = rw same refl
listed_kept grant n (suc k) (x ∷ xs) t same =
    ap (λ (rest : List (ℕ × Letter)). item n (own_letter grant x) ++ rest)
    (listed_kept grant (n + 1) k xs t same)

listed_last : (grant n place : ℕ) (ts : List Track) (t : Track) → place ≡ n + length ts →
    listed grant n (ts ++ t ∷ []) ≡ listed grant n ts ++ item place (own_letter grant t)
listed_last grant n place [] t at =
    let here : place ≡ n = omega arith in rw here (append-nil (item n (own_letter grant t)))
listed_last grant n place (x ∷ xs) t at =
    ap (λ (rest : List (ℕ × Letter)). item n (own_letter grant x) ++ rest)
    (listed_last grant (n + 1) place xs t (omega arith))
    ∙ sym (append_assoc (item n (own_letter grant x)) (listed grant (n + 1) xs)
    (item place (own_letter grant t)))

-- no change that is logged is in doubt
listed_sure : (grant n : ℕ) (ts : List Track) →
    filter (λ (i : ℕ × Letter). not (is_doubtful i.1)) (listed grant n ts) ≡ listed grant n ts
listed_sure grant n [] = refl
listed_sure grant n (t ∷ ts) =
    filter-append (λ (i : ℕ × Letter). not (is_doubtful i.1)) (item n (own_letter grant t))
    (listed grant (n + 1) ts)
    ∙ (ap (λ (rest : List (ℕ × Letter)).
    filter (λ (i : ℕ × Letter). not (is_doubtful i.1)) (item n (own_letter grant t)) ++ rest)
    (listed_sure grant (n + 1) ts)
    ∙ ap (λ (first : List (ℕ × Letter)). first ++ listed grant (n + 1) ts)
    (own (t.grant == grant) t.state))
  where
    own : (b : Bool) (s : State) →
        filter (λ (i : ℕ × Letter). not (is_doubtful i.1))
        (item n (if b then letter_of s else None)) ≡ item n (if b then letter_of s else None)
    own true Waiting = refl
    own true (Out job) = refl
    own true Noop = refl
    own true Unserved = refl
    own true Closed = refl
    own false s = refl

settled_doubt : (grant : ℕ) (o : Option Doubt) →
    filter (λ (i : ℕ × Letter). not (is_doubtful i.1)) (listed_doubt grant o) ≡ []
settled_doubt grant None = refl
settled_doubt grant (Some doubt) = by (doubt.grant == grant)
  where
    by : (b : Bool) →
        filter (λ (i : ℕ × Letter). not (is_doubtful i.1))
        (if b then (doubt.entry.place, doubtful) ∷ [] else []) ≡ []
    by true = refl
    by false = refl

sure_listed : (grant : ℕ) (o : Option Doubt) (gate : Bool) →
    listed_doubt grant (sure_doubt o gate) ≡ listed_doubt grant o
sure_listed grant None gate = refl
sure_listed grant (Some doubt) gate = refl

-- ---- a core

letter_query : (s : State) (l : Letter) → letter_of s ≡ Some l → is_query_state s ≡ true → ⊥
letter_query Waiting l had query = cc
letter_query (Out job) l had query = cc
letter_query Noop l had query = cc
letter_query Unserved l had query = cc
letter_query Closed l had query = cc

-- the request in doubt has a later place
doubt_beside : (core : Core) (grant place : ℕ) (letter : Option Letter) (l : Letter) →
    IsOrdered core → (place ≡ 0 → ⊥) → letter_of (track core.tracks place).state ≡ Some l →
    (o : Option Doubt) → core.doubt ≡ o →
    relettered place letter (listed_doubt grant o) ≡ listed_doubt grant o
doubt_beside core grant place letter l ordered some had None is = refl
doubt_beside core grant place letter l ordered some had (Some doubt) is = by (doubt.grant == grant)
  where
    apart : doubt.entry.place ≡ place → ⊥
    apart same =
        let query : is_query_track (get_or core.tracks (place - 1) blank) ≡ true =
        ordered.behind doubt (place - 1) is (omega arith) in
        let at : track core.tracks place ≡ get_or core.tracks (place - 1) blank =
        track_is core.tracks place (place - 1) some refl in
        letter_query (get_or core.tracks (place - 1) blank).state l (rw at at had)
        (both _ (is_query_state (get_or core.tracks (place - 1) blank).state) query).1

    by : (b : Bool) →
        relettered place letter (if b then (doubt.entry.place, doubtful) ∷ [] else [])
        ≡ (if b then (doubt.entry.place, doubtful) ∷ [] else [])
    by true =
        let test : (doubt.entry.place == place) ≡ false =
        other_number doubt.entry.place place apart in rw test refl
    by false = refl

listing_put : (core : Core) (grant place : ℕ) (t : Track) (l : Letter) → IsOrdered core →
    (place ≡ 0 → ⊥) → t.grant ≡ (track core.tracks place).grant →
    letter_of (track core.tracks place).state ≡ Some l →
    listing (with_track core place t) grant
    ≡ relettered place (letter_of t.state) (listing core grant)
listing_put core grant place t l ordered some same had =
    let at : track core.tracks place ≡ get_or core.tracks (place - 1) blank =
    track_is core.tracks place (place - 1) some refl in
    let had_there : letter_of (get_or core.tracks (place - 1) blank).state ≡ Some l =
    rw at at had in
    let logs : listed grant 1 (set core.tracks (place - 1) t)
    ≡ relettered place (letter_of t.state) (listed grant 1 core.tracks) =
    listed_put grant 1 place (place - 1) core.tracks t l (omega arith) (within had_there)
    (rw at at same) had_there in
    let doubts : relettered place (letter_of t.state) (listed_doubt grant core.doubt)
    ≡ listed_doubt grant core.doubt =
    doubt_beside core grant place (letter_of t.state) l ordered some had core.doubt refl in
    let whole =
    reletter-append place (letter_of t.state) (listed grant 1 core.tracks)
    (listed_doubt grant core.doubt) in
    rw (logs, whole, doubts) refl
  where
    within : letter_of (get_or core.tracks (place - 1) blank).state ≡ Some l →
        place - 1 < length core.tracks
    within there = elim (cases_lt (place - 1) (length core.tracks)) [
      | inl less ↦ less
      | inr past ↦
          let none : get_or core.tracks (place - 1) blank ≡ blank =
          get_or_past core.tracks (place - 1) blank past in
          let own : letter_of blank.state ≡ Some l = rw none at there in
          cc
    ]

listing_kept : (core : Core) (grant place : ℕ) (t : Track) → (place ≡ 0 → ⊥) →
    t.grant ≡ (track core.tracks place).grant →
    letter_of t.state ≡ letter_of (track core.tracks place).state →
    listed grant 1 (set core.tracks (place - 1) t) ≡ listed grant 1 core.tracks
listing_kept core grant place t some same letters =
    let at : track core.tracks place ≡ get_or core.tracks (place - 1) blank =
    track_is core.tracks place (place - 1) some refl in
    let own : own_letter grant t ≡ own_letter grant (track core.tracks place) =
    rw (same, letters) refl in
    listed_kept grant 1 (place - 1) core.tracks t (own ∙ ap (λ (x : Track). own_letter grant x) at)

-- ---- the letters of states

waiting_letter : (s : State) → is_waiting s ≡ true → letter_of s ≡ Some waits
waiting_letter Waiting h = refl
waiting_letter (Out job) h = cc
waiting_letter Noop h = cc
waiting_letter Unserved h = cc
waiting_letter Closed h = cc

out_letter : (s : State) → is_out s ≡ true → letter_of s ≡ Some goes
out_letter Waiting h = cc
out_letter (Out job) h = refl
out_letter Noop h = cc
out_letter Unserved h = cc
out_letter Closed h = cc

noop_letter : (s : State) → is_noop s ≡ true → letter_of s ≡ Some idles
noop_letter Waiting h = cc
noop_letter (Out job) h = cc
noop_letter Noop h = refl
noop_letter Unserved h = cc
noop_letter Closed h = cc

unserved_letter : (s : State) → is_unserved s ≡ true → letter_of s ≡ None
unserved_letter Waiting h = cc
unserved_letter (Out job) h = cc
unserved_letter Noop h = cc
unserved_letter Unserved h = refl
unserved_letter Closed h = cc

written_letter : (s : State) (block : ℕ) (ok : Bool) →
    letter_of (state_written block ok s) ≡ letter_of s
written_letter Waiting block ok = refl
written_letter (Out job) block ok = refl
written_letter Noop block ok = refl
written_letter Unserved block ok = refl
written_letter Closed block ok = refl

flushed_letter : (s : State) (block : ℕ) → letter_of (state_flushed block s) ≡ letter_of s
flushed_letter Waiting block = refl
flushed_letter (Out job) block = refl
flushed_letter Noop block = refl
flushed_letter Unserved block = refl
flushed_letter Closed block = refl

-- ---- each event

abbrev Relists : Core → ℕ → Event → Type 0
Relists core grant event =
    listing (after core event) grant ≡ relisted grant event (listing core grant)

admits : (core : Core) (grant : ℕ) (entry : Entry) (own : ℕ) (kept : Bool) → IsOrdered core →
    may_admit core entry ≡ true → Relists core grant (events.Admit entry own kept)
admits core grant entry own kept ordered may_be = by kept (none core.doubt first.0)
  where
    first : (is_none core.doubt ≡ true)
        × ((is_next core entry
        && (is_change entry.request
        && (fits (file core) entry.request && is_mapped core.tags (span_now core entry.request))))
        ≡ true)
    first = both (is_none core.doubt)
        (is_next core entry
        && (is_change entry.request
        && (fits (file core) entry.request && is_mapped core.tags (span_now core entry.request))))
        may_be

    next : entry.place ≡ 1 + length core.tracks
    next = omega (
      arith,
      place_is core entry
          (first_of_and (is_next core entry) _ first.1),
      ordered.same,
    )

    none : (o : Option Doubt) → is_none o ≡ true → o ≡ None
    none None is = refl
    none (Some d) is = cc

    letters : (b : Bool) (l : Letter) (list : List (ℕ × Letter)) →
        (list ++ item entry.place (if b then Some l else None))
        ≡ (if b then list ++ (entry.place, l) ∷ [] else list)
    letters true l list = refl
    letters false l list = append-nil list

    doubts : (b : Bool) (list : List (ℕ × Letter)) →
        (list ++ (if b then (entry.place, doubtful) ∷ [] else []))
        ≡ (if b then list ++ (entry.place, doubtful) ∷ [] else list)
    doubts true list = refl
    doubts false list = append-nil list

    by : (b : Bool) → core.doubt ≡ None → Relists core grant (events.Admit entry own b)
    by true calm =
        let last =
        listed_last grant 1 entry.place core.tracks
        (change_track own (span_now core entry.request)) next in
        let old = append-nil (listed grant 1 core.tracks) in
        let new =
        append-nil (listed grant 1 (core.tracks
        ++ change_track own (span_now core entry.request) ∷ [])) in
        rw (calm, old, new, last) (letters (own == grant) waits (listed grant 1 core.tracks))
    by false calm =
        let old = append-nil (listed grant 1 core.tracks) in
        rw (calm, old) (doubts (own == grant) (listed grant 1 core.tracks))

asks : (core : Core) (grant : ℕ) (entry : Entry) → IsOrdered core → is_next core entry ≡ true →
    Relists core grant (events.AdmitRead entry)
asks core grant entry ordered next =
    let place : entry.place ≡ 1 + length core.tracks =
    omega (arith, place_is core entry next, ordered.same) in
    let last =
    listed_last grant 1 entry.place core.tracks
    (query_track (span_now core entry.request)) place in
    let none : own_letter grant (query_track (span_now core entry.request)) ≡ None =
    by (0 == grant) in
    let nil = append-nil (listed grant 1 core.tracks) in
    ap (λ (l : List (ℕ × Letter)). l ++ listed_doubt grant core.doubt)
    (last ∙ (ap (λ (o : Option Letter). listed grant 1 core.tracks ++ item entry.place o) none
    ∙ nil))
  where
    by : (b : Bool) → (if b then letter_of Unserved else None) ≡ None
    by true = refl
    by false = refl

beside : (core : Core) (grant : ℕ) (tracks : List Track) →
    listed grant 1 tracks ≡ listed grant 1 core.tracks →
    (listed grant 1 tracks ++ listed_doubt grant core.doubt) ≡ listing core grant
beside core grant tracks same =
    ap (λ (l : List (ℕ × Letter)). l ++ listed_doubt grant core.doubt) same

block_place : (core : Core) (place block : ℕ) →
    has_block (track core.tracks place).state block ≡ true → place ≡ 0 → ⊥
block_place core place block has = some_place (λ s. has_block s block) refl core.tracks place has

finishes : (core : Core) (grant place : ℕ) (end : End) → IsOrdered core →
    is_out (track core.tracks place).state ≡ true → Relists core grant (events.Finish place end)
finishes core grant place end ordered out = by end
  where
    some : place ≡ 0 → ⊥
    some = some_place is_out refl core.tracks place out

    had : letter_of (track core.tracks place).state ≡ Some goes
    had = out_letter (track core.tracks place).state out

    by : (e : End) → Relists core grant (events.Finish place e)
    by ends.Retired =
        listing_put core grant place (retired (track core.tracks place)) goes ordered some refl had
    by ends.More =
        listing_put core grant place (more_to_come
        (track core.tracks place)) goes ordered some refl had
    by (ends.Back sizes.AsBefore gate applied) =
        listing_put core grant place (put_back
        (track core.tracks place) gate applied) goes ordered some refl had
    by (ends.Back sizes.Set gate applied) =
        listing_put core grant place (put_back
        (track core.tracks place) gate applied) goes ordered some refl had
    by (ends.Back sizes.Either gate applied) =
        listing_put core grant place (put_back
        (track core.tracks place) gate applied) goes ordered some refl had

crashes : (core : Core) (grant : ℕ) (image : Image) → Relists core grant (events.Crash image)
crashes core grant image =
    let tracks : listed grant 1 (sure_tracks core.tracks image.gates image.marks)
    ≡ listed grant 1 core.tracks =
    listed_alike grant 1 (sure_tracks core.tracks image.gates image.marks) core.tracks
    (length-map-range_with_len (λ n.
    sure_track (get_or core.tracks n blank) (get_or image.gates n false)
    (get_or image.marks n false)) 0 (length core.tracks))
    (λ k. elim (sure_at core image k)
    [ inl now ↦ rw now.1 refl | inr none ↦ rw (none.0, none.1) refl ]) in
    rw (tracks, sure_listed grant core.doubt image.doubt) refl

pub relists : (core : Core) (grant : ℕ) (event : Event) → IsOrdered core → case core event ≡ true →
    Relists core grant event
relists core grant (events.Tag block kept) o h = refl
relists core grant (events.Admit entry own kept) o h = admits core grant entry own kept o h
relists core grant (events.AdmitRead entry) o h =
    asks core grant entry o (first_of_and (is_next core entry) _ h)
relists core grant (events.Serve place answer) o h =
    let unserved = serves core place answer h in
    beside core grant _ (listing_kept core grant place
    (record (track core.tracks place) { state = Closed })
    (some_place is_unserved refl core.tracks place unserved) refl
    (sym (unserved_letter (track core.tracks place).state unserved)))
relists core grant (events.Mark place by true) o h =
    let waiting = first_of_and (is_waiting (track core.tracks place).state) _ h in
    listing_put core grant place (marked (track core.tracks place) true) waits o
    (some_place is_waiting refl core.tracks place waiting) refl
    (waiting_letter (track core.tracks place).state waiting)
relists core grant (events.Mark place by false) o h =
    let waiting = first_of_and (is_waiting (track core.tracks place).state) _ h in
    beside core grant _ (listing_kept core grant place (marked (track core.tracks place) false)
    (some_place is_waiting refl core.tracks place waiting) refl refl)
relists core grant (events.Dispatch place) o h =
    let waiting = first_of_and (is_waiting (track core.tracks place).state) _ h in
    listing_put core grant place (record
    (track core.tracks place) { state = Out (next_job core.tags (track core.tracks place)) })
    waits o
    (some_place is_waiting refl core.tracks place waiting) refl
    (waiting_letter (track core.tracks place).state waiting)
relists core grant (events.BlockWrite place block None) o h =
    beside core grant _ (listing_kept core grant place
    (record (track core.tracks place) {
      state = state_written block true
          (track core.tracks place).state;
    })
    (block_place core place block (writes core place block None h)) refl
    (written_letter (track core.tracks place).state block true))
relists core grant (events.BlockWrite place block (Some left)) o h =
    beside core grant _ (listing_kept core grant place
    (record (track core.tracks place) {
      state = state_written block false
          (track core.tracks place).state;
    })
    (block_place core place block (writes core place block (Some left) h)) refl
    (written_letter (track core.tracks place).state block false))
relists core grant (events.Flush place block true) o h =
    beside core grant _ (listing_kept core grant place
    (record (track core.tracks place) {
      state = state_flushed block
          (track core.tracks place).state;
    })
    (block_place core place block (both _ (has_block (track core.tracks place).state block) h).1)
    refl (flushed_letter (track core.tracks place).state block))
relists core grant (events.Flush place block false) o h = refl
relists core grant (events.Finish place end) o h =
    finishes core grant place end o (first_of_and (is_out (track core.tracks place).state) _ h)
relists core grant (events.Skip place) o h =
    listing_put core grant place (retired (track core.tracks place)) idles o
    (some_place is_noop refl core.tracks place h) refl
    (noop_letter (track core.tracks place).state h)
relists core grant (events.Trim block kept) o h = refl
relists core grant events.Settle o h =
    append-nil (listed grant 1 core.tracks)
    ∙ sym (filter-append (λ (i : ℕ × Letter). not (is_doubtful i.1)) (listed grant 1 core.tracks)
    (listed_doubt grant core.doubt)
    ∙ rw (listed_sure grant 1 core.tracks, settled_doubt grant core.doubt)
    (append-nil (listed grant 1 core.tracks)))
relists core grant (events.Crash image) o h = crashes core grant image
relists core grant events.Mount o h = refl
