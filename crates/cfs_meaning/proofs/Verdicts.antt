-- An entry with nothing in its way may be dispatched.
use Rattle.std.proofs.Common.{◌≡◌, ℕ, zero, suc, ◌+◌, ◌-◌, ◌<◌, Bool, true, false, not, ◌&&◌, ◌||◌}
use Rattle.std.proofs.Common.{Option, Some, None, List, [], ◌∷◌, ◌++◌, length, map, take, get_or}
use Rattle.std.proofs.Common.{refl, sym, ap, ◌∙◌, subst, if◌then◌else◌, arith}
use Rattle.std.specs.Option.{option_to_list}
use Rattle.std.specs.List.{list_any}
use Rattle.std.proofs.lemmas.Bool.{or_parts}
use Rattle.cfs_file.specs.Span.{meets}
use Rattle.cfs_core.specs.declared.inode_core.Core.{Core}
use Rattle.cfs_core.specs.declared.state.Lease.{Lease}
use Rattle.cfs_core.specs.declared.state.Job.{Job}
use Rattle.cfs_core.specs.declared.track.Track.{Track}
use Rattle.cfs_core.specs.Jobs.{is_taken, next_job}
use Rattle.cfs_core.specs.May.{has_live_in, has_read_in, may_dispatch}
use Rattle.cfs_core.specs.Words.{blank, has_block, is_live, is_unserved, is_waiting, track}
use Rattle.cfs_core_laws.proofs.Finds.{find-none}
use Rattle.cfs_core_laws.proofs.Lent.{track-next}
use Rattle.cfs_meaning.specs.Inode.{Absent, Ready, Verdict, first_before, first_of, holder, leases}
use Rattle.cfs_meaning.specs.Inode.{verdict}

-- ---- tests of lists

none-in : (test : Track → Bool) (tracks : List Track) (n : ℕ) →
    ((k : ℕ) → k < n → k < length tracks → test (get_or tracks k blank) ≡ false) →
    list_any test (take n tracks) ≡ false
none-in test tracks zero none = refl
none-in test [] (suc n) none = refl
none-in test (t ∷ tracks) (suc n) none =
    let here : test t ≡ false = none 0 (omega arith) (omega arith) in
    let rest : list_any test (take n tracks) ≡ false =
    none-in test tracks n (λ k low less. none (suc k) (omega arith) (omega arith)) in
    ap (λ b. b || list_any test (take n tracks)) here ∙ rest

none-of : (test : Track → Bool) (tracks : List Track) →
    ((k : ℕ) → k < length tracks → test (get_or tracks k blank) ≡ false) →
    list_any test tracks ≡ false
none-of test [] none = refl
none-of test (t ∷ tracks) none =
    let here : test t ≡ false = none 0 (omega arith) in
    let rest : list_any test tracks ≡ false =
    none-of test tracks (λ k less. none (suc k) (omega arith)) in
    ap (λ b. b || list_any test tracks) here ∙ rest

-- what is found at no place before that one is in none of the tracks there
none-before : (core : Core) (place : ℕ) (test : Track → Bool) →
    first_before core place test ≡ None → (k : ℕ) → k < place - 1 →
    test (get_or core.tracks k blank) ≡ false
none-before core place test none k low =
    ap test (sym (track-next core k))
    ∙ find-none (λ p. test (track core.tracks p)) 1 (place - 1) (k + 1) none (omega arith)
    (omega arith)

one-of : (live read meeting : Bool) → ((live || read) && meeting) ≡ false →
    ((live && meeting) ≡ false) × ((read && meeting) ≡ false)
one-of true read true is = absurd (cc)
one-of true true false is = (refl, refl)
one-of true false false is = (refl, refl)
one-of false true true is = absurd (cc)
one-of false true false is = (refl, refl)
one-of false false true is = (refl, refl)
one-of false false false is = (refl, refl)

-- ---- what is in the way

if-ready : (test : Bool) (v : Verdict) → (if test then v else Absent) ≡ Ready →
    (test ≡ true) × (v ≡ Ready)
if-ready true v is = (refl, is)
if-ready false v is = absurd (cc)

nothing-first : (one other : Option ℕ) → first_of one other ≡ Ready → (one ≡ None) × (other ≡ None)
nothing-first None None is = (refl, refl)
nothing-first None (Some p) is = absurd (cc)
nothing-first (Some p) other is = absurd (cc)

-- ---- blocks that are needed

none-has : (state_has : ℕ → Bool) (one other : Option Lease) →
    list_any state_has (map (λ (l : Lease). l.block) (option_to_list one ++ option_to_list other))
    ≡ false → (lease : Lease) → (one ≡ Some lease) → state_has lease.block ≡ false
none-has state_has None other none lease is = absurd (cc)
none-has state_has (Some first) other none lease is =
    let same : first ≡ lease = cc in
    subst (λ (l : Lease). state_has l.block ≡ false) same
    (or_parts (state_has first.block) _ none).0

none-alone : (state_has : ℕ → Bool) (other : Option Lease) →
    list_any state_has (map (λ (l : Lease). l.block) (option_to_list other)) ≡ false →
    (lease : Lease) → (other ≡ Some lease) → state_has lease.block ≡ false
none-alone state_has None none lease is = absurd (cc)
none-alone state_has (Some first) none lease is =
    let same : first ≡ lease = cc in
    subst (λ (l : Lease). state_has l.block ≡ false) same
    (or_parts (state_has first.block) _ none).0

none-other : (state_has : ℕ → Bool) (one other : Option Lease) →
    list_any state_has (map (λ (l : Lease). l.block) (option_to_list one ++ option_to_list other))
    ≡ false → (lease : Lease) → (other ≡ Some lease) → state_has lease.block ≡ false
none-other state_has None other none lease is = none-alone state_has other none lease is
none-other state_has (Some first) other none lease is =
    none-alone state_has other (or_parts (state_has first.block) _ none).1 lease is

free-lease : (core : Core) (lease : Option Lease) → ((l : Lease) → lease ≡ Some l → (k : ℕ) →
    k < length core.tracks → has_block (get_or core.tracks k blank).state l.block ≡ false) →
    is_taken core.tracks lease ≡ false
free-lease core None free = refl
free-lease core (Some l) free =
    none-of (λ t. has_block t.state l.block) core.tracks (free l refl)

holder-none : (core : Core) (job : Job) →
    holder core (map (λ l. l.block) (leases job)) ≡ None → (k : ℕ) → k < length core.tracks →
    list_any (λ b. has_block (get_or core.tracks k blank).state b)
    (map (λ l. l.block) (leases job)) ≡ false
holder-none core job none k less =
    ap (λ (t : Track). list_any (λ b. has_block t.state b) (map (λ l. l.block) (leases job)))
    (sym (track-next core k))
    ∙ find-none
    (λ p. list_any (λ b. has_block (track core.tracks p).state b) (map (λ l. l.block) (leases job)))
    1 (length core.tracks) (k + 1) none (omega arith) (omega arith)

pub ready-may : (core : Core) (place : ℕ) → verdict core place ≡ Ready →
    may_dispatch core place ≡ true
ready-may core place is =
    let t : Track = track core.tracks place in
    let job : Job = next_job core.tags t in
    let waits = if-ready (is_waiting t.state) _ is in
    let free = nothing-first _ _ waits.1 in
    let before = none-before core place
    (λ o. (is_live o.state || is_unserved o.state) && meets o.span t.span) free.0 in
    let no_live : has_live_in (take (place - 1) core.tracks) t.span ≡ false =
    none-in (λ o. is_live o.state && meets o.span t.span) core.tracks (place - 1) (λ k low less.
    (one-of (is_live (get_or core.tracks k blank).state)
    (is_unserved (get_or core.tracks k blank).state)
    (meets (get_or core.tracks k blank).span t.span) (before k low)).0) in
    let no_read : has_read_in (take (place - 1) core.tracks) t.span ≡ false =
    none-in (λ o. is_unserved o.state && meets o.span t.span) core.tracks (place - 1) (λ k low less.
    (one-of (is_live (get_or core.tracks k blank).state)
    (is_unserved (get_or core.tracks k blank).state)
    (meets (get_or core.tracks k blank).span t.span) (before k low)).1) in
    let first : is_taken core.tracks job.first ≡ false =
    free-lease core job.first (λ l own k less.
    none-has (has_block (get_or core.tracks k blank).state) job.first job.second
    (holder-none core job free.1 k less) l own) in
    let second : is_taken core.tracks job.second ≡ false =
    free-lease core job.second (λ l own k less.
    none-other (has_block (get_or core.tracks k blank).state) job.first job.second
    (holder-none core job free.1 k less) l own) in
    all-five (is_waiting t.state) _ _ _ _ waits.0 no_live no_read first second
  where
    all-five : (a b c d e : Bool) → a ≡ true → b ≡ false → c ≡ false → d ≡ false → e ≡ false →
        (a && (not b && (not c && (not d && not e)))) ≡ true
    all-five a b c d e is_a is_b is_c is_d is_e =
        ap (λ x. x && (not b && (not c && (not d && not e)))) is_a
        ∙ ap (λ x. not x && (not c && (not d && not e))) is_b
        ∙ ap (λ x. not x && (not d && not e)) is_c ∙ ap (λ x. not x && not e) is_d
        ∙ ap (λ x. not x) is_e
