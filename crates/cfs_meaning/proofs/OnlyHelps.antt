-- Helping an entry has one end, and leaves one world.
use Rattle.std.proofs.Common.{◌≡◌, ◌∙◌, ℕ, Bool, true, false, refl, sym, ap, subst, if◌then◌else◌}
use Rattle.std.specs.Prelude.{Result, Ok, Err}
use Rattle.cfs_core.specs.declared.inode_core.Core.{Core}
use Rattle.cfs_core.specs.declared.state.State.{State}
use Rattle.cfs_core.specs.declared.state.State.TheVariants.{Closed, Noop, Out, Unserved, Waiting}
use Rattle.cfs_core.specs.Words.{is_noop, is_out, is_waiting, track}
use Rattle.cfs_meaning.specs.World.{World, core_in}
use Rattle.cfs_meaning.specs.Inode.{Absent, Behind, Ready, Verdict, run_job, skip, verdict}
use Rattle.cfs_meaning.specs.Files.{Helps, fails, fails_first, helps_first, is_behind, is_out_itself, is_stuck, skips, works, works_on}
use Rattle.cfs_meaning.specs.Ways.{Halt, Waits}
use Rattle.cfs_meaning.proofs.Keeping.{Any}
use Rattle.cfs_meaning.proofs.Only.{Single, ended, err-ok, ok-err, turn-clash}

-- ---- which rule an entry goes by

data Branch : Type 0 where
  skipping : Branch
  pending : ℕ → Branch
  first : ℕ → Branch
  working : Branch
  idle : Branch

by_verdict : Core → Verdict → Branch
by_verdict core Absent = idle
by_verdict core (Behind q) = if is_stuck core q then pending q else first q
by_verdict core Ready = working

branch : Core → ℕ → Branch
branch core place =
    if is_noop (track core.tracks place).state then skipping
    else (if is_out (track core.tracks place).state then pending place
    else by_verdict core (verdict core place))

out-noop : (s : State) → is_out s ≡ true → is_noop s ≡ false
out-noop (Out job) is = refl
out-noop Waiting is = refl
out-noop Noop is = absurd (cc)
out-noop Unserved is = refl
out-noop Closed is = refl

waiting-noop : (s : State) → is_waiting s ≡ true → (is_noop s ≡ false) × (is_out s ≡ false)
waiting-noop Waiting is = (refl, refl)
waiting-noop (Out job) is = absurd (cc)
waiting-noop Noop is = absurd (cc)
waiting-noop Unserved is = absurd (cc)
waiting-noop Closed is = absurd (cc)

abbrev is_absent : Verdict → Bool
is_absent Absent = true
is_absent (Behind q) = false
is_absent Ready = false

-- where something is in the way, or nothing is, the entry waits
waits-so : (waiting : Bool) (v : Verdict) →
    is_absent (if waiting then v else Absent) ≡ false → waiting ≡ true
waits-so true v is = refl
waits-so false v is = absurd (cc)

verdict-waits : (core : Core) (place : ℕ) → is_absent (verdict core place) ≡ false →
    is_waiting (track core.tracks place).state ≡ true
verdict-waits core place is = waits-so (is_waiting (track core.tracks place).state) _ is

branch-skips : (core : Core) (place : ℕ) → is_noop (track core.tracks place).state ≡ true →
    branch core place ≡ skipping
unfolding branch
branch-skips core place is =
    ap (λ b. if b then skipping
    else (if is_out (track core.tracks place).state then pending place
    else by_verdict core (verdict core place))) is

branch-not : (core : Core) (place : ℕ) (noop out : Bool) (other : Branch) →
    is_noop (track core.tracks place).state ≡ noop → is_out (track core.tracks place).state ≡ out →
    (if noop then skipping else (if out then pending place
    else by_verdict core (verdict core place))) ≡ other → branch core place ≡ other
unfolding branch
branch-not core place noop out other is is' same =
    ap (λ b. if b then skipping
    else (if is_out (track core.tracks place).state then pending place
    else by_verdict core (verdict core place))) is
    ∙ ap (λ b. if noop then skipping else (if b then pending place
    else by_verdict core (verdict core place))) is'
    ∙ same

branch-out : (core : Core) (place : ℕ) → is_out (track core.tracks place).state ≡ true →
    branch core place ≡ pending place
branch-out core place is =
    branch-not core place false true (pending place)
    (out-noop (track core.tracks place).state is) is refl

branch-verdict : (core : Core) (place : ℕ) (v : Verdict) → verdict core place ≡ v →
    is_absent v ≡ false → branch core place ≡ by_verdict core v
branch-verdict core place v is there =
    let states = waiting-noop (track core.tracks place).state
    (verdict-waits core place (ap is_absent is ∙ there)) in
    branch-not core place false false (by_verdict core v) states.0 states.1
    (ap (by_verdict core) is)

branch-behind : (core : Core) (place q : ℕ) (stuck : Bool) (other : Branch) →
    verdict core place ≡ Behind q → is_stuck core q ≡ stuck →
    (if stuck then pending q else first q) ≡ other → branch core place ≡ other
unfolding by_verdict
branch-behind core place q stuck other is is' same =
    branch-verdict core place (Behind q) is refl
    ∙ ap (λ b. if b then pending q else first q) is' ∙ same

branch-ready : (core : Core) (place : ℕ) → verdict core place ≡ Ready →
    branch core place ≡ working
unfolding by_verdict
branch-ready core place is = branch-verdict core place Ready is refl

-- ---- what is done by each rule

data Doing (ino place : ℕ) : Branch → World → Result (Unit {0}) Halt → World → Type 0 where
  d_skips : {old new : World} {end : Result (Unit {0}) Halt} → skip ino place old end new →
      Doing ino place skipping old end new
  d_waits : {q : ℕ} {old : World} → Doing ino place (pending q) old (Err (Waits q)) old
  d_first : {q : ℕ} {old mid new : World} {end : Result (Unit {0}) Halt} →
      Helps ino q old (Ok tt) mid → Helps ino place mid end new →
      Doing ino place (first q) old end new
  d_fails : {q : ℕ} {old new : World} {halt : Halt} → Helps ino q old (Err halt) new →
      Doing ino place (first q) old (Err halt) new
  d_done : {old new : World} → run_job ino place old (Ok false) new →
      Doing ino place working old (Ok tt) new
  d_goes_on : {old mid new : World} {end : Result (Unit {0}) Halt} →
      run_job ino place old (Ok true) mid → Helps ino place mid end new →
      Doing ino place working old end new
  d_breaks : {old new : World} {halt : Halt} → run_job ino place old (Err halt) new →
      Doing ino place working old (Err halt) new

view : {ino place : ℕ} (old : World) (end : Result (Unit {0}) Halt) (new : World) →
    Helps ino place old end new →
    Doing ino place (branch (core_in old ino) place) old end new
view {ino} {place} old end new (skips is way) =
    subst (λ b. Doing ino place b old end new) (sym (branch-skips (core_in old ino) place is))
    (d_skips way)
view {ino} {place} old end new (is_out_itself is) =
    subst (λ b. Doing ino place b old (Err (Waits place)) old)
    (sym (branch-out (core_in old ino) place is)) d_waits
view {ino} {place} old end new (is_behind {q = q} is stuck) =
    subst (λ b. Doing ino place b old (Err (Waits q)) old)
    (sym (branch-behind (core_in old ino) place q true (pending q) is stuck refl)) d_waits
view {ino} {place} old end new (helps_first {q = q} is free one rest) =
    subst (λ b. Doing ino place b old end new)
    (sym (branch-behind (core_in old ino) place q false (first q) is free refl))
    (d_first one rest)
view {ino} {place} old end new (fails_first {q = q} {halt = halt} is free one) =
    subst (λ b. Doing ino place b old (Err halt) new)
    (sym (branch-behind (core_in old ino) place q false (first q) is free refl)) (d_fails one)
view {ino} {place} old end new (works is job) =
    subst (λ b. Doing ino place b old (Ok tt) new)
    (sym (branch-ready (core_in old ino) place is)) (d_done job)
view {ino} {place} old end new (works_on is job rest) =
    subst (λ b. Doing ino place b old end new)
    (sym (branch-ready (core_in old ino) place is)) (d_goes_on job rest)
view {ino} {place} old end new (fails {halt = halt} is job) =
    subst (λ b. Doing ino place b old (Err halt) new)
    (sym (branch-ready (core_in old ino) place is)) (d_breaks job)

at-branch : {ino place : ℕ} (b : Branch) (old : World) (end : Result (Unit {0}) Halt)
    (new : World) → branch (core_in old ino) place ≡ b → Helps ino place old end new →
    Doing ino place b old end new
at-branch {ino} {place} b old end new is way =
    subst (λ x. Doing ino place x old end new) is (view old end new way)

-- ---- one end

skip-end : {ino place : ℕ} (old : World) (end : Result (Unit {0}) Halt) (new : World) →
    Doing ino place skipping old end new → skip ino place old end new
skip-end old end new (d_skips way) = way

wait-end : {ino place q : ℕ} (old : World) (end : Result (Unit {0}) Halt) (new : World) →
    Doing ino place (pending q) old end new → (Err (Waits q) ≡ end) × (old ≡ new)
wait-end old end new d_waits = (refl, refl)

data FirstEnd (ino place q : ℕ) (old : World) (end : Result (Unit {0}) Halt) (new : World)
    : Type 0 where
  helped : (mid : World) → Helps ino q old (Ok tt) mid → Helps ino place mid end new →
      FirstEnd ino place q old end new
  failed : (halt : Halt) → end ≡ Err halt → Helps ino q old (Err halt) new →
      FirstEnd ino place q old end new

first-end : {ino place q : ℕ} (old : World) (end : Result (Unit {0}) Halt) (new : World) →
    Doing ino place (first q) old end new → FirstEnd ino place q old end new
first-end old end new (d_first {mid = mid} one rest) = helped mid one rest
first-end old end new (d_fails {halt = halt} one) = failed halt refl one

data WorkEnd (ino place : ℕ) (old : World) (end : Result (Unit {0}) Halt) (new : World)
    : Type 0 where
  done_so : end ≡ Ok tt → run_job ino place old (Ok false) new → WorkEnd ino place old end new
  on_so : (mid : World) → run_job ino place old (Ok true) mid → Helps ino place mid end new →
      WorkEnd ino place old end new
  broken : (halt : Halt) → end ≡ Err halt → run_job ino place old (Err halt) new →
      WorkEnd ino place old end new

work-end : {ino place : ℕ} (old : World) (end : Result (Unit {0}) Halt) (new : World) →
    Doing ino place working old end new → WorkEnd ino place old end new
work-end old end new (d_done job) = done_so refl job
work-end old end new (d_goes_on {mid = mid} job rest) = on_so mid job rest
work-end old end new (d_breaks {halt = halt} job) = broken halt refl job

pub helps-only : {ino : ℕ} → ((place : ℕ) → Single Any (skip ino place)) →
    ((place : ℕ) → Single Any (run_job ino place)) → {place : ℕ}
    (old : World) (one other : Result (Unit {0}) Halt) (new also : World) →
    Helps ino place old one new → Helps ino place old other also →
    (one ≡ other) × (new ≡ also)
helps-only {ino} s j {place} old one other new also (skips is way) e =
    (s place).only old one other new also way
    (skip-end old other also
    (at-branch skipping old other also (branch-skips (core_in old ino) place is) e))
helps-only {ino} s j {place} old one other new also (is_out_itself is) e =
    wait-end old other also
    (at-branch (pending place) old other also (branch-out (core_in old ino) place is) e)
helps-only {ino} s j {place} old one other new also (is_behind {q = q} is stuck) e =
    wait-end old other also
    (at-branch (pending q) old other also
    (branch-behind (core_in old ino) place q true (pending q) is stuck refl) e)
helps-only {ino} s j {place} old one other new also
    (helps_first {q = q} {mid = mid} is free front rest) e =
    elim (first-end old other also (at-branch (first q) old other also
    (branch-behind (core_in old ino) place q false (first q) is free refl) e)) [
      | helped mid' front' rest' ↦
          let same = helps-only s j old (Ok tt) (Ok tt) mid mid' front front' in
          helps-only s j mid one other new also rest
          (subst (λ w. Helps ino place w other also) (sym same.1) rest')
      | failed halt is' front' ↦
          ok-err tt halt (helps-only s j old (Ok tt) (Err halt) mid also front front').0
    ]
helps-only {ino} s j {place} old one other new also
    (fails_first {q = q} {halt = halt} is free front) e =
    elim (first-end old other also (at-branch (first q) old other also
    (branch-behind (core_in old ino) place q false (first q) is free refl) e)) [
      | helped mid' front' rest' ↦
          err-ok halt tt (helps-only s j old (Err halt) (Ok tt) new mid' front front').0
      | failed halt' is' front' ↦
          let same = helps-only s j old (Err halt) (Err halt') new also front front' in
          (same.0 ∙ sym is', same.1)
    ]
helps-only {ino} s j {place} old one other new also (works is job) e =
    elim (work-end old other also (at-branch working old other also
    (branch-ready (core_in old ino) place is) e)) [
      | done_so is' job' ↦
          (sym is', ((j place).only old (Ok false) (Ok false) new also job job').1)
      | on_so mid' job' rest' ↦
          turn-clash (sym ((j place).only old (Ok false) (Ok true) new mid' job job').0)
      | broken halt' is' job' ↦
          ok-err false halt' ((j place).only old (Ok false) (Err halt') new also job job').0
    ]
helps-only {ino} s j {place} old one other new also (works_on {mid = mid} is job rest) e =
    elim (work-end old other also (at-branch working old other also
    (branch-ready (core_in old ino) place is) e)) [
      | done_so is' job' ↦
          turn-clash ((j place).only old (Ok true) (Ok false) mid also job job').0
      | on_so mid' job' rest' ↦
          let same = (j place).only old (Ok true) (Ok true) mid mid' job job' in
          helps-only s j mid one other new also rest
          (subst (λ w. Helps ino place w other also) (sym same.1) rest')
      | broken halt' is' job' ↦
          ok-err true halt' ((j place).only old (Ok true) (Err halt') mid also job job').0
    ]
helps-only {ino} s j {place} old one other new also (fails {halt = halt} is job) e =
    elim (work-end old other also (at-branch working old other also
    (branch-ready (core_in old ino) place is) e)) [
      | done_so is' job' ↦
          err-ok halt false ((j place).only old (Err halt) (Ok false) new also job job').0
      | on_so mid' job' rest' ↦
          err-ok halt true ((j place).only old (Err halt) (Ok true) new mid' job job').0
      | broken halt' is' job' ↦
          let same = (j place).only old (Err halt) (Err halt') new also job job' in
          (ap ended same.0 ∙ sym is', same.1)
    ]
