-- The request in doubt has a number behind those of the pending entries.
use Rattle.std.proofs.Common.{◌≡◌, ◌∙◌, ◌<◌, inl, inr, Some, sym, true, false, ℕ, Bool}
use Rattle.std.proofs.lemmas.Bool.{cases_lt}
use Rattle.cfs_core.specs.declared.doubt.Doubt.{Doubt}
use Rattle.cfs_core.specs.declared.flag.Flag.TheVariants as flags
use Rattle.cfs_core.specs.declared.inode_core.Core.{Core}
use Rattle.cfs_core_laws.proofs.Doubts.{in-step}
use Rattle.cfs_core_laws.proofs.Whole.{whole}
use Rattle.cfs_tracker.specs.declared.pending.Pending.{Pending}
use Rattle.cfs_tracker.specs.View.{TrackerView, entry_at}
use Rattle.cfs_tracker.specs.Follows.{Follows, gate_for, is_dead}
use Rattle.cfs_tracker.proofs.Putting.{track-of}

gate-some : (dead applied : Bool) → gate_for dead applied ≡ flags.Off → ⊥
gate-some true applied h = cc
gate-some false true h = cc
gate-some false false h = cc

pub doubt-behind : {S D B : Type 0} (view : TrackerView S D B) (core : Core) (place : ℕ)
    (entry : Pending S) (doubt : Doubt) → Follows view core →
    entry_at view.entries place ≡ Some entry → core.doubt ≡ Some doubt →
    place < doubt.entry.place
doubt-behind view core place entry doubt follows there is =
    elim (cases_lt place doubt.entry.place) [
      | inl less ↦ less
      | inr le ↦
          let step =
          (in-step core (whole follows.reached).kept (whole follows.reached).doubted).doubt doubt
          is in
          let own = track-of view core place entry follows there in
          absurd (gate-some (is_dead entry.doing) entry.applied (sym own.gate ∙ step.since place
          le))
    ]
