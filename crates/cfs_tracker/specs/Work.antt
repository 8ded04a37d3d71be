-- What there is to do.
use Rattle.std.specs.Prelude.{ℕ, ◌+◌, ◌-◌, ◌^◌, Bool, true, false, ◌&&◌, ◌||◌, Option, Some, List}
use Rattle.std.specs.Prelude.{find, min, nat_lt, option_map}
use Rattle.std.specs.List.{list_any}
use Rattle.cfs_file.specs.Span.{meets}
use Rattle.cfs_tracker.specs.declared.doing.Doing.{Doing}
use Rattle.cfs_tracker.specs.declared.doing.Doing.TheVariants.{Covered}
use Rattle.cfs_tracker.specs.declared.pending.Pending.{Pending}
use Rattle.cfs_tracker.specs.declared.reading.Reading.{Reading}
use Rattle.cfs_tracker.specs.declared.step.Step.{Step}
use Rattle.cfs_tracker.specs.declared.step.Step.TheVariants.{Takes}
use Rattle.cfs_tracker.specs.declared.work_item.Work.{Work}
use Rattle.cfs_tracker.specs.Dispatch.{step_of}
use Rattle.cfs_tracker.specs.Reads.{is_live_doing}
use Rattle.cfs_tracker.specs.View.{TrackerView, with_entry}

abbrev pub is_noop_doing : {S : Type 0} → Doing S → Bool
is_noop_doing (Covered slots) = true
is_noop_doing _ = false

abbrev pub takes_now : Step → Bool
takes_now (Takes first second) = true
takes_now _ = false

-- a no-op, or a change that a job may take
abbrev pub is_to_do : {S D B : Type 0} → TrackerView S D B → Pending S → Bool
is_to_do view entry = is_noop_doing entry.doing || takes_now (step_of view (Some entry))

-- a later read that overlaps, or a later sync
abbrev pub is_waiting_read : {S : Type 0} → Pending S → Reading → Bool
is_waiting_read entry read =
    nat_lt entry.place read.place && (read.is_sync || meets read.span entry.span)

abbrev pub read_waits : {S : Type 0} → List Reading → Pending S → Bool
read_waits reads entry =
    is_live_doing entry.doing && list_any (is_waiting_read entry) reads

abbrev pub work_of : {S D B : Type 0} → TrackerView S D B → Pending S → Work
work_of view entry = record {
  place = entry.place;
  is_noop = is_noop_doing entry.doing;
  read_waits = read_waits view.reads entry;
  passed = entry.passed;
}

-- the first behind a place
abbrev pub next_work : {S D B : Type 0} → TrackerView S D B → ℕ → Option Work
next_work view after =
    option_map (work_of view)
    (find (λ e. nat_lt after e.place && is_to_do view e) view.entries)

-- ---- other work is chosen

-- once more, up to what a word holds
abbrev pub once_more : ℕ → ℕ
once_more n = min (n + 1) (2 ^ 64 - 1)

abbrev pub passed_entry : {S : Type 0} → Pending S → Pending S
passed_entry entry = record entry { passed = once_more entry.passed }

-- other work was chosen while the entry of the place stood ready
abbrev pub noted : {S D B : Type 0} → ℕ → TrackerView S D B → TrackerView S D B
noted place view = record view { entries = with_entry place passed_entry view.entries }
