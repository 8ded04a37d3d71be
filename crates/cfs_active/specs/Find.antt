-- A job is found by the place of its change.
use Rattle.std.specs.Prelude.{ℕ, ◌≡◌, ◌==◌, Bool, List, ◌∷◌, ◌++◌}
use Rattle.cfs_job.specs.declared.job.Job.{Job}
use Rattle.cfs_job.specs.Views.{JobView}
use Rattle.cfs_slot.specs.Regions.{place_of}

abbrev pub is_job_of : {R B : Type 0} {g h : _} → ℕ → Job R B g h → Bool
is_job_of place job = place_of job.request == place

-- The job of this place is one of these, with those before it and those behind it.
pub record HasJob (place : ℕ) (jobs : List JobView) : Type 0 where
  pub before : List JobView
  pub job : JobView
  pub behind : List JobView
  pub jobs_are : jobs ≡ before ++ job ∷ behind
  pub place_is : job.place ≡ place
