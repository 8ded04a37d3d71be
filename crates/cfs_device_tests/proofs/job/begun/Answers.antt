use Rattle.std.proofs.Common.{ℕ, ◌∙◌, Option, Some, None, List, sym, ap, arith}
use Rattle.cfs_file.specs.Span.{span}
use Rattle.cfs_pmem.specs.Images.{Seen, WordStep}
use Rattle.cfs_job.specs.Stands.{IsOpen, IsOpenFor}
use Rattle.cfs_device_tests.proofs.job.begun.Goals as goal

open_for : {A : Type 0} (block : Option A) (slots : List (Seen WordStep)) (place : ℕ) → IsOpen slots place → IsOpenFor block slots place
open_for None slots place h = tt
open_for (Some block) slots place h = h

pub new-requires : goal.new-requires
new-requires c =
    let spans = c.in_ok-span.ensures ∙ ap (λ r. span r 0) (sym c.in_ok-live.ensures.request) in
    let touched = sym c.fits.ensures ∙ c.if-fits.true in (
      omega arith,
      (
        omega arith,
        ((λ some. spans), (touched, open_for c.args.first _ _ c.in_ok-live.ensures.opened)),
      ),
    )
