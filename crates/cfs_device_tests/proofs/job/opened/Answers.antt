use Rattle.std.proofs.Common.{◌∙◌, Option, Some, None}
use Rattle.std.specs.Option.{IfSome}
use Rattle.cfs_device_tests.proofs.job.opened.Goals as goal

some_also : {A : Type 0} {P Q : A → Type 0} (o : Option A) → ((a : A) → P a → Q a) → IfSome o P → IfSome o Q
some_also None f h = tt
some_also (Some a) f h = f a h

pub returns-in-Ok-clause-request : goal.returns-in-Ok-clause-request
returns-in-Ok-clause-request c = some_also c.open_staged.result (λ live e. e ∙ c.in-Ok.ensures.whole) c.open_staged.ensures.request
