-- What the logs that take no room at run time stand for.
use Rattle.std.specs.Prelude.{List, [], ◌∷◌}
use Rattle.cfs_pmem.specs.Images.{WordStep, changed, persisted}
use Rattle.cfs_pmem.specs.declared.trace.Asked.{Asked}
use Rattle.cfs_pmem.specs.declared.history.Past.{Past, Start, Changed', Persisted'}
use Rattle.cfs_pmem.specs.declared.trace.Past as log

abbrev pub word_steps : Past → List WordStep
word_steps Start = []
word_steps (Changed' words shape before) = changed words.value.items ∷ word_steps before
word_steps (Persisted' words shape before) = persisted words.value.items ∷ word_steps before

abbrev pub entries : log.Past → List Asked
entries log.Start = []
entries (log.Then' asked shape before) = asked ∷ entries before
