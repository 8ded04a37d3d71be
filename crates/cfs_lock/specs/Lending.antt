-- What is written through a value that was lent.
use Rattle.cfs_lock.specs.declared.held.Held.{Held}

-- the held value after a write
abbrev pub with_value : {X : Type 0} → Held X → X → Held X
with_value held value = record held { value = value }
