-- The parts that are made of a stored store.
use Rattle.std.specs.Prelude.{Option, List, map}
use Rattle.std.specs.List.{filter_map}
use Rattle.std.specs.Option.{option_map}
use Rattle.cfs_pmem.specs.Images.{Seen, WordStep}
use Rattle.cfs_block.specs.declared.mem_block.MemBlock.{MemBlock}
use Rattle.cfs_active.specs.Memory.{words_seen}
use Rattle.cfs_active.specs.View.{ActiveView, active_view}
use Rattle.cfs_states.specs.declared.parts.FileParts.{FileParts}

-- by record: the state of its file, and its size region where it has no file

abbrev pub states_of : FileParts → List (Option ActiveView)
states_of parts = map (λ state. option_map active_view state) parts.states.items

abbrev pub regions_of : FileParts → List (Option (Seen WordStep))
regions_of parts = map (λ size. option_map words_seen size) parts.sizes.items

abbrev pub free_of : FileParts → List MemBlock
free_of parts = map (λ free. free.block) parts.pool.free

-- those that are there

abbrev pub present : {X : Type 0} → List (Option X) → List X
present options = filter_map (λ option. option) options
