-- What was made of the records so far.
use Rattle.std.specs.Prelude.{ℕ, ◌+◌, Option, List, [], ◌∷◌, map}
use Rattle.std.specs.Option.{option_map}
use Rattle.cfs_pmem.specs.Images.{Seen, WordStep}
use Rattle.cfs_inode.specs.New.{MappedSeen}
use Rattle.cfs_active.specs.Memory.{words_seen}
use Rattle.cfs_active.specs.View.{ActiveView, active_view}
use Rattle.cfs_states.specs.declared.load.Loaded.{Loaded}
use Rattle.cfs_states.specs.Shares.{IsOrderOfShare, ShareView, state_of}

abbrev pub states_in : Loaded → List (Option ActiveView)
states_in loaded = map (λ state. option_map active_view state) loaded.states.items

abbrev pub sizes_in : Loaded → List (Option (Seen WordStep))
sizes_in loaded = map (λ size. option_map words_seen size) loaded.sizes.items

-- the blocks of each record from a number on, ascending by their numbers in the file
abbrev pub AreOrders : ℕ → List ShareView → (ℕ → List MappedSeen) → Type 0
AreOrders node [] ordered = Unit {0}
AreOrders node (share ∷ shares) ordered =
    IsOrderOfShare share (ordered node) × AreOrders (node + 1) shares ordered

abbrev pub states_by : ℕ → List ShareView → (ℕ → List MappedSeen) → List (Option ActiveView)
states_by node [] ordered = []
states_by node (share ∷ shares) ordered =
    state_of share (ordered node) ∷ states_by (node + 1) shares ordered
