-- The live entries of files, by inode number and gate.
use Rattle.std.specs.Prelude.{ℕ, ◌==◌, ◌&&◌, ◌||◌, nat_lt, Bool, List, [], ◌∷◌, get_or, length}
use Rattle.std.specs.Prelude.{Option, Some, None, if◌then◌else◌}
use Rattle.std.specs.List.{filter_map, range_with_len}
use Rattle.cfs_dir.specs.declared.node.Node.{Node}
use Rattle.cfs_slot.specs.Words.{gate_of, ino_of}
use Rattle.cfs_survey.specs.declared.live_entry.LiveEntry.{LiveEntry}
use Rattle.cfs_survey.specs.Slots.{is_live_entry}

-- the live entry in a slot
abbrev pub entry_in : List Node → List (List ℕ) → ℕ → Option LiveEntry
entry_in nodes slots slot =
    if is_live_entry nodes (get_or slots slot [])
    then Some record {
      ino = ino_of (get_or slots slot []);
      gate = gate_of (get_or slots slot []);
      slot = slot;
    }
    else None

-- those of all slots, in device order
abbrev pub live_entries : List Node → List (List ℕ) → List LiveEntry
live_entries nodes slots = filter_map (entry_in nodes slots) (range_with_len 0 (length slots))

-- the lower inode number comes first, and of one file the lower gate
abbrev pub is_before : LiveEntry → LiveEntry → Bool
is_before entry other =
    nat_lt entry.ino other.ino || ((entry.ino == other.ino) && nat_lt entry.gate other.gate)

-- with one more entry, before the first one that does not come before it
abbrev pub put_live : LiveEntry → List LiveEntry → List LiveEntry
put_live entry [] = entry ∷ []
put_live entry (first ∷ rest) =
    if is_before first entry then first ∷ put_live entry rest else entry ∷ first ∷ rest

-- the same entries in that order
abbrev pub in_order : List LiveEntry → List LiveEntry
in_order [] = []
in_order (entry ∷ entries) = put_live entry (in_order entries)
