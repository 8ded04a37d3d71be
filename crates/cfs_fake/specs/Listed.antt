-- What a list of notes is as a value with a log.
use Rattle.std.specs.Prelude.{ℕ, zero, suc, [], ◌∷◌, map, slice_index}
use Rattle.cfs_fake.specs.declared.listed.Listed.{Listed}
use Rattle.cfs_fake.specs.declared.listed.Note.{Note}
use Rattle.cfs_lock.specs.Log.{Entry, Log, Part}

-- a note as an entry of one word
abbrev pub entry_of : Note → Entry
entry_of note = (note.by, note.word ∷ [])

abbrev pub log_of : Listed → Log
log_of list = map entry_of list.notes.items

-- no part for the mark 0
abbrev pub marked : ℕ → Part
marked zero = []
marked (suc n) = (suc n ∷ []) ∷ []

-- the part of a number is its mark
abbrev pub part_of : Listed → ℕ → Part
part_of list number = marked (slice_index list.marks number)
