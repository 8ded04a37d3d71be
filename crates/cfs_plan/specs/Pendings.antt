-- The live entries that a mount brings home.
use Rattle.std.specs.Prelude.{List, map}
use Rattle.cfs_home.specs.Disks.{File}
use Rattle.cfs_replay.specs.declared.pending.Pending.{Pending}
use Rattle.cfs_survey.specs.declared.live_entry.LiveEntry.{LiveEntry}
use Rattle.cfs_plan.specs.Files.{file_with, node_of}

-- a live entry with the record of its file
abbrev pub pending_of : List File → LiveEntry → Pending
pending_of files entry =
    record { node = node_of (file_with entry.ino files); ino = entry.ino; slot = entry.slot }

abbrev pub pendings : List File → List LiveEntry → List Pending
pendings files entries = map (pending_of files) entries
