-- What the objects in memory hold, and which of their calls are to fail.
use Rattle.std.specs.Prelude.{ℕ, List, drop}
use Rattle.cfs_io.specs.declared.mem_source.MemSource.{MemSource}
use Rattle.cfs_io.specs.declared.mem_sink.MemSink.{MemSink}
use Rattle.cfs_io.specs.declared.mem_shelf.MemShelf.{MemShelf}
use Rattle.cfs_io.specs.Files.{Files, files_of}

-- the bytes that a source has left
abbrev pub source_left : MemSource → List ℕ
source_left source = drop source.at source.bytes.items

-- the numbers of the reads that are to fail
abbrev pub failing_reads : MemSource → List ℕ
failing_reads source = source.calls.failing.items

-- how many reads were made
abbrev pub source_reads : MemSource → ℕ
source_reads source = source.calls.made

-- how many bytes a read gives at most
abbrev pub source_chunk : MemSource → ℕ
source_chunk source = source.chunk

-- the bytes that were written
abbrev pub sink_written : MemSink → List ℕ
sink_written sink = sink.bytes.items

-- the numbers of the writes that are to fail
abbrev pub failing_writes : MemSink → List ℕ
failing_writes sink = sink.calls.failing.items

-- how many writes were made
abbrev pub sink_writes : MemSink → ℕ
sink_writes sink = sink.calls.made

-- how many bytes a write takes at most
abbrev pub sink_chunk : MemSink → ℕ
sink_chunk sink = sink.chunk

-- the files of a shelf
abbrev pub shelf_files : MemShelf → Files
shelf_files shelf = files_of shelf.files.items

-- the numbers of the calls that are to fail
abbrev pub failing_calls : MemShelf → List ℕ
failing_calls shelf = shelf.calls.failing.items

-- how many calls were made
abbrev pub shelf_calls : MemShelf → ℕ
shelf_calls shelf = shelf.calls.made
