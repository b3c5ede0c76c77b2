-- What files in memory that may fail show: docs/DEFINITIONS.md, "Files in memory".
use Rattle.ra_io.specs.Held.{FilesSeen}
use Rattle.ra_io.specs.SureFiles.{names_of}
use Rattle.ra_io.specs.declared.mem_files.MemFiles.{MemFiles}

-- the bytes of each name that was added, and the reads and the puts so far
abbrev pub seen : MemFiles → FilesSeen
seen s = record { names = names_of s.files; reads = s.reads; puts = s.puts }
