-- What the sources and sinks in memory have, took and are told.
use Rattle.std.specs.Prelude.{ℕ, List, drop}
use Rattle.xp_io.specs.declared.memory.MemorySource.{MemorySource}
use Rattle.xp_io.specs.declared.memory.HonestSource.{HonestSource}
use Rattle.xp_io.specs.declared.memory.MemorySink.{MemorySink}

-- the bytes that a source in memory has left
abbrev pub source_left : MemorySource → List ℕ
source_left s = drop s.at s.bytes.items

-- the bytes that a sink in memory took
abbrev pub sink_taken : MemorySink → List ℕ
sink_taken s = s.taken.items

-- the reads that fail, counted from 1
abbrev pub source_fails : MemorySource → List ℕ
source_fails s = s.fails.items

-- how many reads there were
abbrev pub source_calls : MemorySource → ℕ
source_calls s = s.calls

-- the bytes that an honest source has left
abbrev pub honest_left : HonestSource → List ℕ
honest_left s = drop s.at s.bytes.items
