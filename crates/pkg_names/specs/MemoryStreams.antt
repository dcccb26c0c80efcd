-- What contracts see of the streams in memory.
use Rattle.std.specs.Prelude.{ℕ, ◌++◌, List, Contains, take, drop}
use Rattle.pkg_names.specs.Streams.{one_more}

-- the bytes that are left; the calls so far, of which the listed ones fail; how often it failed
pub record SourceInMemory : Type 0 where
  pub left : List ℕ
  pub calls : ℕ
  pub failing : List ℕ
  pub faults : ℕ

-- what was written, and how many bytes fit in all; calls, failing calls and faults as of a source
pub record SinkInMemory : Type 0 where
  pub written : List ℕ
  pub room : ℕ
  pub calls : ℕ
  pub failing : List ℕ
  pub faults : ℕ

-- the call after these is listed
abbrev pub IsListed : List ℕ → ℕ → Type 0
IsListed failing calls = Contains failing (one_more calls)

-- a source after a call that gave this many bytes, and after one that failed
abbrev pub source_given : SourceInMemory → ℕ → SourceInMemory
source_given source count = record source { left = drop count source.left; calls = one_more source.calls }

abbrev pub source_failed : SourceInMemory → SourceInMemory
source_failed source = record source { calls = one_more source.calls; faults = one_more source.faults }

-- a sink after a call that took this many of the bytes, and after one that failed
abbrev pub sink_given : SinkInMemory → List ℕ → ℕ → SinkInMemory
sink_given sink bytes count = record sink { written = sink.written ++ take count bytes; calls = one_more sink.calls }

abbrev pub sink_failed : SinkInMemory → SinkInMemory
sink_failed sink = record sink { calls = one_more sink.calls; faults = one_more sink.faults }
