-- What a source over a reader and a sink over a writer use, and how often it failed.
use Rattle.std.specs.Prelude.{ℕ}
use Rattle.tele_io.specs.declared.streams.ReadSource.{ReadSource}
use Rattle.tele_io.specs.declared.streams.WriteSink.{WriteSink}

-- the reader of a source
abbrev pub reader_of : {R : Type 0} → ReadSource R → R
reader_of s = s.reader

-- how often the reader failed
abbrev pub read_faults : {R : Type 0} → ReadSource R → ℕ
read_faults s = s.faults

-- the writer of a sink
abbrev pub writer_of : {W : Type 0} → WriteSink W → W
writer_of s = s.writer

-- how often the writer failed, or took nothing
abbrev pub write_faults : {W : Type 0} → WriteSink W → ℕ
write_faults s = s.faults
