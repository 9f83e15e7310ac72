-- What the adapters over std's readers and writers keep.
use Rattle.std.specs.Prelude.{ℕ, Bool}
use Rattle.hv_base.specs.declared.in_source.InSource.{InSource}
use Rattle.hv_base.specs.declared.out_sink.OutSink.{OutSink}

-- the reader of a source
abbrev pub reader_of : {R : Type 0} → InSource R → R
reader_of s = s.inner

-- how often the reader has failed
abbrev pub read_faults : {R : Type 0} → InSource R → ℕ
read_faults s = s.faults

-- whether the last read answered the end
abbrev pub has_ended : {R : Type 0} → InSource R → Bool
has_ended s = s.ended

-- the writer of a sink
abbrev pub writer_of : {W : Type 0} → OutSink W → W
writer_of s = s.inner

-- how often the writer has failed
abbrev pub write_faults : {W : Type 0} → OutSink W → ℕ
write_faults s = s.faults
