-- A sink that holds bytes back: its inner sink, and the bytes that are not passed on yet.
use Rattle.std.specs.Prelude.{ℕ, List, ◌++◌, drop, Option, Some, None}
use Rattle.tele_io.specs.declared.buffered.BufferedSink.{BufferedSink}

-- the sink to which the bytes are passed on
abbrev pub sink_of : {O : Type 0} → BufferedSink O → O
sink_of s = s.inner

-- the bytes that are held back, in their order
abbrev pub bytes_in : {O : Type 0} → BufferedSink O → List ℕ
bytes_in s = drop s.from s.bytes.items

-- the known bytes of a sink, followed by bytes that are still held back from it
abbrev pub with_held : Option (List ℕ) → List ℕ → Option (List ℕ)
with_held (Some passed) held = Some (passed ++ held)
with_held None held = None
