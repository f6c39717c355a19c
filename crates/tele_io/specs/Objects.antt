-- What the sources and sinks in memory are: their bytes, and which of their calls fail.
use Rattle.std.specs.Prelude.{◌==◌, ℕ, Bool, List, if◌then◌else◌}
use Rattle.std.specs.List.{list_any}
use Rattle.tele_io.specs.Bytes.{raised}

-- which calls of an object fail: they are numbered from 0, and `call` is the next one's number
pub record Schedule : Type 0 where
  pub call : ℕ
  pub fails : List ℕ
  pub faults : ℕ

-- a schedule before the first call
abbrev pub schedule_of : List ℕ → Schedule
schedule_of fails = record { call = 0; fails = fails; faults = 0 }

-- whether the next call must fail
abbrev pub fails_next : Schedule → Bool
fails_next s = list_any (λ n. n == s.call) s.fails

-- a schedule after its next call; both counts stop at their end
abbrev pub after_call : Schedule → Schedule
after_call s = record {
  call = raised s.call;
  fails = s.fails;
  faults = (if fails_next s then raised s.faults else s.faults);
}

-- a source in memory: the bytes that are left, and how many a read gives at most
pub record Supply : Type 0 where
  pub left : List ℕ
  pub piece : ℕ
  pub schedule : Schedule

-- a sink in memory: the bytes that it took
pub record Store : Type 0 where
  pub taken : List ℕ
  pub schedule : Schedule
