-- A sink in memory: its room, its bytes, and which of its puts fail.
use Rattle.std.specs.Prelude.{◌≡◌, ℕ, ◌+◌, Bool, List, ◌++◌, length, take, Result, not, nat_le, ◌&&◌, ◌==◌, if◌then◌else◌, is_ok}
use Rattle.std.specs.List.{list_any}
use Rattle.ix_edge.specs.Causes.{one_more}
use Rattle.ix_edge.specs.declared.mem_sink.MemSink.{MemSink}

-- the bytes that were put
abbrev pub bytes_of : MemSink → List ℕ
bytes_of s = s.bytes.items

-- how many bytes the sink may hold
abbrev pub room_of : MemSink → ℕ
room_of s = s.room

-- the numbers of the puts that are to fail
abbrev pub fails_of : MemSink → List ℕ
fails_of s = s.fails.items

-- how many bytes a put appends that is to fail
abbrev pub part_of : MemSink → ℕ
part_of s = s.part

-- the number of the next put
abbrev pub puts_of : MemSink → ℕ
puts_of s = s.puts

-- how many puts have failed
abbrev pub faults_of : MemSink → ℕ
faults_of s = s.faults

-- whether the next put is one that is to fail
abbrev pub is_to_fail : MemSink → Bool
is_to_fail s = list_any (λ n. n == puts_of s) (fails_of s)

-- the bytes that the next put would append: all, or the part of one that is to fail
abbrev pub taken_of : MemSink → List ℕ → List ℕ
taken_of s bytes = if is_to_fail s then take (part_of s) bytes else bytes

-- whether these have room
abbrev pub fits : MemSink → List ℕ → Bool
fits s bytes = nat_le (length (bytes_of s) + length (taken_of s bytes)) (room_of s)

-- A put appends what it takes where that has room, and nothing where it has not. It is Ok exactly where it was not to
-- fail and there was room, and the count rises exactly where it is not Ok.
pub record PutsInRoom {T E : Type 0} (old new : MemSink) (bytes : List ℕ) (result : Result T E) : Type 0 where
  pub appended : bytes_of new ≡ (if fits old bytes then bytes_of old ++ taken_of old bytes else bytes_of old)
  pub succeeds : is_ok result ≡ (not (is_to_fail old) && fits old bytes)
  pub faults : faults_of new ≡ (if is_ok result then faults_of old else one_more (faults_of old))
  pub puts : puts_of new ≡ one_more (puts_of old)
  pub room : room_of new ≡ room_of old
  pub fails : fails_of new ≡ fails_of old
  pub part : part_of new ≡ part_of old
