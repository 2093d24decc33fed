-- A source and a sink in memory, as contracts see them, and what one call of each does.
use Rattle.std.specs.Prelude.{ℕ, ◌-◌, ◌==◌, ◌||◌, nat_lt, min, Bool, List, ◌++◌, length, take, drop, if◌then◌else◌}
use Rattle.std.specs.List.{list_any}
use Rattle.sg_outside.specs.Faults.{counted_up}

-- a source: the bytes still to come, how many a call gives at most, the numbers of the calls that fail, and how many
-- calls and faults there were
pub record Reading : Type 0 where
  pub left : List ℕ
  pub piece : ℕ
  pub fails : List ℕ
  pub calls : ℕ
  pub faults : ℕ

-- a sink: the bytes appended, how many there is room for in all, the numbers of the calls that fail, how many bytes of
-- its piece such a call appends at most, and how many calls and faults there were
pub record Writing : Type 0 where
  pub written : List ℕ
  pub room : ℕ
  pub fails : List ℕ
  pub keeps : ℕ
  pub calls : ℕ
  pub faults : ℕ

-- whether the call of this number is among those that fail
abbrev pub is_listed : List ℕ → ℕ → Bool
is_listed fails call = list_any (λ listed. listed == call) fails

-- whether the next read fails
abbrev pub read_fails : Reading → Bool
read_fails source = is_listed source.fails source.calls

-- how many bytes the next read gives that does not fail, for room of this many bytes
abbrev pub given_count : Reading → ℕ → ℕ
given_count source room = min (min source.piece room) (length source.left)

-- the source after a read that failed: no byte is taken
abbrev pub after_failed_read : Reading → Reading
after_failed_read source =
    record source { calls = counted_up source.calls; faults = counted_up source.faults }

-- the source after a read that gave this many bytes
abbrev pub after_read : Reading → ℕ → Reading
after_read source count = record source { left = drop count source.left; calls = counted_up source.calls }

-- how many bytes there still is room for
abbrev pub room_left : Writing → ℕ
room_left sink = sink.room - length sink.written

-- whether the next put fails: it is listed, or its piece is longer than the room left
abbrev pub put_fails : Writing → List ℕ → Bool
put_fails sink piece = is_listed sink.fails sink.calls || nat_lt (room_left sink) (length piece)

-- how many bytes of its piece the next put appends: as many as there is room for, and where it is listed at most `keeps`
abbrev pub put_count : Writing → List ℕ → ℕ
put_count sink piece =
    let fitting = min (length piece) (room_left sink) in
    if is_listed sink.fails sink.calls then min sink.keeps fitting else fitting

-- the sink after a put
abbrev pub after_put : Writing → List ℕ → Writing
after_put sink piece = record sink {
  written = sink.written ++ take (put_count sink piece) piece;
  calls = counted_up sink.calls;
  faults = (if put_fails sink piece then counted_up sink.faults else sink.faults);
}
