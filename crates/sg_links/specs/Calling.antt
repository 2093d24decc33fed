-- Connections in memory, as contracts see them, and what one call does to them.
use Rattle.std.specs.Prelude.{ℕ, ◌+◌, ◌-◌, ◌||◌, not, nat_lt, nat_le, min, Bool, true, false, List, [], ◌∷◌, length, take, drop, map, slice_get, Option, None, Some, if◌then◌else◌}
use Rattle.std.specs.Option.{option_map_or}
use Rattle.sg_outside.specs.Faults.{counted_up}
use Rattle.sg_outside.specs.Memory.{is_listed}
use Rattle.sg_links.specs.Board.{Board, Conn, accepts, finishes, gets, listens, on_current, takes, with_last}
use Rattle.sg_links.specs.declared.calls.Incoming.{Incoming}

-- the connections; of the current one and those still to come, how many bytes a read gives at most; how many may be
-- accepted; how many bytes all were sent together, and how many there is room for; the numbers of the calls that fail;
-- and how many calls and faults there were
pub record Calling : Type 0 where
  pub board : Board
  pub pieces : List ℕ
  pub most : ℕ
  pub used : ℕ
  pub room : ℕ
  pub fails : List ℕ
  pub calls : ℕ
  pub faults : ℕ

-- connections to come, and none accepted
abbrev pub new_calling : List Incoming → ℕ → ℕ → List ℕ → Calling
new_calling incoming most room fails = record {
  board = record { port = None; coming = map (λ i. i.bytes.items) incoming; finished = []; current = None };
  pieces = map (λ i. i.piece) incoming;
  most = most;
  used = 0;
  room = room;
  fails = fails;
  calls = 0;
  faults = 0;
}

-- whether the next call is listed
abbrev pub call_fails : Calling → Bool
call_fails calls = is_listed calls.fails calls.calls

-- a call is counted, and where it fails a fault
abbrev pub counted : Bool → Calling → Calling
counted fails calls = record calls {
  calls = counted_up calls.calls;
  faults = (if fails then counted_up calls.faults else calls.faults);
}

-- a port is listened on
abbrev pub after_listen : ℕ → Calling → Calling
after_listen port calls = record (counted false calls) { board = listens port calls.board }

-- whether the next accept fails: it is listed, or as many were accepted as there is room for
abbrev pub accept_fails : Calling → Bool
accept_fails calls = call_fails calls || nat_le calls.most (length calls.board.finished)

-- a connection is accepted
abbrev pub after_accept : Calling → Calling
after_accept calls = record (counted false calls) { board = accepts calls.board }

-- the first of these numbers
abbrev pub first_piece : List ℕ → ℕ
first_piece [] = 0
first_piece (piece ∷ pieces) = piece

-- the bytes left of the current connection
abbrev pub left_of : Option Conn → List ℕ
left_of current = option_map_or (λ conn. conn.left) current []

-- how many bytes the next read gives that does not fail, for room of this many bytes
abbrev pub given_count : Calling → ℕ → ℕ
given_count calls room = min (min (first_piece calls.pieces) room) (length (left_of calls.board.current))

-- a read gave these bytes, and the end where this says so
abbrev pub after_read : List ℕ → Bool → Calling → Calling
after_read bytes is_end calls = record (counted false calls) { board = on_current (takes bytes is_end) calls.board }

-- whether the next put fails: it is listed, or its piece is longer than the room left
abbrev pub put_fails : Calling → List ℕ → Bool
put_fails calls piece = call_fails calls || nat_lt (calls.room - calls.used) (length piece)

-- how many bytes of its piece the next put sends: none where it is listed, and else as many as there is room for
abbrev pub put_count : Calling → List ℕ → ℕ
put_count calls piece = if call_fails calls then 0 else min (length piece) (calls.room - calls.used)

-- a put, whether it fails or not
abbrev pub after_put : List ℕ → Calling → Calling
after_put piece calls = record (counted (put_fails calls piece) calls) {
  board = on_current (gets (take (put_count calls piece) piece)) calls.board;
  used = calls.used + put_count calls piece;
}

-- the current connection is finished
abbrev pub after_finish : Calling → Calling
after_finish calls = record calls { board = finishes calls.board; pieces = drop 1 calls.pieces }

-- the connections that were accepted, in their order
abbrev pub accepted : Board → List Conn
accepted board = with_last board.finished board.current

-- what the connection of this number was sent
abbrev pub sent_in : List Conn → ℕ → List ℕ
sent_in conns at = option_map_or (λ conn. conn.sent) (slice_get conns at) []

-- what the accepted connection of this number was sent
abbrev pub sent_to : Board → ℕ → List ℕ
sent_to board at = sent_in (accepted board) at
