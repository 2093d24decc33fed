-- Connections, as contracts see them, and what one call does to them.
use Rattle.std.specs.Prelude.{◌≡◌, ℕ, Bool, true, false, ◌||◌, ◌==◌, ◌&&◌, not, List, [], ◌∷◌, ◌++◌, drop, length, Option, None, Some, IfSome, option_map, Result, MatchResult}

-- a connection that was accepted: the port that was listened on then, the bytes taken of it and those left, whether its
-- end was read, and what it was sent
pub record Conn : Type 0 where
  pub port : Option ℕ
  pub taken : List ℕ
  pub left : List ℕ
  pub is_ended : Bool
  pub sent : List ℕ

-- all connections: the port listened on last, the bytes of those still to come, those that are finished, and the one
-- that is current
pub record Board : Type 0 where
  pub port : Option ℕ
  pub coming : List (List ℕ)
  pub finished : List Conn
  pub current : Option Conn

-- this port is listened on
abbrev pub listens : ℕ → Board → Board
listens port board = record board { port = Some port }

-- the bytes of the first connection still to come; where none is, it has no byte
abbrev pub first_bytes : List (List ℕ) → List ℕ
first_bytes [] = []
first_bytes (bytes ∷ others) = bytes

-- a connection that was just accepted
abbrev pub fresh : Option ℕ → List ℕ → Conn
fresh port bytes = record { port = port; taken = []; left = bytes; is_ended = false; sent = [] }

-- the first connection still to come is current
abbrev pub accepts : Board → Board
accepts board = record board {
  coming = drop 1 board.coming;
  current = Some (fresh board.port (first_bytes board.coming));
}

-- a change of the current connection, and of nothing else
abbrev pub on_current : (Conn → Conn) → Board → Board
on_current f board = record board { current = option_map f board.current }

-- these bytes are taken, and its end where this says so
abbrev pub takes : List ℕ → Bool → Conn → Conn
takes bytes is_end conn = record conn {
  taken = conn.taken ++ bytes;
  left = drop (length bytes) conn.left;
  is_ended = conn.is_ended || is_end;
}

-- these bytes are sent
abbrev pub gets : List ℕ → Conn → Conn
gets bytes conn = record conn { sent = conn.sent ++ bytes }

-- the connections, and the current one where there is one
abbrev pub with_last : List Conn → Option Conn → List Conn
with_last conns None = conns
with_last conns (Some conn) = conns ++ conn ∷ []

-- no connection is current, and the one that was is finished
abbrev pub finishes : Board → Board
finishes board = record board { finished = with_last board.finished board.current; current = None }

-- these bytes come next on the connection, and then its end where this says so
pub record ComeNext (bytes : List ℕ) (is_end : Bool) (conn : Conn) : Type 0 where
  pub front : conn.left ≡ bytes ++ drop (length bytes) conn.left
  pub end : is_end ≡ true → drop (length bytes) conn.left ≡ []

-- the same of the current connection, where connections are told
abbrev pub Come : Option Board → List ℕ → Bool → Type 0
Come known bytes is_end = IfSome known (λ board. IfSome board.current (ComeNext bytes is_end))

-- a read that gives no byte for room that is not empty has read the end
abbrev pub reads_end : ℕ → ℕ → Bool
reads_end room count = not (room == 0) && count == 0

-- the current connection was sent a front of these bytes
abbrev pub SendsFront : Option Board → Option Board → List ℕ → Type 0
SendsFront old new bytes =
    (front rest : List ℕ) × (bytes ≡ front ++ rest) × (new ≡ option_map (on_current (gets front)) old)

-- these bytes were taken of the current connection, and its end where this says so, and nothing else changed
pub record Taken (old new : Option Board) (bytes : List ℕ) (is_end : Bool) : Type 0 where
  pub came : Come old bytes is_end
  pub board : new ≡ option_map (on_current (takes bytes is_end)) old
