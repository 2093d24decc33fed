-- How connections in memory are kept: what all were sent stands on one page, one connection's part behind the other's.
use Rattle.std.specs.Prelude.{◌≡◌, ℕ, ◌+◌, ◌<◌, ◌≤◌, Bool, true, false, List, [], ◌∷◌, length, take, drop, map, slice_get, Option, None, Some, All}
use Rattle.std.specs.Option.{option_map_or}
use Rattle.sg_links.specs.Board.{Board, Conn}
use Rattle.sg_links.specs.Calling.{Calling}
use Rattle.sg_links.specs.declared.calls.Incoming.{Incoming}
use Rattle.sg_links.specs.declared.calls.Talk.{Talk}

-- the bytes of the connection of this number; past the last, none
abbrev pub bytes_at : List Incoming → ℕ → List ℕ
bytes_at incoming number = option_map_or (λ i. i.bytes.items) (slice_get incoming number) []

-- how many bytes of it a read gives at most
abbrev pub piece_at : List Incoming → ℕ → ℕ
piece_at incoming number = option_map_or (λ i. i.piece) (slice_get incoming number) 0

-- the bytes of the page from the first place up to the second
abbrev pub part_of : List ℕ → ℕ → ℕ → List ℕ
part_of page start end = drop start (take end page)

-- a connection of these bytes
abbrev pub conn_of : List ℕ → List ℕ → Talk → ℕ → Conn
conn_of page bytes talk end = record {
  port = talk.port;
  taken = take talk.taken bytes;
  left = drop talk.taken bytes;
  is_ended = talk.is_ended;
  sent = part_of page talk.start end;
}

-- the connections from this number on
abbrev pub conns : List ℕ → List Incoming → ℕ → List Talk → List Conn
conns page incoming number [] = []
conns page incoming number (talk ∷ talks) =
    conn_of page (bytes_at incoming number) talk talk.end ∷ conns page incoming (number + 1) talks

-- how many connections are no longer to come
abbrev pub begun_count : List Talk → Bool → ℕ
begun_count finished false = length finished
begun_count finished true = length finished + 1

-- the current connection
abbrev pub current_of : List Incoming → List Talk → Talk → Bool → List ℕ → ℕ → Option Conn
current_of incoming finished current false page used = None
current_of incoming finished current true page used = Some (conn_of page (bytes_at incoming (length finished)) current used)

-- the connections that are kept so
abbrev pub board_of : List Incoming → List Talk → Talk → Bool → List ℕ → ℕ → Option ℕ → Board
board_of incoming finished current is_open page used port = record {
  port = port;
  coming = map (λ i. i.bytes.items) (drop (begun_count finished is_open) incoming);
  finished = conns page incoming 0 finished;
  current = current_of incoming finished current is_open page used;
}

-- each of these connections was sent a part of the page, and that ends by this place
abbrev pub EndBy : ℕ → List Talk → Type 0
EndBy used [] = Unit {0}
EndBy used (talk ∷ talks) = (talk.start ≤ talk.end) × (talk.end ≤ used) × EndBy used talks

-- what is kept
pub record IsKept (incoming : List Incoming) (finished : List Talk) (capacity most : ℕ) (current : Talk) (is_open : Bool) (page : List ℕ) (used : ℕ) : Type 0 where
  pub fits : used ≤ length page
  pub parts : EndBy used finished
  pub start : current.start ≤ used
  pub room : most ≤ capacity
  pub pieces : All (λ i. 0 < i.piece) incoming
  pub few : is_open ≡ true → length finished < most
  pub taken : is_open ≡ true → current.taken ≤ length (bytes_at incoming (length finished))
