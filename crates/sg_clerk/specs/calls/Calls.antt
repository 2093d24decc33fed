-- Connections that were taken one after another (this project's command line).
use Rattle.std.specs.Prelude.{◌≡◌, ℕ, ◌+◌, Bool, true, List, [], ◌∷◌, ◌++◌, length, drop, map, codes, decimal, Option, None, Some}
use Rattle.sg_links.specs.Board.{Board, Conn, first_bytes}
use Rattle.sg_keeper.specs.declared.setup.Setup.{Setup}
use Rattle.sg_talk.specs.declared.answered.Answered.{Answered}
use Rattle.sg_histories.specs.Histories.{Entry}
use Rattle.sg_http.specs.Leads.{TakesFew}
use Rattle.sg_http.specs.Visits.{Ends, stored}
use Rattle.sg_http.specs.declared.serving.Served.{Served}
use Rattle.sg_http.specs.declared.serving.Served.TheVariants as served
use Rattle.sg_clerk.specs.Asking.{Exchanging, TalkBy, stores_by}

-- a connection that was taken: how it was served, the bytes taken of it, whether its end was read, what it was sent, and
-- what the office said
pub record Call : Type 0 where
  pub how : Served
  pub taken : List ℕ
  pub is_ended : Bool
  pub sent : List ℕ
  pub said : Option Answered

-- the line of a connection
abbrev pub line_of : Served → List ℕ
line_of (served.Answered status) = decimal status ++ 10 ∷ []
line_of served.ReadFailed = codes "read failed\n"
line_of served.WriteFailed = codes "write failed\n"
line_of served.Gone = codes "gone\n"

-- what a connection asked for was answered by a turn of the office's talk, and its line is by how it was served
abbrev pub by_calls : Exchanging Call Served
by_calls = record {
  Turn = λ setup call before after. TakesFew call.taken × Ends call.how setup call.taken call.is_ended call.sent call.said before after;
  store = λ call. stored call.said;
  reply = λ call. call.how;
  IsWritable = λ version how. Unit {0};
  line = λ version how. line_of how;
}

-- a talk of the office over connections, one after another
abbrev pub AreServed : Setup → List Call → List Entry → List Entry → Type 0
AreServed = TalkBy by_calls

-- how many answers say that the keeper failed
abbrev pub stores_in : List Call → ℕ
stores_in = stores_by by_calls

-- how many connections failed
abbrev pub failed : Served → ℕ
failed (served.Answered status) = 0
failed served.ReadFailed = 1
failed served.WriteFailed = 1
failed served.Gone = 0

abbrev pub failures_in : List Call → ℕ
failures_in [] = 0
failures_in (call ∷ calls) = failed call.how + failures_in calls

-- the lines of connections
abbrev pub lines_in : List Call → List (List ℕ)
lines_in calls = map (λ (call : Call). line_of call.how) calls

-- the connection of these bytes as it was finished
abbrev pub conn_of : Option ℕ → List ℕ → Call → Conn
conn_of port bytes call = record { port = port; taken = call.taken; left = drop (length call.taken) bytes; is_ended = call.is_ended; sent = call.sent }

-- the finished connections of those to come
abbrev pub conns_of : Option ℕ → List (List ℕ) → List Call → List Conn
conns_of port coming [] = []
conns_of port coming (call ∷ calls) = conn_of port (first_bytes coming) call ∷ conns_of port (drop 1 coming) calls

-- the bytes taken of each come first in it, and are all where its end was read
abbrev pub AreTaken : List (List ℕ) → List Call → Type 0
AreTaken coming [] = Unit {0}
AreTaken coming (call ∷ calls) =
    (first_bytes coming ≡ call.taken ++ drop (length call.taken) (first_bytes coming))
    × (call.is_ended ≡ true → drop (length call.taken) (first_bytes coming) ≡ [])
    × AreTaken (drop 1 coming) calls

-- these are the first connections that were to come, and they are finished, each with the port that was listened on
pub record Takes (calls : List Call) (before now : Board) : Type 0 where
  pub port : now.port ≡ before.port
  pub coming : now.coming ≡ drop (length calls) before.coming
  pub finished : now.finished ≡ before.finished ++ conns_of before.port before.coming calls
  pub taken : AreTaken before.coming calls

-- the same, where connections are told
abbrev pub TakesKnown : List Call → Option Board → Option Board → Type 0
TakesKnown calls None now = now ≡ None
TakesKnown calls (Some before) now = (after : Board) × (now ≡ Some after) × Takes calls before after
