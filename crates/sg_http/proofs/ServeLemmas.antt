-- A connection's bytes were taken, an answer was sent, and it was finished.
use Rattle.std.proofs.Common.{◌≡◌, ℕ, Bool, true, false, List, [], None, Some, refl, sym, ap, ◌∙◌, append-nil, arith}
use Rattle.std.specs.Prelude.{Option, option_map}
use Rattle.sg_links.specs.Board.{Board, Conn, Taken, finishes, gets, on_current, takes}
use Rattle.sg_keeper.specs.declared.rows.Rows.{Rows}
use Rattle.sg_keeper.specs.declared.setup.Setup.{Setup}
use Rattle.sg_talk.specs.declared.answered.Answered.{Answered}
use Rattle.sg_histories.specs.Histories.{Entry}
use Rattle.sg_histories.specs.Standing.{StandsFor}
use Rattle.sg_histories.specs.declared.kept.Kept.{Kept}
use Rattle.sg_http.specs.declared.serving.Served.{Served}
use Rattle.sg_http.specs.declared.serving.Served.TheVariants as served
use Rattle.sg_http.specs.Leads.{IsUnheard, Lead, LeadTo, TakesFew}
use Rattle.sg_http.specs.Visits.{Serves, due_of, text_of}
use Rattle.sg_http.specs.inside.Responses.{HasSaid, Responds, Sends}

-- three changes of known connections, one after another, are one
three : {A : Type 0} → (f g h : A → A) (k : Option A) → option_map h (option_map g (option_map f k)) ≡ option_map (λ a. h (g (f a))) k
three f g h None = refl
three f g h (Some a) = refl

-- where nothing is sent, nothing changes
gets_nothing : (current : Option Conn) → option_map (gets []) current ≡ current
gets_nothing None = refl
gets_nothing (Some conn) = λ i. Some (record conn { sent = append-nil conn.sent i })

on_nothing : (board : Board) → on_current (gets []) board ≡ board
on_nothing board = λ i. record board { current = gets_nothing board.current i }

-- the connections at the end
sent_end : (k1 k2 k3 k4 : Option Board) (taken : List ℕ) (is_ended : Bool) (sent : List ℕ) → Taken k1 k2 taken is_ended
    → k3 ≡ option_map (on_current (gets sent)) k2 → k4 ≡ option_map finishes k3
    → k4 ≡ option_map (λ b. finishes (on_current (gets sent) (on_current (takes taken is_ended) b))) k1
sent_end k1 k2 k3 k4 taken is_ended sent p q r =
    r ∙ (ap (option_map finishes) (q ∙ ap (option_map (on_current (gets sent))) p.board)
    ∙ three (on_current (takes taken is_ended)) (on_current (gets sent)) finishes k1)

-- an answer was sent, or a front of one
pub answered : (how : Served) (setup : Setup) (office : Kept) (history : List Entry) (tells : Type 0) (rows after : Rows) (taken : List ℕ) (is_ended : Bool)
    (old new : Option Board) (faults later : ℕ) (lead : Lead) (said : Option Answered)
    → LeadTo taken is_ended lead → HasSaid setup office tells rows after lead said history faults later → Sends how old new (due_of setup.plan.version lead said)
    → Responds how setup office history tells rows after taken is_ended old new faults later
answered (served.Answered status) setup office history tells rows after taken is_ended old new faults later lead said leads h s = record {
  sent = text_of s.0;
  said = said;
  next = h.next;
  board = s.3;
  ends = record { lead = lead; leads = leads; says = h.says; sends = (s.0, s.1, s.2, refl) };
  stands = h.stands;
  kept = h.kept;
  stores = h.stores;
}
answered served.WriteFailed setup office history tells rows after taken is_ended old new faults later lead said leads h s = record {
  sent = s.2.0;
  said = said;
  next = h.next;
  board = s.2.3;
  ends = record { lead = lead; leads = leads; says = h.says; sends = (s.0, s.2.1, s.1, s.2.2) };
  stands = h.stands;
  kept = h.kept;
  stores = h.stores;
}
answered served.ReadFailed setup office history tells rows after taken is_ended old new faults later lead said leads h s = absurd s
answered served.Gone setup office history tells rows after taken is_ended old new faults later lead said leads h s = absurd s

-- where nothing is sent, nothing changes
silent : (known : Option Board) → known ≡ option_map (on_current (gets [])) known
silent None = refl
silent (Some board) = ap Some (sym (on_nothing board))

pub failed : (setup : Setup) (office : Kept) (history : List Entry) (tells : Type 0) (rows : Rows) (taken : List ℕ) (is_ended : Bool) (known : Option Board) (faults : ℕ)
    → StandsFor office history → IsUnheard taken → is_ended ≡ false
    → Responds served.ReadFailed setup office history tells rows rows taken is_ended known known faults faults
failed setup office history tells rows taken is_ended known faults stands unheard unended = record {
  sent = [];
  said = None;
  next = history;
  board = silent known;
  ends = (unheard, unended, record { unsent = refl; unsaid = refl; same = refl });
  stands = stands;
  kept = λ _ text is. is;
  stores = λ _. omega arith;
}

pub gone : (setup : Setup) (office : Kept) (history : List Entry) (tells : Type 0) (rows : Rows) (taken : List ℕ) (is_ended : Bool) (known : Option Board) (faults : ℕ)
    → StandsFor office history → taken ≡ [] → is_ended ≡ true
    → Responds served.Gone setup office history tells rows rows taken is_ended known known faults faults
gone setup office history tells rows taken is_ended known faults stands none ended = record {
  sent = [];
  said = None;
  next = history;
  board = silent known;
  ends = (none, ended, record { unsent = refl; unsaid = refl; same = refl });
  stands = stands;
  kept = λ _ text is. is;
  stores = λ _. omega arith;
}

-- bytes were taken, answered, and the connection was finished
pub serves : (how : Served) (setup : Setup) (office : Kept) (history : List Entry) (tells : Type 0) (rows after : Rows) (taken : List ℕ) (is_ended : Bool)
    (k1 k2 k3 k4 : Option Board) (faults later : ℕ) → Taken k1 k2 taken is_ended → TakesFew taken
    → Responds how setup office history tells rows after taken is_ended k2 k3 faults later → k4 ≡ option_map finishes k3
    → Serves how setup office history tells rows after k1 k4 faults later
serves how setup office history tells rows after taken is_ended k1 k2 k3 k4 faults later p few r q = record {
  taken = taken;
  is_ended = is_ended;
  sent = r.sent;
  said = r.said;
  next = r.next;
  came = p.came;
  few = few;
  board = sent_end k1 k2 k3 k4 taken is_ended r.sent p r.board q;
  ends = r.ends;
  stands = r.stands;
  kept = r.kept;
  stores = r.stores;
}
