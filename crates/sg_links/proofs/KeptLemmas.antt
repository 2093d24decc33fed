-- How the kept connections are changed.
use Rattle.std.proofs.Common.{◌≡◌, append-nil, ℕ, zero, suc, ◌+◌, ◌-◌, ◌<◌, ◌≤◌, List, [], ◌∷◌, ◌++◌, length, map, take, drop, refl, sym, ap, ◌∙◌, arith, length-append, length-drop, length-take, subst, take-add, take-append-drop, take-take, None, Some}
use Rattle.std.specs.Prelude.{slice_get, min, option_map, Option, is_some, Bool, true, false, ◌||◌}
use Rattle.std.proofs.lemmas.List.{drop-append-le, drop-drop, drop_all, take-append-le}
use Rattle.std.proofs.lemmas.Bool.{false≢true, true≢false}
use Rattle.std.proofs.lemmas.Option.{none-some}
use Rattle.sg_links.specs.Board.{Board, ComeNext, Conn, accepts, finishes, first_bytes, gets, on_current, takes}
use Rattle.sg_links.specs.Calling.{accepted, first_piece, left_of, sent_in, sent_to}
use Rattle.sg_links.specs.inside.Kept.{EndBy, board_of, bytes_at, conn_of, conns, current_of, part_of, piece_at}
use Rattle.sg_links.specs.declared.calls.Incoming.{Incoming}
use Rattle.sg_links.specs.declared.calls.Talk.{Talk}

abbrev talk_or : Talk → Option Talk → Talk
talk_or other None = other
talk_or other (Some talk) = talk

same_talk : (a b : Talk) → Some a ≡ Some b → a ≡ b
same_talk a b same = ap (talk_or a) same

-- one more connection is no longer to come
pub coming_next : {X Y : Type 0} (f : X → Y) (n : ℕ) (list : List X) → map f (drop (n + 1) list) ≡ drop 1 (map f (drop n list))
coming_next f zero [] = refl
coming_next f zero (x ∷ xs) = refl
coming_next f (suc n) [] = ap (λ l. map f l) (drop_all (suc n + 1) [] (omega arith))
coming_next f (suc n) (x ∷ xs) = ap (λ m. map f (drop m (x ∷ xs))) more ∙ coming_next f n xs
  where
    more : suc n + 1 ≡ suc (n + 1)
    more = omega arith

-- the first one still to come has this number
pub coming_first : (n : ℕ) (incoming : List Incoming) → first_bytes (map (λ i. i.bytes.items) (drop n incoming)) ≡ bytes_at incoming n
coming_first zero [] = refl
coming_first zero (i ∷ is) = refl
coming_first (suc n) [] = refl
coming_first (suc n) (i ∷ is) = coming_first n is

pub piece_first : (n : ℕ) (incoming : List Incoming) → first_piece (map (λ i. i.piece) (drop n incoming)) ≡ piece_at incoming n
piece_first zero [] = refl
piece_first zero (i ∷ is) = refl
piece_first (suc n) [] = refl
piece_first (suc n) (i ∷ is) = piece_first n is

-- one more connection is finished
pub conns-push : (page : List ℕ) (incoming : List Incoming) (k n : ℕ) (talks : List Talk) (talk : Talk) → n ≡ k + length talks
    → conns page incoming k (talks ++ talk ∷ []) ≡ conns page incoming k talks ++ conn_of page (bytes_at incoming n) talk talk.end ∷ []
conns-push page incoming k n [] talk is = ap (λ m. conn_of page (bytes_at incoming m) talk talk.end ∷ []) (omega (arith, is))
conns-push page incoming k n (t ∷ talks) talk is =
    ap (λ (l : List Conn). conn_of page (bytes_at incoming k) t t.end ∷ l) (conns-push page incoming (k + 1) n talks talk (omega (arith, is)))

pub length-conns : (page : List ℕ) (incoming : List Incoming) (k : ℕ) (talks : List Talk) → length (conns page incoming k talks) ≡ length talks
length-conns page incoming k [] = refl
length-conns page incoming k (t ∷ talks) = ap suc (length-conns page incoming (k + 1) talks)

-- a part of the page before this place stays where what is behind it changes
pub part_stays : (old new : List ℕ) (used start end : ℕ) → take used new ≡ take used old → end ≤ used
    → part_of new start end ≡ part_of old start end
part_stays old new used start end same within =
    ap (drop start) (sym (take-take end used new within) ∙ (ap (take end) same ∙ take-take end used old within))

pub conns_stay : (old new : List ℕ) (used : ℕ) (incoming : List Incoming) (k : ℕ) (talks : List Talk) → take used new ≡ take used old
    → EndBy used talks → conns new incoming k talks ≡ conns old incoming k talks
conns_stay old new used incoming k [] same within = refl
conns_stay old new used incoming k (t ∷ talks) same within = λ i.
    (record (conn_of new (bytes_at incoming k) t t.end) { sent = part_stays old new used t.start t.end same within.1 i })
    ∷ conns_stay old new used incoming (k + 1) talks same within.2 i

pub EndBy-later : (used later : ℕ) (talks : List Talk) → used ≤ later → EndBy used talks → EndBy later talks
EndBy-later used later [] order within = tt
EndBy-later used later (t ∷ talks) order within = (within.0, omega (arith, within.1), EndBy-later used later talks order within.2)

pub EndBy-push : (used : ℕ) (talks : List Talk) (talk : Talk) → EndBy used talks → talk.start ≤ talk.end → talk.end ≤ used → EndBy used (talks ++ talk ∷ [])
EndBy-push used [] talk within order last = (order, last, tt)
EndBy-push used (t ∷ talks) talk within order last = (within.0, within.1, EndBy-push used talks talk within.2 order last)

pub EndBy-at : (used : ℕ) (talks : List Talk) (k : ℕ) (talk : Talk) → EndBy used talks → slice_get talks k ≡ Some talk
    → (talk.start ≤ talk.end) × (talk.end ≤ used)
EndBy-at used [] k talk within at = absurd (none-some talk at)
EndBy-at used (t ∷ talks) zero talk within at = subst (λ (one : Talk). (one.start ≤ one.end) × (one.end ≤ used)) (same_talk t talk at) (within.0, within.1)
EndBy-at used (t ∷ talks) (suc k) talk within at = EndBy-at used talks k talk within.2 at

-- a connection is current
pub open_is : (incoming : List Incoming) (finished : List Talk) (current : Talk) (is_open : Bool) (page : List ℕ) (used : ℕ)
    → is_some (current_of incoming finished current is_open page used) ≡ is_open
open_is incoming finished current false page used = refl
open_is incoming finished current true page used = refl

still : (f : Conn → Conn) (current : Option Conn) → is_some (option_map f current) ≡ is_some current
still f None = refl
still f (Some conn) = refl

-- a connection that is current stays so where it is changed
pub stays_current : (f : Conn → Conn) (board : Board) → is_some (on_current f board).current ≡ is_some board.current
stays_current f board = still f board.current

-- the first connection still to come is accepted
pub accepts_next : (incoming : List Incoming) (finished : List Talk) (current : Talk) (is_open : Bool) (page : List ℕ) (used : ℕ) (port : Option ℕ)
    → is_open ≡ false
    → board_of incoming finished (record { port = port; taken = 0; is_ended = false; start = used; end = used }) true page used port
    ≡ accepts (board_of incoming finished current is_open page used port)
accepts_next incoming finished current true page used port closed = absurd (true≢false closed)
accepts_next incoming finished current false page used port closed = λ i. record (board_of incoming finished current false page used port) {
  coming = coming_next (λ one. one.bytes.items) (length finished) incoming i;
  current = Some (record {
    port = port;
    taken = [];
    left = sym (coming_first (length finished) incoming) i;
    is_ended = false;
    sent = drop_all used (take used page) (omega (arith, length-take used page)) i;
  });
}

-- bytes of the current connection are given
pub takes_given : (incoming : List Incoming) (finished : List Talk) (current : Talk) (is_open : Bool) (page : List ℕ) (used : ℕ) (port : Option ℕ)
    (count : ℕ) (given : List ℕ) (is_end : Bool) → is_open ≡ true
    → given ≡ take count (drop current.taken (bytes_at incoming (length finished)))
    → current.taken + count ≤ length (bytes_at incoming (length finished))
    → board_of incoming finished (record current { taken = current.taken + count; is_ended = current.is_ended || is_end }) is_open page used port
    ≡ on_current (takes given is_end) (board_of incoming finished current is_open page used port)
takes_given incoming finished current false page used port count given is_end open_ is within = absurd (false≢true open_)
takes_given incoming finished current true page used port count given is_end open_ is within =
    let bytes = bytes_at incoming (length finished) in
    let size : length given ≡ count = ap (λ (l : List ℕ). length l) is ∙ omega (arith, length-take count (drop current.taken bytes), length-drop current.taken bytes) in
    λ i. record (board_of incoming finished current true page used port) {
      current = Some (record (conn_of page bytes current used) {
        taken = (take-add current.taken count bytes ∙ ap (λ (l : List ℕ). take current.taken bytes ++ l) (sym is)) i;
        left = (sym (drop-drop count current.taken bytes) ∙ ap (λ n. drop n (drop current.taken bytes)) (sym size)) i;
        is_ended = current.is_ended || is_end;
      });
    }

-- and how many these are
pub counts_given : (incoming : List Incoming) (finished : List Talk) (current : Talk) (is_open : Bool) (page : List ℕ) (used room : ℕ) → is_open ≡ true
    → min (min (piece_at incoming (length finished)) room) (length (bytes_at incoming (length finished)) - current.taken)
    ≡ min (min (first_piece (map (λ one. one.piece) (drop (length finished) incoming))) room) (length (left_of (current_of incoming finished current is_open page used)))
counts_given incoming finished current false page used room open_ = absurd (false≢true open_)
counts_given incoming finished current true page used room open_ = λ i.
    min (min (sym (piece_first (length finished) incoming) i) room) (sym (length-drop current.taken (bytes_at incoming (length finished))) i)

-- a piece is sent
pub gets_piece : (incoming : List Incoming) (finished : List Talk) (current : Talk) (is_open : Bool) (old new : List ℕ) (used : ℕ) (port : Option ℕ) (piece : List ℕ)
    → is_open ≡ true → EndBy used finished → current.start ≤ used → used ≤ length old → take (used + length piece) new ≡ take used old ++ piece
    → board_of incoming finished current is_open new (used + length piece) port ≡ on_current (gets piece) (board_of incoming finished current is_open old used port)
gets_piece incoming finished current false old new used port piece open_ parts start fits is = absurd (false≢true open_)
gets_piece incoming finished current true old new used port piece open_ parts start fits is =
    let front : take used new ≡ take used old =
    sym (take-take used (used + length piece) new (omega arith)) ∙ (ap (take used) is ∙ (take-append-le used (take used old) piece (omega (arith, length-take used old)) ∙ take-take used used old (omega arith))) in
    λ i. record (board_of incoming finished current true old used port) {
      finished = conns_stay old new used incoming 0 finished front parts i;
      current = Some (record (conn_of old (bytes_at incoming (length finished)) current used) {
        sent = (ap (drop current.start) is ∙ drop-append-le current.start (take used old) piece (omega (arith, length-take used old))) i;
      });
    }

-- the current connection is finished
pub finishes_current : (incoming : List Incoming) (finished : List Talk) (current : Talk) (is_open : Bool) (page : List ℕ) (used : ℕ) (port : Option ℕ)
    → is_open ≡ true
    → board_of incoming (finished ++ (record current { end = used }) ∷ []) current false page used port
    ≡ finishes (board_of incoming finished current is_open page used port)
finishes_current incoming finished current false page used port open_ = absurd (false≢true open_)
finishes_current incoming finished current true page used port open_ = λ i. record {
  port = port;
  coming = map (λ one. one.bytes.items) (drop (length-append finished ((record current { end = used }) ∷ []) i) incoming);
  finished = conns-push page incoming 0 (length finished) finished (record current { end = used }) (omega arith) i;
  current = None;
}

-- and the pieces of those behind it are left
pub pieces_left : (incoming : List Incoming) (finished : List Talk) (talk : Talk)
    → map (λ one. one.piece) (drop (length (finished ++ talk ∷ [])) incoming) ≡ drop 1 (map (λ one. one.piece) (drop (length finished) incoming))
pieces_left incoming finished talk =
    ap (λ n. map (λ one. one.piece) (drop n incoming)) (length-append finished (talk ∷ [])) ∙ coming_next (λ one. one.piece) (length finished) incoming

-- a finished connection has its number
conns-at : (page : List ℕ) (incoming : List Incoming) (k : ℕ) (talks : List Talk) (more : List Conn) (at : ℕ) (talk : Talk)
    → slice_get talks at ≡ Some talk → sent_in (conns page incoming k talks ++ more) at ≡ part_of page talk.start talk.end
conns-at page incoming k [] more at talk is = absurd (none-some talk is)
conns-at page incoming k (t ∷ talks) more zero talk is = ap (λ (one : Talk). part_of page one.start one.end) (same_talk t talk is)
conns-at page incoming k (t ∷ talks) more (suc at) talk is = conns-at page incoming (k + 1) talks more at talk is

pub finished-at : (incoming : List Incoming) (finished : List Talk) (current : Talk) (is_open : Bool) (page : List ℕ) (used : ℕ) (port : Option ℕ) (at : ℕ) (talk : Talk)
    → slice_get finished at ≡ Some talk → sent_to (board_of incoming finished current is_open page used port) at ≡ part_of page talk.start talk.end
finished-at incoming finished current false page used port at talk is =
    ap (λ (l : List Conn). sent_in l at) (sym (append-nil (conns page incoming 0 finished))) ∙ conns-at page incoming 0 finished [] at talk is
finished-at incoming finished current true page used port at talk is =
    conns-at page incoming 0 finished (conn_of page (bytes_at incoming (length finished)) current used ∷ []) at talk is

sent_last : (conns : List Conn) (conn : Conn) (at : ℕ) → at ≡ length conns → sent_in (conns ++ conn ∷ []) at ≡ conn.sent
sent_last [] conn at is = ap (λ n. sent_in (conn ∷ []) n) is
sent_last (c ∷ conns) conn zero is = absurd (omega (arith, is))
sent_last (c ∷ conns) conn (suc at) is = sent_last conns conn at (omega (arith, is))

-- behind those that are finished only the current connection was accepted
pub current-at : (incoming : List Incoming) (finished : List Talk) (current : Talk) (is_open : Bool) (page : List ℕ) (used : ℕ) (port : Option ℕ) (at : ℕ)
    → length finished ≤ at → at < length (accepted (board_of incoming finished current is_open page used port))
    → sent_to (board_of incoming finished current is_open page used port) at ≡ part_of page current.start used
current-at incoming finished current false page used port at past within =
    absurd (omega (arith, past, within, length-conns page incoming 0 finished))
current-at incoming finished current true page used port at past within =
    let last = conn_of page (bytes_at incoming (length finished)) current used in
    sent_last (conns page incoming 0 finished) last at
    (omega (arith, past, within, length-conns page incoming 0 finished, length-append (conns page incoming 0 finished) (last ∷ [])))

-- how many connections were accepted
pub accepted-closed : (incoming : List Incoming) (finished : List Talk) (current : Talk) (is_open : Bool) (page : List ℕ) (used : ℕ) (port : Option ℕ) → is_open ≡ false
    → length (accepted (board_of incoming finished current is_open page used port)) ≡ length finished
accepted-closed incoming finished current true page used port closed = absurd (true≢false closed)
accepted-closed incoming finished current false page used port closed = length-conns page incoming 0 finished

pub accepted-open : (incoming : List Incoming) (finished : List Talk) (current : Talk) (is_open : Bool) (page : List ℕ) (used : ℕ) (port : Option ℕ) → is_open ≡ true
    → length (accepted (board_of incoming finished current is_open page used port)) ≡ length finished + 1
accepted-open incoming finished current false page used port open_ = absurd (false≢true open_)
accepted-open incoming finished current true page used port open_ =
    omega (arith, length-conns page incoming 0 finished, length-append (conns page incoming 0 finished) (conn_of page (bytes_at incoming (length finished)) current used ∷ []))
