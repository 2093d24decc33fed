-- Connections that grow by one more.
use Rattle.std.proofs.Common.{◌≡◌, ℕ, suc, ◌+◌, ◌-◌, ◌^◌, ◌<◌, ◌≤◌, List, [], ◌∷◌, ◌++◌, length, drop, Some, None, refl, sym, ap, subst, ◌∙◌, append_assoc, append-nil, length-append, arith}
use Rattle.std.specs.Prelude.{Option, option_map}
use Rattle.std.proofs.lemmas.List.{drop-drop, drop_all}
use Rattle.sg_outside.specs.Faults.{Rose}
use Rattle.sg_links.specs.Board.{Board, Come, Conn, accepts, finishes, first_bytes, gets, on_current, takes}
use Rattle.sg_http.specs.declared.serving.Served.{Served}
use Rattle.sg_http.specs.declared.serving.Served.TheVariants as served
use Rattle.sg_clerk.specs.calls.Calls.{AreTaken, Call, Takes, TakesKnown, conn_of, conns_of, failed, failures_in}

pub failures-push : (calls : List Call) (call : Call) → failures_in (calls ++ call ∷ []) ≡ failures_in calls + failed call.how
failures-push [] call = omega arith
failures-push (c ∷ cs) call = let ih = failures-push cs call in omega (arith, ih)

-- THE CONNECTIONS

drop-one : (n : ℕ) (list : List (List ℕ)) → drop n (drop 1 list) ≡ drop (suc n) list
drop-one n [] = drop_all n [] (omega arith) ∙ sym (drop_all (suc n) [] (omega arith))
drop-one n (x ∷ xs) = refl

conns-push : (port : Option ℕ) (coming : List (List ℕ)) (calls : List Call) (call : Call)
    → conns_of port coming (calls ++ call ∷ []) ≡ conns_of port coming calls ++ conn_of port (first_bytes (drop (length calls) coming)) call ∷ []
conns-push port coming [] call = refl
conns-push port coming (c ∷ cs) call = ap (λ l. conn_of port (first_bytes coming) c ∷ l)
    (conns-push port (drop 1 coming) cs call
    ∙ ap (λ (l : List (List ℕ)). conns_of port (drop 1 coming) cs ++ conn_of port (first_bytes l) call ∷ []) (drop-one (length cs) coming))

taken-push : (coming : List (List ℕ)) (calls : List Call) (call : Call) → AreTaken coming calls → AreTaken (drop (length calls) coming) (call ∷ [])
    → AreTaken coming (calls ++ call ∷ [])
taken-push coming [] call p q = q
taken-push coming (c ∷ cs) call p q =
    (p.0, p.1, taken-push (drop 1 coming) cs call p.2 (subst (λ (l : List (List ℕ)). AreTaken l (call ∷ [])) (sym (drop-one (length cs) coming)) q))

takes-more : (calls : List Call) (call : Call) (a b c : Board) → Takes calls a b → Takes (call ∷ []) b c → Takes (calls ++ call ∷ []) a c
takes-more calls call a b c p q = record {
  port = q.port ∙ p.port;
  coming = q.coming ∙ (ap (λ (l : List (List ℕ)). drop 1 l) p.coming ∙ (drop-drop 1 (length calls) a.coming ∙ ap (λ n. drop n a.coming) (sym (length-append calls (call ∷ [])))));
  finished = q.finished
      ∙ (ap (λ (l : List Conn). l ++ conn_of b.port (first_bytes b.coming) call ∷ []) p.finished
      ∙ (append_assoc a.finished (conns_of a.port a.coming calls) (conn_of b.port (first_bytes b.coming) call ∷ [])
      ∙ ap (λ (l : List Conn). a.finished ++ l)
      (ap (λ (port : Option ℕ). conns_of a.port a.coming calls ++ conn_of port (first_bytes b.coming) call ∷ []) p.port
      ∙ (ap (λ (l : List (List ℕ)). conns_of a.port a.coming calls ++ conn_of a.port (first_bytes l) call ∷ []) p.coming
      ∙ sym (conns-push a.port a.coming calls call)))));
  taken = taken-push a.coming calls call p.taken (subst (λ (l : List (List ℕ)). AreTaken l (call ∷ [])) p.coming q.taken);
}

pub takes-push : (calls : List Call) (call : Call) (a b c : Option Board) → TakesKnown calls a b → TakesKnown (call ∷ []) b c → TakesKnown (calls ++ call ∷ []) a c
takes-push calls call None b c p q = subst (λ (k : Option Board). TakesKnown (call ∷ []) k c) p q
takes-push calls call (Some a) b c p q =
    let next = subst (λ (k : Option Board). TakesKnown (call ∷ []) k c) p.1 q in
    (next.0, next.1, takes-more calls call a p.0 next.0 p.2 next.2)

pub takes-none : (board : Option Board) → TakesKnown [] board board
takes-none None = refl
takes-none (Some board) = (board, refl, record { port = refl; coming = refl; finished = sym (append-nil board.finished); taken = tt })

-- a connection was accepted and served
pub takes-one : (how : Call) (a b c : Option Board) → b ≡ option_map accepts a → Come b how.taken how.is_ended
    → c ≡ option_map (λ k. finishes (on_current (gets how.sent) (on_current (takes how.taken how.is_ended) k))) b → TakesKnown (how ∷ []) a c
takes-one how None b c accepted came is = is ∙ ap (option_map (λ k. finishes (on_current (gets how.sent) (on_current (takes how.taken how.is_ended) k)))) accepted
takes-one how (Some a) b c accepted came is =
    let next = subst (λ (k : Option Board). Come k how.taken how.is_ended) accepted came in (
      finishes (on_current (gets how.sent) (on_current (takes how.taken how.is_ended) (accepts a))),
      is ∙ ap (option_map (λ k. finishes (on_current (gets how.sent) (on_current (takes how.taken how.is_ended) k)))) accepted,
      record { port = refl; coming = refl; finished = refl; taken = (next.front, next.end, tt) },
    )

-- THE COUNTS

-- a connection that failed raised the count
pub failed-counted : (how : Served) (first before now : ℕ) → first ≤ before → (how ≡ served.ReadFailed → Rose before now) → (how ≡ served.WriteFailed → Rose before now)
    → before ≤ now → now < 2 ^ 64 - 1 → first + failed how ≤ now
failed-counted (served.Answered status) first before now order read write later low = omega (arith, order, later)
failed-counted served.ReadFailed first before now order read write later low = omega (arith, order, read refl, low)
failed-counted served.WriteFailed first before now order read write later low = omega (arith, order, write refl, low)
failed-counted served.Gone first before now order read write later low = omega (arith, order, later)
