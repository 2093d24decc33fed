-- Bytes are taken of a connection one after the other.
use Rattle.std.proofs.Common.{◌≡◌, ℕ, ◌+◌, ◌-◌, Bool, true, false, List, [], ◌∷◌, ◌++◌, length, take, drop, None, Some, refl, sym, ap, subst, ◌∙◌, append_assoc, append-nil, length-append, take-add, take-take, ◌≤◌, slice_range, arith}
use Rattle.std.specs.Prelude.{Option, option_map, ◌||◌, IfSome, ◌==◌, ◌<◌}
use Rattle.std.proofs.lemmas.Bool.{false≢true}
use Rattle.std.proofs.lemmas.Bool.Decides.{nat_tests}
use Rattle.std.proofs.lemmas.List.{drop-drop}
use Rattle.std.proofs.Math.Bool.{or-false}
use Rattle.sg_links.specs.Board.{Board, Come, ComeNext, Conn, Taken, on_current, takes}

or-twice : (b c : Bool) → ((b || false) || c) ≡ (b || c)
or-twice true c = refl
or-twice false c = refl

takes-nothing : (conn : Conn) → takes [] false conn ≡ conn
takes-nothing conn = λ i. record conn { taken = append-nil conn.taken i; is_ended = or-false conn.is_ended i }

takes-twice : (x y : List ℕ) (b : Bool) (conn : Conn) → takes y b (takes x false conn) ≡ takes (x ++ y) b conn
takes-twice x y b conn = λ i. record conn {
  taken = append_assoc conn.taken x y i;
  left = (drop-drop (length y) (length x) conn.left ∙ ap (λ n. drop n conn.left) (sym (length-append x y))) i;
  is_ended = or-twice conn.is_ended b i;
}

-- what comes next, and then what comes next behind it
come_twice : (x y : List ℕ) (b : Bool) (current : Option Conn) → IfSome current (ComeNext x false)
    → IfSome (option_map (takes x false) current) (ComeNext y b) → IfSome current (ComeNext (x ++ y) b)
come_twice x y b None p q = tt
come_twice x y b (Some conn) p q =
    let same : drop (length y) (drop (length x) conn.left) ≡ drop (length (x ++ y)) conn.left =
    drop-drop (length y) (length x) conn.left ∙ ap (λ n. drop n conn.left) (sym (length-append x y)) in
    record {
      front = p.front ∙ (ap (λ (l : List ℕ). x ++ l) (q.front ∙ ap (λ (l : List ℕ). y ++ l) same) ∙ sym (append_assoc x y (drop (length (x ++ y)) conn.left)));
      end = λ e. sym same ∙ q.end e;
    }

current_twice : (x y : List ℕ) (b : Bool) (current : Option Conn)
    → option_map (takes y b) (option_map (takes x false) current) ≡ option_map (takes (x ++ y) b) current
current_twice x y b None = refl
current_twice x y b (Some conn) = ap Some (takes-twice x y b conn)

current_same : (current : Option Conn) → current ≡ option_map (takes [] false) current
current_same None = refl
current_same (Some conn) = ap Some (sym (takes-nothing conn))

come_nothing : (current : Option Conn) → IfSome current (ComeNext [] false)
come_nothing None = tt
come_nothing (Some conn) = record { front = refl; end = λ e. absurd (false≢true e) }

board_twice : (x y : List ℕ) (b : Bool) (board : Board)
    → on_current (takes y b) (on_current (takes x false) board) ≡ on_current (takes (x ++ y) b) board
board_twice x y b board = λ i. record board { current = current_twice x y b board.current i }

-- nothing was taken
pub Taken-nil : (known : Option Board) → Taken known known [] false
Taken-nil None = record { came = tt; board = refl }
Taken-nil (Some board) = record {
  came = come_nothing board.current;
  board = λ i. Some (record board { current = current_same board.current i });
}

-- bytes were taken, and then others
pub Taken-more : (a b c : Option Board) (x y : List ℕ) (e : Bool) → Taken a b x false → Taken b c y e → Taken a c (x ++ y) e
Taken-more None b c x y e p q = record { came = tt; board = q.board ∙ ap (option_map (on_current (takes y e))) p.board }
Taken-more (Some board) b c x y e p q = record {
  came = come_twice x y e board.current p.came (subst (λ (known : Option Board). Come known y e) p.board q.came);
  board = q.board ∙ (ap (option_map (on_current (takes y e))) p.board ∙ ap Some (board_twice x y e board));
}

-- a buffer that grew behind its first bytes
pub take_read : (old new : List ℕ) (end count : ℕ) → take end new ≡ take end old
    → take (end + count) new ≡ take end old ++ slice_range new end (end + count)
take_read old new end count same =
    take-add end count new ∙ (ap (λ (l : List ℕ). l ++ take count (drop end new)) same
    ∙ ap (λ n. take end old ++ take n (drop end new)) (omega arith))

-- the first bytes and those that came next were taken
pub Taken-read : (a b c : Option Board) (old new : List ℕ) (end count : ℕ) (e : Bool) → take end new ≡ take end old
    → Taken a b (take end old) false → Taken b c (slice_range new end (end + count)) e → Taken a c (take (end + count) new) e
Taken-read a b c old new end count e same p q =
    subst (λ (l : List ℕ). Taken a c l e) (sym (take_read old new end count same))
    (Taken-more a b c (take end old) (slice_range new end (end + count)) e p q)

-- a number above 0 is not 0
pub not_none : (count : ℕ) → 0 < count → (count == 0) ≡ false
not_none count some = grind (arith, nat_tests)

-- the same where bytes came, so that the end was not read
pub Taken-on : (a b c : Option Board) (old new : List ℕ) (end count : ℕ) → 0 < count → take end new ≡ take end old
    → Taken a b (take end old) false → Taken b c (slice_range new end (end + count)) (count == 0) → Taken a c (take (end + count) new) false
Taken-on a b c old new end count some same p q =
    Taken-read a b c old new end count false same p
    (subst (λ (e : Bool). Taken b c (slice_range new end (end + count)) e) (not_none count some) q)

-- what stayed at the front of a buffer stays at the front of that front
pub front_kept : (old mid new : List ℕ) (end at : ℕ) → end ≤ at → take at new ≡ take at mid → take end mid ≡ take end old
    → take end new ≡ take end old
front_kept old mid new end at order same kept =
    sym (take-take end at new order) ∙ (ap (take end) same ∙ (take-take end at mid order ∙ kept))

-- where a read failed, nothing was taken
pub Taken-same : (a b c : Option Board) (mid new : List ℕ) (at : ℕ) → c ≡ b → take at new ≡ take at mid
    → Taken a b (take at mid) false → Taken a c (take at new) false
Taken-same a b c mid new at board same p =
    subst (λ (l : List ℕ). Taken a c l false) (sym same) (subst (λ (k : Option Board). Taken a k (take at mid) false) (sym board) p)

-- and where none came, so that it was
pub Taken-last : (a b c : Option Board) (old new : List ℕ) (end count : ℕ) → count ≡ 0 → take end new ≡ take end old
    → Taken a b (take end old) false → Taken b c (slice_range new end (end + count)) (count == 0) → Taken a c (take (end + count) new) true
Taken-last a b c old new end count none same p q =
    Taken-read a b c old new end count true same p
    (subst (λ (e : Bool). Taken b c (slice_range new end (end + count)) e) (ap (λ n. n == 0) none) q)
