-- What was taken of the input of `do`, by how far its lines were cut.
use Rattle.std.proofs.Common.{ℕ, ◌+◌, ◌≤◌, List, [], ◌∷◌, ◌++◌, length, subst, append_assoc, length-append, arith}
use Rattle.std.specs.Prelude.{Option}
use Rattle.std.specs.List.{concat}
use Rattle.std.specs.Io.KnownBytes.{Consumes, prepend_known}
use Rattle.sg_plan.specs.Limits.{longest_ask}
use Rattle.sg_outside.proofs.StreamLemmas.{Consumes-front, Consumes-nil, Consumes-trans}
use Rattle.sg_clerk.specs.Taken.{AreShort, TookLines}

-- behind these lines a text was cut, and some bytes are held behind it, together at most as many as an ask has
pub record CutBehind (lines : List (List ℕ)) (text : List ℕ) (before left : Option (List ℕ)) : Type 0 where
  pub ahead : List ℕ
  pub short : AreShort lines
  pub cut : Consumes before (prepend_known ahead left) (concat lines ++ text)
  pub few : length text + length ahead ≤ longest_ask

-- one more short line
pub short-push : (lines : List (List ℕ)) (line : List ℕ) → AreShort lines → length line ≤ longest_ask → AreShort (lines ++ line ∷ [])
short-push [] line short few = (few, tt)
short-push (x ∷ xs) line short few = (short.0, short-push xs line short.1 few)

-- nothing was taken
pub took-nothing : (known : Option (List ℕ)) → TookLines [] known known
took-nothing known = record { rest = []; short = tt; taken = Consumes-nil known; few = omega arith }

-- all bytes that were taken
all-taken : (lines : List (List ℕ)) (text ahead : List ℕ) (before left : Option (List ℕ)) → Consumes before (prepend_known ahead left) (concat lines ++ text)
    → Consumes before left ((concat lines ++ text) ++ ahead)
all-taken lines text ahead before left cut =
    Consumes-trans before (prepend_known ahead left) left (concat lines ++ text) ahead cut (Consumes-front ahead left)

-- the lines were taken, and behind them the text
pub took-behind : (lines : List (List ℕ)) (text : List ℕ) (before left : Option (List ℕ)) → CutBehind lines text before left → TookLines lines before left
took-behind lines text before left behind = record {
  rest = text ++ behind.ahead;
  short = behind.short;
  taken = subst (λ (l : List ℕ). Consumes before left l) (append_assoc (concat lines) text behind.ahead) (all-taken lines text behind.ahead before left behind.cut);
  few = omega (arith, behind.few, length-append text behind.ahead);
}
