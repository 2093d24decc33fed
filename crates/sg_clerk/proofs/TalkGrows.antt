-- Exchanges, lines and outputs that grow by one more.
use Rattle.std.proofs.Common.{◌≡◌, ℕ, ◌<◌, List, [], ◌∷◌, ◌++◌, length, Some, None, refl, sym, ap, ◌∙◌, append_assoc, append-nil, arith}
use Rattle.std.specs.Prelude.{Option, IfSome}
use Rattle.std.specs.List.{concat}
use Rattle.std.specs.Io.KnownBytes.{Appends, Consumes, IsAtEnd}
use Rattle.sg_outside.specs.TextLines.{AreLines, HasNoFeed, lines_of}
use Rattle.sg_outside.proofs.LineLemmas.{lines_of-concat, lines_of-lines, lines_of-part}
use Rattle.sg_talk.specs.Talk.{Exchange}
use Rattle.sg_clerk.specs.Does.{lines_in}
use Rattle.sg_clerk.specs.Ends.{MissesLast, last_of}
use Rattle.sg_clerk.specs.Lines.{AreAllLines, AreFirstLines}

-- EXCHANGES

pub lines-push : (exchanges : List Exchange) (x : Exchange) → lines_in (exchanges ++ x ∷ []) ≡ lines_in exchanges ++ x.bytes ∷ []
lines-push [] x = refl
lines-push (y ∷ ys) x = ap (λ l. y.bytes ∷ l) (lines-push ys x)

pub lines-length : (exchanges : List Exchange) → length (lines_in exchanges) ≡ length exchanges
lines-length [] = refl
lines-length (y ∷ ys) = let ih = lines-length ys in omega (arith, ih)

-- THE INPUT

pub first-lines : (before after : Option (List ℕ)) (lines : List (List ℕ)) → AreLines lines → Consumes before after (concat lines) → AreFirstLines before lines
first-lines None after lines whole taken = tt
first-lines (Some bytes) None lines whole taken = absurd taken
first-lines (Some bytes) (Some rest) lines whole taken = (lines_of rest, ap lines_of taken ∙ lines_of-lines lines rest whole)

pub refused-stands : (before after : Option (List ℕ)) (lines : List (List ℕ)) (next : List ℕ) → Consumes before after (concat lines ++ next)
    → IfSome before (λ bytes. (rest : List ℕ) × (bytes ≡ concat lines ++ (next ++ rest)))
refused-stands None after lines next taken = tt
refused-stands (Some bytes) None lines next taken = absurd taken
refused-stands (Some bytes) (Some rest) lines next taken = (rest, taken ∙ append_assoc (concat lines) next rest)

all-known : (before after : Option (List ℕ)) (lines : List (List ℕ)) → AreLines lines → Consumes before after (concat lines) → IsAtEnd after
    → IfSome before (λ bytes. lines_of bytes ≡ lines)
all-known None after lines whole taken ended = tt
all-known (Some bytes) None lines whole taken ended = absurd taken
all-known (Some bytes) (Some rest) lines whole taken ended =
    ap lines_of (taken ∙ (ap (λ l. concat lines ++ l) ended ∙ append-nil (concat lines))) ∙ lines_of-concat lines whole

-- at the end of the input; `after` is what is still to come, and `left` what the input has
pub all-lines : (before after left : Option (List ℕ)) (lines : List (List ℕ)) → AreLines lines → Consumes before after (concat lines) → IsAtEnd after → IsAtEnd left
    → AreAllLines before left lines
all-lines before after left lines whole taken behind ended = record { all = all-known before after lines whole taken behind; ended = ended }

part-known : (before after : Option (List ℕ)) (lines : List (List ℕ)) (text : List ℕ) → AreLines lines → HasNoFeed text → 0 < length text
    → Consumes before after (concat lines ++ text) → IsAtEnd after → IfSome before (λ bytes. lines_of bytes ≡ lines ++ text ∷ [])
part-known None after lines text whole none some taken ended = tt
part-known (Some bytes) None lines text whole none some taken ended = absurd taken
part-known (Some bytes) (Some rest) lines text whole none some taken ended =
    ap lines_of (taken ∙ (ap (λ l. (concat lines ++ text) ++ l) ended ∙ append-nil (concat lines ++ text)))
    ∙ (lines_of-lines lines text whole ∙ ap (λ l. lines ++ l) (lines_of-part text none some))

-- at a last line without a line feed
pub all-lines_part : (before after left : Option (List ℕ)) (lines : List (List ℕ)) (text : List ℕ) → AreLines lines → HasNoFeed text → 0 < length text
    → Consumes before after (concat lines ++ text) → IsAtEnd after → IsAtEnd left → AreAllLines before left (lines ++ text ∷ [])
all-lines_part before after left lines text whole none some taken behind ended =
    record { all = part-known before after lines text whole none some taken behind; ended = ended }

pub first-of_all : (before : Option (List ℕ)) (lines : List (List ℕ)) → IfSome before (λ bytes. lines_of bytes ≡ lines) → AreFirstLines before lines
first-of_all None lines all = tt
first-of_all (Some bytes) lines all = ([], all ∙ sym (append-nil lines))

-- THE OUTPUT

pub last-push : (lines : List (List ℕ)) (line : List ℕ) → last_of (lines ++ line ∷ []) ≡ line
last-push [] line = refl
last-push (x ∷ []) line = refl
last-push (x ∷ y ∷ ys) line = last-push (y ∷ ys) line

pub misses-none : (before now : Option (List ℕ)) (texts : List (List ℕ)) → Appends before now (concat texts) → MissesLast before now texts
misses-none before now texts done = record { front = concat texts; rest = []; due_is = sym (append-nil (concat texts)); few = omega arith; appended = done }
