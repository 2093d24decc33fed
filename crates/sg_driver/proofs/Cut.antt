-- Which lines the bytes of an input have, where it tells them, by what was cut of it.
use Rattle.std.proofs.Common.{◌≡◌, ℕ, zero, suc, ◌+◌, ◌<◌, ◌≤◌, inl, inr, List, [], ◌∷◌, ◌++◌, length, take, Some, None, refl, sym, ap, ◌∙◌, append_assoc, append-nil, length-append, arith}
use Rattle.std.proofs.lemmas.List.{take_all}
use Rattle.std.specs.Prelude.{◌⊎◌, IfSome, Option}
use Rattle.std.specs.List.{concat}
use Rattle.std.specs.Io.KnownBytes.{Consumes, IsAtEnd}
use Rattle.sg_outside.specs.TextLines.{AreLines, HasNoFeed, IsLine, lines_of}
use Rattle.sg_outside.proofs.LineLemmas.{lines_of-concat, lines_of-line, lines_of-lines, lines_of-long, lines_of-part}
use Rattle.sg_outside.proofs.StreamLemmas.{Consumes-all, Consumes-trans}
use Rattle.sg_driver.specs.Judging.{IsNoLine}

-- what follows from what is told
pub some_then : {P Q : List ℕ → Type 0} (known : Option (List ℕ)) → IfSome known P → ((bytes : List ℕ) → P bytes → Q bytes) → IfSome known Q
some_then None said then = tt
some_then (Some bytes) said then = then bytes said

-- behind these lines there is this one
abbrev pub HasLine : List (List ℕ) → List ℕ → List ℕ → Type 0
HasLine done line bytes = (others : List (List ℕ)) × (lines_of bytes ≡ done ++ line ∷ others)

-- A LINE

-- a line has a byte
pub line-some : (line : List ℕ) → IsLine line → 0 < length line
line-some [] is_line = absurd is_line
line-some (x ∷ xs) is_line = omega arith

line-known : (bytes : List ℕ) (after : Option (List ℕ)) (done : List (List ℕ)) (line : List ℕ) → AreLines done → IsLine line → Consumes (Some bytes) after (concat done ++ line)
    → HasLine done line bytes
line-known bytes None done line whole is_line taken = absurd taken
line-known bytes (Some rest) done line whole is_line taken = (
  lines_of rest,
  ap lines_of (taken ∙ append_assoc (concat done) line rest) ∙ (lines_of-lines done (line ++ rest) whole ∙ ap (λ l. done ++ l) (lines_of-line line rest is_line)),
)

pub line-cut : (before mid after : Option (List ℕ)) (done : List (List ℕ)) (line : List ℕ) → AreLines done → IsLine line → Consumes before mid (concat done) → Consumes mid after line
    → IfSome before (HasLine done line)
line-cut None mid after done line whole is_line p q = tt
line-cut (Some bytes) mid after done line whole is_line p q = line-known bytes after done line whole is_line (Consumes-trans (Some bytes) mid after (concat done) line p q)

-- BYTES WITHOUT A LINE FEED

-- the line that begins with these bytes is none
pub record HasNoLine (done : List (List ℕ)) (text bytes : List ℕ) : Type 0 where
  pub line : List ℕ
  pub is_none : IsNoLine line
  pub front : length text ≤ length line
  pub has : HasLine done line bytes

open-known : (bytes : List ℕ) (after : Option (List ℕ)) (done : List (List ℕ)) (text : List ℕ) → AreLines done → HasNoFeed text → 0 < length text
    → (length text ≡ 16384) ⊎ IsAtEnd after → Consumes (Some bytes) after (concat done ++ text) → HasNoLine done text bytes
open-known bytes None done text whole unended some ends taken = absurd taken
open-known bytes (Some rest) done text whole unended some (inl full) taken =
    let long = lines_of-long text rest unended some in
    let cut = ap lines_of (taken ∙ append_assoc (concat done) text rest) ∙ (lines_of-lines done (text ++ rest) whole ∙ ap (λ l. done ++ l) long.2) in
    record {
      line = text ++ long.0;
      is_none = record { front = text; more = long.0; whole = refl; unended = unended; ends = inr full };
      front = omega (arith, length-append text long.0);
      has = (long.1, cut);
    }
open-known bytes (Some rest) done text whole unended some (inr ended) taken =
    let all : bytes ≡ concat done ++ text = Consumes-all bytes (Some rest) (concat done ++ text) taken ended in
    let cut = ap lines_of all ∙ (lines_of-lines done text whole ∙ ap (λ l. done ++ l) (lines_of-part text unended some)) in
    record {
      line = text;
      is_none = record { front = text; more = []; whole = sym (append-nil text); unended = unended; ends = inl refl };
      front = omega arith;
      has = ([], cut);
    }

pub open-cut : (before mid after : Option (List ℕ)) (done : List (List ℕ)) (text : List ℕ) → AreLines done → HasNoFeed text → 0 < length text
    → (length text ≡ 16384) ⊎ IsAtEnd after → Consumes before mid (concat done) → Consumes mid after text → IfSome before (HasNoLine done text)
open-cut None mid after done text whole unended some ends p q = tt
open-cut (Some bytes) mid after done text whole unended some ends p q =
    open-known bytes after done text whole unended some ends (Consumes-trans (Some bytes) mid after (concat done) text p q)

-- THE END

pub end-cut : (before mid after : Option (List ℕ)) (done : List (List ℕ)) → AreLines done → IsAtEnd after → Consumes before mid (concat done) → Consumes mid after []
    → IfSome before (λ bytes. lines_of bytes ≡ done)
end-cut None mid after done whole ended p q = tt
end-cut (Some bytes) mid after done whole ended p q =
    ap lines_of (Consumes-all bytes after (concat done ++ []) (Consumes-trans (Some bytes) mid after (concat done) [] p q) ended ∙ append-nil (concat done)) ∙ lines_of-concat done whole

-- HOW MANY BYTES

-- first lines that go past some have the bytes of these and of the line behind them
bytes-within : (done others : List (List ℕ)) (line : List ℕ) (number : ℕ) → length done < number
    → length (concat done) + length line ≤ length (concat (take number (done ++ line ∷ others)))
bytes-within done others line zero behind = absurd (omega (arith, behind))
bytes-within [] others line (suc n) behind = omega (arith, length-append line (concat (take n others)))
bytes-within (x ∷ xs) others line (suc n) behind =
    let ih = bytes-within xs others line n (omega (arith, behind)) in
    omega (arith, ih, length-append x (concat xs), length-append x (concat (take n (xs ++ line ∷ others))))

-- up to the end of the line behind these, and a little more
pub few-behind : (bytes : List ℕ) (done : List (List ℕ)) (line text ahead : List ℕ) → HasLine done line bytes → length text ≤ length line → length ahead < 16384
    → length ((concat done ++ text) ++ ahead) < length (concat (take (length done + 1) (lines_of bytes))) + 16384
few-behind bytes done line text ahead has front few =
    let within = bytes-within done has.0 line (length done + 1) (omega arith) in
    let same = ap (λ (lines : List (List ℕ)). length (concat (take (length done + 1) lines))) has.1 in
    omega (arith, within, same, front, few, length-append (concat done ++ text) ahead, length-append (concat done) text)

-- and of all lines
pub few-of_all : (bytes : List ℕ) (done : List (List ℕ)) (ahead : List ℕ) → lines_of bytes ≡ done → ahead ≡ []
    → length ((concat done ++ []) ++ ahead) < length (concat (take (length done + 1) (lines_of bytes))) + 16384
few-of_all bytes done ahead has none =
    let same = ap (λ (lines : List (List ℕ)). length (concat (take (length done + 1) lines))) has in
    let all = ap (λ (lines : List (List ℕ)). length (concat lines)) (take_all (length done + 1) done (omega arith)) in
    omega (arith, same, all, ap length none, length-append (concat done ++ []) ahead, length-append (concat done) [])
