-- What each ending of a run over lines says of the input and of the output (this project's rules for the office).
use Rattle.std.specs.Prelude.{◌≡◌, ℕ, ◌<◌, List, [], ◌++◌, length, Option, None, Some, IfSome}
use Rattle.std.specs.List.{concat}
use Rattle.std.specs.Io.KnownBytes.{Appends, Consumes, IsAtEnd}
use Rattle.sg_plan.specs.Limits.{longest_ask, most_asks}
use Rattle.sg_outside.specs.TextLines.{AreLines, HasNoFeed, lines_of}
use Rattle.sg_clerk.specs.Ends.{MissesLast, refused_line, refused_lines}
use Rattle.sg_clerk.specs.declared.ended.Ending.{Ending}
use Rattle.sg_clerk.specs.declared.ended.Ending.TheVariants as ending
use Rattle.sg_clerk.specs.declared.ended.Unfit.{Unfit}
use Rattle.sg_clerk.specs.declared.ended.Unfit.TheVariants as unfit

-- these are the first lines of the input, where it tells its bytes
abbrev pub AreFirstLines : Option (List ℕ) → List (List ℕ) → Type 0
AreFirstLines known lines = IfSome known (λ bytes. (others : List (List ℕ)) × (lines_of bytes ≡ lines ++ others))

-- these are all lines of the input, and it was read to its end
pub record AreAllLines (before now : Option (List ℕ)) (lines : List (List ℕ)) : Type 0 where
  pub all : IfSome before (λ bytes. lines_of bytes ≡ lines)
  pub ended : IsAtEnd now

-- these are the whole lines of the bytes taken, and behind them fewer bytes than a line may have were taken, without a
-- line feed; behind as many lines as may be answered, none
pub record AreLinesTaken (before now : Option (List ℕ)) (lines : List (List ℕ)) : Type 0 where
  pub rest : List ℕ
  pub whole : AreLines lines
  pub unended : HasNoFeed rest
  pub few : length rest < longest_ask
  pub none_more : length lines ≡ most_asks → rest ≡ []
  pub taken : Consumes before now (concat lines ++ rest)

-- behind these lines the input has what is refused: the front of a line that is too long; or, behind as many lines as
-- may be answered, one more byte
abbrev pub IsRefusedFor : Unfit → List (List ℕ) → List ℕ → Type 0
IsRefusedFor unfit.Line lines next = HasNoFeed next × (length next ≡ longest_ask) × (length lines < most_asks)
IsRefusedFor unfit.Count lines next = (0 < length next) × (length lines ≡ most_asks)
IsRefusedFor other lines next = ⊥

-- the input goes on behind these lines, which are whole, with what is refused
pub record IsRefused (why : Unfit) (before : Option (List ℕ)) (lines : List (List ℕ)) : Type 0 where
  pub next : List ℕ
  pub whole : AreLines lines
  pub cause : IsRefusedFor why lines next
  pub stands : IfSome before (λ bytes. (rest : List ℕ) × (bytes ≡ concat lines ++ (next ++ rest)))

-- a refusal's line is due only where the input gives cause for it
abbrev pub IsDue : Option Unfit → Option (List ℕ) → List (List ℕ) → Type 0
IsDue None before lines = Unit {0}
IsDue (Some why) before lines = IsRefused why before lines

-- what an ending says of the lines that were answered, and of the texts that were written for them:
-- all lines were answered; or a read failed behind them; or what comes behind them is refused, and that was written; or a
-- write failed, and of the texts due at most the last is missing or cut; or memory was wanted, with the same of the texts
abbrev pub EndsSo : Ending → List (List ℕ) → List (List ℕ) → (left left' written written' : Option (List ℕ)) → Type 0
EndsSo ending.Done lines texts left left' written written' = AreAllLines left left' lines × Appends written written' (concat texts)
EndsSo ending.ReadFault lines texts left left' written written' = AreLinesTaken left left' lines × Appends written written' (concat texts)
EndsSo (ending.Refused why) lines texts left left' written written' = IsRefused why left lines × Appends written written' (concat texts ++ refused_line why)
EndsSo (ending.WriteFault due) lines texts left left' written written' = IsDue due left lines × MissesLast written written' (texts ++ refused_lines due)
EndsSo ending.LinkFault lines texts left left' written written' = ⊥
EndsSo ending.NoMemory lines texts left left' written written' = MissesLast written written' texts
