-- How much of an input's bytes was taken, by what their lines are.
use Rattle.std.specs.Prelude.{ℕ, ◌+◌, ◌*◌, ◌<◌, ◌≤◌, List, ◌++◌, length, take, Option, IfSome}
use Rattle.std.specs.List.{concat}
use Rattle.std.specs.Io.KnownBytes.{Consumes}
use Rattle.sg_plan.specs.Limits.{longest_line}
use Rattle.sg_outside.specs.TextLines.{AreLines, HasNoFeed, lines_of}

-- of these bytes whole lines of this kind were taken, each at most as long as a line may be, and at most the bytes of one more
-- line or as many
pub record TookLines (Are : List (List ℕ) → Type 0) (before now : Option (List ℕ)) : Type 0 where
  pub done : List (List ℕ)
  pub rest : List ℕ
  pub lines : AreLines done
  pub are : Are done
  pub short : length (concat done) ≤ length done * longest_line
  pub few : length rest ≤ longest_line
  pub taken : Consumes before now (concat done ++ rest)

-- the same, and behind the lines fewer than 16,384 bytes were taken, without a line feed
pub record TookUnended (Are : List (List ℕ) → Type 0) (before now : Option (List ℕ)) : Type 0 where
  pub took : TookLines Are before now
  pub unended : HasNoFeed took.rest
  pub fewer : length took.rest < longest_line

-- what was taken ends, where the bytes are told, fewer than 16,384 bytes behind the end of the line of this number; a
-- number past the last line stands for that one
pub record TookUpTo (number : ℕ) (before now : Option (List ℕ)) : Type 0 where
  pub front : List ℕ
  pub taken : Consumes before now front
  pub few : IfSome before (λ bytes. length front < length (concat (take number (lines_of bytes))) + longest_line)

-- of these bytes whole lines of this kind were taken, and fewer than 16,384 bytes behind the line after them
pub record TookOneMore (Are : List (List ℕ) → Type 0) (before now : Option (List ℕ)) : Type 0 where
  pub took : TookLines Are before now
  pub up_to : TookUpTo (length took.done + 1) before now
