-- A law of the command words, which follows from the definitions alone.
use Rattle.std.specs.Prelude.{◌≡◌, ℕ, ◌<◌, ◌^◌, List, ◌∷◌, Contains, Some}
use Rattle.sg_words.specs.Command.{IsSized, Words, command_in, commands}
use Rattle.sg_words.specs.declared.command.Command.{Command}
use Rattle.sg_words.specs.declared.command.Command.TheVariants.{Sample}

-- the command's form stands in the table, and such words ask for the command
pub record HasWords (command : Command) : Type 0 where
  pub form : Words
  pub behind : List (List ℕ)
  pub stands : Contains commands form
  pub asks : command_in (form.name ∷ behind) ≡ Some command

-- the seed of a sample has 32 bits, as each value of the program
abbrev pub IsSeeded : Command → Type 0
IsSeeded (Sample asked) = asked.seed < 2 ^ 32
IsSeeded _ = Unit {0}

-- each command has words
abbrev pub CommandsHaveWords : Type 0
CommandsHaveWords = (command : Command) → IsSized command → IsSeeded command → HasWords command
