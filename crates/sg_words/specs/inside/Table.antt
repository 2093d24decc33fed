-- The table of the code, and what its rows mean.
use Rattle.std.specs.Option.{option_map}
use Rattle.std.specs.Prelude.{ℕ, List, Option}
use Rattle.sg_words.specs.Command.{Behind, Words, no_more, two_more}
use Rattle.sg_words.specs.Numbers.{Range, range, sample_in, service_in}
use Rattle.sg_words.specs.declared.command.Command.{Command}
use Rattle.sg_words.specs.declared.command.Command.TheVariants.{Sample, Serve}
use Rattle.sg_words.specs.declared.table.Form.{Form}
use Rattle.sg_words.specs.declared.table.Number.{Number}
use Rattle.sg_words.specs.declared.table.Pair.{Pair}
use Rattle.sg_words.specs.declared.table.Pair.TheVariants as pair
use Rattle.sg_words.specs.declared.table.Takes.{Takes}
use Rattle.sg_words.specs.declared.table.Takes.TheVariants as takes

abbrev pub range_of : Number → Range
range_of number = range number.name.now number.least number.most

-- the command that two words ask for
abbrev pub asked_by : Pair → List ℕ → List ℕ → Option Command
asked_by pair.Service = λ port count. option_map Serve (service_in port count)
asked_by pair.Sample = λ seed ballots. option_map Sample (sample_in seed ballots)

abbrev pub behind_of : Takes → Behind
behind_of (takes.Nothing command) = no_more command
behind_of (takes.Two first second pair) = two_more (range_of first) (range_of second) (asked_by pair)

abbrev pub words_of : Form → Words
words_of form = record { name = form.name.now; behind = behind_of form.takes }
