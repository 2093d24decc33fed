-- The line that names the words of all commands.
use Rattle.std.specs.Prelude.{ℕ, List, [], ◌∷◌, ◌++◌, codes, decimal}
use Rattle.sg_words.specs.Command.{Behind, Words, commands, no_more, reports, two_more}
use Rattle.sg_words.specs.Numbers.{Range}

-- from the least to the most
abbrev pub shown_range : Range → List ℕ
shown_range range = decimal range.least ++ codes " to " ++ decimal range.most

-- the names of two numbers, and their ranges
abbrev pub shown_numbers : Range → Range → List ℕ
shown_numbers first second =
    codes " " ++ first.name ++ codes " " ++ second.name ++ codes " (" ++ shown_range first ++ codes ", " ++ shown_range second ++ codes ")"

abbrev pub shown_behind : Behind → List ℕ
shown_behind (no_more command) = []
shown_behind (two_more first second asked) = shown_numbers first second

-- the words of a command
abbrev pub shown_words : Words → List ℕ
shown_words form = form.name ++ shown_behind form.behind

-- the words of each command, behind a bar
abbrev pub shown_more : List Words → List ℕ
shown_more [] = []
shown_more (form ∷ forms) = codes " | " ++ shown_words form ++ shown_more forms

-- the words of each command, with a bar between two of them
abbrev pub shown_all : List Words → List ℕ
shown_all [] = []
shown_all (form ∷ forms) = shown_words form ++ shown_more forms

-- the words of the commands that open no office
abbrev pub report_usage_text : List ℕ
report_usage_text = shown_all reports

-- the words of all commands
abbrev pub usage_text : List ℕ
usage_text = shown_all commands
