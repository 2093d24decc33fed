-- What the words after the program's name ask for (this project's command line).
use Rattle.std.specs.Option.{option_map}
use Rattle.std.specs.Prelude.{ℕ, ◌≤◌, Bool, true, false, List, [], ◌∷◌, if◌then◌else◌, bytes_eq, codes, Option, Some, None}
use Rattle.sg_words.specs.Numbers.{IsService, Range, ballots_range, count_range, port_range, sample_in, seed_range, service_in}
use Rattle.sg_words.specs.declared.command.Command.{Command}
use Rattle.sg_words.specs.declared.command.Command.TheVariants.{Audit, County, Do, Init, Odds, Openings, Record, Recount, Sample, Scans, Serve, Sheet}

-- what stands behind a command's name: nothing, or two numbers, with the command that two words ask for there
pub data Behind : Type 0 where
  no_more : Command → Behind
  two_more : Range → Range → (List ℕ → List ℕ → Option Command) → Behind

-- a command's words: its name, and what stands behind it
pub record Words : Type 0 where
  pub name : List ℕ
  pub behind : Behind

abbrev pub alone : List ℕ → Command → Words
alone name command = record { name = name; behind = no_more command }

abbrev pub with_two : List ℕ → Range → Range → (List ℕ → List ℕ → Option Command) → Words
with_two name first second asked = record { name = name; behind = two_more first second asked }

-- the words of the commands that report on what they read, and open no office
abbrev pub audit_words : Words
audit_words = alone (codes "audit") Audit

abbrev pub recount_words : Words
recount_words = alone (codes "recount") Recount

abbrev pub odds_words : Words
odds_words = alone (codes "odds") Odds

abbrev pub county_words : Words
county_words = alone (codes "county") County

abbrev pub reports : List Words
reports = audit_words ∷ recount_words ∷ odds_words ∷ county_words ∷ []

-- the words of each command
unfoldable pub commands : List Words
commands =
    audit_words
    ∷ alone (codes "init") Init
    ∷ alone (codes "sheet") Sheet
    ∷ alone (codes "do") Do
    ∷ alone (codes "record") Record
    ∷ alone (codes "scans") Scans
    ∷ alone (codes "openings") Openings
    ∷ recount_words
    ∷ odds_words
    ∷ county_words
    ∷ with_two (codes "serve") port_range count_range (λ port count. option_map Serve (service_in port count))
    ∷ with_two (codes "sample") seed_range ballots_range (λ seed ballots. option_map Sample (sample_in seed ballots))
    ∷ []

-- the command that the words behind a name ask for
abbrev pub asked_behind : Behind → List (List ℕ) → Option Command
asked_behind (no_more command) [] = Some command
asked_behind (no_more command) (word ∷ words) = None
asked_behind (two_more first second asked) [] = None
asked_behind (two_more first second asked) (left ∷ []) = None
asked_behind (two_more first second asked) (left ∷ right ∷ []) = asked left right
asked_behind (two_more first second asked) (left ∷ right ∷ next ∷ words) = None

-- the command that a name and the words behind it ask for, by the first of these that has the name
abbrev pub asked_in : List Words → List ℕ → List (List ℕ) → Option Command
asked_in [] name words = None
asked_in (form ∷ forms) name words = (if bytes_eq name form.name then asked_behind form.behind words else asked_in forms name words)

-- the command of the words: none where they are no command's
abbrev pub command_in : List (List ℕ) → Option Command
command_in [] = None
command_in (name ∷ words) = asked_in commands name words

-- whether nobody waits for a line of a command's output before the command ends
abbrev pub may_hold_output : Command → Bool
may_hold_output Init = false
may_hold_output Do = false
may_hold_output (Serve asked) = false
may_hold_output Scans = false
may_hold_output _ = true

-- the numbers that a command carries are in their bounds
abbrev pub IsSized : Command → Type 0
IsSized (Serve asked) = IsService asked
IsSized (Sample asked) = (1 ≤ asked.ballots) × (asked.ballots ≤ 9000)
IsSized _ = Unit {0}
