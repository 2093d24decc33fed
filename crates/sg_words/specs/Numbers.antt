-- The numbers that stand behind a command's name, and what two of them ask for (this project's command line).
use Rattle.std.specs.Option.{option_and_then, option_map}
use Rattle.std.specs.Prelude.{ℕ, ◌≤◌, nat_le, ◌&&◌, if◌then◌else◌, List, codes, Option, Some, None}
use Rattle.sg_lines.specs.Words.{decimal_of}
use Rattle.sg_words.specs.declared.sample.Sample.{Sample}
use Rattle.sg_words.specs.declared.service.Service.{Service}

-- what a number is called, and the least and the most that it may be
pub record Range : Type 0 where
  pub name : List ℕ
  pub least : ℕ
  pub most : ℕ

abbrev pub range : List ℕ → ℕ → ℕ → Range
range name least most = record { name = name; least = least; most = most }

-- the number in this range that a word is, in decimal digits without a sign or a leading zero
abbrev pub number_in : Range → List ℕ → Option ℕ
number_in range word = option_and_then (λ n. if nat_le range.least n && nat_le n range.most then Some n else None) (decimal_of word)

-- what two words ask for, where each is a number in its range
abbrev pub pair_in : {X : Type 0} → Range → Range → (ℕ → ℕ → X) → List ℕ → List ℕ → Option X
pair_in first second made left right = option_and_then (λ n. option_map (made n) (number_in second right)) (number_in first left)

-- WHERE CONNECTIONS ARE TAKEN, AND HOW MANY

abbrev pub port_range : Range
port_range = range (codes "PORT") 1 65535

abbrev pub count_range : Range
count_range = range (codes "COUNT") 1 1000000

abbrev pub service_with : ℕ → ℕ → Service
service_with port count = record { port = port; count = count }

-- the service that two words ask for
abbrev pub service_in : List ℕ → List ℕ → Option Service
service_in = pair_in port_range count_range service_with

-- the bounds of both
abbrev pub IsService : Service → Type 0
IsService service = (1 ≤ service.port) × (service.port ≤ 65535) × (1 ≤ service.count) × (service.count ≤ 1000000)

-- WHAT A SAMPLE IS MADE FROM

abbrev pub seed_range : Range
seed_range = range (codes "SEED") 0 4294967295

abbrev pub ballots_range : Range
ballots_range = range (codes "BALLOTS") 1 9000

abbrev pub sample_with : ℕ → ℕ → Sample
sample_with seed ballots = record { seed = seed; ballots = ballots }

-- the sample that two words ask for
abbrev pub sample_in : List ℕ → List ℕ → Option Sample
sample_in = pair_in seed_range ballots_range sample_with
