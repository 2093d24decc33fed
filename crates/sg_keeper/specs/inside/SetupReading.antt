-- How the text of a setup is read: line by line, those of a plan as long as they may stand, then the seed and the
-- secrets. That this reads each setup from its one text, and nothing else, say the clauses of `Setup::read`.
use Rattle.std.specs.Prelude.{ℕ, ◌==◌, if◌then◌else◌, List, [], ◌∷◌, length, take, drop, Option, None, Some, option_and_then}
use Rattle.std.specs.Option.{option_map_or}
use Rattle.std.specs.Result.{result_unwrap_or}
use Rattle.sg_plan.specs.Limits.{most_stations}
use Rattle.sg_outside.specs.TextLines.{lines_of}
use Rattle.sg_plan.specs.declared.plan.Plan.{Plan}
use Rattle.sg_lines.specs.Words.{decode_of, where_spelled}
use Rattle.sg_forms.specs.Reading.{all_by, is_few, line_of}
use Rattle.sg_grammar.specs.Head.{Making, has_runs, head_line, made, no_plan}
use Rattle.sg_grammar.specs.declared.state.Head.TheVariants as head
use Rattle.sg_keeper.specs.SetupText.{secret_line, seed_line}
use Rattle.sg_keeper.specs.declared.setup.Setup.{Setup}

-- THE PLAN

-- the plan of the lines so far, and the lines that are left
pub record PlanRead : Type 0 where
  pub so_far : Making
  pub left : List (List ℕ)

abbrev pub no_line : Making
no_line = made no_plan head.Version

-- with one more line of these bytes, where it may stand
abbrev pub with_line : Making → List ℕ → Option Making
with_line so_far bytes = option_and_then (head_line so_far.plan so_far.head) (line_of so_far.plan.version bytes)

-- with the first of these lines, as long as they may stand
unfoldable pub read_plan : Making → List (List ℕ) → PlanRead
read_plan so_far [] = record { so_far = so_far; left = [] }
read_plan so_far (bytes ∷ lines) = option_map_or (λ more. read_plan more lines) (with_line so_far bytes) (record { so_far = so_far; left = bytes ∷ lines })

-- THE SEED AND THE SECRETS

-- the bytes of so many digits behind so many bytes of a line
abbrev pub bytes_at : ℕ → ℕ → List ℕ → List ℕ
bytes_at from count line = result_unwrap_or (decode_of (take count (drop from line))) []

unfoldable pub seed_of : List ℕ → Option (List ℕ)
seed_of line = let seed = bytes_at 5 64 line in where_spelled seed_line line seed (length seed == 32)

unfoldable pub secret_of : List ℕ → Option (List ℕ)
secret_of line = let secret = bytes_at 7 32 line in where_spelled secret_line line secret (length secret == 16)

-- THE WHOLE

abbrev pub with_secrets : Plan → List ℕ → List (List ℕ) → Option Setup
with_secrets plan seed secrets = if is_few most_stations secrets then Some (record { plan = plan; seed = record { 0 = seed }; secrets = secrets }) else None

-- the setup of a plan, whose other lines are these
abbrev pub behind_plan : Plan → List (List ℕ) → Option Setup
behind_plan plan [] = None
behind_plan plan (first ∷ lines) = option_and_then (λ seed. option_and_then (with_secrets plan seed) (all_by secret_of lines)) (seed_of first)

abbrev pub setup_by : PlanRead → Option Setup
setup_by read = if has_runs read.so_far.head then behind_plan read.so_far.plan read.left else None

-- the setup that the text is read as
unfoldable pub setup_in : List ℕ → Option Setup
setup_in text = setup_by (read_plan no_line (lines_of text))
