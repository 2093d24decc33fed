-- The election file as JSON.
use Rattle.std.specs.Prelude.{◌≡◌, ℕ, nat_le, ◌&&◌, if◌then◌else◌, List, length, codes, Option, None, Some, Result, Ok, Err}
use Rattle.std.specs.Option.{option_map, option_and_then}
use Rattle.serde_json.specs.Data.{Data}
use Rattle.serde_json.specs.Find.{as_str}
use Rattle.sg_plan.specs.declared.plan.Plan.{Plan}
use Rattle.sg_plan.specs.declared.plan.Race.{Race}
use Rattle.sg_plan.specs.declared.plan.Style.{Style}
use Rattle.sg_plan.specs.declared.plan.Run.{Run}
use Rattle.sg_plan.specs.declared.limits.PlanFault.{PlanFault}
use Rattle.sg_plan.specs.Limits.{fault_of, most_stations}
use Rattle.sg_lines.specs.Words.{digest_of}
use Rattle.sg_streams.specs.declared.Seed.{Seed}
use Rattle.sg_keeper.specs.declared.setup.Setup.{Setup}
use Rattle.sg_asks.specs.Json.{json_of}
use Rattle.sg_asks.specs.Members.{all_three, both, list_by, member_by, number_in, secret_in, text_in, where_has}
use Rattle.sg_asks.specs.declared.setups.SetupFault.{SetupFault}
use Rattle.sg_asks.specs.declared.setups.SetupFault.TheVariants as fault

-- ---- the parts of a plan

-- the name of the election, of a race or of a style
abbrev pub name_in : Data → Option (List ℕ)
name_in = member_by text_in (codes "name")

-- a race: its name, its candidates, and how many votes a ballot has in it
unfoldable pub race_in : Data → Option Race
race_in value =
    where_has 3 value (all_three (λ name candidates votes. record { name = name; candidates = candidates; votes = votes })
    (name_in value) (member_by (list_by text_in) (codes "candidates") value) (member_by number_in (codes "votes") value))

-- a style: its name, and the numbers of its races
unfoldable pub style_in : Data → Option Style
style_in value =
    where_has 2 value (both (λ name races. record { name = name; races = races }) (name_in value) (member_by (list_by number_in) (codes "races") value))

-- a run: the number of its style, and how many ballots it has
unfoldable pub run_in : Data → Option Run
run_in value =
    where_has 2 value (both (λ style count. record { style = style; count = count }) (member_by number_in (codes "style") value) (member_by number_in (codes "ballots") value))

-- the plan with these first members, and with its lists
abbrev pub with_lists : Data → ℕ → List ℕ → ℕ → Option Plan
with_lists value version name instances =
    all_three (λ races styles runs. record { version = version; name = name; instances = instances; races = races; styles = styles; runs = runs })
    (member_by (list_by race_in) (codes "races") value) (member_by (list_by style_in) (codes "styles") value) (member_by (list_by run_in) (codes "runs") value)

-- a plan: its version, its name, its instances, its races, its styles and its runs
unfoldable pub plan_in : Data → Option Plan
plan_in value =
    where_has 6 value (option_and_then (λ version. option_and_then (λ name. option_and_then (with_lists value version name)
    (member_by number_in (codes "instances") value)) (name_in value)) (member_by number_in (codes "version") value))

-- ---- the file

-- a text of 64 lower-case hexadecimal digits, read as the 32 bytes of a seed
unfoldable pub seed_in : Data → Option Seed
seed_in value = option_map (λ bytes. record { 0 = bytes }) (option_and_then digest_of (as_str value))

-- the plan, the seed and the secret of each station, whatever their values
unfoldable pub file_in : Data → Option Setup
file_in value =
    where_has 3 value (all_three (λ plan seed secrets. record { plan = plan; seed = seed; secrets = secrets })
    (member_by plan_in (codes "plan") value) (member_by seed_in (codes "seed") value) (member_by (list_by secret_in) (codes "secrets") value))

-- ---- the faults, in their order

-- there are 1 to 32 stations
abbrev pub with_secrets : Setup → Result Setup SetupFault
with_secrets setup = if nat_le 1 (length setup.secrets) && nat_le (length setup.secrets) most_stations then Ok setup else Err fault.Secrets

-- the plan keeps its limits
abbrev pub with_plan : Option PlanFault → Setup → Result Setup SetupFault
with_plan (Some broken) setup = Err (fault.Plan broken)
with_plan None setup = with_secrets setup

-- the value has the form of an election file
abbrev pub with_shape : Option Setup → Result Setup SetupFault
with_shape None = Err fault.Shape
with_shape (Some setup) = with_plan (fault_of setup.plan) setup

-- the bytes are JSON
abbrev pub with_json : Option Data → Result Setup SetupFault
with_json None = Err fault.NotJson
with_json (Some value) = with_shape (file_in value)

-- the setup that bytes are, or the first fault
unfoldable pub setup_in : List ℕ → Result Setup SetupFault
setup_in bytes = with_json (json_of bytes)

-- the answer is this one, or memory was wanted
abbrev pub IsSetup : Result Setup SetupFault → Result Setup SetupFault → Type 0
IsSetup (Err fault.NoMemory) said = Unit {0}
IsSetup result said = result ≡ said
