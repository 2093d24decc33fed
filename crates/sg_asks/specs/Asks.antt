-- The nine forms of an ask as JSON.
use Rattle.std.specs.Prelude.{◌≡◌, ℕ, if◌then◌else◌, List, bytes_eq, codes, Option, None, Some, Result, Ok, Err}
use Rattle.std.specs.Option.{option_map, option_and_then}
use Rattle.serde_json.specs.Data.{Data, Items, no_items, item}
use Rattle.serde_json.specs.Find.{as_array, as_str}
use Rattle.sg_lines.specs.Words.{hex_of}
use Rattle.sg_plan.specs.declared.plan.Mark.{Mark}
use Rattle.sg_plan.specs.declared.plan.Draw.{Draw}
use Rattle.sg_plan.specs.declared.plan.Draw.TheVariants.{Full, Public}
use Rattle.sg_acts.specs.declared.asks.Stamp.{Stamp}
use Rattle.sg_acts.specs.declared.asks.Act.{Act}
use Rattle.sg_acts.specs.declared.asks.Act.TheVariants as act
use Rattle.sg_acts.specs.declared.asks.Look.{Look}
use Rattle.sg_acts.specs.declared.asks.Look.TheVariants as look
use Rattle.sg_acts.specs.declared.asks.Ask.{Ask}
use Rattle.sg_acts.specs.declared.asks.Ask.TheVariants.{Do, See}
use Rattle.sg_asks.specs.Json.{json_of}
use Rattle.sg_asks.specs.Members.{all_three, both, code_in, list_by, member_by, number_in, secret_in, text_in, where_has}
use Rattle.sg_asks.specs.declared.forms.Form.{Form}
use Rattle.sg_asks.specs.declared.forms.Form.TheVariants as form
use Rattle.sg_asks.specs.declared.asks.AskFault.{AskFault}
use Rattle.sg_asks.specs.declared.asks.AskFault.TheVariants as fault

-- ---- members

-- the number of the ballot that an ask names
abbrev pub ballot_in : Data → Option ℕ
ballot_in = member_by number_in (codes "ballot")

-- a mark is a list of exactly two numbers, a race and a candidate
abbrev pub pair_in : Items → Option Mark
pair_in no_items = None
pair_in (item race no_items) = None
pair_in (item race (item candidate no_items)) = both (λ race candidate. record { race = race; candidate = candidate }) (number_in race) (number_in candidate)
pair_in (item race (item candidate (item more items))) = None

-- a mark
unfoldable pub mark_in : Data → Option Mark
mark_in value = option_and_then pair_in (as_array value)

-- a list of codes, as a paper has for one race
unfoldable pub codes_in : ℕ → Data → Option (List ℕ)
codes_in version = list_by (code_in version)

-- a paper is a list of lists of codes
unfoldable pub paper_in : ℕ → Data → Option (List (List ℕ))
paper_in version = list_by (codes_in version)

-- a draw is `full`, or lower-case hexadecimal digits, an even number of them, for the public bytes
abbrev pub draw_of_text : List ℕ → Option Draw
draw_of_text text = if bytes_eq text (codes "full") then Some Full else option_map Public (hex_of text)

-- a draw
unfoldable pub draw_in : Data → Option Draw
draw_in value = option_and_then draw_of_text (as_str value)

-- who asks: the station, its secret, and the number that it gives the act
unfoldable pub stamp_in : Data → Option Stamp
stamp_in value =
    all_three (λ station secret number. record { station = station; secret = secret; number = number })
    (member_by number_in (codes "station") value) (member_by secret_in (codes "secret") value) (member_by number_in (codes "ref") value)

-- ---- forms

-- a scan: the ballot and its marks
abbrev pub scan_in : Data → Option Act
scan_in value = both act.Scan (ballot_in value) (member_by (list_by mark_in) (codes "marks") value)

-- an audit: the ballot and its paper
abbrev pub audit_in : ℕ → Data → Option Act
audit_in version value = both act.Audit (ballot_in value) (member_by (paper_in version) (codes "paper") value)

-- a claim: the ballot, the race and the code
abbrev pub claim_in : ℕ → Data → Option Act
claim_in version value = all_three act.Claim (ballot_in value) (member_by number_in (codes "race") value) (member_by (code_in version) (codes "code") value)

-- the ask for an act, in an object of so many members: `ask`, `station`, `secret`, `ref` and those of the act
abbrev pub ask_to_do : ℕ → Data → Act → Option Ask
ask_to_do count value act = where_has count value (option_map (λ stamp. Do stamp act) (stamp_in value))

-- the ask for a look, in an object of so many members: `ask` and those of the look
abbrev pub ask_to_see : ℕ → Data → Look → Option Ask
ask_to_see count value look = where_has count value (Some (See look))

-- what an ask of that form says
unfoldable pub ask_of_form : ℕ → Data → Form → Option Ask
ask_of_form version value form.Scan = option_and_then (ask_to_do 6 value) (scan_in value)
ask_of_form version value form.Spoil = option_and_then (λ ballot. ask_to_do 5 value (act.Spoil ballot)) (ballot_in value)
ask_of_form version value form.Void = option_and_then (λ ballot. ask_to_do 5 value (act.Void ballot)) (ballot_in value)
ask_of_form version value form.Audit = option_and_then (ask_to_do 6 value) (audit_in version value)
ask_of_form version value form.Close = ask_to_do 4 value act.Close
ask_of_form version value form.Draw = option_and_then (λ draw. ask_to_do 5 value (act.Draw draw)) (member_by draw_in (codes "draw") value)
ask_of_form version value form.Claim = option_and_then (ask_to_do 7 value) (claim_in version value)
ask_of_form version value form.Receipt = option_and_then (λ ballot. ask_to_see 2 value (look.Receipt ballot)) (ballot_in value)
ask_of_form version value form.Totals = ask_to_see 1 value look.Totals

-- the form of that name
unfoldable pub form_named : List ℕ → Option Form
form_named name =
    if bytes_eq name (codes "scan") then Some form.Scan
    else (if bytes_eq name (codes "spoil") then Some form.Spoil
    else (if bytes_eq name (codes "void") then Some form.Void
    else (if bytes_eq name (codes "audit") then Some form.Audit
    else (if bytes_eq name (codes "close") then Some form.Close
    else (if bytes_eq name (codes "draw") then Some form.Draw
    else (if bytes_eq name (codes "claim") then Some form.Claim
    else (if bytes_eq name (codes "receipt") then Some form.Receipt
    else (if bytes_eq name (codes "totals") then Some form.Totals
    else None))))))))

-- the form that an object's member `ask` names
unfoldable pub form_in : Data → Option Form
form_in value = option_and_then form_named (member_by text_in (codes "ask") value)

-- the ask that a JSON value is
unfoldable pub ask_in : ℕ → Data → Option Ask
ask_in version value = option_and_then (ask_of_form version value) (form_in value)

-- ---- bytes

-- a value that is no ask has the wrong shape
abbrev pub or_shape : Option Ask → Result Ask AskFault
or_shape None = Err fault.Shape
or_shape (Some ask) = Ok ask

-- the ask that a reading is, or why it is none
abbrev pub ask_read : ℕ → Option Data → Result Ask AskFault
ask_read version None = Err fault.NotJson
ask_read version (Some value) = or_shape (ask_in version value)

-- the ask that bytes are, or why they are none
unfoldable pub asked : ℕ → List ℕ → Result Ask AskFault
asked version bytes = ask_read version (json_of bytes)

-- the answer is this one, or memory was wanted
abbrev pub IsAsked : Result Ask AskFault → Result Ask AskFault → Type 0
IsAsked (Err fault.NoMemory) said = Unit {0}
IsAsked result said = result ≡ said
