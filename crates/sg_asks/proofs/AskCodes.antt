-- Every code of an ask is a code of the version.
use Rattle.std.proofs.Common.{◌≡◌, ℕ, ◌<◌, Bool, true, false, List, [], ◌∷◌, All, Option, Some, None, Result, Ok, Err, IfOk, option_map, codes, refl, sym, subst}
use Rattle.std.specs.Prelude.{if◌then◌else◌}
use Rattle.std.specs.Option.{option_and_then}
use Rattle.std.proofs.lemmas.List.Elements.{All-cons, All-nil}
use Rattle.serde_json.specs.Data.{Data, Items, no_items, item}
use Rattle.serde_json.specs.Find.{as_array, as_str, get}
use Rattle.sg_plan.specs.Codes.{codes_of}
use Rattle.sg_plan.specs.declared.plan.Mark.{Mark}
use Rattle.sg_lines.specs.Words.{code_of}
use Rattle.sg_lines.proofs.Signs.{codes_are_spelled}
use Rattle.sg_acts.specs.declared.asks.Act.{Act}
use Rattle.sg_acts.specs.declared.asks.Act.TheVariants as act
use Rattle.sg_acts.specs.declared.asks.Ask.{Ask}
use Rattle.sg_acts.specs.declared.asks.Ask.TheVariants.{Do, See}
use Rattle.sg_acts.specs.declared.asks.Look.{Look}
use Rattle.sg_acts.specs.declared.asks.Look.TheVariants as look
use Rattle.sg_acts.specs.declared.asks.Stamp.{Stamp}
use Rattle.sg_asks.specs.Json.{json_of}
use Rattle.sg_asks.specs.Members.{all_three, both, code_in, each_by, has_members, list_by, member_by, number_in}
use Rattle.sg_asks.specs.Asks.{IsAsked, ask_in, ask_of_form, ask_read, ask_to_do, ask_to_see, asked, audit_in, ballot_in, claim_in, codes_in, draw_in, form_in, mark_in, or_shape, paper_in, scan_in, stamp_in}
use Rattle.sg_asks.specs.declared.forms.Form.{Form}
use Rattle.sg_asks.specs.declared.forms.Form.TheVariants as form
use Rattle.sg_asks.specs.Codes.{HasActCodes, HasCodes}
use Rattle.sg_asks.specs.declared.asks.AskFault.{AskFault}

-- ---- lists

item-all : {A : Type 0} (P : A → Type 0) (list : List A) (first : Option A) (others : Option (List A)) → ((a : A) → first ≡ Some a → P a) → ((list : List A) → others ≡ Some list → All P list)
    → option_and_then (λ a. option_map (λ l. a ∷ l) others) first ≡ Some list → All P list
item-all P list None others here there e = cc
item-all P list (Some a) None here there e = cc
item-all P list (Some a) (Some rest) here there e = let same : a ∷ rest ≡ list = cc in subst (All P) same (All-cons P a rest (here a refl) (there rest refl))

each-all : {A : Type 0} (P : A → Type 0) (read : Data → Option A) → ((d : Data) (a : A) → read d ≡ Some a → P a) → (items : Items) (list : List A) → each_by read items ≡ Some list → All P list
each-all P read each no_items list e = let same : [] ≡ list = cc in subst (All P) same (All-nil P)
each-all P read each (item d ds) list e = item-all P list (read d) (each_by read ds) (each d) (each-all P read each ds) e

list-all : {A : Type 0} (P : A → Type 0) (read : Data → Option A) → ((d : Data) (a : A) → read d ≡ Some a → P a) → (found : Option Items) (list : List A) → option_and_then (each_by read) found ≡ Some list → All P list
list-all P read each None list e = cc
list-all P read each (Some items) list e = each-all P read each items list e

-- ---- kinds

text-code : (version : ℕ) (text : Option (List ℕ)) (code : ℕ) → option_and_then (code_of version) text ≡ Some code → code < codes_of version
text-code version None code e = cc
text-code version (Some text) code e = (codes_are_spelled version text code e).0

in-code : (version : ℕ) (d : Data) (code : ℕ) → code_in version d ≡ Some code → code < codes_of version
unfolding code_in
in-code version d code e = text-code version (as_str d) code e

in-codes : (version : ℕ) (d : Data) (list : List ℕ) → codes_in version d ≡ Some list → All (λ code. code < codes_of version) list
unfolding codes_in
in-codes version d list e = list-all (λ code. code < codes_of version) (code_in version) (in-code version) (as_array d) list e

in-paper : (version : ℕ) (d : Data) (paper : List (List ℕ)) → paper_in version d ≡ Some paper → All (All (λ code. code < codes_of version)) paper
unfolding paper_in
in-paper version d paper e = list-all (All (λ code. code < codes_of version)) (codes_in version) (in-codes version) (as_array d) paper e

member-is : {A : Type 0} (P : A → Type 0) (read : Data → Option A) → ((d : Data) (a : A) → read d ≡ Some a → P a) → (found : Option Data) (a : A) → option_and_then read found ≡ Some a → P a
member-is P read each None a e = cc
member-is P read each (Some d) a e = each d a e

-- ---- acts

audit-codes : (version : ℕ) (ballot : Option ℕ) (paper : Option (List (List ℕ))) (a : Act) → ((p : List (List ℕ)) → paper ≡ Some p → All (All (λ code. code < codes_of version)) p)
    → both act.Audit ballot paper ≡ Some a → HasActCodes version a
audit-codes version None paper a are e = cc
audit-codes version (Some b) None a are e = cc
audit-codes version (Some b) (Some p) a are e = let same : act.Audit b p ≡ a = cc in subst (HasActCodes version) same (are p refl)

claim-codes : (version : ℕ) (ballot race code : Option ℕ) (a : Act) → ((c : ℕ) → code ≡ Some c → c < codes_of version)
    → all_three act.Claim ballot race code ≡ Some a → HasActCodes version a
claim-codes version None race code a is e = cc
claim-codes version (Some b) None code a is e = cc
claim-codes version (Some b) (Some r) None a is e = cc
claim-codes version (Some b) (Some r) (Some c) a is e = let same : act.Claim b r c ≡ a = cc in subst (HasActCodes version) same (is c refl)

scan-codes : (version : ℕ) (ballot : Option ℕ) (marks : Option (List Mark)) (a : Act) → both act.Scan ballot marks ≡ Some a → HasActCodes version a
scan-codes version None marks a e = cc
scan-codes version (Some b) None a e = cc
scan-codes version (Some b) (Some m) a e = let same : act.Scan b m ≡ a = cc in subst (HasActCodes version) same tt

-- ---- forms

-- an ask is made of an act whose codes are codes
do-codes : (version : ℕ) (test : Bool) (stamp : Option Stamp) (a : Act) (ask : Ask) → HasActCodes version a → (if test then option_map (λ stamp. Do stamp a) stamp else None) ≡ Some ask → HasCodes version ask
do-codes version false stamp a ask are e = cc
do-codes version true None a ask are e = cc
do-codes version true (Some s) a ask are e = let same : Do s a ≡ ask = cc in subst (HasCodes version) same are

-- a look has no code
see-codes : (version : ℕ) (test : Bool) (l : Look) (ask : Ask) → (if test then Some (See l) else None) ≡ Some ask → HasCodes version ask
see-codes version false l ask e = cc
see-codes version true l ask e = let same : See l ≡ ask = cc in subst (HasCodes version) same tt

-- what holds of each ask that is made of what was found holds of the ask
then-codes : {A : Type 0} (version : ℕ) (make : A → Option Ask) (found : Option A) (ask : Ask) → ((a : A) → found ≡ Some a → make a ≡ Some ask → HasCodes version ask)
    → option_and_then make found ≡ Some ask → HasCodes version ask
then-codes version make None ask each e = cc
then-codes version make (Some a) ask each e = each a refl e

form-codes : (version : ℕ) (value : Data) (form : Form) (ask : Ask) → ask_of_form version value form ≡ Some ask → HasCodes version ask
unfolding ask_of_form
form-codes version value form.Scan ask e =
    then-codes version (ask_to_do 6 value) (scan_in value) ask
    (λ a is made. do-codes version (has_members 6 value) (stamp_in value) a ask (scan-codes version (ballot_in value) (member_by (list_by mark_in) (codes "marks") value) a is) made) e
form-codes version value form.Spoil ask e =
    then-codes version (λ ballot. ask_to_do 5 value (act.Spoil ballot)) (ballot_in value) ask (λ b is made. do-codes version (has_members 5 value) (stamp_in value) (act.Spoil b) ask tt made) e
form-codes version value form.Void ask e =
    then-codes version (λ ballot. ask_to_do 5 value (act.Void ballot)) (ballot_in value) ask (λ b is made. do-codes version (has_members 5 value) (stamp_in value) (act.Void b) ask tt made) e
form-codes version value form.Audit ask e =
    then-codes version (ask_to_do 6 value) (audit_in version value) ask
    (λ a is made. do-codes version (has_members 6 value) (stamp_in value) a ask
    (audit-codes version (ballot_in value) (member_by (paper_in version) (codes "paper") value) a (member-is (All (All (λ code. code < codes_of version))) (paper_in version) (in-paper version) (get (codes "paper") value)) is) made) e
form-codes version value form.Close ask e = do-codes version (has_members 4 value) (stamp_in value) act.Close ask tt e
form-codes version value form.Draw ask e =
    then-codes version (λ draw. ask_to_do 5 value (act.Draw draw)) (member_by draw_in (codes "draw") value) ask (λ d is made. do-codes version (has_members 5 value) (stamp_in value) (act.Draw d) ask tt made) e
form-codes version value form.Claim ask e =
    then-codes version (ask_to_do 7 value) (claim_in version value) ask
    (λ a is made. do-codes version (has_members 7 value) (stamp_in value) a ask
    (claim-codes version (ballot_in value) (member_by number_in (codes "race") value) (member_by (code_in version) (codes "code") value) a (member-is (λ code. code < codes_of version) (code_in version) (in-code version) (get (codes "code") value)) is) made) e
form-codes version value form.Receipt ask e =
    then-codes version (λ ballot. ask_to_see 2 value (look.Receipt ballot)) (ballot_in value) ask (λ b is made. see-codes version (has_members 2 value) (look.Receipt b) ask made) e
form-codes version value form.Totals ask e = see-codes version (has_members 1 value) look.Totals ask e

value-codes : (version : ℕ) (value : Data) (ask : Ask) → ask_in version value ≡ Some ask → HasCodes version ask
unfolding ask_in
value-codes version value ask e = then-codes version (ask_of_form version value) (form_in value) ask (λ form is made. form-codes version value form ask made) e

shape-codes : (version : ℕ) (found : Option Ask) (ask : Ask) → ((a : Ask) → found ≡ Some a → HasCodes version a) → or_shape found ≡ Ok ask → HasCodes version ask
shape-codes version None ask are e = cc
shape-codes version (Some a) ask are e = let same : a ≡ ask = cc in subst (HasCodes version) same (are a refl)

read-codes : (version : ℕ) (value : Option Data) (ask : Ask) → ask_read version value ≡ Ok ask → HasCodes version ask
read-codes version None ask e = cc
read-codes version (Some value) ask e = shape-codes version (ask_in version value) ask (value-codes version value) e

asked-codes : (version : ℕ) (bytes : List ℕ) (ask : Ask) → asked version bytes ≡ Ok ask → HasCodes version ask
unfolding asked
asked-codes version bytes ask e = read-codes version (json_of bytes) ask e

-- what is asked has codes of the version alone
pub said_codes : (version : ℕ) (bytes : List ℕ) (result : Result Ask AskFault) → IsAsked result (asked version bytes) → IfOk result (HasCodes version)
said_codes version bytes (Ok ask) said = asked-codes version bytes ask (sym said)
said_codes version bytes (Err error) said = tt
