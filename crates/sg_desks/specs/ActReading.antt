-- How the text of an act is read: its words are cut at single spaces, the first word names the form, and each further
-- word is read by its kind. That this reads each act of the version from its one text, and nothing else, are the laws
-- of `Laws`.
use Rattle.std.specs.Prelude.{ℕ, ◌==◌, if◌then◌else◌, List, [], ◌∷◌, length, bytes_eq, codes, Option, None, Some}
use Rattle.std.specs.Option.{option_map, option_and_then}
use Rattle.sg_plan.specs.declared.plan.Draw.{Draw}
use Rattle.sg_plan.specs.declared.plan.Draw.TheVariants as draw
use Rattle.sg_plan.specs.declared.plan.Mark.{Mark}
use Rattle.sg_lines.specs.Parts.{parts_of}
use Rattle.sg_lines.specs.Words.{code_of, decimal_of, hex_of}
use Rattle.sg_forms.specs.Reading.{all_by, words_in}
use Rattle.sg_acts.specs.declared.asks.Act.{Act}
use Rattle.sg_acts.specs.declared.asks.Act.TheVariants as act

-- WORDS

abbrev pub mark_by : List (List ℕ) → Option Mark
mark_by [] = None
mark_by (race ∷ []) = None
mark_by (race ∷ candidate ∷ []) = option_and_then (λ r. option_map (λ c. record { race = r; candidate = c }) (decimal_of candidate)) (decimal_of race)
mark_by (race ∷ candidate ∷ other ∷ words) = None

-- two numbers with a colon between them
unfoldable pub mark_of : List ℕ → Option Mark
mark_of word = mark_by (parts_of 58 word)

-- codes with commas between them; an empty word has none
unfoldable pub list_of : ℕ → List ℕ → Option (List ℕ)
list_of version word = if length word == 0 then Some [] else all_by (code_of version) (parts_of 44 word)

-- `full`, or the digits of bytes
unfoldable pub drawn_of : List ℕ → Option Draw
drawn_of word = if bytes_eq word (codes "full") then Some draw.Full else option_map draw.Public (hex_of word)

-- FORMS

-- one word
abbrev pub one_by : {A : Type 0} → (A → Act) → (List ℕ → Option A) → List (List ℕ) → Option Act
one_by form read [] = None
one_by form read (word ∷ []) = option_map form (read word)
one_by form read (word ∷ other ∷ words) = None

-- a ballot, and a word for each item
abbrev pub list_by : {A : Type 0} → (ℕ → List A → Act) → (List ℕ → Option A) → List (List ℕ) → Option Act
list_by form read [] = None
list_by form read (ballot ∷ words) = option_and_then (λ b. option_map (form b) (all_by read words)) (decimal_of ballot)

abbrev pub close_by : List (List ℕ) → Option Act
close_by [] = Some act.Close
close_by (word ∷ words) = None

abbrev pub claim_by : ℕ → List (List ℕ) → Option Act
claim_by version [] = None
claim_by version (ballot ∷ []) = None
claim_by version (ballot ∷ race ∷ []) = None
claim_by version (ballot ∷ race ∷ code ∷ []) = option_and_then (λ b. option_and_then (λ r. option_map (act.Claim b r) (code_of version code)) (decimal_of race)) (decimal_of ballot)
claim_by version (ballot ∷ race ∷ code ∷ other ∷ words) = None

-- the act by its first word
abbrev pub form_of : ℕ → List (List ℕ) → Option Act
form_of version [] = None
form_of version (first ∷ words) =
    if bytes_eq first (codes "scan") then list_by act.Scan mark_of words
    else (if bytes_eq first (codes "spoil") then one_by act.Spoil decimal_of words
    else (if bytes_eq first (codes "audit") then list_by act.Audit (list_of version) words
    else (if bytes_eq first (codes "close") then close_by words
    else (if bytes_eq first (codes "draw") then one_by act.Draw drawn_of words
    else (if bytes_eq first (codes "claim") then claim_by version words
    else (if bytes_eq first (codes "void") then one_by act.Void decimal_of words else None))))))

-- the act that the text is read as
unfoldable pub act_in : ℕ → List ℕ → Option Act
act_in version text = form_of version (words_in text)
