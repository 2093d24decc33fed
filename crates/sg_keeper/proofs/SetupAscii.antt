-- The text of each setup is ASCII.
use Rattle.std.proofs.Common.{◌≡◌, ◌⊎◌, inl, inr, ℕ, ◌<◌, ◌≤◌, nat_le, nat_lt, Bool, true, false, ◌&&◌, ◌||◌, List, [], ◌∷◌, ◌++◌, All, map, codes, Result, Ok, Err, refl, sym, subst, arith}
use Rattle.std.specs.Prelude.{IfOk}
use Rattle.std.specs.List.{concat, flat_map, join_with_byte, list_all}
use Rattle.std.proofs.lemmas.Bool.{and_parts, leb-true, ltb-true}
use Rattle.std.proofs.lemmas.List.Elements.{All-append, All-cons, All-head, All-nil, All-tail, All-weaker}
use Rattle.std.proofs.lemmas.List.Sums.{AllPass-from_list_all}
use Rattle.sg_plan.specs.declared.memory.NoMemory.{NoMemory}
use Rattle.sg_plan.specs.Names.{IsName, IsNameByte}
use Rattle.sg_plan.specs.declared.plan.Plan.{Plan}
use Rattle.sg_plan.specs.declared.plan.Race.{Race as PlanRace}
use Rattle.sg_plan.specs.declared.plan.Run.{Run}
use Rattle.sg_plan.specs.declared.plan.Style.{Style as PlanStyle}
use Rattle.sg_lines.specs.Words.{decimal, encode_lower}
use Rattle.sg_lines.proofs.Numbers.{decimal-digits_only}
use Rattle.sg_forms.specs.Reading.{is_hex_sign}
use Rattle.sg_forms.specs.Said.{Said}
use Rattle.sg_forms.specs.Said.Said.{Ballots, Cand, Election, Instances, Race, Style, Version}
use Rattle.sg_forms.specs.Spelling.{AreBytes, IsInRange, IsNumber, spelling}
use Rattle.sg_forms.proofs.WordKinds.{hex_signs}
use Rattle.sg_record.proofs.Filling.{AreIn}
use Rattle.sg_record.specs.Lines.{plan_lines, race_lines, run_line, style_line}
use Rattle.sg_keeper.proofs.PlanRange.{plan_in}
use Rattle.sg_keeper.specs.Rows.{IsAscii}
use Rattle.sg_keeper.specs.Laws.{SetupsAreAscii}
use Rattle.sg_keeper.specs.SetupText.{IsMadeOfBytes, IsSetup, plan_texts, secret_line, seed_line, setup_text}
use Rattle.sg_keeper.specs.declared.setup.Setup.{Setup}

abbrev A : ℕ → Type 0
A byte = byte < 128

-- WORDS

pub literal_ascii : (word : List ℕ) → list_all (λ byte. nat_lt byte 128) word ≡ true → IsAscii word
literal_ascii word e = All-weaker (λ byte. nat_lt byte 128 ≡ true) A (λ byte small. ltb-true byte 128 small) word (AllPass-from_list_all (λ byte. nat_lt byte 128) word e)

pub number_ascii : (number : ℕ) → IsNumber number → IsAscii (decimal number)
number_ascii number fits = All-weaker (λ byte. (48 ≤ byte) × (byte ≤ 57)) A (λ byte digit. omega arith) (decimal number) (decimal-digits_only number fits)

name_ascii : (name : List ℕ) → IsName name → IsAscii name
name_ascii name fits = All-weaker IsNameByte A (λ byte seen. omega arith) name fits.2

sign_ascii_at : (byte : ℕ) (digit letter : Bool) → (digit ≡ true → byte ≤ 57) → (letter ≡ true → byte ≤ 102) → (digit || letter) ≡ true → byte < 128
sign_ascii_at byte true letter low high e = omega (arith, low refl)
sign_ascii_at byte false true low high e = omega (arith, high refl)
sign_ascii_at byte false false low high e = cc

sign_ascii : (byte : ℕ) → is_hex_sign byte ≡ true → byte < 128
sign_ascii byte e =
    sign_ascii_at byte (nat_le 48 byte && nat_le byte 57) (nat_le 97 byte && nat_le byte 102)
    (λ digit. leb-true byte 57 (and_parts (nat_le 48 byte) (nat_le byte 57) digit).1)
    (λ letter. leb-true byte 102 (and_parts (nat_le 97 byte) (nat_le byte 102) letter).1) e

pub hex_ascii : (bytes : List ℕ) → All (λ byte. byte < 256) bytes → IsAscii (encode_lower bytes)
hex_ascii bytes fit = All-weaker (λ byte. is_hex_sign byte ≡ true) A sign_ascii (encode_lower bytes) (AllPass-from_list_all is_hex_sign (encode_lower bytes) (hex_signs bytes fit))

-- LINES

abbrev pub AreAscii : List (List ℕ) → Type 0
AreAscii [] = Unit {0}
AreAscii (word ∷ words) = IsAscii word × AreAscii words

numbers_ascii : (numbers : List ℕ) → All IsNumber numbers → AreAscii (map decimal numbers)
numbers_ascii [] fit = tt
numbers_ascii (number ∷ numbers) fit = (number_ascii number (All-head IsNumber number numbers fit), numbers_ascii numbers (All-tail IsNumber number numbers fit))

joined_ascii : (words : List (List ℕ)) → AreAscii words → IsAscii (join_with_byte 32 words)
joined_ascii [] all = All-nil A
joined_ascii (word ∷ []) all = all.0
joined_ascii (word ∷ next ∷ words) all =
    All-append A word (32 ∷ join_with_byte 32 (next ∷ words)) all.0 (All-cons A 32 (join_with_byte 32 (next ∷ words)) (omega arith) (joined_ascii (next ∷ words) all.1))

line_ascii : (words : List (List ℕ)) → AreAscii words → IsAscii (join_with_byte 32 words ++ 10 ∷ [])
line_ascii words all = All-append A (join_with_byte 32 words) (10 ∷ []) (joined_ascii words all) (All-cons A 10 [] (omega arith) (All-nil A))

texts_ascii : (texts : List (List ℕ)) → AreAscii texts → IsAscii (concat texts)
texts_ascii [] all = All-nil A
texts_ascii (text ∷ texts) all = All-append A text (concat texts) all.0 (texts_ascii texts all.1)

ascii-append : (front back : List (List ℕ)) → AreAscii front → AreAscii back → AreAscii (front ++ back)
ascii-append [] back all more = more
ascii-append (text ∷ front) back all more = (all.0, ascii-append front back all.1 more)

-- the line is one of a plan
abbrev IsOfPlan : Said → Type 0
IsOfPlan (Version version) = Unit {0}
IsOfPlan (Election name) = Unit {0}
IsOfPlan (Instances instances) = Unit {0}
IsOfPlan (Race name candidates votes) = Unit {0}
IsOfPlan (Cand name) = Unit {0}
IsOfPlan (Style name races) = Unit {0}
IsOfPlan (Ballots style count) = Unit {0}
IsOfPlan said = ⊥

said_ascii : (version : ℕ) (said : Said) → IsOfPlan said → IsInRange version said → IsAscii (spelling version said)
said_ascii version (Version number) is fit = line_ascii (codes "scantegrity2" ∷ decimal number ∷ []) (literal_ascii (codes "scantegrity2") refl, (number_ascii number (below number fit), tt))
  where
    below : (n : ℕ) → (n ≡ 1) ⊎ (n ≡ 2) → IsNumber n
    below n (inl one) = omega (arith, one)
    below n (inr two) = omega (arith, two)
said_ascii version (Election name) is fit = line_ascii (codes "election" ∷ name ∷ []) (literal_ascii (codes "election") refl, (name_ascii name fit, tt))
said_ascii version (Instances instances) is fit = line_ascii (codes "instances" ∷ decimal instances ∷ []) (literal_ascii (codes "instances") refl, (number_ascii instances fit, tt))
said_ascii version (Race name candidates votes) is fit =
    line_ascii (codes "race" ∷ name ∷ decimal candidates ∷ decimal votes ∷ []) (literal_ascii (codes "race") refl, (name_ascii name fit.0, (number_ascii candidates fit.1, (number_ascii votes fit.2, tt))))
said_ascii version (Cand name) is fit = line_ascii (codes "cand" ∷ name ∷ []) (literal_ascii (codes "cand") refl, (name_ascii name fit, tt))
said_ascii version (Style name races) is fit = line_ascii (codes "style" ∷ name ∷ map decimal races) (literal_ascii (codes "style") refl, (name_ascii name fit.0, numbers_ascii races fit.1))
said_ascii version (Ballots style count) is fit =
    line_ascii (codes "ballots" ∷ decimal style ∷ decimal count ∷ []) (literal_ascii (codes "ballots") refl, (number_ascii style fit.0, (number_ascii count fit.1, tt)))
said_ascii version said is fit = absurd is

abbrev AreOfPlan : List Said → Type 0
AreOfPlan [] = Unit {0}
AreOfPlan (said ∷ lines) = IsOfPlan said × AreOfPlan lines

of_plan-append : (front back : List Said) → AreOfPlan front → AreOfPlan back → AreOfPlan (front ++ back)
of_plan-append [] back all more = more
of_plan-append (said ∷ front) back all more = (all.0, of_plan-append front back all.1 more)

cands_of_plan : (names : List (List ℕ)) → AreOfPlan (map Cand names)
cands_of_plan [] = tt
cands_of_plan (name ∷ names) = (tt, cands_of_plan names)

races_of_plan : (races : List PlanRace) → AreOfPlan (flat_map race_lines races)
races_of_plan [] = tt
races_of_plan (race ∷ races) = of_plan-append (race_lines race) (flat_map race_lines races) (tt, cands_of_plan race.candidates) (races_of_plan races)

styles_of_plan : (styles : List PlanStyle) → AreOfPlan (map style_line styles)
styles_of_plan [] = tt
styles_of_plan (style ∷ styles) = (tt, styles_of_plan styles)

runs_of_plan : (runs : List Run) → AreOfPlan (map run_line runs)
runs_of_plan [] = tt
runs_of_plan (run ∷ runs) = (tt, runs_of_plan runs)

lines_of_plan : (plan : Plan) → AreOfPlan (plan_lines plan)
lines_of_plan plan = (
  tt,
  (
    tt,
    (
      tt,
      of_plan-append (flat_map race_lines plan.races) (map style_line plan.styles ++ map run_line plan.runs) (races_of_plan plan.races)
          (of_plan-append (map style_line plan.styles) (map run_line plan.runs) (styles_of_plan plan.styles) (runs_of_plan plan.runs)),
    ),
  ),
)

lines_ascii : (version : ℕ) (lines : List Said) → AreOfPlan lines → AreIn version lines → AreAscii (map (spelling version) lines)
lines_ascii version [] all fit = tt
lines_ascii version (said ∷ lines) all fit = (said_ascii version said all.0 fit.0, lines_ascii version lines all.1 fit.1)

-- THE WHOLE

keyed_ascii : (word bytes : List ℕ) → IsAscii word → All (λ byte. byte < 256) bytes → IsAscii (word ++ (encode_lower bytes ++ 10 ∷ []))
keyed_ascii word bytes plain fit =
    All-append A word (encode_lower bytes ++ 10 ∷ []) plain (All-append A (encode_lower bytes) (10 ∷ []) (hex_ascii bytes fit) (All-cons A 10 [] (omega arith) (All-nil A)))

secrets_ascii : (secrets : List (List ℕ)) → All (AreBytes 16) secrets → AreAscii (map secret_line secrets)
secrets_ascii [] all = tt
secrets_ascii (secret ∷ secrets) all =
    (keyed_ascii (codes "secret ") secret (literal_ascii (codes "secret ") refl) (All-head (AreBytes 16) secret secrets all).1, secrets_ascii secrets (All-tail (AreBytes 16) secret secrets all))

pub setups_are_ascii : SetupsAreAscii
unfolding setup_text
setups_are_ascii setup is bytes =
    texts_ascii (plan_texts setup.plan ++ seed_line setup.seed.0 ∷ map secret_line setup.secrets)
    (ascii-append (plan_texts setup.plan) (seed_line setup.seed.0 ∷ map secret_line setup.secrets)
    (lines_ascii setup.plan.version (plan_lines setup.plan) (lines_of_plan setup.plan) (plan_in setup.plan is.plan))
    (keyed_ascii (codes "seed ") setup.seed.0 (literal_ascii (codes "seed ") refl) bytes.seed.1, secrets_ascii setup.secrets bytes.secrets))

-- so is what the writer answers
pub written_ascii : (setup : Setup) (result : Result (List ℕ) NoMemory) → IsSetup setup → IsMadeOfBytes setup → IfOk result (λ text. text ≡ setup_text setup) → IfOk result IsAscii
written_ascii setup (Ok text) is bytes same = subst IsAscii (sym same) (setups_are_ascii setup is bytes)
written_ascii setup (Err fault) is bytes same = tt
