-- The text of each act of the version is ASCII.
use Rattle.std.proofs.Common.{◌≡◌, ℕ, ◌/◌, ◌%◌, ◌<◌, nat_lt, true, List, [], ◌∷◌, All, map, codes, Result, Ok, Err, refl, sym, subst, arith}
use Rattle.std.specs.Prelude.{IfOk}
use Rattle.std.specs.List.{join_with_byte}
use Rattle.std.proofs.lemmas.Bool.{agree_below_at, ltb-true}
use Rattle.std.proofs.lemmas.List.Elements.{All-append, All-cons, All-head, All-nil, All-tail}
use Rattle.sg_plan.specs.declared.memory.NoMemory.{NoMemory}
use Rattle.sg_plan.specs.declared.plan.Draw.{Draw}
use Rattle.sg_plan.specs.declared.plan.Draw.TheVariants as draw
use Rattle.sg_plan.specs.declared.plan.Mark.{Mark}
use Rattle.sg_lines.specs.Words.{code_word, decimal, sign_of}
use Rattle.sg_lines.proofs.Signs.{by_version, code_word-digits, code_word-signs}
use Rattle.sg_forms.specs.Spelling.{IsCode}
use Rattle.sg_keeper.specs.Rows.{IsAscii}
use Rattle.sg_keeper.proofs.SetupAscii.{AreAscii, hex_ascii, literal_ascii, number_ascii}
use Rattle.sg_acts.specs.declared.asks.Act.{Act}
use Rattle.sg_acts.specs.declared.asks.Act.TheVariants as act
use Rattle.sg_desks.specs.Laws.{TextsAreAscii}
use Rattle.sg_desks.specs.ActTexts.{HasCodes, HasNumbers, IsDraw, IsMark, act_text, codes_word, draw_word, mark_word, marks_text, paper_text}

abbrev A : ℕ → Type 0
A byte = byte < 128

mark_ascii : (mark : Mark) → IsMark mark → IsAscii (mark_word mark)
mark_ascii mark fits =
    All-append A (decimal mark.race) (58 ∷ decimal mark.candidate) (number_ascii mark.race fits.0) (All-cons A 58 (decimal mark.candidate) (omega arith) (number_ascii mark.candidate fits.1))

three_ascii : (a b c : ℕ) → A a → A b → A c → IsAscii (a ∷ b ∷ c ∷ [])
three_ascii a b c first second third = All-cons A a (b ∷ c ∷ []) first (All-cons A b (c ∷ []) second (All-cons A c [] third (All-nil A)))

sign_of_ascii : (value : ℕ) → value < 32 → A (sign_of value)
unfolding sign_of
sign_of_ascii value fits = ltb-true (sign_of value) 128 (agree_below_at (λ v. nat_lt (sign_of v) 128) (λ v. true) 32 value refl fits)

code_ascii : (version code : ℕ) → IsCode version code → IsAscii (code_word version code)
code_ascii version code fits =
    by_version (λ v. IsAscii (code_word v code)) version code fits
    (λ small. subst IsAscii (sym (code_word-digits code)) (three_ascii _ _ _ (omega arith) (omega arith) (omega arith)))
    (λ small. subst IsAscii (sym (code_word-signs code))
    (three_ascii _ _ _ (sign_of_ascii (code / 32 / 32) (omega arith)) (sign_of_ascii (code / 32 % 32) (omega arith)) (sign_of_ascii (code % 32) (omega arith))))

-- WORDS

each_ascii : {B : Type 0} (spell : B → List ℕ) (Fits : B → Type 0) → ((value : B) → Fits value → IsAscii (spell value)) → (values : List B) → All Fits values → AreAscii (map spell values)
each_ascii spell Fits ascii [] fit = tt
each_ascii spell Fits ascii (value ∷ values) fit = (ascii value (All-head Fits value values fit), each_ascii spell Fits ascii values (All-tail Fits value values fit))

joined_ascii : (byte : ℕ) → A byte → (words : List (List ℕ)) → AreAscii words → IsAscii (join_with_byte byte words)
joined_ascii byte small [] all = All-nil A
joined_ascii byte small (word ∷ []) all = all.0
joined_ascii byte small (word ∷ next ∷ words) all =
    All-append A word (byte ∷ join_with_byte byte (next ∷ words)) all.0 (All-cons A byte (join_with_byte byte (next ∷ words)) small (joined_ascii byte small (next ∷ words) all.1))

list_ascii : (version : ℕ) (list : List ℕ) → All (IsCode version) list → IsAscii (codes_word version list)
list_ascii version list fit = joined_ascii 44 (omega arith) (map (code_word version) list) (each_ascii (code_word version) (IsCode version) (code_ascii version) list fit)

draw_ascii : (drawn : Draw) → IsDraw drawn → IsAscii (draw_word drawn)
draw_ascii draw.Full fits = literal_ascii (codes "full") refl
draw_ascii (draw.Public bytes) fits = hex_ascii bytes fits

pub texts_are_ascii : TextsAreAscii
unfolding act_text
texts_are_ascii version (act.Scan ballot marks) fits =
    joined_ascii 32 (omega arith) (codes "scan" ∷ decimal ballot ∷ map mark_word marks) (literal_ascii (codes "scan") refl, (number_ascii ballot fits.numbers.0, each_ascii mark_word IsMark mark_ascii marks fits.numbers.1))
texts_are_ascii version (act.Spoil ballot) fits = joined_ascii 32 (omega arith) (codes "spoil" ∷ decimal ballot ∷ []) (literal_ascii (codes "spoil") refl, (number_ascii ballot fits.numbers, tt))
texts_are_ascii version (act.Audit ballot paper) fits =
    joined_ascii 32 (omega arith) (codes "audit" ∷ decimal ballot ∷ map (codes_word version) paper) (literal_ascii (codes "audit") refl, (number_ascii ballot fits.numbers, each_ascii (codes_word version) (All (IsCode version)) (list_ascii version) paper fits.codes))
texts_are_ascii version act.Close fits = joined_ascii 32 (omega arith) (codes "close" ∷ []) (literal_ascii (codes "close") refl, tt)
texts_are_ascii version (act.Draw drawn) fits = joined_ascii 32 (omega arith) (codes "draw" ∷ draw_word drawn ∷ []) (literal_ascii (codes "draw") refl, (draw_ascii drawn fits.numbers, tt))
texts_are_ascii version (act.Claim ballot race code) fits =
    joined_ascii 32 (omega arith) (codes "claim" ∷ decimal ballot ∷ decimal race ∷ code_word version code ∷ []) (literal_ascii (codes "claim") refl, (number_ascii ballot fits.numbers.0, (number_ascii race fits.numbers.1, (code_ascii version code fits.codes, tt))))
texts_are_ascii version (act.Void ballot) fits = joined_ascii 32 (omega arith) (codes "void" ∷ decimal ballot ∷ []) (literal_ascii (codes "void") refl, (number_ascii ballot fits.numbers, tt))

-- so is what the writer answers
pub written_ascii : (version : ℕ) (done : Act) (result : Result (List ℕ) NoMemory) → HasNumbers done → HasCodes version done → IfOk result (λ text. text ≡ act_text version done) → IfOk result IsAscii
written_ascii version done (Ok text) numbers has is = subst IsAscii (sym is) (texts_are_ascii version done (record { numbers = numbers; codes = has }))
written_ascii version done (Err fault) numbers has is = tt

-- so is the text of marks
pub marks_ascii : (marks : List Mark) (result : Result (List ℕ) NoMemory) → All IsMark marks → IfOk result (λ text. text ≡ marks_text marks) → IfOk result IsAscii
marks_ascii marks (Ok text) fit is = subst IsAscii (sym is) (joined_ascii 32 (omega arith) (map mark_word marks) (each_ascii mark_word IsMark mark_ascii marks fit))
marks_ascii marks (Err fault) fit is = tt

-- and that of a paper
pub paper_ascii : (version : ℕ) (paper : List (List ℕ)) (result : Result (List ℕ) NoMemory) → All (All (IsCode version)) paper → IfOk result (λ text. text ≡ paper_text version paper) → IfOk result IsAscii
paper_ascii version paper (Ok text) fit is =
    subst IsAscii (sym is) (joined_ascii 32 (omega arith) (map (codes_word version) paper) (each_ascii (codes_word version) (All (IsCode version)) (list_ascii version) paper fit))
paper_ascii version paper (Err fault) fit is = tt

-- and how sides are drawn
pub drawn_ascii : (drawn : Draw) (result : Result (List ℕ) NoMemory) → IsDraw drawn → IfOk result (λ text. text ≡ draw_word drawn) → IfOk result IsAscii
drawn_ascii drawn (Ok text) fits is = subst IsAscii (sym is) (draw_ascii drawn fits)
drawn_ascii drawn (Err fault) fits is = tt
