-- The text of an act (this project's rules for the office): its words, one space between two of them. A list of codes
-- or a draw without bytes is an empty word, so different acts have different texts.
use Rattle.std.specs.Prelude.{ℕ, ◌<◌, List, [], ◌∷◌, ◌++◌, All, map, codes}
use Rattle.std.specs.List.{join_with_byte}
use Rattle.sg_plan.specs.declared.plan.Draw.{Draw}
use Rattle.sg_plan.specs.declared.plan.Draw.TheVariants as draw
use Rattle.sg_plan.specs.declared.plan.Mark.{Mark}
use Rattle.sg_lines.specs.Words.{code_word, decimal, encode_lower}
use Rattle.sg_forms.specs.Spelling.{IsCode, IsNumber}
use Rattle.sg_acts.specs.declared.asks.Act.{Act}
use Rattle.sg_acts.specs.declared.asks.Act.TheVariants as act

-- THE TEXT

-- a mark: its race and its candidate
abbrev pub mark_word : Mark → List ℕ
mark_word mark = decimal mark.race ++ 58 ∷ decimal mark.candidate

-- marks with spaces between them
abbrev pub marks_text : List Mark → List ℕ
marks_text marks = join_with_byte 32 (map mark_word marks)

-- codes with commas between them
abbrev pub codes_word : ℕ → List ℕ → List ℕ
codes_word version list = join_with_byte 44 (map (code_word version) list)

-- the lists of a paper with spaces between them
abbrev pub paper_text : ℕ → List (List ℕ) → List ℕ
paper_text version paper = join_with_byte 32 (map (codes_word version) paper)

-- how the sides are drawn
abbrev pub draw_word : Draw → List ℕ
draw_word draw.Full = codes "full"
draw_word (draw.Public bytes) = encode_lower bytes

-- the words of an act
abbrev pub act_words : ℕ → Act → List (List ℕ)
act_words version (act.Scan ballot marks) = codes "scan" ∷ decimal ballot ∷ map mark_word marks
act_words version (act.Spoil ballot) = codes "spoil" ∷ decimal ballot ∷ []
act_words version (act.Audit ballot paper) = codes "audit" ∷ decimal ballot ∷ map (codes_word version) paper
act_words version act.Close = codes "close" ∷ []
act_words version (act.Draw drawn) = codes "draw" ∷ draw_word drawn ∷ []
act_words version (act.Claim ballot race code) = codes "claim" ∷ decimal ballot ∷ decimal race ∷ code_word version code ∷ []
act_words version (act.Void ballot) = codes "void" ∷ decimal ballot ∷ []

-- the text of an act
unfoldable pub act_text : ℕ → Act → List ℕ
act_text version done = join_with_byte 32 (act_words version done)

-- each word, with a byte before it
abbrev pub behind : ℕ → List (List ℕ) → List ℕ
behind byte [] = []
behind byte (word ∷ words) = byte ∷ word ++ behind byte words

-- WHAT HAS A TEXT

-- each code in the act is one of the version
abbrev pub HasCodes : ℕ → Act → Type 0
HasCodes version (act.Audit ballot paper) = All (All (IsCode version)) paper
HasCodes version (act.Claim ballot race code) = IsCode version code
HasCodes version other = Unit {0}

-- the numbers of a mark are in the range of their types
abbrev pub IsMark : Mark → Type 0
IsMark mark = IsNumber mark.race × IsNumber mark.candidate

-- public bytes are bytes
abbrev pub IsDraw : Draw → Type 0
IsDraw draw.Full = Unit {0}
IsDraw (draw.Public bytes) = All (λ byte. byte < 256) bytes

-- the numbers of the act are in the ranges of their types, as those of each act in the program are
abbrev pub HasNumbers : Act → Type 0
HasNumbers (act.Scan ballot marks) = IsNumber ballot × All IsMark marks
HasNumbers (act.Spoil ballot) = IsNumber ballot
HasNumbers (act.Audit ballot paper) = IsNumber ballot
HasNumbers act.Close = Unit {0}
HasNumbers (act.Draw drawn) = IsDraw drawn
HasNumbers (act.Claim ballot race code) = IsNumber ballot × IsNumber race
HasNumbers (act.Void ballot) = IsNumber ballot

-- an act of the version
pub record IsAct (version : ℕ) (done : Act) : Type 0 where
  pub numbers : HasNumbers done
  pub codes : HasCodes version done
