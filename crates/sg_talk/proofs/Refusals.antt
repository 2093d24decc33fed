-- The texts of the answers to what is no ask.
use Rattle.std.proofs.Common.{◌≡◌, ℕ, List, Result, Ok, Err, IfOk, codes, refl, ◌∙◌}
use Rattle.std.specs.Fmt.{digits}
use Rattle.json.specs.Print.{escape_byte}
use Rattle.serde_json.specs.Written.{compact_text}
use Rattle.sg_plan.specs.declared.memory.NoMemory.{NoMemory}
use Rattle.sg_asks.specs.Replies.{refusal}

-- what is made of these bytes has that text
pub made-of : (bytes text : List ℕ) (result : Result (List ℕ) NoMemory) → bytes ≡ text → IfOk result (λ word. word ≡ bytes) → IfOk result (λ word. word ≡ text)
made-of bytes text (Ok word) same is = is ∙ same
made-of bytes text (Err none) same is = tt

pub json-text : codes "{\"error\":\"json\",\"status\":400}" ≡ compact_text (refusal (codes "json") 400)
unfolding escape_byte digits
json-text = refl

pub shape-text : codes "{\"error\":\"shape\",\"status\":400}" ≡ compact_text (refusal (codes "shape") 400)
unfolding escape_byte digits
shape-text = refl
