-- The JSON reading of bytes that are UTF-8 or not.
use Rattle.std.proofs.Common.{◌≡◌, ℕ, List, None, Bool, true, false, refl, ap}
use Rattle.std.specs.Prelude.{if◌then◌else◌}
use Rattle.std.specs.Str.{IsUtf8, is_utf8}
use Rattle.std.proofs.lemmas.Str.{IsUtf8-from_is_utf8, is_utf8-from_IsUtf8}
use Rattle.serde_json.specs.Read.{read}
use Rattle.sg_asks.specs.Json.{json_of}

pub json-utf8 : (bytes : List ℕ) → IsUtf8 bytes → json_of bytes ≡ read bytes
unfolding json_of
json-utf8 bytes utf8 = ap (λ b. if b then read bytes else None) (is_utf8-from_IsUtf8 bytes utf8)

none-by : (bytes : List ℕ) (test : Bool) → is_utf8 bytes ≡ test → (IsUtf8 bytes → ⊥) → None ≡ (if test then read bytes else None)
none-by bytes true is other = absurd (other (IsUtf8-from_is_utf8 bytes is))
none-by bytes false is other = refl

pub json-other : (bytes : List ℕ) → (IsUtf8 bytes → ⊥) → None ≡ json_of bytes
unfolding json_of
json-other bytes other = none-by bytes (is_utf8 bytes) refl other
