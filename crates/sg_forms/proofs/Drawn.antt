-- The public bytes that digits stand for.
use Rattle.std.proofs.Common.{◌≡◌, ℕ, ◌*◌, ◌≤◌, List, [], length, sym, ap, ◌∙◌, arith}
use Rattle.std.specs.Result.{result_unwrap_or}
use Rattle.hex.proofs.HexLemmas.{decode_of-encode_lower}
use Rattle.sg_lines.specs.Words.{IsBytes, encode_lower}
use Rattle.sg_lines.proofs.Hex.{length-encode_lower}
use Rattle.sg_forms.specs.Reading.{bytes_of_digits}
use Rattle.sg_forms.specs.Spelling.{AreDigits}
use Rattle.sg_forms.proofs.WordKinds.{bytes_everywhere}

-- the bytes that the digits spell are the public bytes
pub spelled_are_public : (digits bytes : List ℕ) → IsBytes bytes → digits ≡ encode_lower bytes → bytes_of_digits digits ≡ bytes
spelled_are_public digits bytes fit is = ap bytes_of_digits is ∙ ap (λ r. result_unwrap_or r []) (decode_of-encode_lower bytes fit)

-- what is known of digits in range
pub record IsDrawn (digits : List ℕ) : Type 0 where
  pub are : IsBytes (bytes_of_digits digits)
  pub spelled : digits ≡ encode_lower (bytes_of_digits digits)
  pub count : length digits ≡ 2 * length (bytes_of_digits digits)
  pub some : 1 ≤ length (bytes_of_digits digits)
  pub few : length (bytes_of_digits digits) ≤ 4096

-- digits in range stand for public bytes
pub digits_drawn : (digits : List ℕ) → AreDigits digits → IsDrawn digits
digits_drawn digits fits =
    let bytes = fits.0 in
    let are = bytes_everywhere bytes fits.2 in
    let public : bytes_of_digits digits ≡ bytes = spelled_are_public digits bytes are fits.1 in
    let spelled : digits ≡ encode_lower (bytes_of_digits digits) = fits.1 ∙ ap encode_lower (sym public) in
    record {
      are = rw public are;
      spelled = spelled;
      count = ap length spelled ∙ length-encode_lower (bytes_of_digits digits);
      some = omega (arith, ap length public, fits.3);
      few = omega (arith, ap length public, fits.4);
    }
