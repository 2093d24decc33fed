-- What the line must go on with, piece by piece.
use Rattle.std.proofs.Common.{◌≡◌, ◌++◌, ◌∷◌, [], sym, ◌∙◌}
use Rattle.std.specs.Prelude.{decimal}
use Rattle.std.proofs.lemmas.Slice.Eq.{bytes_eq-Decides}
use Rattle.sg_sheet.specs.Sheet.{ballot_text}
use Rattle.sg_sheet.proofs.Cutting.{all_cut, fourth_cut, refused, second_cut, third_cut}
use Rattle.sg_sheet.proofs.reading.is_ballot_line.Goals as goal

pub returns-in_default-after : goal.returns-in_default-after
returns-in_default-after c =
    refused (c.args.bytes.now ≡ ballot_text c.args.ballot c.args.style)
    (λ e. c.in_default-after.ensures (decimal c.args.style ++ 10 ∷ []) (second_cut c.args.bytes.now c.in-Some.rest.now c.in-Some-after_decimal.rest.now [] [] c.args.ballot c.args.style c.in-Some.ensures c.in-Some-after_decimal.ensures e))

pub returns-in_default-after_decimal-2 : goal.returns-in_default-after_decimal-2
returns-in_default-after_decimal-2 c =
    refused (c.args.bytes.now ≡ ballot_text c.args.ballot c.args.style)
    (λ e. c.in_default-after_decimal-2.ensures (10 ∷ [])
    (third_cut c.args.bytes.now c.in-Some.rest.now c.in-Some-after_decimal.rest.now c.in-Some-after.rest.now [] c.args.ballot c.args.style c.in-Some.ensures c.in-Some-after_decimal.ensures c.in-Some-after.ensures e))

pub returns : goal.returns
returns c = (
  λ t.
      all_cut c.args.bytes.now c.in-Some.rest.now c.in-Some-after_decimal.rest.now c.in-Some-after.rest.now c.in-Some-after_decimal-2.rest.now c.args.ballot c.args.style
      c.in-Some.ensures c.in-Some-after_decimal.ensures c.in-Some-after.ensures c.in-Some-after_decimal-2.ensures
      ((bytes_eq-Decides c.in-Some-after_decimal-2.rest.now (10 ∷ [])).0 (sym c.is_same.ensures ∙ t)),
  λ e.
      c.is_same.ensures
      ∙ (bytes_eq-Decides c.in-Some-after_decimal-2.rest.now (10 ∷ [])).1
      (fourth_cut c.args.bytes.now c.in-Some.rest.now c.in-Some-after_decimal.rest.now c.in-Some-after.rest.now c.in-Some-after_decimal-2.rest.now c.args.ballot c.args.style
      c.in-Some.ensures c.in-Some-after_decimal.ensures c.in-Some-after.ensures c.in-Some-after_decimal-2.ensures e),
)
