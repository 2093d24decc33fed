-- The numbers are written behind the name.
use Rattle.std.proofs.Common.{[], ◌∷◌, codes}
use Rattle.std.specs.Prelude.{map}
use Rattle.sg_lines.specs.Words.{decimal}
use Rattle.sg_forms.proofs.Overwriting.{words_behind}
use Rattle.sg_forms.proofs.write.style.Goals as goal

pub returns : goal.returns
returns c =
    let put = c.put_numbers in
    words_behind (codes "style" ∷ c.args.name.now ∷ []) (map decimal c.args.races.now) _ _ _ _ _ c.put_parts-end.ensures put.ensures.end put.ensures.written
