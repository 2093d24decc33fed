-- The codes are written behind the race's number.
use Rattle.std.proofs.Common.{[], ◌∷◌, codes}
use Rattle.std.specs.Prelude.{map}
use Rattle.sg_lines.specs.Words.{decimal, code_word}
use Rattle.sg_forms.proofs.Overwriting.{words_behind}
use Rattle.sg_forms.proofs.write.paper.Goals as goal

pub returns : goal.returns
returns c =
    let put = c.put_codes in
    words_behind (codes "paper" ∷ decimal c.args.race ∷ []) (map (code_word c.args.version) c.args.codes.now) _ _ _ _ _ c.put_parts-end.ensures put.ensures.end put.ensures.written
