-- What is written so far, and the words that are left, give all the words.
use Rattle.std.proofs.Common.{drop}
use Rattle.std.specs.Prelude.{map}
use Rattle.sg_lines.specs.Words.{code_word}
use Rattle.sg_forms.proofs.Overwriting.{IsOnTheWay}
use Rattle.sg_forms.proofs.parts.put_codes.Given as goal

abbrev pub invariant-loop-code : goal.invariant-loop-code
invariant-loop-code l = IsOnTheWay l.fn.at (map (code_word l.version) l.codes) l.fn.out l.end (map (code_word l.version) (drop l.code-index l.codes)) l.out
