-- What is written so far, and the words that are left, give all the words.
use Rattle.std.proofs.Common.{drop}
use Rattle.std.specs.Prelude.{map}
use Rattle.sg_forms.specs.inside.Writing.{part_word, AreParts}
use Rattle.sg_forms.proofs.Overwriting.{IsOnTheWay}
use Rattle.sg_forms.proofs.parts.put_parts.Given as goal

abbrev pub invariant-loop-part : goal.invariant-loop-part
invariant-loop-part l = record {
  way : IsOnTheWay 0 (map (part_word l.version) l.parts) l.fn.out l.end (map (part_word l.version) (drop l.part-index l.parts)) l.out;
  fit : AreParts l.version (drop l.part-index l.parts);
}
