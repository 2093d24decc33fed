use Rattle.std.proofs.Common.{◌≡◌, ◌++◌, drop}
use Rattle.std.specs.Prelude.{map}
use Rattle.sg_desks.specs.ActTexts.{behind}
use Rattle.sg_desks.specs.ActTexts.{codes_word}
use Rattle.sg_desks.proofs.writing.put_lists.Given as goal

abbrev pub invariant-loop-at : goal.invariant-loop-at
invariant-loop-at l = l.out ++ behind 32 (map (codes_word l.version) (drop l.at l.paper)) ≡ l.fn.out ++ behind 32 (map (codes_word l.version) (drop l.fn.first l.paper))
