use Rattle.std.proofs.Common.{ap, ◌∙◌, ◌++◌, map, drop}
use Rattle.sg_desks.specs.ActTexts.{behind, codes_word}
use Rattle.sg_desks.proofs.Joining.{lists_whole}
use Rattle.sg_desks.proofs.writing.join_lists.Goals as goal

pub returns : goal.returns
returns c =
    c.in_ok-put_lists.ensures
    ∙ (ap (λ l. l ++ behind 32 (map (codes_word c.args.version) (drop 1 c.args.paper.now))) (c.in_ok-put_list.ensures ∙ ap (λ l. l ++ codes_word c.args.version c.get.result.now) c.new-text.ensures)
    ∙ lists_whole c.args.version c.args.paper.now c.get.result.now c.get.ensures.rest)
