-- What the table asks for is in its bounds.
use Rattle.std.proofs.Common.{ap, ◌∙◌, sym, subst}
use Rattle.std.specs.Prelude.{IfSome}
use Rattle.sg_words.specs.Command.{IsSized, asked_in}
use Rattle.sg_words.proofs.Sized.{table_is_sized}
use Rattle.sg_words.proofs.asked.named.Goals as goal

pub returns-clause-sized : goal.returns-clause-sized
returns-clause-sized c =
    let name = c.args.name.now in
    let words = c.args.words.now in
    subst (λ found. IfSome found IsSized) (sym (c.asked_in.ensures ∙ ap (λ forms. asked_in forms name words) c.commands.ensures)) (table_is_sized name words)
