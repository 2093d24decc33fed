use Rattle.std.proofs.Common.{ap, ◌∙◌, length}
use Rattle.std.proofs.lemmas.List.{length_push}
use Rattle.sg_county.proofs.Noting.{noted_is}
use Rattle.sg_county.proofs.kept.Kept.note_part.Goals as goal
use Rattle.sg_county.specs.declared.kept.Kept.{Kept}

pub returns-clause-noted : goal.returns-clause-noted
returns-clause-noted c = λ fine before part posted keeps taken are.
    noted_is c.args.self.now c.note.new.self c.in_ok-races.races c.first_seal.result before part posted c.find-found.result.number c.in_ok-note.ensures.ok keeps are c.find-found.ensures.number
    (c.first_seal.ensures.is fine part taken) (λ one behind. c.in_ok-races.ensures.first one fine part taken behind) c.in_ok-races.ensures.other

pub returns-clause-count : goal.returns-clause-count
returns-clause-count c = ap (λ (k : Kept). length k.seals) c.in_ok-note.ensures.ok ∙ length_push c.args.self.now.seals c.first_seal.result
