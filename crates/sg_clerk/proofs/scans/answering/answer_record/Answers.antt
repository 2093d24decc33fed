-- A scan is answered by a turn, and another record changes nothing.
use Rattle.std.proofs.Common.{refl, sym, subst}
use Rattle.sg_scans.specs.Asked.{CanCome}
use Rattle.sg_scans.specs.declared.fields.ScanLine.{ScanLine}
use Rattle.sg_talk.specs.declared.answered.Answered.TheVariants as answered
use Rattle.sg_clerk.specs.scans.DoesScans.{AnswersLine}
use Rattle.sg_clerk.proofs.scans.answering.answer_record.Goals as goal

pub reply_to-requires : goal.reply_to-requires
reply_to-requires g c = subst CanCome c.in-Good.is c.requires c.args.office.now.setup

pub returns-in-Good-clause-answers : goal.returns-in-Good-clause-answers
returns-in-Good-clause-answers g c = λ history stands.
    let replied = c.reply_to.ensures.replies history stands in
    record {
      next = replied.next;
      answers = subst (λ (l : ScanLine). AnswersLine c.args.office.now.setup l c.reply_to.result history replied.next) (sym c.in-Good.is) (replied.said, replied.is, replied.turn);
      stands = replied.stands;
      kept = replied.kept;
    }

pub returns-in-Shape-clause-answers : goal.returns-in-Shape-clause-answers
returns-in-Shape-clause-answers g c = λ history stands.
    record {
      next = history;
      answers = subst (λ (l : ScanLine). AnswersLine c.args.office.now.setup l answered.Shape history history) (sym c.in-Shape.is) (refl, refl);
      stands = stands;
      kept = λ told text is. is;
    }
