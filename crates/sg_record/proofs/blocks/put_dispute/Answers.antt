-- The claim, and then the codes.
use Rattle.std.proofs.Common.{◌∷◌, [], map}
use Rattle.sg_record.proofs.Putting.{puts_stop, puts_then}
use Rattle.sg_forms.specs.Said.Said.{Code, Dispute}
use Rattle.sg_record.proofs.blocks.put_dispute.Goals as goal

pub returns-in_err-put_line : goal.returns-in_err-put_line
returns-in_err-put_line g c =
    puts_stop _ _ _ _ (Dispute c.args.one.now.ballot c.args.one.now.race c.args.one.now.code c.args.one.now.word ∷ []) (map Code c.args.one.now.codes) c.from_residual.ensures.0 c.in_err-put_line.ensures

pub returns : goal.returns
returns g c =
    puts_then _ _ _ _ _ (Dispute c.args.one.now.ballot c.args.one.now.race c.args.one.now.code c.args.one.now.word ∷ []) (map Code c.args.one.now.codes) c.in_ok-put_line.ensures
    (c.put_codes.ensures)
