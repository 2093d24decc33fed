-- The lines follow one another.
use Rattle.std.proofs.Common.{◌∷◌, [], ◌++◌}
use Rattle.sg_record.proofs.Limits.{limits_of}
use Rattle.sg_record.proofs.Putting.{puts_stop, puts_then}
use Rattle.sg_forms.specs.Said.Said.{Election, Instances, Version}
use Rattle.sg_record.proofs.head.put_front.Goals as goal

pub returns-in_err-put_line : goal.returns-in_err-put_line
returns-in_err-put_line g c =
    puts_stop _ _ _ _ (Version c.args.plan.now.version ∷ []) (Election c.args.plan.now.name ∷ [] ++ (Instances c.args.plan.now.instances ∷ [])) c.from_residual.ensures.0 c.in_err-put_line.ensures

pub returns-in_err-put_election : goal.returns-in_err-put_election
returns-in_err-put_election g c =
    puts_then _ _ _ _ _ (Version c.args.plan.now.version ∷ []) (Election c.args.plan.now.name ∷ [] ++ (Instances c.args.plan.now.instances ∷ [])) c.in_ok-put_line.ensures
    (puts_stop _ _ _ _ (Election c.args.plan.now.name ∷ []) (Instances c.args.plan.now.instances ∷ []) c.from_residual-in_err-put_election.ensures.0 c.in_err-put_election.ensures)

pub returns : goal.returns
returns g c =
    puts_then _ _ _ _ _ (Version c.args.plan.now.version ∷ []) (Election c.args.plan.now.name ∷ [] ++ (Instances c.args.plan.now.instances ∷ [])) c.in_ok-put_line.ensures
    (puts_then _ _ _ _ _ (Election c.args.plan.now.name ∷ []) (Instances c.args.plan.now.instances ∷ []) c.in_ok-put_election.ensures
    (c.put_line-2.ensures))

pub put_election-requires : goal.put_election-requires
put_election-requires g c = record { name = (limits_of c.args.plan.now c.requires.limits).name }
