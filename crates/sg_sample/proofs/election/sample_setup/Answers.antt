-- The plan keeps its limits, and there is one secret.
use Rattle.sg_keeper.specs.declared.setup.Setup.{Setup}
use Rattle.sg_sample.proofs.SamplePlan.{setup_fits}
use Rattle.sg_sample.proofs.election.sample_setup.Goals as goal

pub returns-clause-fits : goal.returns-clause-fits
returns-clause-fits c =
    let setup : Setup = record { plan = c.in_ok-plan.plan; seed = c.sample_seed.result; secrets = c.push.new.self } in
    setup_fits setup c.args.ballots _ _ c.in_ok-plan.ensures c.in_ok-secrets.ensures c.in_ok-push.ensures.ok c.requires.some c.requires.few
