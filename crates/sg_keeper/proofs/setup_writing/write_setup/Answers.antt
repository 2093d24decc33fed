-- What is left to show of `write_setup`.
use Rattle.std.proofs.Common.{ap, ◌∙◌, ◌++◌, map}
use Rattle.std.specs.List.{concat}
use Rattle.sg_keeper.specs.SetupText.{secret_line, seed_line}
use Rattle.sg_keeper.proofs.SetupLaw.{setup_whole}
use Rattle.sg_keeper.proofs.setup_writing.write_setup.Goals as goal

pub returns : goal.returns
returns c =
    c.in_ok-put_secrets.ensures
    ∙ (ap (λ l. l ++ concat (map secret_line c.args.setup.now.secrets)) (c.in_ok-put_seed.ensures ∙ ap (λ l. l ++ seed_line c.args.setup.now.seed.0) c.in_ok-text.ensures) ∙ setup_whole c.args.setup.now)
