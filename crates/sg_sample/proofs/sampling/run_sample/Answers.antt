-- The office is that of the run.
use Rattle.sg_sample.proofs.sampling.run_sample.Goals as goal

pub sample_office-requires-clause-some : goal.sample_office-requires-clause-some
sample_office-requires-clause-some c = c.requires.some

pub sample_office-requires-clause-few : goal.sample_office-requires-clause-few
sample_office-requires-clause-few c = c.requires.few

pub summary-requires-clause-some : goal.summary-requires-clause-some
summary-requires-clause-some c = c.requires.some

pub summary-requires-clause-few : goal.summary-requires-clause-few
summary-requires-clause-few c = c.requires.few

pub summary-requires-clause-setup : goal.summary-requires-clause-setup
summary-requires-clause-setup c = c.in-Ok.ensures.setup

pub summary-requires-clause-stands : goal.summary-requires-clause-stands
summary-requires-clause-stands c = c.in-Ok.ensures.stands

pub returns : goal.returns
returns c = c.summary.ensures
