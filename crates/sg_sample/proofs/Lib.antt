-- The lemmas, lowest first.
mod SamplePlan
mod SampleBallots
mod MarksFit
mod PapersFit
mod BallotActs
mod Asked
mod Voting
mod Ends
mod Puts
mod SampleRuns
mod Summing
mod Votes
