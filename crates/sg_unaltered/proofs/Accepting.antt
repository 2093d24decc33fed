-- What is posted of an unaltered history is accepted, and true audits are told.
use Rattle.std.proofs.Common.{◌≡◌, Bool, true, ap}
use Rattle.sg_tables.specs.Tables.{paper_of}
use Rattle.sg_acts.specs.declared.replies.Body.TheVariants as body
use Rattle.sg_desks.specs.Papers.{same_paper}
use Rattle.sg_desks.proofs.PaperLists.{papers_decide}
use Rattle.sg_accepted.proofs.RecordTotals.{unaltered_has_totals}
use Rattle.sg_histories.specs.Stories.{story_of}
use Rattle.sg_unaltered.specs.UnalteredHistories.{TrueAuditsAreTold, UnalteredHistoriesAreAccepted}
use Rattle.sg_unaltered.proofs.UnalteredStories.{unaltered_tell_so}

pub true_audits_are_told : TrueAuditsAreTold
true_audits_are_told setup history ballot paper =
    let decides = papers_decide paper (paper_of setup.plan setup.seed.0 ballot) in
    (λ e. decides.0 (told (same_paper paper (paper_of setup.plan setup.seed.0 ballot)) e), λ same. ap body.Audited (decides.1 same))
  where
    told : (test : Bool) → body.Audited test ≡ body.Audited true → test ≡ true
    told test e = cc

pub histories_are_accepted : UnalteredHistoriesAreAccepted
histories_are_accepted setup history kept is = unaltered_has_totals setup.plan setup.seed.0 (story_of setup history) kept (unaltered_tell_so setup history is)
