use Rattle.std.proofs.Common.{◌≡◌, rules, w64, to_z, of_z, ◌∙◌}
use Rattle.std.proofs.lemmas.Int.{to_z-of_z}
use Rattle.std.proofs.lemmas.List.Sorted.{answers_always}
use Rattle.std.specs.Result.{result_ok}
use Rattle.sg_office.specs.inside.Runs.{place_of}
use Rattle.sg_office.proofs.Numbers.{searched}
use Rattle.sg_office.proofs.run.place_of.Goals as goal

-- the closure gives an act's number, and the slice is the block's acts
pub returns : goal.returns
returns c =
    let facts = c.binary_search_by_key-found.ensures in
    let by_key = facts.position (λ act. act.0) (answers_always _ _ _ (λ f a r g called. search rules)) in
    let is : result_ok c.binary_search_by_key-found.result ≡ place_of (to_z w64 (of_z w64 c.args.number)) c.as_slice.result.now = searched _ _ _ (rw c.as_slice.ensures c.requires) facts.bound by_key in
    c.ok.ensures.value ∙ rw (← c.as_slice.ensures) (rw (to_z-of_z w64 c.args.number c.ranges.number) at is)
