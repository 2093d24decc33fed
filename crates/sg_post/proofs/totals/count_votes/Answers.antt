-- Each turn counts one more place, where it is set.
use Rattle.std.proofs.Common.{◌+◌, ◌%◌, List, ℕ, false, get_or, length, set, arith, ap, ◌∙◌}
use Rattle.std.specs.Prelude.{count_by}
use Rattle.std.proofs.lemmas.Nat.{mod_below}
use Rattle.std.proofs.lemmas.Option.{get_or_from_slice_get}
use Rattle.sg_streams.specs.Numbers.{numbers_below}
use Rattle.sg_tables.proofs.Lists.{length-map_below}
use Rattle.sg_post.specs.inside.Making.{is_vote}
use Rattle.sg_post.proofs.Made.{votes-few, votes-set, votes-unset}
use Rattle.sg_post.proofs.totals.count_votes.Goals as goal

pub loop-place-preserved-then-not-is_set : goal.loop-place-preserved-then-not-is_set
loop-place-preserved-then-not-is_set c =
    let bit = get_or_from_slice_get c.args.places.now c.loop-place.place c.get-is_set.result.now false c.get-is_set.ensures.item in
    c.loop-place.invariant ∙ votes-unset c.args.places.now c.args.candidates c.loop-place.place (bit ∙ c.if-not-is_set.true)

pub count_vote-requires-clause-inside : goal.count_vote-requires-clause-inside
count_vote-requires-clause-inside c =
    omega (arith, mod_below c.loop-place.place c.args.candidates c.requires.some, ap length c.loop-place.invariant, length-map_below (λ candidate. count_by (is_vote c.args.places.now c.args.candidates candidate) (numbers_below c.loop-place.place)) c.args.candidates)

pub count_vote-requires-clause-room : goal.count_vote-requires-clause-room
count_vote-requires-clause-room c =
    let at = c.loop-place.place % c.args.candidates in
    let few = votes-few c.args.places.now c.args.candidates c.loop-place.place at (mod_below c.loop-place.place c.args.candidates c.requires.some) in
    omega (arith, ap (λ (l : List ℕ). get_or l at 0) c.loop-place.invariant, few, c.loop-place-test.true, c.requires.few, c.len-place-end.ensures)

pub loop-place-preserved : goal.loop-place-preserved
loop-place-preserved c =
    let at = c.loop-place.place % c.args.candidates in
    let bit = get_or_from_slice_get c.args.places.now c.loop-place.place c.get-is_set.result.now false c.get-is_set.ensures.item in
    c.count_vote.ensures
    ∙ (ap (λ (l : List ℕ). set l at (get_or l at 0 + 1)) c.loop-place.invariant
    ∙ votes-set c.args.places.now c.args.candidates c.loop-place.place (bit ∙ c.if-not-is_set.false) (mod_below c.loop-place.place c.args.candidates c.requires.some))
