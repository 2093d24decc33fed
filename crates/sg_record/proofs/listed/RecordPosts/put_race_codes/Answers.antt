-- The digests follow one another.
use Rattle.std.proofs.Common.{[], ap, arith}
use Rattle.std.proofs.lemmas.Option.{get_or_from_slice_get}
use Rattle.sg_record.proofs.FormedLists.{entries_len, formed_parts}
use Rattle.sg_record.proofs.Putting.{list_end, list_fault, list_next, puts_same}
use Rattle.sg_record.specs.Tree.{as_line, code_commit_leaf, race_code_commit_tree}
use Rattle.sg_record.proofs.listed.RecordPosts.put_race_codes.Goals as goal

pub get-digests-requires : goal.get-digests-requires
get-digests-requires g c =
    let listed = c.args.self.now in
    omega (arith, c.requires.race, entries_len listed.plan listed.code_commits (formed_parts listed c.requires.ready).code_commits)

pub returns-in_err-put_code_commit : goal.returns-in_err-put_code_commit
returns-in_err-put_code_commit g c =
    puts_same _ _ _ _ _ (ap (race_code_commit_tree as_line c.args.race) (get_or_from_slice_get c.args.self.now.code_commits c.args.race c.get-digests.result.now [] c.get-digests.ensures.item))
    (list_fault _ _ _ _ _ (code_commit_leaf as_line c.args.race) c.get-digests.result.now c.loop-at.at c.get.result.now c.loop-at.invariant c.get.ensures.rest c.from_residual.ensures.0 c.in_err-put_code_commit.ensures)

pub loop-at-preserved : goal.loop-at-preserved
loop-at-preserved g c =
    list_next _ _ _ _ (code_commit_leaf as_line c.args.race) c.get-digests.result.now c.loop-at.at c.get.result.now c.loop-at.invariant c.get.ensures.rest c.in_ok-put_code_commit.ensures

pub returns : goal.returns
returns g c =
    puts_same _ _ _ _ _ (ap (race_code_commit_tree as_line c.args.race) (get_or_from_slice_get c.args.self.now.code_commits c.args.race c.get-digests.result.now [] c.get-digests.ensures.item))
    (list_end _ _ _ (code_commit_leaf as_line c.args.race) c.get-digests.result.now c.loop-at.at c.loop-at.invariant (omega arith))
