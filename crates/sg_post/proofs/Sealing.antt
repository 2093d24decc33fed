-- The seals of what is posted are those of the running seal.
use Rattle.std.proofs.Common.{◌≡◌, ℕ, ◌≤◌, inl, inr, List, [], ◌∷◌, ◌++◌, length, Option, Some, None, refl, ap, append-nil, arith}
use Rattle.std.proofs.lemmas.Bool.{cases_eq}
use Rattle.std.specs.List.{flat_map}
use Rattle.std.specs.Prelude.{IsSome}
use Rattle.sg_commit.specs.declared.Sealer.{Sealer}
use Rattle.sg_plan.specs.declared.plan.Draw.{Draw}
use Rattle.sg_plan.specs.declared.plan.Plan.{Plan}
use Rattle.sg_forms.specs.Said.{Said}
use Rattle.sg_forms.specs.Said.Said.{Seal}
use Rattle.sg_grammar.specs.Due.{each}
use Rattle.sg_record.specs.Lines.{first_lines, lines_before, plan_lines, second_lines}
use Rattle.sg_record.specs.Tree.{as_line, block_tree, draw_leaf, indexed, race_code_commit_tree, race_results_tree, race_row_commit_tree, race_row_tree, seal_tree}
use Rattle.sg_record.specs.Pens.{IsSealOf, SealsWhere}
use Rattle.sg_post.specs.Posted.{posted_record, seal_1, seal_2, seal_3, seal_over}
use Rattle.sg_post.specs.declared.story.Claimed.{Claimed}
use Rattle.sg_post.specs.declared.story.Told.{Told}

-- a seal that is wanted is kept
pub seal-some : (seal : Option Sealer) (bytes : List ℕ) → SealsWhere (Unit {0}) seal bytes → IsSome seal
seal-some None bytes is = absurd (is tt)
seal-some (Some sealer) bytes is = refl

pub seal-kept : (seal : Option Sealer) (bytes : List ℕ) → SealsWhere (Unit {0}) seal bytes → IsSealOf seal bytes
seal-kept None bytes is = is tt
seal-kept (Some sealer) bytes is = is

pub seal-where : (seal : Option Sealer) (bytes : List ℕ) → IsSealOf seal bytes → SealsWhere (Unit {0}) seal bytes
seal-where None bytes is = absurd is
seal-where (Some sealer) bytes is = is

-- each seal of the record is over all lines before it
pub seal-is : (plan : Plan) (seed : List ℕ) (fates : List Told) (draw : Draw) (claims : List Claimed) (section : ℕ) → 1 ≤ section → section ≤ 3
    → seal_tree as_line section (posted_record plan seed fates draw claims).seals ≡ Seal section (seal_over plan (lines_before section (posted_record plan seed fates draw claims))) ∷ []
unfolding seal_1 seal_2 seal_3
seal-is plan seed fates draw claims section first last =
    let posted = posted_record plan seed fates draw claims in
    let rows = indexed (race_row_commit_tree as_line) 0 posted.row_commits in
    let results = each (race_results_tree as_line posted) 0 (length plan.races) in
    let openings = indexed (race_row_tree as_line) 0 posted.rows in
    elim (cases_eq section 1) [
      | inl is ↦ rw is (ap (λ (l : List Said). Seal 1 (seal_over plan (plan_lines plan ++ (indexed (race_code_commit_tree as_line) 0 posted.code_commits ++ l))) ∷ []) (append-nil rows))
      | inr other ↦
          elim (cases_eq section 2) [
            | inl is ↦ rw is (ap (λ (l : List Said). Seal 2 (seal_over plan (first_lines posted ++ (flat_map (block_tree as_line plan) posted.ballots ++ l))) ∷ []) (append-nil results))
            | inr third ↦
                let is : section ≡ 3 = omega (arith, first, last, other, third) in
                rw is (ap (λ (l : List Said). Seal 3 (seal_over plan (second_lines posted ++ (draw_leaf as_line draw ∷ l))) ∷ []) (append-nil openings))
          ]
    ]
