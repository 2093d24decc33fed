-- What the lists of an unaltered story say.
use Rattle.std.proofs.Common.{◌≡◌, ℕ, true, ◌&&◌, List, [], ◌∷◌, All, None}
use Rattle.std.proofs.lemmas.Bool.{and_parts}
use Rattle.std.proofs.lemmas.List.Elements.{All-head, All-tail}
use Rattle.std.specs.List.{list_all}
use Rattle.sg_lists.proofs.Each.{EachOf}
use Rattle.sg_plan.specs.Ballots.{ballot_has}
use Rattle.sg_plan.specs.Codes.{is_code}
use Rattle.sg_plan.specs.Limits.{fault_of}
use Rattle.sg_plan.specs.declared.plan.Plan.{Plan}
use Rattle.sg_post.specs.Fits.{claim_fits, fates_fit, stage_fits}
use Rattle.sg_post.specs.declared.story.Claimed.{Claimed}
use Rattle.sg_post.specs.declared.story.Story.{Story}
use Rattle.sg_post.specs.declared.story.Told.{Told}
use Rattle.sg_accepted.specs.Unaltered.{IsRightClaim, IsTrueFate, IsUnaltered}

pub holds-all : {A : Type 0} (P : A → Type 0) (xs : List A) → All P xs → EachOf P xs
holds-all P [] all = tt
holds-all P (x ∷ xs) all = (All-head P x xs all, holds-all P xs (All-tail P x xs all))

-- a claim that may stand, with the answer that is right
pub record ClaimRight (plan : Plan) (seed : List ℕ) (fates : List Told) (claimed : Claimed) : Type 0 where
  pub has : ballot_has plan claimed.ballot claimed.race ≡ true
  pub word : IsRightClaim plan seed fates claimed

pub record IsTold (plan : Plan) (seed : List ℕ) (fates : List Told) (claims : List Claimed) : Type 0 where
  pub fine : fault_of plan ≡ None
  pub fit : fates_fit plan 0 fates ≡ true
  pub claimed : list_all (claim_fits plan) claims ≡ true
  pub papers : EachOf (λ told. IsTrueFate plan seed told.ballot told.fate) fates
  pub claims_right : EachOf (ClaimRight plan seed fates) claims

claims-right : (plan : Plan) (seed : List ℕ) (fates : List Told) (claims : List Claimed) → list_all (claim_fits plan) claims ≡ true
    → All (IsRightClaim plan seed fates) claims → EachOf (ClaimRight plan seed fates) claims
claims-right plan seed fates [] fit words = tt
claims-right plan seed fates (claimed ∷ claims) fit words =
    let parts = and_parts (claim_fits plan claimed) (list_all (claim_fits plan) claims) fit in (
      record {
        has = (and_parts (ballot_has plan claimed.ballot claimed.race) (is_code plan claimed.code) parts.0).0;
        word = All-head (IsRightClaim plan seed fates) claimed claims words;
      },
      claims-right plan seed fates claims parts.1 (All-tail (IsRightClaim plan seed fates) claimed claims words),
    )

-- the lists of an unaltered story
pub unaltered-told : (plan : Plan) (seed : List ℕ) (story : Story) → fault_of plan ≡ None → IsUnaltered plan seed story → IsTold plan seed story.fates story.claims
unaltered-told plan seed story fine is =
    let parts = and_parts (fates_fit plan 0 story.fates) (stage_fits story.stage story.claims && list_all (claim_fits plan) story.claims) is.fits in
    let others = and_parts (stage_fits story.stage story.claims) (list_all (claim_fits plan) story.claims) parts.1 in
    record {
      fine = fine;
      fit = parts.0;
      claimed = others.1;
      papers = holds-all (λ (told : Told). IsTrueFate plan seed told.ballot told.fate) story.fates is.papers;
      claims_right = claims-right plan seed story.fates story.claims others.1 is.words;
    }
