-- What the writers of a record's parts ask of its lists, so that each list is walked over once.
use Rattle.std.specs.Prelude.{◌≡◌, ℕ, ◌^◌, ◌<◌, ◌≤◌, true, List, [], ◌∷◌, length, map, All}
use Rattle.std.specs.List.{zip}
use Rattle.sg_forms.specs.Said.{Said}
use Rattle.sg_forms.specs.Said.Said.{Paper}
use Rattle.sg_forms.specs.Spelling.{IsCode}
use Rattle.sg_plan.specs.Ballots.{ballots_of}
use Rattle.sg_plan.specs.declared.plan.Plan.{Plan}
use Rattle.sg_plan.specs.declared.plan.Style.{Style}
use Rattle.sg_plan.specs.Names.{IsName}
use Rattle.sg_record.specs.Formed.{is_fate}
use Rattle.sg_record.specs.Writing.{HaveCodes}
use Rattle.sg_record.specs.declared.record.BallotBlock.{BallotBlock}
use Rattle.sg_record.specs.declared.record.DisputeBlock.{DisputeBlock}
use Rattle.sg_record.specs.declared.record.Record.{Record}

-- a paper's codes, race by race
abbrev pub paper_lines : List ℕ → List (List ℕ) → List Said
paper_lines races papers = map (λ one. Paper one.0 one.1) (zip races papers)

-- each race has its results, which are few enough to be numbered
pub record HasRaces (posted : Record) : Type 0 where
  pub flags : length posted.flags ≡ length posted.plan.races
  pub places : length posted.places ≡ length posted.plan.races
  pub totals : length posted.totals ≡ length posted.plan.races
  pub few_flags : All (λ instances. length instances < 2 ^ 32) posted.flags
  pub few_totals : All (λ totals. length totals < 2 ^ 32) posted.totals

-- a list of 1 to 16 codes of the version for each race
abbrev pub ArePapers : ℕ → List ℕ → List (List ℕ) → Type 0
ArePapers version [] [] = Unit {0}
ArePapers version [] (list ∷ papers) = ⊥
ArePapers version (race ∷ races) [] = ⊥
ArePapers version (race ∷ races) (list ∷ papers) = All (IsCode version) list × (1 ≤ length list) × (length list ≤ 16) × ArePapers version races papers

-- the blocks are of rising ballots of the plan behind this one, each as its fate wants it
abbrev pub HaveFates : Plan → ℕ → List BallotBlock → Type 0
HaveFates plan last [] = Unit {0}
HaveFates plan last (one ∷ blocks) = (last < one.ballot) × (one.ballot ≤ ballots_of plan) × (is_fate plan one.ballot one.fate ≡ true) × HaveFates plan one.ballot blocks

-- the codes of the disputes are of the version
abbrev pub HaveClaims : ℕ → List DisputeBlock → Type 0
HaveClaims version [] = Unit {0}
HaveClaims version (one ∷ disputes) = IsCode version one.code × HaveCodes version one.codes × HaveClaims version disputes

-- a style that fits a line
pub record StyleFits (style : Style) : Type 0 where
  pub name : IsName style.name
  pub some : 1 ≤ length style.races
  pub most : length style.races ≤ 32
