-- Tables in which nothing is told.
use Rattle.std.specs.Prelude.{◌≡◌, ◌*◌, false, [], length, replicate, None}
use Rattle.sg_ledger.specs.declared.blank.Blank.{Blank}
use Rattle.sg_ledger.specs.declared.ledger.Ledger.{Ledger}
use Rattle.sg_ledger.specs.inside.Sizes.{AreSizes}
use Rattle.sg_plan.specs.Ballots.{all_entries, r_rows}
use Rattle.sg_plan.specs.declared.plan.Plan.{Plan}

-- the tables have a place for each coordinate of the plan, and nothing is told in them
pub record IsBlank (plan : Plan) (blank : Blank) : Type 0 where
  pub sizes : AreSizes plan blank.sizes
  pub codes : blank.commitments.codes ≡ replicate (all_entries plan) None
  pub lefts : blank.commitments.lefts ≡ replicate (r_rows plan) None
  pub rights : blank.commitments.rights ≡ replicate (r_rows plan) None
  pub known : blank.codes.known ≡ replicate (all_entries plan) None
  pub marked : blank.codes.marked ≡ replicate (all_entries plan) false
  pub marks : blank.codes.marks ≡ replicate (all_entries plan) 0
  pub flagged : blank.bits.flagged ≡ replicate (r_rows plan) false
  pub places : blank.bits.places ≡ replicate (all_entries plan) false
  pub votes : blank.bits.votes ≡ replicate (16 * length plan.races) 0
  pub seen_lefts : blank.pointers.lefts ≡ replicate (r_rows plan) false
  pub seen_rights : blank.pointers.rights ≡ replicate (r_rows plan) false
  pub paths : blank.paths ≡ replicate (all_entries plan) None
  pub audited : blank.audits.audited ≡ replicate (all_entries plan) false
  pub papers : blank.audits.papers ≡ replicate (all_entries plan) None
  pub audit_counts : blank.audits.entries ≡ replicate (length plan.races) 0
  pub both_counts : blank.audits.boths ≡ replicate (16 * length plan.races) 0
  pub totals : blank.totals ≡ []

-- the ledger with these tables
abbrev pub ledger_with : Plan → Blank → Ledger
ledger_with plan blank = record {
  book = plan;
  commitments = blank.commitments;
  codes = blank.codes;
  bits = blank.bits;
  pointers = blank.pointers;
  paths = blank.paths;
  audits = blank.audits;
  drawn = record { full = false; coins = None };
  claim = None;
  totals = blank.totals;
}
