-- Empty tables tell the lines of the plan.
use Rattle.std.proofs.Common.{◌≡◌, ℕ, ◌+◌, ◌*◌, ◌/◌, ◌%◌, ◌<◌, min, false, List, [], ◌∷◌, ◌++◌, if◌then◌else◌, length, get_or, slice_get, replicate, Option, Some, None, is_some, count_by, inl, inr, refl, sym, ap, ◌∙◌, arith}
use Rattle.std.proofs.lemmas.Bool.{cases_lt}
use Rattle.std.proofs.lemmas.List.{get_or-replicate, get_or_append_left, get_or_at, length-append, length-replicate}
use Rattle.std.proofs.lemmas.Option.{get_or_from_slice_get, slice_get-get_or}
use Rattle.std.specs.Option.{option_map}
use Rattle.sg_forms.specs.Reading.{bytes_of_digits}
use Rattle.sg_check.specs.Facts.{DisputedCode, audits_entry, audits_race, commits_code, commits_half, draws_digits, draws_full, flags_row, last_claim, marks_ballot, marks_entry, opens_both, opens_pointer, sets_place, shows_paper, votes_for, votes_on}
use Rattle.sg_ledger.proofs.Lists.{of_plan-any, of_plan-given, of_plan-placed, of_plan-sum, of_plan-totals}
use Rattle.sg_ledger.specs.inside.Tables.{most_marks, most_votes}
use Rattle.sg_check.specs.Judging.{AreOfPlan, IsOfPlan}
use Rattle.sg_ledger.specs.Tells.{IsSized, Tells, candidate_place, instance_place, kept_of, leads_entry, shows_entry}
use Rattle.sg_ledger.specs.declared.blank.Blank.{Blank}
use Rattle.sg_ledger.specs.inside.Blank.{IsBlank, ledger_with}
use Rattle.sg_plan.proofs.PlanLaws.{entry_place-below, entry_tells, row_place-below}
use Rattle.sg_plan.specs.declared.plan.Side.TheVariants as side
use Rattle.sg_plan.specs.Ballots.{all_entries, candidates_of, entry_at, entry_place, r_rows, row_place}
use Rattle.sg_plan.specs.Laws.{Bounds}
use Rattle.sg_plan.specs.declared.plan.Plan.{Plan}
use Rattle.sg_streams.specs.CoinSides.{coin_seed}
use Rattle.sg_grammar.specs.Placed.{Placed}
use Rattle.sg_grammar.specs.Placed.Placed.{OfPlan}

sized : {A : Type 0} (table : List A) (count : ℕ) (value : A) → table ≡ replicate count value → length table ≡ count
sized table count value is = ap length is ∙ length-replicate count value

holds : {A : Type 0} (table : List A) (count : ℕ) (value : A) (place : ℕ) (none : A) → table ≡ replicate count value → place < count → get_or table place none ≡ value
holds {A} table count value place none is below = ap (λ (t : List A). get_or t place none) is ∙ get_or-replicate count place value none below

pub made_sized : (plan : Plan) (blank : Blank) → IsBlank plan blank → IsSized plan (ledger_with plan blank)
made_sized plan blank made = record {
  book = refl;
  codes = sized blank.commitments.codes (all_entries plan) None made.codes;
  lefts = sized blank.commitments.lefts (r_rows plan) None made.lefts;
  rights = sized blank.commitments.rights (r_rows plan) None made.rights;
  known = sized blank.codes.known (all_entries plan) None made.known;
  marked = sized blank.codes.marked (all_entries plan) false made.marked;
  marks = sized blank.codes.marks (all_entries plan) 0 made.marks;
  flagged = sized blank.bits.flagged (r_rows plan) false made.flagged;
  places = sized blank.bits.places (all_entries plan) false made.places;
  votes = sized blank.bits.votes (16 * length plan.races) 0 made.votes;
  seen_lefts = sized blank.pointers.lefts (r_rows plan) false made.seen_lefts;
  seen_rights = sized blank.pointers.rights (r_rows plan) false made.seen_rights;
  paths = sized blank.paths (all_entries plan) None made.paths;
  audited = sized blank.audits.audited (all_entries plan) false made.audited;
  papers = sized blank.audits.papers (all_entries plan) None made.papers;
  audit_counts = sized blank.audits.entries (length plan.races) 0 made.audit_counts;
  both_counts = sized blank.audits.boths (16 * length plan.races) 0 made.both_counts;
}

-- a line of the plan has no fact

no_code : (race entry : ℕ) (line : Placed) → IsOfPlan line → commits_code race entry line ≡ None
no_code race entry (OfPlan said) is = refl
no_code race entry line is = absurd is

no_left : (race instance row : ℕ) (line : Placed) → IsOfPlan line → commits_half side.Left race instance row line ≡ None
no_left race instance row (OfPlan said) is = refl
no_left race instance row line is = absurd is

no_right : (race instance row : ℕ) (line : Placed) → IsOfPlan line → commits_half side.Right race instance row line ≡ None
no_right race instance row (OfPlan said) is = refl
no_right race instance row line is = absurd is

no_shown : (plan : Plan) (race entry shown : ℕ) (line : Placed) → IsOfPlan line → shows_entry plan race entry shown line ≡ false
no_shown plan race entry shown (OfPlan said) is = refl
no_shown plan race entry shown line is = absurd is

no_mark : (plan : Plan) (race entry : ℕ) (line : Placed) → IsOfPlan line → marks_entry plan race entry line ≡ false
no_mark plan race entry (OfPlan said) is = refl
no_mark plan race entry line is = absurd is

no_count : (ballot race : ℕ) (line : Placed) → IsOfPlan line → ◌≡◌ {A = ℕ} (if marks_ballot ballot race line then 1 else 0) 0
no_count ballot race (OfPlan said) is = refl
no_count ballot race line is = absurd is

no_flag : (race instance row : ℕ) (line : Placed) → IsOfPlan line → flags_row race instance row line ≡ false
no_flag race instance row (OfPlan said) is = refl
no_flag race instance row line is = absurd is

no_place : (race place : ℕ) (line : Placed) → IsOfPlan line → sets_place race place line ≡ false
no_place race place (OfPlan said) is = refl
no_place race place line is = absurd is

no_vote : (plan : Plan) (race candidate : ℕ) (line : Placed) → IsOfPlan line → votes_on plan race candidate line ≡ 0
no_vote plan race candidate (OfPlan said) is = refl
no_vote plan race candidate line is = absurd is

no_seen_left : (race instance pointer : ℕ) (line : Placed) → IsOfPlan line → opens_pointer side.Left race instance pointer line ≡ false
no_seen_left race instance pointer (OfPlan said) is = refl
no_seen_left race instance pointer line is = absurd is

no_seen_right : (race instance pointer : ℕ) (line : Placed) → IsOfPlan line → opens_pointer side.Right race instance pointer line ≡ false
no_seen_right race instance pointer (OfPlan said) is = refl
no_seen_right race instance pointer line is = absurd is

no_path : (plan : Plan) (race entry place : ℕ) (line : Placed) → IsOfPlan line → leads_entry plan race entry place line ≡ false
no_path plan race entry place (OfPlan said) is = refl
no_path plan race entry place line is = absurd is

no_audit : (plan : Plan) (race entry : ℕ) (line : Placed) → IsOfPlan line → audits_entry plan race entry line ≡ None
no_audit plan race entry (OfPlan said) is = refl
no_audit plan race entry line is = absurd is

no_paper : (plan : Plan) (race row candidate : ℕ) (line : Placed) → IsOfPlan line → shows_paper plan race row candidate line ≡ None
no_paper plan race row candidate (OfPlan said) is = refl
no_paper plan race row candidate line is = absurd is

no_audit_count : (race : ℕ) (line : Placed) → IsOfPlan line → ◌≡◌ {A = ℕ} (if audits_race race line then 1 else 0) 0
no_audit_count race (OfPlan said) is = refl
no_audit_count race line is = absurd is

no_both : (race instance : ℕ) (line : Placed) → IsOfPlan line → ◌≡◌ {A = ℕ} (if opens_both race instance line then 1 else 0) 0
no_both race instance (OfPlan said) is = refl
no_both race instance line is = absurd is

no_full : (line : Placed) → IsOfPlan line → draws_full line ≡ false
no_full (OfPlan said) is = refl
no_full line is = absurd is

no_digits : (line : Placed) → IsOfPlan line → draws_digits line ≡ None
no_digits (OfPlan said) is = refl
no_digits line is = absurd is

no_claim : (lines : List Placed) → AreOfPlan lines → last_claim lines ≡ None
no_claim [] are = refl
no_claim (OfPlan said ∷ lines) are = no_claim lines are.1
no_claim (line ∷ lines) are = absurd are.0

min-none : (most count : ℕ) → count ≡ 0 → 0 ≡ min count most
min-none most count none = omega arith

pub made_tells : (plan : Plan) (blank : Blank) → Bounds plan → IsBlank plan blank → (lines : List Placed) → AreOfPlan lines → Tells plan (ledger_with plan blank) lines
made_tells plan blank bounds made lines are = record {
  sized = made_sized plan blank made;
  placed = of_plan-placed plan lines are;
  commitments = record {
    codes = λ r e r_in e_in. holds blank.commitments.codes (all_entries plan) None (entry_place plan r e) None made.codes (entry_place-below plan r e r_in e_in) ∙ sym (of_plan-given (commits_code r e) lines are (no_code r e));
    lefts = λ r i k r_in i_in k_in. holds blank.commitments.lefts (r_rows plan) None (row_place plan r i k) None made.lefts (row_place-below plan r i k r_in i_in k_in) ∙ sym (of_plan-given (commits_half side.Left r i k) lines are (no_left r i k));
    rights = λ r i k r_in i_in k_in. holds blank.commitments.rights (r_rows plan) None (row_place plan r i k) None made.rights (row_place-below plan r i k r_in i_in k_in) ∙ sym (of_plan-given (commits_half side.Right r i k) lines are (no_right r i k));
  };
  codes = record {
    known = λ r e r_in e_in shown. rw (holds blank.codes.known (all_entries plan) None (entry_place plan r e) None made.known (entry_place-below plan r e r_in e_in)) (of_plan-any (shows_entry plan r e shown) lines are (no_shown plan r e shown));
    marked = λ r e r_in e_in. holds blank.codes.marked (all_entries plan) false (entry_place plan r e) false made.marked (entry_place-below plan r e r_in e_in) ∙ sym (of_plan-any (marks_entry plan r e) lines are (no_mark plan r e));
    marks = λ r b r_in has.
        let below = (entry_tells plan r b 0 has (omega (arith, bounds.two_candidates r r_in))).below in
        holds blank.codes.marks (all_entries plan) 0 (entry_place plan r (entry_at plan r b 0)) 0 made.marks (entry_place-below plan r (entry_at plan r b 0) r_in below)
        ∙ min-none most_marks (count_by (marks_ballot b r) lines) (of_plan-sum (λ (x : Placed). if marks_ballot b r x then 1 else 0) lines are (no_count b r));
  };
  bits = record {
    flagged = λ r i k r_in i_in k_in. holds blank.bits.flagged (r_rows plan) false (row_place plan r i k) false made.flagged (row_place-below plan r i k r_in i_in k_in) ∙ sym (of_plan-any (flags_row r i k) lines are (no_flag r i k));
    places = λ r e r_in e_in. holds blank.bits.places (all_entries plan) false (entry_place plan r e) false made.places (entry_place-below plan r e r_in e_in) ∙ sym (of_plan-any (sets_place r e) lines are (no_place r e));
    votes = λ r c r_in c_in.
        holds blank.bits.votes (16 * length plan.races) 0 (candidate_place r c) 0 made.votes (omega (arith, bounds.few_candidates r, c_in, r_in))
        ∙ min-none most_votes (votes_for plan r c lines) (of_plan-sum (votes_on plan r c) lines are (no_vote plan r c));
  };
  pointers = record {
    lefts = λ r i k r_in i_in k_in. holds blank.pointers.lefts (r_rows plan) false (row_place plan r i k) false made.seen_lefts (row_place-below plan r i k r_in i_in k_in) ∙ sym (of_plan-any (opens_pointer side.Left r i k) lines are (no_seen_left r i k));
    rights = λ r i k r_in i_in k_in. holds blank.pointers.rights (r_rows plan) false (row_place plan r i k) false made.seen_rights (row_place-below plan r i k r_in i_in k_in) ∙ sym (of_plan-any (opens_pointer side.Right r i k) lines are (no_seen_right r i k));
  };
  paths = λ r e r_in e_in place. rw (holds blank.paths (all_entries plan) None (entry_place plan r e) None made.paths (entry_place-below plan r e r_in e_in)) (of_plan-any (leads_entry plan r e place) lines are (no_path plan r e place));
  audits = record {
    audited = λ r e r_in e_in.
        holds blank.audits.audited (all_entries plan) false (entry_place plan r e) false made.audited (entry_place-below plan r e r_in e_in)
        ∙ sym (ap (λ (o : Option ℕ). is_some o) (of_plan-given (audits_entry plan r e) lines are (no_audit plan r e)));
    papers = λ r e r_in e_in.
        holds blank.audits.papers (all_entries plan) None (entry_place plan r e) None made.papers (entry_place-below plan r e r_in e_in)
        ∙ sym (of_plan-given (shows_paper plan r (e / candidates_of plan r) (e % candidates_of plan r)) lines are (no_paper plan r (e / candidates_of plan r) (e % candidates_of plan r)));
    entries = λ r r_in.
        holds blank.audits.entries (length plan.races) 0 r 0 made.audit_counts r_in
        ∙ min-none most_marks (count_by (audits_race r) lines) (of_plan-sum (λ (x : Placed). if audits_race r x then 1 else 0) lines are (no_audit_count r));
    boths = λ r i r_in i_in.
        holds blank.audits.boths (16 * length plan.races) 0 (instance_place r i) 0 made.both_counts (omega (arith, bounds.few_instances, i_in, r_in))
        ∙ min-none most_marks (count_by (opens_both r i) lines) (of_plan-sum (λ (x : Placed). if opens_both r i x then 1 else 0) lines are (no_both r i));
    few = λ r i r_in i_in.
        let none : count_by (opens_both r i) lines ≡ 0 = of_plan-sum (λ (x : Placed). if opens_both r i x then 1 else 0) lines are (no_both r i) in
        omega (arith, none);
  };
  drawn = record {
    full = sym (of_plan-any draws_full lines are no_full);
    coins = sym (ap (λ (o : Option (List ℕ)). option_map coin_seed (option_map bytes_of_digits o)) (of_plan-given draws_digits lines are no_digits));
  };
  claim = sym (ap (λ (o : Option DisputedCode). option_map kept_of o) (no_claim lines are));
  totals = made.totals ∙ sym (of_plan-totals lines are);
}

-- SIZES

-- a list that holds a function's values, with one more
pub values-push : (xs : List ℕ) (f : ℕ → ℕ) (n x : ℕ) → length xs ≡ n → x ≡ f n → ((k : ℕ) → k < n → slice_get xs k ≡ Some (f k))
    → (k : ℕ) → k < n + 1 → slice_get (xs ++ x ∷ []) k ≡ Some (f k)
values-push xs f n x len is values k below =
    slice_get-get_or (xs ++ x ∷ []) k 0 (omega (arith, len, length-append xs (x ∷ [])))
    ∙ ap Some (elim (cases_lt k n) [
      | inl before ↦ get_or_append_left xs (x ∷ []) 0 k (omega (arith, len)) ∙ get_or_from_slice_get xs k (f k) 0 (values k before)
      | inr last ↦
          let at : n ≡ k = omega arith in
          get_or_at xs x [] 0 k (len ∙ at) ∙ (is ∙ ap f at)
    ])
