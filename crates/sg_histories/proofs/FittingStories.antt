-- The story of a lawful history may be posted.
use Rattle.std.proofs.Common.{◌≡◌, ℕ, zero, suc, ◌+◌, ◌<◌, ◌≤◌, ◌==◌, nat_lt, nat_le, Bool, true, false, ◌&&◌, ◌||◌, not, List, [], ◌∷◌, ◌++◌, length, map, filter, refl, ap, sym, if◌then◌else◌, ◌∙◌, arith, subst}
use Rattle.std.specs.List.{All, list_all, range_with_len}
use Rattle.std.specs.Option.{option_map}
use Rattle.std.proofs.lemmas.Bool.{and_from, and_parts, eqb-true}
use Rattle.std.proofs.lemmas.Bool.Decides.{nat_tests}
use Rattle.std.proofs.lemmas.List.{append_assoc, length-map}
use Rattle.std.proofs.lemmas.List.Elements.{All-head, All-tail}
use Rattle.sg_lists.proofs.Options.{is_none-true}
use Rattle.sg_plan.specs.Ballots.{ballot_has, ballots_of, candidates_of, races_of_ballot}
use Rattle.sg_plan.specs.Codes.{codes_of, is_code}
use Rattle.sg_plan.specs.Fates.{are_codes, fate_fits, has_mark, is_in, mark_fits, marks_differ, paper_fits}
use Rattle.sg_plan.specs.Limits.{each_keeps, first_bad}
use Rattle.sg_plan.specs.declared.plan.Draw.{Draw}
use Rattle.sg_plan.specs.declared.plan.Draw.TheVariants as draw
use Rattle.sg_plan.specs.declared.plan.Fate.{Fate}
use Rattle.sg_plan.specs.declared.plan.Fate.TheVariants as fate
use Rattle.sg_plan.specs.declared.plan.Mark.{Mark}
use Rattle.sg_plan.specs.declared.plan.Plan.{Plan}
use Rattle.sg_plan.specs.declared.plan.Stage.{Stage}
use Rattle.sg_plan.specs.declared.plan.Stage.TheVariants as stage
use Rattle.sg_plan.proofs.FateLists.{has_among}
use Rattle.sg_streams.specs.Numbers.{numbers_below}
use Rattle.sg_forms.specs.Spelling.{IsCode}
use Rattle.sg_record.specs.Formed.{is_draw}
use Rattle.sg_acts.specs.declared.asks.Act.{Act}
use Rattle.sg_acts.specs.declared.asks.Act.TheVariants as act
use Rattle.sg_acts.specs.declared.replies.FateWord.TheVariants as word
use Rattle.sg_acts.specs.declared.replies.Phase.TheVariants as phase
use Rattle.sg_acts.specs.declared.replies.Reply.TheVariants as reply
use Rattle.sg_keeper.specs.declared.setup.Setup.{Setup}
use Rattle.sg_post.specs.Fits.{claim_fits, fates_fit, stage_fits}
use Rattle.sg_post.specs.declared.story.Claimed.{Claimed}
use Rattle.sg_post.specs.declared.story.Told.{Told}
use Rattle.sg_histories.specs.Answers.{audit_refusal, early_refusal, fits_races, is_ballot, scan_refusal}
use Rattle.sg_histories.specs.Histories.{Entry, claims_of, fate_after, fate_of, stage_of}
use Rattle.sg_histories.specs.HistoryLaws.{StoriesFit}
use Rattle.sg_histories.specs.Lawful.{IsAskable, Lawful}
use Rattle.sg_histories.specs.Stories.{answered, is_unused_fate, told_fates, told_of}
use Rattle.sg_histories.specs.ValidRows.{fits}
use Rattle.sg_histories.specs.declared.kept.Claim.{Claim}
use Rattle.sg_histories.proofs.Accepted.{early, first_none, passed}
use Rattle.sg_histories.proofs.Back.{all_from, each_from}
use Rattle.sg_histories.proofs.FewMarks.{inside_not, map_none}
use Rattle.sg_histories.proofs.Fitting.{audit_fits, fits_new}
use Rattle.sg_histories.proofs.Out.{drawn_fits}
use Rattle.sg_histories.proofs.OutDones.{ClaimsFit, claims_fit}

-- MARKS

-- a mark that stands once is not among the later ones
later_differ : (x : Mark) (front back xs : List Mark) → each_keeps (λ earlier mark. not (has_mark earlier mark.race mark.candidate)) (front ++ x ∷ back) xs ≡ true → has_mark xs x.race x.candidate ≡ false
later_differ x front back [] e = refl
later_differ x front back (y ∷ ys) e =
    let parts = and_parts (not (has_mark (front ++ x ∷ back) y.race y.candidate)) (each_keeps (λ earlier mark. not (has_mark earlier mark.race mark.candidate)) ((front ++ x ∷ back) ++ y ∷ []) ys) e in
    let apart : (x.race == y.race && x.candidate == y.candidate) ≡ false = inside_not (λ m. m.race == y.race && m.candidate == y.candidate) front x back parts.0 in
    let next : each_keeps (λ earlier mark. not (has_mark earlier mark.race mark.candidate)) (front ++ x ∷ (back ++ y ∷ [])) ys ≡ true
    = subst (λ (l : List Mark). each_keeps (λ earlier mark. not (has_mark earlier mark.race mark.candidate)) l ys ≡ true) (append_assoc front (x ∷ back) (y ∷ [])) parts.1 in
    or_false (y.race == x.race && y.candidate == x.candidate) (has_mark ys x.race x.candidate) (turned x.race y.race x.candidate y.candidate apart) (later_differ x front (back ++ y ∷ []) ys next)
  where
    turned : (a b c d : ℕ) → (a == b && c == d) ≡ false → (b == a && d == c) ≡ false
    turned a b c d k = grind (arith, nat_tests, k)

    or_false : (a b : Bool) → a ≡ false → b ≡ false → (a || b) ≡ false
    or_false a b s t = rw (s, t) refl

differ_all : (earlier xs : List Mark) → each_keeps (λ before mark. not (has_mark before mark.race mark.candidate)) earlier xs ≡ true → marks_differ xs ≡ true
differ_all earlier [] e = refl
differ_all earlier (x ∷ xs) e =
    let parts = and_parts (not (has_mark earlier x.race x.candidate)) (each_keeps (λ before mark. not (has_mark before mark.race mark.candidate)) (earlier ++ x ∷ []) xs) e in
    let new : not (has_mark xs x.race x.candidate) ≡ true = ap not (later_differ x earlier [] xs parts.1) in
    and_from (not (has_mark xs x.race x.candidate)) (marks_differ xs) new (differ_all (earlier ++ x ∷ []) xs parts.1)

both_all : {A : Type 0} (p q : A → Bool) (xs : List A) → list_all p xs ≡ true → list_all q xs ≡ true → list_all (λ x. p x && q x) xs ≡ true
both_all p q [] a b = refl
both_all p q (x ∷ xs) a b =
    let s = and_parts (p x) (list_all p xs) a in
    let t = and_parts (q x) (list_all q xs) b in
    and_from (p x && q x) (list_all (λ y. p y && q y) xs) (and_from (p x) (q x) s.0 t.0) (both_all p q xs s.1 t.1)

-- the candidates of a scan that fits are those of its races
pub candidates_pass : (plan : Plan) (ballot : ℕ) (marks : List Mark) → fits plan (act.Scan ballot marks) ≡ true → list_all (λ mark. nat_lt mark.candidate (candidates_of plan mark.race)) marks ≡ true
candidates_pass plan ballot marks f =
    let one = first_none (early_refusal plan phase.Voting word.Unused ballot) _ (is_none-true (scan_refusal plan phase.Voting word.Unused ballot marks) f) in
    let two = first_none (option_map reply.Race (first_bad (λ earlier mark. ballot_has plan ballot mark.race) [] marks)) _ one.1 in
    let three = first_none (option_map reply.Candidate (first_bad (λ earlier mark. nat_lt mark.candidate (candidates_of plan mark.race)) [] marks)) _ two.1 in
    all_from (λ earlier mark. nat_lt mark.candidate (candidates_of plan mark.race)) (λ mark. nat_lt mark.candidate (candidates_of plan mark.race)) (λ front (mark : Mark) k. k) [] marks
    (each_from (λ earlier mark. nat_lt mark.candidate (candidates_of plan mark.race)) marks (map_none reply.Candidate _ three.0))

scan_fate : (plan : Plan) (ballot : ℕ) (marks : List Mark) → fits plan (act.Scan ballot marks) ≡ true → fate_fits plan ballot (fate.Cast marks) ≡ true
scan_fate plan ballot marks f =
    let one = first_none (early_refusal plan phase.Voting word.Unused ballot) _ (is_none-true (scan_refusal plan phase.Voting word.Unused ballot marks) f) in
    let two = first_none (option_map reply.Race (first_bad (λ earlier mark. ballot_has plan ballot mark.race) [] marks)) _ one.1 in
    let three = first_none (option_map reply.Candidate (first_bad (λ earlier mark. nat_lt mark.candidate (candidates_of plan mark.race)) [] marks)) _ two.1 in
    let four = first_none (option_map reply.Twice (first_bad (λ earlier mark. not (has_mark earlier mark.race mark.candidate)) [] marks)) _ three.1 in
    let known = (early plan phase.Voting word.Unused ballot one.0).ballot_is in
    let races : list_all (λ mark. is_in (races_of_ballot plan ballot) mark.race) marks ≡ true
    = all_from (λ earlier mark. ballot_has plan ballot mark.race) (λ mark. is_in (races_of_ballot plan ballot) mark.race) (λ front (mark : Mark) k. sym (has_among plan ballot mark.race) ∙ k) [] marks
    (each_from (λ earlier mark. ballot_has plan ballot mark.race) marks (map_none reply.Race _ two.0)) in
    let candidates = candidates_pass plan ballot marks f in
    let differ = differ_all [] marks (each_from (λ earlier mark. not (has_mark earlier mark.race mark.candidate)) marks (map_none reply.Twice _ four.0)) in
    and_from (is_ballot plan ballot) (list_all (mark_fits plan (races_of_ballot plan ballot)) marks && marks_differ marks) known
    (and_from (list_all (mark_fits plan (races_of_ballot plan ballot)) marks) (marks_differ marks)
    (both_all (λ mark. is_in (races_of_ballot plan ballot) mark.race) (λ mark. nat_lt mark.candidate (candidates_of plan mark.race)) marks races candidates) differ)

-- PAPERS

code_tests : (plan : Plan) (list : List ℕ) → All (IsCode plan.version) list → list_all (is_code plan) list ≡ true
code_tests plan [] all = refl
code_tests plan (code ∷ list) all =
    let low : code < codes_of plan.version = All-head (IsCode plan.version) code list all in
    and_from (nat_lt code (codes_of plan.version)) (list_all (is_code plan) list) (grind (arith, nat_tests, low)) (code_tests plan list (All-tail (IsCode plan.version) code list all))

paper_good : (plan : Plan) (races : List ℕ) (paper : List (List ℕ)) → fits_races plan races paper ≡ true → All (All (IsCode plan.version)) paper → paper_fits plan races paper ≡ true
paper_good plan [] [] e all = refl
paper_good plan [] (list ∷ paper) e all = cc
paper_good plan (race ∷ races) [] e all = cc
paper_good plan (race ∷ races) (list ∷ paper) e all =
    let parts = and_parts (length list == candidates_of plan race) (fits_races plan races paper) e in
    and_from (are_codes plan race list) (paper_fits plan races paper)
    (and_from (length list == candidates_of plan race) (list_all (is_code plan) list) parts.0 (code_tests plan list (All-head (All (IsCode plan.version)) list paper all)))
    (paper_good plan races paper parts.1 (All-tail (All (IsCode plan.version)) list paper all))

audit_fate : (plan : Plan) (ballot : ℕ) (paper : List (List ℕ)) → fits plan (act.Audit ballot paper) ≡ true → All (All (IsCode plan.version)) paper → fate_fits plan ballot (fate.Audited paper) ≡ true
audit_fate plan ballot paper f all =
    let parts = audit_fits plan phase.Voting word.Unused ballot paper (is_none-true (audit_refusal plan phase.Voting word.Unused ballot paper) f) in
    and_from (is_ballot plan ballot) (paper_fits plan (races_of_ballot plan ballot) paper) parts.0 (paper_good plan (races_of_ballot plan ballot) paper parts.1 all)

-- FATES

-- a fate that is unused or fits its ballot
abbrev pub FitsBallot : Plan → ℕ → Fate → Type 0
FitsBallot plan ballot told = is_unused_fate told ≡ false → fate_fits plan ballot told ≡ true

fate_moves : (plan : Plan) (b ballot : ℕ) (new before : Fate) → fate_fits plan b new ≡ true → FitsBallot plan ballot before → FitsBallot plan ballot (if b == ballot then new else before)
fate_moves plan b ballot new before good old = by_test (b == ballot) refl
  where
    by_test : (t : Bool) → (b == ballot) ≡ t → FitsBallot plan ballot (if t then new else before)
    by_test true k used = subst (λ (n : ℕ). fate_fits plan n new ≡ true) (eqb-true b ballot k) good
    by_test false k used = old used

ballot_only : (a : Bool) → a ≡ true → (a && true) ≡ true
ballot_only a e = rw e refl

fate_after_fits : (setup : Setup) (ballot : ℕ) (done : Act) (before : Fate) → IsAskable setup done → fits setup.plan done ≡ true → FitsBallot setup.plan ballot before → FitsBallot setup.plan ballot (fate_after ballot done before)
fate_after_fits setup ballot (act.Scan b marks) before is f old = fate_moves setup.plan b ballot (fate.Cast marks) before (scan_fate setup.plan b marks f) old
fate_after_fits setup ballot (act.Spoil b) before is f old =
    fate_moves setup.plan b ballot fate.Spoiled before (ballot_only (is_ballot setup.plan b) (early setup.plan phase.Voting word.Unused b (is_none-true (early_refusal setup.plan phase.Voting word.Unused b) f)).ballot_is) old
fate_after_fits setup ballot (act.Audit b paper) before is f old = fate_moves setup.plan b ballot (fate.Audited paper) before (audit_fate setup.plan b paper f is.codes) old
fate_after_fits setup ballot (act.Void b) before is f old = fate_moves setup.plan b ballot fate.Voided before (ballot_only (is_ballot setup.plan b) f) old
fate_after_fits setup ballot act.Close before is f old = old
fate_after_fits setup ballot (act.Draw drawn) before is f old = old
fate_after_fits setup ballot (act.Claim b race code) before is f old = old

pub fate_is_fit : (setup : Setup) (history : List Entry) → Lawful setup history → (ballot : ℕ) → FitsBallot setup.plan ballot (fate_of history ballot)
fate_is_fit setup [] lawful ballot = λ used. cc
fate_is_fit setup (entry ∷ history) lawful ballot =
    let k = passed setup history lawful.0.stamp entry.act lawful.0.accepted in
    fate_after_fits setup ballot entry.act (fate_of history ballot) lawful.0.act_is (fits_new setup history lawful.0.stamp.station entry.act lawful.0.act_is k.refusal)
    (fate_is_fit setup history lawful.1 ballot)

told_fit : (plan : Plan) (fates : ℕ → Fate) → ((ballot : ℕ) → FitsBallot plan ballot (fates ballot)) → (count first last : ℕ) → last ≤ first
    → fates_fit plan last (filter (λ told. not (is_unused_fate told.fate)) (map (λ place. told_of fates (place + 1)) (range_with_len first count))) ≡ true
told_fit plan fates good zero first last low = refl
told_fit plan fates good (suc count) first last low =
    by_test (is_unused_fate (fates (first + 1))) refl (told_fit plan fates good count (first + 1) last (omega (arith, low))) (told_fit plan fates good count (first + 1) (first + 1) (omega arith))
  where
    rest : List Told
    rest = filter (λ told. not (is_unused_fate told.fate)) (map (λ place. told_of fates (place + 1)) (range_with_len (first + 1) count))

    behind : (a b : ℕ) → a ≤ b → nat_lt a (b + 1) ≡ true
    behind a b h = grind (arith, nat_tests, h)

    by_test : (t : Bool) → is_unused_fate (fates (first + 1)) ≡ t → fates_fit plan last rest ≡ true → fates_fit plan (first + 1) rest ≡ true → fates_fit plan last (if not t then told_of fates (first + 1) ∷ rest else rest) ≡ true
    by_test true k before behind_it = before
    by_test false k before behind_it =
        and_from (nat_lt last (first + 1) && fate_fits plan (first + 1) (fates (first + 1))) (fates_fit plan (first + 1) rest)
        (and_from (nat_lt last (first + 1)) (fate_fits plan (first + 1) (fates (first + 1))) (behind last first low) (good (first + 1) k)) behind_it

-- CLAIMS AND THE STAGE

claims_good : (plan : Plan) (seed : List ℕ) (fates : ℕ → Fate) (kept : List Claim) → list_all (λ claim. fits plan (act.Claim claim.ballot claim.race claim.code)) kept ≡ true
    → list_all (claim_fits plan) (map (answered plan seed fates) kept) ≡ true
claims_good plan seed fates [] all = refl
claims_good plan seed fates (claim ∷ kept) all =
    let parts = and_parts (fits plan (act.Claim claim.ballot claim.race claim.code)) (list_all (λ k. fits plan (act.Claim k.ballot k.race k.code)) kept) all in
    let claim_good = and_parts (is_ballot plan claim.ballot) (ballot_has plan claim.ballot claim.race && nat_lt claim.code (codes_of plan.version)) parts.0 in
    and_from (claim_fits plan (answered plan seed fates claim)) (list_all (claim_fits plan) (map (answered plan seed fates) kept)) claim_good.1 (claims_good plan seed fates kept parts.1)

none_kept : (f : Claim → Claimed) (kept : List Claim) → kept ≡ [] → (length (map f kept) == 0) ≡ true
none_kept f [] e = refl
none_kept f (x ∷ xs) e = cc

stage_good : (plan : Plan) (now : Stage) (kept : List Claim) (f : Claim → Claimed) → ClaimsFit plan now kept → ((drawn : Draw) → now ≡ stage.Drawn drawn → is_draw drawn ≡ true) → stage_fits now (map f kept) ≡ true
stage_good plan stage.Voting kept f good drawn_good = none_kept f kept (good.early refl)
stage_good plan stage.Closed kept f good drawn_good = none_kept f kept (good.early refl)
stage_good plan (stage.Drawn drawn) kept f good drawn_good =
    let long = length-map kept f in
    let few = good.few in
    and_from (is_draw drawn) (nat_le (length (map f kept)) 10000) (drawn_good drawn refl) (low (length (map f kept)) (omega (arith, long, few)))
  where
    low : (n : ℕ) → n ≤ 10000 → nat_le n 10000 ≡ true
    low n h = grind (arith, nat_tests, h)

pub stories_fit : StoriesFit
unfolding numbers_below
stories_fit setup history lawful =
    let kept = claims_fit setup history lawful in
    and_from (fates_fit setup.plan 0 (told_fates setup.plan (fate_of history)))
    (stage_fits (stage_of history) (map (answered setup.plan setup.seed.0 (fate_of history)) (claims_of history)) && list_all (claim_fits setup.plan) (map (answered setup.plan setup.seed.0 (fate_of history)) (claims_of history)))
    (told_fit setup.plan (fate_of history) (fate_is_fit setup history lawful) (ballots_of setup.plan) 0 0 (omega arith))
    (and_from (stage_fits (stage_of history) (map (answered setup.plan setup.seed.0 (fate_of history)) (claims_of history)))
    (list_all (claim_fits setup.plan) (map (answered setup.plan setup.seed.0 (fate_of history)) (claims_of history)))
    (stage_good setup.plan (stage_of history) (claims_of history) (answered setup.plan setup.seed.0 (fate_of history)) kept (λ drawn e. (drawn_fits setup history drawn lawful e).1))
    (claims_good setup.plan setup.seed.0 (fate_of history) (claims_of history) kept.fit))
