-- The rows of a lawful history: claims, and done rows, which are as many of each act as the other tables tell.
use Rattle.std.proofs.Common.{◌≡◌, ℕ, zero, suc, ◌+◌, ◌<◌, ◌≤◌, ◌^◌, nat_lt, Bool, true, false, ◌&&◌, cond, List, [], ◌∷◌, ◌++◌, length, map, count_by, bytes_eq, slice_get, Option, Some, None, refl, ap, sym, ◌∙◌, arith}
use Rattle.std.specs.List.{filter_map, join_with_byte, list_all}
use Rattle.std.specs.Option.{option_map_or}
use Rattle.std.specs.Ordering.{int_eq}
use Rattle.std.specs.Prelude.{pos, int_lt}
use Rattle.std.proofs.lemmas.Bool.Decides.{nat_tests}
use Rattle.std.proofs.lemmas.Grind.{common_steps}
use Rattle.std.proofs.lemmas.Int.{ints}
use Rattle.std.proofs.lemmas.List.{length-append}
use Rattle.std.proofs.lemmas.Bool.{both_ways}
use Rattle.sg_lists.proofs.Bools.{one_if}
use Rattle.sg_lists.proofs.Counting.{count_by-append}
use Rattle.sg_lists.proofs.Integers.{int_eq-pos}
use Rattle.sg_lists.proofs.Tests.{list_all-push}
use Rattle.sg_plan.specs.Limits.{each_keeps}
use Rattle.sg_plan.specs.declared.plan.Draw.{Draw}
use Rattle.sg_plan.specs.declared.plan.Plan.{Plan}
use Rattle.sg_plan.specs.declared.plan.Stage.{Stage}
use Rattle.sg_plan.specs.declared.plan.Stage.TheVariants as stage
use Rattle.sg_keeper.specs.Rows.{ballot_before, claim_before, done_before, done_is, is_new, put, stage_before, void_before, with_row}
use Rattle.sg_acts.specs.declared.asks.Act.{Act}
use Rattle.sg_acts.specs.declared.asks.Act.TheVariants as act
use Rattle.sg_acts.specs.declared.asks.Stamp.{Stamp}
use Rattle.sg_acts.specs.declared.replies.Reply.{Reply}
use Rattle.sg_acts.specs.declared.replies.Reply.TheVariants as reply
use Rattle.sg_keeper.specs.declared.rows.BallotRow.{BallotRow}
use Rattle.sg_keeper.specs.declared.rows.ChangeRow.TheVariants as change
use Rattle.sg_keeper.specs.declared.rows.ClaimRow.{ClaimRow}
use Rattle.sg_keeper.specs.declared.rows.DoneRow.{DoneRow}
use Rattle.sg_keeper.specs.declared.rows.Rows.{Rows}
use Rattle.sg_keeper.specs.declared.rows.StageRow.{StageRow}
use Rattle.sg_keeper.specs.declared.rows.VoidRow.{VoidRow}
use Rattle.sg_keeper.specs.declared.setup.Setup.{Setup}
use Rattle.sg_desks.specs.ActTexts.{act_text, codes_word, draw_word, mark_word}
use Rattle.sg_histories.specs.Answers.{is_drawn, is_voting, knows_secret_of, refusal_of, repeat_of, unless}
use Rattle.sg_histories.specs.Histories.{Entry, claims_after, claims_of, fate_of, fate_word, is_stamped, phase_of, phase_word, scanner_of, stage_after, stage_of}
use Rattle.sg_histories.specs.KeptRows.{done_row, row_of_act, rows_of}
use Rattle.sg_histories.specs.Lawful.{IsAskable, Lawful}
use Rattle.sg_histories.specs.ValidRows.{ballot_text, claim_keeps, claim_text, count_done, count_told, fits, is_stamp, stage_text, told_by, void_text}
use Rattle.sg_histories.specs.declared.kept.Claim.{Claim}
use Rattle.sg_histories.specs.inside.RowReading.{HasRaces, SmallBallots}
use Rattle.sg_histories.proofs.Accepted.{first_none, passed, unless_none, voids}
use Rattle.sg_histories.proofs.Fitting.{audit_row, claims, fits_new, scan_row, spoil_row}
use Rattle.sg_histories.proofs.NewKeys.{any_put}
use Rattle.sg_histories.proofs.OutRows.{paper_long, voting_stage}
use Rattle.sg_histories.proofs.Pairing.{Rises}
use Rattle.sg_histories.proofs.Rising.{all_put, count_put, done_order, put_rises}

-- CLAIMS

abbrev pub claim_row : ℕ → Claim → ClaimRow
claim_row before claim = record { claim = pos (before + 1); ballot = pos claim.ballot; race = pos claim.race; code = pos claim.code }

abbrev pub claim_rows : ℕ → List Claim → List ClaimRow
claim_rows before [] = []
claim_rows before (claim ∷ claims) = claim_row before claim ∷ claim_rows (before + 1) claims

later_claim : (a n : ℕ) → int_lt (pos ((a + suc n) + 1)) (pos (a + 1)) ≡ false
later_claim a n = grind (arith, ints)

pub put_last : (before : ℕ) (kept : List Claim) (claim : Claim) → put claim_before (claim_row (before + length kept) claim) (claim_rows before kept) ≡ claim_rows before (kept ++ claim ∷ [])
put_last before [] claim = let e : before + 0 ≡ before = omega arith in ap (λ n. claim_row n claim ∷ []) e
put_last before (c ∷ kept) claim =
    let e : before + suc (length kept) ≡ (before + 1) + length kept = omega arith in
    ap (λ b. cond b (claim_row (before + suc (length kept)) claim ∷ claim_row before c ∷ claim_rows (before + 1) kept) (claim_row before c ∷ put claim_before (claim_row (before + suc (length kept)) claim) (claim_rows (before + 1) kept))) (later_claim before (length kept))
    ∙ (ap (λ n. claim_row before c ∷ put claim_before (claim_row n claim) (claim_rows (before + 1) kept)) e ∙ ap (λ l. claim_row before c ∷ l) (put_last (before + 1) kept claim))

pub claims_out : (setup : Setup) (text : List ℕ) (history : List Entry) → (rows_of setup text history).claims ≡ claim_rows 0 (claims_of history)
claims_out setup text [] = refl
claims_out setup text (entry ∷ history) = by_act entry.act (claims_out setup text history)
  where
    by_act : (done : Act) → (rows_of setup text history).claims ≡ claim_rows 0 (claims_of history)
        → (with_row (rows_of setup text history) (row_of_act setup.plan.version (length (claims_of history)) done)).claims ≡ claim_rows 0 (claims_after done (claims_of history))
    by_act (act.Scan ballot marks) old = old
    by_act (act.Spoil ballot) old = old
    by_act (act.Audit ballot paper) old = old
    by_act (act.Void ballot) old = old
    by_act act.Close old = old
    by_act (act.Draw drawn) old = old
    by_act (act.Claim ballot race code) old =
        let claim : Claim = record { ballot = ballot; race = race; code = code } in
        let e : length (claims_of history) ≡ 0 + length (claims_of history) = omega arith in
        ap (put claim_before (claim_row (length (claims_of history)) claim)) old
        ∙ (ap (λ n. put claim_before (claim_row n claim) (claim_rows 0 (claims_of history))) e ∙ put_last 0 (claims_of history) claim)

-- the claims of a history: they fit, are few, and come only behind the draw
pub record ClaimsFit (plan : Plan) (now : Stage) (kept : List Claim) : Type 0 where
  pub fit : list_all (λ claim. fits plan (act.Claim claim.ballot claim.race claim.code)) kept ≡ true
  pub few : length kept ≤ 10000
  pub early : is_drawn (phase_word now) ≡ false → kept ≡ []

pub claims_fit : (setup : Setup) (history : List Entry) → Lawful setup history → ClaimsFit setup.plan (stage_of history) (claims_of history)
claims_fit setup [] lawful = record { fit = refl; few = omega arith; early = λ e. refl }
claims_fit setup (entry ∷ history) lawful =
    by_act entry.act lawful.0.act_is (passed setup history lawful.0.stamp entry.act lawful.0.accepted).refusal (claims_fit setup history lawful.1)
  where
    by_act : (done : Act) → IsAskable setup done → refusal_of setup history lawful.0.stamp.station done ≡ None
        → ClaimsFit setup.plan (stage_of history) (claims_of history)
        → ClaimsFit setup.plan (stage_after done (stage_of history)) (claims_after done (claims_of history))
    by_act (act.Scan ballot marks) is r old = old
    by_act (act.Spoil ballot) is r old = old
    by_act (act.Audit ballot paper) is r old = old
    by_act (act.Void ballot) is r old = old
    by_act act.Close is r old =
        let v : stage_of history ≡ stage.Voting = voting_stage (stage_of history) (unless_none (is_voting (phase_of history)) (reply.Phase (phase_of history)) (first_none (unless (is_voting (phase_of history)) (reply.Phase (phase_of history))) _ r).0) in
        record { fit = old.fit; few = old.few; early = λ e. old.early (ap (λ s. is_drawn (phase_word s)) v) }
    by_act (act.Draw drawn) is r old = record { fit = old.fit; few = old.few; early = λ e. cc }
    by_act (act.Claim ballot race code) is r old =
        let claim : Claim = record { ballot = ballot; race = race; code = code } in
        let c = claims setup.plan (phase_of history) (length (claims_of history)) ballot race r in
        let f = fits_new setup history lawful.0.stamp.station (act.Claim ballot race code) is r in
        let few : nat_lt (length (claims_of history)) 10000 ≡ true = c.few in
        record {
          fit = list_all-push (λ (k : Claim). fits setup.plan (act.Claim k.ballot k.race k.code)) (claims_of history) claim old.fit f;
          few = (let long = length-append (claims_of history) (claim ∷ []) in let few_is : length (claims_of history) < 10000 = grind (arith, nat_tests, few) in omega (arith, long, few_is));
          early = λ e. absurd (both_ways (is_drawn (phase_of history)) e c.drawn);
        }

-- the claims' rows are judged good
pub claims_each : (plan : Plan) (kept : List Claim) (earlier : List ClaimRow) (before : ℕ) → length earlier ≡ before → before + length kept ≤ 10000
    → list_all (λ claim. fits plan (act.Claim claim.ballot claim.race claim.code)) kept ≡ true
    → each_keeps (claim_keeps plan true) earlier (claim_rows before kept) ≡ true
claims_each plan [] earlier before many few all = refl
claims_each plan (claim ∷ kept) earlier before many few all = by_test (fits plan (act.Claim claim.ballot claim.race claim.code)) refl all
    (λ rest. claims_each plan kept (earlier ++ claim_row before claim ∷ []) (before + 1) (let long = length-append earlier (claim_row before claim ∷ []) in omega (arith, long, many)) (let f : before + suc (length kept) ≤ 10000 = few in omega (arith, f)) rest)
  where
    here : fits plan (act.Claim claim.ballot claim.race claim.code) ≡ true → claim_keeps plan true earlier (claim_row before claim) ≡ true
    here f =
        let number : int_eq (pos (before + 1)) (pos (length earlier + 1)) ≡ true = rw many (grind (arith, ints)) in
        let low : nat_lt (length earlier) 10000 ≡ true = (let k : before + suc (length kept) ≤ 10000 = few in grind (arith, nat_tests, many, k)) in
        rw (number, low, f) refl

    by_test : (b : Bool) → fits plan (act.Claim claim.ballot claim.race claim.code) ≡ b
        → (b && list_all (λ c. fits plan (act.Claim c.ballot c.race c.code)) kept) ≡ true
        → (list_all (λ c. fits plan (act.Claim c.ballot c.race c.code)) kept ≡ true → each_keeps (claim_keeps plan true) (earlier ++ claim_row before claim ∷ []) (claim_rows (before + 1) kept) ≡ true)
        → each_keeps (claim_keeps plan true) earlier (claim_rows before (claim ∷ kept)) ≡ true
    by_test true f k ih = rw (here f) (ih k)
    by_test false f k ih = cc

-- DONE ROWS

pub same_done : (version station number : ℕ) (text : List ℕ) (entry : Entry) → done_is (done_row version entry) (record { station = pos station; number = pos number; act = text }) ≡ is_stamped station number entry
same_done version station number text entry = rw (int_eq-pos entry.station station, int_eq-pos entry.number number) refl

-- a stamp that is new in the history is new among the rows
pub new_stamp : (setup : Setup) (text : List ℕ) (history : List Entry) (stamp : Stamp) (asked : Act) (words : List ℕ)
    → repeat_of setup history stamp asked ≡ None → is_new done_is (record { station = pos stamp.station; number = pos stamp.number; act = words }) (rows_of setup text history).dones ≡ true
new_stamp setup text [] stamp asked words e = refl
new_stamp setup text (entry ∷ history) stamp asked words e =
    by_test _ (is_stamped stamp.station stamp.number entry) refl e (new_stamp setup text history stamp asked words)
  where
    row : DoneRow
    row = record { station = pos stamp.station; number = pos stamp.number; act = words }

    by_test : (said : Reply) (b : Bool) → is_stamped stamp.station stamp.number entry ≡ b → cond b (Some said) (repeat_of setup history stamp asked) ≡ None
        → (repeat_of setup history stamp asked ≡ None → is_new done_is row (rows_of setup text history).dones ≡ true)
        → is_new done_is row (put done_before (done_row setup.plan.version entry) (rows_of setup text history).dones) ≡ true
    by_test said true t k ih = cc
    by_test said false t k ih =
        rw (any_put done_before (λ kept. done_is kept row) (done_row setup.plan.version entry) (rows_of setup text history).dones)
        (rw (same_done setup.plan.version stamp.station stamp.number words entry, t) (ih k))

known_station : (secrets : List (List ℕ)) (stamp : Stamp) → knows_secret_of secrets stamp ≡ true → stamp.station < length secrets
known_station secrets stamp e = inside secrets stamp.station e
  where
    inside : (list : List (List ℕ)) (at : ℕ) → option_map_or (λ secret. bytes_eq secret stamp.secret) (slice_get list at) false ≡ true → at < length list
    inside [] at k = cc
    inside (x ∷ xs) zero k = omega arith
    inside (x ∷ xs) (suc at) k = let h = inside xs at k in omega (arith, h)

pub record Dones (stations : ℕ) (dones : List DoneRow) : Type 0 where
  pub rise : Rises done_before dones
  pub stamps : list_all (is_stamp stations) dones ≡ true

pub dones_out : (setup : Setup) (text : List ℕ) (history : List Entry) → Lawful setup history → Dones (length setup.secrets) (rows_of setup text history).dones
dones_out setup text [] lawful = record { rise = tt; stamps = refl }
dones_out setup text (entry ∷ history) lawful =
    let old = dones_out setup text history lawful.1 in
    let p = passed setup history lawful.0.stamp entry.act lawful.0.accepted in
    let station : entry.station ≡ lawful.0.stamp.station = ap (λ (e : Entry). e.station) lawful.0.is in
    let number : entry.number ≡ lawful.0.stamp.number = ap (λ (e : Entry). e.number) lawful.0.is in
    let row : DoneRow = done_row setup.plan.version entry in
    let new : is_new done_is row (rows_of setup text history).dones ≡ true
    = ap (λ (s : ℕ). is_new done_is (record { station = pos s; number = pos entry.number; act = act_text setup.plan.version entry.act }) (rows_of setup text history).dones) station
    ∙ (ap (λ (n : ℕ). is_new done_is (record { station = pos lawful.0.stamp.station; number = pos n; act = act_text setup.plan.version entry.act }) (rows_of setup text history).dones) number
    ∙ new_stamp setup text history lawful.0.stamp entry.act (act_text setup.plan.version entry.act) p.new) in
    let low : nat_lt entry.station (length setup.secrets) ≡ true = (let k = known_station setup.secrets lawful.0.stamp p.secret in grind (arith, nat_tests, station, k)) in
    let small : nat_lt entry.number (2 ^ 32) ≡ true = (let k = lawful.0.number in grind (arith, nat_tests, k)) in
    record {
      rise = put_rises done_before done_is done_order row (rows_of setup text history).dones new old.rise;
      stamps = all_put done_before (is_stamp (length setup.secrets)) row (rows_of setup text history).dones (rw (low, small) refl) old.stamps;
    }

-- COUNTS

-- a text is the one that is there
abbrev pub is_said : List ℕ → Option (List ℕ) → Bool
is_said text said = option_map_or (λ t. bytes_eq t text) said false

pub count_cons : {A : Type 0} (p : A → Bool) (x : A) (xs : List A) → count_by p (x ∷ xs) ≡ cond (p x) 1 0 + count_by p xs
count_cons p x xs = grind (arith, common_steps)

pub count_filter_map : {A : Type 0} (text : List ℕ) (f : A → Option (List ℕ)) (xs : List A) → count_told text (filter_map f xs) ≡ count_by (λ x. is_said text (f x)) xs
count_filter_map text f [] = refl
count_filter_map {A} text f (x ∷ xs) = by_said (f x) refl (count_filter_map text f xs)
  where
    by_said : (o : Option (List ℕ)) → f x ≡ o → count_told text (filter_map f xs) ≡ count_by (λ y. is_said text (f y)) xs
        → count_told text (filter_map f (x ∷ xs)) ≡ count_by (λ y. is_said text (f y)) (x ∷ xs)
    by_said None e ih = rw (count_cons (λ (y : A). is_said text (f y)) x xs) (rw e (omega (arith, ih)))
    by_said (Some t) e ih = rw (count_cons (λ (y : A). is_said text (f y)) x xs) (rw e (count_cons (λ (w : List ℕ). bytes_eq w text) t (filter_map f xs) ∙ ap (λ n. cond (bytes_eq t text) 1 0 + n) ih))

pub count_map : {A : Type 0} (text : List ℕ) (f : A → List ℕ) (xs : List A) → count_told text (map f xs) ≡ count_by (λ x. bytes_eq (f x) text) xs
count_map text f [] = refl
count_map {A} text f (x ∷ xs) =
    count_cons (λ (w : List ℕ). bytes_eq w text) (f x) (map f xs) ∙ (ap (λ n. cond (bytes_eq (f x) text) 1 0 + n) (count_map text f xs) ∙ sym (count_cons (λ (y : A). bytes_eq (f y) text) x xs))

-- how often the tables tell a text, table by table
abbrev pub told_in : ℕ → List ℕ → Rows → ℕ
told_in version text rows =
    count_by (λ row. is_said text (claim_text version row)) rows.claims
    + (count_by (λ row. bytes_eq (stage_text row) text) rows.stages
    + (count_by (λ row. is_said text (void_text version row)) rows.voids
    + count_by (λ row. is_said text (ballot_text row)) rows.ballots))

pub count_tables : (version : ℕ) (text : List ℕ) (rows : Rows) → count_told text (told_by version rows) ≡ told_in version text rows
unfolding told_by
count_tables version text rows =
    let cs : List (List ℕ) = filter_map (claim_text version) rows.claims in
    let ss : List (List ℕ) = map stage_text rows.stages in
    let vs : List (List ℕ) = filter_map (void_text version) rows.voids in
    let bs : List (List ℕ) = filter_map ballot_text rows.ballots in
    four (count_told text cs) (count_told text ss) (count_told text vs) (count_told text bs) _ _ _ _ _ _ _
    (count_by-append (λ (w : List ℕ). bytes_eq w text) cs (ss ++ (vs ++ bs)))
    (count_by-append (λ (w : List ℕ). bytes_eq w text) ss (vs ++ bs))
    (count_by-append (λ (w : List ℕ). bytes_eq w text) vs bs)
    (count_filter_map text (claim_text version) rows.claims)
    (count_map text stage_text rows.stages)
    (count_filter_map text (void_text version) rows.voids)
    (count_filter_map text ballot_text rows.ballots)
  where
    four : (c s v b all rest last c' s' v' b' : ℕ) → all ≡ c + rest → rest ≡ s + last → last ≡ v + b → c ≡ c' → s ≡ s' → v ≡ v' → b ≡ b' → all ≡ c' + (s' + (v' + b'))
    four c s v b all rest last c' s' v' b' h i j k l m n = omega (arith, h, i, j, k, l, m, n)

on_ballot : (setup : Setup) (history : List Entry) (text words told : List ℕ) (row : BallotRow) → ballot_text row ≡ Some told
    → told_in setup.plan.version words (with_row (rows_of setup text history) (change.Ballot row)) ≡ cond (bytes_eq told words) 1 0 + told_in setup.plan.version words (rows_of setup text history)
on_ballot setup history text words told row e =
    let k = count_put ballot_before (λ (b : BallotRow). is_said words (ballot_text b)) row (rows_of setup text history).ballots in
    let f : cond (is_said words (ballot_text row)) 1 0 ≡ cond (bytes_eq told words) 1 0 = ap (λ (o : Option (List ℕ)). one_if (is_said words o)) e in
    omega (arith, k, f)

on_stage : (setup : Setup) (history : List Entry) (text words told : List ℕ) (row : StageRow) → stage_text row ≡ told
    → told_in setup.plan.version words (with_row (rows_of setup text history) (change.Stage row)) ≡ cond (bytes_eq told words) 1 0 + told_in setup.plan.version words (rows_of setup text history)
on_stage setup history text words told row e =
    let k = count_put stage_before (λ (b : StageRow). bytes_eq (stage_text b) words) row (rows_of setup text history).stages in
    let f : one_if (bytes_eq (stage_text row) words) ≡ one_if (bytes_eq told words) = ap (λ (o : List ℕ). one_if (bytes_eq o words)) e in
    omega (arith, k, f)

pub void_row : (version ballot : ℕ) → ballot < 2 ^ 32 → void_text version (record { ballot = pos ballot }) ≡ Some (act_text version (act.Void ballot))
void_row version ballot small =
    let low : nat_lt ballot (2 ^ 32) ≡ true = grind (arith, nat_tests, small) in
    ap (λ b. cond b (Some (act_text version (act.Void ballot))) None) low

pub close_row : (version : ℕ) → stage_text (record { step = pos 1; detail = [] }) ≡ act_text version act.Close
unfolding act_text
close_row version = refl

two_not_one : int_eq (pos 2) (pos 1) ≡ false
two_not_one = grind (arith, ints)

pub draw_row : (version : ℕ) (drawn : Draw) → stage_text (record { step = pos 2; detail = draw_word drawn }) ≡ act_text version (act.Draw drawn)
unfolding act_text
draw_row version drawn = refl

-- one more act, told by one row
pub told_more : (setup : Setup) (history : List Entry) (station : ℕ) (text words : List ℕ) (done : Act) → HasRaces setup.plan → SmallBallots setup.plan → refusal_of setup history station done ≡ None
    → told_in setup.plan.version words (with_row (rows_of setup text history) (row_of_act setup.plan.version (length (claims_of history)) done))
    ≡ cond (bytes_eq (act_text setup.plan.version done) words) 1 0 + told_in setup.plan.version words (rows_of setup text history)
told_more setup history station text words (act.Scan ballot marks) races small r =
    let row : BallotRow = record { ballot = pos ballot; fate = pos 1; detail = join_with_byte 32 (map mark_word marks) } in
    on_ballot setup history text words (act_text setup.plan.version (act.Scan ballot marks)) row (scan_row setup.plan.version ballot marks)
told_more setup history station text words (act.Spoil ballot) races small r =
    let row : BallotRow = record { ballot = pos ballot; fate = pos 2; detail = [] } in
    on_ballot setup history text words (act_text setup.plan.version (act.Spoil ballot)) row (spoil_row setup.plan.version ballot)
told_more setup history station text words (act.Audit ballot paper) races small r =
    let row : BallotRow = record { ballot = pos ballot; fate = pos 3; detail = join_with_byte 32 (map (codes_word setup.plan.version) paper) } in
    on_ballot setup history text words (act_text setup.plan.version (act.Audit ballot paper)) row (audit_row setup.plan.version ballot paper (paper_long setup history ballot station paper races r))
told_more setup history station text words act.Close races small r =
    on_stage setup history text words (act_text setup.plan.version act.Close) (record { step = pos 1; detail = [] }) (close_row setup.plan.version)
told_more setup history station text words (act.Draw drawn) races small r =
    on_stage setup history text words (act_text setup.plan.version (act.Draw drawn)) (record { step = pos 2; detail = draw_word drawn }) (draw_row setup.plan.version drawn)
told_more setup history station text words (act.Claim ballot race code) races small r =
    let row : ClaimRow = record { claim = pos (length (claims_of history) + 1); ballot = pos ballot; race = pos race; code = pos code } in
    let k = count_put claim_before (λ (c : ClaimRow). is_said words (claim_text setup.plan.version c)) row (rows_of setup text history).claims in
    omega (arith, k)
told_more setup history station text words (act.Void ballot) races small r =
    let row : VoidRow = record { ballot = pos ballot } in
    let said : void_text setup.plan.version row ≡ Some (act_text setup.plan.version (act.Void ballot)) = void_row setup.plan.version ballot (small ballot (voids setup.plan (phase_of history) (fate_word (fate_of history ballot)) (scanner_of history ballot) station ballot r).ballot_is) in
    let k = count_put void_before (λ (c : VoidRow). is_said words (void_text setup.plan.version c)) row (rows_of setup text history).voids in
    let e = ap (λ (o : Option (List ℕ)). one_if (is_said words o)) said in
    omega (arith, k, e)

-- the tables tell each text as often as done rows have it
pub counts_out : (setup : Setup) (text : List ℕ) (history : List Entry) → HasRaces setup.plan → SmallBallots setup.plan → Lawful setup history
    → (words : List ℕ) → told_in setup.plan.version words (rows_of setup text history) ≡ count_done words (rows_of setup text history).dones
counts_out setup text [] races small lawful words = refl
counts_out setup text (entry ∷ history) races small lawful words =
    let ih = counts_out setup text history races small lawful.1 words in
    let p = passed setup history lawful.0.stamp entry.act lawful.0.accepted in
    let more = told_more setup history lawful.0.stamp.station text words entry.act races small p.refusal in
    let done = count_put done_before (λ (r : DoneRow). bytes_eq r.act words) (done_row setup.plan.version entry) (rows_of setup text history).dones in
    omega (arith, ih, more, done)
