-- The codes posted of a ballot are codes of the version.
use Rattle.std.proofs.Common.{◌≡◌, ℕ, zero, suc, ◌/◌, ◌<◌, Bool, List, [], ◌∷◌, All, map, filter, None, sym, subst, arith}
use Rattle.std.specs.List.{flat_map}
use Rattle.std.proofs.lemmas.List.Concat.{flat_map-cons}
use Rattle.std.proofs.lemmas.List.Elements.{All-append, All-map, All-nil}
use Rattle.sg_plan.specs.Ballots.{ballot_row, candidates_of, races_of_ballot}
use Rattle.sg_plan.specs.Codes.{codes_of}
use Rattle.sg_plan.specs.Limits.{fault_of}
use Rattle.sg_plan.specs.declared.plan.Fate.{Fate}
use Rattle.sg_plan.specs.declared.plan.Plan.{Plan}
use Rattle.sg_plan.proofs.LimitLaws.{keeps_limits, passes_tests}
use Rattle.sg_plan.proofs.PlanLaws.{bounds}
use Rattle.sg_streams.specs.Numbers.{numbers_below}
use Rattle.sg_tables.specs.Posts.{column_marked, posted_codes, row_entry}
use Rattle.sg_tables.specs.Tables.{code_of_entry, shown_by}
use Rattle.sg_tables.proofs.Values.{code_beside-below, shown_by-below}
use Rattle.sg_acts.specs.declared.replies.CodeSeen.{CodeSeen}
use Rattle.sg_desks.specs.Receipts.{code_seen, posted_of}

-- an entry's code
entry_below : (plan : Plan) (seed : List ℕ) (race entry : ℕ) → fault_of plan ≡ None → 0 < candidates_of plan race → code_of_entry plan seed race entry < codes_of plan.version
unfolding code_of_entry
entry_below plan seed race entry fine some =
    code_beside-below plan seed race (entry / candidates_of plan race) (shown_by plan seed race entry) (keeps_limits plan (passes_tests plan fine)).version
    ((bounds plan fine).few_candidates race) (shown_by-below plan seed race entry some)

-- values of some of the numbers below an end
some_below : (P : ℕ → Type 0) (f : ℕ → ℕ) (p : ℕ → Bool) (end : ℕ) → (0 < end → (n : ℕ) → P (f n)) → All P (map f (filter p (numbers_below end)))
unfolding numbers_below
some_below P f p zero each = All-nil P
some_below P f p (suc end) each = All-map P f (filter p (numbers_below (suc end))) (λ at other within. each (omega arith) _)

row_below : (plan : Plan) (seed : List ℕ) (race row : ℕ) (what : Fate) → fault_of plan ≡ None → All (λ code. code < codes_of plan.version) (posted_codes plan seed race row what)
unfolding posted_codes
row_below plan seed race row what fine =
    All-map (λ code. code < codes_of plan.version) (code_of_entry plan seed race) _
    (some_below (λ entry. code_of_entry plan seed race entry < codes_of plan.version) (row_entry plan race row) (column_marked plan seed race row what) (candidates_of plan race)
    (λ some column. entry_below plan seed race (row_entry plan race row column) fine some))

flat_each : {X A : Type 0} (P : A → Type 0) (f : X → List A) (xs : List X) → ((x : X) → All P (f x)) → All P (flat_map f xs)
flat_each P f [] each = All-nil P
flat_each P f (x ∷ xs) each = subst (All P) (sym (flat_map-cons f x xs)) (All-append P (f x) (flat_map f xs) (each x) (flat_each P f xs each))

-- the codes of a receipt
pub posted_below : (plan : Plan) (seed : List ℕ) (ballot : ℕ) (what : Fate) → fault_of plan ≡ None → All (λ (seen : CodeSeen). seen.code < codes_of plan.version) (posted_of plan seed ballot what)
posted_below plan seed ballot what fine =
    flat_each (λ (seen : CodeSeen). seen.code < codes_of plan.version) (λ race. map (code_seen race) (posted_codes plan seed race (ballot_row plan race ballot) what)) (races_of_ballot plan ballot)
    (λ race. All-map (λ (seen : CodeSeen). seen.code < codes_of plan.version) (code_seen race) _ (row_below plan seed race (ballot_row plan race ballot) what fine))
