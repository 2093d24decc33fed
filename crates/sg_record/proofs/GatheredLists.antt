-- The lists of a record, put together from the lines that fill the slots of a section.
use Rattle.std.proofs.Common.{◌≡◌, ℕ, zero, suc, ◌+◌, ◌-◌, ◌*◌, ◌≤◌, ◌==◌, Bool, true, false, List, [], ◌∷◌, ◌++◌, length, map, take, drop, replicate, refl, sym, subst, ap, ◌∙◌, arith}
use Rattle.std.proofs.Math.Seq.{get_or-append_seam, set-append_seam}
use Rattle.std.proofs.lemmas.Bool.{eq-eqb}
use Rattle.std.proofs.lemmas.List.{append-nil, append_assoc, length-append, length-drop, map-append, take-append-drop, length-map}
use Rattle.std.specs.Option.{option_map_or}
use Rattle.sg_lists.proofs.Lists.{map-map}
use Rattle.sg_commit.specs.declared.Digest.{Digest}
use Rattle.sg_plan.specs.Ballots.{candidates_of, entries_of}
use Rattle.sg_plan.specs.declared.plan.Plan.{Plan}
use Rattle.sg_forms.specs.Said.{Said}
use Rattle.sg_forms.specs.Said.Said.{Flags, Places}
use Rattle.sg_forms.specs.declared.line.RowOpening.{RowOpening}
use Rattle.sg_grammar.specs.Due.{bits_on, code_commit, each, due_flags, instance_flags, lines_for, numbered, due_places, race_code_commits, race_places, race_results, race_row_commits, race_rows, race_totals, row_commit, row_opening, due_totals}
use Rattle.sg_grammar.specs.Placed.{Placed}
use Rattle.sg_grammar.specs.Placed.Placed.{FlagsAt}
use Rattle.sg_grammar.specs.Walk.{place}
use Rattle.sg_grammar.specs.declared.state.Slot.{Slot}
use Rattle.sg_record.proofs.BitLines.{Piece, bits-spells, cut, cut-lines, cut-pieces, joined}
use Rattle.sg_record.proofs.EachItem.{zipped, zipped-length}
use Rattle.sg_record.proofs.Filling.{Each, Fills, Spells, filled, spells-each}
use Rattle.sg_record.proofs.SectionLines.{AreTallies, HasEntries, HasFlags, HasPlaces, HasRows, HasTotals, IsTally, Tallies, Tally, by_race, flags_all-spells, lines_of_tallies, places_all-spells, tallies-each, tallies-into, tallies-lengths, tally-spells, tally_lines}
use Rattle.sg_record.proofs.SlotLines.{Any, Counts, code_commit-spells, flags-spells, places-spells, row-spells, row_commit-spells, signs_length, total-spells}
use Rattle.sg_record.specs.inside.Gathering.{added, append_at, append_in, bits_of}
use Rattle.sg_record.specs.Tree.{as_line, as_place, bit_sign, code_commit_leaf, flag_tree, indexed, place_tree, race_code_commit_tree, race_row_commit_tree, race_row_tree, row_commit_leaf, row_leaf, signs_on, total_leaf}
use Rattle.sg_record.specs.declared.record.Record.{Record}
use Rattle.sg_record.specs.declared.record.RowCommit.{RowCommit as RowDigests}

-- LINES IN THEIR SLOTS

-- the record with the line in its slot
abbrev pub put_line : Plan → Slot → Said → Record → Record
put_line plan due said made = option_map_or (λ placed. added plan made placed said) (place due said) made

-- the record with the lines, each in its slot
unfoldable pub put : Plan → List Slot → List Said → Record → Record
put plan [] lines made = made
put plan (first ∷ due) [] made = made
put plan (first ∷ due) (said ∷ lines) made = put plan due lines (put_line plan first said made)

pub put-one : (plan : Plan) (due : Slot) (said : Said) (made : Record) → put plan (due ∷ []) (said ∷ []) made ≡ put_line plan due said made
unfolding put
put-one plan due said made = refl

pub put-append : (plan : Plan) (due more : List Slot) (front back : List Said) (made : Record) → Fills due front
    → put plan (due ++ more) (front ++ back) made ≡ put plan more back (put plan due front made)
unfolding put
put-append plan [] more [] back made fills = refl
put-append plan [] more (said ∷ front) back made fills = absurd fills
put-append plan (first ∷ due) more [] back made fills = absurd fills
put-append plan (first ∷ due) more (said ∷ front) back made fills = put-append plan due more front back (put_line plan first said made) fills.1

-- a list that grows item by item
pub put-items : {A : Type 0} (plan : Plan) (P : ℕ → A → Type 0) (g : ℕ → A → List Said) (f : ℕ → List Slot) → ((k : ℕ) (x : A) → P k x → Fills (f k) (g k x))
    → (L : List A → Record) → ((k : ℕ) (x : A) (done : List A) → P k x → put plan (f k) (g k x) (L done) ≡ L (done ++ x ∷ []))
    → (at count : ℕ) (xs done : List A) → Each P at count xs → put plan (numbered f at count) (indexed g at xs) (L done) ≡ L (done ++ xs)
unfolding put numbered indexed
put-items plan P g f fills L step at zero [] done passes = ap L (sym (append-nil done))
put-items plan P g f fills L step at zero (x ∷ xs) done passes = absurd passes
put-items plan P g f fills L step at (suc count) [] done passes = absurd passes
put-items plan P g f fills L step at (suc count) (x ∷ xs) done passes =
    put-append plan (f at) (numbered f (at + 1) count) (g at x) (indexed g (at + 1) xs) (L done) (fills at x passes.0)
    ∙ (ap (put plan (numbered f (at + 1) count) (indexed g (at + 1) xs)) (step at x done passes.0)
    ∙ (put-items plan P g f fills L step (at + 1) count xs (done ++ x ∷ []) passes.1 ∙ ap L (append_assoc done (x ∷ []) xs)))

-- a list of lists, each of which is filled in its turn
pub put-lists : {A : Type 0} (plan : Plan) (P : ℕ → A → Type 0) (g : ℕ → A → List Said) (f : ℕ → List Slot) → ((k : ℕ) (x : A) → P k x → Fills (f k) (g k x))
    → (L : List A → Record) (none : A) → ((k : ℕ) (x : A) (done rest : List A) → P k x → length done ≡ k → put plan (f k) (g k x) (L (done ++ none ∷ rest)) ≡ L (done ++ x ∷ rest))
    → (at count : ℕ) (xs done : List A) → Each P at count xs → length done ≡ at → put plan (numbered f at count) (indexed g at xs) (L (done ++ replicate count none)) ≡ L (done ++ xs)
unfolding put numbered indexed
put-lists plan P g f fills L none step at zero [] done passes many = refl
put-lists plan P g f fills L none step at zero (x ∷ xs) done passes many = absurd passes
put-lists plan P g f fills L none step at (suc count) [] done passes many = absurd passes
put-lists plan P g f fills L none step at (suc count) (x ∷ xs) done passes many =
    put-append plan (f at) (numbered f (at + 1) count) (g at x) (indexed g (at + 1) xs) (L (done ++ none ∷ replicate count none)) (fills at x passes.0)
    ∙ (ap (put plan (numbered f (at + 1) count) (indexed g (at + 1) xs))
    (step at x done (replicate count none) passes.0 many ∙ ap L (sym (append_assoc done (x ∷ []) (replicate count none))))
    ∙ (put-lists plan P g f fills L none step (at + 1) count xs (done ++ x ∷ []) passes.1 (omega (arith, length-append done (x ∷ []), many))
    ∙ ap L (append_assoc done (x ∷ []) xs)))

-- IN ITS PLACE

pub append_at-seam : {A : Type 0} (done rest : List (List A)) (at : ℕ) (list items : List A) → length done ≡ at → append_at (done ++ list ∷ rest) at items ≡ done ++ (list ++ items) ∷ rest
append_at-seam done rest at list items many =
    subst (λ (k : ℕ). append_at (done ++ list ∷ rest) k items ≡ done ++ (list ++ items) ∷ rest) many
    (rw (get_or-append_seam done list rest []) (set-append_seam done list rest (list ++ items)))

pub append_in-seam : {A : Type 0} (before after : List (List (List A))) (race : ℕ) (done rest : List (List A)) (at : ℕ) (list items : List A) → length before ≡ race → length done ≡ at
    → append_in (before ++ (done ++ list ∷ rest) ∷ after) race at items ≡ before ++ (done ++ (list ++ items) ∷ rest) ∷ after
append_in-seam before after race done rest at list items some many =
    subst (λ (k : ℕ). append_in (before ++ (done ++ list ∷ rest) ∷ after) k at items ≡ before ++ (done ++ (list ++ items) ∷ rest) ∷ after) some
    (rw (get_or-append_seam before (done ++ list ∷ rest) after [], append_at-seam done rest at list items many)
    (set-append_seam before (done ++ list ∷ rest) after (done ++ (list ++ items) ∷ rest)))

-- the items of each instance of each race, which grow one by one
tables-put : {A : Type 0} (version : ℕ) (plan : Plan) (L : List (List (List A)) → Record) (line : ℕ → ℕ → ℕ → A → List Said) (stands : ℕ → ℕ → ℕ → A → List Placed) (due : ℕ → ℕ → ℕ → List Slot)
    → ((race instance row : ℕ) → Spells version (λ (x : A). Any x) (line race instance row) (stands race instance row) (due race instance row))
    → ((race instance row : ℕ) (x : A) (before after : List (List (List A))) (done rest : List (List A)) (list : List A) → length before ≡ race → length done ≡ instance
    → put plan (due race instance row) (line race instance row x) (L (before ++ (done ++ list ∷ rest) ∷ after)) ≡ L (before ++ (done ++ (list ++ x ∷ []) ∷ rest) ∷ after))
    → (lists : List (List (List A))) → HasRows plan lists
    → put plan (each (λ race. each (λ instance. each (due race instance) 0 (entries_of plan race)) 0 plan.instances) 0 (length plan.races))
    (indexed (λ race. indexed (λ instance. indexed (line race instance) 0) 0) 0 lists)
    (L (replicate (length plan.races - 0) (replicate (plan.instances - 0) []))) ≡ L lists
tables-put {A} version plan L line stands due spells step lists all =
    put-lists plan (λ (race : ℕ). Each (λ (instance : ℕ). Each (λ (row : ℕ) (x : A). Any x) 0 (entries_of plan race - 0)) 0 (plan.instances - 0))
    (λ race. indexed (λ instance. indexed (line race instance) 0) 0) (λ race. each (λ instance. each (due race instance) 0 (entries_of plan race)) 0 plan.instances)
    (λ race. filled (spells-each version (λ (instance : ℕ). Each (λ (row : ℕ) (x : A). Any x) 0 (entries_of plan race - 0)) (λ instance. indexed (line race instance) 0) (λ instance. indexed (stands race instance) 0)
    (λ instance. each (due race instance) 0 (entries_of plan race)) (λ instance. of_instance race instance) 0 (plan.instances - 0)))
    L (replicate (plan.instances - 0) [])
    (λ race instances before after passes some.
    put-lists plan (λ (instance : ℕ). Each (λ (row : ℕ) (x : A). Any x) 0 (entries_of plan race - 0)) (λ instance. indexed (line race instance) 0) (λ instance. each (due race instance) 0 (entries_of plan race))
    (λ instance. filled (of_instance race instance)) (λ (l : List (List A)). L (before ++ l ∷ after)) []
    (λ instance items done rest all_items many.
    put-items plan (λ (row : ℕ) (x : A). Any x) (line race instance) (due race instance) (λ row. filled (spells race instance row)) (λ (list : List A). L (before ++ (done ++ list ∷ rest) ∷ after))
    (λ row x list any. step race instance row x before after done rest list some many) 0 (entries_of plan race - 0) items [] all_items)
    0 (plan.instances - 0) instances [] passes refl)
    0 (length plan.races - 0) lists [] all refl
  where
    of_instance : (race instance : ℕ)
        → Spells version (Each (λ (row : ℕ) (x : A). Any x) 0 (entries_of plan race - 0)) (indexed (line race instance) 0) (indexed (stands race instance) 0) (each (due race instance) 0 (entries_of plan race))
    of_instance race instance = spells-each version (λ (row : ℕ) (x : A). Any x) (line race instance) (stands race instance) (due race instance) (spells race instance) 0 (entries_of plan race - 0)

-- COMMITMENTS

abbrev pub with_code_commits : Record → List (List Digest) → Record
with_code_commits made lists = record made { code_commits = lists }

-- the digests of a race
race_code_commits-put : (version : ℕ) (plan : Plan) (made : Record) (race : ℕ) (items : List Digest) (done rest : List (List Digest))
    → Each (λ (entry : ℕ) (x : Digest). Any x) 0 (entries_of plan race - 0) items → length done ≡ race
    → put plan (race_code_commits plan race) (race_code_commit_tree as_line race items) (with_code_commits made (done ++ [] ∷ rest)) ≡ with_code_commits made (done ++ items ∷ rest)
race_code_commits-put version plan made race items done rest all many =
    put-items plan (λ (entry : ℕ) (x : Digest). Any x) (code_commit_leaf as_line race) (code_commit race) (λ entry. filled (code_commit-spells version race entry))
    (λ (list : List Digest). with_code_commits made (done ++ list ∷ rest))
    (λ entry digest list any.
    put-one plan _ _ _
    ∙ rw (eq-eqb race race refl) (ap (with_code_commits made) (append_at-seam done rest race list (digest ∷ []) many)))
    0 (entries_of plan race - 0) items [] all

pub code_commits-put : (version : ℕ) (plan : Plan) (made : Record) (lists : List (List Digest)) → HasEntries plan lists
    → put plan (each (race_code_commits plan) 0 (length plan.races)) (indexed (race_code_commit_tree as_line) 0 lists) (with_code_commits made (replicate (length plan.races - 0) [])) ≡ with_code_commits made lists
code_commits-put version plan made lists all =
    put-lists plan (λ (race : ℕ). Each (λ (entry : ℕ) (x : Digest). Any x) 0 (entries_of plan race - 0)) (race_code_commit_tree as_line) (race_code_commits plan)
    (λ race. filled (spells-each version (λ (entry : ℕ) (x : Digest). Any x) (code_commit_leaf as_line race) (code_commit_leaf as_place race) (code_commit race) (code_commit-spells version race) 0 (entries_of plan race - 0)))
    (with_code_commits made) [] (λ race items done rest passes many. race_code_commits-put version plan made race items done rest passes many)
    0 (length plan.races - 0) lists [] all refl

abbrev pub with_row_commits : Record → List (List (List RowDigests)) → Record
with_row_commits made lists = record made { row_commits = lists }

pub row_commits-put : (version : ℕ) (plan : Plan) (made : Record) (lists : List (List (List RowDigests))) → HasRows plan lists
    → put plan (each (race_row_commits plan) 0 (length plan.races)) (indexed (race_row_commit_tree as_line) 0 lists)
    (with_row_commits made (replicate (length plan.races - 0) (replicate (plan.instances - 0) []))) ≡ with_row_commits made lists
row_commits-put version plan made lists all =
    tables-put version plan (with_row_commits made) (row_commit_leaf as_line) (row_commit_leaf as_place) row_commit (row_commit-spells version)
    (λ race instance row digests before after done rest list some many.
    put-one plan _ _ _
    ∙ rw (eq-eqb race race refl, eq-eqb instance instance refl) (ap (with_row_commits made) (append_in-seam before after race done rest instance list (digests ∷ []) some many))) lists all

-- ROWS

abbrev pub with_rows : Record → List (List (List RowOpening)) → Record
with_rows made lists = record made { rows = lists }

pub rows-put : (version : ℕ) (plan : Plan) (made : Record) (lists : List (List (List RowOpening))) → HasRows plan lists
    → put plan (each (race_rows plan) 0 (length plan.races)) (indexed (race_row_tree as_line) 0 lists)
    (with_rows made (replicate (length plan.races - 0) (replicate (plan.instances - 0) []))) ≡ with_rows made lists
rows-put version plan made lists all =
    tables-put version plan (with_rows made) (row_leaf as_line) (row_leaf as_place) row_opening (row-spells version)
    (λ race instance row opening before after done rest list some many.
    put-one plan _ _ _ ∙ ap (with_rows made) (append_in-seam before after race done rest instance list (opening ∷ []) some many)) lists all

-- BITS

bits-signs : (bits : List Bool) → bits_of (map bit_sign bits) ≡ bits
bits-signs [] = refl
bits-signs (bit ∷ bits) = ap (λ b. b ∷ bits_of (map bit_sign bits)) (one_bit bit) ∙ ap (λ l. bit ∷ l) (bits-signs bits)
  where
    one_bit : (b : Bool) → (bit_sign b == 49) ≡ b
    one_bit true = refl
    one_bit false = refl

joined-push : (pieces : List (List Bool)) (piece : List Bool) → joined (pieces ++ piece ∷ []) ≡ joined pieces ++ piece
unfolding joined
joined-push [] piece = append-nil piece
joined-push (first ∷ pieces) piece = ap (λ l. first ++ l) (joined-push pieces piece) ∙ sym (append_assoc first (joined pieces) piece)

joined-cut : (count : ℕ) (bits : List Bool) → length bits ≤ 64 * count → joined (cut count bits) ≡ bits
unfolding joined cut
joined-cut zero [] few = refl
joined-cut zero (bit ∷ bits) few = absurd (omega arith)
joined-cut (suc count) bits few = ap (λ l. take 64 bits ++ l) (joined-cut count (drop 64 bits) (omega (arith, length-drop 64 bits))) ∙ take-append-drop 64 bits

-- the bits of all lines
bits-put : (bits : ℕ) (plan : Plan) (form : List ℕ → Said) (due : ℕ → List Slot)
    → ((line : ℕ) (piece : List Bool) → Counts (bits_on bits line) piece → Fills (due line) (form (map bit_sign piece) ∷ []))
    → (L : List Bool → Record) → ((line : ℕ) (piece done : List Bool) → Counts (bits_on bits line) piece → put plan (due line) (form (map bit_sign piece) ∷ []) (L done) ≡ L (done ++ piece))
    → (xs : List Bool) → Counts bits xs → put plan (each due 0 (lines_for bits)) (each (λ line. form (signs_on xs line) ∷ []) 0 (lines_for (length xs))) (L []) ≡ L xs
unfolding joined
bits-put bits plan form due fills L step xs many =
    let g : ℕ → List Bool → List Said = λ line piece. form (map bit_sign piece) ∷ [] in
    let lines : each (λ line. form (signs_on xs line) ∷ []) 0 (lines_for (length xs)) ≡ indexed g 0 (cut (lines_for bits - 0) xs)
    = ap (λ n. numbered (λ line. form (signs_on xs line) ∷ []) 0 (lines_for n - 0)) many ∙ sym (cut-lines (λ line. form) xs 0 (lines_for bits - 0)) in
    ap (λ l. put plan (each due 0 (lines_for bits)) l (L [])) lines
    ∙ (put-items plan (Piece bits) g due fills (λ (pieces : List (List Bool)). L (joined pieces))
    (λ line piece done counts. step line piece (joined done) counts ∙ ap L (sym (joined-push done piece)))
    0 (lines_for bits - 0) (cut (lines_for bits - 0) xs) [] (cut-pieces bits 0 (lines_for bits - 0) xs (omega (arith, many)))
    ∙ ap L (joined-cut (lines_for bits - 0) xs (omega (arith, many))))

-- RESULTS

-- the lists of a race, with others before and behind
abbrev with_tally : Record → List Tally → List Tally → Tally → Record
with_tally made before after t = record made {
  flags = map (λ (x : Tally). x.0) before ++ t.0 ∷ map (λ (x : Tally). x.0) after;
  places = map (λ (x : Tally). x.1.0) before ++ t.1.0 ∷ map (λ (x : Tally). x.1.0) after;
  totals = map (λ (x : Tally). x.1.1) before ++ t.1.1 ∷ map (λ (x : Tally). x.1.1) after;
}

abbrev with_tallies : Record → List Tally → Record
with_tallies made list = record made { flags = map (λ (x : Tally). x.0) list; places = map (λ (x : Tally). x.1.0) list; totals = map (λ (x : Tally). x.1.1) list }

with_tally-is : (made : Record) (before after : List Tally) (t : Tally) → with_tallies made (before ++ t ∷ after) ≡ with_tally made before after t
with_tally-is made before after t =
    rw (map-append (λ (x : Tally). x.0) before (t ∷ after), map-append (λ (x : Tally). x.1.0) before (t ∷ after), map-append (λ (x : Tally). x.1.1) before (t ∷ after)) refl

flags-put : (version : ℕ) (plan : Plan) (made : Record) (race : ℕ) (before after : List Tally) (flags : List (List Bool)) (places : List Bool) (totals : List ℕ) → length before ≡ race
    → HasFlags plan race flags
    → put plan (each (instance_flags plan race) 0 plan.instances) (indexed (flag_tree as_line race) 0 flags) (with_tally made before after (replicate (plan.instances - 0) [], (places, totals)))
    ≡ with_tally made before after (flags, (places, totals))
flags-put version plan made race before after flags places totals some all =
    let here : length (map (λ (x : Tally). x.0) before) ≡ race = length-map before (λ (x : Tally). x.0) ∙ some in
    put-lists plan (λ (instance : ℕ). Counts (entries_of plan race)) (flag_tree as_line race) (instance_flags plan race)
    (λ instance. filled (bits-spells version (entries_of plan race) (Flags race instance) (λ line. FlagsAt race instance (64 * line)) (due_flags plan race instance)
    (λ line. flags-spells version race instance line _)))
    (λ (l : List (List Bool)). with_tally made before after (l, (places, totals))) []
    (λ instance bits done rest counts many.
    bits-put (entries_of plan race) plan (Flags race instance) (due_flags plan race instance) (λ line. filled (flags-spells version race instance line _))
    (λ (b : List Bool). with_tally made before after (done ++ b ∷ rest, (places, totals)))
    (λ line piece list counted. put_flags instance line piece list done rest here many counted)
    bits counts)
    0 (plan.instances - 0) flags [] all refl
  where
    put_flags : (instance line : ℕ) (piece list : List Bool) (done rest : List (List Bool)) → length (map (λ (x : Tally). x.0) before) ≡ race → length done ≡ instance
        → Counts (bits_on (entries_of plan race) line) piece
        → put plan (due_flags plan race instance line) (Flags race instance (map bit_sign piece) ∷ []) (with_tally made before after (done ++ list ∷ rest, (places, totals)))
        ≡ with_tally made before after (done ++ (list ++ piece) ∷ rest, (places, totals))
    put_flags instance line piece list done rest here many counted =
        put-one plan _ _ _
        ∙ rw (eq-eqb race race refl, eq-eqb instance instance refl, signs_length piece, eq-eqb (length piece) (bits_on (entries_of plan race) line) counted, bits-signs piece)
        (ap (λ (l : List (List (List Bool))). let it : Record = record (with_tally made before after ([], (places, totals))) { flags = l } in it)
        (append_in-seam (map (λ (x : Tally). x.0) before) (map (λ (x : Tally). x.0) after) race done rest instance list piece here many))

places-put : (version : ℕ) (plan : Plan) (made : Record) (race : ℕ) (before after : List Tally) (flags : List (List Bool)) (places : List Bool) (totals : List ℕ) → length before ≡ race
    → HasPlaces plan race places
    → put plan (race_places plan race) (place_tree as_line race places) (with_tally made before after (flags, ([], totals))) ≡ with_tally made before after (flags, (places, totals))
places-put version plan made race before after flags places totals some all =
    let here : length (map (λ (x : Tally). x.1.0) before) ≡ race = length-map before (λ (x : Tally). x.1.0) ∙ some in
    bits-put (entries_of plan race) plan (Places race) (due_places plan race) (λ line. filled (places-spells version race line _))
    (λ (b : List Bool). with_tally made before after (flags, (b, totals)))
    (λ line piece list counted. put_places line piece list here counted)
    places all
  where
    put_places : (line : ℕ) (piece list : List Bool) → length (map (λ (x : Tally). x.1.0) before) ≡ race → Counts (bits_on (entries_of plan race) line) piece
        → put plan (due_places plan race line) (Places race (map bit_sign piece) ∷ []) (with_tally made before after (flags, (list, totals)))
        ≡ with_tally made before after (flags, (list ++ piece, totals))
    put_places line piece list here counted =
        put-one plan _ _ _
        ∙ rw (eq-eqb race race refl, signs_length piece, eq-eqb (length piece) (bits_on (entries_of plan race) line) counted, bits-signs piece)
        (ap (λ (l : List (List Bool)). let it : Record = record (with_tally made before after (flags, ([], totals))) { places = l } in it)
        (append_at-seam (map (λ (x : Tally). x.1.0) before) (map (λ (x : Tally). x.1.0) after) race list piece here))

totals-put : (version : ℕ) (plan : Plan) (made : Record) (race : ℕ) (before after : List Tally) (flags : List (List Bool)) (places : List Bool) (totals : List ℕ) → length before ≡ race
    → HasTotals plan race totals
    → put plan (race_totals plan race) (indexed (total_leaf as_line race) 0 totals) (with_tally made before after (flags, (places, []))) ≡ with_tally made before after (flags, (places, totals))
totals-put version plan made race before after flags places totals some all =
    let here : length (map (λ (x : Tally). x.1.1) before) ≡ race = length-map before (λ (x : Tally). x.1.1) ∙ some in
    put-items plan (λ (candidate : ℕ) (x : ℕ). Any x) (total_leaf as_line race) (due_totals race) (λ candidate. filled (total-spells version race candidate))
    (λ (list : List ℕ). with_tally made before after (flags, (places, list)))
    (λ candidate count list any.
    put-one plan _ _ _
    ∙ rw (eq-eqb race race refl, eq-eqb candidate candidate refl)
    (ap (λ (l : List (List ℕ)). let it : Record = record (with_tally made before after (flags, (places, []))) { totals = l } in it)
    (append_at-seam (map (λ (x : Tally). x.1.1) before) (map (λ (x : Tally). x.1.1) after) race list (count ∷ []) here)))
    0 (candidates_of plan race - 0) totals [] all

-- a race without lines yet
abbrev no_tally : Plan → Tally
no_tally plan = (replicate (plan.instances - 0) [], ([], []))

tally-put : (version : ℕ) (plan : Plan) (made : Record) (race : ℕ) (t : Tally) (before after : List Tally) → IsTally plan race t → length before ≡ race
    → put plan (race_results plan race) (tally_lines race t) (with_tallies made (before ++ no_tally plan ∷ after)) ≡ with_tallies made (before ++ t ∷ after)
tally-put version plan made race t before after is some =
    ap (put plan (race_results plan race) (tally_lines race t)) (with_tally-is made before after (no_tally plan))
    ∙ (put-append plan (each (instance_flags plan race) 0 plan.instances) (race_places plan race ++ race_totals plan race) (indexed (flag_tree as_line race) 0 t.0)
    (place_tree as_line race t.1.0 ++ indexed (total_leaf as_line race) 0 t.1.1) (with_tally made before after (no_tally plan)) (filled (flags_all-spells version plan race) t.0 is.0)
    ∙ (ap (put plan (race_places plan race ++ race_totals plan race) (place_tree as_line race t.1.0 ++ indexed (total_leaf as_line race) 0 t.1.1))
    (flags-put version plan made race before after t.0 [] [] some is.0)
    ∙ (put-append plan (race_places plan race) (race_totals plan race) (place_tree as_line race t.1.0) (indexed (total_leaf as_line race) 0 t.1.1) (with_tally made before after (t.0, ([], []))) (filled (places_all-spells version plan race) t.1.0 is.1.0)
    ∙ (ap (put plan (race_totals plan race) (indexed (total_leaf as_line race) 0 t.1.1)) (places-put version plan made race before after t.0 t.1.0 [] some is.1.0)
    ∙ (totals-put version plan made race before after t.0 t.1.0 t.1.1 some is.1.1 ∙ sym (with_tally-is made before after t))))))

map-replicate : {A B : Type 0} (f : A → B) (count : ℕ) (x : A) → map f (replicate count x) ≡ replicate count (f x)
map-replicate f zero x = refl
map-replicate f (suc count) x = ap (λ l. f x ∷ l) (map-replicate f count x)

lefts : {A B : Type 0} (xs : List A) (ys : List B) → length ys ≡ length xs → map (λ (p : A × B). p.0) (zipped xs ys) ≡ xs
unfolding zipped
lefts [] ys many = refl
lefts (x ∷ xs) [] many = absurd (omega (arith, many))
lefts (x ∷ xs) (y ∷ ys) many = ap (λ l. x ∷ l) (lefts xs ys (omega (arith, many)))

rights : {A B : Type 0} (xs : List A) (ys : List B) → length ys ≡ length xs → map (λ (p : A × B). p.1) (zipped xs ys) ≡ ys
unfolding zipped
rights [] [] many = refl
rights [] (y ∷ ys) many = absurd (omega (arith, many))
rights (x ∷ xs) [] many = absurd (omega (arith, many))
rights (x ∷ xs) (y ∷ ys) many = ap (λ l. y ∷ l) (rights xs ys (omega (arith, many)))

pub tallies-put : (version : ℕ) (plan : Plan) (made : Record) (t : Tallies) → AreTallies plan t
    → put plan (each (race_results plan) 0 (length plan.races)) (lines_of_tallies plan t)
    (record made {
      flags = replicate (length plan.races - 0) (replicate (plan.instances - 0) []);
      places = replicate (length plan.races - 0) [];
      totals = replicate (length plan.races - 0) [];
    })
    ≡ record made { flags = t.0; places = t.1.0; totals = t.1.1 }
tallies-put version plan made t are =
    let many = tallies-lengths plan t are in
    let inner = zipped-length t.1.0 t.1.1 (many.2 ∙ sym many.1) in
    let outer : length (zipped t.1.0 t.1.1) ≡ length t.0 = inner ∙ (many.1 ∙ sym many.0) in
    let count : ℕ = length plan.races - 0 in
    let flags : map (λ (x : Tally). x.0) (by_race t) ≡ t.0 = lefts t.0 (zipped t.1.0 t.1.1) outer in
    let others : map (λ (x : Tally). x.1) (by_race t) ≡ zipped t.1.0 t.1.1 = rights t.0 (zipped t.1.0 t.1.1) outer in
    let places : map (λ (x : Tally). x.1.0) (by_race t) ≡ t.1.0
    = sym (map-map (λ (p : List Bool × List ℕ). p.0) (λ (x : Tally). x.1) (by_race t)) ∙ (ap (map (λ (p : List Bool × List ℕ). p.0)) others ∙ lefts t.1.0 t.1.1 (many.2 ∙ sym many.1)) in
    let totals : map (λ (x : Tally). x.1.1) (by_race t) ≡ t.1.1
    = sym (map-map (λ (p : List Bool × List ℕ). p.1) (λ (x : Tally). x.1) (by_race t)) ∙ (ap (map (λ (p : List Bool × List ℕ). p.1)) others ∙ rights t.1.0 t.1.1 (many.2 ∙ sym many.1)) in
    let before : with_tallies made (replicate (length plan.races - 0) (no_tally plan)) ≡ record made {
      flags = replicate (length plan.races - 0) (replicate (plan.instances - 0) []);
      places = replicate (length plan.races - 0) [];
      totals = replicate (length plan.races - 0) [];
    }
    = rw (
      map-replicate (λ (x : Tally). x.0) (length plan.races - 0) (no_tally plan),
      map-replicate (λ (x : Tally). x.1.0) (length plan.races - 0) (no_tally plan),
      map-replicate (λ (x : Tally). x.1.1) (length plan.races - 0) (no_tally plan),
    ) refl in
    let behind : with_tallies made (by_race t) ≡ record made { flags = t.0; places = t.1.0; totals = t.1.1 } = rw (flags, places, totals) refl in
    ap (put plan (each (race_results plan) 0 (length plan.races)) (lines_of_tallies plan t)) (sym before)
    ∙ (ap (λ l. put plan (each (race_results plan) 0 (length plan.races)) l (with_tallies made (replicate (length plan.races - 0) (no_tally plan)))) (sym (tallies-each tally_lines plan t are))
    ∙ (put-lists plan (IsTally plan) tally_lines (race_results plan) (λ race. filled (tally-spells version plan race)) (with_tallies made) (no_tally plan)
    (λ race one done rest is some. tally-put version plan made race one done rest is some)
    0 (length plan.races - 0) (by_race t) [] (tallies-into plan t are) refl ∙ behind))
