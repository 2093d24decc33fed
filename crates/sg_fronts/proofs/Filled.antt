-- A line for each slot of a plan: its keys, digests and codes are zeros, its bits are unset, and it counts nothing.
use Rattle.std.proofs.Common.{◌≡◌, ℕ, zero, suc, ◌+◌, ◌-◌, ◌<◌, ◌≤◌, ◌==◌, Bool, true, false, ◌||◌, cond, inl, List, [], ◌∷◌, ◌++◌, length, map, replicate, refl, arith}
use Rattle.std.proofs.lemmas.Bool.{eq-eqb}
use Rattle.std.proofs.lemmas.List.{length-replicate}
use Rattle.std.proofs.lemmas.List.Elements.{All-replicate}
use Rattle.sg_commit.specs.declared.Digest.{Digest}
use Rattle.sg_commit.specs.declared.Key.{Key}
use Rattle.sg_commit.specs.declared.Opening.{Opening}
use Rattle.sg_lines.specs.Words.{IsBit}
use Rattle.sg_plan.specs.Ballots.{ballot_has, candidates_of, entries_of}
use Rattle.sg_plan.specs.Codes.{codes_of}
use Rattle.sg_plan.specs.Limits.{is_version}
use Rattle.sg_plan.specs.declared.plan.Plan.{Plan}
use Rattle.sg_forms.specs.Said.{Said}
use Rattle.sg_forms.specs.Said.Said.{CodeCommit, RowCommit, Seal, Code, Paper, Flags, Places, Total, DrawFull, Row}
use Rattle.sg_forms.specs.Spelling.{AreBytes, AreFewBits, IsCode, IsInRange, IsNumber}
use Rattle.sg_forms.specs.declared.line.RowOpening.TheVariants as row
use Rattle.sg_grammar.specs.Due.{ballot_codes, ballot_paper, bits_on, code_commit, code_line, commits, due_audit, due_flags, due_places, due_totals, each, instance_flags, instance_row_commits, instance_rows, lines_for, numbered, race_code_commits, race_codes, race_places, race_results, race_row_commits, race_rows, race_totals, results, row_commit, row_opening}
use Rattle.sg_grammar.specs.Made.{HasSizes}
use Rattle.sg_grammar.specs.declared.state.Block.{Block}
use Rattle.sg_grammar.specs.declared.state.Block.TheVariants as block
use Rattle.sg_grammar.specs.declared.state.Slot.{Slot}
use Rattle.sg_grammar.specs.declared.state.Slot.TheVariants as slot
use Rattle.sg_record.proofs.Filling.{AreIn, Fills, fits}

-- THE LINE OF A SLOT

-- the digest of zeros
abbrev no_digest : Digest
no_digest = record { 0 = replicate 32 0 }

-- the key of zeros
abbrev no_key : Key
no_key = record { 0 = replicate 16 0 }

-- the pointer 0 under that key
abbrev no_opening : Opening
no_opening = record { key = no_key; value = 0 }

-- the line of a slot
abbrev pub filling : Slot → Said
filling (slot.CodeCommit race entry) = CodeCommit race no_digest
filling (slot.RowCommit race instance at) = RowCommit race instance no_digest no_digest
filling (slot.Seal number) = Seal number no_digest
filling (slot.Paper ballot race count) = Paper race (replicate count 0)
filling (slot.Code kind ballot race column) = Code (record { race = race; column = column; key = no_key; code = 0 })
filling (slot.Flags race instance line count) = Flags race instance (replicate count 48)
filling (slot.Places race line count) = Places race (replicate count 48)
filling (slot.Total race candidate) = Total race candidate 0
filling slot.Draw = DrawFull
filling (slot.Row race instance at) = Row (row.Left no_opening)

-- the line stands in its slot
filling-fits : (s : Slot) → fits s (filling s) ≡ true
filling-fits (slot.CodeCommit race entry) = rw (eq-eqb race race refl) refl
filling-fits (slot.RowCommit race instance at) = rw (eq-eqb race race refl, eq-eqb instance instance refl) refl
filling-fits (slot.Seal number) = rw (eq-eqb number number refl) refl
filling-fits (slot.Paper ballot race count) = rw (eq-eqb race race refl, eq-eqb (length (replicate {A = ℕ} count 0)) count (length-replicate count 0)) refl
filling-fits (slot.Code kind ballot race column) = rw (eq-eqb race race refl, eq-eqb column column refl) refl
filling-fits (slot.Flags race instance line count) =
    rw (eq-eqb race race refl, eq-eqb instance instance refl, eq-eqb (length (replicate {A = ℕ} count 48)) count (length-replicate count 48)) refl
filling-fits (slot.Places race line count) = rw (eq-eqb race race refl, eq-eqb (length (replicate {A = ℕ} count 48)) count (length-replicate count 48)) refl
filling-fits (slot.Total race candidate) = rw (eq-eqb race race refl, eq-eqb candidate candidate refl) refl
filling-fits slot.Draw = refl
filling-fits (slot.Row race instance at) = refl

-- its numbers fit the program's, and its list is neither empty nor too long
abbrev pub CanFill : Slot → Type 0
CanFill (slot.CodeCommit race entry) = IsNumber race
CanFill (slot.RowCommit race instance at) = IsNumber race × IsNumber instance
CanFill (slot.Seal number) = IsNumber number
CanFill (slot.Paper ballot race count) = IsNumber race × (1 ≤ count) × (count ≤ 16)
CanFill (slot.Code kind ballot race column) = IsNumber race × IsNumber column
CanFill (slot.Flags race instance line count) = IsNumber race × IsNumber instance × (1 ≤ count) × (count ≤ 64)
CanFill (slot.Places race line count) = IsNumber race × (1 ≤ count) × (count ≤ 64)
CanFill (slot.Total race candidate) = IsNumber race × IsNumber candidate
CanFill slot.Draw = Unit {0}
CanFill (slot.Row race instance at) = Unit {0}

-- zeros are bytes
zero_bytes : (count : ℕ) → AreBytes count (replicate count 0)
zero_bytes count = (length-replicate count 0, All-replicate (λ (byte : ℕ). byte < 256) count 0 (omega arith))

-- 1 to 64 unset bits are bits of a line
unset_bits : (count : ℕ) → 1 ≤ count → count ≤ 64 → AreFewBits (replicate count 48)
unset_bits count one few = (omega (arith, length-replicate {A = ℕ} count 48), omega (arith, length-replicate {A = ℕ} count 48), (refl, All-replicate IsBit count 48 (inl refl)))

-- and then its words are of their kinds
filling-in : (version : ℕ) (s : Slot) → 0 < codes_of version → CanFill s → IsInRange version (filling s)
filling-in version (slot.CodeCommit race entry) codes can = (can, zero_bytes 32)
filling-in version (slot.RowCommit race instance at) codes can = (can.0, can.1, zero_bytes 32, zero_bytes 32)
filling-in version (slot.Seal number) codes can = (can, zero_bytes 32)
filling-in version (slot.Paper ballot race count) codes can =
    (can.0, All-replicate (IsCode version) count 0 codes, omega (arith, can.1, length-replicate {A = ℕ} count 0), omega (arith, can.2, length-replicate {A = ℕ} count 0))
filling-in version (slot.Code kind ballot race column) codes can = (can.0, can.1, zero_bytes 16, codes)
filling-in version (slot.Flags race instance line count) codes can = (can.0, can.1, unset_bits count can.2 can.3)
filling-in version (slot.Places race line count) codes can = (can.0, unset_bits count can.1 can.2)
filling-in version (slot.Total race candidate) codes can = (can.0, can.1, omega arith)
filling-in version slot.Draw codes can = tt
filling-in version (slot.Row race instance at) codes can = (zero_bytes 16, omega arith)

-- a version has codes
pub codes-some : (version : ℕ) → is_version version ≡ true → 0 < codes_of version
codes-some version is = some (version == 1) (version == 2) is
  where
    some : (a b : Bool) → (a || b) ≡ true → 0 < cond a 1000 (cond b 32768 0)
    some true b e = omega arith
    some false true e = omega arith
    some false false e = cc

-- THE LINES OF SOME SLOTS

-- each of the slots can be filled
abbrev pub CanFillAll : List Slot → Type 0
CanFillAll [] = Unit {0}
CanFillAll (s ∷ slots) = CanFill s × CanFillAll slots

-- the lines of the slots stand in them
pub fillings-fill : (slots : List Slot) → Fills slots (map filling slots)
fillings-fill [] = tt
fillings-fill (s ∷ slots) = (filling-fits s, fillings-fill slots)

-- and their words are of their kinds
pub fillings-in : (version : ℕ) (slots : List Slot) → 0 < codes_of version → CanFillAll slots → AreIn version (map filling slots)
fillings-in version [] codes can = tt
fillings-in version (s ∷ slots) codes can = (filling-in version s codes can.0, fillings-in version slots codes can.1)

-- slots of two lists, one after the other
fill-append : (xs ys : List Slot) → CanFillAll xs → CanFillAll ys → CanFillAll (xs ++ ys)
fill-append [] ys here behind = behind
fill-append (x ∷ xs) ys here behind = (here.0, fill-append xs ys here.1 behind)

-- slots of lists that are numbered one after another
fill-numbered : (f : ℕ → List Slot) (at count : ℕ) → ((k : ℕ) → k < at + count → CanFillAll (f k)) → CanFillAll (numbered f at count)
unfolding numbered
fill-numbered f at zero can = tt
fill-numbered f at (suc count) can = fill-append (f at) (numbered f (at + 1) count) (can at (omega arith)) (fill-numbered f (at + 1) count (λ k below. can k (omega (arith, below))))

-- the same from 0 on
fill-each : (f : ℕ → List Slot) (end : ℕ) → ((k : ℕ) → k < end → CanFillAll (f k)) → CanFillAll (each f 0 end)
fill-each f end can = fill-numbered f 0 (end - 0) (λ k below. can k (omega (arith, below)))

-- THE SLOTS OF A PLAN

-- the number of a race fits
race-number : (plan : Plan) (race : ℕ) → HasSizes plan → race < length plan.races → IsNumber race
race-number plan race sizes within = omega (arith, sizes.most_races, within)

-- and that of an instance
instance-number : (plan : Plan) (instance : ℕ) → HasSizes plan → instance < plan.instances → IsNumber instance
instance-number plan instance sizes within = omega (arith, sizes.most_instances, within)

-- and that of a column
column-number : (plan : Plan) (race column : ℕ) → HasSizes plan → column < candidates_of plan race → IsNumber column
column-number plan race column sizes within = omega (arith, sizes.most_candidates race, within)

-- the commitments
pub commits-fill : (plan : Plan) → HasSizes plan → CanFillAll (commits plan)
commits-fill plan sizes =
    fill-append (each (race_code_commits plan) 0 (length plan.races)) (each (race_row_commits plan) 0 (length plan.races) ++ slot.Seal 1 ∷ [])
    (fill-each (race_code_commits plan) (length plan.races) (λ race a. fill-each (code_commit race) (entries_of plan race) (λ entry b. (race-number plan race sizes a, tt))))
    (fill-append (each (race_row_commits plan) 0 (length plan.races)) (slot.Seal 1 ∷ [])
    (fill-each (race_row_commits plan) (length plan.races) (λ race a.
    fill-each (instance_row_commits plan race) plan.instances (λ instance b.
    fill-each (row_commit race instance) (entries_of plan race) (λ at c. ((race-number plan race sizes a, instance-number plan instance sizes b), tt)))))
    (omega arith, tt))

-- a line has 1 to 64 bits
bits-few : (bits line : ℕ) → line < lines_for bits → (1 ≤ bits_on bits line) × (bits_on bits line ≤ 64)
bits-few bits line less = (omega (arith, less), omega arith)

-- the results, the draw and the rows
pub results-fill : (plan : Plan) → HasSizes plan → CanFillAll (results plan)
results-fill plan sizes =
    fill-append (each (race_results plan) 0 (length plan.races)) (slot.Seal 2 ∷ slot.Draw ∷ (each (race_rows plan) 0 (length plan.races) ++ slot.Seal 3 ∷ []))
    (fill-each (race_results plan) (length plan.races) (λ race a. race-fill race a)) (
      omega arith,
      (
        tt,
        fill-append (each (race_rows plan) 0 (length plan.races)) (slot.Seal 3 ∷ [])
            (fill-each (race_rows plan) (length plan.races) (λ race a.
            fill-each (instance_rows plan race) plan.instances (λ instance b. fill-each (row_opening race instance) (entries_of plan race) (λ at c. (tt, tt)))))
            (omega arith, tt),
      ),
    )
  where
    race-fill : (race : ℕ) → race < length plan.races → CanFillAll (race_results plan race)
    race-fill race a =
        fill-append (each (instance_flags plan race) 0 plan.instances) (race_places plan race ++ race_totals plan race)
        (fill-each (instance_flags plan race) plan.instances (λ instance b.
        fill-each (due_flags plan race instance) (lines_for (entries_of plan race)) (λ line c.
        let few = bits-few (entries_of plan race) line c in
        ((race-number plan race sizes a, instance-number plan instance sizes b, few.0, few.1), tt))))
        (fill-append (race_places plan race) (race_totals plan race)
        (fill-each (due_places plan race) (lines_for (entries_of plan race)) (λ line c.
        let few = bits-few (entries_of plan race) line c in
        ((race-number plan race sizes a, few.0, few.1), tt)))
        (fill-each (due_totals race) (candidates_of plan race) (λ candidate c. ((race-number plan race sizes a, column-number plan race candidate sizes c), tt))))

-- the codes of a race
pub codes-fill : (plan : Plan) (kind : Block) (ballot race : ℕ) → HasSizes plan → race < length plan.races → CanFillAll (race_codes plan kind ballot race)
codes-fill plan kind ballot race sizes a =
    fill-each (code_line kind ballot race) (candidates_of plan race) (λ column c. ((race-number plan race sizes a, column-number plan race column sizes c), tt))

-- the papers and codes of an audited ballot
pub audit-fill : (plan : Plan) (ballot : ℕ) → HasSizes plan → CanFillAll (due_audit plan ballot)
audit-fill plan ballot sizes =
    fill-append (each (ballot_paper plan ballot) 0 (length plan.races)) (each (ballot_codes plan ballot) 0 (length plan.races))
    (fill-each (ballot_paper plan ballot) (length plan.races) (λ race a. paper (ballot_has plan ballot race) race a))
    (fill-each (ballot_codes plan ballot) (length plan.races) (λ race a. codes (ballot_has plan ballot race) race a))
  where
    paper : (b : Bool) (race : ℕ) → race < length plan.races → CanFillAll (cond b (slot.Paper ballot race (candidates_of plan race) ∷ []) [])
    paper true race a = ((race-number plan race sizes a, omega (arith, sizes.two_candidates race a), sizes.most_candidates race), tt)
    paper false race a = tt

    codes : (b : Bool) (race : ℕ) → race < length plan.races → CanFillAll (cond b (race_codes plan block.Audited ballot race) [])
    codes true race a = codes-fill plan block.Audited ballot race sizes a
    codes false race a = tt
