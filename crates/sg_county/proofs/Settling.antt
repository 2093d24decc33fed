-- What parts settle, behind parts that settle nothing.
use Rattle.std.proofs.Common.{◌≡◌, ℕ, inl, inr, List, [], ◌∷◌, ◌++◌, map, sym, subst, append_assoc, append-nil}
use Rattle.sg_record.specs.Lines.{texts_in}
use Rattle.sg_record.specs.declared.record.Record.{Record}
use Rattle.sg_county.proofs.PartLists.{AllParts}
use Rattle.sg_county.proofs.PartRecords.{one_record}
use Rattle.sg_county.specs.County.{Counts, IsCounty, IsFirstSettled, Settles, parts_of}
use Rattle.sg_county.specs.Tally.{IsUnsettled, SettleNothing}
use Rattle.sg_county.specs.inside.Keeping.{AllCount, AreParts}
use Rattle.sg_county.specs.declared.verdict.CountyVerdict.{CountyVerdict}

settled_behind : (done before : List Record) (rest : AllParts) (verdict : CountyVerdict) → AllCount done before → IsFirstSettled (done ++ before) rest verdict → IsFirstSettled done (map texts_in before ++ rest) verdict
settled_behind done [] rest verdict all settled = subst (λ (d : List Record). IsFirstSettled d rest verdict) (append-nil done) settled
settled_behind done (posted ∷ before) rest verdict all settled =
    inr (posted, all.0, settled_behind (done ++ posted ∷ []) before rest verdict all.1 (subst (λ (d : List Record). IsFirstSettled d rest verdict) (sym (append_assoc done (posted ∷ []) before)) settled))

count-push : (done before : List Record) (posted : Record) → AllCount done before → Counts (done ++ before) (texts_in posted) posted → AllCount done (before ++ posted ∷ [])
count-push done [] posted all counts = (subst (λ (d : List Record). Counts d (texts_in posted) posted) (append-nil done) counts, tt)
count-push done (x ∷ before) posted all counts =
    (all.0, count-push (done ++ x ∷ []) before posted all.1 (subst (λ (d : List Record). Counts d (texts_in posted) posted) (sym (append_assoc done (x ∷ []) before)) counts))

-- one more part counts
pub all_count : (before : List Record) (part : List (List ℕ)) (posted : Record) → AllCount [] before → Counts before part posted → AllCount [] (before ++ posted ∷ [])
all_count before part posted all counts = count-push [] before posted all (subst (λ (l : List (List ℕ)). Counts before l posted) counts.good.whole.text counts)

-- what is settled behind parts that settle nothing is the answer
pub lines_settled : (lines : List (List ℕ)) (before : List Record) (part : List (List ℕ)) (rest : AllParts) (verdict : CountyVerdict) → parts_of lines ≡ map texts_in before ++ part ∷ rest → AllCount [] before
    → IsFirstSettled before (part ∷ rest) verdict → IsCounty lines verdict
lines_settled lines before part rest verdict e all settled =
    subst (λ (parts : AllParts). IsFirstSettled [] parts verdict) (sym e) (settled_behind [] before (part ∷ rest) verdict all settled)

-- a part settles the answer
pub settles_lines : (lines : List (List ℕ)) (before : List Record) (part : List (List ℕ)) (rest : AllParts) (verdict : CountyVerdict) → parts_of lines ≡ map texts_in before ++ part ∷ rest → AllCount [] before
    → Settles before part verdict → IsCounty lines verdict
settles_lines lines before part rest verdict e all settles = lines_settled lines before part rest verdict e all (inl settles)

-- WHERE NOTHING IS SETTLED

nothing_behind : (done before : List Record) (last : List (List ℕ)) → AllCount done before → SettleNothing (done ++ before) (last ∷ []) → SettleNothing done (map texts_in before ++ last ∷ [])
nothing_behind done [] last all nothing = subst (λ (d : List Record). SettleNothing d (last ∷ [])) (append-nil done) nothing
nothing_behind done (posted ∷ []) last all nothing = (posted, all.0, nothing)
nothing_behind done (posted ∷ next ∷ before) last all nothing =
    (posted, all.0, nothing_behind (done ++ posted ∷ []) (next ∷ before) last all.1 (subst (λ (d : List Record). SettleNothing d (last ∷ [])) (sym (append_assoc done (posted ∷ []) (next ∷ before))) nothing))

behind_nothing : (done before : List Record) (part : List (List ℕ)) (rest : AllParts) → AllCount done before → SettleNothing done (map texts_in before ++ part ∷ rest) → SettleNothing (done ++ before) (part ∷ rest)
behind_nothing done [] part rest all nothing = subst (λ (d : List Record). SettleNothing d (part ∷ rest)) (sym (append-nil done)) nothing
behind_nothing done (posted ∷ []) part rest all (x, counts, others) =
    subst (λ (r : Record). SettleNothing (done ++ r ∷ []) (part ∷ rest)) (one_record (texts_in posted) x posted counts.good.whole all.0.good.whole) others
behind_nothing done (posted ∷ next ∷ before) part rest all (x, counts, others) =
    subst (λ (d : List Record). SettleNothing d (part ∷ rest)) (append_assoc done (posted ∷ []) (next ∷ before))
    (behind_nothing (done ++ posted ∷ []) (next ∷ before) part rest all.1
    (subst (λ (r : Record). SettleNothing (done ++ r ∷ []) (map texts_in (next ∷ before) ++ part ∷ rest)) (one_record (texts_in posted) x posted counts.good.whole all.0.good.whole) others))

-- the parts settle nothing where the last one settles nothing yet
pub unsettled_at : (lines : List (List ℕ)) (before : List Record) (last : List (List ℕ)) → AreParts lines before last → SettleNothing before (last ∷ []) → IsUnsettled lines
unsettled_at lines before last are nothing = record { nothing = subst (λ (parts : AllParts). SettleNothing [] parts) (sym are.parts) (nothing_behind [] before last are.count nothing) }

-- and then no part settles anything behind those before it
pub nothing_at : (lines : List (List ℕ)) (before : List Record) (part : List (List ℕ)) (rest : AllParts) → parts_of lines ≡ map texts_in before ++ part ∷ rest → AllCount [] before
    → IsUnsettled lines → SettleNothing before (part ∷ rest)
nothing_at lines before part rest e all unsettled = behind_nothing [] before part rest all (subst (λ (parts : AllParts). SettleNothing [] parts) e unsettled.nothing)
