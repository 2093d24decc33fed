-- Scans that pass the test are the same.
use Rattle.std.proofs.Common.{◌≡◌, ℕ, ◌==◌, true, ◌&&◌, List, [], ◌∷◌, bytes_eq, refl, ap, ◌∙◌}
use Rattle.std.proofs.lemmas.Bool.{and_parts, eqb-true}
use Rattle.std.proofs.lemmas.Slice.Eq.{bytes_eq-Decides}
use Rattle.sg_plan.specs.declared.plan.Mark.{Mark}
use Rattle.sg_acts.specs.declared.asks.Stamp.{Stamp}
use Rattle.sg_scans.specs.ScanLaws.{Scan, same_marks, same_scan, same_stamp}

abbrev make_stamp : ℕ → List ℕ → ℕ → Stamp
make_stamp station secret number = record { station = station; secret = secret; number = number }

abbrev make_mark : ℕ → ℕ → Mark
make_mark race candidate = record { race = race; candidate = candidate }

abbrev make_scan : Stamp → ℕ → List Mark → Scan
make_scan stamp ballot marks = record { stamp = stamp; ballot = ballot; marks = marks }

stamp_is : (a b : Stamp) → same_stamp a b ≡ true → a ≡ b
stamp_is a b e =
    let rest = (and_parts (a.station == b.station) _ e).1 in
    let one : a.station ≡ b.station = eqb-true _ _ (and_parts _ _ e).0 in
    let two : a.secret ≡ b.secret = (bytes_eq-Decides _ _).0 (and_parts _ _ rest).0 in
    let three : a.number ≡ b.number = eqb-true _ _ (and_parts (bytes_eq a.secret b.secret) _ rest).1 in
    ap (λ (x : ℕ). make_stamp x a.secret a.number) one ∙ (ap (λ (x : List ℕ). make_stamp b.station x a.number) two ∙ ap (λ (x : ℕ). make_stamp b.station b.secret x) three)

marks_are : (a b : List Mark) → same_marks a b ≡ true → a ≡ b
marks_are [] [] e = refl
marks_are [] (b ∷ more) e = cc e
marks_are (a ∷ marks) [] e = cc e
marks_are (a ∷ marks) (b ∷ more) e =
    let head = (and_parts (a.race == b.race && a.candidate == b.candidate) _ e).0 in
    let one : a.race ≡ b.race = eqb-true _ _ (and_parts _ _ head).0 in
    let two : a.candidate ≡ b.candidate = eqb-true _ _ (and_parts (a.race == b.race) _ head).1 in
    let mark : a ≡ b = ap (λ (x : ℕ). make_mark x a.candidate) one ∙ ap (λ (x : ℕ). make_mark b.race x) two in
    let rest : marks ≡ more = marks_are marks more (and_parts (a.race == b.race && a.candidate == b.candidate) _ e).1 in
    ap (λ (x : Mark). x ∷ marks) mark ∙ ap (λ (x : List Mark). b ∷ x) rest

pub scan_is : (a b : Scan) → same_scan a b ≡ true → a ≡ b
scan_is a b e =
    let rest = (and_parts (same_stamp a.stamp b.stamp) _ e).1 in
    let one : a.stamp ≡ b.stamp = stamp_is _ _ (and_parts _ _ e).0 in
    let two : a.ballot ≡ b.ballot = eqb-true _ _ (and_parts _ _ rest).0 in
    let three : a.marks ≡ b.marks = marks_are _ _ (and_parts (a.ballot == b.ballot) _ rest).1 in
    ap (λ (x : Stamp). make_scan x a.ballot a.marks) one ∙ (ap (λ (x : ℕ). make_scan b.stamp x a.marks) two ∙ ap (λ (x : List Mark). make_scan b.stamp b.ballot x) three)
