-- The rows of an office, from those of its setup.
use Rattle.std.proofs.Common.{◌≡◌, List, ℕ, Option, Some, None, Ok, Err, sym, ◌∙◌, ap, subst}
use Rattle.std.specs.Prelude.{Result, IfOk, IfSome}
use Rattle.std.proofs.lemmas.Result.{IfErr-weaker}
use Rattle.sg_desks.specs.ActReading.{act_in}
use Rattle.sg_keeper.specs.SetupText.{IsSetup, IsSetupText}
use Rattle.sg_keeper.specs.declared.rows.Rows.{Rows}
use Rattle.sg_keeper.specs.declared.setup.Setup.{Setup}
use Rattle.sg_histories.specs.Opens.{OpenTo, Whole}
use Rattle.sg_histories.specs.Standing.{HasRows, IsOffice}
use Rattle.sg_histories.specs.ValidRows.{damage_of}
use Rattle.sg_histories.specs.declared.kept.Kept.{Kept}
use Rattle.sg_open.specs.Opened.{IsFault, StandsForEach}
use Rattle.sg_open.specs.inside.Finding.{IsDamage, KeepsRows}
use Rattle.sg_open.proofs.Judged.{opens_bad, opens_damaged, opens_whole}
use Rattle.sg_open.proofs.Standing.{each_stands, rows_open}
use Rattle.sg_open.proofs.opening.open_rows.Goals as goal

ok_three : {T E : Type 0} (P Q R S : T → Type 0) (r : Result T E) → ((x : T) → P x → Q x → R x → S x) → IfOk r P → IfOk r Q → IfOk r R → IfOk r S
ok_three P Q R S (Ok x) f p q s = f x p q s
ok_three P Q R S (Err e) f p q s = tt

-- the text that was read is that of the setup
its_text : (text given : List ℕ) (found : Option Setup) (setup : Setup) → text ≡ given → found ≡ Some setup → IfSome found (λ s. IsSetupText text s) → IsSetupText given setup
its_text text given found setup same is its = subst (λ (t : List ℕ). IsSetupText t setup) same (subst (λ (o : Option Setup). IfSome o (λ s. IsSetupText text s)) is its)

-- a text that is read as none is that of no setup
no_setup : (text given : List ℕ) (found : Option Setup) → text ≡ given → found ≡ None → ((setup : Setup) → IsSetupText text setup → found ≡ Some setup) → (setup : Setup) → IsSetupText given setup → ⊥
no_setup text given found same is only setup its = let wrong : None ≡ Some setup = sym is ∙ only setup (subst (λ (t : List ℕ). IsSetupText t setup) (sym same) its) in cc

is_whole : (rows : Rows) (text : List ℕ) (setup : Setup) (kept : Kept) → rows.setup ≡ Some text → IsSetupText text setup → damage_of setup (act_in setup.plan.version) rows ≡ None → kept.setup ≡ setup
    → OpenTo rows (Whole kept.setup)
is_whole rows text setup kept given its good same = subst (λ (s : Setup). OpenTo rows (Whole s)) (sym same) (opens_whole rows text setup given its good)

stands : (rows : Rows) (text : List ℕ) (setup : Setup) (kept : Kept) → rows.setup ≡ Some text → IsSetup setup → damage_of setup (act_in setup.plan.version) rows ≡ None → kept.setup ≡ setup → KeepsRows kept rows
    → HasRows kept rows × IsOffice kept
stands rows text setup kept given is good same keeps =
    rows_open kept rows text (subst IsSetup (sym same) is) given (subst (λ (s : Setup). damage_of s (act_in s.plan.version) rows ≡ None) (sym same) good) keeps

each : (rows : Rows) (setup : Setup) (kept : Kept) → IsSetup setup → kept.setup ≡ setup → KeepsRows kept rows → StandsForEach kept rows
each rows setup kept is same keeps = each_stands kept rows (subst IsSetup (sym same) is) keeps

pub returns-in_default-clause-fault : goal.returns-in_default-clause-fault
returns-in_default-clause-fault c = c.in_default.is

pub returns-in_default-2-clause-fault : goal.returns-in_default-2-clause-fault
returns-in_default-2-clause-fault c = opens_bad c.args.rows.now c.in-Some.text c.in-Some.is (no_setup c.bytes.result.now c.in-Some.text _ c.bytes.ensures c.in_default-2.is c.in_ok-setup.ensures.only)

pub returns-clause-setup : goal.returns-clause-setup
returns-clause-setup c =
    let its : IsSetupText c.in-Some.text c.in-Some-2.setup = its_text c.bytes.result.now c.in-Some.text _ c.in-Some-2.setup c.bytes.ensures c.in-Some-2.is c.in_ok-setup.ensures.found in
    ok_three (λ kept. damage_of c.in-Some-2.setup (act_in c.in-Some-2.setup.plan.version) c.args.rows.now ≡ None) (λ (kept : Kept). kept.setup ≡ c.in-Some-2.setup) (λ kept. KeepsRows kept c.args.rows.now)
    (λ (kept : Kept). OpenTo c.args.rows.now (Whole kept.setup)) c.open_setup.result
    (λ kept good same keeps. is_whole c.args.rows.now c.in-Some.text c.in-Some-2.setup kept c.in-Some.is its good same)
    c.open_setup.ensures.good c.open_setup.ensures.setup c.open_setup.ensures.kept

pub returns-clause-stands : goal.returns-clause-stands
returns-clause-stands c =
    let its : IsSetupText c.in-Some.text c.in-Some-2.setup = its_text c.bytes.result.now c.in-Some.text _ c.in-Some-2.setup c.bytes.ensures c.in-Some-2.is c.in_ok-setup.ensures.found in
    ok_three (λ kept. damage_of c.in-Some-2.setup (act_in c.in-Some-2.setup.plan.version) c.args.rows.now ≡ None) (λ (kept : Kept). kept.setup ≡ c.in-Some-2.setup) (λ kept. KeepsRows kept c.args.rows.now)
    (λ kept. HasRows kept c.args.rows.now × IsOffice kept) c.open_setup.result
    (λ kept good same keeps. stands c.args.rows.now c.in-Some.text c.in-Some-2.setup kept c.in-Some.is its.0 good same keeps)
    c.open_setup.ensures.good c.open_setup.ensures.setup c.open_setup.ensures.kept

pub returns-clause-each : goal.returns-clause-each
returns-clause-each c =
    let its : IsSetupText c.in-Some.text c.in-Some-2.setup = its_text c.bytes.result.now c.in-Some.text _ c.in-Some-2.setup c.bytes.ensures c.in-Some-2.is c.in_ok-setup.ensures.found in
    ok_three (λ kept. damage_of c.in-Some-2.setup (act_in c.in-Some-2.setup.plan.version) c.args.rows.now ≡ None) (λ (kept : Kept). kept.setup ≡ c.in-Some-2.setup) (λ kept. KeepsRows kept c.args.rows.now)
    (λ kept. StandsForEach kept c.args.rows.now) c.open_setup.result
    (λ kept good same keeps. each c.args.rows.now c.in-Some-2.setup kept its.0 same keeps)
    c.open_setup.ensures.good c.open_setup.ensures.setup c.open_setup.ensures.kept

pub returns-clause-fault : goal.returns-clause-fault
returns-clause-fault c =
    let its : IsSetupText c.in-Some.text c.in-Some-2.setup = its_text c.bytes.result.now c.in-Some.text _ c.in-Some-2.setup c.bytes.ensures c.in-Some-2.is c.in_ok-setup.ensures.found in
    IfErr-weaker c.open_setup.result (λ told. IsDamage told (damage_of c.in-Some-2.setup (act_in c.in-Some-2.setup.plan.version) c.args.rows.now)) (λ told. IsFault told c.args.rows.now)
    (λ told. opens_damaged c.args.rows.now c.in-Some.text c.in-Some-2.setup told c.in-Some.is its)
    c.open_setup.ensures.fault
