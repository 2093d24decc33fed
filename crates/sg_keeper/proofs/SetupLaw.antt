-- The laws of the texts of setups.
use Rattle.std.proofs.Common.{◌≡◌, ℕ, ◌≤◌, nat_le, Bool, true, false, cond, List, [], ◌∷◌, ◌++◌, length, map, Option, Some, None, Result, Ok, Err, refl, sym, subst, ap, ◌∙◌, append_assoc}
use Rattle.std.specs.Prelude.{option_and_then, IfOk, IfSome}
use Rattle.std.specs.List.{concat}
use Rattle.std.proofs.lemmas.Bool.{and_parts, le-leb, leb-true}
use Rattle.std.proofs.lemmas.List.Folds.{concat-append}
use Rattle.std.proofs.lemmas.Option.{cond_some, same_Some}
use Rattle.sg_lists.proofs.Options.{option_and_then-some}
use Rattle.sg_outside.proofs.LineLemmas.{AreLines-append, concat-lines_of, lines_of-concat}
use Rattle.sg_outside.specs.TextLines.{AreLines, lines_of}
use Rattle.sg_plan.specs.declared.memory.NoMemory.{NoMemory}
use Rattle.sg_plan.specs.declared.plan.Plan.{Plan}
use Rattle.sg_plan.specs.Limits.{fault_of}
use Rattle.sg_forms.specs.Reading.{all_by, is_few}
use Rattle.sg_grammar.specs.Head.{has_runs, made}
use Rattle.sg_grammar.specs.declared.state.Head.TheVariants as head
use Rattle.sg_record.proofs.TextLaw.{spelled_lines}
use Rattle.sg_record.specs.Lines.{plan_lines}
use Rattle.sg_keeper.proofs.PlanFound.{plan_found}
use Rattle.sg_keeper.proofs.PlanOut.{plan_read}
use Rattle.sg_keeper.proofs.PlanRange.{plan_in}
use Rattle.sg_keeper.proofs.SetupLines.{secrets_are_lines, secrets_found, secrets_read, seed_found, seed_is_line, seed_read}
use Rattle.sg_keeper.specs.Laws.{SetupsDiffer}
use Rattle.sg_keeper.specs.inside.SetupReading.{PlanRead, behind_plan, no_line, read_plan, secret_of, seed_of, setup_by, setup_in, with_secrets}
use Rattle.sg_keeper.specs.SetupText.{IsMadeOfBytes, IsSetup, IsSetupText, plan_texts, secret_line, seed_line, setup_lines, setup_text}
use Rattle.sg_keeper.specs.declared.setup.Setup.{Setup}

-- WHAT IS READ

-- the setup of a plan, whose other lines are these
pub record IsBehind (plan : Plan) (lines : List (List ℕ)) (setup : Setup) : Type 0 where
  pub same : setup.plan ≡ plan
  pub bytes : IsMadeOfBytes setup
  pub some : 1 ≤ length setup.secrets
  pub few : length setup.secrets ≤ 32
  pub spelled : lines ≡ seed_line setup.seed.0 ∷ map secret_line setup.secrets

behind_found : (plan : Plan) (lines : List (List ℕ)) (setup : Setup) → behind_plan plan lines ≡ Some setup → IsBehind plan lines setup
behind_found plan [] setup e = cc
behind_found plan (first ∷ lines) setup e =
    let one = option_and_then-some (λ seed. option_and_then (with_secrets plan seed) (all_by secret_of lines)) (seed_of first) setup e in
    let two = option_and_then-some (with_secrets plan one.0) (all_by secret_of lines) setup one.2 in
    let three = cond_some (is_few 32 two.0) (record { plan = plan; seed = record { 0 = one.0 }; secrets = two.0 }) setup two.2 in
    let seed = seed_found first one.0 one.1 in
    let secrets = secrets_found lines two.0 two.1 in
    let ends = and_parts (nat_le 1 (length two.0)) (nat_le (length two.0) 32) three.0 in
    subst (IsBehind plan (first ∷ lines)) three.1
    (record {
      same = refl;
      bytes = record { seed = seed.0; secrets = secrets.0 };
      some = leb-true 1 (length two.0) ends.0;
      few = leb-true (length two.0) 32 ends.1;
      spelled = ap (λ w. w ∷ lines) seed.1 ∙ ap (λ l. seed_line one.0 ∷ l) secrets.1;
    })

-- what is read is a setup, and these are its lines
pub record IsOfLines (lines : List (List ℕ)) (setup : Setup) : Type 0 where
  pub is : IsSetup setup
  pub bytes : IsMadeOfBytes setup
  pub spelled : lines ≡ setup_lines setup

lines_found : (lines : List (List ℕ)) (setup : Setup) → setup_by (read_plan no_line lines) ≡ Some setup → IsOfLines lines setup
lines_found lines setup e =
    let read = read_plan no_line lines in
    let runs = has_some (has_runs read.so_far.head) (behind_plan read.so_far.plan read.left) setup e in
    let plan = plan_found lines runs.0 in
    let behind = behind_found read.so_far.plan read.left setup runs.1 in
    record {
      is = record { plan = ap fault_of behind.same ∙ plan.kept; some = behind.some; few = behind.few };
      bytes = behind.bytes;
      spelled = plan.spelled ∙ (ap (λ l. plan_texts read.so_far.plan ++ l) behind.spelled
          ∙ ap (λ (p : Plan). plan_texts p ++ seed_line setup.seed.0 ∷ map secret_line setup.secrets) (sym behind.same));
    }
  where
    has_some : (b : Bool) (o : Option Setup) (t : Setup) → cond b o None ≡ Some t → (b ≡ true) × (o ≡ Some t)
    has_some true o t e = (refl, e)
    has_some false o t e = cc

-- what is read is a setup, and the text is its text
setups_are_spelled : (text : List ℕ) (setup : Setup) → setup_in text ≡ Some setup → IsSetupText text setup
unfolding setup_in setup_text
setups_are_spelled text setup e =
    let found = lines_found (lines_of text) setup e in
    (found.is, found.bytes, sym (concat-lines_of text) ∙ ap concat found.spelled)

-- WHAT IS WRITTEN

-- the lines of a setup are lines
setup_are_lines : (setup : Setup) → IsSetup setup → IsMadeOfBytes setup → AreLines (setup_lines setup)
setup_are_lines setup is bytes =
    AreLines-append (plan_texts setup.plan) (seed_line setup.seed.0 ∷ map secret_line setup.secrets)
    (spelled_lines setup.plan.version (plan_lines setup.plan) (plan_in setup.plan is.plan))
    (seed_is_line setup.seed.0 bytes.seed, secrets_are_lines setup.secrets bytes.secrets)

setup_is_read : (setup : Setup) → IsSetup setup → IsMadeOfBytes setup → setup_in (setup_text setup) ≡ Some setup
unfolding setup_in setup_text
setup_is_read setup is bytes =
    let lines = lines_of-concat (setup_lines setup) (setup_are_lines setup is bytes) in
    let read = plan_read setup.plan setup.seed.0 (map secret_line setup.secrets) is.plan in
    let all : read_plan no_line (lines_of (concat (setup_lines setup))) ≡ record { so_far = made setup.plan head.Runs; left = seed_line setup.seed.0 ∷ map secret_line setup.secrets }
    = ap (read_plan no_line) lines ∙ read in
    ap setup_by all
    ∙ rw (seed_read setup.seed.0 bytes.seed, secrets_read setup.secrets bytes.secrets, le-leb 1 (length setup.secrets) is.some, le-leb (length setup.secrets) 32 is.few) refl

-- each setup is read from its text
setups_are_read : (text : List ℕ) (setup : Setup) → IsSetupText text setup → setup_in text ≡ Some setup
setups_are_read text setup its = ap setup_in its.2 ∙ setup_is_read setup its.0 its.1

pub setups_differ : SetupsDiffer
setups_differ text a b of_a of_b = same_Some a b (sym (setups_are_read text a of_a) ∙ setups_are_read text b of_b)

-- the parts follow one another
pub setup_whole : (setup : Setup) → (concat (plan_texts setup.plan) ++ seed_line setup.seed.0) ++ concat (map secret_line setup.secrets) ≡ setup_text setup
unfolding setup_text
setup_whole setup =
    append_assoc (concat (plan_texts setup.plan)) (seed_line setup.seed.0) (concat (map secret_line setup.secrets))
    ∙ sym (concat-append (plan_texts setup.plan) (seed_line setup.seed.0 ∷ map secret_line setup.secrets))

-- WHAT THE READER ANSWERS

-- no whole plan stands at the head
pub no_plan_read : (text : List ℕ) (read : PlanRead) → read_plan no_line (lines_of text) ≡ read → has_runs read.so_far.head ≡ false → None ≡ setup_in text
unfolding setup_in
no_plan_read text read is none = rw (is, none) refl

-- behind a whole plan
pub behind_read : (text : List ℕ) (read : PlanRead) (plan : Plan) (result : Result (Option Setup) NoMemory) → read_plan no_line (lines_of text) ≡ read → has_runs read.so_far.head ≡ true → plan ≡ read.so_far.plan
    → IfOk result (λ found. found ≡ behind_plan plan read.left) → IfOk result (λ found. found ≡ setup_in text)
unfolding setup_in
behind_read text read plan (Ok found) is runs same at = rw (is, runs) (at ∙ ap (λ (p : Plan). behind_plan p read.left) same)
behind_read text read plan (Err fault) is runs same at = tt

found_if : (text : List ℕ) (found : Option Setup) → found ≡ setup_in text → IfSome found (λ setup. IsSetupText text setup)
found_if text None is = tt
found_if text (Some setup) is = setups_are_spelled text setup (sym is)

pub found_setup : (text : List ℕ) (result : Result (Option Setup) NoMemory) → IfOk result (λ found. found ≡ setup_in text)
    → IfOk result (λ found. IfSome found (λ setup. IsSetupText text setup))
found_setup text (Ok found) is = found_if text found is
found_setup text (Err fault) is = tt

pub only_setup : (text : List ℕ) (result : Result (Option Setup) NoMemory) → IfOk result (λ found. found ≡ setup_in text)
    → (setup : Setup) → IsSetupText text setup → IfOk result (λ found. found ≡ Some setup)
only_setup text (Ok found) is setup its = is ∙ setups_are_read text setup its
only_setup text (Err fault) is setup its = tt
