-- What holds of each line that may stand holds of the line that does.
use Rattle.std.proofs.Common.{◌≡◌, Bool, true, false, ◌&&◌, cond, Option, Some, None, refl, subst}
use Rattle.std.specs.Option.{is_some}
use Rattle.std.proofs.lemmas.Option.{cond_some}
use Rattle.sg_grammar.specs.Head.{if_then}

-- of a value under a test, where the test gives it
pub if_then-claim : {A : Type 0} (C : A → Type 0) (b : Bool) (x t : A) → (b ≡ true → C x) → if_then b x ≡ Some t → C t
if_then-claim C b x t claim e = let parts = cond_some b x t e in subst C parts.1 (claim parts.0)

-- a value under a test is there where the test is passed
pub is_some-if_then : {A : Type 0} (b : Bool) (x : A) → is_some (if_then b x) ≡ b
is_some-if_then true x = refl
is_some-if_then false x = refl

-- and an optional one, where it is there besides
pub is_some-cond : {A : Type 0} (b : Bool) (o : Option A) → is_some (cond b o None) ≡ (b && is_some o)
is_some-cond true o = refl
is_some-cond false o = refl

pub ruleset tests = (is_some-if_then, is_some-cond)
