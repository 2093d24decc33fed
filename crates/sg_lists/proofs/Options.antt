-- Options: whether there is something, and what.
use Rattle.std.proofs.Common.{◌≡◌, Bool, true, false, cond, Option, Some, None, refl, sym}
use Rattle.std.specs.Option.{is_none, is_some, option_and_then, option_map, option_map_or}

-- nothing is there
pub is_none-true : {A : Type 0} (o : Option A) → is_none o ≡ true → o ≡ None
is_none-true None e = refl
is_none-true (Some x) e = cc

-- something is there
pub is_some-true : {A : Type 0} (o : Option A) → is_some o ≡ true → (x : A) × (o ≡ Some x)
is_some-true None e = cc
is_some-true (Some x) e = (x, refl)

-- nothing is there
pub is_some-false : {A : Type 0} (o : Option A) → is_some o ≡ false → o ≡ None
is_some-false None e = refl
is_some-false (Some x) e = cc

-- something is there just where the test passes
pub is_some-cond : {A : Type 0} (b : Bool) (x : A) → is_some (cond b (Some x) None) ≡ b
is_some-cond true x = refl
is_some-cond false x = refl

-- where a choice gives nothing, the test fails, and the other gives nothing
pub cond_none : {A : Type 0} (b : Bool) (x : A) (o : Option A) → cond b (Some x) o ≡ None → (b ≡ false) × (o ≡ None)
cond_none true x o e = cc
cond_none false x o e = (refl, e)

-- what is there, or else nothing
pub option_map_or-Some : {A : Type 0} (o : Option A) → option_map_or Some o None ≡ o
option_map_or-Some None = refl
option_map_or-Some (Some x) = refl

-- where what was made is there, what it was made from was
pub option_map-some : {A B : Type 0} (f : A → B) (o : Option A) (y : B) → option_map f o ≡ Some y → (x : A) × (o ≡ Some x) × (f x ≡ y)
option_map-some f None y e = cc
option_map-some f (Some x) y e = (x, refl, cc)

-- where what was found behind it is there, it was there too
pub option_and_then-some : {A B : Type 0} (f : A → Option B) (o : Option A) (y : B) → option_and_then f o ≡ Some y → (x : A) × (o ≡ Some x) × (f x ≡ Some y)
option_and_then-some f None y e = cc
option_and_then-some f (Some x) y e = (x, refl, e)

-- what a choice gives is there
pub cond_some-then : {A : Type 0} (b : Bool) (o : Option A) (t : A) → cond b o None ≡ Some t → o ≡ Some t
cond_some-then true o t e = e
cond_some-then false o t e = cc

-- options that hold the same are one
pub same_Options : {A : Type 0} (a b : Option A) → ((x : A) → a ≡ Some x → b ≡ Some x) → ((x : A) → b ≡ Some x → a ≡ Some x) → a ≡ b
same_Options None None there back = refl
same_Options None (Some x) there back = back x refl
same_Options (Some x) b there back = sym (there x refl)
