-- The numbers of a command that words ask for are in their bounds.
use Rattle.std.specs.Option.{option_and_then, option_map}
use Rattle.std.specs.Prelude.{if◌then◌else◌, nat_le, ◌&&◌, IfSome}
use Rattle.std.proofs.Common.{◌≡◌, ℕ, ◌≤◌, Bool, true, false, List, [], ◌∷◌, bytes_eq, Option, Some, None, refl}
use Rattle.std.proofs.lemmas.Bool.{leb-true}
use Rattle.sg_lines.specs.Words.{decimal_of}
use Rattle.sg_words.specs.Command.{Behind, IsSized, Words, asked_behind, asked_in, commands, no_more, two_more}
use Rattle.sg_words.specs.Numbers.{IsService, Range, ballots_range, count_range, number_in, pair_in, port_range, sample_in, sample_with, seed_range, service_in, service_with}
use Rattle.sg_words.specs.declared.command.Command.{Command}
use Rattle.sg_words.specs.declared.command.Command.TheVariants.{Sample, Serve}

-- the number is in the range
abbrev IsIn : Range → ℕ → Type 0
IsIn range n = (range.least ≤ n) × (n ≤ range.most)

number_is_in : (range : Range) (word : List ℕ) → IfSome (number_in range word) (IsIn range)
number_is_in range word = go (decimal_of word)
  where
    under : (n : ℕ) (low high : Bool) → nat_le range.least n ≡ low → nat_le n range.most ≡ high → IfSome (if low && high then Some n else None) (IsIn range)
    under n true true above below = (leb-true _ _ above, leb-true _ _ below)
    under n true false above below = tt
    under n false high above below = tt

    go : (read : Option ℕ) → IfSome (option_and_then (λ n. if nat_le range.least n && nat_le n range.most then Some n else None) read) (IsIn range)
    go None = tt
    go (Some n) = under n (nat_le range.least n) (nat_le n range.most) refl refl

both_are_in : {X : Type 0} (first second : Range) (made : ℕ → ℕ → X) (P : X → Type 0)
    → ((n m : ℕ) → IsIn first n → IsIn second m → P (made n m)) → (left right : Option ℕ) → IfSome left (IsIn first) → IfSome right (IsIn second)
    → IfSome (option_and_then (λ n. option_map (made n) right) left) P
both_are_in first second made P fits None right here there = tt
both_are_in first second made P fits (Some n) None here there = tt
both_are_in first second made P fits (Some n) (Some m) here there = fits n m here there

pair_is_in : {X : Type 0} (first second : Range) (made : ℕ → ℕ → X) (P : X → Type 0)
    → ((n m : ℕ) → IsIn first n → IsIn second m → P (made n m)) → (left right : List ℕ) → IfSome (pair_in first second made left right) P
pair_is_in first second made P fits left right =
    both_are_in first second made P fits (number_in first left) (number_in second right) (number_is_in first left) (number_is_in second right)

mapped : {X Y : Type 0} (f : X → Y) (P : Y → Type 0) (o : Option X) → IfSome o (λ x. P (f x)) → IfSome (option_map f o) P
mapped f P None is = tt
mapped f P (Some x) is = is

service_is_sized : (left right : List ℕ) → IfSome (option_map Serve (service_in left right)) IsSized
service_is_sized left right =
    mapped Serve IsSized (service_in left right) (pair_is_in port_range count_range service_with IsService (λ n m here there. (here.0, here.1, there.0, there.1)) left right)

sample_is_sized : (left right : List ℕ) → IfSome (option_map Sample (sample_in left right)) IsSized
sample_is_sized left right =
    mapped Sample IsSized (sample_in left right) (pair_is_in seed_range ballots_range sample_with (λ asked. IsSized (Sample asked)) (λ n m here there. there) left right)

-- what stands behind a name asks for such commands alone
abbrev AreSized : Behind → Type 0
AreSized (no_more command) = IsSized command
AreSized (two_more first second asked) = (left right : List ℕ) → IfSome (asked left right) IsSized

abbrev EachIsSized : List Words → Type 0
EachIsSized [] = Unit {0}
EachIsSized (form ∷ forms) = AreSized form.behind × EachIsSized forms

each_is_sized : EachIsSized commands
unfolding commands
each_is_sized = assumption (tt, service_is_sized, sample_is_sized)

behind_is_sized : (behind : Behind) (words : List (List ℕ)) → AreSized behind → IfSome (asked_behind behind words) IsSized
behind_is_sized (no_more command) [] sized = sized
behind_is_sized (no_more command) (word ∷ words) sized = tt
behind_is_sized (two_more first second asked) [] sized = tt
behind_is_sized (two_more first second asked) (left ∷ []) sized = tt
behind_is_sized (two_more first second asked) (left ∷ right ∷ []) sized = sized left right
behind_is_sized (two_more first second asked) (left ∷ right ∷ next ∷ words) sized = tt

one_of_two : (test : Bool) (here others : Option Command) → IfSome here IsSized → IfSome others IsSized → IfSome (if test then here else others) IsSized
one_of_two true here others sized sized' = sized
one_of_two false here others sized sized' = sized'

form_is_sized : (forms : List Words) (name : List ℕ) (words : List (List ℕ)) → EachIsSized forms → IfSome (asked_in forms name words) IsSized
form_is_sized [] name words sized = tt
form_is_sized (form ∷ forms) name words sized =
    one_of_two (bytes_eq name form.name) (asked_behind form.behind words) (asked_in forms name words)
    (behind_is_sized form.behind words sized.0) (form_is_sized forms name words sized.1)

-- what words ask for is sized
pub table_is_sized : (name : List ℕ) (words : List (List ℕ)) → IfSome (asked_in commands name words) IsSized
table_is_sized name words = form_is_sized commands name words each_is_sized
