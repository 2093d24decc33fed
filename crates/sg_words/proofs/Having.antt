-- Each command has words in the table, and they ask for it.
use Rattle.std.specs.Option.{option_and_then, option_map}
use Rattle.std.specs.Prelude.{◌⊎◌, if◌then◌else◌, nat_le, ◌&&◌, Contains}
use Rattle.std.proofs.Common.{◌≡◌, inl, inr, ℕ, ◌<◌, ◌≤◌, ◌^◌, List, [], ◌∷◌, codes, decimal, None, Some, refl, ap, ◌∙◌, arith}
use Rattle.std.proofs.lemmas.Bool.{le-leb}
use Rattle.std.proofs.lemmas.List.Elements.{Contains-append_left, Contains-append_right, Contains-push}
use Rattle.sg_lines.proofs.Numbers.{decimals_are_read}
use Rattle.sg_words.specs.Command.{Words, command_in, commands}
use Rattle.sg_words.specs.Laws.{CommandsHaveWords, HasWords}
use Rattle.sg_words.specs.Numbers.{Range, ballots_range, count_range, number_in, pair_in, port_range, seed_range}
use Rattle.sg_words.specs.declared.command.Command.{Command}
use Rattle.sg_words.specs.declared.command.Command.TheVariants.{Sample, Serve}

-- the name of one of these forms, with these words behind it, asks for the command
abbrev IsAskedIn : List (List ℕ) → Command → List Words → Type 0
IsAskedIn behind command [] = ⊥
IsAskedIn behind command (form ∷ forms) = (command_in (form.name ∷ behind) ≡ Some command) ⊎ IsAskedIn behind command forms

-- that form
form_asked : (behind : List (List ℕ)) (command : Command) (forms : List Words) → IsAskedIn behind command forms
    → (form : Words) × Contains forms form × (command_in (form.name ∷ behind) ≡ Some command)
form_asked behind command [] asked = absurd asked
form_asked behind command (form ∷ forms) (inl asks) = (form, Contains-append_left (form ∷ []) forms form (Contains-push [] form), asks)
form_asked behind command (form ∷ forms) (inr asked) =
    let later = form_asked behind command forms asked in
    (later.0, Contains-append_right (form ∷ []) forms later.0 later.1, later.2)

has_form : (behind : List (List ℕ)) (command : Command) → IsAskedIn behind command commands → HasWords command
has_form behind command asked =
    let found = form_asked behind command commands asked in
    record { form = found.0; behind = behind; stands = found.1; asks = found.2 }

-- a number in its range is read from its digits
number_read : (range : Range) (n : ℕ) → n < 2 ^ 32 → range.least ≤ n → n ≤ range.most → number_in range (decimal n) ≡ Some n
number_read range n small above below =
    ap (option_and_then (λ m. if nat_le range.least m && nat_le m range.most then Some m else None)) (decimals_are_read n small)
    ∙ (rw (le-leb range.least n above, le-leb n range.most below) refl)

pair_read : {X : Type 0} (first second : Range) (made : ℕ → ℕ → X) (n m : ℕ) → number_in first (decimal n) ≡ Some n → number_in second (decimal m) ≡ Some m
    → pair_in first second made (decimal n) (decimal m) ≡ Some (made n m)
pair_read first second made n m read read' = rw (read, read') refl

serve_asks : (port count : ℕ) → 1 ≤ port → port ≤ 65535 → 1 ≤ count → count ≤ 1000000
    → command_in (codes "serve" ∷ decimal port ∷ decimal count ∷ []) ≡ Some (Serve (record { port = port; count = count }))
unfolding commands
serve_asks port count low high least most =
    ap (option_map Serve) (pair_read port_range count_range _ port count
    (number_read port_range port (omega (arith, high)) low high) (number_read count_range count (omega (arith, most)) least most))

sample_asks : (seed ballots : ℕ) → seed < 2 ^ 32 → 1 ≤ ballots → ballots ≤ 9000
    → command_in (codes "sample" ∷ decimal seed ∷ decimal ballots ∷ []) ≡ Some (Sample (record { seed = seed; ballots = ballots }))
unfolding commands
sample_asks seed ballots small least most =
    ap (option_map Sample) (pair_read seed_range ballots_range _ seed ballots
    (number_read seed_range seed small (omega arith) (omega (arith, small))) (number_read ballots_range ballots (omega (arith, most)) least most))

-- a command without numbers stands in the table: each form is tried in turn
pub commands_have_words : CommandsHaveWords
unfolding commands
commands_have_words (Serve asked) sized seeded =
    let asks = serve_asks asked.port asked.count sized.0 sized.1 sized.2 sized.3 in
    has_form (decimal asked.port ∷ decimal asked.count ∷ []) (Serve asked) (search (inl, inr, asks) depth 40)
commands_have_words (Sample asked) sized seeded =
    let asks = sample_asks asked.seed asked.ballots seeded sized.0 sized.1 in
    has_form (decimal asked.seed ∷ decimal asked.ballots ∷ []) (Sample asked) (search (inl, inr, asks) depth 40)
commands_have_words command _ _ = has_form [] command (search (inl, inr) depth 40)
