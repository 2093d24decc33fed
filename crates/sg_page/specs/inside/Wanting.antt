-- Which lines the walk picks.
use Rattle.std.specs.Prelude.{ℕ, Bool, List, Option}
use Rattle.std.specs.Option.{option_map}
use Rattle.sg_grammar.specs.Placed.{Placed}
use Rattle.sg_grammar.specs.Walk.{Next, take_bytes}
use Rattle.sg_page.specs.Shown.{is_about, is_of_plan, is_seal}
use Rattle.sg_page.specs.declared.wanted.Wanted.{Wanted}
use Rattle.sg_page.specs.declared.wanted.Wanted.TheVariants as wanted

-- a line in this place is wanted
abbrev pub is_wanted : Wanted → Placed → Bool
is_wanted wanted.Plan = is_of_plan
is_wanted wanted.Seals = is_seal
is_wanted (wanted.Ballot ballot) = is_about ballot

-- a line was taken: whether it is wanted, and what may stand behind it
pub record Found : Type 0 where
  pub is : Bool
  pub next : Next

abbrev pub found_so : Next → Bool → Found
found_so next is = record { is = is; next = next }

-- what is found of the line of these bytes, where it may stand next
abbrev pub step_of : Wanted → Next → List ℕ → Option Found
step_of wanted next bytes = option_map (λ taken. found_so taken.next (is_wanted wanted taken.placed)) (take_bytes next bytes)
