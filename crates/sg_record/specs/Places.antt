-- The lines of a record in their places (this project's rules for the record).
use Rattle.std.specs.Prelude.{ℕ, List, [], ◌∷◌, length, map}
use Rattle.sg_forms.specs.Said.{Said}
use Rattle.sg_forms.specs.Spelling.{spelling}
use Rattle.sg_grammar.specs.Placed.{Placed}
use Rattle.sg_grammar.specs.Placed.Placed.{OfPlan}
use Rattle.sg_grammar.specs.Walk.{Next, Posted, Walked, behind}
use Rattle.sg_grammar.specs.declared.state.Part.TheVariants as part
use Rattle.sg_record.specs.Lines.{lines_in, plan_lines}
use Rattle.sg_record.specs.Tree.{as_place, tree}
use Rattle.sg_record.specs.declared.record.Record.{Record}

-- the lines of the record, each in its place
unfoldable pub places_in : Record → List Placed
places_in posted = tree as_place (map OfPlan (plan_lines posted.plan)) posted

-- lines, each with its bytes and in its place
abbrev pub posts : ℕ → List Said → List Placed → List Posted
posts version [] places = []
posts version (said ∷ lines) [] = []
posts version (said ∷ lines) (placed ∷ places) = record { bytes = spelling version said; line = placed } ∷ posts version lines places

-- behind a record stand further disputes, if any
abbrev pub behind_record : Record → Next
behind_record posted = behind posted.plan [] (part.Disputes (length posted.disputes))

-- the walk over a record's lines
abbrev pub walk_of : Record → Walked
walk_of posted = record { posted = posts posted.plan.version (lines_in posted) (places_in posted); next = behind_record posted }
