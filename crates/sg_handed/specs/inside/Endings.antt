-- What `openings` writes of an office that was opened.
use Rattle.std.specs.Prelude.{◌≡◌, ◌⊎◌, true, false}
use Rattle.std.specs.Io.KnownBytes.{Appends}
use Rattle.sg_outside.specs.Faults.{Rose}
use Rattle.sg_outside.specs.Streams.{AppendsFront, Seen}
use Rattle.sg_outside.specs.declared.outcome.Outcome.{Outcome}
use Rattle.sg_outside.specs.declared.outcome.Outcome.TheVariants as outcome
use Rattle.sg_histories.specs.declared.kept.Kept.{Kept}
use Rattle.sg_openings.specs.Openings.{openings_text}
use Rattle.sg_handed.specs.Handed.{due_at, is_drawn, undrawn_line}

-- the openings, where its draw is made; the line that says so, where it isn't; or a front of what is due of it
abbrev pub HandsOver : Outcome → Kept → Seen → Seen → Type 0
HandsOver outcome.Done kept out out' = (is_drawn kept.stage ≡ true) × Appends out.bytes out'.bytes (openings_text kept.setup.plan kept.setup.seed.0)
HandsOver outcome.WriteFailed kept out out' = Rose out.faults out'.faults × AppendsFront out.bytes out'.bytes (due_at kept.setup kept.stage)
HandsOver outcome.Refused kept out out' = (is_drawn kept.stage ≡ false) × Appends out.bytes out'.bytes undrawn_line
HandsOver outcome.NoMemory kept out out' = (out' ≡ out) ⊎ AppendsFront out.bytes out'.bytes (due_at kept.setup kept.stage)
HandsOver _ kept out out' = ⊥
