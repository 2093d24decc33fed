use Rattle.std.proofs.Common.{pos, rules, w64, ap, sym, ◌≡◌, ◌∙◌}
use Rattle.std.proofs.lemmas.Int.{to_z-of_z}
use Rattle.std.specs.BTreeMap.{is_at}
use Rattle.std.specs.Map.{lookup}
use Rattle.std.specs.Option.{option_copied}
use Rattle.sg_histories.specs.Standing.{text_at}
use Rattle.sg_office.specs.inside.Runs.{acts_of, text_in}
use Rattle.sg_office.proofs.Gathered.{or_else}
use Rattle.sg_office.proofs.Stations.{stamp_cmp, text_found}
use Rattle.sg_office.proofs.done_list.DoneList.text_at.Goals as goal

pub returns-in-Some : goal.returns-in-Some
returns-in-Some c =
    let found : option_copied c.text_in.result ≡ text_in (pos c.args.number) (acts_of (pos c.args.station) c.self.inside.runs.entries) =
    (rw (to_z-of_z w64 c.from-station.result (search rules), to_z-of_z w64 c.from-number.result (search rules), c.from-station.ensures, c.from-number.ensures) at c.text_in.ensures) in
    ap (λ o. or_else o (lookup (is_at (stamp_cmp (pos c.args.station, pos c.args.number))) c.self.inside.late.entries)) (ap option_copied (sym c.in-Some.is) ∙ found)
    ∙ (text_found c.args.station c.args.number c.self.inside.runs.entries c.self.inside.late.entries c.self.invariant ∙ ap (text_at c.args.station c.args.number) c.self.view_is)

pub returns : goal.returns
returns c =
    let found : option_copied c.text_in.result ≡ text_in (pos c.args.number) (acts_of (pos c.args.station) c.self.inside.runs.entries) =
    (rw (to_z-of_z w64 c.from-station.result (search rules), to_z-of_z w64 c.from-number.result (search rules), c.from-station.ensures, c.from-number.ensures) at c.text_in.ensures) in
    let late : option_copied c.get.result ≡ lookup (is_at (stamp_cmp (pos c.args.station, pos c.args.number))) c.self.inside.late.entries =
    (rw (to_z-of_z w64 c.from-station.result (search rules), to_z-of_z w64 c.from-number.result (search rules), c.from-station.ensures, c.from-number.ensures) at c.get.ensures.value) in
    late ∙ (ap (λ o. or_else o (lookup (is_at (stamp_cmp (pos c.args.station, pos c.args.number))) c.self.inside.late.entries)) (ap option_copied (sym c.in_default.is) ∙ found)
    ∙ (text_found c.args.station c.args.number c.self.inside.runs.entries c.self.inside.late.entries c.self.invariant ∙ ap (text_at c.args.station c.args.number) c.self.view_is))
