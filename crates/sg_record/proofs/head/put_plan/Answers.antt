-- The parts follow one another.
use Rattle.std.proofs.Common.{◌∷◌, [], map, ◌++◌}
use Rattle.sg_record.proofs.Limits.{races_of, styles_of}
use Rattle.sg_record.proofs.Putting.{puts_stop, puts_then}
use Rattle.std.specs.List.{flat_map}
use Rattle.sg_forms.specs.Said.Said.{Election, Instances, Version}
use Rattle.sg_record.specs.Lines.{race_lines, run_line, style_line}
use Rattle.sg_record.proofs.head.put_plan.Goals as goal

pub returns-in_err-put_front : goal.returns-in_err-put_front
returns-in_err-put_front g c =
    puts_stop _ _ _ _ (Version c.args.plan.now.version ∷ Election c.args.plan.now.name ∷ Instances c.args.plan.now.instances ∷ []) (flat_map race_lines c.args.plan.now.races ++ (map style_line c.args.plan.now.styles ++ (map run_line c.args.plan.now.runs))) c.from_residual.ensures.0 c.in_err-put_front.ensures

pub returns-in_err-put_races : goal.returns-in_err-put_races
returns-in_err-put_races g c =
    puts_then _ _ _ _ _ (Version c.args.plan.now.version ∷ Election c.args.plan.now.name ∷ Instances c.args.plan.now.instances ∷ []) (flat_map race_lines c.args.plan.now.races ++ (map style_line c.args.plan.now.styles ++ (map run_line c.args.plan.now.runs))) c.in_ok-put_front.ensures
    (puts_stop _ _ _ _ (flat_map race_lines c.args.plan.now.races) (map style_line c.args.plan.now.styles ++ (map run_line c.args.plan.now.runs)) c.from_residual-in_err-put_races.ensures.0 c.in_err-put_races.ensures)

pub returns-in_err-put_styles : goal.returns-in_err-put_styles
returns-in_err-put_styles g c =
    puts_then _ _ _ _ _ (Version c.args.plan.now.version ∷ Election c.args.plan.now.name ∷ Instances c.args.plan.now.instances ∷ []) (flat_map race_lines c.args.plan.now.races ++ (map style_line c.args.plan.now.styles ++ (map run_line c.args.plan.now.runs))) c.in_ok-put_front.ensures
    (puts_then _ _ _ _ _ (flat_map race_lines c.args.plan.now.races) (map style_line c.args.plan.now.styles ++ (map run_line c.args.plan.now.runs)) c.in_ok-put_races.ensures
    (puts_stop _ _ _ _ (map style_line c.args.plan.now.styles) (map run_line c.args.plan.now.runs) c.from_residual-in_err-put_styles.ensures.0 c.in_err-put_styles.ensures))

pub returns : goal.returns
returns g c =
    puts_then _ _ _ _ _ (Version c.args.plan.now.version ∷ Election c.args.plan.now.name ∷ Instances c.args.plan.now.instances ∷ []) (flat_map race_lines c.args.plan.now.races ++ (map style_line c.args.plan.now.styles ++ (map run_line c.args.plan.now.runs))) c.in_ok-put_front.ensures
    (puts_then _ _ _ _ _ (flat_map race_lines c.args.plan.now.races) (map style_line c.args.plan.now.styles ++ (map run_line c.args.plan.now.runs)) c.in_ok-put_races.ensures
    (puts_then _ _ _ _ _ (map style_line c.args.plan.now.styles) (map run_line c.args.plan.now.runs) c.in_ok-put_styles.ensures
    (c.put_lines.ensures)))

pub put_races-requires : goal.put_races-requires
put_races-requires g c = record { races = races_of c.args.plan.now c.requires.limits }

pub put_styles-requires : goal.put_styles-requires
put_styles-requires g c = record { styles = styles_of c.args.plan.now c.requires.limits }
