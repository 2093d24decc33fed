-- The rows come behind their number.
use Rattle.std.proofs.Common.{◌≡◌, ℕ, List, [], ◌∷◌, ◌∙◌, ap, codes, length, subst}
use Rattle.std.specs.Io.KnownBytes.{Appends}
use Rattle.sg_outside.specs.Streams.{AppendsFront}
use Rattle.sg_outside.proofs.StreamLemmas.{AppendsFront-more}
use Rattle.sg_report.proofs.Pieces.{put_behind}
use Rattle.sg_reports.specs.court.Texts.{numbers_line, rows_text}
use Rattle.sg_reports.proofs.court.texts.write_instance.Goals as goal

pub returns-in-Ok-clause-bytes : goal.returns-in-Ok-clause-bytes
returns-in-Ok-clause-bytes g c =
    let numbers : c.as_slice.result.now ≡ c.args.race ∷ c.args.instance ∷ length c.args.rows.now ∷ [] = c.as_slice.ensures ∙ ap (λ n. c.args.race ∷ c.args.instance ∷ n ∷ []) c.len.ensures in
    let Q : List ℕ → Type 0 = λ l. Appends (g.O.Sink.written c.args.out.now) (g.O.Sink.written c.write_line.new.out) (numbers_line (codes "altered") l) in
    put_behind _ (g.O.Sink.written c.write_line.new.out) _ _ (numbers_line (codes "altered") (c.args.race ∷ c.args.instance ∷ length c.args.rows.now ∷ [])) (rows_text c.args.race c.args.instance c.args.rows.now) (subst Q numbers c.in-Ok.ensures.bytes) c.write_rows.ensures.bytes

pub returns-in-Err-clause-bytes : goal.returns-in-Err-clause-bytes
returns-in-Err-clause-bytes g c =
    let numbers : c.as_slice.result.now ≡ c.args.race ∷ c.args.instance ∷ length c.args.rows.now ∷ [] = c.as_slice.ensures ∙ ap (λ n. c.args.race ∷ c.args.instance ∷ n ∷ []) c.len.ensures in
    let Q : List ℕ → Type 0 = λ l. AppendsFront (g.O.Sink.written c.args.out.now) (g.O.Sink.written c.write_line.new.out) (numbers_line (codes "altered") l) in
    AppendsFront-more _ _ (numbers_line (codes "altered") (c.args.race ∷ c.args.instance ∷ length c.args.rows.now ∷ [])) (rows_text c.args.race c.args.instance c.args.rows.now) (subst Q numbers c.in-Err.ensures.bytes)
