-- What is said of the command that was run is said of the one that the words ask for, and by its outcome of its status.
use Rattle.std.proofs.Common.{◌≡◌, ℕ, Some, true, refl, sym, ◌∙◌, subst}
use Rattle.std.specs.Prelude.{IfSome}
use Rattle.sg_outside.specs.Streams.{Seen, seen}
use Rattle.sg_outside.specs.TextLines.{lines_of}
use Rattle.sg_clerk.proofs.Grown.{same_grows}
use Rattle.sg_reports.proofs.Reporting.{no_bad_words, quiet_statuses}
use Rattle.sg_words.specs.Command.{command_in}
use Rattle.sg_words.specs.declared.command.Command.{Command}
use Rattle.sg_words.specs.declared.command.Command.TheVariants as command
use Rattle.sg_app.specs.Headline.{Headline}
use Rattle.sg_app.specs.Touches.{is_report}
use Rattle.sg_app.proofs.Commands.{command_grows}
use Rattle.sg_app.proofs.Headlines.{audit_headline, headline_histories}
use Rattle.sg_app.proofs.Obeyed.{asked_is, ended_for, outside, says_for}
use Rattle.sg_app.proofs.Statuses.{closed_statuses}
use Rattle.sg_app.proofs.program.run.Goals as goal

pub returns-in-Some-clause-form : goal.returns-in-Some-clause-form
returns-in-Some-clause-form g c = λ two. absurd (no_bad_words c.obey.result (sym c.status.ensures ∙ two))

pub returns-in-Some-clause-headline : goal.returns-in-Some-clause-headline
returns-in-Some-clause-headline g c =
    let before = outside (g.S.Source.left c.args.input.now) (g.L.Links.board c.args.links.now) (g.O.Sink.written c.args.out.now) (g.S.Source.faults c.args.input.now) (g.L.Links.faults c.args.links.now) (g.O.Sink.faults c.args.out.now) (g.K.Keeper.faults c.args.keeper.now) in
    let now = outside (g.S.Source.left c.obey.new.input) (g.L.Links.board c.obey.new.links) (g.O.Sink.written c.obey.new.out) (g.S.Source.faults c.obey.new.input) (g.L.Links.faults c.obey.new.links) (g.O.Sink.faults c.obey.new.out) (g.K.Keeper.faults c.obey.new.keeper) in
    let here : Some c.in-Some.command ≡ command_in c.args.words.now = cc (c.in-Some.is, c.command_of.ensures.is) in
    let input : Seen = seen (g.S.Source.left c.args.input.now) (g.S.Source.faults c.args.input.now) in
    let input' : Seen = seen (g.S.Source.left c.obey.new.input) (g.S.Source.faults c.obey.new.input) in
    let out : Seen = seen (g.O.Sink.written c.args.out.now) (g.O.Sink.faults c.args.out.now) in
    let out' : Seen = seen (g.O.Sink.written c.obey.new.out) (g.O.Sink.faults c.obey.new.out) in
    λ asked. subst (λ (n : ℕ). IfSome input.bytes (λ bytes. Headline (lines_of bytes) n input input' out out')) (sym c.status.ensures)
    (audit_headline c.obey.result input input' out out'
    (says_for c.in-Some.command command.Audit (command_in c.args.words.now) c.obey.result (g.K.Keeper.tells c.args.keeper.now) (g.K.Keeper.rows c.args.keeper.now) (g.K.Keeper.rows c.obey.new.keeper)
    before now here asked c.obey.ensures.says))

pub returns-in-Some-clause-histories : goal.returns-in-Some-clause-histories
returns-in-Some-clause-histories g c =
    let input : Seen = seen (g.S.Source.left c.args.input.now) (g.S.Source.faults c.args.input.now) in
    let input' : Seen = seen (g.S.Source.left c.obey.new.input) (g.S.Source.faults c.obey.new.input) in
    let out : Seen = seen (g.O.Sink.written c.args.out.now) (g.O.Sink.faults c.args.out.now) in
    let out' : Seen = seen (g.O.Sink.written c.obey.new.out) (g.O.Sink.faults c.obey.new.out) in
    λ asked. headline_histories input.bytes c.status.result input input' out out' (returns-in-Some-clause-headline g c asked)

pub returns-in-Some-clause-ended : goal.returns-in-Some-clause-ended
returns-in-Some-clause-ended g c =
    let before = outside (g.S.Source.left c.args.input.now) (g.L.Links.board c.args.links.now) (g.O.Sink.written c.args.out.now) (g.S.Source.faults c.args.input.now) (g.L.Links.faults c.args.links.now) (g.O.Sink.faults c.args.out.now) (g.K.Keeper.faults c.args.keeper.now) in
    let now = outside (g.S.Source.left c.obey.new.input) (g.L.Links.board c.obey.new.links) (g.O.Sink.written c.obey.new.out) (g.S.Source.faults c.obey.new.input) (g.L.Links.faults c.obey.new.links) (g.O.Sink.faults c.obey.new.out) (g.K.Keeper.faults c.obey.new.keeper) in
    let here : Some c.in-Some.command ≡ command_in c.args.words.now = cc (c.in-Some.is, c.command_of.ensures.is) in
    λ other asked. ended_for c.in-Some.command other (command_in c.args.words.now) c.status.result c.obey.result (g.K.Keeper.tells c.args.keeper.now) (g.K.Keeper.rows c.args.keeper.now) (g.K.Keeper.rows c.obey.new.keeper)
    before now here asked c.status.ensures c.obey.ensures.says c.obey.ensures.same

pub returns-in-Some-clause-unwritten : goal.returns-in-Some-clause-unwritten
returns-in-Some-clause-unwritten g c =
    let here : Some c.in-Some.command ≡ command_in c.args.words.now = cc (c.in-Some.is, c.command_of.ensures.is) in
    λ other asked reports quiet.
    c.obey.ensures.unwritten (subst (λ (a : Command). is_report a ≡ true) (sym (asked_is c.in-Some.command other (command_in c.args.words.now) here asked)) reports)
    (quiet_statuses c.obey.result (rw c.status.ensures at quiet))

pub returns-in-Some-clause-unopened : goal.returns-in-Some-clause-unopened
returns-in-Some-clause-unopened g c =
    let here : Some c.in-Some.command ≡ command_in c.args.words.now = cc (c.in-Some.is, c.command_of.ensures.is) in
    λ service asked closed.
    c.obey.ensures.unopened service (asked_is c.in-Some.command (command.Serve service) (command_in c.args.words.now) here asked)
    (closed_statuses c.obey.result (rw c.status.ensures at closed))

pub returns-in-Some-clause-grows : goal.returns-in-Some-clause-grows
returns-in-Some-clause-grows g c =
    let before = outside (g.S.Source.left c.args.input.now) (g.L.Links.board c.args.links.now) (g.O.Sink.written c.args.out.now) (g.S.Source.faults c.args.input.now) (g.L.Links.faults c.args.links.now) (g.O.Sink.faults c.args.out.now) (g.K.Keeper.faults c.args.keeper.now) in
    let now = outside (g.S.Source.left c.obey.new.input) (g.L.Links.board c.obey.new.links) (g.O.Sink.written c.obey.new.out) (g.S.Source.faults c.obey.new.input) (g.L.Links.faults c.obey.new.links) (g.O.Sink.faults c.obey.new.out) (g.K.Keeper.faults c.obey.new.keeper) in
    command_grows c.in-Some.command c.obey.result (g.K.Keeper.tells c.args.keeper.now) (g.K.Keeper.rows c.args.keeper.now) (g.K.Keeper.rows c.obey.new.keeper) before now
    c.obey.ensures.says c.obey.ensures.same

pub returns-in-None-clause-grows : goal.returns-in-None-clause-grows
returns-in-None-clause-grows g c told = same_grows (g.K.Keeper.rows c.args.keeper.now) (g.K.Keeper.rows c.args.keeper.now) refl

pub returns-in-None-clause-refused : goal.returns-in-None-clause-refused
returns-in-None-clause-refused g c = λ none. refl
