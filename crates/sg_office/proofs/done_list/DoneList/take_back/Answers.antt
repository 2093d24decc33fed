use Rattle.std.proofs.Common.{ap, sym, subst, ◌∙◌}
use Rattle.sg_office.specs.Acts.{without}
use Rattle.sg_office.specs.inside.Runs.{AreApart, gathered, rows_in}
use Rattle.sg_office.proofs.Gathered.{apart_without, row_out}
use Rattle.sg_office.proofs.Stations.{taken}
use Rattle.sg_office.proofs.done_list.DoneList.take_back.Goals as goal

pub invariant_of-self : goal.invariant_of-self
invariant_of-self c = record {
  stations = c.take_out.ensures.order;
  apart = subst AreApart (sym (taken c.args.done.now c.self.inside.runs.entries c.take_out.new.runs.entries c.self.inside.late.entries c.take_late.new.late.entries c.self.invariant c.take_out.ensures.rows c.take_late.ensures))
      (apart_without c.args.done.now (rows_in c.self.inside.runs.entries c.self.inside.late.entries) c.self.invariant.apart);
}

pub returns : goal.returns
returns c =
    ap gathered (taken c.args.done.now c.self.inside.runs.entries c.take_out.new.runs.entries c.self.inside.late.entries c.take_late.new.late.entries c.self.invariant c.take_out.ensures.rows c.take_late.ensures)
    ∙ (row_out c.args.done.now (rows_in c.self.inside.runs.entries c.self.inside.late.entries) c.self.invariant.apart ∙ ap (without c.args.done.now) c.self.view_is)
