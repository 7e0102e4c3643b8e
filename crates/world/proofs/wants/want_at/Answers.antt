use Rattle.std.proofs.Common.{◌∙◌, Some, ap, sym}
use Rattle.row.specs.Cells.{datum_of}
use Rattle.protocol.specs.Views.{want}
use Rattle.machine.specs.Machines.{held}
use Rattle.machine.proofs.Meeting.{there_at}
use Rattle.machine.proofs.Ordered.{same_key}
use Rattle.world.proofs.Wanting.{shown_already, cannot_ask, has_asked, is_up_of}
use Rattle.world.proofs.wants.want_at.Goals as goal

pub returns-then-is_filled : goal.returns-then-is_filled
returns-then-is_filled g c = record { done = shown_already g.F.Fronts.log g.F.Fronts.authors (held c.args.machine.now) (datum_of c.args.key.now) c.args.reader c.index.result.now c.requires.placed (there_at c.args.machine.now.views.items c.args.reader _ c.requires.there ∙ ap Some (sym c.index.ensures)) c.if-is_filled.ensures }

pub returns-then-not-can_ask : goal.returns-then-not-can_ask
returns-then-not-can_ask g c = record { done = cannot_ask g.F.Fronts.log g.F.Fronts.authors (held c.args.machine.now) (datum_of c.args.key.now) c.args.reader c.index.result.now c.requires.placed (there_at c.args.machine.now.views.items c.args.reader _ c.requires.there ∙ ap Some (sym c.index.ensures)) c.if-is_filled.ensures c.if-not-can_ask.ensures }

pub give_view-requires-clause-up : goal.give_view-requires-clause-up
give_view-requires-clause-up g c = is_up_of g.F.Fronts.log g.F.Fronts.authors _ _ c.if-not-can_ask.ensures

pub returns : goal.returns
returns g c = record {
  done = has_asked g.F.Fronts.log g.F.Fronts.authors (held c.args.machine.now) (datum_of c.args.key.now) c.args.reader c.index.result.now c.requires.placed (there_at c.args.machine.now.views.items c.args.reader _ c.requires.there ∙ ap Some (sym c.index.ensures)) _ (held c.give_view.new.machine) c.if-is_filled.ensures c.if-not-can_ask.ensures
      (same_key g.F.Fronts.log g.F.Fronts.authors (held c.args.machine.now) (held c.give_view.new.machine) c.args.reader want _ (datum_of c.args.key.now) _ c.in-Ok.ensures c.in_ok-give_view.ensures.done);
}
