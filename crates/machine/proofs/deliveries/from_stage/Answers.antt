use Rattle.std.proofs.Common.{sym, ◌∙◌}
use Rattle.machine.specs.Held.{view_node}
use Rattle.machine.specs.Machines.{held}
use Rattle.machine.proofs.Meeting.{seen_there, seen_up}
use Rattle.machine.proofs.Sending.{meets_sent, sent_off, sent_passed, sent_placed, sent_still}
use Rattle.machine.proofs.deliveries.from_stage.Goals as goal

pub give_view-requires-clause-placed : goal.give_view-requires-clause-placed
give_view-requires-clause-placed g c = sent_placed g.F.Fronts.log g.F.Fronts.authors (held c.args.machine.now) c.args.reader c.args.stage c.in-Some.packet c.take.new.self c.in-Some.ensures.first c.requires.whole.placed

pub give_view-requires-clause-up : goal.give_view-requires-clause-up
give_view-requires-clause-up g c = seen_up view_node c.deref.result.now c.args.machine.now.views.items c.args.reader _ (sym c.if-not-runs.false ∙ c.view_runs-runs.ensures.runs) c.deref.ensures.value

pub give_view-requires-clause-there : goal.give_view-requires-clause-there
give_view-requires-clause-there g c = seen_there c.deref.result.now c.args.machine.now.views.items c.args.reader (c.view_runs-runs.ensures.there c.if-not-runs.false) c.deref.ensures.value

pub give_view-requires-clause-meets : goal.give_view-requires-clause-meets
give_view-requires-clause-meets g c = λ d at running. meets_sent g.F.Fronts.log g.F.Fronts.authors g.F.Fronts.are_one c.requires.agree (held c.args.machine.now) c.args.reader c.args.stage d c.in-Some.packet c.in-Some.ensures.first.rest c.requires.whole at running c.in-Some.ensures.first.was

pub returns : goal.returns
returns g c = record { done = sent_passed g.F.Fronts.log g.F.Fronts.authors (held c.args.machine.now) c.args.reader c.args.stage c.in-Some.packet c.take.new.self c.in-Some.ensures.first _ (held c.give_view.new.machine) c.in_ok-reply.ensures.done }

pub returns-in_default : goal.returns-in_default
returns-in_default g c = record { done = sent_still g.F.Fronts.log g.F.Fronts.authors (held c.args.machine.now) c.args.reader c.args.stage c.take.new.self c.requires.whole.placed c.in_default.ensures.none c.in_default.ensures.same }

pub returns-then-not-runs : goal.returns-then-not-runs
returns-then-not-runs g c = record {
  done = sent_off g.F.Fronts.log g.F.Fronts.authors (held c.args.machine.now) c.args.reader c.args.stage c.in-Some.packet c.take.new.self c.requires.whole.placed c.in-Some.ensures.first (seen_up view_node c.deref.result.now c.args.machine.now.views.items c.args.reader _ (sym c.if-not-runs.true ∙ c.view_runs-runs.ensures.runs) c.deref.ensures.value);
}
