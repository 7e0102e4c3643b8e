use Rattle.std.proofs.Common.{Some, ap, refl, slice_get, sym, ◌∙◌, ◌≡◌}
use Rattle.plan.specs.Layouts.{Layout}
use Rattle.protocol.specs.Edges.{source_place}
use Rattle.machine.specs.Held.{base_node}
use Rattle.machine.proofs.Meeting.{not_stopped, there_at, up_runs}
use Rattle.machine.proofs.bases.give_base.Goals as goal

abbrev at : (g : _) (c : goal.After-turn_base-arg-1 g) → slice_get c.args.machine.now.bases.items c.args.base ≡ Some c.index_mut.result.now
at g c = there_at c.args.machine.now.bases.items c.args.base _ c.requires.there ∙ ap Some (sym c.index_mut.ensures.value)

pub turn_base-requires-clause-sessions : goal.turn_base-requires-clause-sessions
turn_base-requires-clause-sessions g c = (c.requires.placed.bases.each c.args.base c.index_mut.result.now (at g c)).sessions

pub turn_base-requires-clause-runs : goal.turn_base-requires-clause-runs
turn_base-requires-clause-runs g c =
    not_stopped c.index_mut.result.now.stopped (up_runs (base_node g.F.Fronts.log g.F.Fronts.authors) c.args.machine.now.bases.items c.args.base c.index_mut.result.now (at g c) c.requires.up)

pub turn_base-requires-clause-edges : goal.turn_base-requires-clause-edges
turn_base-requires-clause-edges g c =
    c.stages-stages.ensures ∙ ap (λ (p : Layout). p.stages) (c.plan.ensures ∙ sym (c.requires.placed.bases.each c.args.base c.index_mut.result.now (at g c)).plan)

pub turn_base-requires-clause-source : goal.turn_base-requires-clause-source
turn_base-requires-clause-source g c =
    let is = c.requires.placed.bases.each c.args.base c.index_mut.result.now (at g c) in
    c.source_place-source.ensures ∙ (ap (λ p. source_place p c.args.base) (sym is.plan) ∙ ap (source_place (g.F.Fronts.log c.index_mut.result.now.front).plan) (sym is.base))

pub turn_base-requires-clause-of : goal.turn_base-requires-clause-of
turn_base-requires-clause-of g c = c.requires.of c.index_mut.result.now (at g c)

pub returns : goal.returns
returns g c =
    let at = there_at c.args.machine.now.bases.items c.args.base _ c.requires.there ∙ ap Some (sym c.index_mut.ensures.value) in
    let running = not_stopped c.index_mut.result.now.stopped (up_runs (base_node g.F.Fronts.log g.F.Fronts.authors) c.args.machine.now.bases.items c.args.base c.index_mut.result.now at c.requires.up) in
    record {
      given = record { domain = c.index_mut.result.now; later = c.turn_base.new.domain; queues = c.turn_base.new.queues; there = at; running = running; turn = c.in_ok-answer.ensures.turn; reply = c.in_ok-answer.ensures.reply; is = refl };
    }
