use Rattle.std.proofs.Common.{Some, length, refl, ap, sym, ◌∙◌}
use Rattle.model.specs.Places.{sources}
use Rattle.schedule.specs.Codes.{reader_in}
use Rattle.machine.specs.Held.{stage_node}
use Rattle.machine.proofs.Meeting.{there_at, mode_runs, own_place, as_many, up_runs}
use Rattle.machine.proofs.stages.give_stage.Goals as goal

pub turn_stage-requires : goal.turn_stage-requires
turn_stage-requires g c =
    let domain = c.index_mut.result.now in
    let at = there_at c.args.machine.now.stages.items c.args.stage _ c.requires.there ∙ ap Some (sym c.index_mut.ensures.value) in
    let is = c.requires.placed.stages.each c.args.stage domain at in
    let running = up_runs stage_node c.args.machine.now.stages.items c.args.stage domain at c.requires.up in
    record {
      is = own_place c.args.machine.now.places c.args.stage domain is;
      runs = mode_runs domain.mode running;
      readers = as_many reader_in c.readers-readers.result.now c.args.machine.now.places domain.plan c.readers-readers.ensures is.plan;
      sources = ap length c.sources-sources.ensures ∙ ap (λ p. length (sources p)) (sym is.plan);
      meets = c.requires.meets domain at (mode_runs domain.mode running);
    }

pub returns : goal.returns
returns g c =
    let domain = c.index_mut.result.now in
    let at = there_at c.args.machine.now.stages.items c.args.stage _ c.requires.there ∙ ap Some (sym c.index_mut.ensures.value) in
    let running = mode_runs domain.mode (up_runs stage_node c.args.machine.now.stages.items c.args.stage domain at c.requires.up) in
    record {
      given = record { domain = domain; later = c.turn_stage.new.domain; queues = c.turn_stage.new.queues; asks = c.turn_stage.new.asks; there = at; running = running; turn = c.in_ok-turn_stage.ensures.turn; is = refl };
    }
