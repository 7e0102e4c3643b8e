use Rattle.machine.specs.Machines.{held}
use Rattle.world.proofs.Stopping.{stop_done, stop_none, stop_other}
use Rattle.world.proofs.stops.stop.Goals as goal

pub stop_there-requires : goal.stop_there-requires
stop_there-requires g c = record { placed = c.requires.whole.placed }

pub returns : goal.returns
returns g c =
    let there = c.in-Some-spot.ensures.there in
    record { done = stop_done g.F.Fronts.log g.F.Fronts.authors (held c.args.machine.now) c.args.domain c.in-Some.domain c.in-Some-spot.spot (held c.stop_there.new.machine) c.in-Some.is there.0 there.1 c.stop_there.ensures.stopped }

pub returns-in_default : goal.returns-in_default
returns-in_default g c = record { done = stop_none g.F.Fronts.log g.F.Fronts.authors (held c.args.machine.now) c.args.domain c.requires.whole.placed c.in_default.is }

pub returns-in_default-spot : goal.returns-in_default-spot
returns-in_default-spot g c = record { done = stop_other g.F.Fronts.log g.F.Fronts.authors (held c.args.machine.now) c.args.domain c.in-Some.domain c.requires.whole.placed c.in-Some.is c.in_default-spot.ensures.not }
