use Rattle.std.proofs.Common.{sym, ◌∙◌}
use Rattle.base_domain.specs.Received.{verdict_of}
use Rattle.machine.specs.Held.{base_node}
use Rattle.machine.specs.Machines.{held}
use Rattle.machine.proofs.Based.{ask_for, ask_lost, ask_passed, ask_placed, ask_still}
use Rattle.machine.proofs.Meeting.{seen_there, seen_up}
use Rattle.machine.proofs.deliveries.ask_source.Goals as goal

pub give_base-requires : goal.give_base-requires
give_base-requires g c =
    let log = g.F.Fronts.log in
    let authors = g.F.Fronts.authors in
    let h = held c.args.machine.now in
    let ask = c.in-Some.request in
    let first = c.in-Some.ensures.first in
    record {
      placed = ask_placed log authors h c.args.stage c.args.source c.requires.whole.placed ask c.take.new.self first;
      up = seen_up (base_node log authors) c.deref.result.now c.args.machine.now.bases.items c.source_at-base.result _ (sym c.if-not-runs.false ∙ c.base_runs-runs.ensures.runs) c.deref.ensures.value;
      there = seen_there c.deref.result.now c.args.machine.now.bases.items c.source_at-base.result (c.base_runs-runs.ensures.there c.if-not-runs.false) c.deref.ensures.value;
      of = λ d at. ask_for log authors h c.args.stage c.args.source c.requires.whole.placed ask c.take.new.self first c.source_at-base.result d at;
    }

pub returns : goal.returns
returns g c = record {
  done = ask_passed g.F.Fronts.log g.F.Fronts.authors (held c.args.machine.now) c.args.stage c.args.source c.requires.whole.placed c.in-Some.request c.take.new.self c.in-Some.ensures.first c.source_at-base.result c.source_at-base.ensures (verdict_of c.in_ok-give_base.field-0) (held c.give_base.new.machine) c.in_ok-give_base.ensures.given;
}

pub returns-in_default : goal.returns-in_default
returns-in_default g c = record { done = ask_still g.F.Fronts.log g.F.Fronts.authors (held c.args.machine.now) c.args.stage c.args.source c.requires.whole.placed c.take.new.self c.in_default.ensures.none c.in_default.ensures.same }

pub returns-then-not-runs : goal.returns-then-not-runs
returns-then-not-runs g c = record {
  done = ask_lost g.F.Fronts.log g.F.Fronts.authors (held c.args.machine.now) c.args.stage c.args.source c.requires.whole.placed c.in-Some.request c.take.new.self c.in-Some.ensures.first c.source_at-base.result c.source_at-base.ensures
      (seen_up (base_node g.F.Fronts.log g.F.Fronts.authors) c.deref.result.now c.args.machine.now.bases.items c.source_at-base.result _ (sym c.if-not-runs.true ∙ c.base_runs-runs.ensures.runs) c.deref.ensures.value);
}
