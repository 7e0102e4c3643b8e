use Rattle.std.proofs.Common.{◌≡◌, Some, slice_get, length, refl, ap, sym, ◌∙◌, subst, arith}
use Rattle.std.proofs.lemmas.List.{length-map}
use Rattle.protocol.specs.Edges.{wires}
use Rattle.schedule.specs.Codes.{wire_in}
use Rattle.machine.specs.Machines.{held}
use Rattle.world.proofs.Rounded.{plan_stays, goes_on, round_ends}
use Rattle.world.proofs.settles.go_round.Goals as goal

pub loop-at-init : goal.loop-at-init
loop-at-init g c = record { whole = c.requires.whole; plan = refl; end = sym (length-map c.wires-at-end.result.now wire_in) ∙ ap length c.wires-at-end.ensures; rounds = refl }

pub loop-at-preserved : goal.loop-at-preserved
loop-at-preserved g c =
    let log = g.F.Fronts.log in
    let authors = g.F.Fronts.authors in
    let moved = c.in_ok-had.ensures.done in
    record {
      whole = moved.whole;
      plan = plan_stays log authors (held c.loop-at.machine) (held c.move_one.new.machine) (wire_in c.wire_at-wire.result) c.loop-at.ended.items c.move_one.new.ended.items c.in_ok-had.had moved ∙ c.loop-at.invariant.plan;
      end = c.loop-at.invariant.end;
      rounds = goes_on log authors (held c.loop-at.machine) (held c.move_one.new.machine) (wire_in c.wire_at-wire.result) c.loop-at.ended.items c.move_one.new.ended.items c.in_ok-had.had moved (wires c.args.machine.now.places) c.loop-at.at _ c.loop-at.moved c.either-moved.result _
          (subst (λ p. slice_get (wires p) c.loop-at.at ≡ Some (wire_in c.wire_at-wire.result)) c.loop-at.invariant.plan c.wire_at-wire.ensures) (omega (arith)) c.either-moved.ensures c.loop-at.invariant.rounds;
    }

pub returns : goal.returns
returns g c = record { done = round_ends g.F.Fronts.log g.F.Fronts.authors (held c.loop-at.machine) c.loop-at.ended.items c.loop-at.moved (wires c.args.machine.now.places) c.loop-at.at _ c.loop-at.invariant.whole (omega (arith, c.loop-at.invariant.end, c.loop-at-test.false)) c.loop-at.invariant.rounds }

pub move_one-requires : goal.move_one-requires
move_one-requires g c = record { agree = c.requires.agree; whole = c.loop-at.invariant.whole }
