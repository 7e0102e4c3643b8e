use Rattle.std.proofs.Common.{Some, refl, ap, sym, ◌∙◌, arith}
use Rattle.machine.specs.Machines.{held}
use Rattle.world.proofs.Fenced.{fence_refused, fence_goes, opened_placed}
use Rattle.machine.proofs.Meeting.{there_at}
use Rattle.row.specs.declared.refused.Refused.TheVariants.{UnknownPlace}
use Rattle.protocol.specs.Events.{refused}
use Rattle.protocol.specs.WorldSteps.{fence_by}
use Rattle.machine.specs.Held.{world_of}
use Rattle.machine.proofs.Acks.{stranger}
use Rattle.world.proofs.fences.fence.Goals as goal

pub returns-then-not-is_up : goal.returns-then-not-is_up
returns-then-not-is_up g c =
    let at = there_at c.args.machine.now.callers.items c.args.session _ (omega (arith, c.if-session-len.false, c.len.ensures)) ∙ ap Some (sym c.index_mut.ensures.value) in
    record { done = fence_refused g.F.Fronts.log g.F.Fronts.authors (held c.args.machine.now) c.args.session c.index_mut.result.now c.requires.whole.placed at c.take_number.new.self c.in_ok-take_number.ensures.next (sym c.if-not-is_up.ensures) }

pub mark_all-requires : goal.mark_all-requires
mark_all-requires g c =
    let at = there_at c.args.machine.now.callers.items c.args.session _ (omega (arith, c.if-session-len.false, c.len.ensures)) ∙ ap Some (sym c.index_mut-caller.ensures.value) in
    record { placed = opened_placed g.F.Fronts.log g.F.Fronts.authors (held c.args.machine.now) c.args.session c.index_mut-caller.result.now c.requires.whole.placed at c.take_number-2.new.self c.open_fence.new.self c.in_ok-number.number c.in_ok-number.ensures.next c.in_ok-number.ensures.number c.in-Ok.ensures.opened }

pub returns : goal.returns
returns g c =
    let at = there_at c.args.machine.now.callers.items c.args.session _ (omega (arith, c.if-session-len.false, c.len.ensures)) ∙ ap Some (sym c.index_mut-caller.ensures.value) in
    record {
      done = fence_goes g.F.Fronts.log g.F.Fronts.authors (held c.args.machine.now) c.args.session c.index_mut-caller.result.now c.requires.whole.placed at c.take_number-2.new.self c.open_fence.new.self c.in_ok-number.number c.in_ok-number.ensures.next c.in_ok-number.ensures.number c.in-Ok.ensures.opened
          (held c.mark_all.new.machine) (sym c.if-not-is_up.ensures) c.in_ok-mark_all.ensures.done;
    }

pub returns-then-session-len : goal.returns-then-session-len
returns-then-session-len g c = record {
  done = stranger g.F.Fronts.log g.F.Fronts.authors (held c.args.machine.now) c.args.session (fence_by (world_of g.F.Fronts.log g.F.Fronts.authors (held c.args.machine.now)) c.args.session) (refused UnknownPlace) refl c.requires.whole.placed (omega (arith, c.if-session-len.true, c.len.ensures));
}
