use Rattle.std.proofs.Common.{◌≡◌, Some, None, sym, ◌∙◌, ap, map, subst, arith}
use Rattle.std.specs.List.{range_with_len}
use Rattle.plan.specs.Layouts.{Layout}
use Rattle.packet.specs.Codes.{mark_of}
use Rattle.protocol.specs.BaseSteps.{still}
use Rattle.base_domain.specs.Received.{base_at}
use Rattle.packet.proofs.Sends.{made_more}
use Rattle.base_domain.proofs.Sent.{same_still}
use Rattle.base_domain.proofs.base_domain.BaseDomain.markers.Goals as goal

pub loop-stage-preserved : goal.loop-stage-preserved
loop-stage-preserved g c =
    let mark = Some (mark_of c.args.mark) in
    let to : still (base_at g.F.Fronts.log g.F.Fronts.authors c.args.self.now) c.loop-stage.stage None mark ≡ c.marker_packet.result = rw (← c.self.view_is) (sym (c.marker_packet.ensures ∙ same_still _ _ _ _ c.loop-stage.stage None mark c.in_ok-to.ensures.same.0 c.in_ok-to.ensures.same.1)) in
    made_more (λ s. still (base_at g.F.Fronts.log g.F.Fronts.authors c.args.self.now) s None mark) c.loop-stage.stage c.loop-stage.packets.items c.push.new.self.items c.marker_packet.result c.loop-stage.invariant (sym to) (c.in_ok-push.ensures).items

pub returns : goal.returns
returns g c =
    let n : c.loop-stage.stage ≡ c.self.inside.plan.now.stages = omega (arith, c.loop-stage-test.false, c.loop-stage.auto.stage-end, c.stages-stage-end.ensures) in
    let m : (g.F.Fronts.log c.args.self.now.front).plan.stages ≡ c.self.inside.plan.now.stages = rw (← c.self.view_is) (ap (λ (p : Layout). p.stages) c.self.invariant.plan) in
    subst (λ k. c.loop-stage.packets.items ≡ map (λ s. still (base_at g.F.Fronts.log g.F.Fronts.authors c.args.self.now) s None (Some (mark_of c.args.mark))) (range_with_len 0 k)) (n ∙ sym m) c.loop-stage.invariant
