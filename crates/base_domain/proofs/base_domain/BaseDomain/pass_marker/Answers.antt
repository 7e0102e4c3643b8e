use Rattle.std.proofs.Common.{◌≡◌, Some, None, rules}
use Rattle.packet.specs.Codes.{mark_of}
use Rattle.packet.specs.Readers.{side_of}
use Rattle.protocol.specs.Bases.{marker}
use Rattle.protocol.specs.BaseSteps.{still}
use Rattle.base_domain.specs.Received.{base_at}
use Rattle.base_domain.proofs.Dones.{no_side, none_sent, silent_done}
use Rattle.base_domain.proofs.base_domain.BaseDomain.pass_marker.Goals as goal

pub returns-then-is_none-clause-done : goal.returns-then-is_none-clause-done
returns-then-is_none-clause-done g c =
    let log = g.F.Fronts.log c.args.self.now.front in
    let none : c.side_at.result ≡ None = search rules in
    let side : side_of log.plan log.base ≡ None = rw (← c.self.view_is) (no_side _ c.side_at.result _ c.self.inside.plan.now c.self.inside.table _ none c.side_at.ensures c.self.invariant.plan c.self.invariant.own) in
    silent_done g.F.Fronts.log g.F.Fronts.authors (marker (mark_of c.args.mark)) c.args.self.now c.args.out.now _ c.requires.ready.clear.reply
    (none_sent log.plan c.args.out.now.edges (side_of log.plan log.base) (λ side s. still (base_at g.F.Fronts.log g.F.Fronts.authors c.args.self.now) s None (Some (mark_of c.args.mark))) side c.requires.ready.edges c.requires.ready.clear.packets) c.requires.ready.running
