use Rattle.std.proofs.Common.{sym, subst}
use Rattle.row.specs.Bags.{Each}
use Rattle.packet.specs.Lines.{AreOf}
use Rattle.view_domain.specs.Codes.{Meets}
use Rattle.domain_turns.specs.ViewTurns.{are_one}
use Rattle.domain_turns.proofs.Due.{view_meets}
use Rattle.domain_turns.proofs.view_turns.is_for.Goals as goal

pub returns-in-Packet-clause-meets : goal.returns-in-Packet-clause-meets
returns-in-Packet-clause-meets g c = λ t.
    let d = c.args.domain.now in
    let of = subst (Each (AreOf d.plan)) c.cut-cut.ensures.cut (c.cut-cut.ensures.of c.requires.sound) in
    subst (λ m. Meets are_one d m) (sym c.in-Packet.is) (view_meets d c.in-Packet.stage c.in-Packet.packet c.to-to.result.now of c.to-to.ensures.of c.to-to.ensures.to (c.is_from.ensures.yes t))
