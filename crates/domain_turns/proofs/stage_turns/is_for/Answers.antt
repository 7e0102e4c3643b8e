use Rattle.std.proofs.Common.{sym, subst}
use Rattle.packet.specs.Lines.{AreOf}
use Rattle.protocol.specs.Stages.{packet}
use Rattle.stage_steps.specs.Codes.{message_of}
use Rattle.stage_domain.specs.Domains.{Meets}
use Rattle.stage_domain.proofs.Starts.{running_whole}
use Rattle.domain_turns.specs.ViewTurns.{are_one}
use Rattle.domain_turns.proofs.Due.{stage_meets}
use Rattle.domain_turns.proofs.stage_turns.is_for.Goals as goal

pub returns-in-Packet-clause-meets : goal.returns-in-Packet-clause-meets
returns-in-Packet-clause-meets g c = λ t.
    let d = c.args.domain.now in
    let of = subst (AreOf d.plan) c.line-line.ensures.line (c.line-line.ensures.of (running_whole d.mode c.requires.running)) in
    subst (λ m. Meets are_one d (message_of m)) (sym c.in-Packet.is) (stage_meets d (packet c.in-Packet.source c.in-Packet.packet) of (c.is_from.ensures.yes t))
