use Rattle.std.proofs.Common.{arith}
use Rattle.links.proofs.Lines.{put_filled}
use Rattle.links.proofs.line.Line.put.Goals as goal

pub invariant_of-self : goal.invariant_of-self
invariant_of-self g c =
    put_filled c.self.inside.queues c.put.new.self c.args.edge c.args.message c.replace.new.dest
    (omega (arith, c.if-edge-edges.false, c.edges.ensures)) c.replace.ensures.after c.in-Ok.ensures.last
