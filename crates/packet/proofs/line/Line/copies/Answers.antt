use Rattle.packet.proofs.Copies.{same_more}
use Rattle.packet.proofs.line.Line.copies.Goals as goal

pub loop-preserved : goal.loop-preserved
loop-preserved g c = same_more c.loop.counter c.args.self.now c.in_ok-try_clone.field-0 c.loop.lines.items c.push.new.self.items c.loop.invariant c.in_ok-try_clone.ensures c.in_ok-push.ensures.items
