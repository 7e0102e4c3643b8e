use Rattle.links.proofs.Lines.{none_new}
use Rattle.links.proofs.line.Line.new.Goals as goal

pub invariant_of-result : goal.invariant_of-result
invariant_of-result g c = none_new c.in_ok-queues.queues c.args.edges c.in_ok-queues.ensures
