use Rattle.schedule.specs.Codes.{event_of, reply_of}
use Rattle.world.specs.Listed.{authors_of, log_of}
use Rattle.machine.specs.Machines.{held}
use Rattle.world.proofs.Reached.{whole_stepped}
use Rattle.world.proofs.world.World.step.Goals as goal

pub invariant_of-self : goal.invariant_of-self
invariant_of-self c = λ going. whole_stepped log_of authors_of (held c.self.inside.machine) (held c.step.new.machine) (event_of c.args.event.now) (reply_of c.in-Ok.reply) (c.self.invariant c.if-self.false) c.in-Ok.ensures.done
