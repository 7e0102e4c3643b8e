use Rattle.schedule.specs.Codes.{wire_in, reply_of}
use Rattle.machine.specs.Machines.{held}
use Rattle.world.proofs.Rounded.{has_moved}
use Rattle.world.proofs.settles.move_one.Goals as goal

pub returns : goal.returns
returns g c =
    record {
      done = has_moved g.F.Fronts.log g.F.Fronts.authors (held c.args.machine.now) (held c.deliver.new.machine) (wire_in c.args.wire) (reply_of c.in_ok-reply.reply) c.args.ended.now.items c.note_ended.new.ended.items c.was_idle.result
          c.requires.whole c.in_ok-reply.ensures.done c.in_ok-note_ended.ensures c.was_idle.ensures;
    }

pub deliver-requires : goal.deliver-requires
deliver-requires g c = record { agree = c.requires.agree; whole = c.requires.whole }
