use Rattle.schedule.specs.Codes.{wire_in}
use Rattle.schedule.specs.Ways.{wire_on}
use Rattle.schedule.proofs.Images.{put_image}
use Rattle.schedule.proofs.wire.push_wires.Goals as goal

pub loop-place-preserved : goal.loop-place-preserved
loop-place-preserved c = put_image wire_in (wire_on c.args.way c.args.from) c.args.out.now.items c.loop-place.out.items c.push.new.self.items c.wire.result c.loop-place.place c.loop-place.invariant c.wire.ensures c.in_ok-push.ensures.items
