use Rattle.std.proofs.Common.{refl}
use Rattle.schedule.specs.Codes.{reader_in}
use Rattle.schedule.proofs.Images.{put_image}
use Rattle.schedule.proofs.readers.push_readers.Goals as goal

pub loop-shard-preserved : goal.loop-shard-preserved
loop-shard-preserved c = put_image reader_in (λ j. record { view = c.args.view; shard = j }) c.args.out.now.items c.loop-shard.out.items c.push.new.self.items (record { view = c.args.view; shard = c.loop-shard.shard }) c.loop-shard.shard c.loop-shard.invariant refl c.in_ok-push.ensures.items
