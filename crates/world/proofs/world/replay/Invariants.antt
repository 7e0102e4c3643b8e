use Rattle.std.proofs.Common.{◌≡◌, true, ◌++◌, drop, map}
use Rattle.protocol.specs.Worlds.{start}
use Rattle.protocol.specs.WorldSteps.{replies}
use Rattle.schedule.specs.Codes.{event_of, reply_of}
use Rattle.world.specs.Listed.{world_in}
use Rattle.world.proofs.world.replay.Given as goal

abbrev pub invariant-loop-at : goal.invariant-loop-at
invariant-loop-at l = map reply_of l.replies.items ++ replies (world_in l.world) (drop l.at (map event_of l.fn.events)) ≡ replies (start true l.fn.plan) (map event_of l.fn.events)
