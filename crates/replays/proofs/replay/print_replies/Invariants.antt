use Rattle.std.proofs.Common.{◌≡◌, ℕ, ◌++◌, List, drop, map}
use Rattle.std.specs.Io.KnownBytes.{Appends}
use Rattle.protocol.specs.WorldSteps.{replies}
use Rattle.schedule.specs.Codes.{event_of}
use Rattle.world.specs.Listed.{world_in}
use Rattle.schedule_lines.specs.Replies.{printed_replies}
use Rattle.replays.specs.Runs.{printed_run}
use Rattle.replays.proofs.replay.print_replies.Given as goal

-- what is written, and the replies to the events that are left, are all replies
abbrev pub invariant-loop-at : goal.invariant-loop-at
invariant-loop-at g l = (done : List ℕ) × Appends (g.O.Write.contents l.initial.out) (g.O.Write.contents l.out) done × (done ++ printed_replies l.plan (replies (world_in l.world) (drop l.at (map event_of l.events))) ≡ printed_run l.plan (map event_of l.events))
