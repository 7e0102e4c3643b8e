use Rattle.std.proofs.Common.{map}
use Rattle.schedule.specs.Codes.{event_of}
use Rattle.schedule_lines.specs.Schedules.{numbered}
use Rattle.schedule_lines.specs.Events.{AreEvents}
use Rattle.schedule_lines.proofs.events.events_of.Given as goal

-- the events of the lines so far
abbrev pub invariant-loop-line : goal.invariant-loop-line
invariant-loop-line l = AreEvents l.plan (map numbered l.yielded) (map event_of l.events.items)
