-- What is printed of a schedule.
use Rattle.std.specs.Prelude.{◌≡◌, ℕ, true, List, Option}
use Rattle.std.specs.Io.KnownBytes.{Appends}
use Rattle.plan.specs.Layouts.{Layout}
use Rattle.protocol.specs.Events.{Event, Reply}
use Rattle.protocol.specs.Theorem.{AreLegal}
use Rattle.protocol.specs.Worlds.{start}
use Rattle.protocol.specs.WorldSteps.{replies}
use Rattle.schedule_lines.specs.Events.{IsSchedule}
use Rattle.schedule_lines.specs.Replies.{printed_replies}

-- the protocol's replies to the events, from the empty world of the plan on
abbrev pub run : Layout → List Event → List Reply
run p events = replies (start true p) events

-- as they are printed
abbrev pub printed_run : Layout → List Event → List ℕ
printed_run p events = printed_replies p (run p events)

-- the text is a schedule of some events and of no others, what is written is the replies to them, and these tell of a legal history
pub record IsRun (p : Layout) (text : List ℕ) (old new : Option (List ℕ)) : Type 0 where
  pub events : List Event
  pub schedule : IsSchedule p text events
  pub only : (others : List Event) → IsSchedule p text others → others ≡ events
  pub written : Appends old new (printed_run p events)
  pub legal : AreLegal p events (run p events)
