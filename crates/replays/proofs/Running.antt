-- What a schedule that was run is.
use Rattle.std.proofs.Common.{ℕ, true, List, Option, Result, Ok, Err, OnOk}
use Rattle.std.specs.Io.KnownBytes.{Appends}
use Rattle.plan.specs.Layouts.{Layout}
use Rattle.plan.specs.Profile.{IsPlan}
use Rattle.protocol.specs.Events.{Event}
use Rattle.protocol.proofs.Every.{every_schedule}
use Rattle.script.specs.Scripts.{lines_of, Numbered, IsScript}
use Rattle.schedule_lines.specs.Asks.{Ask, Asks}
use Rattle.schedule_lines.specs.Events.{AreEvents, IsSchedule}
use Rattle.schedule_lines.proofs.Happening.{schedule_once}
use Rattle.replays.specs.declared.replay.ReplayError.{ReplayError}
use Rattle.replays.specs.Runs.{IsRun, printed_run}

-- the events of the lines were run
pub run_told : (p : Layout) (text : List ℕ) (lines : List (Numbered Ask)) (events : List Event) (old new : Option (List ℕ)) (r : Result (Unit {0}) ReplayError) → IsPlan p → IsScript Asks 1 (lines_of text) lines → AreEvents p lines events → OnOk r (Appends old new (printed_run p events)) → OnOk r (IsRun p text old new)
run_told p text lines events old new (Err e) plan is are wrote = wrote
run_told p text lines events old new (Ok u) plan is are wrote =
    let schedule : IsSchedule p text events = (lines, is, are) in
    record {
      events = events;
      schedule = schedule;
      only = λ others other. schedule_once p text others events other schedule;
      written = wrote;
      legal = every_schedule true p plan events;
    }
