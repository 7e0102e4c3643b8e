use Rattle.std.proofs.Common.{map, subst, OnOk}
use Rattle.std.specs.Io.KnownBytes.{Appends}
use Rattle.schedule.specs.Codes.{event_of}
use Rattle.schedule_lines.specs.Schedules.{numbered}
use Rattle.replays.specs.Runs.{printed_run}
use Rattle.replays.proofs.Running.{run_told}
use Rattle.replays.proofs.replay.replay_text.Goals as goal

pub returns-clause-run : goal.returns-clause-run
returns-clause-run g c =
    let p = c.args.plan.now in
    let old = g.O.Write.contents c.args.out.now in
    let new = g.O.Write.contents c.print_replies.new.out in
    let events = c.in-Ok-events_of.events.items in
    let wrote = subst (λ es. OnOk c.print_replies.result (Appends old new (printed_run p (map event_of es)))) c.deref.ensures.value c.print_replies.ensures.printed in
    run_told p c.args.text.now (map numbered c.in-Ok.lines.items) (map event_of events) old new c.print_replies.result c.keeps_profile.ensures.plan c.in-Ok.ensures.ok c.in-Ok-events_of.ensures.events wrote
