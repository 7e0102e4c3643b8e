use Rattle.std.proofs.Common.{◌≡◌, map, subst, sym, ◌∙◌}
use Rattle.std.proofs.lemmas.List.{map-append, map-id}
use Rattle.std.proofs.lemmas.Iterator.Adapters.{YieldsList-from_vec}
use Rattle.std.proofs.lemmas.Iterator.Consumers.{YieldsList-end}
use Rattle.schedule.specs.Codes.{event_of}
use Rattle.schedule_lines.specs.Schedules.{numbered}
use Rattle.schedule_lines.specs.Events.{AreEvents}
use Rattle.schedule_lines.proofs.Happening.{events_more, events_once}
use Rattle.schedule_lines.proofs.events.events_of.Goals as goal

pub loop-line-preserved : goal.loop-line-preserved
loop-line-preserved c =
    let more = events_more c.args.plan.now (map numbered c.loop-line.yielded) (map event_of c.loop-line.events.items) (numbered c.in-Some.line) (event_of c.in_ok-event_of.field-0) c.loop-line.invariant c.in_ok-event_of.ensures in
    rw (map-append, c.in_ok-push.ensures.items, map-append) more

-- the events of all lines
all : (c : goal.After-drop-line-iterator-2) → AreEvents c.args.plan.now (map numbered c.args.lines.items) (map event_of c.loop-line.events.items)
all c =
    let from = c.into_iter-line-iterator.ensures.into_iter_gives in
    let t = YieldsList-end (YieldsList-from_vec {s = c.into_iter-line-iterator.result} c.args.lines.items from.0 (from.1 ∙ c.args.lines.ok.0)) c.loop-line.yielded c.loop-line.line-iterator c.loop-line.yielded_by c.next.result c.next.new.self c.in-None.is c.next.ensures.steps in
    let whole : c.loop-line.yielded ≡ c.args.lines.items = sym (map-id c.loop-line.yielded) ∙ t.0 in
    subst (λ ls. AreEvents c.args.plan.now (map numbered ls) (map event_of c.loop-line.events.items)) whole c.loop-line.invariant

pub returns-clause-events : goal.returns-clause-events
returns-clause-events c = all c

pub returns-clause-only : goal.returns-clause-only
returns-clause-only c = λ others are. events_once c.args.plan.now (map numbered c.args.lines.items) others _ are (all c)
