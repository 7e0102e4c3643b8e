use Rattle.std.proofs.Common.{◌≡◌, ◌≤◌, ◌+◌, ◌++◌, [], suc, map, length, Some, ap, sym, ◌∙◌, subst, arith}
use Rattle.std.proofs.lemmas.List.{length-map}
use Rattle.std.specs.Io.KnownBytes.{Appends}
use Rattle.protocol.specs.WorldSteps.{replies}
use Rattle.protocol.proofs.Lists.{map_get}
use Rattle.schedule.specs.Codes.{event_of, reply_of}
use Rattle.schedule_lines.specs.Replies.{printed_reply, printed_replies}
use Rattle.world.specs.Listed.{world_in}
use Rattle.machine.proofs.Meeting.{there_at}
use Rattle.replays.specs.Runs.{printed_run}
use Rattle.replays.proofs.Printing.{appends_both, appends_none, printed_next, printed_all}
use Rattle.replays.proofs.replay.print_replies.Goals as goal

pub loop-at-init : goal.loop-at-init
loop-at-init g c = ([], appends_none _, ap (λ w. printed_replies c.args.plan.now (replies w (map event_of c.args.events.now))) c.in-Ok.ensures.world)

pub loop-at-preserved : goal.loop-at-preserved
loop-at-preserved g c =
    let events = c.args.events.now in
    let p = c.args.plan.now in
    let (done, wrote, left) = c.loop-at.invariant in
    let reply = reply_of c.in-Ok-step.reply in
    let next : c.loop-at.at + 1 ≡ suc c.loop-at.at = omega (arith) in
    let event = map_get event_of events c.loop-at.at c.index-events-at.result (there_at events c.loop-at.at c.index-events-at.result c.loop-at-test.true ∙ ap Some (sym c.index-events-at.is)) in
    (done ++ printed_reply p reply, appends_both (g.O.Write.contents c.args.out.now) (g.O.Write.contents c.loop-at.out) (g.O.Write.contents c.print.new.out) done (printed_reply p reply) wrote c.in_ok-print.ensures.printed, printed_next p (map event_of events) c.loop-at.at (c.loop-at.at + 1) (event_of c.index-events-at.result) (world_in c.loop-at.world) (world_in c.step.new.self) done reply (printed_run p (map event_of events)) event next c.in-Ok-step.ensures.world c.in-Ok-step.ensures.reply left)

pub returns-clause-printed : goal.returns-clause-printed
returns-clause-printed g c =
    let events = c.args.events.now in
    let p = c.args.plan.now in
    let (done, wrote, left) = c.loop-at.invariant in
    let all : length (map event_of events) ≤ c.loop-at.at = subst (λ n. n ≤ c.loop-at.at) (sym (length-map events event_of)) c.loop-at-test.false in
    subst (λ x. Appends (g.O.Write.contents c.args.out.now) (g.O.Write.contents c.loop-at.out) x) (printed_all p (map event_of events) c.loop-at.at (world_in c.loop-at.world) done (printed_run p (map event_of events)) all left) wrote
