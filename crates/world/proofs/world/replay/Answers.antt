use Rattle.std.proofs.Common.{◌≡◌, ◌≤◌, ◌+◌, ◌++◌, suc, true, map, length, Some, ap, sym, ◌∙◌, subst, arith}
use Rattle.std.proofs.lemmas.List.{length-map}
use Rattle.protocol.specs.Theorem.{AreLegal}
use Rattle.protocol.specs.WorldSteps.{replies}
use Rattle.protocol.proofs.Every.{every_schedule}
use Rattle.protocol.proofs.Lists.{map_get}
use Rattle.schedule.specs.Codes.{event_of, reply_of}
use Rattle.world.specs.Listed.{world_in}
use Rattle.machine.proofs.Meeting.{there_at}
use Rattle.world.proofs.Replaying.{all_replied, map_push, replied}
use Rattle.world.proofs.world.replay.Goals as goal

pub loop-at-init : goal.loop-at-init
loop-at-init c =
    ap (λ rs. map reply_of rs ++ replies (world_in c.in-Ok.world) (map event_of c.args.events.now)) c.new-replies.ensures.items
    ∙ ap (λ w. replies w (map event_of c.args.events.now)) c.in-Ok.ensures.world

pub loop-at-preserved : goal.loop-at-preserved
loop-at-preserved c =
    let events = c.args.events.now in
    let next : c.loop-at.at + 1 ≡ suc c.loop-at.at = omega (arith) in
    replied (map event_of events) c.loop-at.at (c.loop-at.at + 1) (event_of c.index-events-at.result) (world_in c.loop-at.world) (world_in c.step.new.self) (map reply_of c.loop-at.replies.items) (map reply_of c.push.new.self.items) (reply_of c.in_ok-reply.reply) _
    (map_get event_of events c.loop-at.at c.index-events-at.result (there_at events c.loop-at.at c.index-events-at.result c.loop-at-test.true ∙ ap Some (sym c.index-events-at.is))) next c.in_ok-reply.ensures.world c.in_ok-reply.ensures.reply
    (ap (map reply_of) c.in-Ok-push.ensures.items ∙ map_push reply_of c.loop-at.replies.items c.in_ok-reply.reply) c.loop-at.invariant

pub returns-clause-replies : goal.returns-clause-replies
returns-clause-replies c =
    let events = c.args.events.now in
    let all : length (map event_of events) ≤ c.loop-at.at = subst (λ n. n ≤ c.loop-at.at) (sym (length-map events event_of)) c.loop-at-test.false in
    all_replied (map event_of events) c.loop-at.at (world_in c.loop-at.world) (map reply_of c.loop-at.replies.items) _ all c.loop-at.invariant

pub returns-clause-legal : goal.returns-clause-legal
returns-clause-legal c =
    let events = c.args.events.now in
    let all : length (map event_of events) ≤ c.loop-at.at = subst (λ n. n ≤ c.loop-at.at) (sym (length-map events event_of)) c.loop-at-test.false in
    let are = all_replied (map event_of events) c.loop-at.at (world_in c.loop-at.world) (map reply_of c.loop-at.replies.items) _ all c.loop-at.invariant in
    subst (λ rs. AreLegal c.args.plan.now (map event_of events) rs) (sym are) (every_schedule true c.args.plan.now c.keeps_profile.ensures.plan (map event_of events))
