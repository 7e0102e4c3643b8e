use Rattle.std.proofs.Common.{OnOk, sym, subst}
use Rattle.protocol.specs.Stages.{Done}
use Rattle.protocol.specs.StageSteps.{look, looks, takes}
use Rattle.stage_steps.specs.Codes.{message_of}
use Rattle.stage_steps.specs.Outboxes.{AreEdges}
use Rattle.stage_steps.specs.Shards.{IsPut}
use Rattle.stage_steps.proofs.Puts.{after}
use Rattle.stage_steps.proofs.Settled.{each_ok, put_request}
use Rattle.stage_steps.proofs.shard.StageShard.take.Goals as goal

pub returns-in-Request-clause-done : goal.returns-in-Request-clause-done
returns-in-Request-clause-done g c d put =
    let x = c.args.self.now in
    let a = c.in-Request.ask in
    let edges = subst (λ p. AreEdges p c.look_at.new.out) (sym c.look_at.ensures.same.plan) c.look_at.ensures.edges in
    subst (λ m. OnOk c.look_at.result (IsPut (after (after d (takes d.stage (message_of m))) (looks (takes d.stage (message_of m)).stage)) c.look_at.new.out c.look_at.new.self)) (sym c.in-Request.is)
    (each_ok (λ e. IsPut e c.args.out.now x) (λ (e : Done). IsPut (after e (look e.stage a)) c.look_at.new.out c.look_at.new.self) c.look_at.result c.look_at.ensures.done
    (put_request d c.args.out.now c.look_at.new.out x c.look_at.new.self a put c.requires.edges edges c.requires.whole.waits))
