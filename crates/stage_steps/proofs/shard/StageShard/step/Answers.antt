use Rattle.std.proofs.Common.{subst}
use Rattle.protocol.specs.Stages.{Done}
use Rattle.protocol.specs.StageSteps.{looks, next, quiet, takes}
use Rattle.stage_steps.specs.Codes.{message_of}
use Rattle.stage_steps.specs.Shards.{IsPut, stage_of}
use Rattle.stage_steps.proofs.Joined.{first_is, put_start}
use Rattle.stage_steps.proofs.Settled.{both_ok, stepped}
use Rattle.stage_steps.proofs.shard.StageShard.step.Goals as goal

pub returns-clause-whole : goal.returns-clause-whole
returns-clause-whole g c =
    let s = stage_of c.args.self.now in
    let m = message_of c.args.message in
    let first = subst (λ (d : Done). IsPut (next d looks) c.take.new.out c.take.new.self) (first_is s m) (c.in_ok-take.ensures.done (quiet s) (put_start c.args.self.now c.args.out.now c.requires.silent c.requires.edges)) in
    both_ok c.keep_cap.result (stepped c.args.self.now c.keep_cap.new.self m c.keep_cap.new.out) c.keep_cap.ensures.whole (c.keep_cap.ensures.done (next (takes s m) looks) first)

pub returns-clause-done : goal.returns-clause-done
returns-clause-done g c =
    let s = stage_of c.args.self.now in
    let m = message_of c.args.message in
    let first = subst (λ (d : Done). IsPut (next d looks) c.take.new.out c.take.new.self) (first_is s m) (c.in_ok-take.ensures.done (quiet s) (put_start c.args.self.now c.args.out.now c.requires.silent c.requires.edges)) in
    c.keep_cap.ensures.done (next (takes s m) looks) first
