use Rattle.std.proofs.Common.{OnOk, rules, sym, ◌∙◌, subst}
use Rattle.row.proofs.RecordLoops.{ok_so}
use Rattle.protocol.specs.StageSteps.{step}
use Rattle.stage_domain.specs.Domains.{Domain, stage_of}
use Rattle.stage_steps.specs.Codes.{message_of}
use Rattle.stage_steps.specs.Shards.{IsPut}
use Rattle.stage_domain.proofs.stage_domain.StageDomain.receive.Goals as goal

pub returns-clause-done : goal.returns-clause-done
returns-clause-done g c = record {
  put = ok_so c.step.result (IsPut (step (stage_of c.args.self.now) (message_of c.args.message)) c.step.new.out c.step.new.self) (sym c.is_err.ensures.value ∙ c.if-is_err.false)
      (subst (λ (d : Domain). OnOk c.step.result (IsPut (step (stage_of d) (message_of c.args.message)) c.step.new.out c.step.new.self)) c.self.view_is c.step.ensures.done);
  running = Prim.search rules;
}
