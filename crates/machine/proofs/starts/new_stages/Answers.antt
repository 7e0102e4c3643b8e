use Rattle.std.proofs.Common.{◌≡◌, [], sym, ◌∙◌, subst, arith}
use Rattle.row.specs.Bags.{Each}
use Rattle.model.specs.Fronts.{LogView}
use Rattle.packet.specs.Lines.{AreOf}
use Rattle.machine.specs.Held.{Are}
use Rattle.packet.specs.Lines.{empty_line}
use Rattle.stage_domain.specs.Domains.{IsNew}
use Rattle.packet.proofs.Copies.{line_of, line_empty}
use Rattle.machine.proofs.Starting.{are_more}
use Rattle.machine.proofs.starts.new_stages.Goals as goal

pub new-requires-clause-of : goal.new-requires-clause-of
new-requires-clause-of g c = subst (AreOf c.args.plan.now) (sym (c.in_ok-try_clone.ensures ∙ c.requires)) (line_of c.args.plan.now)

pub new-requires-clause-empty : goal.new-requires-clause-empty
new-requires-clause-empty g c = subst (Each (λ (l : LogView). l.entries ≡ [])) (sym (c.in_ok-try_clone.ensures ∙ c.requires)) (line_empty c.args.plan.now)

pub loop-shard-preserved : goal.loop-shard-preserved
loop-shard-preserved g c =
    let p = c.args.plan.now in
    let s = c.loop-shard.shard in
    are_more (λ s d. IsNew p s (empty_line p) d) s c.loop-shard.stages.items c.push.new.self.items c.in_ok-new.field-0 c.loop-shard.invariant
    (subst (λ line. IsNew p s line c.in_ok-new.field-0) (c.in_ok-try_clone.ensures ∙ c.requires) c.in_ok-new.ensures) c.in_ok-push.ensures.items

pub returns : goal.returns
returns g c =
    let p = c.args.plan.now in
    subst (λ n. Are (λ s d. IsNew p s (empty_line p) d) n c.loop-shard.stages.items) (omega (arith, c.loop-shard-test.false, c.loop-shard.auto.shard-end, c.stages-shard-end.ensures)) c.loop-shard.invariant
