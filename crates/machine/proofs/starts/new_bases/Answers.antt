use Rattle.std.proofs.Common.{◌<◌, sym, ◌∙◌, subst, arith}
use Rattle.packet.proofs.Sends.{none_left}
use Rattle.machine.specs.Held.{Are}
use Rattle.machine.specs.Started.{IsNewBase}
use Rattle.machine.proofs.Starting.{next_one, are_more, all_taken}
use Rattle.machine.proofs.starts.new_bases.Goals as goal
use Rattle.protocol.proofs.Within.{not_past}

pub new_base-requires-clause-there : goal.new_base-requires-clause-there
new_base-requires-clause-there g c =
    let at = next_one c.args.rights.items c.loop-right.base c.in-Some.right c.next.new.self.rest.items (c.loop-right.invariant.left ∙ c.in-Some.ensures.steps.0) in
    subst (λ n. c.loop-right.base < n) c.requires.size (not_past c.args.rights.items c.loop-right.base c.in-Some.right at.0)

pub new_base-requires-clause-first : goal.new_base-requires-clause-first
new_base-requires-clause-first g c =
    let at = next_one c.args.rights.items c.loop-right.base c.in-Some.right c.next.new.self.rest.items (c.loop-right.invariant.left ∙ c.in-Some.ensures.steps.0) in
    c.requires.each c.loop-right.base c.in-Some.right at.0

pub loop-right-preserved : goal.loop-right-preserved
loop-right-preserved g c =
    let i = c.loop-right.invariant in
    let at = next_one c.args.rights.items c.loop-right.base c.in-Some.right c.next.new.self.rest.items (i.left ∙ c.in-Some.ensures.steps.0) in
    let lt = not_past c.args.rights.items c.loop-right.base c.in-Some.right at.0 in
    record {
      left = at.1;
      within = omega (arith, lt);
      made = are_more (IsNewBase g.F.Fronts.log g.F.Fronts.authors c.args.plan.now) c.loop-right.base c.loop-right.bases.items c.push.new.self.items c.in_ok-new_base.field-0 i.made c.in_ok-new_base.ensures c.in_ok-push.ensures.items;
    }

pub returns : goal.returns
returns g c =
    let i = c.loop-right.invariant in
    let none = none_left c.loop-right.right-iterator.rest.items (sym (c.loop-right.right-iterator.rest.ok.0) ∙ c.in-None.ensures.steps.0) in
    subst (λ n. Are (IsNewBase g.F.Fronts.log g.F.Fronts.authors c.args.plan.now) n c.loop-right.bases.items) (all_taken c.args.rights.items c.loop-right.base (i.left ∙ none) i.within ∙ c.requires.size) i.made
