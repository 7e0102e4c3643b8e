use Rattle.std.proofs.Common.{◌≡◌, ◌∙◌, true, sym, rules}
use Rattle.row.specs.Groups.{equal}
use Rattle.row.proofs.Keys.{equal_is}
use Rattle.view_domain.proofs.PartSteps.{all_of, each_more}
use Rattle.view_domain.proofs.parts.only_key.Goals as goal

pub loop-keyed-preserved : goal.loop-keyed-preserved
loop-keyed-preserved c =
    let alike : equal c.key.result.now c.key-in-loop-keyed.result.now ≡ true = search rules in
    each_more c.in-Some.first.now.key c.args.changes.now c.loop-keyed.keyed-index c.keyed-item.result c.loop-keyed-test.true c.keyed-item.is c.loop-keyed.invariant
    (sym c.key.ensures ∙ (equal_is c.key.result.now c.key-in-loop-keyed.result.now alike ∙ c.key-in-loop-keyed.ensures))

pub returns : goal.returns
returns c =
    all_of c.in-Some.first.now.key _ c.args.changes.now c.loop-keyed.keyed-index c.in-Some.first.now c.loop-keyed-test.false c.loop-keyed.invariant
    (sym (c.in_ok-try_clone.ensures ∙ c.key-2.ensures)) c.in-Some.ensures.value
