use Rattle.std.proofs.Common.{arith}
use Rattle.row.proofs.Cellwise.{copied_more}
use Rattle.model.proofs.blocks.with_one_more.Goals as goal

pub loop-shared-preserved : goal.loop-shared-preserved
loop-shared-preserved g c =
    let i = c.loop-shared.invariant in
    let x = c.shared-item.result in
    let y = c.in_ok-clone.field-0 in
    let same = c.in_ok-clone.ensures.cases in
    let items = c.in_ok-push.ensures.items in
    let all = c.deref-shared-items.result.now in
    let lt = c.loop-shared-test.true in
    rw items (record {
      items = i.items;
      within = omega (arith, lt);
      values = copied_more (λ p. p.value) all c.loop-shared.more.items c.loop-shared.shared-index x y lt c.shared-item.is same i.values;
    })
