use Rattle.std.proofs.Common.{◌-◌, ◌<◌, ◌∙◌, ap, below_more, arith, length}
use Rattle.plan.specs.Layouts.{TableLayout}
use Rattle.model.proofs.Sources.{IsFound, found, not_found}
use Rattle.model.proofs.places.place_of.Goals as goal
use Rattle.model.proofs.places.place_of.Goals.{else-before-base-via-then-before-base+else-base-before, else-before-base-via-else-before-base}

pub returns-then-base-before : goal.returns-then-base-before
returns-then-base-before c =
    let p = c.args.plan.now in
    let t = c.loop-table.table in
    let there : t < length p.tables = omega (arith, c.tables-table-end.ensures.count, c.loop-table-test.true) in
    let shards = c.shards.ensures ∙ ap (λ (t : TableLayout). t.shards) c.table.ensures.table in
    let before = c.shards_before-before.ensures.count in
    let at : IsFound p t c.args.base = found p t c.args.base there (record { least = omega (arith, before, c.if-before-base.true); most = omega (arith, before, shards, c.if-base-before.true) }) in
    record { there = at.there; range = there; table = at.table; shard = ap (λ n. c.args.base - n) before ∙ at.shard }

pub loop-table-preserved : goal.loop-table-preserved
loop-table-preserved c =
    below_more _ _ c.loop-table.invariant (λ is.
    elim c.else-before-base.branch [
      | else-before-base-via-then-before-base+else-base-before w ↦
          (let shards = w.shards.ensures ∙ ap (λ (t : TableLayout). t.shards) w.table.ensures.table in
          omega (arith, is.most, c.shards_before-before.ensures.count, shards, w.if-base-before.false))
      | else-before-base-via-else-before-base w ↦ omega (arith, is.least, c.shards_before-before.ensures.count)
    ])

pub returns : goal.returns
returns c = not_found c.args.plan.now c.args.base (λ t lt. c.loop-table.invariant t (omega (arith, c.tables-table-end.ensures.count, c.loop-table-test.false)))
