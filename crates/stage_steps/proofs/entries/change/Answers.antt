use Rattle.std.proofs.Common.{ap, sym, ◌∙◌}
use Rattle.stage_sides.specs.Kept.{kept_at}
use Rattle.stage_steps.proofs.Takes.{changed_if}
use Rattle.stage_steps.proofs.Untold.{kept_twice}
use Rattle.stage_steps.proofs.entries.change.Goals as goal

pub change-requires-clause-taken : goal.change-requires-clause-taken
change-requires-clause-taken c =
    ap (kept_at c.args.rows.now.plan c.args.side) c.kept-records.ensures ∙ (kept_twice c.args.rows.now.plan c.args.side c.args.records.items ∙ sym c.kept-records.ensures)

pub returns-clause-changed : goal.returns-clause-changed
returns-clause-changed c =
    changed_if c.args.side c.args.source c.args.records.items c.kept-records.result.items c.args.rows.now c.change.new.self c.kept-records.ensures c.change.result c.change.ensures.sources c.change.ensures.found c.change.ensures.other c.change.ensures.lefts c.change.ensures.right c.change.ensures.keys
    c.change.ensures.difference
