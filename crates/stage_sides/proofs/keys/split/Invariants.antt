use Rattle.row.specs.Bags.{Each}
use Rattle.row.specs.Cells.{cell_at}
use Rattle.row.specs.declared.record.Record.{Record}
use Rattle.stage_sides.specs.Sides.{IsNamed, is_filled_at}
use Rattle.stage_sides.proofs.HeldSteps.{IsSplit}
use Rattle.stage_sides.proofs.keys.split.Given as goal

abbrev pub invariant-loop-record : goal.invariant-loop-record
invariant-loop-record l = IsSplit (λ (r : Record). is_filled_at l.stage.right r.row) l.yielded l.known.items l.others.items × Each (λ (r : Record). IsNamed (cell_at r.row l.stage.right.column)) l.known.items
