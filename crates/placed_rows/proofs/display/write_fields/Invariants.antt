use Rattle.std.proofs.Common.{◌∷◌, ◌-◌, ◌≤◌, take, drop, flat_map}
use Rattle.std.specs.Fmt.{HasWritten, IsPlainFormatter}
use Rattle.row.specs.Printed.{printed}
use Rattle.placed_rows.proofs.display.write_fields.Given as goal

abbrev pub invariant-loop-at : goal.invariant-loop-at
invariant-loop-at g l =
    (1 ≤ l.at) × (IsPlainFormatter l.initial.f → HasWritten g.W.Write.write_str_gives l.initial.f (flat_map (λ d. 32 ∷ printed d) (take (l.at - 1) (drop 1 l.row))) l.f)
