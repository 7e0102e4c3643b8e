use Rattle.std.proofs.Common.{◌∷◌, ◌-◌, ◌≤◌, take, drop, flat_map}
use Rattle.std.specs.Fmt.{HasWritten, IsPlainFormatter}
use Rattle.model.specs.Printed.{printed_line}
use Rattle.model.proofs.display.LengthsDisplay.fmt.Given as goal

abbrev pub invariant-loop-stage : goal.invariant-loop-stage
invariant-loop-stage g l =
    (1 ≤ l.stage) × (IsPlainFormatter l.initial.f → HasWritten g.W.Write.write_str_gives l.initial.f (flat_map (λ line. 47 ∷ printed_line line) (take (l.stage - 1) (drop 1 l.self))) l.f)
