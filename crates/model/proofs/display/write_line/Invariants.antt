use Rattle.std.proofs.Common.{◌∷◌, take, flat_map}
use Rattle.std.specs.Fmt.{HasWritten, IsPlainFormatter, decimal}
use Rattle.model.proofs.display.write_line.Given as goal

abbrev pub invariant-loop-length : goal.invariant-loop-length
invariant-loop-length g l =
    IsPlainFormatter l.initial.f → HasWritten g.W.Write.write_str_gives l.initial.f (flat_map (λ n. 44 ∷ decimal n) (take l.length-index l.others)) l.f
