use Rattle.std.proofs.Common.{◌≡◌, take}
use Rattle.machine.proofs.Acks.{cut_is}
use Rattle.machine.proofs.views.cut_lengths.Given as goal

abbrev pub invariant-loop-line : goal.invariant-loop-line
invariant-loop-line g l = record { cut : l.cut ≡ cut_is (take l.line-index l.line-items) }
