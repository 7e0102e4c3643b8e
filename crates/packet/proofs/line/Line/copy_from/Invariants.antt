use Rattle.std.proofs.Common.{◌≡◌, take, length}
use Rattle.packet.proofs.line.Line.copy_from.Given as goal

abbrev pub invariant-loop-source : goal.invariant-loop-source
invariant-loop-source g l = record {
  copied : take l.source l.self ≡ take l.source l.other;
  sources : length l.self ≡ length l.other;
}
