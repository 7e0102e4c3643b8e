use Rattle.std.proofs.Common.{◌≡◌, take}
use Rattle.packet.specs.Joined.{at_most}
use Rattle.packet.specs.Lines.{lengths_of}
use Rattle.packet.proofs.stage_packet.keep_within.Given as goal

abbrev pub invariant-loop-source : goal.invariant-loop-source
invariant-loop-source g l = l.counts ≡ at_most l.fn.counts (take l.source (lengths_of l.line))
