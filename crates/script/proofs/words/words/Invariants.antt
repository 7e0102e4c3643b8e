use Rattle.std.proofs.Common.{◌≡◌, [], length}
use Rattle.script.specs.Machine.{scan, gives}
use Rattle.script.specs.declared.words.Place.TheVariants.{Between}
use Rattle.script.proofs.words.words.Given as goal

-- what the reader gives of the rest is what the machine gives of the line
abbrev pub invariant-loop-rest : goal.invariant-loop-rest
invariant-loop-rest l = gives l.reader l.rest ≡ scan l.line Between []

abbrev pub decreases-loop-rest : goal.decreases-loop-rest
decreases-loop-rest l = length l.rest
