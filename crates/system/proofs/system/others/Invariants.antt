use Rattle.std.proofs.Common.{◌≡◌, map, take}
use Rattle.sessions.specs.Callers.{reader_of}
use Rattle.system.proofs.system.others.Given as goal

abbrev pub invariant-loop-reader : goal.invariant-loop-reader
invariant-loop-reader g l = map reader_of l.all.items ≡ map reader_of (take l.reader-index l.readers)
