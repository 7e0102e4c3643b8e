use Rattle.std.proofs.Common.{◌≡◌, drop, map, take}
use Rattle.packet.specs.Readers.{readers}
use Rattle.sessions.specs.Callers.{reader_of}
use Rattle.system.proofs.starter.Starter.start_views.Given as goal

abbrev pub invariant-loop-reader : goal.invariant-loop-reader
invariant-loop-reader g l = record {
  left : l.copies.items ≡ drop l.reader (readers g.J.Naming.plan);
  shown : map reader_of l.readers.items ≡ take l.reader (readers g.J.Naming.plan);
}
