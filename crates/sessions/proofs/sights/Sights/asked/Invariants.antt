use Rattle.std.proofs.Common.{◌≡◌, map, min, take}
use Rattle.packet.specs.Readers.{readers}
use Rattle.protocol.specs.Bases.{last_number}
use Rattle.sessions.specs.Callers.{AreLater, reader_of}
use Rattle.sessions.specs.Counts.{asked_of}
use Rattle.sessions.proofs.sights.Sights.asked.Given as goal

abbrev pub invariant-loop-place : goal.invariant-loop-place
invariant-loop-place g l = record {
  later : AreLater l.fn.self l.self;
  shards : map reader_of l.self ≡ readers g.J.Naming.plan;
  sum : l.sum ≡ min (asked_of l.view (take l.place l.self)) last_number;
}
