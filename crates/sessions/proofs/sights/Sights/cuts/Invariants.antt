use Rattle.std.proofs.Common.{◌≡◌, map, take}
use Rattle.row.specs.Bags.{Each}
use Rattle.model.specs.Tables.{IsTable}
use Rattle.packet.specs.Readers.{readers}
use Rattle.sessions.specs.Callers.{AreLater, reader_of}
use Rattle.sessions.specs.Sights.{IsCut}
use Rattle.sessions.proofs.sights.Sights.cuts.Given as goal

abbrev pub invariant-loop-place : goal.invariant-loop-place
invariant-loop-place g l = record {
  later : AreLater l.fn.self l.self;
  shards : map reader_of l.self ≡ readers g.J.Naming.plan;
  table : IsTable g.J.Naming.plan l.cuts.floors;
  cuts : Each (IsCut g.J.Naming.plan l.looked l.cuts) (take l.place l.self);
}
