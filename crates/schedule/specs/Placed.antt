-- The lists that are found once of a plan.
use Rattle.std.specs.Prelude.{◌≡◌, ℕ, List, map}
use Rattle.plan.specs.Layouts.{Layout}
use Rattle.plan.specs.Domains.{edges}
use Rattle.plan.specs.declared.domain.Edge.{Edge}
use Rattle.model.specs.Places.{sources}
use Rattle.packet.specs.Readers.{readers}
use Rattle.packet.specs.declared.reader.Reader.{Reader}
use Rattle.protocol.specs.Edges.{wires}
use Rattle.schedule.specs.declared.wire.Wire.{Wire}
use Rattle.schedule.specs.Codes.{reader_in, wire_in}

-- they are the plan's
pub record AreOf (p : Layout) (bases : List ℕ) (shards : List Reader) (named : List Edge) (placed : List Wire) : Type 0 where
  pub sources : bases ≡ sources p
  pub readers : map reader_in shards ≡ readers p
  pub edges : named ≡ edges p
  pub wires : map wire_in placed ≡ wires p
