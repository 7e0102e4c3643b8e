use Rattle.protocol.proofs.PlanEdges as edges
use Rattle.protocol.proofs.every_edge.Goals as goal

pub returns : goal.returns
returns c = record { wires = edges.every_edge; places = edges.every_place }
