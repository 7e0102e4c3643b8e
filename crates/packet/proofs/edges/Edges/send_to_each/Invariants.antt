use Rattle.std.proofs.Common.{◌≡◌, List, ◌++◌, length}
use Rattle.packet.proofs.Sends.{Filled}
use Rattle.packet.proofs.edges.Edges.send_to_each.Given as goal

abbrev pub invariant-loop-packet : goal.invariant-loop-packet
invariant-loop-packet g l = (done : List g.row.P.Denot) × (done ++ l.packet-iterator.rest.items ≡ l.fn.packets.items) × (l.edge ≡ length done) × Filled done l.self × (length l.self ≡ length l.fn.self)
