use Rattle.std.proofs.Common.{◌≡◌, List, Option, ◌++◌, length, map}
use Rattle.packet.specs.Messages.{StagePacketView}
use Rattle.packet.specs.Outboxes.{packets_on}
use Rattle.protocol.specs.StageSteps.{append_each}
use Rattle.stage_steps.specs.Told.{perhaps}
use Rattle.stage_steps.proofs.outbox.StageOutbox.tell.Given as goal

abbrev pub invariant-loop-packet : goal.invariant-loop-packet
invariant-loop-packet g l = (done : List (Option StagePacketView)) × (done ++ l.packet-iterator.rest.items ≡ l.fn.packets.items) × (l.reader ≡ length done) × (packets_on l.self.packets ≡ append_each (packets_on l.fn.self.packets) (map perhaps done))
    × (length l.self.packets ≡ length l.fn.self.packets) × (l.self.requests ≡ l.fn.self.requests)
