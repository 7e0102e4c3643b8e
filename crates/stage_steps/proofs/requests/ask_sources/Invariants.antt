use Rattle.std.proofs.Common.{◌≡◌, ◌≤◌, length, map}
use Rattle.std.specs.List.{range_with_len}
use Rattle.row.specs.Cells.{datum_of}
use Rattle.model.specs.Places.{side_count}
use Rattle.packet.specs.Outboxes.{packets_on}
use Rattle.protocol.specs.StageSteps.{append_each}
use Rattle.stage_steps.proofs.Asks.{asked_of}
use Rattle.stage_steps.proofs.requests.ask_sources.Given as goal

abbrev pub invariant-loop-source : goal.invariant-loop-source
invariant-loop-source g l = record {
  packets : l.out.packets ≡ l.fn.out.packets;
  sources : length l.out.requests ≡ length l.fn.out.requests;
  low : side_count l.plan l.plan.left ≤ l.source;
  high : l.source ≤ length l.fn.out.requests;
  asked : packets_on l.out.requests ≡ append_each (packets_on l.fn.out.requests) (map (asked_of l.plan (datum_of l.key)) (range_with_len 0 l.source));
}
