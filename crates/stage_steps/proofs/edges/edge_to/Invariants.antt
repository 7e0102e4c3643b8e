use Rattle.std.proofs.Common.{◌≡◌, ◌+◌, ◌*◌, ◌≤◌, flat_map, length}
use Rattle.std.specs.List.{range_with_len}
use Rattle.packet.specs.Readers.{readers_of}
use Rattle.stage_steps.proofs.edges.edge_to.Given as goal

abbrev pub invariant-loop-view : goal.invariant-loop-view
invariant-loop-view l = (l.edge ≡ l.fn.reader.shard + length (flat_map (readers_of l.plan) (range_with_len 0 l.view))) × (l.edge ≤ 8 * l.view + 8)
