use Rattle.std.proofs.Common.{◌≡◌, filter, map, take}
use Rattle.row.specs.Cells.{datum_of}
use Rattle.packet.specs.Readers.{is_of}
use Rattle.stage_steps.proofs.packets.of_shard.Given as goal

abbrev pub invariant-loop-key : goal.invariant-loop-key
invariant-loop-key l = map datum_of l.own.items ≡ filter (λ k. is_of l.plan l.reader.view k (record { view = l.reader.view; shard = l.reader.shard })) (map datum_of (take l.key-index l.keys))
