use Rattle.std.proofs.Common.{◌≡◌, flat_map, map}
use Rattle.std.specs.List.{range_with_len}
use Rattle.packet.specs.Readers.{readers_of}
use Rattle.schedule.specs.Codes.{reader_in}
use Rattle.schedule.proofs.readers.readers.Given as goal

abbrev pub invariant-loop-view : goal.invariant-loop-view
invariant-loop-view l = map reader_in l.out.items ≡ flat_map (readers_of l.plan) (range_with_len 0 l.view)
