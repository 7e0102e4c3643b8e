use Rattle.std.proofs.Common.{◌≡◌, flat_map}
use Rattle.std.specs.List.{range_with_len}
use Rattle.packet.specs.Readers.{readers_of}
use Rattle.book.proofs.book.first_copies.Given as goal

abbrev pub invariant-loop-view : goal.invariant-loop-view
invariant-loop-view g l = l.copies.items ≡ flat_map (readers_of l.plan) (range_with_len 0 l.view)
