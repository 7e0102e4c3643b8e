use Rattle.std.proofs.Common.{◌≡◌, map, flat_map}
use Rattle.std.specs.List.{range_with_len}
use Rattle.packet.specs.Codes.{mark_in}
use Rattle.packet.specs.Lines.{entries_of}
use Rattle.packet.specs.Readers.{readers_of}
use Rattle.stage_steps.specs.Told.{names_in, told_if}
use Rattle.stage_steps.proofs.packets.packets.Given as goal

abbrev pub invariant-loop-view : goal.invariant-loop-view
invariant-loop-view g l = l.all.items ≡ map (told_if l.each l.news.plan.now l.news.stage (entries_of l.news.from.now) (entries_of l.news.to.now) l.news.records.now (names_in l.news.names.now) (mark_in l.news.marker)) (flat_map (readers_of l.news.plan.now) (range_with_len 0 l.view))
