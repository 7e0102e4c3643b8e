use Rattle.std.proofs.Common.{◌≡◌, ◌++◌, map}
use Rattle.std.specs.List.{range_with_len}
use Rattle.packet.specs.Codes.{mark_in}
use Rattle.packet.specs.Lines.{entries_of}
use Rattle.stage_steps.specs.Told.{names_in, told_if}
use Rattle.stage_steps.proofs.packets.push_view.Given as goal

abbrev pub invariant-loop-shard : goal.invariant-loop-shard
invariant-loop-shard g l = l.all.items ≡ l.fn.all.items ++ map (told_if l.each l.news.plan.now l.news.stage (entries_of l.news.from.now) (entries_of l.news.to.now) l.news.records.now (names_in l.news.names.now) (mark_in l.news.marker)) (map (λ j. record { view = l.view; shard = j }) (range_with_len 0 l.shard))
