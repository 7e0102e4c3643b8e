use Rattle.std.proofs.Common.{◌≡◌, filter, map, take}
use Rattle.row.specs.Cells.{datum_of}
use Rattle.stage_steps.proofs.Words.{keyed_by, told_by}
use Rattle.stage_steps.proofs.keyed.keyed_for.Given as goal

abbrev pub invariant-loop-record : goal.invariant-loop-record
invariant-loop-record l = l.all.items ≡ map (keyed_by l.column l.shards l.shard (map datum_of l.evicts)) (filter (told_by l.column l.shards l.shard (map datum_of l.evicts)) (take l.record-index l.records))
