use Rattle.std.proofs.Common.{◌≡◌, [], slice_index_or, slice_set}
use Rattle.model.proofs.Copies.{mixed}
use Rattle.model.proofs.lengths.Lengths.overwrite_line.Given as goal

-- the first numbers of the line are the new ones
abbrev pub invariant-loop-source : goal.invariant-loop-source
invariant-loop-source l = l.self ≡ slice_set l.initial.self l.stage (mixed l.source l.line (slice_index_or l.initial.self l.stage []))
