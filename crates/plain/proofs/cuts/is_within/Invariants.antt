use Rattle.std.proofs.Common.{ℕ, ◌<◌, [], slice_index_or}
use Rattle.model.specs.Items.{history_of}
use Rattle.plain.specs.Tells.{IsLineWithin}
use Rattle.plain.proofs.cuts.is_within.Given as goal

abbrev pub invariant-loop-stage : goal.invariant-loop-stage
invariant-loop-stage l = (s : ℕ) → s < l.stage → IsLineWithin l.plan (history_of l.items) (slice_index_or l.cut s [])
