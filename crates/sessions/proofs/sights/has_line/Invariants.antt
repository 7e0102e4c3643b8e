use Rattle.std.proofs.Common.{ℕ, ◌<◌, ◌≤◌, map, slice_index_or}
use Rattle.book.specs.Fronts.{FrontView}
use Rattle.model.specs.Histories.{len_at}
use Rattle.sessions.proofs.sights.has_line.Given as goal

abbrev pub invariant-loop-source : goal.invariant-loop-source
invariant-loop-source g l = (i : ℕ) → i < l.source → slice_index_or (map (λ (f : FrontView). f.len) l.looked) i 0 ≤ len_at l.cut l.stage i
