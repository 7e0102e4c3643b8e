use Rattle.std.proofs.Common.{ℕ, ◌<◌, ◌≤◌, length, map, slice_index_or}
use Rattle.book.specs.Fronts.{FrontView}
use Rattle.model.specs.Histories.{len_at}
use Rattle.sessions.proofs.sights.has_all.Given as goal

abbrev pub invariant-loop-stage : goal.invariant-loop-stage
invariant-loop-stage g l = (s i : ℕ) → s < l.stage → i < length l.looked → slice_index_or (map (λ (f : FrontView). f.len) l.looked) i 0 ≤ len_at l.cut s i
