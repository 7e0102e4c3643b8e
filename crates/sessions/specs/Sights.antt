-- What is found at a look, and the cuts that a fence floors at. No public clause cites this.
use Rattle.std.specs.Prelude.{◌≡◌, ℕ, ◌<◌, ◌≤◌, List, Option, length, map, slice_get, slice_index_or, slice_set, Some}
use Rattle.row.specs.Cells.{Datum, Cells}
use Rattle.plan.specs.Layouts.{Layout}
use Rattle.model.specs.Histories.{Item, Lengths, len_at, floor_at, log_of, view_shard}
use Rattle.model.specs.Cuts.{IsAtMost}
use Rattle.model.specs.Queries.{answer}
use Rattle.book.specs.Fronts.{FrontView}
use Rattle.book.specs.Sessions.{CutView, FloorsView, fronts}
use Rattle.shown.specs.Snapshots.{Snapshot, IsLater, shown_at}
use Rattle.sessions.specs.Callers.{IsSight, whole_cut}

-- the key is shown with these rows over this cut
pub record Finds (p : Layout) (shown : List Snapshot) (v : ℕ) (k : Datum) (rs : List Cells) (c : CutView) : Type 0 where
  pub sight : Snapshot
  pub is : IsSight shown v (view_shard p v k) sight
  pub rows : shown_at sight.rows k ≡ Some rs
  pub answers : rs ≡ answer p sight.cut v k
  pub cut : c.lengths ≡ sight.lengths
  pub fronts : fronts p c ≡ sight.cut

-- there is a cut over which the key is shown with these rows
pub record FindsOver (p : Layout) (shown : List Snapshot) (v : ℕ) (k : Datum) (rs : List Cells) (cut : Option CutView) : Type 0 where
  pub over : CutView
  pub there : cut ≡ Some over
  pub finds : Finds p shown v k rs over

-- the front has all that the history has of its log
abbrev pub IsCovering : List Item → FrontView → Type 0
IsCovering h f = length (log_of f.base h) ≤ f.len

-- for each stage shard the cut has no less of each source than the fronts
abbrev pub HasAll : Layout → List FrontView → Lengths → Type 0
HasAll p fs c = (s i : ℕ) → s < p.stages → i < length fs → slice_index_or (map (λ (f : FrontView). f.len) fs) i 0 ≤ len_at c s i

-- the cut of a view shard is what is shown there, which was reached, and has all of the fronts
pub record IsCut (p : Layout) (fs : List FrontView) (cuts : FloorsView) (s : Snapshot) : Type 0 where
  pub floor : floor_at cuts.floors s.view s.shard ≡ s.lengths
  pub reached : IsAtMost s.lengths (whole_cut p cuts.seen)
  pub all : HasAll p fs s.lengths

-- the snapshot at a place became one over no smaller cut, which is this one and was reached
pub record IsCutAt (old new : List Snapshot) (n : ℕ) (c : CutView) : Type 0 where
  pub was : Snapshot
  pub is : Snapshot
  pub there : slice_get old n ≡ Some was
  pub later : IsLater was is
  pub set : new ≡ slice_set old n is
  pub cut : c.lengths ≡ is.lengths
