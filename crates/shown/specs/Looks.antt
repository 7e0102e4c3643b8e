-- What a look found.
use Rattle.std.specs.Prelude.{◌≡◌, List, Option, Some}
use Rattle.row.specs.Cells.{Datum, Cells}
use Rattle.plan.specs.Layouts.{Layout}
use Rattle.book.specs.Sessions.{CutView, fronts}
use Rattle.shown.specs.Snapshots.{Snapshot, shown_at}

-- a hit: the key is shown with these rows, and the cut is that over which they are shown
pub record IsHit (p : Layout) (seen : Snapshot) (k : Datum) (rs : List Cells) (cut : Option CutView) : Type 0 where
  pub rows : shown_at seen.rows k ≡ Some rs
  pub over : CutView
  pub there : cut ≡ Some over
  pub lengths : over.lengths ≡ seen.lengths
  pub fronts : fronts p over ≡ seen.cut
