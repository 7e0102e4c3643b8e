-- What is known of the rows of a stage shard, and what records of a side make of them. No public
-- clause cites this.
use Rattle.std.specs.Prelude.{◌≡◌, ℕ, false, filter, List, []}
use Rattle.row.specs.Bags.{IsAscending}
use Rattle.row.specs.Cells.{Datum, datum_of, has, row_cmp}
use Rattle.row.specs.Changes.{Turns}
use Rattle.row.specs.declared.record.Record.{Record}
use Rattle.row.specs.declared.value.Value.{Value}
use Rattle.ops.specs.SideRows.{is_here}
use Rattle.ops.specs.Stages.{right_key}
use Rattle.ops.specs.declared.side.Side.{Side}
use Rattle.ops.specs.declared.side.Side.TheVariants.{Left, Right}
use Rattle.right_rows.specs.Rights.{keys_in, state_in}
use Rattle.stage_sides.specs.Held.{AreFound, Held, IsOtherSide, output_over, turned_right}
use Rattle.stage_sides.specs.Kept.{kept_at}
use Rattle.stage_sides.specs.Sides.{is_known}

-- what is seen of what is held: the left rows in order, the right ones by the stage key, and none of a key that is not here
pub record IsSeen (h : Held) : Type 0 where
  pub up : IsAscending row_cmp h.lefts
  pub column : h.right.column ≡ right_key h.plan.right
  pub known : (k : Datum) → is_here h.right k ≡ is_known k (keys_in h.right)
  pub apart : (k : Value) → is_here h.right (datum_of k) ≡ false → filter (has h.right.column (datum_of k)) h.right.rows ≡ []

-- records of a side change what is held, and the output by these
pub record IsChanged (side : Side) (own : ℕ) (rs : List Record) (old new : Held) (records : List Record) : Type 0 where
  pub found : AreFound new
  pub other : IsOtherSide side old new
  pub sources : new.right.sources ≡ old.right.sources
  pub lefts : side ≡ Left → Turns old.lefts (kept_at old.plan side rs) new.lefts
  pub right : side ≡ Right → (k : Value) → state_in new.right (datum_of k) ≡ turned_right own (kept_at old.plan side rs) (datum_of k) old.right
  pub keys : keys_in new.right ≡ keys_in old.right
  pub difference : Turns (output_over old) records (output_over new)
