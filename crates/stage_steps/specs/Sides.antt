-- Which side of the stage a source is of, and what a step reads of records of that side. No public
-- clause cites this.
use Rattle.std.specs.Prelude.{ℕ, ◌-◌, cond, List, [], filter, map, Option, Some, None}
use Rattle.row.specs.Bags.{sorted}
use Rattle.row.specs.Cells.{Cells, Datum, datum_cmp}
use Rattle.row.specs.declared.record.Record.{Record}
use Rattle.plan.specs.Layouts.{Layout, SideLayout, ViewLayout}
use Rattle.plan.specs.Outputs.{keys_of, pass}
use Rattle.model.specs.Places.{side_count}
use Rattle.packet.specs.Readers.{is_left}
use Rattle.ops.specs.declared.side.Side.{Side}
use Rattle.ops.specs.declared.side.Side.TheVariants.{Left, Right}

-- the side of source j
abbrev pub source_side : Layout → ℕ → Side
source_side p j = cond (is_left p j) Left Right

-- which of the right sources it is
abbrev pub right_source : Layout → ℕ → ℕ
right_source p j = j - side_count p p.left

-- of these records those of rows for which the conditions of the side hold
abbrev pub passing_of : SideLayout → List Record → List Record
passing_of side records = filter (λ (r : Record). pass side.conditions r.row) records

-- none where there is no right side
abbrev pub passing_right : Option SideLayout → List Record → List Record
passing_right None records = []
passing_right (Some side) records = passing_of side records

-- by the side
abbrev pub passing_at : Layout → Side → List Record → List Record
passing_at p Left records = passing_of p.left records
passing_at p Right records = passing_right p.right records

-- the keys that these left rows have of each view, in order and each once
abbrev pub names_of : Layout → List Cells → List (List Datum)
names_of p rows = map (λ (v : ViewLayout). sorted datum_cmp (keys_of v.key rows)) p.views
