-- Edges of one kind. No public clause cites this.
use Rattle.std.specs.Prelude.{ℕ, List, map}
use Rattle.std.specs.List.{range_with_len}
use Rattle.protocol.specs.Edges.{Wire, to_stage_from, to_view_from, to_stage_back, to_base_back}
use Rattle.schedule.specs.declared.wire.Way.{Way}
use Rattle.schedule.specs.declared.wire.Way.TheVariants as way

-- the edge of a kind between domains at two places
abbrev pub wire_on : Way → ℕ → ℕ → Wire
wire_on way.FromSource = to_stage_from
wire_on way.FromStage = to_view_from
wire_on way.AskStage = to_stage_back
wire_on way.AskSource = to_base_back

-- from one place to each of the first ones
abbrev pub wires_on : Way → ℕ → ℕ → List Wire
wires_on w from to = map (wire_on w from) (range_with_len 0 to)
