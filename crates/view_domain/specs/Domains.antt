-- A view domain: what it holds is the truth over its cut.
use Rattle.std.specs.Prelude.{◌≡◌, ◌<◌, ℕ, List, [], map, length, replicate}
use Rattle.row.specs.Bags.{Each}
use Rattle.row.specs.Cells.{Cells, datum_of}
use Rattle.row.specs.Groups.{equal}
use Rattle.row.specs.declared.value.Value.{Value}
use Rattle.plan.specs.Layouts.{Layout}
use Rattle.model.specs.Fronts.{LogView}
use Rattle.model.specs.Histories.{view_shard}
use Rattle.model.specs.Queries.{Line}
use Rattle.partial.specs.States.{Kept, state_of}
use Rattle.partial.specs.Sums.{sum_of_bags}
use Rattle.partial.specs.Truth.{IsTrueOf}
use Rattle.packet.specs.Keys.{stands_of}
use Rattle.packet.specs.Lines.{AreOf, empty_line, entries_of}
use Rattle.packet.specs.Readers.{Reader}
use Rattle.packet.specs.Marks.{MarksView, complete}
use Rattle.packet.specs.Truth.{view_shares}
use Rattle.packet.specs.declared.mode.Mode.{Mode}
use Rattle.packet.specs.declared.mode.Mode.TheVariants as mode
use Rattle.protocol.specs.Views.{View}

-- the plan, its view and shard, a line for each stage shard, what it keeps of keys, how many requests it has sent, the markers that have not come from all stage shards, and whether it goes on
pub record Domain : Type 0 where
  pub plan : Layout
  pub view : ℕ
  pub shard : ℕ
  pub cut : List (List LogView)
  pub kept : Kept Value (List Cells)
  pub asked : ℕ
  pub marks : MarksView
  pub mode : Mode

-- the domain of these parts
abbrev pub domain_of : Layout → ℕ → ℕ → List (List LogView) → Kept Value (List Cells) → ℕ → MarksView → Mode → Domain
domain_of plan view shard cut kept asked marks m =
    record { plan = plan; view = view; shard = shard; cut = cut; kept = kept; asked = asked; marks = marks; mode = m }

-- a shard of a view over empty logs, with no key filled
abbrev pub new_view : Layout → Reader → Domain
new_view p r = record {
  plan = p;
  view = r.view;
  shard = r.shard;
  cut = replicate p.stages (empty_line p);
  kept = record { sources = p.stages; filled = []; waiting = [] };
  asked = 0;
  marks = record { senders = p.stages; waiting = [] };
  mode = mode.Running;
}

-- the fronts of a cut
abbrev pub lines_of : List (List LogView) → List Line
lines_of cut = map entries_of cut

-- each filled key of its shard has its answer over the cut, and each piece is its stage shard's part
pub record HoldsTruth (d : Domain) : Type 0 where
  pub keys : (k : Value) → view_shard d.plan d.view (datum_of k) ≡ d.shard → IsTrueOf sum_of_bags (view_shares d.plan d.view (datum_of k) (lines_of d.cut)) (state_of equal d.kept k)
  pub place : d.view < length d.plan.views
  pub sources : d.kept.sources ≡ d.plan.stages
  pub senders : d.marks.senders ≡ d.plan.stages
  pub waiting : complete d.marks.waiting ≡ []
  pub stages : length d.cut ≡ d.plan.stages
  pub of : Each (AreOf d.plan) d.cut

-- as far as keys go
abbrev pub view_of : Domain → View
view_of d = record { plan = d.plan; view = d.view; shard = d.shard; cut = lines_of d.cut; keys = stands_of d.kept; asked = d.asked; marks = d.marks.waiting }

-- it has stopped; what it holds stays
abbrev pub stopped : Domain → Domain
stopped d = record d { mode = mode.Stopped }
