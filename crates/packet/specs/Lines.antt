-- A line as its fronts tell of it.
use Rattle.std.specs.Prelude.{◌≡◌, ℕ, List, [], ◌∷◌, map, length, take, None, slice_index_or}
use Rattle.plan.specs.Layouts.{Layout}
use Rattle.model.specs.Fronts.{LogView}
use Rattle.model.specs.Places.{sources}
use Rattle.model.specs.Queries.{Line}
use Rattle.packet.specs.Truth.{Pointwise}

-- what stands past the end of a list
abbrev pub no_plan : Layout
no_plan = record { tables = []; stages = 0; left = record { table = 0; key = 0; conditions = [] }; right = None; aggregate = None; cap = 0; views = [] }

abbrev pub no_log : LogView
no_log = record { plan = no_plan; base = 0; entries = [] }

-- the empty log of base shard b, and that of each source
abbrev pub empty_log : Layout → ℕ → LogView
empty_log p b = record { plan = p; base = b; entries = [] }

abbrev pub empty_line : Layout → List LogView
empty_line p = map (empty_log p) (sources p)

-- the fronts of the line
abbrev pub entries_of : List LogView → Line
entries_of line = map (λ (l : LogView). l.entries) line

-- how many entries each has
abbrev pub lengths_of : List LogView → List ℕ
lengths_of line = map (λ (l : LogView). length l.entries) line

-- the plan that they are of
abbrev pub plan_of : List LogView → Layout
plan_of line = (slice_index_or line 0 no_log).plan

-- the first so many entries of each
abbrev pub fronts_to : List ℕ → Line → Line
fronts_to [] line = []
fronts_to (n ∷ ns) [] = []
fronts_to (n ∷ ns) (front ∷ line) = take n front ∷ fronts_to ns line

-- the front is of the plan, and of this base shard
pub record IsOf (p : Layout) (b : ℕ) (l : LogView) : Type 0 where
  pub plan : l.plan ≡ p
  pub base : l.base ≡ b

-- the line has a front of each source of the plan
abbrev pub AreOf : Layout → List LogView → Type 0
AreOf p line = Pointwise (IsOf p) (sources p) line
