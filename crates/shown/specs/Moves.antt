-- A new line of a stage shard.
use Rattle.std.specs.Prelude.{ℕ, List}
use Rattle.model.specs.Fronts.{LogView}

-- a stage shard and its new line
pub record MovedView : Type 0 where
  pub stage : ℕ
  pub line : List LogView
