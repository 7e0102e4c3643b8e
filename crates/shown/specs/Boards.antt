-- What a clause reads of the writer of a shown copy.
use Rattle.std.specs.Prelude.{List, drop}
use Rattle.left_right.specs.Sides.{view}
use Rattle.left_right.specs.declared.Absorb.{Ghosts}
use Rattle.left_right.specs.declared.writer.Writer.{Writer}
use Rattle.shown.specs.declared.writer.Board.{Board}

-- what readers see, the deltas that they do not see yet, and what the writer has seen of what is shown
pub record State (T O V : Type 0) : Type 0 where
  pub shown : T
  pub pending : List O
  pub sight : V

module _ {T O V P A S : Type 0} {g : Ghosts T O S} where
  -- the state of a writer
  abbrev pub state_by : Writer T O V P A S g → State T O V
  state_by w = record { shown = w.desk.shown.value; pending = drop w.behind w.log.items; sight = view w.desk.place }

-- the same of a writer that may be dropped
module _ {T O V P R S : Type 0} {g : Ghosts T O S} where
  abbrev pub state : Board T O V P R S g → State T O V
  state w = state_by w.writer

  abbrev pub shown : Board T O V P R S g → T
  shown w = (state w).shown

  abbrev pub pending : Board T O V P R S g → List O
  pending w = (state w).pending
