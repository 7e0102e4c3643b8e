-- All domains over plain lists, as a value that others hold.
use Rattle.std.specs.Prelude.{Bool, List}
use Rattle.model.specs.Fronts.{LogView}
use Rattle.model.specs.Histories.{Author}
use Rattle.model.specs.Lists.{ListView}
use Rattle.protocol.specs.Worlds.{World}
use Rattle.machine.specs.Held.{Held, world_of}

-- all domains and edges, and whether a step was cut short: then nothing is said of them
pub record WorldView : Type 0 where
  pub state : Held ListView
  pub broken : Bool

-- what a list says, and who wrote it
abbrev pub log_of : ListView → LogView
log_of l = l.log

abbrev pub authors_of : ListView → List Author
authors_of l = l.authors

-- the world of the protocol that it is
abbrev pub world_in : WorldView → World
world_in w = world_of log_of authors_of w.state
