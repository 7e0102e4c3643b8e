-- Lists of entries that copies share.
use Rattle.std.specs.Prelude.{List, map}
use Rattle.model.specs.Entries.{change_of}
use Rattle.model.specs.Fronts.{LogView}
use Rattle.model.specs.Histories.{Author}
use Rattle.model.specs.Logs.{Change}
use Rattle.model.specs.declared.list.Logged.{Logged}

-- a log, and the authors of its entries
pub record ListView : Type 0 where
  pub log : LogView
  pub authors : List Author

-- the entries of a list, and who wrote them
abbrev pub changes_of : List Logged → List Change
changes_of entries = map (λ (l : Logged). change_of l.entry) entries

abbrev pub authors_of : List Logged → List Author
authors_of entries = map (λ (l : Logged). record { session = l.session; number = l.number }) entries
