-- The program's items as those of the definitions.
use Rattle.std.specs.Prelude.{List, map}
use Rattle.row.specs.Cells.{datum_of}
use Rattle.model.specs.Entries.{change_of}
use Rattle.model.specs.Tables.{places_of}
use Rattle.model.specs.Histories.{Item as HistoryItem, write, read, fence}
use Rattle.model.specs.declared.item.Item.{Item}
use Rattle.model.specs.declared.item.Item.TheVariants as code

abbrev pub item_of : Item → HistoryItem
item_of (code.Write w) = write w.session w.number w.base (change_of w.entry)
item_of (code.Read r) = read r.session r.view (datum_of r.key) r.rows.items r.cut
item_of (code.Fence f) = fence f.session (places_of f.own.items) f.floors

-- the history that a list of items is
abbrev pub history_of : List Item → List HistoryItem
history_of items = map item_of items
